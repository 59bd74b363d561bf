pub mod Texts
pub mod Examples
