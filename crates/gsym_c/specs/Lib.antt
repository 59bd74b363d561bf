pub mod Laid
pub mod Examples
