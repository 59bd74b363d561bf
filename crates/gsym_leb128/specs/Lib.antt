pub mod Leb
pub mod Answers
pub mod Examples
pub mod Begun
