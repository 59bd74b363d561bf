pub mod Utf8
pub mod Strings
pub mod Steps
pub mod Examples
