pub mod LineTexts
pub mod Addresses
pub mod Plain
