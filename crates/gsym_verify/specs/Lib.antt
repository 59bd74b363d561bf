pub mod Finding
pub mod Content
pub mod Check
pub mod Good
pub mod Faults
pub mod Passed
pub mod Examples
