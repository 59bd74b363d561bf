pub mod Addressing
pub mod Knowing
pub mod Lines
pub mod Whole
pub mod Opening
