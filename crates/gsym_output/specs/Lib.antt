pub mod Writing
pub mod Lines
