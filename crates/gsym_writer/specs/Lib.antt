pub mod View
pub mod Writing
pub mod Refused
pub mod Number
pub mod Ends
pub mod Parts
pub mod Planned
pub mod Examples
