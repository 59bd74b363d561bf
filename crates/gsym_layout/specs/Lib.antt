pub mod Given
pub mod Layout
pub mod Writable
pub mod ReadBack
pub mod Examples
