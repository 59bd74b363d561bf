mod Halving
mod Runs
mod Turns
pub mod Inside
pub mod Opened
pub mod Unopened
pub mod Table
pub mod Choice
pub mod Lands
pub mod Symbols
pub mod Lists
pub mod Ahead
mod Finding
pub mod Places
pub mod Said
