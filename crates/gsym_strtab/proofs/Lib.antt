mod Table
mod Ranges
pub mod Leading
mod Chars
mod Passing
pub mod Runs
pub mod Counting
mod Names
pub mod Texts
pub mod Scalars
mod Told
