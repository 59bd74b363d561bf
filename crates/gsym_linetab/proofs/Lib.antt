mod Factor
mod Numbers
mod Quickly
pub mod Unread
mod Cut
pub mod Progress
pub mod Runs
pub mod Choice
pub mod Reach
pub mod Endings
pub mod Modulo
pub mod RowLines
