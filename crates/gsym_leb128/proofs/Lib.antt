mod Digits
mod Ends
mod Turn
mod Plain
mod Signs
pub mod Taken
pub mod Bytes
mod Wide
pub mod Cut
pub mod Places
