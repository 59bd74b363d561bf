pub mod Page
pub mod Pieces
pub mod Words
pub mod Printed
pub mod Json
pub mod Answers
pub mod Plain
pub mod Examples
