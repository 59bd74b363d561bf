pub mod Fronts
pub mod Answers
pub mod Steps
pub mod Maybe
