pub mod Names
pub mod InOrder
pub mod Items
pub mod Data
pub mod Whole
pub mod Passed
pub mod Numbered
