pub mod Lists
pub mod Written
