pub mod Files
pub mod Known
pub mod Reports
pub mod Troubles
