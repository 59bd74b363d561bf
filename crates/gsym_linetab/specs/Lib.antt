pub mod Machine
pub mod Unread
pub mod Rows
pub mod RowFor
pub mod Quick
pub mod Reaches
pub mod Examples
pub mod Endings
