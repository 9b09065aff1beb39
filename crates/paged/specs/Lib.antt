pub mod Refusals
pub mod Marks
pub mod PageRead
pub mod Rows
