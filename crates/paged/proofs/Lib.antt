mod PageReads
pub mod Answered
pub mod Rows
