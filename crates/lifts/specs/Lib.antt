pub mod Records
pub mod Pages
pub mod Sessions
pub mod Summaries
pub mod Errors
