pub mod Summaries
pub mod Sessions
pub mod Trials
pub mod Life
pub mod Bands
pub mod Turns
