pub mod Chosen
pub mod Rooms
pub mod Turns
pub mod Words
