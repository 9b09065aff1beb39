pub mod Check
pub mod Crc
pub mod Older
pub mod Register
pub mod Weights
