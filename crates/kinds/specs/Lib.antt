pub mod Bytes
pub mod Cuts
pub mod Held
pub mod Later
pub mod Making
pub mod Picks
pub mod Through
