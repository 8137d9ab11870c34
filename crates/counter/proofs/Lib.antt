pub mod Signed
pub mod Wrap
pub mod Turns
pub mod Placed
pub mod Same
pub mod Settings
