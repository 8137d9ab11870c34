pub mod Checks
pub mod Steps
pub mod Same
pub mod Kept
pub mod Classes
pub mod Order
