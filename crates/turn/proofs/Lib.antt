pub mod Blocks
pub mod Whole
