pub mod Yields
pub mod Stages
pub mod Listed
pub mod Inputs
pub mod Repeats
pub mod Texts
pub mod Examples
