pub mod Texts
pub mod Runs
