pub mod Walks
pub mod Opened
pub mod Soundness
