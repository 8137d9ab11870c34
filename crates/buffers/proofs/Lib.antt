pub mod Put
pub mod Joined
pub mod Little
pub mod Bytes
pub mod Chunks
pub mod Wrote
