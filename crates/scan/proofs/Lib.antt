pub mod Bytes
pub mod Parts
pub mod Numbers
