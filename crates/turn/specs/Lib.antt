pub mod Turning
pub mod Whole
pub mod Claim
