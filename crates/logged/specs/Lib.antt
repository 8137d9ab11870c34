pub mod Whole
pub mod Claim
