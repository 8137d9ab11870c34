pub mod Counts
pub mod Accounts
pub mod Code
pub mod Claim
pub mod Apart
