pub mod Inputs
pub mod Step
pub mod Respond
pub mod Handed
pub mod Refusals
pub mod Runs
