pub mod After
pub mod Answers
pub mod Faults
