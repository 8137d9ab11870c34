pub mod After
pub mod Answers
pub mod Turn
pub mod Handed
