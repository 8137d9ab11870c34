pub mod Answers
pub mod Pieces
pub mod Streams
