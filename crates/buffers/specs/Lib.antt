pub mod Pieces
pub mod Little
