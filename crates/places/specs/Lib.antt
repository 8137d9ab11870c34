pub mod Walk
pub mod Places
