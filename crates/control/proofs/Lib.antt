pub mod Divisors
pub mod Same
