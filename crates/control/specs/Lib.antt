pub mod Clock
pub mod Watchdog
pub mod Safety
pub mod Whole
