pub mod Captures
pub mod Booked
pub mod Calls
pub mod Events
pub mod Audited
pub mod Adds
pub mod Apart
pub mod Filled
