pub mod Table
pub mod Names
