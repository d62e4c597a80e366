pub mod Names
pub mod Turns
