pub mod Words
pub mod Fields
pub mod Boundary
pub mod Calls
