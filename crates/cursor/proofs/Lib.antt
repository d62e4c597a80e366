pub mod Accord
pub mod Turns
pub mod Typed
