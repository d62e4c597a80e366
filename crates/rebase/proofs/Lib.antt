pub mod Walks
pub mod Typed
