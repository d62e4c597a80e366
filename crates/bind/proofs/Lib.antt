pub mod Names
pub mod Lazy
pub mod Walks
pub mod Typed
