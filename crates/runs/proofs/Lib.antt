pub mod Walks
pub mod Alike
pub mod Unique
