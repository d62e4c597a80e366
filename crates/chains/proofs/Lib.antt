pub mod Headers
pub mod Records
pub mod Seeks
pub mod Inside
pub mod Joined
pub mod Unique
pub mod Typed
