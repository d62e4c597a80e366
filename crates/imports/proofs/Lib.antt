pub mod Signs
pub mod Imports
pub mod Answers
pub mod Calls
pub mod Inside
pub mod Kept
pub mod Joined
pub mod Typed
