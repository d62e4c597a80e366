mod Flags
mod Kept
mod Steps
pub mod Carried
pub mod Whole
pub mod Returned
pub mod Items
pub mod Through
