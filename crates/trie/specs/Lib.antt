pub mod Frames
pub mod NextChild
pub mod Call
pub mod Told
pub mod Joined
