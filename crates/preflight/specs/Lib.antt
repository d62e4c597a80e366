pub mod Verdict
pub mod Flown
pub mod Leg
pub mod Told
pub mod Walked
pub mod Faults
