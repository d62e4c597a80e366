pub mod FixupChains
pub mod Listing
pub mod Call
pub mod Told
pub mod Hear
