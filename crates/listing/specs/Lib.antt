pub mod Machine
pub mod Stream
pub mod Listing
pub mod Call
