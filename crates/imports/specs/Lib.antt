pub mod ChainedImports
pub mod Listing
pub mod Call
