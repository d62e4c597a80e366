pub mod Chunks
pub mod Gathering
pub mod Sleb
pub mod Uleb
pub mod Views
