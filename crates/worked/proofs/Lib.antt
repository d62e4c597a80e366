pub mod Hold
pub mod Walks
pub mod Tries
pub mod Fixups
