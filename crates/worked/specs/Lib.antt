pub mod Examples
pub mod Called
pub mod Tries
pub mod Fixups
