mod Records
mod Fixups
pub mod Carried
