pub mod Segments
pub mod Carried
