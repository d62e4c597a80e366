pub mod Exports
pub mod Inside
