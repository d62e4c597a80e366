pub mod Motion
pub mod Cursor
