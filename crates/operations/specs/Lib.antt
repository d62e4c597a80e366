pub mod Table
pub mod Loader
pub mod Told
