pub mod Binds
