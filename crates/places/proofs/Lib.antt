pub mod Between
pub mod Places
pub mod Search
pub mod Steps
pub mod Judgements
