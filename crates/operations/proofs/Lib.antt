pub mod Accord
pub mod Rows
pub mod Cases
pub mod Laws
pub mod Local
pub mod Typed
