pub mod Nuls
