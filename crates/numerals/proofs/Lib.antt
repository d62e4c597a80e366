mod Turns
mod Samples
