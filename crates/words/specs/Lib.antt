pub mod Number
pub mod Hex
pub mod Line
pub mod Put
pub mod Find
