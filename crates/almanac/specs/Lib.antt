pub mod Days
pub mod Latest
pub mod Choices
pub mod Matrix
