pub mod Tests
pub mod Build
pub mod Days
pub mod NextDay
pub mod Latest
pub mod Choices
pub mod Matrix
