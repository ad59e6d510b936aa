pub mod Checks
pub mod Puts
pub mod Reading
pub mod Serving
pub mod Parts
