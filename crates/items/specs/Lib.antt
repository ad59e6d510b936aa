pub mod Numbered
pub mod Read
