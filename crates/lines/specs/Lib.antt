pub mod Answer
pub mod Ask
pub mod Input
pub mod Read
pub mod Kinds
