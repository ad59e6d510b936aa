pub mod Rows
pub mod Measuring
pub mod Walking
pub mod Found
pub mod Surveying
pub mod Reasons
pub mod Opening
