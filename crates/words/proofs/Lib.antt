pub mod Cases
pub mod NumberLaws
pub mod HexLaws
pub mod PutLaws
pub mod LineLaws
pub mod IndexLaws
pub mod ReadBack
pub mod FindLaws
