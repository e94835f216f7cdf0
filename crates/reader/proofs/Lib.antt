pub mod Judgements
pub mod ReadCases
pub mod Plants
