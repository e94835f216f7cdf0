pub mod Forests
pub mod Sorts
pub mod Tuples
pub mod Chains
pub mod Verdicts
