pub mod Measured
pub mod Numerals
pub mod Forms
pub mod Tuples
pub mod Parts
pub mod Packing
