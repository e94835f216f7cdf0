pub mod Turns
pub mod Stretches
pub mod Parity
pub mod MarkBits
pub mod Judging
