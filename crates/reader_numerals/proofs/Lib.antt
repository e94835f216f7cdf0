pub mod Steps
pub mod DigitRuns
pub mod Naturals
