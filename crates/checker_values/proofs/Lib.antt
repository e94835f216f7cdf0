pub mod Verdicts
pub mod PlainWords
