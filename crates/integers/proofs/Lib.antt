pub mod Signs
pub mod TaggedIntegers
