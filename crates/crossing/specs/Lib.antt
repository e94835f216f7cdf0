pub mod Numbers
pub mod Exports
pub mod Crossing
pub mod Laws
