pub mod Admitted
pub mod FirstWords
pub mod InRun
pub mod RootNumbers
pub mod ShapeTests
pub mod TupleLaws
