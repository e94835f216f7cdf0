pub mod ShapeFirst
pub mod FreeIndexes
pub mod Crosses
pub mod Laws
pub mod Apart
