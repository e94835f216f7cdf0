pub mod PassingLaws
pub mod RunLaws
pub mod ObjectLaws
