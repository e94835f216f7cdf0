pub mod MarkLaws
pub mod SoundByMarks
pub mod Returns
