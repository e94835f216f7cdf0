pub mod Inspecting
pub mod Finding
