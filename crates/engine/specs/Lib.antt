pub mod Collecting
pub mod Evacuation
pub mod Middle
