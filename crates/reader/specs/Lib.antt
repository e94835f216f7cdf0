pub mod Planting
