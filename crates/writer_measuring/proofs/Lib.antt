pub mod Rooms
pub mod Digits
pub mod Leads
pub mod Fields
pub mod Sorts
