pub mod Numerals
pub mod Counting
pub mod Placing
pub mod Laying
