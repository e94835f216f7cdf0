pub mod Allocating
