pub mod ReachedFields
