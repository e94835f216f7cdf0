pub mod AllocateCases
