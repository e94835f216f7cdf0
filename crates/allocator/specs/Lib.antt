pub mod Retrying
