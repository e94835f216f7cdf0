pub mod NamedObjects
