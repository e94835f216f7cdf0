pub mod CollectCases
