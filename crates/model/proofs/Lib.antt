pub mod AllCases
