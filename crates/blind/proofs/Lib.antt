pub mod FreshHeap
pub mod Asked
