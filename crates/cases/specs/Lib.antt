pub mod Closings
pub mod Lifts
pub mod Scales
