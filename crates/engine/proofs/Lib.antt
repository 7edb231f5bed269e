pub mod Recorded
pub mod Stepping
