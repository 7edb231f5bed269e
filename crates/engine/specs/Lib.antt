pub mod Steps
pub mod Faults
pub mod Engine
