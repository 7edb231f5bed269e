pub mod FirstFault
pub mod Summing
pub mod Standing
