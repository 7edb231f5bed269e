pub mod Outside
pub mod Entries
pub mod Refusing
pub mod Keeping
pub mod Adding
pub mod Growing
pub mod Soundness
