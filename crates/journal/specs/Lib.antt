pub mod Lines
pub mod Words
pub mod Numbers
pub mod Sources
pub mod Steps
pub mod Meaning
pub mod Desk
