pub mod Kinds
pub mod Calendar
pub mod Ranges
pub mod Told
pub mod Views
pub mod Exempt
