pub mod Filings
pub mod Cases
