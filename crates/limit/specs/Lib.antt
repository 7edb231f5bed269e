pub mod Outcome
pub mod Lines
pub mod Methods
pub mod Laws
pub mod Balance
pub mod Same
pub mod Small
pub mod Either
