pub mod Nearest
pub mod TieRule
pub mod ThirdFigure
pub mod ThreeFigures
