pub mod Words
pub mod FigureOfWord
pub mod FigureOfFour
