pub mod CellAnswer
