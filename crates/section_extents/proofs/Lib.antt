pub mod UnknownFigures
