pub mod Evidence
pub mod FormattedShape
pub mod Plain
