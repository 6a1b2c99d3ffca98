pub mod Copy
pub mod Evidence
