pub mod Lists
pub mod Naming
