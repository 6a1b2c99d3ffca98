pub mod SectionPlaces
pub mod Lists
pub mod FreeHeap
