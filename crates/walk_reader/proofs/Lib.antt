pub mod Laws
pub mod Links
pub mod Fits
pub mod Told
pub mod ReadBack
