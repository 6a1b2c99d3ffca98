pub mod Plane
