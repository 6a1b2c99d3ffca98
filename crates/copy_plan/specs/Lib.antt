pub mod Laying
pub mod Plan
