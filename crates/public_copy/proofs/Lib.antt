pub mod CopyGates
