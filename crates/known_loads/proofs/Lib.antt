pub mod Duality
mod Bounds
