pub mod Failures
pub mod Found
pub mod Pages
pub mod Shapes
pub mod Stories
pub mod Words
