pub mod Control
