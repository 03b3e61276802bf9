pub mod Sets
pub mod Verdicts
pub mod Stability
pub mod Moves
pub mod Theorems
pub mod Examples
pub mod Shortcuts
