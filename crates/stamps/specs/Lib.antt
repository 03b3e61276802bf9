pub mod Aisles
pub mod Orders
pub mod Parts
pub mod Laws
pub mod Kinds
