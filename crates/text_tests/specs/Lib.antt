pub mod Sevens
