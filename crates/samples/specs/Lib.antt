pub mod Cases
pub mod Plains
