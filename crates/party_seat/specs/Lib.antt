pub mod Limits
pub mod Faults
pub mod Keys
pub mod Stations
pub mod Clients
pub mod Serving
