pub mod Nodes
pub mod Clients
