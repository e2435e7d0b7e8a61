mod Telling
mod ClientTelling
mod Taking
mod Replicas
mod Holding
mod Clients
