pub mod Disk
pub mod Contents
pub mod Foreseen
pub mod Memory
pub mod Held
