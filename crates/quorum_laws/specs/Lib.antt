pub mod Numbers
pub mod Sets
pub mod Lists
pub mod Laws
