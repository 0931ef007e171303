pub mod Indexed
pub mod Listed
pub mod NearPages
pub mod Places
pub mod PrivatePages
pub mod Views
pub mod ViewStores
