pub mod Listed
pub mod NearPages
pub mod PlaceTable
pub mod Places
pub mod PrivatePages
pub mod Twins
pub mod View
