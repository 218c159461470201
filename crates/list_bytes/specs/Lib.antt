pub mod Listed
pub mod Lists
