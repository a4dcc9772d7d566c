-- How the places of a load are filled.
pub mod Places
