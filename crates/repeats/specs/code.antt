-- What the functions that sort indices by rising code rely on and promise.
pub mod Order
