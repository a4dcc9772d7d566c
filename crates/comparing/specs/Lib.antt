-- A list in both orders.
pub mod Orders
