-- What several proofs cite: how a definition's tests are decided, places set to one value, the first index of which a test holds, refusals one below the other.
pub mod Laws
pub mod Fills
pub mod First
pub mod Where
pub mod Some
pub mod Refusals
-- Lists by their function.
pub mod Tabulate
-- Codes among others, and the numbers that pass a test.
pub mod Among
pub mod Choosing
-- Pairs side by side.
pub mod Paired
