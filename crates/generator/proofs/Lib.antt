-- In reading order: powers modulo a prime, a load is a list of codes, how its places are filled, and the answer.
pub mod Powers
pub mod Load
pub mod Filling
pub mod Answers
