-- What the proofs of the functions cite: the bit set of residues, the indices by rising code, and the least that is repeated.
mod Residues
mod Indexed
mod Passing
mod Again
