-- What the proof of the function cites.
mod Outcomes
