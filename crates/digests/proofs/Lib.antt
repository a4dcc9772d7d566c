-- A digest taken number by number, and memory filled place by place.
pub mod DigestLaws
mod Filling
