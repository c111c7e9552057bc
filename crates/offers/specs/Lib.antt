-- Offers, looked at and taken, and what is claimed of them.
pub mod Offers
pub mod Claims
