-- The search over the places behind a prefix.
pub mod InnerSearch
