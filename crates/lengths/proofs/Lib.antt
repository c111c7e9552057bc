-- what is known of an opening that is accepted
pub mod Accepted
