-- posting lists, and why a posting is refused
pub mod Postings
pub mod Lists
pub mod Refusing
-- worked rows
pub mod Rows
-- what functions promise one another: how lists are kept, and what holds of all of them
pub mod Fronts
pub mod Sound
