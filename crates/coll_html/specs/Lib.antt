-- texts as strings of JSON
pub mod Quoted
-- the page
pub mod Pages
