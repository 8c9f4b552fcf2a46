-- texts whose lines have no fault
pub mod Accepting
-- the text of a draft
pub mod Drafts
