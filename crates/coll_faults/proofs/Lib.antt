-- how patches are put into the lines of a draft
mod Drafting
