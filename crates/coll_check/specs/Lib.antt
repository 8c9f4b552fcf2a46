-- what checking a text ends in
pub mod Checked
-- the words of causes
pub mod Causes
-- how faults are reported
pub mod Reports
pub mod ReportRows
-- what is reported of a text
pub mod Says
