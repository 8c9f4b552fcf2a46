use Rattle.coll_core.specs.Configs.{setting_by}
use Rattle.cases_ports.proofs.ports.closed_after.Given as goal

abbrev pub ghosts-closed_after_in-L-Ledger : goal.ghosts-closed_after_in-L-Ledger
ghosts-closed_after_in-L-Ledger g a = record { name = a.entries.name; parts = a.entries.parts }

abbrev pub ghosts-closed_after_in-L-Entries : goal.ghosts-closed_after_in-L-Entries
ghosts-closed_after_in-L-Entries g a = record { setting = setting_by a.config }
