use Rattle.coll_core.specs.Configs.{setting_by}
use Rattle.cases_ports.proofs.ports.first_misfit.Given as goal

abbrev pub ghosts-first_misfit_in-L-Ledger : goal.ghosts-first_misfit_in-L-Ledger
ghosts-first_misfit_in-L-Ledger g a = record { name = a.entries.name; parts = a.entries.parts }

abbrev pub ghosts-first_misfit_in-L-Entries : goal.ghosts-first_misfit_in-L-Entries
ghosts-first_misfit_in-L-Entries g a = record { setting = setting_by a.config }
