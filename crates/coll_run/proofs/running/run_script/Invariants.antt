use Rattle.coll_core.specs.Configs.{setting_by}
use Rattle.coll_run.proofs.running.run_script.Given as goal

abbrev pub ghosts-run_in-L-Ledger : goal.ghosts-run_in-L-Ledger
ghosts-run_in-L-Ledger g a = record { name = a.entries.name; parts = a.entries.parts }

abbrev pub ghosts-run_in-L-Entries : goal.ghosts-run_in-L-Entries
ghosts-run_in-L-Entries g a = record { setting = setting_by a.config }
