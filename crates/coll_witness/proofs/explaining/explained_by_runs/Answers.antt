use Rattle.std.specs.String.{string_bytes}
use Rattle.coll_witness.proofs.Saying.{found-run}
use Rattle.coll_witness.proofs.explaining.explained_by_runs.Goals as goal

pub returns-in-Ok : goal.returns-in-Ok
returns-in-Ok c =
    found-run string_bytes c.args.text.now c.in-Ok.script c.args.options c.explained_script.result c.in-Ok.ensures.read c.explained_script.ensures
