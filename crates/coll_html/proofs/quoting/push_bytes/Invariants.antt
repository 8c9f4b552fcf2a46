use Rattle.std.proofs.Common.{◌≡◌, ◌++◌, drop}
use Rattle.std.specs.Prelude.{flat_map}
use Rattle.coll_html.specs.Quoted.{byte_text}
use Rattle.coll_html.proofs.quoting.push_bytes.Given as goal

abbrev pub invariant-loop-byte : goal.invariant-loop-byte
invariant-loop-byte l =
    l.out.items ++ flat_map byte_text (drop l.byte-index l.text) ≡ l.initial.out.items ++ flat_map byte_text l.text
