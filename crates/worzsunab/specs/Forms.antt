-- Requests as C gives them.
use Rattle.std.specs.Prelude.{◌≡◌, ◌==◌, Option, Some, None, if◌then◌else◌}
use Rattle.coll_kinds.specs.declared.ticket.Ticket.{Ticket}
use Rattle.coll_core.specs.declared.about.About as told
use Rattle.worzsunab.specs.declared.forms.About.{About}
use Rattle.worzsunab.specs.declared.forms.Request.{Request}
use Rattle.worzsunab.specs.Reasons.{is_persistent}

-- what a request names: nothing where it is of generation 0
abbrev pub named_by : Request → Option Ticket
named_by r = if r.generation == 0 then None else Some (record { slot = r.slot; generation = r.generation })

-- a name as C has it
abbrev pub request_of : Option Ticket → Request
request_of None = record { slot = 0; generation = 0 }
request_of (Some t) = record { slot = t.slot; generation = t.generation }

-- what C is given names the request that was made, which is as is said
pub record IsMade (Makes : Option Ticket → Type 0) (given : Request) : Type 0 where
  pub request : Option Ticket
  pub makes : Makes request
  pub given_is : given ≡ request_of request

-- what a request is, as C has it
abbrev pub about_of : told.About → About
about_of a =
    record { rank = a.rank; persistent = is_persistent a.mode; comm = a.comm; place = a.place; starts = a.starts }

abbrev pub IsAbout : Option told.About → About → Type 0
IsAbout None about = ⊥
IsAbout (Some a) about = about ≡ about_of a
