-- Rows worked by hand. At instance (0, 4, 0) of three members, member 0 gave 7 and has slot 5, member 1 gave 8 and has
-- left; member 0 has sent 9 to member 2 in round 1.
use Rattle.std.specs.Prelude.{◌≡◌, ℕ, List, [], ◌∷◌, Some, None, refl}
use Rattle.coll_machine.specs.declared.key.Key.{Key}
use Rattle.coll_match.specs.Held.{Held}
use Rattle.coll_machine.specs.Changes.{put_key}
use Rattle.coll_match.specs.Instances.{given, mail, members, seats}

abbrev key : ℕ → Key
key start = record { comm = 0; place = 4; start = start }

abbrev one : List (Key × Held)
one = (
  key 0,
  record {
    shares =
        record { contribution = Some (7 ∷ []); slot = Some 5; sent = (record { to = 2; round = 1 }, 9 ∷ []) ∷ [] }
        ∷ record { contribution = Some (8 ∷ []); slot = None; sent = [] }
        ∷ record { contribution = None; slot = None; sent = [] }
        ∷ [];
  },
) ∷ []

stands : (members one (key 0) ≡ Some 3) × (members one (key 1) ≡ None)
stands = (refl, refl)

-- what a member gave stays when it has left; another start is another instance
gave : (given one (key 0) 0 ≡ Some (7 ∷ []))
    × (given one (key 0) 1 ≡ Some (8 ∷ []))
    × (given one (key 0) 2 ≡ None)
    × (given one (key 1) 0 ≡ None)
gave = (refl, refl, refl, refl)

sits : (seats one (key 0) 0 ≡ Some 5) × (seats one (key 0) 1 ≡ None)
sits = (refl, refl)

-- a message goes by its sender, its receiver and its round
sent : (mail one (key 0) 0 2 1 ≡ Some (9 ∷ []))
    × (mail one (key 0) 0 2 0 ≡ None)
    × (mail one (key 0) 2 0 1 ≡ None)
    × (mail one (key 1) 0 2 1 ≡ None)
sent = (refl, refl, refl, refl)

-- a change of one key leaves the others
changed : (put_key (members one) (key 0) None (key 0) ≡ None)
    × (put_key (members one) (key 1) (Some 2) (key 0) ≡ Some 3)
changed = (refl, refl)
