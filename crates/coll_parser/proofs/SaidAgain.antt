-- A command that is written so is read so.
use Rattle.std.proofs.Common.{◌≡◌, ℕ, ◌/◌, true, List, [], ◌∷◌, ◌++◌, length, map, Some, None, Result, Ok, refl, sym, ap, subst, ◌∙◌, inl, inr}
use Rattle.std.specs.Prelude.{codes, nat_lt, decimal}
use Rattle.std.specs.List.{range_with_len}
use Rattle.std.proofs.lemmas.Bool.{lt-ltb}
use Rattle.std.proofs.lemmas.Option.{get_or_from_slice_get, slice_get_within}
use Rattle.std.proofs.lemmas.List.{append-nil}
use Rattle.coll_kinds.specs.declared.kind.Mode.{Mode}
use Rattle.coll_kinds.specs.declared.kind.Mode.TheVariants.{Once, Persistent}
use Rattle.coll_kinds.specs.declared.signature.Signature.{Signature}
use Rattle.coll_kinds.specs.Common.{broken, Element, width}
use Rattle.coll_parser.specs.declared.cause.Cause.{Cause}
use Rattle.coll_parser.specs.declared.command.Command.{Command}
use Rattle.coll_parser.specs.declared.command.Command.TheVariants.{Post, Init, Start, Wait, Test, Free, WaitAny, WaitSome, WaitAll}
use Rattle.coll_parser.specs.Reading.{and_then}
use Rattle.coll_parser.specs.Histories.{History, group_of, Posting, total}
use Rattle.coll_parser.specs.Lines.{communicator, signature, due, made, post, init, startable, start, free, some, all, command, issue, line}
use Rattle.coll_parser.specs.Writing.{AreValues, value_words, signature_words, members, MayPost, MayStart, IsMade, MayName, IsSome, Writes}
use Rattle.coll_parser.proofs.Again.{number-again, request-again, numbers-again, values-again, signature-again}

-- what the words after the first one are read as, a line is read as
module _ (number rank n : ℕ) (h : History) (ranks : h.ranks ≡ Some n) (opened : h.opened ≡ Some rank) where
  pub wait-line : (q : ℕ) → IsMade h rank q → line number h (codes "wait" ∷ decimal q ∷ []) ≡ Ok (issue number rank (Wait q) h)
  unfolding line command
  wait-line q is = rw (ranks, opened, request-again (length (made h rank)) q is.0 is.1) refl

  pub test-line : (q : ℕ) → IsMade h rank q → line number h (codes "test" ∷ decimal q ∷ []) ≡ Ok (issue number rank (Test q) h)
  unfolding line command
  test-line q is = rw (ranks, opened, request-again (length (made h rank)) q is.0 is.1) refl

  some-again : (qs : List ℕ) → IsSome qs → MayName h rank qs → some h rank (map decimal qs) ≡ Ok (qs, [])
  some-again [] one may = absurd one
  some-again (q ∷ qs) one may =
      ap (λ (r : Result (List ℕ) Cause). and_then r (λ ns. Ok (ns, []))) (numbers-again (length (made h rank)) [] (q ∷ qs) may.0 may.1)

  all-again : (qs : List ℕ) → IsSome qs → MayName h rank qs → all h rank (map decimal qs) ≡ Ok (qs, [])
  all-again [] one may = absurd one
  all-again (q ∷ qs) one may = some-again (q ∷ qs) one may

  pub waitany-line : (qs : List ℕ) → IsSome qs → MayName h rank qs → line number h (codes "waitany" ∷ map decimal qs) ≡ Ok (issue number rank (WaitAny qs) h)
  unfolding line command
  waitany-line qs one may = rw (ranks, opened, some-again qs one may) refl

  pub waitsome-line : (qs : List ℕ) → IsSome qs → MayName h rank qs → line number h (codes "waitsome" ∷ map decimal qs) ≡ Ok (issue number rank (WaitSome qs) h)
  unfolding line command
  waitsome-line qs one may = rw (ranks, opened, some-again qs one may) refl

  pub waitall-line : (qs : List ℕ) → IsSome qs → MayName h rank qs → line number h (codes "waitall" ∷ map decimal qs) ≡ Ok (issue number rank (WaitAll qs) h)
  unfolding line command
  waitall-line qs one may = rw (ranks, opened, all-again qs one may) refl

  pub waitall-bare : line number h (codes "waitall" ∷ []) ≡ Ok (issue number rank (WaitAll (range_with_len 0 (length (made h rank)))) h)
  unfolding line command
  waitall-bare = rw (ranks, opened) refl

  startable-again : (q : ℕ) (p : Posting) (rest : List (List ℕ)) → MayStart h rank q p → startable h rank (decimal q ∷ rest) ≡ Ok ((q, p), rest)
  unfolding startable
  startable-again q p rest may =
      rw (request-again (length (made h rank)) q may.small (slice_get_within (made h rank) q p may.posted), may.posted, may.startable) refl

  pub free-line : (q : ℕ) (p : Posting) → MayStart h rank q p → line number h (codes "free" ∷ decimal q ∷ []) ≡ Ok (issue number rank (Free q) h)
  unfolding line command free startable
  free-line q p may = rw (ranks, opened, startable-again q p [] may) refl

  pub start-line : (q : ℕ) (p : Posting) (elements : List Element) (given : List ℕ) → MayStart h rank q p
      → AreValues p.sig.ty (due h.groups rank p.comm p.sig / width p.sig.ty) elements given
      → line number h (codes "start" ∷ decimal q ∷ value_words elements) ≡ Ok (issue number rank (Start q given) h)
  unfolding line command start startable
  start-line q p elements given may are =
      rw (
        ranks,
        opened,
        startable-again q p (value_words elements) may,
        values-again p.sig.ty (due h.groups rank p.comm p.sig / width p.sig.ty) elements given are,
      ) refl

  communicator-again : (mode : Mode) (comm : ℕ) (sig : Signature) (rest : List (List ℕ)) → MayPost h rank mode comm sig
      → communicator h.groups rank (decimal comm ∷ rest) ≡ Ok (comm, rest)
  communicator-again mode comm sig rest may = rw (number-again comm may.small, may.known, may.is_member) refl

  sig-again : (mode : Mode) (comm : ℕ) (sig : Signature) (rest : List (List ℕ)) → MayPost h rank mode comm sig
      → signature mode (length (group_of h.groups comm)) (signature_words (members h comm) sig ++ rest) ≡ Ok (sig, rest)
  sig-again mode comm sig rest may =
      let checked : broken sig (length (group_of h.groups comm)) ≡ None =
      ap (λ (g : List ℕ). broken sig (length g)) (get_or_from_slice_get h.groups comm may.group [] may.known) ∙ may.checked in
      let here : signature sig.mode (length (group_of h.groups comm)) (signature_words (members h comm) sig ++ rest) ≡ Ok (sig, rest) =
      signature-again sig (length (group_of h.groups comm)) rest may.words checked in
      subst (λ (m : Mode). signature m (length (group_of h.groups comm)) (signature_words (members h comm) sig ++ rest) ≡ Ok (sig, rest)) may.mode_is here

  pub post-line : (comm : ℕ) (sig : Signature) (elements : List Element) (given : List ℕ) → MayPost h rank Once comm sig
      → AreValues sig.ty (due h.groups rank comm sig / width sig.ty) elements given
      → line number h (codes "post" ∷ decimal comm ∷ (signature_words (members h comm) sig ++ value_words elements))
      ≡ Ok (issue number rank (Post comm sig given) h)
  unfolding line command post
  post-line comm sig elements given may are =
      let room : nat_lt (total h.commands) 4096 ≡ true = lt-ltb (total h.commands) 4096 may.room in
      rw (
        ranks,
        opened,
        communicator-again Once comm sig (signature_words (members h comm) sig ++ value_words elements) may,
        sig-again Once comm sig (value_words elements) may,
        values-again sig.ty (due h.groups rank comm sig / width sig.ty) elements given are,
        room,
      ) refl

  pub init-line : (comm : ℕ) (sig : Signature) → MayPost h rank Persistent comm sig
      → line number h (codes "init" ∷ decimal comm ∷ signature_words (members h comm) sig) ≡ Ok (issue number rank (Init comm sig) h)
  unfolding line command init
  init-line comm sig may =
      let room : nat_lt (total h.commands) 4096 ≡ true = lt-ltb (total h.commands) 4096 may.room in
      let sig-is : signature Persistent (length (group_of h.groups comm)) (signature_words (members h comm) sig) ≡ Ok (sig, []) =
      ap (signature Persistent (length (group_of h.groups comm))) (sym (append-nil (signature_words (members h comm) sig)))
      ∙ sig-again Persistent comm sig [] may in
      rw (ranks, opened, communicator-again Persistent comm sig (signature_words (members h comm) sig) may, sig-is, room) refl

  -- what is written is read
  pub command-again : (c : Command) (words : List (List ℕ)) → Writes h rank c words → line number h words ≡ Ok (issue number rank c h)
  command-again (Post comm sig given) words w = rw w.3 (post-line comm sig w.1 given w.0 w.2)
  command-again (Init comm sig) words w = rw w.1 (init-line comm sig w.0)
  command-again (Start q given) words w = rw w.4 (start-line q w.0 w.2 given w.1 w.3)
  command-again (Wait q) words w = rw w.1 (wait-line q w.0)
  command-again (Test q) words w = rw w.1 (test-line q w.0)
  command-again (Free q) words w = rw w.2 (free-line q w.0 w.1)
  command-again (WaitAny qs) words w = rw w.2 (waitany-line qs w.0 w.1)
  command-again (WaitSome qs) words w = rw w.2 (waitsome-line qs w.0 w.1)
  command-again (WaitAll qs) words w = elim w [ inl named ↦ rw named.2 (waitall-line qs named.0 named.1) | inr bare ↦ rw (bare.0, bare.1) waitall-bare ]
