-- Lists of commands of which one is changed to a wait.
use Rattle.std.proofs.Common.{◌≡◌, ℕ, zero, suc, Bool, true, false, cond, eqb, List, [], ◌∷◌, ◌++◌, length, map, filter, set}
use Rattle.std.proofs.Common.{Option, Some, None, refl, sym, ap, ◌∙◌, eqb-true}
use Rattle.std.proofs.lemmas.Bool.{false≢true}
use Rattle.std.proofs.lemmas.List.{set-append_left}
use Rattle.std.proofs.lemmas.Option.{none-some, same_Some, slice_get_within}
use Rattle.std.specs.Prelude.{slice_get}
use Rattle.std.specs.List.{cons_option, range_with_len}
use Rattle.coll_parser.specs.declared.command.Command.{Command}
use Rattle.coll_parser.specs.declared.command.Command.TheVariants.{Post, Init, Start, Wait, Test, Free, WaitAny, WaitSome, WaitAll}
use Rattle.coll_parser.specs.declared.issued_command.IssuedCommand.{IssuedCommand}
use Rattle.coll_parser.specs.Histories.{History, Posting, posting, postings, issued_by, commands_of}
use Rattle.coll_cases.specs.Outcomes.{is_open, fixed_in, fixed}

-- a rank's commands
issued_cons : (rank : ℕ) (t : IssuedCommand) (ts : List IssuedCommand)
    → issued_by rank (t ∷ ts) ≡ cond (eqb t.rank rank) (t.command ∷ issued_by rank ts) (issued_by rank ts)
issued_cons rank t ts = go (eqb t.rank rank)
  where
    go : (b : Bool)
        → map (λ (t : IssuedCommand). t.command)
        (cond b (t ∷ filter (λ (t : IssuedCommand). eqb t.rank rank) ts) (filter (λ (t : IssuedCommand). eqb t.rank rank) ts))
        ≡ cond b (t.command ∷ issued_by rank ts) (issued_by rank ts)
    go true = refl
    go false = refl

-- the rank's own, of which one is changed
issued_own : (rank place : ℕ) (qs : List ℕ) (ts : List IssuedCommand) (c : Command) → slice_get (issued_by rank ts) place ≡ Some c
    → issued_by rank (fixed_in rank place qs ts) ≡ set (issued_by rank ts) place (WaitAll qs)
issued_own rank place qs [] c get = absurd (none-some c get)
issued_own rank zero qs (t ∷ ts) c get =
    go (issued_own rank zero qs ts c) (eqb t.rank rank) refl (ap (λ (cs : List Command). slice_get cs zero) (sym (issued_cons rank t ts)) ∙ get)
    ∙ ap (λ (cs : List Command). set cs zero (WaitAll qs)) (sym (issued_cons rank t ts))
  where
    go : (slice_get (issued_by rank ts) zero ≡ Some c → issued_by rank (fixed_in rank zero qs ts) ≡ set (issued_by rank ts) zero (WaitAll qs))
        → (b : Bool) → eqb t.rank rank ≡ b → slice_get (cond b (t.command ∷ issued_by rank ts) (issued_by rank ts)) zero ≡ Some c
        → issued_by rank (cond b (record t { command = WaitAll qs } ∷ ts) (t ∷ fixed_in rank zero qs ts))
        ≡ set (cond b (t.command ∷ issued_by rank ts) (issued_by rank ts)) zero (WaitAll qs)
    go rest true own get =
        issued_cons rank (record t { command = WaitAll qs }) ts ∙ ap (λ (b : Bool). cond b (WaitAll qs ∷ issued_by rank ts) (issued_by rank ts)) own
    go rest false own get =
        issued_cons rank t (fixed_in rank zero qs ts)
        ∙ (ap (λ (b : Bool). cond b (t.command ∷ issued_by rank (fixed_in rank zero qs ts)) (issued_by rank (fixed_in rank zero qs ts))) own
        ∙ rest get)
issued_own rank (suc place) qs (t ∷ ts) c get =
    issued_cons rank t (fixed_in rank (cond (eqb t.rank rank) place (suc place)) qs ts)
    ∙ (go (issued_own rank place qs ts c) (issued_own rank (suc place) qs ts c) (eqb t.rank rank)
    (ap (λ (cs : List Command). slice_get cs (suc place)) (sym (issued_cons rank t ts)) ∙ get)
    ∙ ap (λ (cs : List Command). set cs (suc place) (WaitAll qs)) (sym (issued_cons rank t ts)))
  where
    go : (slice_get (issued_by rank ts) place ≡ Some c → issued_by rank (fixed_in rank place qs ts) ≡ set (issued_by rank ts) place (WaitAll qs))
        → (slice_get (issued_by rank ts) (suc place) ≡ Some c
        → issued_by rank (fixed_in rank (suc place) qs ts) ≡ set (issued_by rank ts) (suc place) (WaitAll qs))
        → (b : Bool) → slice_get (cond b (t.command ∷ issued_by rank ts) (issued_by rank ts)) (suc place) ≡ Some c
        → cond b (t.command ∷ issued_by rank (fixed_in rank (cond b place (suc place)) qs ts))
        (issued_by rank (fixed_in rank (cond b place (suc place)) qs ts))
        ≡ set (cond b (t.command ∷ issued_by rank ts) (issued_by rank ts)) (suc place) (WaitAll qs)
    go here later true get = ap (λ (cs : List Command). t.command ∷ cs) (here get)
    go here later false get = later get

-- and other ranks' stay
issued_other : (rank r place : ℕ) (qs : List ℕ) (ts : List IssuedCommand) → (r ≡ rank → ⊥) → issued_by r (fixed_in rank place qs ts) ≡ issued_by r ts
issued_other rank r place qs [] apart = refl
issued_other rank r zero qs (t ∷ ts) apart = go (issued_other rank r zero qs ts apart) (eqb t.rank rank) refl
  where
    off : (b : Bool) → eqb t.rank r ≡ b → eqb t.rank rank ≡ true → eqb t.rank r ≡ false
    off true is own = absurd (apart (sym (eqb-true t.rank r is) ∙ eqb-true t.rank rank own))
    off false is own = is

    go : issued_by r (fixed_in rank zero qs ts) ≡ issued_by r ts → (b : Bool) → eqb t.rank rank ≡ b
        → issued_by r (cond b (record t { command = WaitAll qs } ∷ ts) (t ∷ fixed_in rank zero qs ts)) ≡ issued_by r (t ∷ ts)
    go rest true own =
        issued_cons r (record t { command = WaitAll qs }) ts
        ∙ (ap (λ (b : Bool). cond b (WaitAll qs ∷ issued_by r ts) (issued_by r ts)) (off (eqb t.rank r) refl own)
        ∙ (ap (λ (b : Bool). cond b (t.command ∷ issued_by r ts) (issued_by r ts)) (sym (off (eqb t.rank r) refl own)) ∙ sym (issued_cons r t ts)))
    go rest false own =
        issued_cons r t (fixed_in rank zero qs ts)
        ∙ (ap (λ (cs : List Command). cond (eqb t.rank r) (t.command ∷ cs) cs) rest ∙ sym (issued_cons r t ts))
issued_other rank r (suc place) qs (t ∷ ts) apart =
    issued_cons r t (fixed_in rank (cond (eqb t.rank rank) place (suc place)) qs ts)
    ∙ (ap (λ (cs : List Command). cond (eqb t.rank r) (t.command ∷ cs) cs)
    (go (issued_other rank r place qs ts apart) (issued_other rank r (suc place) qs ts apart) (eqb t.rank rank)) ∙ sym (issued_cons r t ts))
  where
    go : issued_by r (fixed_in rank place qs ts) ≡ issued_by r ts → issued_by r (fixed_in rank (suc place) qs ts) ≡ issued_by r ts
        → (b : Bool) → issued_by r (fixed_in rank (cond b place (suc place)) qs ts) ≡ issued_by r ts
    go here later true = here
    go here later false = later

-- ---- with the unwritten `waitall`

-- such a call makes no request
posts_none : (c : Command) → is_open c ≡ true → posting c ≡ None
posts_none (Post comm sig given) is = absurd (false≢true is)
posts_none (Init comm sig) is = absurd (false≢true is)
posts_none (Start q given) is = refl
posts_none (Wait q) is = refl
posts_none (Test q) is = refl
posts_none (Free q) is = refl
posts_none (WaitAny qs) is = refl
posts_none (WaitSome qs) is = refl
posts_none (WaitAll qs) is = refl

postings_same : (cs : List Command) (place : ℕ) (c : Command) (qs : List ℕ) → slice_get cs place ≡ Some c → is_open c ≡ true
    → postings (set cs place (WaitAll qs)) ≡ postings cs
postings_same [] place c qs get is = absurd (none-some c get)
postings_same (d ∷ cs) zero c qs get is =
    ap (λ (o : Option Posting). cons_option o (postings cs)) (sym (ap posting (same_Some d c get) ∙ posts_none c is))
postings_same (d ∷ cs) (suc place) c qs get is = ap (cons_option (posting d)) (postings_same cs place c qs get is)

-- such a call isn't the unwritten `waitall`
written : (cs : List Command) (qs : List ℕ) (place : ℕ) (c : Command) → slice_get (cs ++ WaitAll qs ∷ []) place ≡ Some c → is_open c ≡ true
    → slice_get cs place ≡ Some c
written [] qs zero c get is = absurd (false≢true (ap is_open (same_Some (WaitAll qs) c get) ∙ is))
written [] qs (suc place) c get is = absurd (none-some c get)
written (d ∷ cs) qs zero c get is = get
written (d ∷ cs) qs (suc place) c get is = written cs qs place c get is

abbrev last_of : List Command → Command
last_of cs = WaitAll (range_with_len 0 (length (postings cs)))

pub commands_own : (h : History) (rank place : ℕ) (qs : List ℕ) (c : Command) → slice_get (commands_of h rank) place ≡ Some c → is_open c ≡ true
    → commands_of (fixed h rank place qs) rank ≡ set (commands_of h rank) place (WaitAll qs)
commands_own h rank place qs c get is =
    ap (λ (cs : List Command). cs ++ last_of cs ∷ []) (issued_own rank place qs h.commands c there)
    ∙ (ap (λ (n : ℕ). set (issued_by rank h.commands) place (WaitAll qs) ++ WaitAll (range_with_len 0 n) ∷ [])
    (ap length (postings_same (issued_by rank h.commands) place c qs there is))
    ∙ sym (set-append_left (issued_by rank h.commands) (last_of (issued_by rank h.commands) ∷ []) place (WaitAll qs)
    (slice_get_within (issued_by rank h.commands) place c there)))
  where
    there : slice_get (issued_by rank h.commands) place ≡ Some c
    there = written (issued_by rank h.commands) (range_with_len 0 (length (postings (issued_by rank h.commands)))) place c get is

pub commands_other : (h : History) (rank r place : ℕ) (qs : List ℕ) → (r ≡ rank → ⊥) → commands_of (fixed h rank place qs) r ≡ commands_of h r
commands_other h rank r place qs apart = ap (λ (cs : List Command). cs ++ last_of cs ∷ []) (issued_other rank r place qs h.commands apart)
