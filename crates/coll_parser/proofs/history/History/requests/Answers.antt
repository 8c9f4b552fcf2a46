use Rattle.std.proofs.Common.{◌≡◌, ℕ, zero, suc, ◌+◌, ◌<◌, List, [], ◌∷◌, ◌++◌, length, map, get_or, take, refl, sym, ap, subst, ◌∙◌, arith}
use Rattle.std.specs.Prelude.{IfSome, slice_get, unwrap_or}
use Rattle.std.specs.List.{AllByRecursion, range_with_len}
use Rattle.std.proofs.lemmas.List.{length-set, length-map}
use Rattle.std.proofs.lemmas.Option.{slice_get_read}
use Rattle.coll_parser.specs.declared.issued_command.IssuedCommand.{IssuedCommand}
use Rattle.coll_parser.specs.Histories.{History}
use Rattle.coll_parser.specs.Requests.{Request, requests_after, requests_of}
use Rattle.coll_parser.specs.Sound.{IsHistory}
use Rattle.coll_parser.specs.Code.{rows_view, request_view, requests_view, ArePlaced}
use Rattle.coll_parser.proofs.Lists.{take-all}
use Rattle.coll_parser.proofs.Keeping.{each-set}
use Rattle.coll_parser.proofs.Sounds.{few-members}
use Rattle.coll_parser.proofs.Placed.{placed-of}
use Rattle.coll_parser.proofs.Requested.{requests-own, requests-other}
use Rattle.coll_parser.proofs.Soundly.{IsHistory-sound, next-allowed, take-next, may-name, all-step, views-range}
use Rattle.coll_parser.proofs.history.History.requests.Goals as goal

none-made : (ranks : List (List Request)) (vs : List _) → AllByRecursion (λ requests. requests ≡ []) (requests_view vs)
    → (rank : ℕ) → IfSome (slice_get vs rank) (λ v. map request_view v.items ≡ [])
none-made ranks [] none rank = tt
none-made ranks (v ∷ vs) none zero = none.0
none-made ranks (v ∷ vs) none (suc rank) = none-made ranks vs none.1 rank

pub loop-issued-init : goal.loop-issued-init
loop-issued-init c =
    let is = subst (IsHistory 1048578) c.self.view_is c.self.invariant in
    record {
      count = c.in_ok-ranks.ensures.count ∙ c.ranks.ensures;
      made = none-made [] c.in_ok-ranks.ranks.items c.in_ok-ranks.ensures.none;
      allowed = is.allowed;
      all = λ rank. (refl, tt);
    }

pub note-requires-clause-groups : goal.note-requires-clause-groups
note-requires-clause-groups c = rw c.deref.ensures.value (few-members _ _ c.self.invariant.groups)

pub note-requires-clause-known : goal.note-requires-clause-known
note-requires-clause-known c =
    let h = c.args.self.now in
    let i = c.loop-issued.issued-index in
    let t = c.issued-item.result in
    let same : c.deref-issued-items.result.now ≡ h.commands = c.deref-issued-items.ensures.value ∙ ap (λ (x : History). x.commands) c.self.view_is in
    let lt : i < length h.commands = omega (arith, c.loop-issued-test.true, ap length same) in
    let is : t ≡ get_or h.commands i t = c.issued-item.is ∙ ap (λ (ts : List IssuedCommand). get_or ts i t) same in
    let next = next-allowed (unwrap_or h.ranks 0) h.groups h.commands i t lt is c.loop-issued.invariant.allowed in
    let within : t.rank < length c.loop-issued.ranks.items = omega (arith, next.0.0, c.loop-issued.invariant.count) in
    let at = slice_get_read c.loop-issued.ranks.items (length c.loop-issued.ranks.items) t.rank c.index_mut.result.now refl within c.index_mut.ensures.value in
    let made : map request_view c.index_mut.result.now.items ≡ requests_of h.groups t.rank (take i h.commands) =
    rw at at (c.loop-issued.invariant.made t.rank) in
    let long : length c.index_mut.result.now.items ≡ length (requests_of h.groups t.rank (take i h.commands)) =
    sym (length-map c.index_mut.result.now.items request_view) ∙ ap length made in
    may-name h.groups (take i h.commands) t (length c.index_mut.result.now.items) c.loop-issued.invariant.all long next.0.1

pub note-requires-clause-placed : goal.note-requires-clause-placed
note-requires-clause-placed c =
    let h = c.args.self.now in
    let i = c.loop-issued.issued-index in
    let t = c.issued-item.result in
    let same : c.deref-issued-items.result.now ≡ h.commands = c.deref-issued-items.ensures.value ∙ ap (λ (x : History). x.commands) c.self.view_is in
    let lt : i < length h.commands = omega (arith, c.loop-issued-test.true, ap length same) in
    let is : t ≡ get_or h.commands i t = c.issued-item.is ∙ ap (λ (ts : List IssuedCommand). get_or ts i t) same in
    let next = next-allowed (unwrap_or h.ranks 0) h.groups h.commands i t lt is c.loop-issued.invariant.allowed in
    let within : t.rank < length c.loop-issued.ranks.items = omega (arith, next.0.0, c.loop-issued.invariant.count) in
    let at = slice_get_read c.loop-issued.ranks.items (length c.loop-issued.ranks.items) t.rank c.index_mut.result.now refl within c.index_mut.ensures.value in
    let made : map request_view c.index_mut.result.now.items ≡ requests_of h.groups t.rank (take i h.commands) =
    rw at at (c.loop-issued.invariant.made t.rank) in
    subst ArePlaced (sym made) (placed-of h.groups t.rank (take i h.commands))

pub loop-issued-preserved : goal.loop-issued-preserved
loop-issued-preserved c =
    let h = c.args.self.now in
    let i = c.loop-issued.issued-index in
    let t = c.issued-item.result in
    let same : c.deref-issued-items.result.now ≡ h.commands = c.deref-issued-items.ensures.value ∙ ap (λ (x : History). x.commands) c.self.view_is in
    let lt : i < length h.commands = omega (arith, c.loop-issued-test.true, ap length same) in
    let is : t ≡ get_or h.commands i t = c.issued-item.is ∙ ap (λ (ts : List IssuedCommand). get_or ts i t) same in
    let next = next-allowed (unwrap_or h.ranks 0) h.groups h.commands i t lt is c.loop-issued.invariant.allowed in
    let more = take-next h.commands i t lt is in
    let groups : rows_view c.deref.result.now ≡ h.groups = ap rows_view c.deref.ensures.value ∙ ap (λ (x : History). x.groups) c.self.view_is in
    let within : t.rank < length c.loop-issued.ranks.items = omega (arith, next.0.0, c.loop-issued.invariant.count) in
    let at = slice_get_read c.loop-issued.ranks.items (length c.loop-issued.ranks.items) t.rank c.index_mut.result.now refl within c.index_mut.ensures.value in
    let made : map request_view c.index_mut.result.now.items ≡ requests_of h.groups t.rank (take i h.commands) =
    rw at at (c.loop-issued.invariant.made t.rank) in
    let noted : map request_view c.note.new.requests.items ≡ requests_of h.groups t.rank (take i h.commands ++ t ∷ []) =
    c.in_ok-note.ensures ∙ ap (λ (g : List (List ℕ)). requests_after g t.line t.rank t.command (map request_view c.index_mut.result.now.items)) groups
    ∙ ap (requests_after h.groups t.line t.rank t.command) made ∙ sym (requests-own h.groups (take i h.commands) t) in
    rw more
    (record {
      count = length-set c.loop-issued.ranks.items t.rank c.note.new.requests ∙ c.loop-issued.invariant.count;
      made = each-set (λ r v. map request_view v.items ≡ requests_of h.groups r (take i h.commands))
          (λ r v. map request_view v.items ≡ requests_of h.groups r (take i h.commands ++ t ∷ [])) c.loop-issued.ranks.items t.rank c.note.new.requests
          (λ v there e. noted) (λ r v ne e. e ∙ sym (requests-other h.groups r (take i h.commands) t ne)) c.loop-issued.invariant.made;
      allowed = next.1;
      all = all-step h.groups (take i h.commands) t next.0.1 c.loop-issued.invariant.all;
    })

pub returns-clause-view : goal.returns-clause-view
returns-clause-view c =
    let h = c.args.self.now in
    let same : c.deref-issued-items.result.now ≡ h.commands = c.deref-issued-items.ensures.value ∙ ap (λ (x : History). x.commands) c.self.view_is in
    let whole : take c.loop-issued.issued-index h.commands ≡ h.commands =
    take-all h.commands c.loop-issued.issued-index (omega (arith, c.loop-issued-test.false, ap length same)) in
    let made : (k : ℕ) → IfSome (slice_get c.loop-issued.ranks.items k) (λ v. map request_view v.items ≡ requests_of h.groups (0 + k) h.commands) = λ k.
    (let zeroth : 0 + k ≡ k = omega arith in rw (zeroth, ← whole) (c.loop-issued.invariant.made k)) in
    views-range (λ rank. requests_of h.groups rank h.commands) c.loop-issued.ranks.items 0 made
    ∙ ap (λ n. map (λ rank. requests_of h.groups rank h.commands) (range_with_len 0 n)) c.loop-issued.invariant.count

pub returns-clause-sound : goal.returns-clause-sound
returns-clause-sound c = IsHistory-sound c.args.self.now (subst (IsHistory 1048578) c.self.view_is c.self.invariant)
