-- every step keeps each member and each message on its track
use Rattle.std.proofs.Common.{◌≡◌, ℕ, zero, suc, ◌<◌, ◌≢◌, ◌⊎◌, inl, inr, List, [], take, length, replicate, unwrap_or, Option, Some, None, refl, sym}
use Rattle.std.proofs.Common.{ap, subst, ◌∙◌, arith}
use Rattle.std.proofs.lemmas.Option.{none-some, same_Some, slice_get_within}
use Rattle.std.proofs.lemmas.List.{length-replicate, take_all}
use Rattle.coll_sched.specs.declared.region.Region.{Region}
use Rattle.coll_kinds.specs.declared.operation.Op.{Op}
use Rattle.coll_kinds.specs.declared.datatype.Datatype.{Datatype}
use Rattle.coll_sched.specs.declared.action.Action.{Action}
use Rattle.coll_sched.specs.declared.action.Action.TheVariants.{Send, Copy, Combine, Recv}
use Rattle.coll_sched.specs.Common.{read_of, written, wrote, IsLocal, Family, read_at, actions_at, laid_in, lock_step, messages, result_at, IsRecvOf}
use Rattle.coll_sched.specs.Common.{Receives, Heard, IsLawful, Progress, World, empty, put_mail, filled, joined, acted, turned, IsNext, send, compute}
use Rattle.coll_sched.specs.Common.{receive, Tracks}
use Rattle.coll_kinds.specs.Common.{AreBytes, put}
use Rattle.coll_sched.specs.Families.{sent}
use Rattle.coll_sched.specs.Worlds.{left, Step, join, turn, leave, Reached, begun, stepped}
use Rattle.coll_sched.specs.Tracks.{moment, OnTrack, InTransit}
use Rattle.coll_sched.specs.Heart.{Holds, Heart}
use Rattle.coll_sched.proofs.Rounds.{round_at, MessageFits, message_fits, length_lock_step, length_moment, GivenFits, out_link_at, reads_at_moment}
use Rattle.coll_sched.proofs.Rounds.{moment_next, moment_end, moment_past, lock_step_agrees, moment_agrees}
use Rattle.coll_sched.proofs.Each.{all_at}
use Rattle.coll_sched.proofs.Counts.{none_in_transit, none_standing, standing_counts, put_same, put_other, put_cases, put_mail_cases, at_key}
use Rattle.coll_sched.proofs.Counts.{receives_next, balanced_join, balanced_turn, balanced_leave, balanced_compute, balanced_send, balanced_receive}

abbrev Given : Type 0
Given = ℕ → Option (List ℕ)

pub heard_self : (f : Family) (j r : ℕ) → Heard f j r r
heard_self f zero r = refl
heard_self f (suc j) r = inl (heard_self f j r)

-- later joins leave what was given
abbrev pub Extends : (ℕ → Option (List ℕ)) → (ℕ → Option (List ℕ)) → Type 0
Extends given other = (s : ℕ) → given s ≢ None → other s ≡ given s

module _ (f : Family) (given other : ℕ → Option (List ℕ)) (ext : Extends given other) where
  still : (s : ℕ) → given s ≢ None → other s ≢ None
  still s h e = h (sym (ext s h) ∙ e)

  same_filled : (s : ℕ) → given s ≢ None → filled f given s ≡ filled f other s
  same_filled s h = ap (λ o. unwrap_or o (replicate (f s).input.len 0)) (sym (ext s h))

  pub track_extends : (n r : ℕ) (p : Progress) → OnTrack n f given r p → OnTrack n f other r p
  track_extends n r p t = record {
    member = t.member;
    round_in = t.round_in;
    index_in = t.index_in;
    heard = λ s h. still s (t.heard s h);
    received = λ q s a h. still s (t.received q s a h);
    buffer = t.buffer ∙ moment_agrees f (filled f given) (filled f other) p.round p.index r (λ s h. same_filled s (t.heard s h))
        (λ q s a h. same_filled s (t.received q s a h));
  }

  pub transit_extends : (q r j : ℕ) (bytes : List ℕ) → InTransit f given q r j bytes → InTransit f other q r j bytes
  transit_extends q r j bytes l = record {
    is = l.is ∙ ap (sent r (actions_at f j q)) (lock_step_agrees f (filled f given) (filled f other) j q (λ s h. same_filled s (l.heard s h)));
    heard = λ s h. still s (l.heard s h);
  }

pub filled_fits : (n : ℕ) (f : Family) (w : World) → Tracks n f w → GivenFits n f (filled f w.given)
filled_fits n f w t r low = go (w.given r) refl
  where
    go : (o : Option (List ℕ)) → w.given r ≡ o → length (unwrap_or (w.given r) (replicate (f r).input.len 0)) ≡ (f r).input.len
    go None e = ap (λ o. length (unwrap_or o (replicate (f r).input.len 0))) e ∙ length-replicate {A = ℕ} (f r).input.len 0
    go (Some bytes) e = ap (λ o. length (unwrap_or o (replicate (f r).input.len 0))) e ∙ t.lengths r bytes e

members_put : (n : ℕ) (f : Family) (given : ℕ → Option (List ℕ)) (progress : ℕ → Option Progress) (r : ℕ) (o : Option Progress)
    → ((p : Progress) → o ≡ Some p → OnTrack n f given r p)
    → ((s : ℕ) (p : Progress) → progress s ≡ Some p → OnTrack n f given s p) → (s : ℕ) (p : Progress) → put progress r o s ≡ Some p → OnTrack n f given s p
members_put n f given progress r o new old s p e = go (put_cases progress r o s (Some p) e)
  where
    go : ((s ≡ r) × (o ≡ Some p)) ⊎ ((s ≢ r) × (progress s ≡ Some p)) → OnTrack n f given s p
    go (inl k) = subst (λ i. OnTrack n f given i p) (sym k.0) (new p k.1)
    go (inr k) = old s p k.1

at_some : {X : Type 0} (P : X → Type 0) (x y : X) → P x → Some x ≡ Some y → P y
at_some P x y h e = subst P (same_Some x y e) h

pub tracks_empty : (n : ℕ) (f : Family) → Tracks n f empty
tracks_empty n f = record {
  lengths = λ r bytes e. absurd (none-some bytes e);
  bytes = λ r given e. absurd (none-some given e);
  members = λ r p e. absurd (none-some p e);
  in_transit = λ q r j bytes e. absurd (none-some bytes e);
  balanced = λ q r j. refl;
}

pub not_begun : (n : ℕ) (f : Family) (w : World) (r : ℕ) → Tracks n f w → w.given r ≡ None → w.progress r ≡ None
not_begun n f w r t none = go (w.progress r) refl
  where
    go : (o : Option Progress) → w.progress r ≡ o → w.progress r ≡ None
    go None e = e
    go (Some p) e = absurd ((t.members r p e).heard r (heard_self f p.round r) none)

pub tracks_join : (n : ℕ) (f : Family) (w : World) (r : ℕ) (bytes : List ℕ) → r < n → w.given r ≡ None
    → length bytes ≡ (f r).input.len → AreBytes bytes → Tracks n f w → Tracks n f (joined f w r bytes)
tracks_join n f w r bytes low none len are t = record {
  lengths = λ s bs e. lens s bs (put_cases w.given r (Some bytes) s (Some bs) e);
  bytes = λ s bs e. all_bytes s bs (put_cases w.given r (Some bytes) s (Some bs) e);
  members = members_put n f (put w.given r (Some bytes)) w.progress r (Some (record { round = 0; index = 0; buf = laid_in (f r) bytes }))
      (λ p e. at_some (OnTrack n f (put w.given r (Some bytes)) r) (record { round = 0; index = 0; buf = laid_in (f r) bytes }) p start e)
      (λ s p e. track_extends f w.given (put w.given r (Some bytes)) ext n s p (t.members s p e));
  in_transit = λ q s j bs e. transit_extends f w.given (put w.given r (Some bytes)) ext q s j bs (t.in_transit q s j bs e);
  balanced = balanced_join f w r bytes (not_begun n f w r t none) none t.balanced;
}
  where
    ext : Extends w.given (put w.given r (Some bytes))
    ext s h = put_other w.given r (Some bytes) s (λ e. h (ap w.given e ∙ none))

    lens : (s : ℕ) (bs : List ℕ) → ((s ≡ r) × (Some bytes ≡ Some bs)) ⊎ ((s ≢ r) × (w.given s ≡ Some bs)) → length bs ≡ (f s).input.len
    lens s bs (inl k) = ap length (sym (same_Some bytes bs k.1)) ∙ (len ∙ ap (λ i. (f i).input.len) (sym k.0))
    lens s bs (inr k) = t.lengths s bs k.1

    all_bytes : (s : ℕ) (bs : List ℕ) → ((s ≡ r) × (Some bytes ≡ Some bs)) ⊎ ((s ≢ r) × (w.given s ≡ Some bs)) → AreBytes bs
    all_bytes s bs (inl k) = subst AreBytes (same_Some bytes bs k.1) are
    all_bytes s bs (inr k) = t.bytes s bs k.1

    start : OnTrack n f (put w.given r (Some bytes)) r (record { round = 0; index = 0; buf = laid_in (f r) bytes })
    start = record {
      member = low;
      round_in = omega arith;
      index_in = omega arith;
      heard = λ s h e. none-some bytes (sym e ∙ (ap (put w.given r (Some bytes)) h ∙ put_same w.given r (Some bytes)));
      received = λ q s a h. absurd a;
      buffer = ap (λ o. laid_in (f r) (unwrap_or o (replicate (f r).input.len 0))) (sym (put_same w.given r (Some bytes)));
    }

pub tracks_turn : (n : ℕ) (f : Family) (w : World) (r : ℕ) (p : Progress) → w.progress r ≡ Some p
    → p.index ≡ length (actions_at f p.round r) → p.round < length (f r).rounds → Tracks n f w → Tracks n f (turned w r p)
tracks_turn n f w r p e i low t = record {
  lengths = t.lengths;
  bytes = t.bytes;
  members = members_put n f w.given w.progress r (Some (record { round = suc p.round; index = 0; buf = p.buf }))
      (λ q k. at_some (OnTrack n f w.given r) (record { round = suc p.round; index = 0; buf = p.buf }) q new k) t.members;
  in_transit = t.in_transit;
  balanced = balanced_turn f w r p e i t.balanced;
}
  where
    old : OnTrack n f w.given r p
    old = t.members r p e

    whole : take p.index (actions_at f p.round r) ≡ actions_at f p.round r
    whole = take_all p.index (actions_at f p.round r) (omega arith)

    reached : (s : ℕ) → Heard f (suc p.round) r s → w.given s ≢ None
    reached s (inl h) = old.heard s h
    reached s (inr h) = old.received h.0 s (subst (λ xs. Receives xs h.0) (sym whole) h.1) h.2

    new : OnTrack n f w.given r (record { round = suc p.round; index = 0; buf = p.buf })
    new = record {
      member = old.member;
      round_in = low;
      index_in = omega arith;
      heard = reached;
      received = λ q s a h. absurd a;
      buffer = old.buffer ∙ (ap (λ k. moment f (filled f w.given) p.round k r) i ∙ moment_end f (filled f w.given) p.round r);
    }

pub tracks_leave : (n : ℕ) (f : Family) (w : World) (r : ℕ) (p : Progress) → w.progress r ≡ Some p
    → p.round ≡ length (f r).rounds → Tracks n f w → Tracks n f (left w r)
tracks_leave n f w r p e i t = record {
  lengths = t.lengths;
  bytes = t.bytes;
  members = members_put n f w.given w.progress r None (λ q k. absurd (none-some q k)) t.members;
  in_transit = t.in_transit;
  balanced = balanced_leave f w r p e ((t.members r p e).heard r (heard_self f p.round r)) i t.balanced;
}

-- one action on: what is received besides, and the buffer
acted_track : (n : ℕ) (f : Family) (w : World) (r : ℕ) (p : Progress) (a : Action) (buf : List ℕ) → Tracks n f w
    → IsNext f w r p a → ((q s : ℕ) → IsRecvOf a q → Heard f p.round q s → w.given s ≢ None)
    → buf ≡ moment f (filled f w.given) p.round (suc p.index) r → OnTrack n f w.given r (record { round = p.round; index = suc p.index; buf = buf })
acted_track n f w r p a buf t next new e = record {
  member = old.member;
  round_in = old.round_in;
  index_in = slice_get_within (actions_at f p.round r) p.index a next.1;
  heard = old.heard;
  received = λ q s h k. from q s k (receives_next (actions_at f p.round r) p.index a q next.1 h);
  buffer = e;
}
  where
    old : OnTrack n f w.given r p
    old = t.members r p next.0

    from : (q s : ℕ) → Heard f p.round q s → Receives (take p.index (actions_at f p.round r)) q ⊎ IsRecvOf a q → w.given s ≢ None
    from q s k (inl h) = old.received q s h k
    from q s k (inr h) = new q s h k

module _ (n : ℕ) (f : Family) (lawful : IsLawful n f) (w : World) (t : Tracks n f w) (r : ℕ) (p : Progress) where
  -- one action over the buffer as it stands, with the messages of lock-step
  next_moment : (a : Action) → IsNext f w r p a
      → wrote (messages f (filled f w.given) p.round r) p.buf a p.buf ≡ moment f (filled f w.given) p.round (suc p.index) r
  next_moment a next =
      let old : OnTrack n f w.given r p = t.members r p next.0 in
      ap (λ b. wrote (messages f (filled f w.given) p.round r) b a b) old.buffer
      ∙ sym (moment_next n f lawful (filled f w.given) (filled_fits n f w t) p.round p.index r a old.member next.1)

  pub tracks_compute : (a : Action) → IsNext f w r p a → IsLocal a → Tracks n f (acted w r p (wrote (λ q. []) p.buf a p.buf) w.mail)
  tracks_compute a next loc = record {
    lengths = t.lengths;
    bytes = t.bytes;
    members = members_put n f w.given w.progress r (Some (record { round = p.round; index = suc p.index; buf = wrote (λ q. []) p.buf a p.buf }))
        (λ q k. at_some (OnTrack n f w.given r) (record { round = p.round; index = suc p.index; buf = wrote (λ q. []) p.buf a p.buf }) q
        (acted_track n f w r p a (wrote (λ q. []) p.buf a p.buf) t next (λ q s h k. absurd (no_recv a loc q h)) (no_message a loc ∙ next_moment a next)) k)
        t.members;
    in_transit = t.in_transit;
    balanced = balanced_compute f w r p a next (wrote (λ q. []) p.buf a p.buf) w.mail loc (λ q s j. refl) t.balanced;
  }
    where
      no_recv : (a : Action) → IsLocal a → (q : ℕ) → IsRecvOf a q → ⊥
      no_recv (Send to from) l q h = l
      no_recv (Copy from into) l q h = h
      no_recv (Combine op ty x y into) l q h = h
      no_recv (Recv of into) l q h = l

      no_message : (a : Action) → IsLocal a → wrote (λ q. []) p.buf a p.buf ≡ wrote (messages f (filled f w.given) p.round r) p.buf a p.buf
      no_message (Send to from) l = absurd l
      no_message (Copy from into) l = refl
      no_message (Combine op ty x y into) l = refl
      no_message (Recv of into) l = absurd l

  pub tracks_send : (to : ℕ) (from : Region) → IsNext f w r p (Send to from)
      → Tracks n f (acted w r p p.buf (put_mail w.mail r to p.round (Some (read_of p.buf from))))
  tracks_send to from next = record {
    lengths = t.lengths;
    bytes = t.bytes;
    members = members_put n f w.given w.progress r (Some (record { round = p.round; index = suc p.index; buf = p.buf }))
        (λ q k. at_some (OnTrack n f w.given r) (record { round = p.round; index = suc p.index; buf = p.buf }) q
        (acted_track n f w r p (Send to from) p.buf t next (λ q s h k. absurd h) (next_moment (Send to from) next)) k) t.members;
    in_transit = λ q s j bs e. either q s j bs e (put_mail_cases w.mail r to p.round (Some (read_of p.buf from)) q s j);
    balanced = balanced_send f w r p to from (read_of p.buf from)
        ((round_at (f r) (lawful.schedules r (t.members r p next.0).member) p.round).follows) next t.balanced;
  }
    where
      message : InTransit f w.given r to p.round (read_of p.buf from)
      message =
          let old : OnTrack n f w.given r p = t.members r p next.0 in
          record {
            is = ap (λ b. read_of b from) old.buffer
                ∙ ((reads_at_moment n f lawful (filled f w.given) (filled_fits n f w t) p.round p.index r (Send to from) old.member next.1).0
                ∙ sym (ap (read_at (lock_step f (filled f w.given) p.round r))
                (out_link_at (actions_at f p.round r) p.index to from ((round_at (f r) (lawful.schedules r old.member) p.round).follows) next.1)));
            heard = old.heard;
          }

      either : (q s j : ℕ) (bs : List ℕ) → put_mail w.mail r to p.round (Some (read_of p.buf from)) q s j ≡ Some bs
          → ((q ≡ r) × (s ≡ to) × (j ≡ p.round) × (put_mail w.mail r to p.round (Some (read_of p.buf from)) q s j ≡ Some (read_of p.buf from)))
          ⊎ (((q ≡ r) × (s ≡ to) × (j ≡ p.round) → ⊥) × (put_mail w.mail r to p.round (Some (read_of p.buf from)) q s j ≡ w.mail q s j))
          → InTransit f w.given q s j bs
      either q s j bs e (inl k) =
          at_key (λ q s j. InTransit f w.given q s j bs) q s j r to p.round k.0 k.1 k.2
          (at_some (InTransit f w.given r to p.round) (read_of p.buf from) bs message (sym k.3 ∙ e))
      either q s j bs e (inr k) = t.in_transit q s j bs (sym k.1 ∙ e)

  pub tracks_receive : (of : ℕ) (into : Region) (bytes : List ℕ) → IsNext f w r p (Recv of into)
      → w.mail of r p.round ≡ Some bytes → Tracks n f (acted w r p (written p.buf into bytes) (put_mail w.mail of r p.round None))
  tracks_receive of into bytes next stands = record {
    lengths = t.lengths;
    bytes = t.bytes;
    members = members_put n f w.given w.progress r (Some (record { round = p.round; index = suc p.index; buf = written p.buf into bytes }))
        (λ q k. at_some (OnTrack n f w.given r) (record { round = p.round; index = suc p.index; buf = written p.buf into bytes }) q
        (acted_track n f w r p (Recv of into) (written p.buf into bytes) t next
        (λ q s h k. message.heard s (subst (λ i. Heard f p.round i s) (sym h) k))
        (ap (λ b. written p.buf into b) message.is ∙ next_moment (Recv of into) next)) k) t.members;
    in_transit = λ q s j bs e. either q s j bs e (put_mail_cases w.mail of r p.round None q s j);
    balanced = balanced_receive f w r p of into bytes (written p.buf into bytes) next stands t.balanced;
  }
    where
      message : InTransit f w.given of r p.round bytes
      message = t.in_transit of r p.round bytes stands

      either : (q s j : ℕ) (bs : List ℕ) → put_mail w.mail of r p.round None q s j ≡ Some bs
          → ((q ≡ of) × (s ≡ r) × (j ≡ p.round) × (put_mail w.mail of r p.round None q s j ≡ None))
          ⊎ (((q ≡ of) × (s ≡ r) × (j ≡ p.round) → ⊥) × (put_mail w.mail of r p.round None q s j ≡ w.mail q s j))
          → InTransit f w.given q s j bs
      either q s j bs e (inl k) = absurd (none-some bs (sym k.3 ∙ e))
      either q s j bs e (inr k) = t.in_transit q s j bs (sym k.1 ∙ e)

pub keeps : (n : ℕ) (f : Family) → IsLawful n f → {w v : World} → Step n f w v → Tracks n f w → Tracks n f v
keeps n f lawful (join {w = w} r bytes low none len are) t = tracks_join n f w r bytes low none len are t
keeps n f lawful (send {w = w} r p to from next) t = tracks_send n f lawful w t r p to from next
keeps n f lawful (compute {w = w} r p a next loc) t = tracks_compute n f lawful w t r p a next loc
keeps n f lawful (receive {w = w} r p of into bytes next stands) t = tracks_receive n f lawful w t r p of into bytes next stands
keeps n f lawful (turn {w = w} r p e i low) t = tracks_turn n f w r p e i low t
keeps n f lawful (leave {w = w} r p e i) t = tracks_leave n f w r p e i t

pub tracks : (n : ℕ) (f : Family) → IsLawful n f → {w : World} → Reached n f w → Tracks n f w
tracks n f lawful begun = tracks_empty n f
tracks n f lawful (stepped before step) = keeps n f lawful step (tracks n f lawful before)

pub holds : (n : ℕ) (f : Family) → IsLawful n f → (w : World) → Tracks n f w → Holds n f w
holds n f lawful w t = record {
  results = λ r p e i. (result r p e i, λ s h. (t.members r p e).heard s (subst (λ k. Heard f k r s) (sym i) h));
  operands = λ r p op ty a b into next. both_read r p op ty a b into next;
  sizes = λ r p e. ap length (t.members r p e).buffer
      ∙ length_moment n f lawful (filled f w.given) (filled_fits n f w t) p.round p.index r (t.members r p e).member;
  takes = λ r p of into bytes next e. fits r p of into bytes next e;
  free = λ r p to from next. none_standing (w.mail r to p.round)
      (none_in_transit f w r p to from ((round_at (f r) (lawful.schedules r (t.members r p next.0).member) p.round).follows) next t.balanced);
  standing_is = λ q r j bytes low e. standing_counts f w q r j bytes ((round_at (f q) (lawful.schedules q low) j).follows) t.balanced e;
}
  where
    fits : (r : ℕ) (p : Progress) (of : ℕ) (into : Region) (bytes : List ℕ) → IsNext f w r p (Recv of into)
        → w.mail of r p.round ≡ Some bytes → length bytes ≡ into.len
    fits r p of into bytes next e =
        ap length (t.in_transit of r p.round bytes e).is
        ∙ all_at (MessageFits (messages f (filled f w.given) p.round r)) (actions_at f p.round r) p.index (Recv of into)
        (message_fits n f lawful (filled f w.given) p.round r (t.members r p next.0).member
        (λ q h. length_lock_step n f lawful (filled f w.given) (filled_fits n f w t) p.round q h)) next.1

    result : (r : ℕ) (p : Progress) → w.progress r ≡ Some p → p.round ≡ length (f r).rounds → read_of p.buf (f r).output ≡ result_at f (filled f w.given) r
    result r p e i =
        ap (λ b. read_of b (f r).output)
        ((t.members r p e).buffer ∙ (moment_past f (filled f w.given) p.round p.index r (omega arith) ∙ ap (λ j. lock_step f (filled f w.given) j r) i))

    both_read : (r : ℕ) (p : Progress) (op : Op) (ty : Datatype) (a b into : Region) → IsNext f w r p (Combine op ty a b into)
        → (read_of p.buf a ≡ read_of (lock_step f (filled f w.given) p.round r) a) × (read_of p.buf b ≡ read_of (lock_step f (filled f w.given) p.round r) b)
    both_read r p op ty a b into next =
        let old : OnTrack n f w.given r p = t.members r p next.0 in
        let same = reads_at_moment n f lawful (filled f w.given) (filled_fits n f w t) p.round p.index r (Combine op ty a b into) old.member next.1 in
        (ap (λ x. read_of x a) old.buffer ∙ same.0, ap (λ x. read_of x b) old.buffer ∙ same.1.0)

pub heart_holds : Heart
heart_holds n f lawful w reached = holds n f lawful w (tracks n f lawful reached)
