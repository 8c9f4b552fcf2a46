-- What a schedule brings a job to.
use Rattle.std.proofs.Common.{◌≡◌, ℕ, suc, ◌<◌, Bool, true, false, cond, eqb}
use Rattle.std.proofs.Common.{List, length, set, Option, Some, refl, sym, ap, subst, ◌∙◌}
use Rattle.std.specs.Prelude.{slice_get, Vec}
use Rattle.std.specs.Global.{Global}
use Rattle.std.proofs.Math.Path.{fun_ext}
use Rattle.std.proofs.lemmas.Option.{slice_get_within}
use Rattle.coll_kinds.specs.Common.{put}
use Rattle.coll_match.proofs.Puts.{slice_get-set}
use Rattle.coll_machine.specs.Common.{AreGroups, Machine, Setting}
use Rattle.coll_parser.specs.declared.command.Command.{Command}
use Rattle.coll_parser.specs.Histories.{History}
use Rattle.coll_verdict.specs.Standings.{Carries, Standing, beginning, carried_out}
use Rattle.coll_verdict.specs.Stalls.{lines_of}
use Rattle.coll_core.specs.Configs.{idle}
use Rattle.coll_core.specs.Cores.{Parts, seen, setting}
use Rattle.coll_deadlock.specs.CoreLaws.{BeginsWhereOpened, GoesOnByCalls}
use Rattle.coll_deadlock.specs.Runs.{IsRunOf}
use Rattle.coll_replay.specs.declared.player.Player.{Player}
use Rattle.coll_replay.specs.Playing.{Advances, AreBeginners, AreLines, EndsThere, EngineGoesOn, GoesOn}
use Rattle.coll_replay.specs.Playing.{IsReplayed, StallsThere, at_in, commands_in, holding, holding_in, standing_of}
use Rattle.coll_replay.specs.Witnesses.{EndsInSome, StallsInSome}

-- ---- one rank in place of another

player_at : {X : Type 0} (f : Option Player → X) (players : List Player) (rank : ℕ) (new : Player) → rank < length players
    → (other : ℕ) → f (slice_get (set players rank new) other) ≡ put (λ k. f (slice_get players k)) rank (f (Some new)) other
player_at {X} f players rank new low other = ap f (slice_get-set players rank new low other) ∙ go (eqb other rank)
  where
    go : (b : Bool) → f (cond b (Some new) (slice_get players other)) ≡ cond b (f (Some new)) (f (slice_get players other))
    go true = refl
    go false = refl

ahead : (p : Parts) (m : Machine) (players : List Player) (rank : ℕ) (old new : Player) → slice_get players rank ≡ Some old → new.at ≡ suc old.at
    → carried_out (standing_of (seen p) players) rank m (holding new.held.items) ≡ standing_of m (set players rank new)
ahead p m players rank old new is at = λ z. record {
  machine = m;
  at = at_is z;
  holds = holds_is z;
}
  where
    low : rank < length players
    low = slice_get_within players rank old is

    next : at_in (Some new) ≡ suc (at_in (slice_get players rank))
    next = at ∙ ap (λ o. suc (at_in o)) (sym is)

    at_is : put (λ k. at_in (slice_get players k)) rank (suc (at_in (slice_get players rank))) ≡ (λ other. at_in (slice_get (set players rank new) other))
    at_is = fun_ext (λ other. ap (λ n. put (λ k. at_in (slice_get players k)) rank n other) (sym next) ∙ sym (player_at at_in players rank new low other))

    holds_is : put (λ k. holding_in (slice_get players k)) rank (holding new.held.items) ≡ (λ other. holding_in (slice_get (set players rank new) other))
    holds_is = fun_ext (λ other. sym (player_at holding_in players rank new low other))

pub carried : (lines : List (Vec Command Global)) (p r : Parts) (players : List Player) (rank : ℕ) (commands : Vec Command Global) (old new : Player)
    → GoesOnByCalls r
    → slice_get lines rank ≡ Some commands
    → slice_get players rank ≡ Some old
    → Advances p r rank commands.items old new
    → GoesOn lines p players r (set players rank new)
carried lines p r players rank commands old new law is was a = record {
  set = a.carries.set;
  run = λ f are run. subst (λ (s : Standing). IsRunOf r f s) (ahead p (seen r) players rank old new was a.at)
      (law p f (standing_of (seen p) players) rank a.command a.carries.mid (holding new.held.items) run a.carries.set (next f are)
      (carries f) a.carries.finish);
}
  where
    next : (f : ℕ → List Command) → AreLines lines f → slice_get (f rank) (at_in (slice_get players rank)) ≡ Some a.command
    next f are =
        ap (λ (cs : List Command). slice_get cs (at_in (slice_get players rank))) (sym (are rank) ∙ ap commands_in is)
        ∙ (ap (λ o. slice_get commands.items (at_in o)) was ∙ a.next)

    carries : (f : ℕ → List Command) → Carries (setting p) rank (seen p) (holding_in (slice_get players rank)) a.command a.carries.mid (holding new.held.items)
    carries f =
        subst (λ (o : Option Player). Carries (setting p) rank (seen p) (holding_in o) a.command a.carries.mid (holding new.held.items))
        (sym was) a.carries.carries

-- ---- the engine by itself

pub engine_goes_on : (lines : List (Vec Command Global)) (p r : Parts) (players : List Player) → EngineGoesOn p r → GoesOn lines p players r players
engine_goes_on lines p r players e = record { set = e.set; run = λ f are run. e.run f (standing_of (seen p) players) run }

pub engine_twice : (p q r : Parts) → EngineGoesOn p q → EngineGoesOn q r → EngineGoesOn p r
engine_twice p q r a b = record { set = b.set ∙ a.set; run = λ f s run. b.run f (record s { machine = seen q }) (a.run f s run) }

-- ---- the beginning

begins : (m : Machine) (players : List Player) → m ≡ beginning.machine → AreBeginners players → beginning ≡ standing_of m players
begins m players is are = λ z. record {
  machine = sym is z;
  at = at_is z;
  holds = holds_is z;
}
  where
    at_is : beginning.at ≡ (λ rank. at_in (slice_get players rank))
    at_is = fun_ext (λ rank. sym (are rank).0)

    holds_is : beginning.holds ≡ (λ rank. holding_in (slice_get players rank))
    holds_is = fun_ext (λ rank. sym (are rank).1)

pub opened : (h : History) (p : Parts) (lines : List (Vec Command Global)) (players : List Player)
    → BeginsWhereOpened → seen p ≡ idle → (setting p).groups ≡ h.groups → AreGroups (setting p) → AreLines lines (lines_of h) → AreBeginners players
    → IsReplayed h p lines players
opened h p lines players law is groups apart lines_are are = record {
  groups = groups;
  apart = apart;
  lines_are = lines_are;
  run = subst (λ (s : Standing). IsRunOf p (lines_of h) s) (begins (seen p) players is are) (law p (lines_of h) is);
}

-- ---- a whole schedule

pub followed : (h : History) (p r : Parts) (lines : List (Vec Command Global)) (old new : List Player) → GoesOn lines p old r new
    → IsReplayed h p lines old → IsReplayed h r lines new
followed h p r lines old new g i = record {
  groups = ap (λ (g : Setting). g.groups) g.set ∙ i.groups;
  apart = subst (λ (g : Setting). AreGroups g) (sym g.set) i.apart;
  lines_are = i.lines_are;
  run = g.run (lines_of h) i.lines_are i.run;
}

pub stalls : (h : History) (p : Parts) (lines : List (Vec Command Global)) (players : List Player) → IsReplayed h p lines players
    → StallsThere lines p players → StallsInSome h
stalls h p lines players i there = record {
  limits = setting p;
  groups = i.groups;
  standing = standing_of (seen p) players;
  reached = i.run.reached;
  stalled = there (lines_of h) i.lines_are i.apart i.run;
}

pub ends : (h : History) (p : Parts) (lines : List (Vec Command Global)) (players : List Player) → IsReplayed h p lines players
    → EndsThere lines players → EndsInSome h
ends h p lines players i there = record {
  limits = setting p;
  groups = i.groups;
  standing = standing_of (seen p) players;
  reached = i.run.reached;
  ended = there (lines_of h) (seen p) i.lines_are;
}

-- the same of lists that are known by other names
pub ended_at : (h : History) (p : Parts) (lines ls : List (Vec Command Global)) (players ps : List Player)
    → IsReplayed h p lines players → ls ≡ lines → ps ≡ players → EndsThere ls ps → EndsInSome h
ended_at h p lines ls players ps i same also there =
    ends h p lines players i
    (subst (λ (xs : List (Vec Command Global)). EndsThere xs players) same (subst (λ (xs : List Player). EndsThere ls xs) also there))
