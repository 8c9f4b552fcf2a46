use Rattle.std.proofs.Common.{◌≡◌, ◌+◌, ◌<◌, ℕ, length, vec_capacity, vec_len, arith, sym, subst, ◌∙◌}
use Rattle.coll_complete.proofs.Starts.{begun-at, given-set}
use Rattle.coll_traced.specs.Calls.{IsStarted}
use Rattle.coll_traced.specs.Denials.{DeniesStart}
use Rattle.coll_shared.proofs.Starts.{denies-at, starts-all, starts-more}
use Rattle.coll_shared.proofs.port.Port.start_all.Goals as goal

pub push_reserved-requires : goal.push_reserved-requires
push_reserved-requires g c =
    omega (arith, c.loop-at.invariant.shown, c.loop-at.invariant.room, c.requires.room, c.loop-at-test.true)

pub loop-at-preserved : goal.loop-at-preserved
loop-at-preserved g c =
    let list = c.args.requests.now in
    let given = c.args.given.items in
    let now = c.loop-at.given.items in
    let i = c.loop-at.at in
    let was = c.loop-at.invariant in
    let told = c.in-Ok.ensures in
    let long : length list ≡ length given = sym c.requires.given ∙ c.args.given.ok.0 in
    let low : i < length given = omega (arith, long, c.loop-at-test.true) in
    let begun = begun-at list given now i c.index-requests-at.result c.index_mut.result.now was.given long c.loop-at-test.true
    c.index-requests-at.is c.index_mut.ensures.value in
    let started = subst (λ k. IsStarted k c.index-requests-at.result c.index_mut.result.now c.in-Ok.receipt) was.rank told.receipt in
    record {
      rank = told.rank ∙ was.rank;
      groups = told.groups ∙ was.groups;
      made = omega (arith, told.made, was.made);
      given = given-set given now i c.start_taking.new.bytes was.given low told.taken;
      long = was.long;
      starts =
          starts-more c.args.self.now.rank list given _ _ _ c.in-Ok.receipt i _ long c.loop-at-test.true was.starts begun
          started c.push_reserved.ensures.items;
      room = c.push_reserved.ensures.capacity ∙ was.room;
      shown = omega (arith, c.push_reserved.ensures.len, was.shown);
    }

pub returns-in-Err-clause-refused : goal.returns-in-Err-clause-refused
returns-in-Err-clause-refused g c =
    let list = c.args.requests.now in
    let given = c.args.given.items in
    let now = c.loop-at.given.items in
    let was = c.loop-at.invariant in
    let long : length list ≡ length given = sym c.requires.given ∙ c.args.given.ok.0 in
    let Denied : ℕ → ℕ → Type 0 = λ made rank.
    DeniesStart g.L.Entries.setting made rank c.index-requests-at.result c.index_mut.result.now c.in-Err.why in
    let there : Denied (c.args.self.now.made + c.loop-at.at) c.loop-at.self.rank =
    subst (λ made. Denied made c.loop-at.self.rank) was.made c.in-Err.ensures.refused in
    let denied : Denied (c.args.self.now.made + c.loop-at.at) c.args.self.now.rank =
    subst (λ rank. Denied (c.args.self.now.made + c.loop-at.at) rank) was.rank there in
    denies-at g.L.Entries.setting (c.args.self.now.made + c.loop-at.at) c.args.self.now.rank _ _ c.in-Err.why
    (begun-at list given now c.loop-at.at c.index-requests-at.result c.index_mut.result.now was.given long c.loop-at-test.true
    c.index-requests-at.is c.index_mut.ensures.value) denied

pub returns-clause-starts : goal.returns-clause-starts
returns-clause-starts g c =
    let given = c.args.given.items in
    let list = c.args.requests.now in
    let long : length list ≡ length given = sym c.requires.given ∙ c.args.given.ok.0 in
    starts-all c.args.self.now.rank list given _ _ c.loop-at.at long (omega arith) c.loop-at.invariant.starts
