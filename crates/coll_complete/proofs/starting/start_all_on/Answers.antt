use Rattle.std.proofs.Common.{◌≡◌, ◌<◌, length, arith, sym, ◌∙◌}
use Rattle.coll_complete.proofs.Starts.{begun-at, given-set, refuses-at, starts-all, starts-more}
use Rattle.coll_complete.proofs.starting.start_all_on.Goals as goal

pub returns-in-Err-clause-refused : goal.returns-in-Err-clause-refused
returns-in-Err-clause-refused g c =
    let list = c.args.requests.now in
    let given = c.args.given.items in
    let now = c.loop-at.given.items in
    let long : length list ≡ length given = sym c.requires ∙ c.args.given.ok.0 in
    refuses-at (g.C.Requests.Denies c.start_one.new.core) c.args.rank _ _ c.in-Err.why
    (begun-at list given now c.loop-at.at c.index-requests-at.result c.index_mut.result.now c.loop-at.invariant.given
    long c.loop-at-test.true c.index-requests-at.is c.index_mut.ensures.value)
    c.in-Err.ensures.refused

pub loop-at-preserved : goal.loop-at-preserved
loop-at-preserved g c =
    let list = c.args.requests.now in
    let given = c.args.given.items in
    let now = c.loop-at.given.items in
    let i = c.loop-at.at in
    let long : length list ≡ length given = sym c.requires ∙ c.args.given.ok.0 in
    let low : i < length given = omega arith in
    record {
      set = c.start_one.ensures.setting ∙ c.loop-at.invariant.set;
      starts =
          starts-more (g.C.Requests.setting c.args.core.now) (g.C.Requests.setting c.loop-at.core) c.args.rank list given
          (g.C.Requests.machine c.args.core.now) (g.C.Requests.machine c.loop-at.core) (g.C.Requests.machine c.start_one.new.core) i _
          c.loop-at.invariant.set long c.loop-at-test.true c.loop-at.invariant.starts
          (begun-at list given now i c.index-requests-at.result c.index_mut.result.now c.loop-at.invariant.given long
          c.loop-at-test.true c.index-requests-at.is c.index_mut.ensures.value)
          c.in_default.ensures.starts;
      given = given-set given now i c.start_one.new.bytes c.loop-at.invariant.given low c.in_default.ensures.taken;
      long = c.loop-at.invariant.long;
    }

pub returns-clause-starts : goal.returns-clause-starts
returns-clause-starts g c =
    let given = c.args.given.items in
    let list = c.args.requests.now in
    let long : length list ≡ length given = sym c.requires ∙ c.args.given.ok.0 in
    starts-all (g.C.Requests.setting c.args.core.now) c.args.rank list given (g.C.Requests.machine c.args.core.now)
    (g.C.Requests.machine c.loop-at.core) c.loop-at.at long (omega arith) c.loop-at.invariant.starts
