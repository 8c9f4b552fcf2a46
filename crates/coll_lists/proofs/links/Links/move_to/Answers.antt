use Rattle.std.proofs.Common.{◌<◌, arith, length, set}
use Rattle.coll_lists.proofs.Changing.{Roomy-shown, Shows-walks, before_low, behind_low, moves_back, moves_front, next_low, prev_low, read_as}
use Rattle.coll_lists.proofs.Changing.{lens_shown, list_low, read_low}
use Rattle.coll_lists.proofs.Showing.{Closed-set}
use Rattle.coll_lists.proofs.Values.{walks-shown}
use Rattle.std.proofs.lemmas.List.{length-set}
use Rattle.coll_lists.proofs.links.Links.move_to.Goals as goal
use Rattle.coll_lists.proofs.links.Links.move_to.Goals.{in-Front, in-Back}

pub invariant_of-self : goal.invariant_of-self
invariant_of-self c =
    elim c.match-end.branch [
      | in-Front w ↦ Shows-walks c.enter.new.self.next.items c.enter.new.self.prev.items c.enter.new.self.list.items
          c.enter.new.self.len.items _
          (moves_front c.self.inside.columns.next.items c.self.inside.columns.prev.items c.self.inside.columns.list.items
          c.self.inside.columns.len.items _ c.args.self.now c.self.invariant c.self.view_is c.args.node c.args.list
          c.requires.node_in c.requires.list_in c.index-before.result.now c.index-behind.result.now c.head-head.result
          c.match-end.left c.index-before.ensures c.index-behind.ensures c.head-head.ensures c.index-right.result.now
          c.index-right.ensures c.enter.new.self.next.items c.enter.new.self.prev.items c.enter.new.self.list.items
          c.enter.new.self.len.items c.enter.ensures.next c.enter.ensures.prev c.enter.ensures.list c.enter.ensures.len w.left-is)
      | in-Back w ↦ Shows-walks c.enter.new.self.next.items c.enter.new.self.prev.items c.enter.new.self.list.items
          c.enter.new.self.len.items _
          (moves_back c.self.inside.columns.next.items c.self.inside.columns.prev.items c.self.inside.columns.list.items
          c.self.inside.columns.len.items _ c.args.self.now c.self.invariant c.self.view_is c.args.node c.args.list
          c.requires.node_in c.requires.list_in c.index-before.result.now c.index-behind.result.now c.head-head.result
          c.match-end.left c.index-before.ensures c.index-behind.ensures c.head-head.ensures c.index-right.result.now
          c.index-right.ensures c.enter.new.self.next.items c.enter.new.self.prev.items c.enter.new.self.list.items
          c.enter.new.self.len.items c.enter.ensures.next c.enter.ensures.prev c.enter.ensures.list c.enter.ensures.len
          (read_as (set c.self.inside.columns.prev.items c.index-behind.result.now c.index-before.result.now) c.head-head.result
          w.index.result.now c.match-end.left w.left-is w.index.ensures))
    ]

pub returns-clause-back : goal.returns-clause-back
returns-clause-back c = λ back.
    elim c.match-end.branch [
      | in-Front w ↦ absurd (let front = w.in-Front.is in cc)
      | in-Back w ↦ walks-shown c.enter.new.self.next.items c.enter.new.self.prev.items c.enter.new.self.list.items
          c.enter.new.self.len.items _
          (moves_back c.self.inside.columns.next.items c.self.inside.columns.prev.items c.self.inside.columns.list.items
          c.self.inside.columns.len.items _ c.args.self.now c.self.invariant c.self.view_is c.args.node c.args.list
          c.requires.node_in c.requires.list_in c.index-before.result.now c.index-behind.result.now c.head-head.result
          c.match-end.left c.index-before.ensures c.index-behind.ensures c.head-head.ensures c.index-right.result.now
          c.index-right.ensures c.enter.new.self.next.items c.enter.new.self.prev.items c.enter.new.self.list.items
          c.enter.new.self.len.items c.enter.ensures.next c.enter.ensures.prev c.enter.ensures.list c.enter.ensures.len
          (read_as (set c.self.inside.columns.prev.items c.index-behind.result.now c.index-before.result.now) c.head-head.result
          w.index.result.now c.match-end.left w.left-is w.index.ensures))
    ]

pub returns-clause-front : goal.returns-clause-front
returns-clause-front c = λ front.
    elim c.match-end.branch [
      | in-Front w ↦ walks-shown c.enter.new.self.next.items c.enter.new.self.prev.items c.enter.new.self.list.items
          c.enter.new.self.len.items _
          (moves_front c.self.inside.columns.next.items c.self.inside.columns.prev.items c.self.inside.columns.list.items
          c.self.inside.columns.len.items _ c.args.self.now c.self.invariant c.self.view_is c.args.node c.args.list
          c.requires.node_in c.requires.list_in c.index-before.result.now c.index-behind.result.now c.head-head.result
          c.match-end.left c.index-before.ensures c.index-behind.ensures c.head-head.ensures c.index-right.result.now
          c.index-right.ensures c.enter.new.self.next.items c.enter.new.self.prev.items c.enter.new.self.list.items
          c.enter.new.self.len.items c.enter.ensures.next c.enter.ensures.prev c.enter.ensures.list c.enter.ensures.len w.left-is)
      | in-Back w ↦ absurd (let back = w.in-Back.is in cc)
    ]

pub index-before-requires : goal.index-before-requires
index-before-requires c = let low : c.args.node < length c.self.inside.columns.prev.items =
    prev_low c.self.inside.columns.next.items c.self.inside.columns.prev.items c.self.inside.columns.list.items
    c.self.inside.columns.len.items _ c.args.self.now c.self.invariant c.self.view_is c.args.node c.args.list c.requires.node_in
    c.requires.list_in in omega arith

pub index-behind-requires : goal.index-behind-requires
index-behind-requires c = let low : c.args.node < length c.self.inside.columns.next.items =
    next_low c.self.inside.columns.next.items c.self.inside.columns.prev.items c.self.inside.columns.list.items
    c.self.inside.columns.len.items _ c.args.self.now c.self.invariant c.self.view_is c.args.node c.args.list c.requires.node_in
    c.requires.list_in in omega arith

pub index_mut-requires : goal.index_mut-requires
index_mut-requires c = let low : c.index-before.result.now < length c.self.inside.columns.next.items =
    before_low c.self.inside.columns.next.items c.self.inside.columns.prev.items c.self.inside.columns.list.items
    c.self.inside.columns.len.items _ c.args.self.now c.self.invariant c.self.view_is c.args.node c.args.list c.requires.node_in
    c.requires.list_in c.index-before.result.now c.index-before.ensures in omega arith

pub index_mut-requires-2 : goal.index_mut-requires-2
index_mut-requires-2 c = let low : c.index-behind.result.now < length c.self.inside.columns.prev.items =
    behind_low c.self.inside.columns.next.items c.self.inside.columns.prev.items c.self.inside.columns.list.items
    c.self.inside.columns.len.items _ c.args.self.now c.self.invariant c.self.view_is c.args.node c.args.list c.requires.node_in
    c.requires.list_in c.index-behind.result.now c.index-behind.ensures in omega arith

pub index_mut-requires-4 : goal.index_mut-requires-4
index_mut-requires-4 c = let low : c.args.node < length c.self.inside.columns.next.items =
    next_low c.self.inside.columns.next.items c.self.inside.columns.prev.items c.self.inside.columns.list.items
    c.self.inside.columns.len.items _ c.args.self.now c.self.invariant c.self.view_is c.args.node c.args.list c.requires.node_in
    c.requires.list_in in omega (arith, c.self.inside.columns.next.ok)

pub index_mut-requires-5 : goal.index_mut-requires-5
index_mut-requires-5 c = let low : c.args.node < length c.self.inside.columns.prev.items =
    prev_low c.self.inside.columns.next.items c.self.inside.columns.prev.items c.self.inside.columns.list.items
    c.self.inside.columns.len.items _ c.args.self.now c.self.invariant c.self.view_is c.args.node c.args.list c.requires.node_in
    c.requires.list_in in omega (arith, c.self.inside.columns.prev.ok)

pub enter-requires-clause-node_in : goal.enter-requires-clause-node_in
enter-requires-clause-node_in c =
    (Roomy-shown c.self.inside.columns.next.items c.self.inside.columns.prev.items c.self.inside.columns.list.items
    c.self.inside.columns.len.items _ c.args.self.now c.self.invariant c.self.view_is c.args.node c.args.list c.requires.node_in c.requires.list_in).node_in

pub enter-requires-clause-some : goal.enter-requires-clause-some
enter-requires-clause-some c =
    (Roomy-shown c.self.inside.columns.next.items c.self.inside.columns.prev.items c.self.inside.columns.list.items
    c.self.inside.columns.len.items _ c.args.self.now c.self.invariant c.self.view_is c.args.node c.args.list c.requires.node_in c.requires.list_in).some

pub enter-requires-clause-room : goal.enter-requires-clause-room
enter-requires-clause-room c =
    (Roomy-shown c.self.inside.columns.next.items c.self.inside.columns.prev.items c.self.inside.columns.list.items
    c.self.inside.columns.len.items _ c.args.self.now c.self.invariant c.self.view_is c.args.node c.args.list c.requires.node_in c.requires.list_in).room

pub index-right-requires : goal.index-right-requires
index-right-requires c =
    let lens = lens_shown c.self.inside.columns.next.items c.self.inside.columns.prev.items c.self.inside.columns.list.items
    c.self.inside.columns.len.items _ c.args.self.now c.self.invariant c.self.view_is c.args.node c.args.list c.requires.node_in c.requires.list_in in
    let node_prev : c.args.node < length c.self.inside.columns.prev.items =
    prev_low c.self.inside.columns.next.items c.self.inside.columns.prev.items c.self.inside.columns.list.items
    c.self.inside.columns.len.items _ c.args.self.now c.self.invariant c.self.view_is c.args.node c.args.list c.requires.node_in c.requires.list_in in
    let node_next : c.args.node < length c.self.inside.columns.next.items =
    next_low c.self.inside.columns.next.items c.self.inside.columns.prev.items c.self.inside.columns.list.items
    c.self.inside.columns.len.items _ c.args.self.now c.self.invariant c.self.view_is c.args.node c.args.list c.requires.node_in c.requires.list_in in
    let before_in : c.index-before.result.now < length c.self.inside.columns.next.items =
    before_low c.self.inside.columns.next.items c.self.inside.columns.prev.items c.self.inside.columns.list.items
    c.self.inside.columns.len.items _ c.args.self.now c.self.invariant c.self.view_is c.args.node c.args.list
    c.requires.node_in c.requires.list_in c.index-before.result.now c.index-before.ensures in
    let behind_in : c.index-behind.result.now < length c.self.inside.columns.prev.items =
    behind_low c.self.inside.columns.next.items c.self.inside.columns.prev.items c.self.inside.columns.list.items
    c.self.inside.columns.len.items _ c.args.self.now c.self.invariant c.self.view_is c.args.node c.args.list
    c.requires.node_in c.requires.list_in c.index-behind.result.now c.index-behind.ensures in
    let list_in : c.args.list < length c.self.inside.columns.len.items =
    list_low c.self.inside.columns.next.items c.self.inside.columns.prev.items c.self.inside.columns.list.items
    c.self.inside.columns.len.items _ c.args.self.now c.self.invariant c.self.view_is c.args.node c.args.list c.requires.node_in c.requires.list_in in
    let left_in : c.match-end.left < length c.self.inside.columns.next.items =
    elim c.match-end.branch [
      | in-Front w ↦ omega (arith, w.left-is)
      | in-Back w ↦
          let low = read_low _ _ _ w.index.ensures (simp length-set (omega arith)) (Closed-set _ _ _ (omega arith) c.self.invariant.prev_in) in
          omega (arith, w.left-is, simp length-set at low)
    ] in
    omega (arith, c.self.inside.columns.next.ok)

pub index_mut-requires-3 : goal.index_mut-requires-3
index_mut-requires-3 c =
    let lens = lens_shown c.self.inside.columns.next.items c.self.inside.columns.prev.items c.self.inside.columns.list.items
    c.self.inside.columns.len.items _ c.args.self.now c.self.invariant c.self.view_is c.args.node c.args.list c.requires.node_in c.requires.list_in in
    let node_prev : c.args.node < length c.self.inside.columns.prev.items =
    prev_low c.self.inside.columns.next.items c.self.inside.columns.prev.items c.self.inside.columns.list.items
    c.self.inside.columns.len.items _ c.args.self.now c.self.invariant c.self.view_is c.args.node c.args.list c.requires.node_in c.requires.list_in in
    let node_next : c.args.node < length c.self.inside.columns.next.items =
    next_low c.self.inside.columns.next.items c.self.inside.columns.prev.items c.self.inside.columns.list.items
    c.self.inside.columns.len.items _ c.args.self.now c.self.invariant c.self.view_is c.args.node c.args.list c.requires.node_in c.requires.list_in in
    let before_in : c.index-before.result.now < length c.self.inside.columns.next.items =
    before_low c.self.inside.columns.next.items c.self.inside.columns.prev.items c.self.inside.columns.list.items
    c.self.inside.columns.len.items _ c.args.self.now c.self.invariant c.self.view_is c.args.node c.args.list
    c.requires.node_in c.requires.list_in c.index-before.result.now c.index-before.ensures in
    let behind_in : c.index-behind.result.now < length c.self.inside.columns.prev.items =
    behind_low c.self.inside.columns.next.items c.self.inside.columns.prev.items c.self.inside.columns.list.items
    c.self.inside.columns.len.items _ c.args.self.now c.self.invariant c.self.view_is c.args.node c.args.list
    c.requires.node_in c.requires.list_in c.index-behind.result.now c.index-behind.ensures in
    let list_in : c.args.list < length c.self.inside.columns.len.items =
    list_low c.self.inside.columns.next.items c.self.inside.columns.prev.items c.self.inside.columns.list.items
    c.self.inside.columns.len.items _ c.args.self.now c.self.invariant c.self.view_is c.args.node c.args.list c.requires.node_in c.requires.list_in in
    let left_in : c.match-end.left < length c.self.inside.columns.next.items =
    elim c.match-end.branch [
      | in-Front w ↦ omega (arith, w.left-is)
      | in-Back w ↦
          let low = read_low _ _ _ w.index.ensures (simp length-set (omega arith)) (Closed-set _ _ _ (omega arith) c.self.invariant.prev_in) in
          omega (arith, w.left-is, simp length-set at low)
    ] in
    omega (arith, c.self.inside.columns.next.ok)

pub index_mut-requires-6 : goal.index_mut-requires-6
index_mut-requires-6 c =
    let lens = lens_shown c.self.inside.columns.next.items c.self.inside.columns.prev.items c.self.inside.columns.list.items
    c.self.inside.columns.len.items _ c.args.self.now c.self.invariant c.self.view_is c.args.node c.args.list c.requires.node_in c.requires.list_in in
    let node_prev : c.args.node < length c.self.inside.columns.prev.items =
    prev_low c.self.inside.columns.next.items c.self.inside.columns.prev.items c.self.inside.columns.list.items
    c.self.inside.columns.len.items _ c.args.self.now c.self.invariant c.self.view_is c.args.node c.args.list c.requires.node_in c.requires.list_in in
    let node_next : c.args.node < length c.self.inside.columns.next.items =
    next_low c.self.inside.columns.next.items c.self.inside.columns.prev.items c.self.inside.columns.list.items
    c.self.inside.columns.len.items _ c.args.self.now c.self.invariant c.self.view_is c.args.node c.args.list c.requires.node_in c.requires.list_in in
    let before_in : c.index-before.result.now < length c.self.inside.columns.next.items =
    before_low c.self.inside.columns.next.items c.self.inside.columns.prev.items c.self.inside.columns.list.items
    c.self.inside.columns.len.items _ c.args.self.now c.self.invariant c.self.view_is c.args.node c.args.list
    c.requires.node_in c.requires.list_in c.index-before.result.now c.index-before.ensures in
    let behind_in : c.index-behind.result.now < length c.self.inside.columns.prev.items =
    behind_low c.self.inside.columns.next.items c.self.inside.columns.prev.items c.self.inside.columns.list.items
    c.self.inside.columns.len.items _ c.args.self.now c.self.invariant c.self.view_is c.args.node c.args.list
    c.requires.node_in c.requires.list_in c.index-behind.result.now c.index-behind.ensures in
    let list_in : c.args.list < length c.self.inside.columns.len.items =
    list_low c.self.inside.columns.next.items c.self.inside.columns.prev.items c.self.inside.columns.list.items
    c.self.inside.columns.len.items _ c.args.self.now c.self.invariant c.self.view_is c.args.node c.args.list c.requires.node_in c.requires.list_in in
    let left_in : c.match-end.left < length c.self.inside.columns.next.items =
    elim c.match-end.branch [
      | in-Front w ↦ omega (arith, w.left-is)
      | in-Back w ↦
          let low = read_low _ _ _ w.index.ensures (simp length-set (omega arith)) (Closed-set _ _ _ (omega arith) c.self.invariant.prev_in) in
          omega (arith, w.left-is, simp length-set at low)
    ] in
    let low = read_low _ _ _ c.index-right.ensures (simp length-set (omega arith)) (Closed-set _ _ _ (omega arith) c.self.invariant.next_in) in
    omega (arith, c.self.inside.columns.prev.ok, simp length-set at low)
