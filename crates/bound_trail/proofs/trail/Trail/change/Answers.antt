use Rattle.std.proofs.Common.{◌<◌, length, arith}
use Rattle.bound_trail.proofs.Boxes.{opened, room_there, slot_there, changed_trail, changed_value}
use Rattle.bound_trail.proofs.trail.Trail.change.Goals as goal

pub index_mut-requires : goal.index_mut-requires
index_mut-requires c =
    let room : c.self.inside.mark < length c.self.inside.changes.items = room_there c.self.inside.mark c.self.inside.changes.items c.self.inside.pairs.items c.args.self.now
    (opened c.self.inside.mark c.self.inside.changes.items c.self.inside.pairs.items c.args.self.now c.self.view_is c.self.invariant)
    c.args.slot c.args.pair c.args.pair c.requires.room in
    omega (arith, room)

pub index_mut-requires-2 : goal.index_mut-requires-2
index_mut-requires-2 c =
    let there : c.args.slot < length c.self.inside.pairs.items = slot_there c.self.inside.mark c.self.inside.changes.items c.self.inside.pairs.items c.args.self.now
    (opened c.self.inside.mark c.self.inside.changes.items c.self.inside.pairs.items c.args.self.now c.self.view_is c.self.invariant)
    c.args.slot c.args.pair c.args.pair c.requires.slot in
    omega (arith, there)

pub overflow_add-self : goal.overflow_add-self
overflow_add-self c =
    let room : c.self.inside.mark < length c.self.inside.changes.items = room_there c.self.inside.mark c.self.inside.changes.items c.self.inside.pairs.items c.args.self.now
    (opened c.self.inside.mark c.self.inside.changes.items c.self.inside.pairs.items c.args.self.now c.self.view_is c.self.invariant)
    c.args.slot c.args.pair c.args.pair c.requires.room in
    omega (arith, room, c.self.invariant.few_changes)

pub invariant_of-self : goal.invariant_of-self
invariant_of-self c = changed_trail c.self.inside.mark c.self.inside.changes.items c.self.inside.pairs.items c.args.self.now
    (opened c.self.inside.mark c.self.inside.changes.items c.self.inside.pairs.items c.args.self.now c.self.view_is c.self.invariant)
    c.args.slot c.args.pair c.index-was.result.now c.requires.room c.requires.slot c.index-was.ensures c.requires.ordered

pub returns : goal.returns
returns c = changed_value c.self.inside.mark c.self.inside.changes.items c.self.inside.pairs.items c.args.self.now
    (opened c.self.inside.mark c.self.inside.changes.items c.self.inside.pairs.items c.args.self.now c.self.view_is c.self.invariant)
    c.args.slot c.args.pair c.index-was.result.now c.requires.room c.requires.slot c.index-was.ensures
