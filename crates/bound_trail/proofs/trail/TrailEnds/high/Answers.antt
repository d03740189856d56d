use Rattle.std.proofs.Common.{◌≡◌, sym, ap, ◌∙◌, to_z, of_z, w64, rules}
use Rattle.box_eval.specs.Box.{high_at}
use Rattle.bound_trail.proofs.Boxes.{opened, present_is, slot_there, high_read}
use Rattle.bound_trail.proofs.trail.TrailEnds.high.Goals as goal

pub returns : goal.returns
returns c =
    let o = (opened c.self.inside.mark c.self.inside.changes.items c.self.inside.pairs.items c.args.self.now c.self.view_is c.self.invariant) in
    let same : to_z w64 (of_z w64 c.index.result.now.high) ≡ c.index.result.now.high = search rules in
    let is = present_is c.self.inside.mark c.self.inside.changes.items c.self.inside.pairs.items c.args.self.now o in
    let there = slot_there c.self.inside.mark c.self.inside.changes.items c.self.inside.pairs.items c.args.self.now o c.args.slot c.index.result.now c.index.result.now c.requires in
    same ∙ (high_read c.self.inside.pairs.items c.args.slot c.index.result.now there c.index.ensures ∙ ap (λ e. high_at e c.args.slot) (sym is))
