use Rattle.std.proofs.Common.{◌∙◌, ap, arith}
use Rattle.wake_ring.specs.Queue.{is_in}
use Rattle.seeded_search.specs.Rooms.{Marked}
use Rattle.seeded_search.proofs.MarkLists.{mark_room, mark_more}
use Rattle.seeded_search.proofs.marks.Marks.mark.Goals as goal

pub push_reserved-requires : goal.push_reserved-requires
push_reserved-requires c =
    omega (
      arith,
      c.self.inside.listed.ok.0,
      mark_room _ _ _ c.self.invariant c.args.number (omega (arith, c.requires.below, ap (λ (m : Marked). m.bound) c.self.view_is))
          (ap (λ (m : Marked). is_in c.args.number m.listed) c.self.view_is ∙ c.requires.new),
    )

pub invariant_of-self : goal.invariant_of-self
invariant_of-self c =
    mark_more _ _ _ c.self.invariant c.args.number (omega (arith, c.requires.below, ap (λ (m : Marked). m.bound) c.self.view_is))
    (ap (λ (m : Marked). is_in c.args.number m.listed) c.self.view_is ∙ c.requires.new) _ _ c.push_reserved.ensures.items c.push_reserved.ensures.capacity
