use Rattle.std.proofs.Common.{◌≡◌, ◌∙◌, ap, subst, sym, List, ℕ, ◌++◌}
use Rattle.box_eval.specs.Reads.{slots_read, IsSlotList}
use Rattle.box_eval.proofs.SlotLists.{slot_list}
use Rattle.box_eval.proofs.slots.slots_of.Goals as goal

pub returns : goal.returns
returns c = subst (λ (slots : List ℕ). IsSlotList c.args.rule.now slots) (sym c.of.ensures)
    (slot_list c.args.rule.now c.push_slots.new.slots.items c.sort_unstable.new.self.items c.dedup.new.self.items
    (c.in_ok-push_slots.ensures ∙ ap (λ (xs : List ℕ). xs ++ slots_read c.args.rule.now) c.new-slots.ensures.items)
    c.sort_unstable.ensures.permutation c.sort_unstable.ensures.sorted c.dedup.ensures.filtered)
