use Rattle.std.proofs.Common.{ℕ}
use Rattle.dsl_spell.proofs.Places.{Left, furthers, suffixes, items}
use Rattle.dsl_spell.proofs.spell_expr.+spelling.Given as goal

abbrev pub invariant-push_further-parts : goal.invariant-push_further-parts
invariant-push_further-parts l = (n : ℕ) → Left (furthers n) l.rest l.next-index l.fn.w l.w

abbrev pub invariant-push_suffixes-suffixes : goal.invariant-push_suffixes-suffixes
invariant-push_suffixes-suffixes l = Left suffixes l.suffixes l.suffix-index l.fn.w l.w

abbrev pub invariant-push_items-others : goal.invariant-push_items-others
invariant-push_items-others l = Left items l.others l.item-index l.initial.w l.w
