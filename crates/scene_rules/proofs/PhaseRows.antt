-- Rows of rules on the members of phases, one member after another.
use Rattle.std.proofs.Common.{◌≡◌, ℕ, ◌+◌, ◌<◌, sym, ap, ◌∙◌, List, [], ◌∷◌, ◌++◌, drop, length, get_or}
use Rattle.std.specs.Prelude.{pos}
use Rattle.std.proofs.lemmas.List.{append_assoc, drop_more}
use Rattle.osc_base.specs.declared.path.Path.{Path}
use Rattle.osc_base.specs.declared.listing.SlotName.{SlotName}
use Rattle.box_eval.specs.FlatRules.{FlatTerm, FlatRule, Equal, Slot, Whole, under}
use Rattle.rule_parts.specs.field_flatten.Shapes.{Layout, phase_start, phase_end}
use Rattle.rule_parts.specs.field_flatten.Rules.{follow_rules, chosen_rules, span_rule}

module _ (at : Layout) (members : List Path) (i : ℕ) (m : Path) (less : i < length members) (is : m ≡ get_or members i m) where
  rest_is : drop i members ≡ m ∷ drop (i + 1) members
  rest_is = drop_more members i m less ∙ ap (λ p. p ∷ drop (i + 1) members) (sym is)

  -- one that follows
  pub follow_more : (from next to : FlatTerm) (row new all : List FlatRule) → new ≡ row ++ Equal from (phase_start at m) ∷ [] → next ≡ phase_end at m
      → row ++ follow_rules at from to (drop i members) ≡ all → new ++ follow_rules at next to (drop (i + 1) members) ≡ all
  follow_more from next to row new all pushed end before =
      ap (λ rs. rs ++ follow_rules at next to (drop (i + 1) members)) pushed ∙ append_assoc row (Equal from (phase_start at m) ∷ []) (follow_rules at next to (drop (i + 1) members))
      ∙ ap (λ t. row ++ Equal from (phase_start at m) ∷ follow_rules at t to (drop (i + 1) members)) end
      ∙ ap (λ ps. row ++ follow_rules at from to ps) (sym rest_is) ∙ before

  -- one that may be chosen
  pub chosen_more : (whole : Path) (rule : FlatRule) (row new all : List FlatRule) → rule ≡ under (Equal (Slot (at.slot (SlotName.Choice whole))) (Whole (pos i)) ∷ []) (span_rule at m whole)
      → new ≡ row ++ rule ∷ [] → row ++ chosen_rules at whole i (drop i members) ≡ all → new ++ chosen_rules at whole (i + 1) (drop (i + 1) members) ≡ all
  chosen_more whole rule row new all made pushed before =
      ap (λ rs. rs ++ chosen_rules at whole (i + 1) (drop (i + 1) members)) pushed ∙ append_assoc row (rule ∷ []) (chosen_rules at whole (i + 1) (drop (i + 1) members))
      ∙ ap (λ r. row ++ r ∷ chosen_rules at whole (i + 1) (drop (i + 1) members)) made
      ∙ ap (λ ps. row ++ chosen_rules at whole i ps) (sym rest_is) ∙ before
