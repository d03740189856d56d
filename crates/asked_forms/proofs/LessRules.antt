-- Flat forms with rules put behind theirs, and with rules left out.
use Rattle.std.proofs.Common.{◌≡◌, ℕ, suc, ◌+◌, ◌≤◌, ◌<◌, ◌^◌, refl, sym, ap, subst, arith, inl, inr, List, [], ◌∷◌, ◌++◌, length, length-append}
use Rattle.std.specs.Prelude.{◌⊎◌}
use Rattle.box_eval.specs.declared.rule.Rule.{Rule}
use Rattle.box_eval.specs.declared.rule.Rule.TheOpen as O
use Rattle.box_eval.specs.declared.rule.Rule.TheFolds.{fold-roll-Rule}
use Rattle.box_eval.specs.declared.bounds.Pair.{Pair}
use Rattle.box_eval.specs.declared.flat.Flat.{Flat}
use Rattle.box_eval.specs.Rules.{CanJudge, AllFit, IsFlat}
use Rattle.box_eval.specs.Reach.{greatest_in_rule, slots_in_term, slot_bound, Judged, Seen, rule_judged, term_seen, reach_of}
use Rattle.asked_forms.specs.FormLaws.{no_rule, AreLess, AddedIsFlat, DroppedIsFlat}

-- ---- rules behind

fit_both : (ends : List Pair) (rules more : List Rule) → AllFit ends rules → AllFit ends more → AllFit ends (rules ++ more)
fit_both ends [] more all others = others
fit_both ends (r ∷ rs) more all others = (all.0, fit_both ends rs more all.1 others)

pub added_flat : AddedIsFlat
added_flat flat more is others few = record {
  box = is.box;
  fit = fit_both flat.bounds.pairs flat.rules more is.fit others;
  few_slots = is.few_slots;
  few_rules = subst (λ n. n < 2 ^ 32) (sym (length-append flat.rules more)) few;
}

-- ---- rules that ask nothing

no_slots : slot_bound no_rule ≡ 0
no_slots = fold-roll-Rule ℕ ℕ greatest_in_rule slots_in_term O.Always

no_reach : (ends : List Pair) → reach_of ends no_rule ≡ 0
no_reach ends = ap (λ (j : Judged). j.reach) (fold-roll-Rule Judged Seen rule_judged (term_seen ends) O.Always)

nothing_fits : (ends : List Pair) → CanJudge ends no_rule
nothing_fits ends = record {
  slots = subst (λ n. n ≤ length ends) (sym no_slots) (omega arith);
  reach = subst (λ n. n ≤ 2 ^ 120) (sym (no_reach ends)) (omega arith);
}

less_fit : (ends : List Pair) (rules less : List Rule) → AreLess rules less → AllFit ends rules → AllFit ends less
less_fit ends [] [] are all = tt
less_fit ends [] (s ∷ ss) are all = absurd are
less_fit ends (r ∷ rs) [] are all = absurd are
less_fit ends (r ∷ rs) (s ∷ ss) are all = (by are.0, less_fit ends rs ss are.1 all.1)
  where
    by : (s ≡ r) ⊎ (s ≡ no_rule) → CanJudge ends s
    by (inl e) = subst (CanJudge ends) (sym e) all.0
    by (inr e) = subst (CanJudge ends) (sym e) (nothing_fits ends)

as_many : (rules less : List Rule) → AreLess rules less → length less ≡ length rules
as_many [] [] are = refl
as_many [] (s ∷ ss) are = absurd are
as_many (r ∷ rs) [] are = absurd are
as_many (r ∷ rs) (s ∷ ss) are = ap suc (as_many rs ss are.1)

pub dropped_flat : DroppedIsFlat
dropped_flat flat less is are = record {
  box = is.box;
  fit = less_fit flat.bounds.pairs flat.rules less are is.fit;
  few_slots = is.few_slots;
  few_rules = subst (λ n. n < 2 ^ 32) (sym (as_many flat.rules less are)) is.few_rules;
}
