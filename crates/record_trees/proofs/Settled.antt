-- Rules that are settled on a box: which stay so, and what a settled box says of its cuts.
use Rattle.std.proofs.Common.{◌≡◌, ◌≢◌, refl, sym, ap, ◌∙◌, subst, ⊎_elim, ℕ, suc, zero, ◌<◌, Bool, true, false, cond, eqb, List, [], ◌∷◌, slice_get, slice_set, Option, Some, None, ℤ, ◌<ℤ◌, arith}
use Rattle.std.proofs.lemmas.Int.{ints, by_lt_z}
use Rattle.std.proofs.lemmas.Bool.{false≢true, cases_eq}
use Rattle.std.specs.Option.{option_map_or}
use Rattle.box_eval.specs.declared.rule.Rule.{Rule}
use Rattle.box_eval.specs.declared.bounds.Pair.{Pair}
use Rattle.box_eval.specs.declared.cut.Cut.{Cut}
use Rattle.box_eval.specs.declared.cut.Side.{Side}
use Rattle.box_eval.specs.declared.cut.Side.TheVariants.{Low, High}
use Rattle.box_eval.specs.declared.verdict.Verdict.{Verdict}
use Rattle.box_eval.specs.declared.verdict.Verdict.TheVariants.{True, False, Open}
use Rattle.box_eval.specs.Box.{pair, low_at, high_at, IsBox, IsInside, fixed, first_part, end_at, IsCutOf}
use Rattle.box_eval.specs.Verdict.{verdict_of}
use Rattle.box_eval.specs.declared.flat.Flat.{Flat}
use Rattle.record_trees.specs.Record.{Leaf, close, added, unknown, Tree, branch, leaf, is_false, may_close, may_leave, Accepted}
use Rattle.box_eval.specs.Reads.{reads}
use Rattle.record_trees.specs.Guided.{NoneFalse, IsDeadEnd, IsSettledFor, IsSettled, closing_leaf, closing_rule, is_longest, narrows}
use Rattle.box_eval.proofs.Smaller.{smaller_keeps}
use Rattle.box_eval.proofs.Parts.{fixed_box, fixed_inside, fixed_in_first, first_part_box, low_set_same, high_set_same, low_set_other, high_set_other, wide_there, end_between}
use Rattle.record_trees.proofs.Empty.{IsClosing, close_facts}
use Rattle.box_eval.proofs.Unread.{AgreeBut, unread}

-- ---- all rules, and one of them

pub settled_at : (rules : List Rule) (ends : List Pair) (k : ℕ) (rule : Rule) → IsSettled rules ends → slice_get rules k ≡ Some rule → IsSettledFor ends rule
settled_at [] ends k rule all is = cc
settled_at (r ∷ rs) ends zero rule all is = let e : r ≡ rule = cc in subst (IsSettledFor ends) e all.0
settled_at (r ∷ rs) ends (suc k) rule all is = settled_at rs ends k rule all.1 is

pub settled_from : (rules : List Rule) (ends : List Pair) → ((k : ℕ) (rule : Rule) → slice_get rules k ≡ Some rule → IsSettledFor ends rule) → IsSettled rules ends
settled_from [] ends h = tt
settled_from (r ∷ rs) ends h = (h zero r refl, settled_from rs ends (λ k rule is. h (suc k) rule is))

pub settled_none_false : (rules : List Rule) (ends : List Pair) → IsSettled rules ends → NoneFalse ends rules
settled_none_false [] ends all = tt
settled_none_false (r ∷ rs) ends all = (all.0.not_false, settled_none_false rs ends all.1)

pub none_false_from : (rules : List Rule) (ends : List Pair) → ((k : ℕ) (rule : Rule) → slice_get rules k ≡ Some rule → verdict_of ends rule ≢ False) → NoneFalse ends rules
none_false_from [] ends h = tt
none_false_from (r ∷ rs) ends h = (h zero r refl, none_false_from rs ends (λ k rule is. h (suc k) rule is))

-- ---- which rules are settled

-- a rule that is true on a box
pub true_settled : (ends : List Pair) (rule : Rule) → IsBox ends → verdict_of ends rule ≡ True → IsSettledFor ends rule
true_settled ends rule box is = record {
  not_false = λ (e : verdict_of ends rule ≡ False). let h : True ≡ False = sym is ∙ e in cc;
  no_dead_end = λ side slot d.
      let there = wide_there ends slot d.wide in
      let between = end_between side ends slot (box.ordered slot) in
      let keeps = smaller_keeps (fixed ends slot (end_at side ends slot)) ends (fixed_box ends slot (end_at side ends slot) there box) (fixed_inside ends slot (end_at side ends slot) there between.0 between.1) rule in
      let h : True ≡ False = sym (keeps.yes is) ∙ d.dead in cc;
}

-- giving a slot other ends, and then another slot
set_set_other : (ends : List Pair) (slot other : ℕ) (p q : Pair) → (other ≡ slot → ⊥) → slice_set (slice_set ends slot p) other q ≡ slice_set (slice_set ends other q) slot p
set_set_other [] slot other p q n = refl
set_set_other (e ∷ es) zero zero p q n = absurd (n refl)
set_set_other (e ∷ es) zero (suc other) p q n = refl
set_set_other (e ∷ es) (suc slot) zero p q n = refl
set_set_other (e ∷ es) (suc slot) (suc other) p q n = ap (λ l. e ∷ l) (set_set_other es slot other p q (λ same. n (ap suc same)))

set_set_same : (ends : List Pair) (slot : ℕ) (p q : Pair) → slice_set (slice_set ends slot p) slot q ≡ slice_set ends slot q
set_set_same [] slot p q = refl
set_set_same (e ∷ es) zero p q = refl
set_set_same (e ∷ es) (suc slot) p q = ap (λ l. e ∷ l) (set_set_same es slot p q)

pub agree_set : (ends : List Pair) (slot : ℕ) (p : Pair) → AgreeBut slot (slice_set ends slot p) ends
agree_set ends slot p = record { low = λ other n. low_set_other ends slot other p n; high = λ other n. high_set_other ends slot other p n }

end_set_other : (side : Side) (ends : List Pair) (slot other : ℕ) (p : Pair) → (other ≡ slot → ⊥) → end_at side (slice_set ends slot p) other ≡ end_at side ends other
end_set_other Low ends slot other p n = low_set_other ends slot other p n
end_set_other High ends slot other p n = high_set_other ends slot other p n

-- a rule that doesn't read a slot stays settled, whatever ends the slot gets
module _ (ends : List Pair) (rule : Rule) (slot : ℕ) (p : Pair) (out : reads rule slot ≡ false) (settled : IsSettledFor ends rule) where
  abbrev changed : List Pair
  changed = slice_set ends slot p

  same_verdict : verdict_of changed rule ≡ verdict_of ends rule
  same_verdict = unread slot changed ends rule (agree_set ends slot p) out

  at_same : (side : Side) → ¬ IsDeadEnd changed rule side slot
  at_same side d =
      let q = pair (end_at side changed slot) (end_at side changed slot) in
      settled.not_false (sym same_verdict
      ∙ (sym (unread slot (slice_set changed slot q) changed rule (agree_set changed slot q) out) ∙ d.dead))

  at_other : (side : Side) (other : ℕ) → (other ≡ slot → ⊥) → ¬ IsDeadEnd changed rule side other
  at_other side other n d =
      let low = low_set_other ends slot other p n in
      let high = high_set_other ends slot other p n in
      let q = pair (end_at side ends other) (end_at side ends other) in
      let moved : fixed changed other (end_at side changed other) ≡ slice_set (fixed ends other (end_at side ends other)) slot p =
      ap (λ v. fixed changed other v) (end_set_other side ends slot other p n) ∙ set_set_other ends slot other p q n in
      settled.no_dead_end side other (record {
        wide = omega (arith, ints, d.wide);
        dead = sym (unread slot (slice_set (fixed ends other (end_at side ends other)) slot p) (fixed ends other (end_at side ends other)) rule (agree_set (fixed ends other (end_at side ends other)) slot p) out)
            ∙ (sym (ap (λ b. verdict_of b rule) moved) ∙ d.dead);
      })

  pub unread_settled : IsSettledFor changed rule
  unread_settled = record {
    not_false = λ e. settled.not_false (sym same_verdict ∙ e);
    no_dead_end = λ side other. ⊎_elim
        (λ (same : other ≡ slot). subst (λ (s : ℕ). ¬ IsDeadEnd changed rule side s) (sym same) (at_same side))
        (λ n. at_other side other n)
        (cases_eq other slot);
  }

-- a rule that is not false, and has no dead end at a slot that it reads
pub read_settled : (ends : List Pair) (rule : Rule) → verdict_of ends rule ≢ False → ((side : Side) (slot : ℕ) → reads rule slot ≡ true → ¬ IsDeadEnd ends rule side slot) → IsSettledFor ends rule
read_settled ends rule not_false none = record {
  not_false = not_false;
  no_dead_end = λ side slot d. by_reading side slot d (reads rule slot) refl;
}
  where
    by_reading : (side : Side) (slot : ℕ) → IsDeadEnd ends rule side slot → (b : Bool) → reads rule slot ≡ b → ⊥
    by_reading side slot d true is = none side slot is d
    by_reading side slot d false is =
        let q = pair (end_at side ends slot) (end_at side ends slot) in
        not_false (sym (unread slot (slice_set ends slot q) ends rule (agree_set ends slot q) is) ∙ d.dead)

-- ---- a settled box and its cuts

closing_accepted : (flat : Flat) (room : ℕ) (ends : List Pair) (above : ℕ) (tree : Tree) (k : ℕ) → Accepted flat room ends above tree → closing_rule tree ≡ Some k → may_close flat.rules ends k ≡ true
closing_accepted flat room ends above (branch cut first second) k accepted is = cc
closing_accepted flat room ends above (leaf (close j)) k accepted is = let e : j ≡ k = cc in subst (λ (i : ℕ). may_close flat.rules ends i ≡ true) e accepted.0
closing_accepted flat room ends above (leaf (added picks)) k accepted is = cc
closing_accepted flat room ends above (leaf unknown) k accepted is = cc

-- in a settled box no rule closes the first part of a cut, since that holds the end of its slot
settled_closes : (rules : List Rule) (ends : List Pair) (cut : Cut) (k : ℕ) → IsBox ends → IsCutOf ends cut → IsSettled rules ends → may_close rules (first_part cut ends) k ≡ true → ⊥
settled_closes rules ends cut k box is settled closes =
    let c = close_facts rules (first_part cut ends) k closes in
    let wide : low_at ends cut.slot <ℤ high_at ends cut.slot = omega (arith, ints, is.low, is.high) in
    let end = end_at cut.side ends cut.slot in
    let keeps = smaller_keeps (fixed ends cut.slot end) (first_part cut ends) (fixed_box ends cut.slot end is.slot_there box) (fixed_in_first ends cut is) c.rule in
    (settled_at rules ends k c.rule settled c.there).no_dead_end cut.side cut.slot (record { wide = wide; dead = keeps.no c.says })

-- so whatever accepted tree stands on that part, the cut is no narrowing
pub settled_cut : (flat : Flat) (room : ℕ) (ends : List Pair) (above : ℕ) (cut : Cut) (first : Tree) → IsBox ends → IsCutOf ends cut → IsSettled flat.rules ends
    → Accepted flat room (first_part cut ends) above first → narrows flat.rules ends cut first ≡ false
settled_cut flat room ends above cut first box is settled accepted = by_rule (closing_rule first) refl
  where
    by_rule : (o : Option ℕ) → closing_rule first ≡ o → option_map_or (is_longest flat.rules ends cut) o false ≡ false
    by_rule None closes = refl
    by_rule (Some k) closes = absurd (settled_closes flat.rules ends cut k box is settled (closing_accepted flat room (first_part cut ends) above first k accepted closes))
