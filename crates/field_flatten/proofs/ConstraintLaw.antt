-- Hard constraints, defaults and enums: the rule is true at a point exactly if the item holds in the point's run.
use Rattle.std.proofs.Common.{◌≡◌, ℕ, zero, suc, ◌<◌, refl, sym, ap, ap₂, ◌∙◌, subst, inl, inr, List, [], ◌∷◌, ◌++◌, Bool, true, false, ◌&&◌, ◌||◌, not, Option, Some, None, map, length, arith, true≢false}
use Rattle.std.specs.Prelude.{ℤ, flat_map, slice_get, option_to_list}
use Rattle.std.specs.Option.{option_map_or}
use Rattle.std.specs.List.{list_any, list_all}
use Rattle.osc_base.specs.declared.path.Path.{Path}
use Rattle.osc_base.specs.declared.listing.SlotName.{SlotName}
use Rattle.box_eval.specs.FlatRules.{FlatRule, Equal, Slot, Whole, holds_at, all_of, any_of, under}
use Rattle.composition.specs.expr_nodes.Kinds.{is_truth}
use Rattle.composition.specs.expr_nodes.Typed.{Typed, Info, reads, kind}
use Rattle.composition.specs.expr_nodes.Value.{worth, value, is_one}
use Rattle.composition.specs.expr_nodes.Parts.{is_scalar}
use Rattle.composition.specs.expr_nodes.Sound.{is_sound, each_read}
use Rattle.composition.specs.declared.guard.Guard.{Guard}
use Rattle.composition.specs.declared.spot.ValueSpot.{ValueSpot}
use Rattle.composition.specs.declared.spot.ValueRange.{ValueRange}
use Rattle.composition.specs.declared.run.Run.{Run}
use Rattle.composition.specs.RunParts.{held_in}
use Rattle.composition.specs.Scenes.{Scene, Occurrence, ModifierSpot, source, guards}
use Rattle.composition.specs.There.{is_number, is_met, are_met, presence, read_by, removed, is_asked, is_there}
use Rattle.composition.specs.Numbers.{number_at, is_true}
use Rattle.composition.specs.Items.{is_satisfied, hard_holds, is_asked_number, is_overridden, default_holds, typed_holds}
use Rattle.composition.specs.Invariants.{are_grounded, value_at, is_read, is_expression}
use Rattle.field_flatten.specs.Shapes.{Layout, shape}
use Rattle.field_flatten.specs.Points.{is_held, stands, held_of, run_named}
use Rattle.field_flatten.specs.Rules.{guard_rule, presence_rules, typed_rule, hard_rule, presence_of_number, default_rule, member_rule, enum_rule}
use Rattle.field_flatten.specs.Seen.{has_values, seen}
use Rattle.field_flatten.specs.Exactness.{expressions, IsExpanded}
use Rattle.field_flatten.proofs.Tests.{left_of, right_of, under_one, In, in_left, in_right, in_flat_map, all_at, all_from, all_same, all_map, any_map, any_same, any_append}
use Rattle.field_flatten.proofs.JoinedRows.{all_holds, any_holds, under_holds}
use Rattle.field_flatten.proofs.ShapeLaw.{law}
use Rattle.field_flatten.proofs.ExprReads.{value_is, passes}
use Rattle.field_flatten.proofs.Presence.{guards_grounded, presence_law, once_same}
use Rattle.field_flatten.proofs.NamedRun.{met_is_held, held_there}
use Rattle.field_flatten.proofs.SlotLaw.{Inside, choice_above}
use Rattle.field_flatten.proofs.NumberLaw.{at, lay, number_there}

or_true : (b c : Bool) → c ≡ true → b || c ≡ true
or_true true c h = refl
or_true false c h = h

slice_in : {A : Type 0} (xs : List A) (i : ℕ) (x : A) → slice_get xs i ≡ Some x → In x xs
slice_in [] i x h = cc
slice_in (y ∷ ys) zero x h = let e : x ≡ y = cc in inl e
slice_in (y ∷ ys) (suc i) x h = inr (slice_in ys i x h)

slice_there : {A : Type 0} (xs : List A) (i : ℕ) → i < length xs → (x : A) × (slice_get xs i ≡ Some x)
slice_there [] i h = absurd (omega arith)
slice_there (y ∷ ys) zero h = (y, refl)
slice_there (y ∷ ys) (suc i) h = slice_there ys i (omega arith)

module _ (scene : Scene) (point : List ℤ) (slot : SlotName → ℕ) (expanded : IsExpanded scene) (inside : Inside scene (at scene point slot)) where
  abbrev named : SlotName → ℤ
  named = at scene point slot

  abbrev layed : Layout
  layed = lay scene point slot

  abbrev pub run : Run
  run = run_named scene named

  -- ---- conditions

  rule_held : (g : Guard) → holds_at point (guard_rule layed g) ≡ is_held named g
  rule_held (Guard.Choice phase member) = refl
  rule_held (Guard.Value path number) = refl

  pub rules_held : (gs : List Guard) → list_all (holds_at point) (presence_rules layed gs) ≡ list_all (is_held named) gs
  rules_held gs = all_map (holds_at point) (guard_rule layed) gs ∙ all_same (λ g. holds_at point (guard_rule layed g)) (is_held named) gs (λ g i. rule_held g)

  pub met_held : (gs : List Guard) → are_grounded scene [] gs ≡ true → are_met run gs ≡ list_all (is_held named) gs
  met_held = presence_law scene (is_met run) (is_held named) (λ g known a b. met_is_held scene named (choice_above scene named inside) g known b)

  pub there_stands : (path : Path) → is_there scene run path ≡ stands scene named path
  there_stands path = met_held (guards scene path) (guards_grounded scene expanded.is_scene.spots_grounded path)

  pub under_met : (gs : List Guard) (rule : FlatRule) → are_grounded scene [] gs ≡ true → holds_at point (under (presence_rules layed gs) rule) ≡ not (are_met run gs) || holds_at point rule
  under_met gs rule h = under_holds point (presence_rules layed gs) rule ∙ ap (λ b. not b || holds_at point rule) (rules_held gs ∙ sym (met_held gs h))

  -- ---- expressions

  abbrev pub reading : Info → Path → ℕ → Bool
  reading i path per = is_read scene i path per (source scene path)

  pub value_law : (t : Typed) → is_expression scene t ≡ true → has_values t ≡ true → ((p : Path) → In p (reads t) → stands scene named p ≡ true)
      → value (number_at scene run) t ≡ Some (worth (seen layed point) t)
  value_law t e v there =
      let sound = right_of (is_scalar t) (is_sound t && each_read reading t) e in
      value_is (number_at scene run) (seen layed point) t (λ p i.
      let r = passes reading t (right_of (is_sound t) (each_read reading t) sound) v p i in
      number_there scene point slot inside expanded.is_scene.texts expanded.no_durations r.0 p r.1 r.2 (there p i))

  pub truth_law : (t : Typed) → is_truth (kind t) && is_expression scene t ≡ true → has_values t ≡ true → ((p : Path) → In p (reads t) → stands scene named p ≡ true)
      → is_true scene run t ≡ holds_at point (shape layed t).rule
  truth_law t e v there =
      let expression = right_of (is_truth (kind t)) (is_expression scene t) e in
      let sound = left_of (is_sound t) (each_read reading t) (right_of (is_scalar t) (is_sound t && each_read reading t) expression) in
      ap (λ o. option_map_or is_one o false) (value_law t expression v there) ∙ sym ((law point layed t sound v).rule (left_of (is_truth (kind t)) (is_expression scene t) e))

  -- ---- constraints

  presence_reads : (o : Occurrence) (t : Typed) → o.typed ≡ Some t → list_all (is_held named) (presence scene o) ≡ true → (p : Path) → In p (reads t) → stands scene named p ≡ true
  presence_reads o t is h p i =
      let all : List Guard = guards scene o.holder ++ o.under ++ flat_map (guards scene) (read_by o.typed ++ removed o.mark) in
      let held : list_all (is_held named) all ≡ true = sym (once_same (is_held named) all) ∙ h in
      let read : In p (read_by o.typed ++ removed o.mark) = in_left p (read_by o.typed) (removed o.mark)
      (subst (λ typed. In p (read_by typed)) (sym is) (in_left p (reads t) [] i)) in
      all_from (is_held named) (guards scene p) (λ g j. all_at (is_held named) all held g
      (in_right g (guards scene o.holder ++ o.under) (flat_map (guards scene) (read_by o.typed ++ removed o.mark)) (in_flat_map (guards scene) (read_by o.typed ++ removed o.mark) p g read j)))

  abbrev Truths : Occurrence → Type 0
  Truths o = option_map_or (λ (t : Typed). is_truth (kind t) && is_expression scene t) o.typed false ≡ true

  grounded : (o : Occurrence) → In o scene.occurrences → are_grounded scene [] (presence scene o) ≡ true
  grounded o i = all_at (λ (p : Occurrence). are_grounded scene [] (presence scene p)) scene.occurrences expanded.is_scene.occurrences_grounded o i

  expression_values : (o : Occurrence) (t : Typed) → In o scene.occurrences → o.typed ≡ Some t → has_values t ≡ true
  expression_values o t i is = all_at has_values (expressions scene) expanded.all_values t
      (in_left t (flat_map (λ (p : Occurrence). option_to_list p.typed) scene.occurrences) (flat_map (λ (m : ModifierSpot). option_to_list m.low ++ option_to_list m.high) scene.modifiers)
      (in_flat_map (λ (p : Occurrence). option_to_list p.typed) scene.occurrences o t i (subst (λ typed. In t (option_to_list typed)) (sym is) (inl refl))))

  satisfied : (o : Occurrence) → In o scene.occurrences → Truths o → is_asked scene run o ≡ true → is_satisfied scene run o ≡ holds_at point (typed_rule layed o.typed)
  satisfied o i truths asked = by o.typed refl truths
    where
      by : (typed : Option Typed) → o.typed ≡ typed → option_map_or (λ (t : Typed). is_truth (kind t) && is_expression scene t) typed false ≡ true
          → option_map_or (is_true scene run) typed true ≡ holds_at point (typed_rule layed typed)
      by None is h = absurd (true≢false (sym h))
      by (Some t) is h = truth_law t h (expression_values o t i is) (presence_reads o t is (sym (met_held (presence scene o) (grounded o i)) ∙ asked))

  pub hard_law : (o : Occurrence) → In o scene.occurrences → Truths o → holds_at point (hard_rule scene layed o) ≡ hard_holds scene run o
  hard_law o i truths = under_met (presence scene o) (typed_rule layed o.typed) (grounded o i)
      ∙ under_one (is_asked scene run o) (is_asked scene run o) (holds_at point (typed_rule layed o.typed)) (is_satisfied scene run o) refl (λ asked. sym (satisfied o i truths asked))

  overrider : (n : ℕ) → n < length scene.occurrences → holds_at point (presence_of_number scene layed n) ≡ is_asked_number scene run n
  overrider n small =
      let there = slice_there scene.occurrences n small in
      let known : In there.0 scene.occurrences = slice_in scene.occurrences n there.0 there.1 in
      ap (λ o. holds_at point (all_of (presence_rules layed (option_map_or (presence scene) o [])))) there.1
      ∙ all_holds point (presence_rules layed (presence scene there.0)) ∙ rules_held (presence scene there.0) ∙ sym (met_held (presence scene there.0) (grounded there.0 known))
      ∙ ap (λ o. option_map_or (is_asked scene run) o false) (sym there.1)

  pub default_law : (later : List ℕ) (o : Occurrence) → In o scene.occurrences → Truths o → ((n : ℕ) → In n later → n < length scene.occurrences)
      → holds_at point (default_rule scene layed later o) ≡ default_holds scene run later o
  default_law later o i truths known =
      let row : List FlatRule = map (presence_of_number scene layed) later ++ typed_rule layed o.typed ∷ [] in
      let others : list_any (holds_at point) (map (presence_of_number scene layed) later) ≡ is_overridden scene run later =
      any_map (holds_at point) (presence_of_number scene layed) later ∙ any_same (λ n. holds_at point (presence_of_number scene layed n)) (is_asked_number scene run) later (λ n j. overrider n (known n j)) in
      under_met (presence scene o) (any_of row) (grounded o i)
      ∙ under_one (is_asked scene run o) (is_asked scene run o) (holds_at point (any_of row)) (is_overridden scene run later || is_satisfied scene run o) refl (λ asked.
      any_holds point row ∙ any_append (holds_at point) (map (presence_of_number scene layed) later) (typed_rule layed o.typed ∷ [])
      ∙ ap₂ (◌||◌) others (or_unit (holds_at point (typed_rule layed o.typed)) ∙ sym (satisfied o i truths asked)))
    where
      or_unit : (b : Bool) → b || false ≡ b
      or_unit true = refl
      or_unit false = refl

  -- ---- enums

  pub typed_law : (path : Path) (numbers : List ℤ) (v : ValueSpot) → value_at scene path ≡ Some v → v.range ≡ ValueRange.Among numbers
      → holds_at point (enum_rule scene layed path numbers) ≡ typed_holds scene run path numbers
  typed_law path numbers v known is =
      under_met (guards scene path) (member_rule layed path numbers) (guards_grounded scene expanded.is_scene.spots_grounded path)
      ∙ under_one (is_there scene run path) (is_there scene run path) (holds_at point (member_rule layed path numbers)) (option_map_or (λ held. list_any (λ n. is_number n held) numbers) (held_in run path) false) refl
      (λ there. any_holds point (map (λ n. Equal (Slot (slot (SlotName.Value path))) (Whole n)) numbers)
      ∙ any_map (holds_at point) (λ n. Equal (Slot (slot (SlotName.Value path))) (Whole n)) numbers
      ∙ sym (ap (λ o. option_map_or (λ held. list_any (λ n. is_number n held) numbers) o false)
      (held_there scene named path v (sym (there_stands path) ∙ there) known ∙ ap (λ r. Some (held_of scene.texts r (named (SlotName.Value path)))) is)))
