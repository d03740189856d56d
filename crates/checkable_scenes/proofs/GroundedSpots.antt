-- The conditions of each spot of a scene are grounded.
use Rattle.std.proofs.Common.{◌≡◌, ℕ, refl, sym, ap, ◌∙◌, subst, inl, inr, List, [], ◌∷◌, ◌++◌, true, false, ◌&&◌, not, Option, Some, map, length, true≢false}
use Rattle.std.specs.Prelude.{nat_eq, bytes_eq, codes, ℤ, pos}
use Rattle.std.specs.Option.{option_map_or}
use Rattle.std.specs.List.{list_any, list_all, range_with_len}
use Rattle.std.proofs.lemmas.Slice.Eq.{bytes_eq-Decides}
use Rattle.osc_base.specs.declared.fault.Place.{Place}
use Rattle.osc_base.specs.declared.path.Path.{Path}
use Rattle.osc_base.specs.Paths.{root, same_path, then_name, then_member}
use Rattle.osc_base.specs.Comparisons.{same_number}
use Rattle.expr_eval.specs.dsl_tree.declared.parts.Ident.{Ident}
use Rattle.expr_eval.specs.dsl_tree.declared.phases.CompKind.{CompKind}
use Rattle.expr_eval.specs.dsl_tree.declared.phases.InvokeHead.{InvokeHead}
use Rattle.expr_eval.specs.dsl_tree.declared.compounds.ConditionValue.{ConditionValue}
use Rattle.expr_eval.specs.dsl_tree.PhaseTree.{ArgumentTree, PartTree, Comp, Invoke, PhaseRow, phases_of}
use Rattle.expr_eval.specs.type_heads.Form.{Form}
use Rattle.expr_eval.specs.type_heads.Table.{form, owner, is_object}
use Rattle.expr_eval.specs.type_heads.Types.{Types, Field, Do}
use Rattle.expr_eval.specs.type_heads.Members.{fields, field, field_type, the_do}
use Rattle.expr_eval.specs.type_heads.Conditions.{Condition, condition_value}
use Rattle.run_values.specs.cond_inherit.Conditions.{conditions}
use Rattle.run_values.specs.composition.declared.guard.Guard.{Guard}
use Rattle.run_values.specs.composition.declared.setting.Setting.{Setting}
use Rattle.run_values.specs.composition.declared.spot.ChoiceSpot.{ChoiceSpot}
use Rattle.run_values.specs.composition.declared.spot.ValueSpot.{ValueSpot}
use Rattle.run_values.specs.composition.declared.spot.ValueRange.{ValueRange}
use Rattle.run_values.specs.composition.declared.spot.PhaseKind.{PhaseKind}
use Rattle.run_values.specs.composition.Calls.{Turn, PhaseHere, phases_in, invoked}
use Rattle.run_values.specs.composition.Scenes.{Content, Spot, Scene, Binding, choice_spot, value_spot, choices, values, guards}
use Rattle.run_values.specs.composition.Ranges.{range_of}
use Rattle.run_values.specs.composition.Homes.{is_bound}
use Rattle.run_values.specs.composition.There.{same_guard}
use Rattle.run_values.specs.composition.Givens.{guards_under}
use Rattle.run_values.specs.composition.Expansion.{Expansion, Maker, Calling, from_object, calling, composition_kind, phase_part, expand_within, expansion}
use Rattle.run_values.specs.composition.Expanded.{spot, spots_of, scene}
use Rattle.run_values.specs.composition.Invariants.{value_at, is_numeric, is_guard, are_grounded}
use Rattle.run_values.proofs.of_field_flatten.Tests.{both, In, in_left, in_right, in_either, map_in, all_from, any_from, path_is, path_self, number_self, finds, found_in}
use Rattle.run_values.proofs.of_field_flatten.Presence.{same_number_self}
use Rattle.scene_laws.specs.Premises.{is_free}
use Rattle.scene_laws.proofs.Picked.{filter_map_in}
use Rattle.scene_laws.proofs.EachSpot.{value_paths, call_bindings, each_spot}
use Rattle.scene_laws.proofs.FieldNames.{Pairs, NamesDiffer}
use Rattle.scene_laws.proofs.ApartSpots.{same_sort, Apart, whole_expansion}
use Rattle.scene_laws.proofs.DistinctPaths.{spot_guards}
use Rattle.scene_laws.proofs.WholeRun.{filter_in}
use Rattle.scene_laws.proofs.Grounded.{after, grounded_append}
use Rattle.scene_laws.proofs.PlacedObjects.{IsAcyclic, Placed, phase_in, value_in, field_placed, call_placed}
use Rattle.checkable_scenes.proofs.ConditionFields.{IsInherited}
use Rattle.checkable_scenes.proofs.ConditionLists.{IsUnder, field_under, IsSought, asks, After, after_more, conditions_after, conditions_in, conditions_sought}
use Rattle.checkable_scenes.proofs.PhaseWays.{Turned, WayFrom, do_ways}

-- two spots of one sort with one path are one
pub one_spot : (ss : List Spot) → Pairs Apart ss → (s u : Spot) → In s ss → In u ss → s.path ≡ u.path → same_sort s.content u.content ≡ true → s ≡ u
one_spot [] p s u i j same sort = absurd i
one_spot (x ∷ xs) p s u (inl e) (inl f) same sort = e ∙ sym f
one_spot (x ∷ xs) p s u (inl e) (inr j) same sort = absurd (true≢false (sym sort ∙ ap (λ (z : Spot). same_sort z.content u.content) e ∙ (p.0 u j (sym (ap (λ (z : Spot). z.path) e) ∙ same)).0))
one_spot (x ∷ xs) p s u (inr i) (inl f) same sort = absurd (true≢false (sym (turned s.content x.content (sym (ap (λ (z : Spot). same_sort s.content z.content) f) ∙ sort)) ∙ (p.0 s i (sym (ap (λ (z : Spot). z.path) f) ∙ sym same)).0))
  where
    turned : (c d : Content) → same_sort c d ≡ true → same_sort d c ≡ true
    turned (Content.Object a) (Content.Object b) h = refl
    turned (Content.Value a) (Content.Value b) h = refl
    turned (Content.Phase a ms) (Content.Phase b ns) h = refl
    turned (Content.Object a) (Content.Value b) h = absurd (true≢false (sym h))
    turned (Content.Object a) (Content.Phase b ns) h = absurd (true≢false (sym h))
    turned (Content.Value a) (Content.Object b) h = absurd (true≢false (sym h))
    turned (Content.Value a) (Content.Phase b ns) h = absurd (true≢false (sym h))
    turned (Content.Phase a ms) (Content.Object b) h = absurd (true≢false (sym h))
    turned (Content.Phase a ms) (Content.Value b) h = absurd (true≢false (sym h))
one_spot (x ∷ xs) p s u (inr i) (inr j) same sort = one_spot xs p.1 s u i j same sort

pub guard_same : (g : Guard) → same_guard g g ≡ true
guard_same (Guard.Choice phase member) = both (nat_eq member member) (same_path phase phase) (number_self member) (path_self phase)
guard_same (Guard.Value path value) = both (same_number value value) (same_path path path) (same_number_self value) (path_self path)

pub in_after : (gs before : List Guard) (g : Guard) → In g before → In g (after before gs)
in_after [] before g i = i
in_after (h ∷ gs) before g i = in_after gs (h ∷ before) g (inr i)

pub after_in : (gs before : List Guard) (g : Guard) → In g gs → In g (after before gs)
after_in [] before g i = absurd i
after_in (h ∷ gs) before g (inl e) = in_after gs (h ∷ before) g (inl e)
after_in (h ∷ gs) before g (inr i) = after_in gs (h ∷ before) g i

-- what holds a value that a condition asks holds a number
pub decided_range : (f : Form) (v : ConditionValue) (n : ℤ) → condition_value f v ≡ Some n → (r : ValueRange) × (range_of f ≡ Some r) × (is_numeric r ≡ true)
decided_range Form.Truth v n e = (ValueRange.Between (pos 0) (pos 1), refl, refl)
decided_range (Form.Enum ms) v n e = (_, refl, refl)
decided_range Form.Int v n e = cc
decided_range Form.Uint v n e = cc
decided_range Form.Float v n e = cc
decided_range Form.Chars v n e = cc
decided_range (Form.Physical x) v n e = cc
decided_range (Form.Compound x) v n e = cc

module _ (ts : Types) (a : IsAcyclic ts) (k : IsInherited ts) (names : (t : ℕ) → Pairs NamesDiffer (fields ts t)) (free : (t : ℕ) (f : Field) → In f (fields ts t) → is_free f.name.text ≡ true) (whole : ℕ) (setting : Setting) where
  abbrev pub all : List Spot
  all = spots_of ts (expansion ts whole)

  abbrev pub here : Scene
  here = scene ts whole setting

  -- the value at the path of a spot is the spot's
  pub value_found : (q : Path) (gs : List Guard) (r : ValueRange) → In (spot q gs (Content.Value r)) all → value_at here q ≡ Some (record { path = q; range = r })
  value_found q gs r i =
      let listed = filter_in (λ (s : Spot). value_spot s.path s.content) all (spot q gs (Content.Value r)) (record { path = q; range = r }) i refl in
      let f = finds (λ (v : ValueSpot). same_path v.path q) (values here) (record { path = q; range = r }) listed (path_self q) in
      let g = found_in (λ (v : ValueSpot). same_path v.path q) (values here) f.0 f.1 in
      let s = filter_map_in (λ (s : Spot). value_spot s.path s.content) all f.0 g.0 in
      f.1 ∙ of_spot s.0 s.1 f.0 s.2 (path_is f.0.path q g.1)
    where
      of_spot : (s : Spot) → In s all → (v : ValueSpot) → value_spot s.path s.content ≡ Some v → v.path ≡ q → Some v ≡ Some (record { path = q; range = r })
      of_spot s j v e same = by s.content refl e
        where
          by : (c : Content) → s.content ≡ c → value_spot s.path c ≡ Some v → Some v ≡ Some (record { path = q; range = r })
          by (Content.Object b) f h = cc
          by (Content.Phase b ms) f h = cc
          by (Content.Value w) f h =
              let is : record { path = s.path; range = w } ≡ v = cc in
              let one = one_spot all (whole_expansion ts names free whole).apart s (spot q gs (Content.Value r)) j i (ap (λ (z : ValueSpot). z.path) is ∙ same) (ap (λ z. same_sort z (Content.Value r)) f) in
              sym h ∙ sym (ap (value_spot s.path) f) ∙ ap (λ (z : Spot). value_spot z.path z.content) one

  pub choice_found : (q : Path) (gs : List Guard) (ms : List Path) → In (spot q gs (Content.Phase PhaseKind.OneOf ms)) all → list_any (λ (c : ChoiceSpot). same_path c.path q) (choices here) ≡ true
  choice_found q gs ms i =
      any_from (λ (c : ChoiceSpot). same_path c.path q) (choices here) (record { path = q; members = length ms })
      (filter_in (λ (s : Spot). choice_spot s.path s.content) all (spot q gs (Content.Phase PhaseKind.OneOf ms)) (record { path = q; members = length ms }) i refl) (path_self q)

  pub early : (before gs : List Guard) (path : Path) → guards here path ≡ gs → ((g : Guard) → In g gs → In g before) → list_all (λ (h : Guard). list_any (same_guard h) before) (guards here path) ≡ true
  early before gs path e f = subst (λ l. list_all (λ (h : Guard). list_any (same_guard h) before) l ≡ true) (sym e) (all_from (λ (h : Guard). list_any (same_guard h) before) gs (λ g i. any_from (same_guard g) before g (f g i) (guard_same g)))

  module _ (path : Path) (t : ℕ) (conditions_here : List Guard) (bindings : List Binding) (placed : Placed ts a all path t conditions_here bindings) where
    -- the field of a condition holds a number
    pub record Held (c : Condition) : Type 0 where
      pub asked : Field
      pub at : field ts t c.field ≡ Some asked
      pub range : ValueRange
      pub numeric : is_numeric range ≡ true
      pub inside : In (spot (then_name path c.field) (conditions_here ++ guards_under ts path t asked.under) (Content.Value range)) all

    pub sought_held : (c : Condition) → IsSought ts k t c → Held c
    sought_held c s =
        let q = s.1 in
        let r = decided_range (form ts.table.heads q.of) q.written.value c.value q.value in
        let name : q.asked.name.text ≡ c.field = (bytes_eq-Decides q.asked.name.text c.field).0 (found_in (λ (f : Field). bytes_eq f.name.text c.field) (fields ts t) q.asked q.at).1 in
        let listed = subst (λ o. In (then_name path q.asked.name.text) (paths_of o (then_name path q.asked.name.text))) (sym q.alone) (inl refl) in
        record {
          asked = q.asked;
          at = q.at;
          range = r.0;
          numeric = r.2;
          inside = subst (λ z. In (spot (then_name path z) (conditions_here ++ guards_under ts path t q.asked.under) (Content.Value r.0)) all) name
              (value_in ts a all path t conditions_here bindings placed q.asked q.inside q.of q.typed r.0 r.1 (then_name path q.asked.name.text) listed);
        }
      where
        paths_of : Option ℕ → Path → List Path
        paths_of o p = value_paths ts p o

    grounded_conditions : (cs : List Condition) (before : List Guard) → ((g : Guard) → In g conditions_here → In g before) → ((c : Condition) → In c cs → IsSought ts k t c) → After ts k t path before cs
        → are_grounded here before (map (asks ts k t path) cs) ≡ true
    grounded_conditions [] before f s r = refl
    grounded_conditions (c ∷ cs) before f s r =
        let h = sought_held c (s c (inl refl)) in
        let own : guards here (then_name path c.field) ≡ conditions_here ++ guards_under ts path t h.asked.under =
        spot_guards ts names free whole setting (spot (then_name path c.field) (conditions_here ++ guards_under ts path t h.asked.under) (Content.Value h.range)) h.inside in
        both (list_all (λ (g : Guard). list_any (same_guard g) before) (guards here (then_name path c.field)) && is_guard here (asks ts k t path c)) (are_grounded here (asks ts k t path c ∷ before) (map (asks ts k t path) cs))
        (both (list_all (λ (g : Guard). list_any (same_guard g) before) (guards here (then_name path c.field))) (is_guard here (asks ts k t path c))
        (early before (conditions_here ++ guards_under ts path t h.asked.under) (then_name path c.field) own (λ g i. elim (in_either g conditions_here (guards_under ts path t h.asked.under) i) as (λ _. In g before) [
          | inl j ↦ f g j
          | inr j ↦ let d = map_in (asks ts k t path) (conditions ts t h.asked.under) g j in subst (λ z. In z before) (sym d.2) (r.0 h.asked h.at d.0 (conditions_in ts k t h.asked.under d.0 d.1))
        ]))
        (subst (λ o. option_map_or (λ (v : ValueSpot). is_numeric v.range) o false ≡ true) (sym (value_found (then_name path c.field) (conditions_here ++ guards_under ts path t h.asked.under) h.range h.inside)) h.numeric))
        (grounded_conditions cs (asks ts k t path c ∷ before) (λ g i. inr (f g i)) (λ d i. s d (inr i)) r.1)

    none_before : (more : List Guard) (g : Guard) → In g [] → In g more
    none_before more g i = absurd i

    -- the conditions of a member, after those of its object
    pub member_grounded : (under : List ℕ) → IsUnder ts k t under → are_grounded here [] conditions_here ≡ true → are_grounded here [] (conditions_here ++ guards_under ts path t under) ≡ true
    member_grounded under u h =
        grounded_append here [] conditions_here (guards_under ts path t under) h
        (grounded_conditions (conditions ts t under) (after [] conditions_here) (λ g i. after_in conditions_here [] g i) (conditions_sought ts k t under u)
        (after_more ts k t path (conditions ts t under) [] (after [] conditions_here) (none_before (after [] conditions_here)) (conditions_after ts k t path under u)))

    module _ (d : Do) (is : the_do ts t ≡ Some d) where
      abbrev pub turn_guard : Turn → Guard
      turn_guard turn = Guard.Choice (from_object path turn.phase) turn.member

      comp_part : (make : Maker) (call : Calling) (label : Option Ident) (place : Place) (kind : CompKind) (arguments : List ArgumentTree) (members : PhaseRow)
          → (part : Expansion) × In part (phase_part make ts call (Comp label place kind arguments members)) × In (spot call.path call.guards (Content.Phase (composition_kind kind arguments) (map (then_member call.path) (range_with_len 0 (length (phases_of members)))))) (spots_of ts part)
      comp_part make call label place kind arguments members = (_, inl refl, inl refl)

      -- a composition stands among the spots
      pub comp_there : (p : PhaseHere) → In p (phases_in d.phase) → (label : Option Ident) (place : Place) (kind : CompKind) (arguments : List ArgumentTree) (members : PhaseRow) → p.phase ≡ Comp label place kind arguments members
          → In (spot (from_object path p.path) (conditions_here ++ map turn_guard p.way) (Content.Phase (composition_kind kind arguments) (map (then_member (from_object path p.path)) (range_with_len 0 (length (phases_of members)))))) all
      comp_there p i label place kind arguments members e =
          let part = comp_part (λ q of c b. expand_within placed.steps ts q of c b []) (calling bindings path conditions_here d p) label place kind arguments members in
          phase_in ts a all path t conditions_here bindings placed d is p i part.0 (subst (λ z. In part.0 (phase_part (λ q of c b. expand_within placed.steps ts q of c b []) ts (calling bindings path conditions_here d p) z)) (sym e) part.1)
          (spot (from_object path p.path) (conditions_here ++ map turn_guard p.way) (Content.Phase (composition_kind kind arguments) (map (then_member (from_object path p.path)) (range_with_len 0 (length (phases_of members)))))) part.2

      -- the spot of a turn
      pub turned_there : (before : List Turn) (turn : Turn) (w : Turned (phases_in d.phase) before turn)
          → In (spot (from_object path turn.phase) (conditions_here ++ map turn_guard before) (Content.Phase PhaseKind.OneOf (map (then_member (from_object path turn.phase)) (range_with_len 0 (length (phases_of w.one.members)))))) all
      turned_there before turn w =
          subst (λ z. In (spot (from_object path z) (conditions_here ++ map turn_guard before) (Content.Phase PhaseKind.OneOf (map (then_member (from_object path z)) (range_with_len 0 (length (phases_of w.one.members)))))) all) w.path
          (subst (λ l. In (spot (from_object path w.at.path) (conditions_here ++ map turn_guard l) (Content.Phase PhaseKind.OneOf (map (then_member (from_object path w.at.path)) (range_with_len 0 (length (phases_of w.one.members)))))) all) w.way
          (comp_there w.at w.inside w.one.label w.one.place CompKind.OneOf w.one.arguments w.one.members w.one.is))

      map_append : (xs ys : List Turn) → map turn_guard (xs ++ ys) ≡ map turn_guard xs ++ map turn_guard ys
      map_append [] ys = refl
      map_append (x ∷ xs) ys = ap (λ l. turn_guard x ∷ l) (map_append xs ys)

      grounded_turns : (rest before : List Turn) (found : List Guard) → WayFrom (phases_in d.phase) before rest → ((g : Guard) → In g (conditions_here ++ map turn_guard before) → In g found)
          → are_grounded here found (map turn_guard rest) ≡ true
      grounded_turns [] before found w f = refl
      grounded_turns (turn ∷ rest) before found w f =
          let there = turned_there before turn w.0 in
          let at = from_object path turn.phase in
          let members = map (then_member (from_object path turn.phase)) (range_with_len 0 (length (phases_of w.0.one.members))) in
          both (list_all (λ (g : Guard). list_any (same_guard g) found) (guards here (from_object path turn.phase)) && is_guard here (turn_guard turn)) (are_grounded here (turn_guard turn ∷ found) (map turn_guard rest))
          (both (list_all (λ (g : Guard). list_any (same_guard g) found) (guards here (from_object path turn.phase))) (is_guard here (turn_guard turn))
          (early found (conditions_here ++ map turn_guard before) at (spot_guards ts names free whole setting (spot at (conditions_here ++ map turn_guard before) (Content.Phase PhaseKind.OneOf members)) there) f)
          (choice_found at (conditions_here ++ map turn_guard before) members there))
          (grounded_turns rest (before ++ turn ∷ []) (turn_guard turn ∷ found) w.1 (λ g i. more g i))
        where
          more : (g : Guard) → In g (conditions_here ++ map turn_guard (before ++ turn ∷ [])) → In g (turn_guard turn ∷ found)
          more g i = elim (in_either g conditions_here (map turn_guard (before ++ turn ∷ [])) i) as (λ _. In g (turn_guard turn ∷ found)) [
            | inl j ↦ inr (f g (in_left g conditions_here (map turn_guard before) j))
            | inr j ↦ elim (in_either g (map turn_guard before) (turn_guard turn ∷ []) (subst (In g) (map_append before (turn ∷ [])) j)) as (λ _. In g (turn_guard turn ∷ found)) [
              | inl l ↦ inr (f g (in_right g conditions_here (map turn_guard before) l))
              | inr l ↦ last l
            ]
          ]
            where
              last : In g (turn_guard turn ∷ []) → In g (turn_guard turn ∷ found)
              last (inl e) = inl e
              last (inr l) = absurd l

      pub phase_grounded : (p : PhaseHere) → In p (phases_in d.phase) → are_grounded here [] conditions_here ≡ true → are_grounded here [] (conditions_here ++ map turn_guard p.way) ≡ true
      phase_grounded p i h =
          grounded_append here [] conditions_here (map turn_guard p.way) h
          (grounded_turns p.way [] (after [] conditions_here) (do_ways d.phase p i) (λ g j. elim (in_either g conditions_here [] j) as (λ _. In g (after [] conditions_here)) [
            | inl l ↦ after_in conditions_here [] g l
            | inr l ↦ absurd l
          ]))

  -- an object with grounded conditions
  abbrev pub Grounds : Path → ℕ → List Guard → List Binding → Type 0
  Grounds path t conditions_here bindings = Placed ts a all path t conditions_here bindings × (are_grounded here [] conditions_here ≡ true)

  pub to_field : (path : Path) (t : ℕ) (gs : List Guard) (bindings : List Binding) → Grounds path t gs bindings → (f : Field) → In f (fields ts t) → (of : ℕ) → field_type ts f ≡ Some of
      → is_object (form ts.table.heads of) && not (is_bound bindings (then_name path f.name.text)) ≡ true → Grounds (then_name path f.name.text) of (gs ++ guards_under ts path t f.under) []
  to_field path t gs bindings g f i of typed test =
      (field_placed ts a all path t gs bindings g.0 f i of typed test, member_grounded path t gs bindings g.0 f.under (field_under ts k t f i) g.1)

  pub to_call : (path : Path) (t : ℕ) (gs : List Guard) (bindings : List Binding) → Grounds path t gs bindings → (d : Do) → the_do ts t ≡ Some d → (p : PhaseHere) → In p (phases_in d.phase)
      → (label : Option Ident) (head : InvokeHead) (ns : List Ident) (arguments : List ArgumentTree) (parts : List PartTree) → p.phase ≡ Invoke label head ns arguments parts → (of : ℕ) → invoked ts d.holder head ns ≡ Some of
      → Grounds (calling bindings path gs d p).path of (calling bindings path gs d p).guards (call_bindings ts (calling bindings path gs d p) head ns arguments of)
  to_call path t gs bindings g d is p i label head ns arguments parts e of to =
      (call_placed ts a all path t gs bindings g.0 d is p i label head ns arguments parts e of to, phase_grounded path t gs bindings g.0 d is p i g.1)

  module _ (first : Placed ts a all root whole [] []) (actor : (x : ℕ) → owner ts.table.heads whole ≡ Some x → Placed ts a all (then_name root (codes "actor")) x [] []) where
    pub spots_grounded : list_all (λ (s : Spot). are_grounded here [] s.guards) all ≡ true
    spots_grounded = all_from (λ (s : Spot). are_grounded here [] s.guards) all (λ s i.
        each_spot ts Grounds (λ (s : Spot). are_grounded here [] s.guards ≡ true)
        (λ path t gs bindings g. g.1)
        (λ path t gs bindings g f j of typed range is q l. member_grounded path t gs bindings g.0 f.under (field_under ts k t f j) g.1)
        (λ path t gs bindings g d is p j label place kind arguments members e. phase_grounded path t gs bindings g.0 d is p j g.1)
        (λ path t gs bindings g d is p j label head ns arguments parts e of to. phase_grounded path t gs bindings g.0 d is p j g.1)
        (λ path t gs bindings g d is p j. phase_grounded path t gs bindings g.0 d is p j g.1)
        (λ path t gs bindings g f j of typed test. to_field path t gs bindings g f j of typed test)
        (λ path t gs bindings g d is p j label head ns arguments parts e of to. to_call path t gs bindings g d is p j label head ns arguments parts e of to)
        whole (first, refl) (λ x e. (actor x e, refl)) s i)
