-- The conditions of each constraint are grounded behind those of its holder.
use Rattle.std.proofs.Common.{◌≡◌, ℕ, ◌+◌, refl, sym, ap, subst, inl, inr, List, [], ◌∷◌, ◌++◌, Bool, true, false, Some, None, map}
use Rattle.std.specs.Prelude.{flat_map, filter_map, option_to_list, reverse, codes}
use Rattle.std.specs.Option.{option_map_or}
use Rattle.std.specs.List.{list_all}
use Rattle.osc_base.specs.declared.fault.Place.{Place}
use Rattle.osc_base.specs.declared.path.Path.{Path}
use Rattle.osc_base.specs.Paths.{root, then_name}
use Rattle.expr_eval.specs.dsl_tree.declared.parts.Ident.{Ident}
use Rattle.expr_eval.specs.dsl_tree.declared.compounds.HeirCondition.{HeirCondition}
use Rattle.expr_eval.specs.dsl_tree.ExprTree.{ExprTree, items_of}
use Rattle.expr_eval.specs.dsl_tree.PhaseTree.{RuleTree, ArgumentTree, PartTree}
use Rattle.expr_eval.specs.dsl_tree.FileTree.{MemberTree}
use Rattle.expr_eval.specs.type_heads.Table.{owner, bases}
use Rattle.expr_eval.specs.type_heads.Types.{Types, Member, Field}
use Rattle.expr_eval.specs.type_heads.Members.{members, fields_declared, fields, field, field_type, heir_condition}
use Rattle.expr_eval.specs.expr_nodes.Scope.{It}
use Rattle.run_values.specs.composition.declared.guard.Guard.{Guard}
use Rattle.run_values.specs.composition.declared.setting.Setting.{Setting}
use Rattle.run_values.specs.composition.Calls.{Assigned, assigned, scope_at}
use Rattle.run_values.specs.composition.Scenes.{Content, Spot, Scene, Occurrence, guards}
use Rattle.run_values.specs.composition.Givens.{Here, Given, guards_under, FieldHere, field_here, given_rule, given_initials, given_elements, given_condition, given_conditions, given_field, given_member, own_givens}
use Rattle.run_values.specs.composition.Expansion.{Calling, calling, here_in, given_argument, part_rule, of_arguments, given_duration, parameter, expansion}
use Rattle.run_values.specs.composition.Expanded.{is_vehicle, spot, spots_of, givens_of, bindings_of, occurrence_of, can_be_asked, scene_from}
use Rattle.run_values.specs.composition.Invariants.{are_grounded}
use Rattle.run_values.proofs.of_field_flatten.Tests.{In, in_either, map_in, flat_map_in, in_filter, all_from}
use Rattle.run_values.proofs.of_field_flatten.Presence.{guards_grounded}
use Rattle.scene_laws.specs.Premises.{is_free, are_held}
use Rattle.scene_laws.proofs.FieldNames.{Pairs, NamesDiffer}
use Rattle.scene_laws.proofs.DistinctPaths.{spot_guards}
use Rattle.scene_laws.proofs.PlacedObjects.{IsAcyclic, Placed}
use Rattle.checkable_scenes.proofs.ConditionFields.{IsInherited}
use Rattle.checkable_scenes.proofs.ConditionLists.{IsUnder}
use Rattle.checkable_scenes.proofs.GroundedSpots.{here, Grounds, member_grounded, to_field, to_call, spots_grounded}
use Rattle.checkable_scenes.proofs.EachText.{call_givens, comp_givens, each_text}

-- a constraint of an object and of a member's conditional subtypes
pub record OfMember (ts : Types) (object : Path) (t : ℕ) (under : List ℕ) (g : Given) : Type 0 where
  pub holder : g.holder ≡ object
  pub conditions : g.under ≡ guards_under ts object t under

rule_of : (ts : Types) (h : Here) (object : Path) (t : ℕ) (under : List ℕ) (r : RuleTree) → OfMember ts object t under (given_rule ts h object (guards_under ts object t under) r)
rule_of ts h object t under (RuleTree.Keep place kind e) = record { holder = refl; conditions = refl }
rule_of ts h object t under (RuleTree.Remove place path) = record { holder = refl; conditions = refl }

module _ (ts : Types) (object : Path) (t : ℕ) (f : Field) where
  abbrev at : FieldHere
  at = field_here ts object t f

  elements_of : (n : ℕ) (values : List ExprTree) (g : Given) → In g (given_elements ts at n values) → OfMember ts object t f.under g
  elements_of n [] g i = absurd i
  elements_of n (value ∷ values) g (inl e) = subst (OfMember ts object t f.under) (sym e) (record { holder = refl; conditions = refl })
  elements_of n (value ∷ values) g (inr i) = elements_of (n + 1) values g i

  one_of_them : (g h : Given) → OfMember ts object t f.under h → In g (h ∷ []) → OfMember ts object t f.under g
  one_of_them g h o (inl e) = subst (OfMember ts object t f.under) (sym e) o
  one_of_them g h o (inr i) = absurd i

  initials_of : (list : Bool) (e : ExprTree) (g : Given) → In g (given_initials ts at list e) → OfMember ts object t f.under g
  initials_of true (ExprTree.Listed place items) g i = elements_of 0 (items_of items) g i
  initials_of true (ExprTree.Implies p l r) g i = one_of_them g _ (record { holder = refl; conditions = refl }) i
  initials_of true (ExprTree.Or p o l r) g i = one_of_them g _ (record { holder = refl; conditions = refl }) i
  initials_of true (ExprTree.And p o l r) g i = one_of_them g _ (record { holder = refl; conditions = refl }) i
  initials_of true (ExprTree.Not p x) g i = one_of_them g _ (record { holder = refl; conditions = refl }) i
  initials_of true (ExprTree.Relation p s l r) g i = one_of_them g _ (record { holder = refl; conditions = refl }) i
  initials_of true (ExprTree.Sum p o l r) g i = one_of_them g _ (record { holder = refl; conditions = refl }) i
  initials_of true (ExprTree.Product p o l r) g i = one_of_them g _ (record { holder = refl; conditions = refl }) i
  initials_of true (ExprTree.Minus p x) g i = one_of_them g _ (record { holder = refl; conditions = refl }) i
  initials_of true (ExprTree.Dot h n) g i = one_of_them g _ (record { holder = refl; conditions = refl }) i
  initials_of true (ExprTree.Index p h n) g i = one_of_them g _ (record { holder = refl; conditions = refl }) i
  initials_of true (ExprTree.Number d) g i = one_of_them g _ (record { holder = refl; conditions = refl }) i
  initials_of true (ExprTree.Physical d u) g i = one_of_them g _ (record { holder = refl; conditions = refl }) i
  initials_of true (ExprTree.Chars p x) g i = one_of_them g _ (record { holder = refl; conditions = refl }) i
  initials_of true (ExprTree.Truth p v) g i = one_of_them g _ (record { holder = refl; conditions = refl }) i
  initials_of true (ExprTree.It p) g i = one_of_them g _ (record { holder = refl; conditions = refl }) i
  initials_of true (ExprTree.Actor p) g i = one_of_them g _ (record { holder = refl; conditions = refl }) i
  initials_of true (ExprTree.Name n) g i = one_of_them g _ (record { holder = refl; conditions = refl }) i
  initials_of true (ExprTree.EnumName e m) g i = one_of_them g _ (record { holder = refl; conditions = refl }) i
  initials_of true (ExprTree.Group p x) g i = one_of_them g _ (record { holder = refl; conditions = refl }) i
  initials_of true (ExprTree.Span p l h) g i = one_of_them g _ (record { holder = refl; conditions = refl }) i
  initials_of true (ExprTree.RangeCall p l h) g i = one_of_them g _ (record { holder = refl; conditions = refl }) i
  initials_of true (ExprTree.Start x) g i = one_of_them g _ (record { holder = refl; conditions = refl }) i
  initials_of false e g i = one_of_them g _ (record { holder = refl; conditions = refl }) i

  conditions_of : (place : Place) (u : ℕ) (g : Given) → In g (given_conditions ts at place u) → OfMember ts object t f.under g
  conditions_of place u g i =
      let c = flat_map_in (λ (c : HeirCondition). map (given_condition ts at place c) (option_to_list (field ts u c.field.text))) (filter_map (heir_condition ts.bodies) (reverse (u ∷ bases ts.table.heads u))) g i in
      let m = map_in (given_condition ts at place c.0) (option_to_list (field ts u c.0.field.text)) g c.2 in
      subst (OfMember ts object t f.under) (sym m.2) (record { holder = refl; conditions = refl })

  pub field_given_of : (g : Given) → In g (given_field ts object t f) → OfMember ts object t f.under g
  field_given_of g i =
      let first = flat_map (given_conditions ts at f.tree.of.place) (option_to_list (field_type ts f)) in
      let second = map (given_rule ts at.here object at.under) f.tree.rules in
      let third = flat_map (given_initials ts at (option_map_or (λ (place : Place). true) f.tree.list false)) (option_to_list f.tree.initial) in
      elim (in_either g (first ++ second) third i) as (λ _. OfMember ts object t f.under g) [
        | inl j ↦ elim (in_either g first second j) as (λ _. OfMember ts object t f.under g) [
          | inl l ↦ let m = flat_map_in (given_conditions ts at f.tree.of.place) (option_to_list (field_type ts f)) g l in conditions_of f.tree.of.place m.0 g m.2
          | inr l ↦ let m = map_in (given_rule ts at.here object at.under) f.tree.rules g l in subst (OfMember ts object t f.under) (sym m.2) (rule_of ts at.here object t f.under m.0)
        ]
        | inr j ↦ let m = flat_map_in (given_initials ts at (option_map_or (λ (place : Place). true) f.tree.list false)) (option_to_list f.tree.initial) g j in initials_of (option_map_or (λ (place : Place). true) f.tree.list false) m.0 g m.2
      ]

-- a constraint of an object is that of one of its members
pub own_given_of : (ts : Types) (k : IsInherited ts) (object : Path) (t : ℕ) (g : Given) → In g (own_givens ts object t) → (under : List ℕ) × IsUnder ts k t under × OfMember ts object t under g
own_given_of ts k object t g i =
    let m = flat_map_in (λ (m : Member). given_member ts object t m m.written.member) (members ts t) g i in
    by m.0 m.1 m.0.written.member m.2
  where
    by : (m : Member) → In m (members ts t) → (tree : MemberTree) → In g (given_member ts object t m tree) → (under : List ℕ) × IsUnder ts k t under × OfMember ts object t under g
    by m j (MemberTree.Field x) l =
        let f = flat_map_in (given_field ts object t) (fields_declared m (MemberTree.Field x)) g l in
        let n = map_in (λ (i : Ident). record { name = i; tree = x; holder = m.holder; under = m.under }) x.names f.0 f.1 in
        (f.0.under, (m, j, ap (λ (z : Field). z.under) n.2), field_given_of ts object t f.0 g f.2)
    by m j (MemberTree.Rule r) (inl e) =
        (m.under, (m, j, refl), subst (OfMember ts object t m.under) (sym e) (rule_of ts (record { object = object; it = object; scope = scope_at ts m.holder None [] }) object t m.under r))
    by m j (MemberTree.Rule r) (inr l) = absurd l
    by m j (MemberTree.Do place phase) l = absurd l

-- the constraints of phases have no conditions of their own
module _ (ts : Types) (call : Calling) where
  arguments_under : (of n : ℕ) (h : Here) (arguments : List ArgumentTree) (g : Given) → In g (of_arguments ts of (given_argument ts call h) n arguments) → g.under ≡ []
  arguments_under of n h [] g i = absurd i
  arguments_under of n h (a ∷ others) g i =
      elim (in_either g (given_argument ts call h a.value (assigned ts of n a.name)) (of_arguments ts of (given_argument ts call h) (n + 1) others) i) as (λ _. g.under ≡ []) [
        | inl j ↦ by (assigned ts of n a.name) j
        | inr j ↦ arguments_under of (n + 1) h others g j
      ]
    where
      by : (x : Assigned) → In g (given_argument ts call h a.value x) → g.under ≡ []
      by Assigned.Surplus j = absurd j
      by Assigned.Duration (inl e) = ap (λ (z : Given). z.under) e
      by Assigned.Duration (inr j) = absurd j
      by (Assigned.Unknown name) j = absurd j
      by (Assigned.Given f) j = let m = map_in _ (option_to_list (parameter ts h a.value f)) g j in ap (λ (z : Given). z.under) m.2

  pub call_under : (of : ℕ) (arguments : List ArgumentTree) (parts : List PartTree) (g : Given) → In g (call_givens ts call of arguments parts) → g.under ≡ []
  call_under of arguments parts g i =
      let h = here_in ts call (Some (It.Of of None)) in
      elim (in_either g (of_arguments ts of (given_argument ts call h) 0 arguments) (flat_map (part_rule ts call h) parts) i) as (λ _. g.under ≡ []) [
        | inl j ↦ arguments_under of 0 h arguments g j
        | inr j ↦ let m = flat_map_in (part_rule ts call h) parts g j in by h m.0 m.2
      ]
    where
      rule : (h : Here) (r : RuleTree) → In g (given_rule ts h call.path [] r ∷ []) → g.under ≡ []
      rule h (RuleTree.Keep place kind e) (inl same) = ap (λ (z : Given). z.under) same
      rule h (RuleTree.Remove place path) (inl same) = ap (λ (z : Given). z.under) same
      rule h r (inr j) = absurd j

      by : (h : Here) (part : PartTree) → In g (part_rule ts call h part) → g.under ≡ []
      by h (PartTree.RulePart r) j = rule h r j
      by h (PartTree.ModifierPart m) j = absurd j

  pub comp_under : (arguments : List ArgumentTree) (g : Given) → In g (comp_givens ts call arguments) → g.under ≡ []
  comp_under arguments g i = let m = map_in (given_duration ts call) _ g i in ap (λ (z : Given). z.under) m.2

module _ (ts : Types) (a : IsAcyclic ts) (k : IsInherited ts) (names : (t : ℕ) → Pairs NamesDiffer (fields ts t)) (free : (t : ℕ) (f : Field) → In f (fields ts t) → is_free f.name.text ≡ true) (whole : ℕ) (setting : Setting)
    (first : Placed ts a (spots_of ts (expansion ts whole)) root whole [] []) (actor : (x : ℕ) → owner ts.table.heads whole ≡ Some x → Placed ts a (spots_of ts (expansion ts whole)) (then_name root (codes "actor")) x [] []) where
  abbrev scene_here : Scene
  scene_here = here ts a k names free whole setting

  spots : list_all (λ (s : Spot). are_grounded scene_here [] s.guards) scene_here.spots ≡ true
  spots = spots_grounded ts a k names free whole setting first actor

  -- a constraint is grounded behind its holder
  abbrev IsHeld : Given → Type 0
  IsHeld g = are_grounded scene_here [] (guards scene_here g.holder ++ g.under) ≡ true

  nil_after : {A : Type 0} (xs : List A) → xs ++ [] ≡ xs
  nil_after [] = refl
  nil_after (x ∷ xs) = ap (λ l. x ∷ l) (nil_after xs)

  free_held : (g : Given) → g.under ≡ [] → IsHeld g
  free_held g e = subst (λ l. are_grounded scene_here [] (guards scene_here g.holder ++ l) ≡ true) (sym e) (subst (λ l. are_grounded scene_here [] l ≡ true) (sym (nil_after (guards scene_here g.holder))) (guards_grounded scene_here spots g.holder))

  own_held : (path : Path) (t : ℕ) (gs : List Guard) (bindings : List _) → Grounds ts a k names free whole setting path t gs bindings → (g : Given) → In g (own_givens ts path t) → IsHeld g
  own_held path t gs bindings q g i =
      let o = own_given_of ts k path t g i in
      let there = q.0.inside (spot path gs (Content.Object (is_vehicle ts t))) (inl refl) in
      let own : guards scene_here path ≡ gs = spot_guards ts names free whole setting (spot path gs (Content.Object (is_vehicle ts t))) there in
      subst (λ z. are_grounded scene_here [] (guards scene_here z ++ g.under) ≡ true) (sym o.2.holder)
      (subst (λ l. are_grounded scene_here [] (l ++ g.under) ≡ true) (sym own)
      (subst (λ l. are_grounded scene_here [] (gs ++ l) ≡ true) (sym o.2.conditions) (member_grounded ts a k names free whole setting path t gs bindings q.0 o.0 o.1 q.1)))

  givens_held : (g : Given) → In g (givens_of (expansion ts whole)) → IsHeld g
  givens_held = (each_text ts (Grounds ts a k names free whole setting) IsHeld (λ m. Unit {0}) (λ b. Unit {0})
      (λ path t gs bindings q g i. own_held path t gs bindings q g i)
      (λ path t gs bindings q d is p i label place kind arguments members e g j. free_held g (comp_under ts (calling bindings path gs d p) arguments g j))
      (λ path t gs bindings q d is p i label place elapsed e. free_held (given_duration ts (calling bindings path gs d p) elapsed) refl)
      (λ path t gs bindings q d is p i label head ns arguments parts e of to g j. free_held g (call_under ts (calling bindings path gs d p) of arguments parts g j))
      (λ path t gs bindings q d is p i label head ns arguments parts e of to m j. tt)
      (λ path t gs bindings q d is p i label head ns arguments parts e of to b j. tt)
      (λ path t gs bindings q f i of typed test. to_field ts a k names free whole setting path t gs bindings q f i of typed test)
      (λ path t gs bindings q d is p i label head ns arguments parts e of to. to_call ts a k names free whole setting path t gs bindings q d is p i label head ns arguments parts e of to)
      whole (first, refl) (λ x e. (actor x e, refl))).givens

  pub all_held : list_all (are_held scene_here) scene_here.occurrences ≡ true
  all_held = all_from (are_held scene_here) scene_here.occurrences (λ o i.
      let f = in_filter (can_be_asked (scene_from ts setting (expansion ts whole))) (map (occurrence_of (bindings_of (expansion ts whole))) (givens_of (expansion ts whole))) o i in
      let m = map_in (occurrence_of (bindings_of (expansion ts whole))) (givens_of (expansion ts whole)) o f.0 in
      subst (λ (z : Occurrence). are_held scene_here z ≡ true) (sym m.2) (givens_held m.0 m.1))
