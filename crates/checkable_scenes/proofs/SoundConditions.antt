-- The conditions of a field's type are sound: `it.f == v`.
use Rattle.std.proofs.Common.{◌≡◌, ℕ, zero, suc, ◌+◌, ◌*◌, ◌/◌, ◌≤◌, ◌<◌, refl, sym, ap, ◌∙◌, subst, inl, inr, List, [], ◌∷◌, Bool, true, false, ◌||◌, not, cond, Option, Some, None, max, pos, length, arith, true≢false}
use Rattle.std.specs.Prelude.{filter_map, reverse, option_map, option_and_then, is_some, is_none, bytes_eq, nat_lt, nat_eq, codes}
use Rattle.std.specs.Option.{option_map_or}
use Rattle.std.proofs.lemmas.Grind.{reverse_onto}
use Rattle.std.proofs.lemmas.Slice.Eq.{bytes_eq-Decides}
use Rattle.osc_base.specs.declared.fault.FaultCode.{FaultCode}
use Rattle.osc_base.specs.declared.fault.Place.{Place}
use Rattle.osc_base.specs.declared.mark.Strength.{Strength}
use Rattle.osc_base.specs.declared.path.Path.{Path}
use Rattle.osc_base.specs.Comparisons.{greatest_part}
use Rattle.osc_base.specs.FaultRows.{row}
use Rattle.osc_base.specs.LowestTerms.{lcm}
use Rattle.osc_base.specs.Number.{whole}
use Rattle.osc_base.specs.Paths.{root, then_name}
use Rattle.expr_eval.specs.dsl_tree.declared.compounds.ConditionValue.{ConditionValue}
use Rattle.expr_eval.specs.dsl_tree.declared.compounds.HeirCondition.{HeirCondition}
use Rattle.expr_eval.specs.dsl_tree.declared.parts.Ident.{Ident}
use Rattle.expr_eval.specs.dsl_tree.ExprTree.{ExprTree}
use Rattle.expr_eval.specs.dsl_tree.FileTree.{FieldTree}
use Rattle.expr_eval.specs.type_heads.Form.{Form, EnumMember}
use Rattle.expr_eval.specs.type_heads.MemberFaults.{held_rows, can_decide, decided_rows, field_rows}
use Rattle.expr_eval.specs.type_heads.Members.{list_length, declared_type, field, field_type, fields, items_in, heir_condition}
use Rattle.expr_eval.specs.type_heads.Table.{form, base, bases, line_within, named, has_members, is_object, is_behaviour, is_enum, enum_members, enum_number, number_of}
use Rattle.expr_eval.specs.type_heads.Types.{Types, Field}
use Rattle.expr_eval.specs.expr_nodes.declared.compare.Compare.{Compare}
use Rattle.expr_eval.specs.expr_nodes.Kinds.{ValueKind}
use Rattle.expr_eval.specs.expr_nodes.Names.{single, held_at, member_at, enum_named, enum_name_typed}
use Rattle.expr_eval.specs.expr_nodes.Operators.{comparison_rows}
use Rattle.expr_eval.specs.expr_nodes.Parts.{any_holds}
use Rattle.expr_eval.specs.expr_nodes.Scope.{Scope}
use Rattle.expr_eval.specs.expr_nodes.Sizes.{info_at, unit_size, field_size}
use Rattle.expr_eval.specs.expr_nodes.Typed as Nodes
use Rattle.expr_eval.specs.expr_nodes.Typed.{Typed, Read, Whole}
use Rattle.expr_eval.specs.expr_nodes.Typing.{typed, first}
use Rattle.run_values.specs.composition.Givens.{FieldHere, field_here, value_tree, given_condition}
use Rattle.run_values.specs.composition.Tokens.{value_tokens}
use Rattle.run_values.proofs.of_field_flatten.Tests.{number_self, In, in_either, found_in}
use Rattle.scene_laws.specs.Premises.{are_short}
use Rattle.scene_laws.proofs.FaultRows.{no_left, no_right}
use Rattle.scene_laws.proofs.HeldTypes.{named_below}
use Rattle.scene_laws.proofs.Picked.{filter_map_in}
use Rattle.scene_laws.proofs.TypedSound.{typed_good}
use Rattle.checkable_scenes.proofs.ConditionFields.{field_again}
use Rattle.checkable_scenes.proofs.Inherited.{up_step, up_trans, up_below}
use Rattle.checkable_scenes.proofs.NarrowRanges.{lcm_self}
use Rattle.checkable_scenes.proofs.SoundConstraints.{GivenSound}
use Rattle.checkable_scenes.proofs.SoundFields.{TextsKnown, equal_sound, single_whole, single_form, member_typed, named_field, it_is}
use Rattle.checkable_scenes.proofs.ResolvedScopes.{any_some}

-- ---- values that are written

one_scale : lcm 1 1 ≡ 1
one_scale = lcm_self 1 (omega arith)

-- a truth value of a field and one that is written
truth_compared : (q p r : Place) (path : Path) (b : Bool)
    → any_holds (comparison_rows q Compare.Equal (Some (Read (info_at p ValueKind.Truth (field_size 1)) path 1)) (Some (Nodes.Constant (info_at r ValueKind.Truth unit_size) (whole (cond b (pos 1) (pos 0)))))) ≡ false
truth_compared q p r path b = ap (λ n. (nat_lt greatest_part n || nat_lt greatest_part (1000000000 * (n / 1) + 1 * (n / 1))) || false) one_scale

-- a member of an enum, and one that is written
member_compared : (q p r : Place) (path : Path) (e n : ℕ) → n ≤ 1000000000 → any_holds (comparison_rows q Compare.Equal (Some (Read (info_at p (ValueKind.Member e) (field_size 1)) path 1)) (Some (member_at r e n))) ≡ false
member_compared q p r path e n small =
    rw (number_self e, one_scale, narrow (max 1 n) (most n small)) refl
  where
    most : (m : ℕ) → m ≤ 1000000000 → max 1 m ≤ 1000000000
    most m h = omega (arith, h)

    narrow : (m : ℕ) → m ≤ 1000000000 → nat_lt greatest_part (1000000000 * 1 + m * 1) ≡ false
    narrow m h = grind arith

in_reverse : {A : Type 0} (x : A) (xs : List A) → In x (reverse xs) → In x xs
in_reverse x [] i = i
in_reverse x (y ∷ ys) i = elim (in_either x (reverse ys) (y ∷ []) (subst (In x) (reverse_onto ys y []) i)) as (λ _. In x (y ∷ ys)) [
  | inl j ↦ inr (in_reverse x ys j)
  | inr j ↦ one j
]
  where
    one : In x (y ∷ []) → In x (y ∷ ys)
    one (inl e) = inl e
    one (inr j) = absurd j

short_value : (i : Ident) (x : ConditionValue) → are_short (value_tree i x) ≡ true
short_value i (ConditionValue.Truth p b) = refl
short_value i (ConditionValue.Name n) = refl
short_value i (ConditionValue.EnumName of n) = refl

-- ---- the field at which a condition looks

module _ (ts : Types) (k : TextsKnown ts) where
  -- a condition of a type, or of one above it, looks at a field of one truth value or of one member of an enum
  record Decided (u : ℕ) (c : HeirCondition) (g : Field) : Type 0 where
    heir : has_members (form ts.table.heads u) ≡ true
    of : ℕ
    typed_is : field_type ts g ≡ Some of
    rows : any_holds (decided_rows ts c g of) ≡ false

  decided : (u : ℕ) → u < length ts.table.heads → (c : HeirCondition) → In c (filter_map (heir_condition ts.bodies) (reverse (u ∷ bases ts.table.heads u))) → (g : Field) → field ts u c.field.text ≡ Some g → Decided u c g
  decided u below c i g at =
      let s = filter_map_in (heir_condition ts.bodies) (reverse (u ∷ bases ts.table.heads u)) c i in
      let up = in_reverse s.0 (u ∷ bases ts.table.heads u) s.1 in
      let rows = k.known.inherited.decided s.0 (up_below ts.table.heads k.known.inherited.based k.known.inherited.unlooped s.0 u below up) c s.2 in
      by_base s.0 up (base ts.table.heads s.0) refl (subst (λ o. any_holds (field_rows ts c (option_and_then (λ (c : HeirCondition). option_and_then (λ b. field ts b c.field.text) (base ts.table.heads s.0)) o)) ≡ false) s.2 rows)
    where
      some_same : {a b : Field} → Some a ≡ Some b → a ≡ b
      some_same e = cc

      no_line : (s n : ℕ) → In s (line_within n ts.table.heads None) → ⊥
      no_line s zero j = j
      no_line s (suc n) j = j

      heir_of : (s : ℕ) → In s (u ∷ bases ts.table.heads u) → has_members (form ts.table.heads s) ≡ true → has_members (form ts.table.heads u) ≡ true
      heir_of s (inl e) h = subst (λ z. has_members (form ts.table.heads z) ≡ true) e h
      heir_of s (inr j) h = by (base ts.table.heads u) refl j
        where
          by : (o : Option ℕ) → base ts.table.heads u ≡ o → In s (line_within (length ts.table.heads) ts.table.heads o) → has_members (form ts.table.heads u) ≡ true
          by None e j = absurd (no_line s (length ts.table.heads) j)
          by (Some b) e j = k.heirs u b e

      by_field : (s : ℕ) → In s (u ∷ bases ts.table.heads u) → (b : ℕ) → base ts.table.heads s ≡ Some b → (o : Option Field) → field ts b c.field.text ≡ o → any_holds (field_rows ts c o) ≡ false → Decided u c g
      by_field s up b e None q h = absurd (true≢false h)
      by_field s up b e (Some f) q h =
          let based = k.known.inherited.based in
          let unlooped = k.known.inherited.unlooped in
          let hit = found_in (λ (f : Field). bytes_eq f.name.text c.field.text) (fields ts b) f q in
          let v = k.known.declared b f hit.0 in
          let rows : any_holds (decided_rows ts c f v.0) ≡ false = subst (λ o. any_holds (option_map_or (decided_rows ts c f) o []) ≡ false) v.1 h in
          let again = field_again ts k.known.inherited u b below (up_trans ts.table.heads based unlooped u s b up (up_step ts.table.heads based unlooped b s b e (inl refl))) f hit.0 in
          let name : f.name.text ≡ c.field.text = (bytes_eq-Decides f.name.text c.field.text).0 hit.1 in
          let same : again.0 ≡ g = some_same (sym again.1 ∙ ap (field ts u) name ∙ at) in
          let tree : g.tree ≡ f.tree = ap (λ (z : Field). z.tree) (sym same) ∙ again.2 in
          record {
            heir = heir_of s up (k.heirs s b e);
            of = v.0;
            typed_is = ap (λ (z : FieldTree). declared_type ts z) tree ∙ v.1;
            rows = subst (λ (z : FieldTree). any_holds (row c.field.place FaultCode.WrongKind (not (can_decide (form ts.table.heads v.0)) || is_some z.list) ∷ held_rows ts.table.heads v.0 (form ts.table.heads v.0) c.value) ≡ false) (sym tree) rows;
          }

      by_base : (s : ℕ) → In s (u ∷ bases ts.table.heads u) → (o : Option ℕ) → base ts.table.heads s ≡ o → any_holds (field_rows ts c (option_and_then (λ b. field ts b c.field.text) o)) ≡ false → Decided u c g
      by_base s up None e h = absurd (true≢false h)
      by_base s up (Some b) e h = by_field s up b e (field ts b c.field.text) refl h

  module _ (path : Path) (t : ℕ) (f : Field) (inside : In f (fields ts t)) (of : ℕ) (is : field_type ts f ≡ Some of) (place : Place) where
    abbrev at : FieldHere
    at = field_here ts path t f

    abbrev scope : Scope
    scope = at.here.scope

    abbrev itself : Path
    itself = then_name root (codes "it")

    -- no list holds objects
    alone : has_members (form ts.table.heads of) ≡ true → list_length f.tree ≡ None
    alone h = by (list_length f.tree) refl
      where
        neither : (a b : Bool) → a ≡ false → b ≡ false → a || b ≡ false
        neither true b p q = p
        neither false b p q = q

        by : (o : Option ℕ) → list_length f.tree ≡ o → list_length f.tree ≡ None
        by None e = e
        by (Some n) e = absurd (true≢false (sym h ∙ neither (is_object (form ts.table.heads of)) (is_behaviour (form ts.table.heads of)) (k.lone t f inside of is n e) (k.known.holds t f inside of is)))

    it_whole : has_members (form ts.table.heads of) ≡ true → typed ts.table scope (ExprTree.It place) ≡ Some (Whole (info_at place (ValueKind.Object of) unit_size) itself)
    it_whole h = it_is ts k path t f of is place ∙ ap (λ n. held_at ts.table place itself of n) (alone h) ∙ single_whole ts.table place itself of h

    none_listed : (g : Field) → is_some g.tree.list ≡ false → list_length g.tree ≡ None
    none_listed g h = by g.tree.list refl h
      where
        by : (o : Option Place) → g.tree.list ≡ o → is_some o ≡ false → list_length g.tree ≡ None
        by None e q = ap (λ (o : Option Place). option_map (λ (place : Place). items_in g.tree.initial) o) e
        by (Some x) e q = absurd (true≢false q)

    hard : Strength.Hard ≡ Strength.Remove → ⊥
    hard h = cc

    module _ (c : HeirCondition) (g : Field) (v : ℕ) (named_is : named ts.table.heads None g.tree.of.text ≡ Some v) (left : typed ts.table scope (ExprTree.Dot (ExprTree.It place) c.field) ≡ single ts.table place (then_name itself c.field.text) v) where
      abbrev q : Path
      q = then_name itself c.field.text

      compared : (l y : Typed) → typed ts.table scope (ExprTree.Dot (ExprTree.It place) c.field) ≡ Some l → typed ts.table scope (value_tree g.tree.of c.value) ≡ Some y
          → any_holds (comparison_rows (first (value_tree g.tree.of c.value)) Compare.Equal (Some l) (Some y)) ≡ false → GivenSound (given_condition ts at place c g)
      compared l y e d rows =
          let value = value_tree g.tree.of c.value in
          equal_sound ts at.here path at.under place Strength.Hard hard (ExprTree.Dot (ExprTree.It place) c.field) value (2 + value_tokens c.value) l y e d
          (typed_good ts.table k.small scope (ExprTree.Dot (ExprTree.It place) c.field) refl l e) (typed_good ts.table k.small scope value (short_value g.tree.of c.value) y d) rows

      by_truth : typed ts.table scope (ExprTree.Dot (ExprTree.It place) c.field) ≡ Some (Read (info_at place ValueKind.Truth (field_size 1)) q 1)
          → (x : ConditionValue) → c.value ≡ x → any_holds (held_rows ts.table.heads v Form.Truth x) ≡ false → GivenSound (given_condition ts at place c g)
      by_truth l (ConditionValue.Truth p b) e h =
          compared (Read (info_at place ValueKind.Truth (field_size 1)) q 1) (Nodes.Constant (info_at p ValueKind.Truth unit_size) (whole (cond b (pos 1) (pos 0)))) l
          (ap (λ z. typed ts.table scope (value_tree g.tree.of z)) e) (truth_compared (first (value_tree g.tree.of c.value)) place p q b)
      by_truth l (ConditionValue.Name n) e h = absurd (true≢false h)
      by_truth l (ConditionValue.EnumName of n) e h = absurd (true≢false h)

      by_member : (ms : List EnumMember) → form ts.table.heads v ≡ Form.Enum ms → typed ts.table scope (ExprTree.Dot (ExprTree.It place) c.field) ≡ Some (Read (info_at place (ValueKind.Member v) (field_size 1)) q 1)
          → (n : Ident) → is_none (number_of ms n.text) ≡ false → typed ts.table scope (value_tree g.tree.of c.value) ≡ enum_name_typed ts.table g.tree.of n → GivenSound (given_condition ts at place c g)
      by_member ms e l n some d =
          let m = any_some (number_of ms n.text) some in
          let number : enum_number ts.table.heads v n.text ≡ Some m.0 = ap (λ z. number_of (enum_members z) n.text) e ∙ m.1 in
          let enum : enum_named ts.table g.tree.of ≡ Some v = ap (λ o. option_and_then (λ t. cond (is_enum (form ts.table.heads t)) (Some t) None) o) named_is ∙ ap (λ z. cond (is_enum z) (Some v) None) e in
          let value : enum_name_typed ts.table g.tree.of n ≡ Some (member_at g.tree.of.place v m.0) =
          ap (λ o. option_and_then (λ e. option_map (member_at g.tree.of.place e) (enum_number ts.table.heads e n.text)) o) enum ∙ ap (λ o. option_map (member_at g.tree.of.place v) o) number in
          compared (Read (info_at place (ValueKind.Member v) (field_size 1)) q 1) (member_at g.tree.of.place v m.0) l (d ∙ value)
          (member_compared (first (value_tree g.tree.of c.value)) place g.tree.of.place q v m.0 (k.small.members v n.text m.0 number))

      by_enum : (ms : List EnumMember) → form ts.table.heads v ≡ Form.Enum ms → (x : ConditionValue) → c.value ≡ x → any_holds (held_rows ts.table.heads v (Form.Enum ms) x) ≡ false → GivenSound (given_condition ts at place c g)
      by_enum ms e (ConditionValue.Truth p b) d h = absurd (true≢false h)
      by_enum ms e (ConditionValue.Name n) d h =
          by_member ms e (left ∙ single_form ts.table place q v (Form.Enum ms) e) n (no_left (is_none (number_of ms n.text)) false h) (ap (λ z. typed ts.table scope (value_tree g.tree.of z)) d)
      by_enum ms e (ConditionValue.EnumName of n) d h =
          by_member ms e (left ∙ single_form ts.table place q v (Form.Enum ms) e) n
          (no_left (is_none (number_of ms n.text)) false (no_right (not (option_map_or (nat_eq v) (named ts.table.heads None of.text) false)) _ h)) (ap (λ z. typed ts.table scope (value_tree g.tree.of z)) d)

      by_form : (x : Form) → form ts.table.heads v ≡ x → any_holds (row c.field.place FaultCode.WrongKind (not (can_decide x) || is_some g.tree.list) ∷ held_rows ts.table.heads v x c.value) ≡ false → GivenSound (given_condition ts at place c g)
      by_form Form.Truth e h = by_truth (left ∙ single_form ts.table place q v Form.Truth e) c.value refl (no_right (is_some g.tree.list) _ h)
      by_form (Form.Enum ms) e h = by_enum ms e c.value refl (no_right (is_some g.tree.list) _ h)
      by_form Form.Int e h = absurd (true≢false h)
      by_form Form.Uint e h = absurd (true≢false h)
      by_form Form.Float e h = absurd (true≢false h)
      by_form Form.Chars e h = absurd (true≢false h)
      by_form (Form.Physical x) e h = absurd (true≢false h)
      by_form (Form.Compound x) e h = absurd (true≢false h)

    -- a condition that the objects of the field's type meet
    pub condition_sound : (c : HeirCondition) → In c (filter_map (heir_condition ts.bodies) (reverse (of ∷ bases ts.table.heads of))) → (g : Field) → field ts of c.field.text ≡ Some g → GivenSound (given_condition ts at place c g)
    condition_sound c i g at =
        let d = decided of (named_below ts.table.heads None f.tree.of.text of is) c i g at in
        let single_is = none_listed g (no_right (not (can_decide (form ts.table.heads d.of))) (is_some g.tree.list) (no_left (not (can_decide (form ts.table.heads d.of)) || is_some g.tree.list) _ d.rows)) in
        let left = member_typed ts.table scope place of (it_whole d.heir) c.field (record { name = g.name.text; of = d.of; length = list_length g.tree }) (named_field ts k of c.field.text g d.of at d.typed_is)
        ∙ ap (λ n. held_at ts.table place (then_name itself c.field.text) d.of n) single_is in
        by_form c g d.of d.typed_is left (form ts.table.heads d.of) refl d.rows
