-- The constraints of texts, at their homes.
use Rattle.std.proofs.Common.{◌≡◌, ◌∙◌, refl, sym, ap, ap₂, ℕ, zero, suc, ◌+◌, ◌<◌, arith, Bool, true, false, cond, List, [], ◌∷◌, ◌++◌, Option, Some, None, flat_map, filter_map, is_some, map, option_map, option_to_list, reverse}
use Rattle.std.specs.Option.{option_map_or, option_or}
use Rattle.std.specs.List.{cons_option}
use Rattle.std.proofs.lemmas.List.{map-append}
use Rattle.osc_base.specs.declared.fault.Place.{Place}
use Rattle.osc_base.specs.declared.mark.Strength.{Strength}
use Rattle.osc_base.specs.declared.path.Path.{Path}
use Rattle.dsl_tree.specs.declared.compounds.HeirCondition.{HeirCondition}
use Rattle.dsl_tree.specs.ExprTree.{ExprTree, items_of}
use Rattle.dsl_tree.specs.FileTree.{MemberTree}
use Rattle.dsl_tree.specs.PhaseTree.{RuleTree}
use Rattle.expr_nodes.specs.type_heads.Table.{bases}
use Rattle.expr_nodes.specs.type_heads.Types.{Field, Member, Types}
use Rattle.expr_nodes.specs.type_heads.Members.{field, field_type, fields_declared, heir_condition, members}
use Rattle.expr_nodes.specs.Typing.{first, is_path, typed}
use Rattle.program_texts.specs.composition.declared.guard.Guard.{Guard}
use Rattle.program_texts.specs.composition.Expanded.{occurrence_of}
use Rattle.program_texts.specs.composition.Givens.{FieldHere, Given, element, equals, field_here, given_condition, given_conditions, given_elements, given_field, given_initial, given_initials, given_keep, given_member, given_rule, keep_target, left_target, own_givens, strength_of, target_at, value_tree}
use Rattle.program_texts.specs.composition.Homes.{home}
use Rattle.program_texts.specs.composition.Tokens.{tokens, value_tokens}
use Rattle.program_texts.specs.composition.Scenes.{Binding}
use Rattle.scene_places.specs.expansion_laws.WorkNodes.{own_within}
use Rattle.text_constraints.specs.Kept.{Holder, equal_kept, kept, mark_home, rule_kept}
use Rattle.text_constraints.specs.OwnTexts.{condition_kept, conditions_kept, elements_kept, field_kept, field_site, held_under, heir_kept, initial_kept, initials_kept, listed_kept, member_kept, rule_site}
use Rattle.text_constraints.specs.Sites.{Site, here_of, left_home, read_home}
use Rattle.text_constraints.proofs.HomedTexts.{left_is, target_is, typed_is}

-- ---- lists

-- what each of some things gives
pub each_is : {X Y Z : Type 0} (see : Y → Z) (give : X → List Y) (kept : X → List Z) → ((x : X) → map see (give x) ≡ kept x) → (xs : List X) → map see (flat_map give xs) ≡ flat_map kept xs
each_is see give kept same [] = refl
each_is see give kept same (x ∷ xs) = map-append see (give x) (flat_map give xs) ∙ ap₂ (λ a b. a ++ b) (same x) (each_is see give kept same xs)

one_is : {X Y Z : Type 0} (see : Y → Z) (give : X → Y) (kept : X → Z) → ((x : X) → see (give x) ≡ kept x) → (xs : List X) → map see (map give xs) ≡ map kept xs
one_is see give kept same [] = refl
one_is see give kept same (x ∷ xs) = ap₂ (λ a b. a ∷ b) (same x) (one_is see give kept same xs)

-- what those of some things that have something give
had_is : {X H Y Z : Type 0} (see : Y → Z) (has : X → Option H) (give : H → List Y) (kept : H → List Z) → ((h : H) → map see (give h) ≡ kept h) → (xs : List X)
    → map see (flat_map give (filter_map has xs)) ≡ flat_map (λ x. flat_map kept (option_to_list (has x))) xs
had_is see has give kept same [] = refl
had_is {X} {H} {Y} {Z} see has give kept same (x ∷ xs) = by (has x) (had_is see has give kept same xs)
  where
    nil : (a : List Z) → a ≡ a ++ []
    nil [] = refl
    nil (z ∷ a) = ap (λ b. z ∷ b) (nil a)

    by : (o : Option H) → map see (flat_map give (filter_map has xs)) ≡ flat_map (λ y. flat_map kept (option_to_list (has y))) xs
        → map see (flat_map give (cons_option o (filter_map has xs))) ≡ flat_map kept (option_to_list o) ++ flat_map (λ y. flat_map kept (option_to_list (has y))) xs
    by None h = h
    by (Some k) h = map-append see (give k) (flat_map give (filter_map has xs)) ∙ ap₂ (λ a b. a ++ b) (same k ∙ nil (kept k)) h

or_map : {X Y : Type 0} (f : X → Y) (a b : Option X) → option_map f (option_or a b) ≡ option_or (option_map f a) (option_map f b)
or_map f None b = refl
or_map f (Some x) b = refl

or_none : {X : Type 0} (a : Option X) → option_or a None ≡ a
or_none None = refl
or_none (Some x) = refl

-- ---- constraints

module _ (ts : Types) (s : Site) (h : Holder) where
  mark_is : (strength : Strength) (e : ExprTree) → option_map (home s.bindings) (keep_target ts (here_of s) strength e) ≡ mark_home ts.table s strength e
  mark_is Strength.Hard e = left_is s ts e
  mark_is Strength.Default e =
      or_map (home s.bindings) (left_target ts (here_of s) e) (target_at ts (here_of s) e) ∙ ap₂ option_or (left_is s ts e) (target_is s ts e)
  mark_is Strength.Remove e = target_is s ts e

  pub kept_is : (place : Place) (strength : Strength) (e : ExprTree) (count : ℕ)
      → occurrence_of s.bindings (given_keep ts (here_of s) h.holder h.under place strength e count) ≡ kept ts.table s h place strength e
  kept_is place strength e count = λ i. record {
    place = place;
    holder = h.holder;
    under = h.under;
    mark = record { target = mark_is strength e i; strength = strength };
    typed = typed_is s ts e i;
  }

  pub rule_is : (r : RuleTree) → occurrence_of s.bindings (given_rule ts (here_of s) h.holder h.under r) ≡ rule_kept ts.table s h r
  rule_is (RuleTree.Keep place kind e) = kept_is place (strength_of kind) e (tokens e)
  rule_is (RuleTree.Remove place path) = λ i. record {
    place = place;
    holder = h.holder;
    under = h.under;
    mark = record { target = target_is s ts path i; strength = Strength.Remove };
    typed = None;
  }

  -- a field that equals a value
  left_path : (left value : ExprTree) → is_path left ≡ true → left_home ts.table s (equals left value) ≡ read_home s (typed ts.table s.scope left)
  left_path left value path = ap (λ b. cond b (read_home s (typed ts.table s.scope left)) None) path

  hard_is : (place : Place) (left value : ExprTree) → is_path left ≡ true → kept ts.table s h place Strength.Hard (equals left value) ≡ equal_kept ts.table s h place Strength.Hard left value
  hard_is place left value path = ap (λ t. record (equal_kept ts.table s h place Strength.Hard left value) { mark = record { target = t; strength = Strength.Hard } }) (left_path left value path)

  default_is : (place : Place) (left value : ExprTree) → is_path left ≡ true → kept ts.table s h place Strength.Default (equals left value) ≡ equal_kept ts.table s h place Strength.Default left value
  default_is place left value path = ap (λ t. record (equal_kept ts.table s h place Strength.Default left value) { mark = record { target = t; strength = Strength.Default } }) (or_none (left_home ts.table s (equals left value)) ∙ left_path left value path)

-- ---- the texts of a field

module _ (ts : Types) (s : Site) (under : List Guard) where
  abbrev h : Holder
  h = record { holder = s.object; under = under }

  abbrev f : FieldHere
  f = record { here = here_of s; under = under }

  condition_is : (place : Place) (c : HeirCondition) (looked_at : Field) → occurrence_of s.bindings (given_condition ts f place c looked_at) ≡ condition_kept ts.table s h place c looked_at
  condition_is place c looked_at =
      kept_is ts s h place Strength.Hard (equals (ExprTree.Dot (ExprTree.It place) c.field) (value_tree looked_at.tree.of c.value)) (2 + value_tokens c.value)
      ∙ hard_is ts s h place (ExprTree.Dot (ExprTree.It place) c.field) (value_tree looked_at.tree.of c.value) refl

  pub conditions_are : (place : Place) (t : ℕ) → map (occurrence_of s.bindings) (given_conditions ts f place t) ≡ conditions_kept ts s h place t
  conditions_are place t =
      had_is (occurrence_of s.bindings) (heir_condition ts.bodies) (λ c. map (given_condition ts f place c) (option_to_list (field ts t c.field.text))) (heir_kept ts t s h place)
      (λ c. one_is (occurrence_of s.bindings) (given_condition ts f place c) (condition_kept ts.table s h place c) (condition_is place c) (option_to_list (field ts t c.field.text)))
      (reverse (t ∷ bases ts.table.heads t))

  initial_is : (left value : ExprTree) → is_path left ≡ true → occurrence_of s.bindings (given_initial ts f left value) ≡ initial_kept ts.table s h left value
  initial_is left value path = kept_is ts s h (first value) Strength.Default (equals left value) (tokens value) ∙ default_is ts s h (first value) left value path

  elements_are : (n : ℕ) (values : List ExprTree) → map (occurrence_of s.bindings) (given_elements ts f n values) ≡ elements_kept ts.table s h n values
  elements_are n [] = refl
  elements_are n (value ∷ values) = ap₂ (λ a b. a ∷ b) (initial_is (element (first value) n) value refl) (elements_are (n + 1) values)

  whole_is : (value : ExprTree) → map (occurrence_of s.bindings) (given_initial ts f (ExprTree.It (first value)) value ∷ []) ≡ initial_kept ts.table s h (ExprTree.It (first value)) value ∷ []
  whole_is value = ap (λ o. o ∷ []) (initial_is (ExprTree.It (first value)) value refl)

  pub initials_are : (is_list : Bool) (value : ExprTree) → map (occurrence_of s.bindings) (given_initials ts f is_list value) ≡ initials_kept ts.table s h is_list value
  initials_are true (ExprTree.Listed place items) = elements_are 0 (items_of items)
  initials_are false (ExprTree.Listed place items) = whole_is (ExprTree.Listed place items)
  initials_are true (ExprTree.Implies place left right) = whole_is (ExprTree.Implies place left right)
  initials_are true (ExprTree.Or place operator left right) = whole_is (ExprTree.Or place operator left right)
  initials_are true (ExprTree.And place operator left right) = whole_is (ExprTree.And place operator left right)
  initials_are true (ExprTree.Not place part) = whole_is (ExprTree.Not place part)
  initials_are true (ExprTree.Relation place sign left right) = whole_is (ExprTree.Relation place sign left right)
  initials_are true (ExprTree.Sum place operator left right) = whole_is (ExprTree.Sum place operator left right)
  initials_are true (ExprTree.Product place operator left right) = whole_is (ExprTree.Product place operator left right)
  initials_are true (ExprTree.Minus place part) = whole_is (ExprTree.Minus place part)
  initials_are true (ExprTree.Dot head name) = whole_is (ExprTree.Dot head name)
  initials_are true (ExprTree.Index place head index) = whole_is (ExprTree.Index place head index)
  initials_are true (ExprTree.Number number) = whole_is (ExprTree.Number number)
  initials_are true (ExprTree.Physical number unit) = whole_is (ExprTree.Physical number unit)
  initials_are true (ExprTree.Chars place text) = whole_is (ExprTree.Chars place text)
  initials_are true (ExprTree.Truth place value) = whole_is (ExprTree.Truth place value)
  initials_are true (ExprTree.It place) = whole_is (ExprTree.It place)
  initials_are true (ExprTree.Actor place) = whole_is (ExprTree.Actor place)
  initials_are true (ExprTree.Name name) = whole_is (ExprTree.Name name)
  initials_are true (ExprTree.EnumName of member) = whole_is (ExprTree.EnumName of member)
  initials_are true (ExprTree.Group place inner) = whole_is (ExprTree.Group place inner)
  initials_are true (ExprTree.Span place low high) = whole_is (ExprTree.Span place low high)
  initials_are true (ExprTree.RangeCall place low high) = whole_is (ExprTree.RangeCall place low high)
  initials_are true (ExprTree.Start part) = whole_is (ExprTree.Start part)
  initials_are false (ExprTree.Implies place left right) = whole_is (ExprTree.Implies place left right)
  initials_are false (ExprTree.Or place operator left right) = whole_is (ExprTree.Or place operator left right)
  initials_are false (ExprTree.And place operator left right) = whole_is (ExprTree.And place operator left right)
  initials_are false (ExprTree.Not place part) = whole_is (ExprTree.Not place part)
  initials_are false (ExprTree.Relation place sign left right) = whole_is (ExprTree.Relation place sign left right)
  initials_are false (ExprTree.Sum place operator left right) = whole_is (ExprTree.Sum place operator left right)
  initials_are false (ExprTree.Product place operator left right) = whole_is (ExprTree.Product place operator left right)
  initials_are false (ExprTree.Minus place part) = whole_is (ExprTree.Minus place part)
  initials_are false (ExprTree.Dot head name) = whole_is (ExprTree.Dot head name)
  initials_are false (ExprTree.Index place head index) = whole_is (ExprTree.Index place head index)
  initials_are false (ExprTree.Number number) = whole_is (ExprTree.Number number)
  initials_are false (ExprTree.Physical number unit) = whole_is (ExprTree.Physical number unit)
  initials_are false (ExprTree.Chars place text) = whole_is (ExprTree.Chars place text)
  initials_are false (ExprTree.Truth place value) = whole_is (ExprTree.Truth place value)
  initials_are false (ExprTree.It place) = whole_is (ExprTree.It place)
  initials_are false (ExprTree.Actor place) = whole_is (ExprTree.Actor place)
  initials_are false (ExprTree.Name name) = whole_is (ExprTree.Name name)
  initials_are false (ExprTree.EnumName of member) = whole_is (ExprTree.EnumName of member)
  initials_are false (ExprTree.Group place inner) = whole_is (ExprTree.Group place inner)
  initials_are false (ExprTree.Span place low high) = whole_is (ExprTree.Span place low high)
  initials_are false (ExprTree.RangeCall place low high) = whole_is (ExprTree.RangeCall place low high)
  initials_are false (ExprTree.Start part) = whole_is (ExprTree.Start part)

  rules_are : (rs : List RuleTree) → map (occurrence_of s.bindings) (map (given_rule ts (here_of s) s.object under) rs) ≡ map (rule_kept ts.table s h) rs
  rules_are rs = one_is (occurrence_of s.bindings) (given_rule ts (here_of s) s.object under) (rule_kept ts.table s h) (rule_is ts s h) rs

is_listed : (o : Option Place) → option_map_or (λ (place : Place). true) o false ≡ is_some o
is_listed None = refl
is_listed (Some place) = refl

-- ---- members

module _ (ts : Types) (bindings : List Binding) (object : Path) (t : ℕ) where
  field_is : (f : Field) → map (occurrence_of bindings) (given_field ts object t f) ≡ field_kept ts bindings object t f
  field_is f =
      let s : Site = field_site ts bindings object f in
      let k : FieldHere = field_here ts object t f in
      let conds : List Given = flat_map (given_conditions ts k f.tree.of.place) (option_to_list (field_type ts f)) in
      let rules : List Given = map (given_rule ts k.here object k.under) f.tree.rules in
      let initials : List Given = flat_map (given_initials ts k (option_map_or (λ (place : Place). true) f.tree.list false)) (option_to_list f.tree.initial) in
      map-append (occurrence_of bindings) (conds ++ rules) initials
      ∙ ap₂ (λ a b. a ++ b)
      (map-append (occurrence_of bindings) conds rules
      ∙ ap₂ (λ a b. a ++ b)
      (each_is (occurrence_of bindings) (given_conditions ts k f.tree.of.place) (conditions_kept ts s (held_under ts object t f.under) f.tree.of.place) (conditions_are ts s k.under f.tree.of.place) (option_to_list (field_type ts f)))
      (rules_are ts s k.under f.tree.rules))
      (ap (λ b. map (occurrence_of bindings) (flat_map (given_initials ts k b) (option_to_list f.tree.initial))) (is_listed f.tree.list)
      ∙ each_is (occurrence_of bindings) (given_initials ts k (is_some f.tree.list)) (initials_kept ts.table s (held_under ts object t f.under) (is_some f.tree.list)) (initials_are ts s k.under (is_some f.tree.list)) (option_to_list f.tree.initial))

  member_is : (m : Member) (tree : MemberTree) → map (occurrence_of bindings) (given_member ts object t m tree) ≡ member_kept ts bindings object t m tree
  member_is m (MemberTree.Field f) = each_is (occurrence_of bindings) (given_field ts object t) (field_kept ts bindings object t) field_is (fields_declared m (MemberTree.Field f))
  member_is m (MemberTree.Rule r) = ap (λ o. o ∷ []) (rule_is ts (rule_site ts bindings object m.holder) (held_under ts object t m.under) r)
  member_is m (MemberTree.Do place phase) = refl

  -- the own constraints of an object
  pub own_are : map (occurrence_of bindings) (own_givens ts object t) ≡ flat_map (listed_kept ts bindings object t) (members ts t)
  own_are = each_is (occurrence_of bindings) (λ (m : Member). given_member ts object t m m.written.member) (listed_kept ts bindings object t) (λ m. member_is m m.written.member) (members ts t)

-- with some steps left
pub own_some : (steps : ℕ) (ts : Types) (bindings : List Binding) (object : Path) (t : ℕ) → 0 < steps → flat_map (listed_kept ts bindings object t) (members ts t) ≡ map (occurrence_of bindings) (own_within steps ts object t)
own_some zero ts bindings object t h = absurd (omega (arith, h))
own_some (suc steps) ts bindings object t h = sym (own_are ts bindings object t)

pub own_none : (steps : ℕ) (ts : Types) (bindings : List Binding) (object : Path) (t : ℕ) → steps ≡ 0 → [] ≡ map (occurrence_of bindings) (own_within steps ts object t)
own_none steps ts bindings object t h = sym (ap (λ n. map (occurrence_of bindings) (own_within n ts object t)) h)
