-- The typed forms of names and literals are sound.
use Rattle.std.proofs.Common.{◌≡◌, ◌∙◌, refl, sym, ap, subst, ℕ, zero, suc, ◌+◌, ◌/◌, ◌%◌, ◌<◌, ◌≤◌, ◌^◌, Bool, true, false, ◌&&◌, not, cond, List, [], ◌∷◌, Option, Some, None, nat_eq, true≢false, arith}
use Rattle.std.specs.Prelude.{ℤ, pos, negsuc, neg_ℤ, ◌||◌, int_le, unsigned_abs, option_map, option_and_then, unwrap_or, bytes_eq, codes}
use Rattle.std.specs.Option.{option_map_or}
use Rattle.std.proofs.Math.Nat.{one-le-pow}
use Rattle.std.proofs.lemmas.Int.{ints}
use Rattle.std.proofs.lemmas.Nat.Gcd.{same_from_IsGcd}
use Rattle.osc_base.specs.declared.fault.Place.{Place}
use Rattle.osc_base.specs.declared.path.Path.{Path}
use Rattle.osc_base.specs.Number.{Number, whole}
use Rattle.osc_base.specs.FaultRows.{FaultRow}
use Rattle.osc_base.specs.Paths.{root, then_name, then_index}
use Rattle.osc_base.specs.LowestTerms.{gcd, share, lowest, decimal_number}
use Rattle.osc_base.proofs.Multiples.{lowest_terms}
use Rattle.dsl_tree.specs.declared.compounds.CompoundKind.{CompoundKind}
use Rattle.dsl_tree.specs.declared.parts.Digits.{Digits}
use Rattle.dsl_tree.specs.declared.parts.Ident.{Ident}
use Rattle.expr_typing.specs.units_si.declared.units.Exponents.{Exponents}
use Rattle.expr_typing.specs.name_scope.Declaring.{first_place}
use Rattle.expr_typing.specs.type_heads.Form.{Form}
use Rattle.expr_typing.specs.type_heads.Table.{Table, TableField, TableUnit, form, field_of, enum_number, enums_with, is_behaviour, unit}
use Rattle.expr_nodes.specs.Kinds.{ValueKind, Made, is_truth, plain}
use Rattle.expr_nodes.specs.Typed.{Typed, Constant, Read, Whole, Listed, Span, Minus, Not, Sum, Times, And, Or, Implies, Relation, Within}
use Rattle.expr_nodes.specs.Sizes.{info_at, constant_size, unit_size, is_wide}
use Rattle.expr_nodes.specs.Parts.{is_scalar, any_holds, unless}
use Rattle.expr_nodes.specs.Scope.{It, Label, Scope}
use Rattle.expr_nodes.specs.Operators.{constant_at, number_rows, number_typed, truth_typed, text_typed, physical_typed, count_in}
use Rattle.expr_nodes.specs.Names.{elements_from, held_at, Meaning, typed_meaning, member_at, member_meant, meaning_by_duration, meaning_by_label, meaning_by_field, meaning, label_named, name_rows, name_typed, it_at, dot_typed, field_meant, after_point, member_of_object, member_made, member_of_whole, duration_if, is_duration}
use Rattle.expr_nodes.specs.SeenNames.{single_in, list_in}
use Rattle.expr_nodes.specs.Sound.{is_sound, are_sound, is_lowest}
use Rattle.expr_nodes.proofs.of_osc_base.Divisors.{gcd_is, gcd_above_second, share_above, gcd_step, gcd_end}
use Rattle.expr_eval.proofs.Sizes.{both, nat_self, own_size}
use Rattle.expr_eval.proofs.SoundNodes.{Good, is_asked, only}

-- ---- lowest terms

pub gcd_one : (n : ℕ) → gcd n 1 ≡ 1
gcd_one n = let rest : n % 1 ≡ 0 = omega arith in gcd_step n 1 (omega arith) ∙ ap (gcd 1) rest ∙ gcd_end 1

shares : (n d : ℕ) → 0 < d → gcd (n / gcd n d) (d / gcd n d) ≡ 1
shares n d above = same_from_IsGcd (n / gcd n d) (d / gcd n d) (gcd (n / gcd n d) (d / gcd n d)) 1 (gcd_is (n / gcd n d) (d / gcd n d)) (lowest_terms n d (gcd n d) (gcd_above_second n d above) (gcd_is n d))

pub opposite_abs : (n : ℕ) → unsigned_abs (neg_ℤ (pos n)) ≡ n
opposite_abs n = omega (arith, ints)

pub share_abs : (x : ℤ) (d : ℕ) → unsigned_abs (share x d) ≡ unsigned_abs x / d
share_abs (pos n) d = refl
share_abs (negsuc n) d = opposite_abs (suc n / d)

pub lowest_is : (x : ℤ) (d : ℕ) → 0 < d → is_lowest (lowest x d) ≡ true
lowest_is x d above =
    let g = gcd (unsigned_abs x) d in
    let one : 0 < d / g = share_above (unsigned_abs x) d above in
    both _ _ (first (d / g) one) (ap (λ n. nat_eq n 1) (ap (λ n. gcd n (d / g)) (share_abs x g) ∙ shares (unsigned_abs x) d above) ∙ nat_self 1)
  where
    first : (n : ℕ) → 0 < n → int_le (pos 1) (pos n) ≡ true
    first n h = grind (arith, ints)

pub whole_is : (n : ℤ) → is_lowest (whole n) ≡ true
whole_is n = ap (λ k. nat_eq k 1) (gcd_one (unsigned_abs n)) ∙ nat_self 1

-- ---- constants

not_true : (b : Bool) → not b ≡ true → b ≡ false
not_true true h = absurd (true≢false (sym h))
not_true false h = refl

pub constant_good : (place : Place) (k : ValueKind) (n : Number) → is_truth k ≡ false → is_lowest n ≡ true → Good (Some (constant_at place k n))
constant_good place k n other low t is here =
    let same : constant_at place k n ≡ t = cc in
    let here' : is_asked (constant_at place k n) ≡ true = ap is_asked same ∙ here in
    let narrow : is_wide (constant_size n) ≡ false = not_true (is_wide (constant_size n)) (only (not (is_wide (constant_size n))) here') in
    subst (λ z. is_sound z ≡ true) same (both _ _ (both _ _ low (ap (λ b. not b || ((nat_eq (unsigned_abs n.denominator) 1 && int_le (pos 0) n.numerator) && int_le n.numerator (pos 1))) other))
    (own_size (info_at place k (constant_size n)) (constant_size n) refl refl narrow))

-- ---- fields

-- an expression that is sound without further ado
sound_good : (x : Typed) → is_sound x ≡ true → Good (Some x)
sound_good x s t is here = let same : x ≡ t = cc in subst (λ z. is_sound z ≡ true) same s

none_good : Good None
none_good t is here = absurd (cc)

single_good : (place : Place) (path : Path) (t : ℕ) (f : Form) → Good (single_in place path t f)
single_good place path t Form.Int = sound_good _ refl
single_good place path t Form.Uint = sound_good _ refl
single_good place path t Form.Float = sound_good _ refl
single_good place path t Form.Truth = sound_good _ refl
single_good place path t Form.Chars = sound_good _ refl
single_good place path t (Form.Physical None) = none_good
single_good place path t (Form.Physical (Some exponents)) = sound_good _ refl
single_good place path t (Form.Enum members) = sound_good _ refl
single_good place path t (Form.Compound CompoundKind.Struct) = sound_good _ refl
single_good place path t (Form.Compound CompoundKind.Actor) = sound_good _ refl
single_good place path t (Form.Compound CompoundKind.Action) = sound_good _ refl
single_good place path t (Form.Compound CompoundKind.Scenario) = sound_good _ refl

elements_sound : (each : Path → Typed) → ((p : Path) → is_scalar (each p) ≡ true) → ((p : Path) → is_sound (each p) ≡ true) → (n count : ℕ) (path : Path) → are_sound (elements_from n count each path) ≡ true
elements_sound each one sound n zero path = refl
elements_sound each one sound n (suc count) path =
    both _ _ (one (then_index path n)) (both _ _ (sound (then_index path n)) (elements_sound each one sound (n + 1) count path))

list_good : (place : Place) (path : Path) (t : ℕ) (f : Form) (count : ℕ) → Good (list_in place path t f count)
list_good place path t Form.Int count = sound_good _ (elements_sound _ (λ p. refl) (λ p. refl) 0 count path)
list_good place path t Form.Uint count = sound_good _ (elements_sound _ (λ p. refl) (λ p. refl) 0 count path)
list_good place path t Form.Float count = sound_good _ (elements_sound _ (λ p. refl) (λ p. refl) 0 count path)
list_good place path t Form.Truth count = sound_good _ (elements_sound _ (λ p. refl) (λ p. refl) 0 count path)
list_good place path t Form.Chars count = sound_good _ (elements_sound _ (λ p. refl) (λ p. refl) 0 count path)
list_good place path t (Form.Physical None) count = none_good
list_good place path t (Form.Physical (Some exponents)) count = sound_good _ (elements_sound _ (λ p. refl) (λ p. refl) 0 count path)
list_good place path t (Form.Enum members) count = sound_good _ (elements_sound _ (λ p. refl) (λ p. refl) 0 count path)
list_good place path t (Form.Compound kind) count = sound_good _ (elements_sound _ (λ p. refl) (λ p. refl) 0 count path)

-- ---- what names mean

-- what a name means is sound
abbrev pub Meant : Meaning → Type 0
Meant m = Good (typed_meaning m)

module _ (table : Table) where
  pub held_good : (place : Place) (path : Path) (t : ℕ) (length : Option ℕ) → Good (held_at table place path t length)
  held_good place path t None = single_good place path t (form table.heads t)
  held_good place path t (Some count) = list_good place path t (form table.heads t) count

  pub duration_meant : (place : Place) (path : Path) (timed : Bool) → Meant (duration_if place path timed)
  duration_meant place path true = sound_good _ refl
  duration_meant place path false = none_good

  pub member_good : (place : Place) (e : ℕ) (number : Option ℕ) → Good (option_map (member_at place e) number)
  member_good place e None = none_good
  member_good place e (Some n) = constant_good place (ValueKind.Member e) (whole (pos n)) refl (whole_is (pos n))

  field_meant_good : (place : Place) (to : TableField → Path) (f : Option TableField) (other : Meaning) → Meant other → Meant (option_map_or (λ (g : TableField). field_meant table place (to g) g) f other)
  field_meant_good place to None other h = h
  field_meant_good place to (Some f) other h = held_good place (to f) f.of f.length

  members_meant : (i : Ident) (ts : List ℕ) → Meant (member_meant table i ts)
  members_meant i [] = none_good
  members_meant i (e ∷ []) = member_good i.place e (enum_number table.heads e i.text)
  members_meant i (e ∷ f ∷ others) = none_good

  by_duration : (i : Ident) (timed : Bool) → Meant (meaning_by_duration table i timed)
  by_duration i true = sound_good _ refl
  by_duration i false = members_meant i (enums_with table.heads i.text)

  by_label : (sc : Scope) (i : Ident) (l : Option Label) → Meant (meaning_by_label table sc i l)
  by_label sc i (Some l) = sound_good _ refl
  by_label sc i None = by_duration i (is_duration i.text && is_behaviour (form table.heads sc.holder))

  by_field : (sc : Scope) (i : Ident) (f : Option TableField) → Meant (meaning_by_field table sc i f)
  by_field sc i (Some f) = held_good i.place (then_name root i.text) f.of f.length
  by_field sc i None = by_label sc i (label_named sc i.text)

  unless_good : (rows : List FaultRow) (made : Option Typed) → Good made → Good (unless rows made)
  unless_good rows made g = by (any_holds rows)
    where
      by : (b : Bool) → Good (cond b None made)
      by true = none_good
      by false = g

  pub name_good : (sc : Scope) (i : Ident) → Good (name_typed table sc i)
  name_good sc i = unless_good (name_rows table sc i) (typed_meaning (meaning table sc i)) (by_field sc i (field_of table sc.holder i.text))

  pub it_good : (place : Place) (it : Option It) → Good (option_and_then (it_at table place) it)
  it_good place None = none_good
  it_good place (Some (It.Of t count)) = held_good place (then_name root (codes "it")) t count
  it_good place (Some It.Unresolved) = none_good

  pub actor_good : (place : Place) (o : Option ℕ) → Good (option_map (λ o. Whole (info_at place (ValueKind.Object o) unit_size) (then_name root (codes "actor"))) o)
  actor_good place None = none_good
  actor_good place (Some o) = sound_good _ refl

  pub enum_name_good : (of member : Ident) (e : Option ℕ) → Good (option_and_then (λ e. option_map (member_at of.place e) (enum_number table.heads e member.text)) e)
  enum_name_good of member None = none_good
  enum_name_good of member (Some e) = member_good of.place e (enum_number table.heads e member.text)

  object_meant : (place : Place) (path : Path) (t : ℕ) (name : List ℕ) → Meant (member_of_object table place path t name)
  object_meant place path t name =
      field_meant_good place (λ f. then_name path name) (field_of table t name) (duration_if place path (is_duration name && is_behaviour (form table.heads t)))
      (duration_meant place path (is_duration name && is_behaviour (form table.heads t)))

  made_meant : (place : Place) (path : Path) (name : List ℕ) (made : Made) → Meant (member_made table place path name made)
  made_meant place path name Made.Nothing = none_good
  made_meant place path name Made.Unknown = none_good
  made_meant place path name (Made.Makes t) = object_meant place path t name

  phase_meant : (place : Place) (path : Path) (made : Made) (name : List ℕ) (timed : Bool) → Meant (cond timed (duration_if place path true) (member_made table place path name made))
  phase_meant place path made name true = duration_meant place path true
  phase_meant place path made name false = made_meant place path name made

  whole_meant : (place : Place) (path : Path) (k : ValueKind) (name : List ℕ) → Meant (member_of_whole table place path k name)
  whole_meant place path ValueKind.Truth name = none_good
  whole_meant place path (ValueKind.Number x) name = none_good
  whole_meant place path (ValueKind.Member e) name = none_good
  whole_meant place path ValueKind.Chars name = none_good
  whole_meant place path (ValueKind.Object t) name = object_meant place path t name
  whole_meant place path (ValueKind.Phase made) name = phase_meant place path made name (is_duration name)

  point_meant : (h : Typed) (name : List ℕ) → Meant (after_point table h name)
  point_meant (Constant i number) name = none_good
  point_meant (Read i path per) name = none_good
  point_meant (Whole i path) name = whole_meant i.place path i.kind name
  point_meant (Listed i is_field items) name = none_good
  point_meant (Span i low high) name = none_good
  point_meant (Minus i part) name = none_good
  point_meant (Not i part) name = none_good
  point_meant (Sum i left right) name = none_good
  point_meant (Times i left right) name = none_good
  point_meant (And i left right) name = none_good
  point_meant (Or i left right) name = none_good
  point_meant (Implies i left right) name = none_good
  point_meant (Relation i sign left right) name = none_good
  point_meant (Within i left right) name = none_good

  pub dot_good : (head : Option Typed) (i : Ident) → Good (dot_typed table head i)
  dot_good None i = none_good
  dot_good (Some h) i = point_meant h i.text

  -- ---- literals

  power_above : (places : ℕ) → 0 < 10 ^ places
  power_above places = one-le-pow places 10 (omega arith)

  pub number_good : (d : Digits) → Good (number_typed d)
  number_good d = unless_good (number_rows d) (Some (constant_at d.place plain (decimal_number d.digits d.places)))
      (constant_good d.place plain (decimal_number d.digits d.places) refl (lowest_is (pos d.digits) (10 ^ d.places) (power_above d.places)))

  pub truth_good : (place : Place) (value : Bool) → Good (truth_typed place value)
  truth_good place true = sound_good _ (both _ _ (both _ _ (whole_is (pos 1)) refl) refl)
  truth_good place false = sound_good _ (both _ _ (both _ _ (whole_is (pos 0)) refl) refl)

  pub text_good : (place : Place) (text : List ℕ) → Good (text_typed table place text)
  text_good place text = constant_good place ValueKind.Chars (whole (pos (unwrap_or (first_place (bytes_eq text) 0 table.texts) 0))) refl (whole_is (pos (unwrap_or (first_place (bytes_eq text) 0 table.texts) 0)))

  count_good : (place : Place) (x : Option Exponents) (n : Option ℤ)
      → Good (option_and_then (λ x. option_map (λ n. constant_at place (ValueKind.Number x) (lowest n 1000)) n) x)
  count_good place None n = none_good
  count_good place (Some x) None = none_good
  count_good place (Some x) (Some n) = constant_good place (ValueKind.Number x) (lowest n 1000) refl (lowest_is n 1000 (omega arith))

  unit_good : (d : Digits) (u : Option TableUnit)
      → Good (option_and_then (λ (u : TableUnit). option_and_then (λ x. option_map (λ n. constant_at d.place (ValueKind.Number x) (lowest n 1000)) (count_in d u)) u.exponents) u)
  unit_good d None = none_good
  unit_good d (Some u) = count_good d.place u.exponents (count_in d u)

  pub physical_good : (d : Digits) (name : List ℕ) → Good (physical_typed table d name)
  physical_good d name = unit_good d (unit table name)
