-- The typed form of each expression of short numbers is sound.
use Rattle.std.proofs.Common.{◌≡◌, ℕ, zero, suc, ◌+◌, ◌≤◌, ◌<◌, ◌^◌, refl, subst, List, [], ◌∷◌, Bool, true, false, ◌&&◌, not, cond, Option, Some, None, length, arith}
use Rattle.std.specs.Prelude.{ℤ, pos, negsuc, ◌≤ℤ◌, nat_lt, nat_le, int_le, unsigned_abs, unwrap_or, option_map, option_and_then, slice_get, bytes_eq}
use Rattle.std.specs.Option.{option_map_or}
use Rattle.std.proofs.lemmas.Int.{ints}
use Rattle.field_flatten.specs.osc_base.declared.fault.Place.{Place}
use Rattle.field_flatten.specs.osc_base.declared.path.Path.{Path}
use Rattle.field_flatten.specs.osc_base.Number.{Number, whole}
use Rattle.field_flatten.specs.osc_base.Comparisons.{greatest_part}
use Rattle.field_flatten.specs.osc_base.FaultRows.{FaultRow}
use Rattle.field_flatten.specs.osc_base.LowestTerms.{lowest}
use Rattle.field_flatten.specs.osc_base.Paths.{root, then_name, then_index, then_duration}
use Rattle.expansion_laws.specs.dsl_tree.declared.parts.Ident.{Ident}
use Rattle.expansion_laws.specs.dsl_tree.declared.parts.Digits.{Digits}
use Rattle.expansion_laws.specs.dsl_tree.declared.expr.Operator.{Operator}
use Rattle.expansion_laws.specs.dsl_tree.declared.expr.RelationSign.{RelationSign}
use Rattle.expansion_laws.specs.dsl_tree.ExprTree as Tree
use Rattle.expansion_laws.specs.dsl_tree.ExprTree.{ExprTree, ExprRow}
use Rattle.expansion_laws.specs.units_si.Literals.{times, add, nearest_thousandth, slot_value, literal_count}
use Rattle.expansion_laws.specs.name_scope.Declaring.{first_place}
use Rattle.expansion_laws.specs.type_heads.Form.{Form}
use Rattle.expansion_laws.specs.type_heads.Table.{Table, TableUnit, TableField, form, unit, has_members, owner, field_of, enums_with, enum_number, is_behaviour}
use Rattle.expansion_laws.specs.type_heads.Units.{digits_number}
use Rattle.expansion_laws.specs.expr_nodes.declared.compare.Compare.{Compare}
use Rattle.expansion_laws.specs.expr_nodes.Kinds.{ValueKind, Made, plain, kind_of, is_truth}
use Rattle.expansion_laws.specs.expr_nodes.Typed.{Typed, Constant, Read, Whole, Listed, Span, Minus, Not, Sum, Times, And, Or, Implies, Relation, Within, TypedRow, End, Item, info, kind, begun_at, place_of, items_of}
use Rattle.expansion_laws.specs.expr_nodes.Sizes.{info_at, constant_size, field_size, field_reach, unit_size}
use Rattle.expansion_laws.specs.expr_nodes.Scope.{It, Label, Scope}
use Rattle.expansion_laws.specs.expr_nodes.Parts.{any_holds, is_scalar, unless}
use Rattle.expansion_laws.specs.expr_nodes.Names.{per_of, elements_from, held_at, duration_at, Meaning, Nothing, Something, typed_meaning, is_duration, field_meant, member_at, member_meant, label_named, label_at, meaning_by_duration, meaning_by_label, meaning_by_field, meaning, name_rows, name_typed, it_at, it_typed, actor_typed, enum_named, enum_name_typed, duration_if, member_of_object, member_made, member_of_phase, member_of_whole, after_point, dot_typed}
use Rattle.expansion_laws.specs.expr_nodes.Operators.{constant_at, is_long, number_rows, number_typed, truth_typed, text_typed, count_in, physical_typed, not_rows, logic_rows, truth_at, minus_rows, sum_rows, sum_of, product_rows, product_typed, product_of, quotient_rows, reciprocal_of, factor_typed, comparison_rows, comparison_typed, within_rows, within_typed, compare_of, relation_typed, part_rows, span_rows, span_typed, item_typed, row_kind, list_typed, index_of, element, index_typed, group_typed}
use Rattle.expansion_laws.specs.expr_nodes.Typing.{typed, typed_row}
use Rattle.expansion_laws.specs.expr_nodes.Sound.{has_size, is_lowest, is_constant_of, is_sound, are_sound}
use Rattle.field_flatten.specs.Seen.{has_values, have_values}
use Rattle.field_flatten.proofs.Tests.{left_of, right_of, both}
use Rattle.scene_laws.specs.Premises.{is_short, are_short, row_is_short, IsSmallTable}
use Rattle.scene_laws.proofs.FaultRows.{no_left, holds_not, one_made, two_made}
use Rattle.scene_laws.proofs.LowestTerms.{billion, narrow_constant, lowest_whole, lowest_is, lowest_narrow, decimal_lowest, decimal_narrow, le_more}
use Rattle.scene_laws.proofs.IsSound.{IsGood, may_stand, scalar_values, sized, and_good, or_good, implies_good, not_good, minus_good, sum_good, product_good, comparison_good, within_good, span_good}
use Rattle.scene_laws.proofs.Quotients.{quotient_good}

-- ---- options

-- what a form that is there was made of
made_of : {A : Type 0} (P : Typed → Type 0) (make : A → Typed) (o : Option A) → ((x : A) → o ≡ Some x → P (make x)) → (t : Typed) → option_map make o ≡ Some t → P t
made_of P make None f t h = cc
made_of P make (Some x) f t h = let same : make x ≡ t = cc in subst P same (f x refl)

then_of : {A : Type 0} (P : Typed → Type 0) (next : A → Option Typed) (o : Option A) → ((x : A) → o ≡ Some x → (t : Typed) → next x ≡ Some t → P t) → (t : Typed) → option_and_then next o ≡ Some t → P t
then_of P next None f t h = cc
then_of P next (Some x) f t h = f x refl t h

unless_of : (rows : List FaultRow) (o : Option Typed) (t : Typed) → unless rows o ≡ Some t → o ≡ Some t
unless_of rows o t h = by (any_holds rows) h
  where
    by : (b : Bool) → cond b None o ≡ Some t → o ≡ Some t
    by true e = cc
    by false e = e

-- ---- constants

constant_good : (p : Place) (k : ValueKind) (n : Number) → is_truth k ≡ false → is_lowest n ≡ true → unsigned_abs n.denominator ≤ greatest_part → unsigned_abs n.numerator ≤ greatest_part → IsGood (constant_at p k n)
constant_good p k n other low d m = record {
  sound = both (is_constant_of k n) (has_size (info_at p k (constant_size n)) (constant_size n)) (both (is_lowest n) _ low (rw other refl)) (sized p k (constant_size n) (narrow_constant n d m));
  stands = refl;
}

whole_good : (p : Place) (k : ValueKind) (n : ℕ) → is_truth k ≡ false → n ≤ field_reach → IsGood (constant_at p k (whole (pos n)))
whole_good p k n other small = constant_good p k (whole (pos n)) other (lowest_whole (pos n)) (le_more 1 1000000000 greatest_part (omega arith) billion) (le_more n 1000000000 greatest_part small billion)

number_good : (d : Digits) → is_short d ≡ true → IsGood (constant_at d.place plain (digits_number d))
number_good d h =
    let few : d.digits < 10 ^ 18 = less d.digits (10 ^ 18) (left_of (nat_lt d.digits (10 ^ 18)) (nat_le d.places 18) h) in
    let short : d.places ≤ 18 = at_most d.places 18 (right_of (nat_lt d.digits (10 ^ 18)) (nat_le d.places 18) h) in
    record {
      sound = both _ _ (both (is_lowest (digits_number d)) _ (decimal_lowest d.digits d.places few short) refl) (sized d.place plain (constant_size (digits_number d)) (decimal_narrow d.digits d.places few short));
      stands = refl;
    }
  where
    less : (a b : ℕ) → nat_lt a b ≡ true → a < b
    less a b h = grind arith

    at_most : (a b : ℕ) → nat_le a b ≡ true → a ≤ b
    at_most a b h = grind arith

number_typed_good : (d : Digits) → is_short d ≡ true → (x : Typed) → number_typed d ≡ Some x → IsGood x
number_typed_good d s x h = by (any_holds (number_rows d)) h
  where
    by : (b : Bool) → cond b None (Some (constant_at d.place plain (digits_number d))) ≡ Some x → IsGood x
    by true e = cc
    by false e = let same : constant_at d.place plain (digits_number d) ≡ x = cc in subst IsGood same (number_good d s)

truth_good : (p : Place) (value : Bool) (t : Typed) → truth_typed p value ≡ Some t → IsGood t
truth_good p true t h = let same : Constant (info_at p ValueKind.Truth unit_size) (whole (pos 1)) ≡ t = cc in subst IsGood same (record { sound = both _ _ (rw (lowest_whole (pos 1)) refl) refl; stands = refl })
truth_good p false t h = let same : Constant (info_at p ValueKind.Truth unit_size) (whole (pos 0)) ≡ t = cc in subst IsGood same (record { sound = both _ _ (rw (lowest_whole (pos 0)) refl) refl; stands = refl })

place_small : {X : Type 0} (test : X → Bool) (n : ℕ) (xs : List X) → unwrap_or (first_place test n xs) 0 ≤ n + length xs
place_small test n [] = omega arith
place_small test n (x ∷ xs) = by (test x) (place_small test (n + 1) xs)
  where
    by : (b : Bool) → unwrap_or (first_place test (n + 1) xs) 0 ≤ (n + 1) + length xs → unwrap_or (cond b (Some n) (first_place test (n + 1) xs)) 0 ≤ n + length (x ∷ xs)
    by true e = omega arith
    by false e = omega (arith, e)

zero_less : (a b : ℕ) → a ≤ b → 0 + a ≤ b
zero_less a b h = omega (arith, h)

-- the number of a physical literal
small_count : (c n : ℤ) → slot_value c ≡ Some n → unsigned_abs n ≤ field_reach
small_count c n h = by (int_le (negsuc 999999999) c) (int_le c (pos 1000000000)) refl refl h
  where
    low : (a b : ℤ) → int_le a b ≡ true → a ≤ℤ b
    low a b e = grind (arith, ints)

    bounded : (m : ℤ) → negsuc 999999999 ≤ℤ m → m ≤ℤ pos 1000000000 → unsigned_abs m ≤ 1000000000
    bounded m p q = omega (arith, ints)

    by : (a b : Bool) → int_le (negsuc 999999999) c ≡ a → int_le c (pos 1000000000) ≡ b → cond (a && b) (Some c) None ≡ Some n → unsigned_abs n ≤ field_reach
    by true true p q e = let same : c ≡ n = cc in subst (λ m. unsigned_abs m ≤ field_reach) same (bounded c (low (negsuc 999999999) c p) (low c (pos 1000000000) q))
    by true false p q e = cc
    by false b p q e = cc

ended : {A B : Type 0} (f : A → Option B) (o : Option A) (y : B) → option_and_then f o ≡ Some y → (x : A) × (f x ≡ Some y)
ended f None y h = cc
ended f (Some x) y h = (x, h)

count_small : (d : Digits) (u : TableUnit) (n : ℤ) → count_in d u ≡ Some n → unsigned_abs n ≤ field_reach
count_small d u n h = by (is_long d) h
  where
    by : (b : Bool) → cond b None (literal_count (digits_number d) u.factor u.offset) ≡ Some n → unsigned_abs n ≤ field_reach
    by true e = cc
    by false e =
        let scaled = ended (λ s. option_and_then (λ moved. option_and_then slot_value (nearest_thousandth moved)) (add s u.offset)) (times (digits_number d) u.factor) n e in
        let moved = ended (λ m. option_and_then slot_value (nearest_thousandth m)) (add scaled.0 u.offset) n scaled.1 in
        let last = ended slot_value (nearest_thousandth moved.0) n moved.1 in
        small_count last.0 n last.1

-- ---- what is read

read_sound : (p : Place) (path : Path) (f : Form) (t : ℕ) (k : ValueKind) → kind_of t f ≡ Some k → is_sound (Read (info_at p k (field_size (per_of f))) path (per_of f)) ≡ true
read_sound p path Form.Int t k h = refl
read_sound p path Form.Uint t k h = refl
read_sound p path Form.Float t k h = let same : plain ≡ k = cc in subst (λ z. is_sound (Read (info_at p z (field_size 1000)) path 1000) ≡ true) same refl
read_sound p path Form.Truth t k h = refl
read_sound p path Form.Chars t k h = refl
read_sound p path (Form.Physical None) t k h = cc
read_sound p path (Form.Physical (Some x)) t k h = let same : ValueKind.Number x ≡ k = cc in subst (λ z. is_sound (Read (info_at p z (field_size 1000)) path 1000) ≡ true) same refl
read_sound p path (Form.Enum members) t k h = refl
read_sound p path (Form.Compound compound) t k h = refl

single_good : (p : Place) (path : Path) (f : Form) (t : ℕ) (x : Typed)
    → option_map (λ k. cond (has_members f) (Whole (info_at p k unit_size) path) (Read (info_at p k (field_size (per_of f))) path (per_of f))) (kind_of t f) ≡ Some x → IsGood x
single_good p path f t x h = made_of IsGood (λ k. cond (has_members f) (Whole (info_at p k unit_size) path) (Read (info_at p k (field_size (per_of f))) path (per_of f))) (kind_of t f) (λ k e. by (has_members f) k e) x h
  where
    by : (b : Bool) (k : ValueKind) → kind_of t f ≡ Some k → IsGood (cond b (Whole (info_at p k unit_size) path) (Read (info_at p k (field_size (per_of f))) path (per_of f)))
    by true k e = record { sound = refl; stands = refl }
    by false k e = record { sound = read_sound p path f t k e; stands = refl }

-- rows of sound values
record AreGood (row : TypedRow) : Type 0 where
  sound : are_sound row ≡ true
  values : have_values row ≡ true

elements_good : (n count : ℕ) (make : Path → Typed) (path : Path) → ((q : Path) → is_scalar (make q) ≡ true) → ((q : Path) → IsGood (make q)) → AreGood (elements_from n count make path)
elements_good n zero make path s g = record { sound = refl; values = refl }
elements_good n (suc count) make path s g =
    let rest = elements_good (n + 1) count make path s g in
    let item = make (then_index path n) in
    record {
      sound = both (is_scalar item) (is_sound item && are_sound (elements_from (n + 1) count make path)) (s (then_index path n)) (both (is_sound item) (are_sound (elements_from (n + 1) count make path)) (g (then_index path n)).sound rest.sound);
      values = both (has_values item) (have_values (elements_from (n + 1) count make path)) (scalar_values item (s (then_index path n)) (g (then_index path n)).stands) rest.values;
    }

list_good : (p : Place) (path : Path) (f : Form) (t count : ℕ) (x : Typed)
    → option_map (λ k. Listed (info_at p k unit_size) true (elements_from 0 count (λ q. Read (info_at p k (field_size (per_of f))) q (per_of f)) path)) (kind_of t f) ≡ Some x → IsGood x
list_good p path f t count x h = made_of IsGood (λ k. Listed (info_at p k unit_size) true (elements_from 0 count (λ q. Read (info_at p k (field_size (per_of f))) q (per_of f)) path)) (kind_of t f)
    (λ k e. let row = elements_good 0 count (λ q. Read (info_at p k (field_size (per_of f))) q (per_of f)) path (λ q. refl) (λ q. record { sound = read_sound p q f t k e; stands = refl }) in
    record { sound = row.sound; stands = row.values }) x h

held_good : (table : Table) (p : Place) (path : Path) (t : ℕ) (count : Option ℕ) (x : Typed) → held_at table p path t count ≡ Some x → IsGood x
held_good table p path t None x h = single_good p path (form table.heads t) t x h
held_good table p path t (Some n) x h = list_good p path (form table.heads t) t n x h

duration_good : (p : Place) (path : Path) → IsGood (duration_at p path)
duration_good p path = record { sound = refl; stands = refl }

-- ---- names

module _ (table : Table) (small : IsSmallTable table) where
  member_good : (p : Place) (e : ℕ) (name : List ℕ) (x : Typed) → option_map (member_at p e) (enum_number table.heads e name) ≡ Some x → IsGood x
  member_good p e name x h = made_of IsGood (member_at p e) (enum_number table.heads e name) (λ n is. whole_good p (ValueKind.Member e) n refl (small.members e name n is)) x h

  abbrev MeansGood : Meaning → Type 0
  MeansGood m = (x : Typed) → typed_meaning m ≡ Some x → IsGood x

  nothing_good : MeansGood Nothing
  nothing_good x h = cc

  duration_meant : (p : Place) (path : Path) → MeansGood (Something (Some (duration_at p path)))
  duration_meant p path x h = let same : duration_at p path ≡ x = cc in subst IsGood same (duration_good p path)

  meant_good : (i : Ident) (es : List ℕ) → MeansGood (member_meant table i es)
  meant_good i [] x h = cc
  meant_good i (e ∷ []) x h = member_good i.place e i.text x h
  meant_good i (e ∷ f ∷ others) x h = cc

  field_good : (p : Place) (path : Path) (f : TableField) → MeansGood (field_meant table p path f)
  field_good p path f x h = held_good table p path f.of f.length x h

  by_duration : (i : Ident) (b : Bool) → MeansGood (meaning_by_duration table i b)
  by_duration i true x h = duration_meant i.place (then_duration root) x h
  by_duration i false x h = meant_good i (enums_with table.heads i.text) x h

  by_label : (sc : Scope) (i : Ident) (l : Option Label) → MeansGood (meaning_by_label table sc i l)
  by_label sc i (Some l) x h = let same : label_at i.place l ≡ x = cc in subst IsGood same (record { sound = refl; stands = refl })
  by_label sc i None x h = by_duration i (is_duration i.text && is_behaviour (form table.heads sc.holder)) x h

  by_field : (sc : Scope) (i : Ident) (f : Option TableField) → MeansGood (meaning_by_field table sc i f)
  by_field sc i (Some f) x h = field_good i.place (then_name root i.text) f x h
  by_field sc i None x h = by_label sc i (label_named sc i.text) x h

  name_good : (sc : Scope) (i : Ident) (x : Typed) → name_typed table sc i ≡ Some x → IsGood x
  name_good sc i x h = by_field sc i (field_of table sc.holder i.text) x (unless_of (name_rows table sc i) (typed_meaning (meaning table sc i)) x h)

  it_good : (sc : Scope) (p : Place) (x : Typed) → it_typed table sc p ≡ Some x → IsGood x
  it_good sc p x h = then_of IsGood (it_at table p) sc.it (λ it e. by it) x h
    where
      by : (it : It) (y : Typed) → it_at table p it ≡ Some y → IsGood y
      by (It.Of t count) y e = held_good table p (then_name root _) t count y e
      by It.Unresolved y e = cc

  actor_good : (sc : Scope) (p : Place) (x : Typed) → actor_typed table sc p ≡ Some x → IsGood x
  actor_good sc p x h = made_of IsGood (λ o. Whole (info_at p (ValueKind.Object o) unit_size) (then_name root _)) (owner table.heads sc.holder) (λ o e. record { sound = refl; stands = refl }) x h

  enum_name_good : (of member : Ident) (x : Typed) → enum_name_typed table of member ≡ Some x → IsGood x
  enum_name_good of member x h = then_of IsGood (λ e. option_map (member_at of.place e) (enum_number table.heads e member.text)) (enum_named table of) (λ e is y. member_good of.place e member.text y) x h

  object_good : (p : Place) (path : Path) (t : ℕ) (name : List ℕ) → MeansGood (member_of_object table p path t name)
  object_good p path t name = by (field_of table t name)
    where
      timed : (b : Bool) → MeansGood (duration_if p path b)
      timed true = duration_meant p (then_duration path)
      timed false = nothing_good

      by : (f : Option TableField) → MeansGood (option_map_or (field_meant table p (then_name path name)) f (duration_if p path (is_duration name && is_behaviour (form table.heads t))))
      by (Some f) = field_good p (then_name path name) f
      by None = timed (is_duration name && is_behaviour (form table.heads t))

  made_good : (p : Place) (path : Path) (name : List ℕ) (made : Made) → MeansGood (member_made table p path name made)
  made_good p path name Made.Nothing x h = cc
  made_good p path name Made.Unknown x h = cc
  made_good p path name (Made.Makes t) x h = object_good p path t name x h

  phase_good : (p : Place) (path : Path) (made : Made) (name : List ℕ) → MeansGood (member_of_phase table p path made name)
  phase_good p path made name = by (is_duration name)
    where
      by : (b : Bool) → MeansGood (cond b (duration_if p path true) (member_made table p path name made))
      by true = duration_meant p (then_duration path)
      by false = made_good p path name made

  whole_member : (p : Place) (path : Path) (k : ValueKind) (name : List ℕ) → MeansGood (member_of_whole table p path k name)
  whole_member p path (ValueKind.Object t) name x h = object_good p path t name x h
  whole_member p path (ValueKind.Phase made) name x h = phase_good p path made name x h
  whole_member p path ValueKind.Truth name x h = cc
  whole_member p path (ValueKind.Number e) name x h = cc
  whole_member p path (ValueKind.Member e) name x h = cc
  whole_member p path ValueKind.Chars name x h = cc

  after_good : (t : Typed) (name : List ℕ) → MeansGood (after_point table t name)
  after_good (Whole i path) name x h = whole_member i.place path i.kind name x h
  after_good (Constant i number) name x h = cc
  after_good (Read i path per) name x h = cc
  after_good (Listed i is_field items) name x h = cc
  after_good (Span i low high) name x h = cc
  after_good (Minus i part) name x h = cc
  after_good (Not i part) name x h = cc
  after_good (Sum i left right) name x h = cc
  after_good (Times i left right) name x h = cc
  after_good (And i left right) name x h = cc
  after_good (Or i left right) name x h = cc
  after_good (Implies i left right) name x h = cc
  after_good (Relation i sign left right) name x h = cc
  after_good (Within i left right) name x h = cc

  dot_good : (head : Option Typed) (i : Ident) (x : Typed) → dot_typed table head i ≡ Some x → IsGood x
  dot_good head i x h = then_of IsGood (λ t. typed_meaning (after_point table t i.text)) head (λ t e. after_good t i.text) x h

  -- ---- lists, elements and brackets

  begun_good : (p : Place) (t : Typed) → IsGood t → IsGood (begun_at p t)
  begun_good p (Constant i number) g = record { sound = g.sound; stands = g.stands }
  begun_good p (Read i path per) g = record { sound = g.sound; stands = g.stands }
  begun_good p (Whole i path) g = record { sound = g.sound; stands = g.stands }
  begun_good p (Listed i is_field items) g = record { sound = g.sound; stands = g.stands }
  begun_good p (Span i low high) g = record { sound = g.sound; stands = g.stands }
  begun_good p (Minus i part) g = record { sound = g.sound; stands = g.stands }
  begun_good p (Not i part) g = record { sound = g.sound; stands = g.stands }
  begun_good p (Sum i left right) g = record { sound = g.sound; stands = g.stands }
  begun_good p (Times i left right) g = record { sound = g.sound; stands = g.stands }
  begun_good p (And i left right) g = record { sound = g.sound; stands = g.stands }
  begun_good p (Or i left right) g = record { sound = g.sound; stands = g.stands }
  begun_good p (Implies i left right) g = record { sound = g.sound; stands = g.stands }
  begun_good p (Relation i sign left right) g = record { sound = g.sound; stands = g.stands }
  begun_good p (Within i left right) g = record { sound = g.sound; stands = g.stands }

  standing : (t : Typed) → has_values t ≡ true → may_stand t ≡ true
  standing (Constant i number) h = h
  standing (Read i path per) h = h
  standing (Whole i path) h = refl
  standing (Listed i is_field items) h = h
  standing (Span i low high) h = h
  standing (Minus i part) h = h
  standing (Not i part) h = h
  standing (Sum i left right) h = h
  standing (Times i left right) h = h
  standing (And i left right) h = h
  standing (Or i left right) h = h
  standing (Implies i left right) h = h
  standing (Relation i sign left right) h = h
  standing (Within i left right) h = h

  item_good : (row : TypedRow) (n : ℕ) (x : Typed) → AreGood row → slice_get (items_of row) n ≡ Some x → IsGood x
  item_good End n x g h = cc
  item_good (Item item others) zero x g h =
      let same : item ≡ x = cc in
      subst IsGood same (record {
        sound = left_of (is_sound item) (are_sound others) (right_of (is_scalar item) _ g.sound);
        stands = standing item (left_of (has_values item) (have_values others) g.values);
      })
  item_good (Item item others) (suc n) x g h =
      item_good others n x (record { sound = right_of (is_sound item) (are_sound others) (right_of (is_scalar item) _ g.sound); values = right_of (has_values item) (have_values others) g.values }) h

  element_good : (n : ℕ) (t x : Typed) → IsGood t → element n t ≡ Some x → IsGood x
  element_good n (Listed i true items) x g h = item_good items n x (record { sound = right_of (has_size i unit_size) (are_sound items) g.sound; values = g.stands }) h
  element_good n (Listed i false items) x g h = cc
  element_good n (Constant i number) x g h = cc
  element_good n (Read i path per) x g h = cc
  element_good n (Whole i path) x g h = cc
  element_good n (Span i low high) x g h = cc
  element_good n (Minus i part) x g h = cc
  element_good n (Not i part) x g h = cc
  element_good n (Sum i left right) x g h = cc
  element_good n (Times i left right) x g h = cc
  element_good n (And i left right) x g h = cc
  element_good n (Or i left right) x g h = cc
  element_good n (Implies i left right) x g h = cc
  element_good n (Relation i sign left right) x g h = cc
  element_good n (Within i left right) x g h = cc

  index_good : (head : Option Typed) (index : ExprTree) → ((t : Typed) → head ≡ Some t → IsGood t) → (x : Typed) → index_typed head index ≡ Some x → IsGood x
  index_good head index g x h =
      then_of IsGood (λ n. option_and_then (λ t. option_map (begun_at (place_of t)) (element n t)) head) (index_of index)
      (λ n e y k. then_of IsGood (λ t. option_map (begun_at (place_of t)) (element n t)) head
      (λ t i z l. made_of IsGood (begun_at (place_of t)) (element n t) (λ w m. begun_good (place_of t) w (element_good n t w (g t i) m)) z l) y k) x h

  group_good : (p : Place) (a : Option Typed) → ((t : Typed) → a ≡ Some t → IsGood t) → (x : Typed) → group_typed p a ≡ Some x → IsGood x
  group_good p None g x h = cc
  group_good p (Some t) g x h = let same : begun_at p t ≡ x = cc in subst IsGood same (begun_good p t (g t refl))

  physical_good : (d : Digits) (name : List ℕ) (x : Typed) → physical_typed table d name ≡ Some x → IsGood x
  physical_good d name x h =
      then_of IsGood (λ (u : TableUnit). option_and_then (λ e. option_map (λ n. constant_at d.place (ValueKind.Number e) (lowest n 1000)) (count_in d u)) u.exponents) (unit table name)
      (λ u is y k. then_of IsGood (λ e. option_map (λ n. constant_at d.place (ValueKind.Number e) (lowest n 1000)) (count_in d u)) u.exponents
      (λ e i z l. made_of IsGood (λ n. constant_at d.place (ValueKind.Number e) (lowest n 1000)) (count_in d u) (λ n m. by e n (count_small d u n m)) z l) y k) x h
    where
      by : (e : _) (n : ℤ) → unsigned_abs n ≤ field_reach → IsGood (constant_at d.place (ValueKind.Number e) (lowest n 1000))
      by e n few = record {
        sound = both _ _ (both (is_lowest (lowest n 1000)) _ (lowest_is n 1000 (omega arith)) refl)
            (sized d.place (ValueKind.Number e) (constant_size (lowest n 1000)) (lowest_narrow n 1000 (omega arith) (le_more 1000 1000000000 greatest_part (omega arith) billion) (le_more (unsigned_abs n) 1000000000 greatest_part few billion)));
        stands = refl;
      }

  text_good : (p : Place) (text : List ℕ) (x : Typed) → text_typed table p text ≡ Some x → IsGood x
  text_good p text x h =
      let n = unwrap_or (first_place (bytes_eq text) 0 table.texts) 0 in
      let same : constant_at p ValueKind.Chars (whole (pos n)) ≡ x = cc in
      subst IsGood same (whole_good p ValueKind.Chars n refl (le_more n (0 + length table.texts) field_reach (place_small (bytes_eq text) 0 table.texts) (zero_less (length table.texts) field_reach small.texts)))

  -- ---- all expressions

  module _ (sc : Scope) where
    relation_good : (p : Place) (sign : RelationSign) (a b : Option Typed) → ((t : Typed) → a ≡ Some t → IsGood t) → ((t : Typed) → b ≡ Some t → IsGood t) → (x : Typed) → relation_typed p sign a b ≡ Some x → IsGood x
    relation_good p sign a b f g x h = by (compare_of sign) h
      where
        by : (c : Option Compare) → option_map_or (λ c. comparison_typed p c a b) c (within_typed p a b) ≡ Some x → IsGood x
        by (Some c) e = two_made IsGood (comparison_rows p c) (λ x y. Relation (truth_at (place_of x)) c x y) a b (λ x y i j n. comparison_good p c x y (f x i) (g y j) n) x e
        by None e = two_made IsGood (within_rows p) (λ x y. Within (truth_at (place_of x)) x y) a b (λ x y i j n. within_good p x y (f x i) (g y j) n) x e

    factor_good : (p : Place) (op : Operator) (a b : Option Typed) → ((t : Typed) → a ≡ Some t → IsGood t) → ((t : Typed) → b ≡ Some t → IsGood t) → (x : Typed) → factor_typed p op a b ≡ Some x → IsGood x
    factor_good p op a b f g x h = by op h
      where
        product : product_typed p a b ≡ Some x → IsGood x
        product e = two_made IsGood (product_rows p) product_of a b (λ x y i j n. product_good p x y (f x i) (g y j) n) x e

        by : (o : Operator) → factor_typed p o a b ≡ Some x → IsGood x
        by Operator.Slash e = two_made IsGood (quotient_rows p) (λ x y. product_of x (reciprocal_of y)) a b (λ x y i j n. quotient_good p x y (f x i) (g y j) n) x e
        by Operator.Star e = product e
        by Operator.Or e = product e
        by Operator.And e = product e
        by Operator.Plus e = product e
        by Operator.Dash e = product e

    span_typed_good : (p : Place) (a b : Option Typed) → ((t : Typed) → a ≡ Some t → IsGood t) → ((t : Typed) → b ≡ Some t → IsGood t) → (x : Typed) → span_typed p a b ≡ Some x → IsGood x
    span_typed_good p a b f g x h = two_made IsGood span_rows (λ x y. Span (info_at p (kind x) unit_size) x y) a b (λ x y i j n. span_good p x y (f x i) (g y j) n) x h

    item_row_good : (a : Option Typed) (row : Option TypedRow) → ((t : Typed) → a ≡ Some t → IsGood t) → ((r : TypedRow) → row ≡ Some r → AreGood r) → (r : TypedRow) → item_typed a row ≡ Some r → AreGood r
    item_row_good None row f g r h = cc
    item_row_good (Some t) row f g r h = by (any_holds (part_rows (Some t))) refl row refl h
      where
        made : (others : TypedRow) → any_holds (part_rows (Some t)) ≡ false → row ≡ Some others → AreGood (Item t others)
        made others n is =
            let scalar = holds_not (is_scalar t) (no_left (not (is_scalar t)) false n) in
            let rest = g others is in
            record {
              sound = both (is_scalar t) (is_sound t && are_sound others) scalar (both (is_sound t) (are_sound others) (f t refl).sound rest.sound);
              values = both (has_values t) (have_values others) (scalar_values t scalar (f t refl).stands) rest.values;
            }

        by : (b : Bool) → any_holds (part_rows (Some t)) ≡ b → (o : Option TypedRow) → row ≡ o → option_and_then (λ x. option_map (λ others. Item x others) o) (cond b None (Some t)) ≡ Some r → AreGood r
        by true n o is e = cc
        by false n None is e = cc
        by false n (Some others) is e = let same : Item t others ≡ r = cc in subst AreGood same (made others n is)

    mutual
      pub typed_good : (e : ExprTree) → are_short e ≡ true → (x : Typed) → typed table sc e ≡ Some x → IsGood x
      typed_good (Tree.Implies p a b) s x h =
          two_made IsGood (logic_rows p) (λ x y. Implies (truth_at (place_of x)) x y) (typed table sc a) (typed table sc b)
          (λ x y i j n. implies_good p x y (typed_good a (left_of _ _ s) x i) (typed_good b (right_of _ _ s) y j) n) x h
      typed_good (Tree.Or p op a b) s x h =
          two_made IsGood (logic_rows p) (λ x y. Or (truth_at (place_of x)) x y) (typed table sc a) (typed table sc b)
          (λ x y i j n. or_good p x y (typed_good a (left_of _ _ s) x i) (typed_good b (right_of _ _ s) y j) n) x h
      typed_good (Tree.And p op a b) s x h =
          two_made IsGood (logic_rows p) (λ x y. And (truth_at (place_of x)) x y) (typed table sc a) (typed table sc b)
          (λ x y i j n. and_good p x y (typed_good a (left_of _ _ s) x i) (typed_good b (right_of _ _ s) y j) n) x h
      typed_good (Tree.Not p a) s x h = one_made IsGood (not_rows p) (λ x. Not (truth_at p) x) (typed table sc a) (λ x i n. not_good p x (typed_good a s x i) n) x h
      typed_good (Tree.Relation p sign a b) s x h =
          relation_good p sign (typed table sc a) (typed table sc b) (typed_good a (left_of _ _ s)) (typed_good b (right_of _ _ s)) x h
      typed_good (Tree.Sum p op a b) s x h =
          two_made IsGood (sum_rows p) (sum_of op) (typed table sc a) (typed table sc b)
          (λ x y i j n. sum_good p op x y (typed_good a (left_of _ _ s) x i) (typed_good b (right_of _ _ s) y j) n) x h
      typed_good (Tree.Product p op a b) s x h = factor_good p op (typed table sc a) (typed table sc b) (typed_good a (left_of _ _ s)) (typed_good b (right_of _ _ s)) x h
      typed_good (Tree.Minus p a) s x h = one_made IsGood (minus_rows p) (λ x. Minus (record (info x) { place = p }) x) (typed table sc a) (λ x i n. minus_good p x (typed_good a s x i) n) x h
      typed_good (Tree.Dot head i) s x h = dot_good (typed table sc head) i x h
      typed_good (Tree.Index p head index) s x h = index_good (typed table sc head) index (typed_good head s) x h
      typed_good (Tree.Number d) s x h = number_typed_good d s x h
      typed_good (Tree.Physical d name) s x h = physical_good d name x h
      typed_good (Tree.Chars p text) s x h = text_good p text x h
      typed_good (Tree.Truth p value) s x h = truth_good p value x h
      typed_good (Tree.It p) s x h = it_good sc p x h
      typed_good (Tree.Actor p) s x h = actor_good sc p x h
      typed_good (Tree.Name i) s x h = name_good sc i x h
      typed_good (Tree.EnumName of member) s x h = enum_name_good of member x h
      typed_good (Tree.Group p a) s x h = group_good p (typed table sc a) (typed_good a s) x h
      typed_good (Tree.Span p a b) s x h = span_typed_good p (typed table sc a) (typed table sc b) (typed_good a (left_of _ _ s)) (typed_good b (right_of _ _ s)) x h
      typed_good (Tree.Listed p items) s x h = list_typed_good (typed_row table sc items) (row_good items s) h
        where
          list_typed_good : (o : Option TypedRow) → ((r : TypedRow) → o ≡ Some r → AreGood r) → list_typed p o ≡ Some x → IsGood x
          list_typed_good None f e = cc
          list_typed_good (Some r) f e = let same : Listed (info_at p (row_kind r) unit_size) false r ≡ x = cc in subst IsGood same (record { sound = (f r refl).sound; stands = (f r refl).values })
      typed_good (Tree.RangeCall p a b) s x h = span_typed_good p (typed table sc a) (typed table sc b) (typed_good a (left_of _ _ s)) (typed_good b (right_of _ _ s)) x h
      typed_good (Tree.Start a) s x h = typed_good a s x h

      row_good : (row : ExprRow) → row_is_short row ≡ true → (r : TypedRow) → typed_row table sc row ≡ Some r → AreGood r
      row_good Tree.End s r h = let same : End ≡ r = cc in subst AreGood same (record { sound = refl; values = refl })
      row_good (Tree.Item a others) s r h = item_row_good (typed table sc a) (typed_row table sc others) (typed_good a (left_of _ _ s)) (row_good others (right_of _ _ s)) r h
