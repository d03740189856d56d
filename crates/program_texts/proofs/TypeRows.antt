-- What is told of one type, from the rows of all.
use Rattle.std.proofs.Common.{◌≡◌, ◌∙◌, refl, sym, ap, ℕ, zero, suc, ◌+◌, ◌<◌, ◌≤◌, ◌⊎◌, inl, inr, List, [], ◌∷◌, Option, Some, None, map, option_map, slice_index_or, length, arith}
use Rattle.std.proofs.lemmas.Bool.{cases_lt}
use Rattle.std.specs.Prelude.{ℤ, option_and_then}
use Rattle.dsl_tree.specs.declared.compounds.HeirCondition.{HeirCondition}
use Rattle.program_calls.specs.type_heads.Form.{Form}
use Rattle.program_calls.specs.type_heads.Bounds.{numbers_of}
use Rattle.program_calls.specs.type_heads.Shown.{bare, kind_form}
use Rattle.program_calls.specs.type_heads.Table.{TypeHead, base, enum_members, is_object, is_scenario, numbers_from}
use Rattle.program_calls.specs.type_heads.Types.{Types}
use Rattle.program_calls.specs.type_heads.Conditions.{Condition, condition, condition_on, condition_value, field_form}
use Rattle.program_calls.specs.type_heads.Members.{heir_condition}
use Rattle.program_calls.specs.type_heads.Told.{told}
use Rattle.program_calls.specs.type_heads.declared.kinds.TypeKind.{TypeKind}
use Rattle.program_calls.specs.cond_inherit.SubtypeConditions.{condition_at}
use Rattle.program_calls.specs.composition.declared.spot.ValueRange.{ValueRange}
use Rattle.program_calls.specs.composition.Ranges.{range_of}
use Rattle.program_texts.specs.Ranges.{object_kind, range_by, scenario_kind}

-- the item at a place of what is made of a list
pub index_map : {X Y : Type 0} (f : X → Y) (d : X) (xs : List X) (t : ℕ) → slice_index_or (map f xs) t (f d) ≡ f (slice_index_or xs t d)
index_map f d [] t = refl
index_map f d (x ∷ xs) zero = refl
index_map f d (x ∷ xs) (suc t) = index_map f d xs t

-- the range of a form, given the numbers of an enum
abbrev range_in : Form → List ℤ → Option ValueRange
range_in Form.Int numbers = range_of Form.Int
range_in Form.Uint numbers = range_of Form.Uint
range_in Form.Float numbers = range_of Form.Float
range_in Form.Truth numbers = range_of Form.Truth
range_in Form.Chars numbers = range_of Form.Chars
range_in (Form.Physical exponents) numbers = range_of (Form.Physical exponents)
range_in (Form.Enum members) numbers = Some (ValueRange.Among numbers)
range_in (Form.Compound kind) numbers = None

by_kind : (k : TypeKind) (numbers : List ℤ) → range_by k numbers ≡ range_in (kind_form k) numbers
by_kind TypeKind.Int numbers = refl
by_kind TypeKind.Uint numbers = refl
by_kind TypeKind.Float numbers = refl
by_kind TypeKind.Bool numbers = refl
by_kind TypeKind.Chars numbers = refl
by_kind (TypeKind.Physical exponents) numbers = refl
by_kind TypeKind.Enum numbers = refl
by_kind TypeKind.Struct numbers = refl
by_kind TypeKind.Actor numbers = refl
by_kind TypeKind.Action numbers = refl
by_kind TypeKind.Scenario numbers = refl

by_form : (f : Form) → range_in (bare f) (numbers_of (enum_members f)) ≡ range_of f
by_form Form.Int = refl
by_form Form.Uint = refl
by_form Form.Float = refl
by_form Form.Truth = refl
by_form Form.Chars = refl
by_form (Form.Physical exponents) = refl
by_form (Form.Enum members) = refl
by_form (Form.Compound kind) = refl

-- what a field of a type of that kind may hold
pub range_told : (f : Form) (k : TypeKind) → kind_form k ≡ bare f → range_by k (numbers_of (enum_members f)) ≡ range_of f
range_told f k h = by_kind k (numbers_of (enum_members f)) ∙ ap (λ g. range_in g (numbers_of (enum_members f))) h ∙ by_form f

object_of : (k : TypeKind) → object_kind k ≡ is_object (kind_form k)
object_of TypeKind.Int = refl
object_of TypeKind.Uint = refl
object_of TypeKind.Float = refl
object_of TypeKind.Bool = refl
object_of TypeKind.Chars = refl
object_of (TypeKind.Physical exponents) = refl
object_of TypeKind.Enum = refl
object_of TypeKind.Struct = refl
object_of TypeKind.Actor = refl
object_of TypeKind.Action = refl
object_of TypeKind.Scenario = refl

object_in : (f : Form) → is_object (bare f) ≡ is_object f
object_in Form.Int = refl
object_in Form.Uint = refl
object_in Form.Float = refl
object_in Form.Truth = refl
object_in Form.Chars = refl
object_in (Form.Physical exponents) = refl
object_in (Form.Enum members) = refl
object_in (Form.Compound kind) = refl

-- a type of that kind has objects
pub object_told : (f : Form) (k : TypeKind) → kind_form k ≡ bare f → object_kind k ≡ is_object f
object_told f k h = object_of k ∙ ap is_object h ∙ object_in f

scenario_of : (k : TypeKind) → scenario_kind k ≡ is_scenario (kind_form k)
scenario_of TypeKind.Int = refl
scenario_of TypeKind.Uint = refl
scenario_of TypeKind.Float = refl
scenario_of TypeKind.Bool = refl
scenario_of TypeKind.Chars = refl
scenario_of (TypeKind.Physical exponents) = refl
scenario_of TypeKind.Enum = refl
scenario_of TypeKind.Struct = refl
scenario_of TypeKind.Actor = refl
scenario_of TypeKind.Action = refl
scenario_of TypeKind.Scenario = refl

scenario_in : (f : Form) → is_scenario (bare f) ≡ is_scenario f
scenario_in Form.Int = refl
scenario_in Form.Uint = refl
scenario_in Form.Float = refl
scenario_in Form.Truth = refl
scenario_in Form.Chars = refl
scenario_in (Form.Physical exponents) = refl
scenario_in (Form.Enum members) = refl
scenario_in (Form.Compound kind) = refl

-- a type of that kind is a scenario
pub scenario_told : (f : Form) (k : TypeKind) → kind_form k ≡ bare f → scenario_kind k ≡ is_scenario f
scenario_told f k h = scenario_of k ∙ ap is_scenario h ∙ scenario_in f

-- ---- conditions

abbrev with_subtype : ℕ → Condition → Condition
with_subtype t c = record { field = c.field; value = c.value; subtype = t }

-- the condition of a type is that of itself as a subtype
own_subtype : (ts : Types) (t : ℕ) → option_map (with_subtype t) (condition ts t) ≡ condition ts t
own_subtype ts t = by_base (base ts.table.heads t)
  where
    by_value : (c : HeirCondition) (o : Option ℤ) → option_map (with_subtype t) (option_map (λ (n : ℤ). record { field = c.field.text; value = n; subtype = t }) o) ≡ option_map (λ (n : ℤ). record { field = c.field.text; value = n; subtype = t }) o
    by_value c None = refl
    by_value c (Some n) = refl

    by_form : (c : HeirCondition) (o : Option Form) →
        option_map (with_subtype t) (option_and_then (λ (f : Form). option_map (λ (n : ℤ). record { field = c.field.text; value = n; subtype = t }) (condition_value f c.value)) o)
        ≡ option_and_then (λ (f : Form). option_map (λ (n : ℤ). record { field = c.field.text; value = n; subtype = t }) (condition_value f c.value)) o
    by_form c None = refl
    by_form c (Some f) = by_value c (condition_value f c.value)

    by_heir : (b : ℕ) (o : Option HeirCondition) → option_map (with_subtype t) (option_and_then (condition_on ts t b) o) ≡ option_and_then (condition_on ts t b) o
    by_heir b None = refl
    by_heir b (Some c) = by_form c (field_form ts b c.field.text)

    by_base : (o : Option ℕ) → option_map (with_subtype t) (option_and_then (λ b. option_and_then (condition_on ts t b) (heir_condition ts.bodies t)) o)
        ≡ option_and_then (λ b. option_and_then (condition_on ts t b) (heir_condition ts.bodies t)) o
    by_base None = refl
    by_base (Some b) = by_heir b (heir_condition ts.bodies t)

-- what is told of type n + k
told_at : {X : Type 0} (f : ℕ → Option Condition) (xs : List X) (n k m : ℕ) → k < length xs → m ≡ n + k → slice_index_or (map f (numbers_from n xs)) k None ≡ f m
told_at f [] n k m less is = absurd (omega arith)
told_at f (x ∷ xs) n zero m less is = let e : n ≡ m = omega arith in ap f e
told_at f (x ∷ xs) n (suc k) m less is =
    let l : k < length xs = omega arith in
    let e : m ≡ (n + 1) + k = omega arith in
    told_at f xs (n + 1) k m l e

-- nothing is told of a number that no type has
none_at : {X : Type 0} (f : ℕ → Option Condition) (xs : List X) (n k : ℕ) → length xs ≤ k → slice_index_or (map f (numbers_from n xs)) k None ≡ None
none_at f [] n k less = refl
none_at f (x ∷ xs) n zero less = absurd (omega (arith, less))
none_at f (x ∷ xs) n (suc k) less = let l : length xs ≤ k = omega (arith, less) in none_at f xs (n + 1) k l

-- such a number inherits from nothing
no_head : (heads : List TypeHead) (t : ℕ) → length heads ≤ t → base heads t ≡ None
no_head [] t less = refl
no_head (h ∷ heads) zero less = absurd (omega (arith, less))
no_head (h ∷ heads) (suc t) less = let l : length heads ≤ t = omega (arith, less) in no_head heads t l

-- what is told of the condition of a type
pub condition_is : (ts : Types) (t : ℕ) → condition_at (told ts) t ≡ condition ts t
condition_is ts t = ap (option_map (with_subtype t)) (by (cases_lt t (length ts.table.heads))) ∙ own_subtype ts t
  where
    by : (t < length ts.table.heads) ⊎ (length ts.table.heads ≤ t) → slice_index_or (map (condition ts) (numbers_from 0 ts.table.heads)) t None ≡ condition ts t
    by (inl l) = let e : t ≡ 0 + t = omega arith in told_at (condition ts) ts.table.heads 0 t t l e
    by (inr l) = none_at (condition ts) ts.table.heads 0 t l ∙ sym (ap (λ o. option_and_then (λ b. option_and_then (condition_on ts t b) (heir_condition ts.bodies t)) o) (no_head ts.table.heads t l))
