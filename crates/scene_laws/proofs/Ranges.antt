-- What the values of a scene may hold.
use Rattle.std.proofs.Common.{◌≡◌, ℕ, ◌≤◌, refl, subst, List, Bool, true, ◌&&◌, Some, None, length}
use Rattle.std.specs.Prelude.{⊤, pos}
use Rattle.std.specs.List.{list_all}
use Rattle.field_flatten.specs.osc_base.declared.path.Path.{Path}
use Rattle.expansion_laws.specs.type_heads.Form.{Form, EnumMember}
use Rattle.expansion_laws.specs.type_heads.Table.{TypeHead, form, enum_members, number_of}
use Rattle.expansion_laws.specs.type_heads.Bounds.{numbers_of}
use Rattle.expansion_laws.specs.type_heads.Types.{Types}
use Rattle.expansion_laws.specs.expr_nodes.Sizes.{field_reach}
use Rattle.expansion_laws.specs.composition.declared.setting.Setting.{Setting}
use Rattle.expansion_laws.specs.composition.declared.spot.ValueRange.{ValueRange}
use Rattle.expansion_laws.specs.composition.declared.spot.ValueSpot.{ValueSpot}
use Rattle.expansion_laws.specs.composition.Scenes.{Spot, value_spot, values}
use Rattle.expansion_laws.specs.composition.Ranges.{signed_range, range_of}
use Rattle.expansion_laws.specs.composition.Expansion.{expansion}
use Rattle.expansion_laws.specs.composition.Expanded.{scene, spots_of}
use Rattle.expansion_laws.specs.composition.Invariants.{is_range}
use Rattle.field_flatten.specs.Exactness.{is_ordered_range}
use Rattle.field_flatten.proofs.Tests.{left_of, right_of, both, In, all_from}
use Rattle.scene_laws.specs.Premises.{IsSmallTable}
use Rattle.scene_laws.proofs.Picked.{filter_map_in}
use Rattle.scene_laws.proofs.EachSpot.{each_spot}
use Rattle.scene_laws.proofs.EnumNumbers.{IsEnum, enum_range, enum_ordered, enum_small}

-- the enums of heads are sound
abbrev pub AreEnums : List TypeHead → Type 0
AreEnums heads = (t : ℕ) (members : List EnumMember) → form heads t ≡ Form.Enum members → IsEnum members

-- a range with a number in it, in order
abbrev is_good_range : ValueRange → Bool
is_good_range range = is_range range && is_ordered_range range

given : (r range : ValueRange) → is_good_range r ≡ true → Some r ≡ Some range → is_good_range range ≡ true
given r range h e = let same : r ≡ range = cc in subst (λ z. is_good_range z ≡ true) same h

form_range : (f : Form) → ((members : List EnumMember) → f ≡ Form.Enum members → IsEnum members) → (range : ValueRange) → range_of f ≡ Some range → is_good_range range ≡ true
form_range (Form.Enum members) e range h =
    given (ValueRange.Among (numbers_of members)) range (both (is_range (ValueRange.Among (numbers_of members))) (is_ordered_range (ValueRange.Among (numbers_of members))) (enum_range members (e members refl)) (enum_ordered members (e members refl))) h
form_range Form.Int e range h = given signed_range range refl h
form_range Form.Uint e range h = given (ValueRange.Between (pos 0) (pos field_reach)) range refl h
form_range Form.Float e range h = given signed_range range refl h
form_range Form.Truth e range h = given (ValueRange.Between (pos 0) (pos 1)) range refl h
form_range Form.Chars e range h = given ValueRange.Chars range refl h
form_range (Form.Physical x) e range h = given signed_range range refl h
form_range (Form.Compound k) e range h = cc

abbrev HasRange : Spot → Type 0
HasRange s = (v : ValueSpot) → value_spot s.path s.content ≡ Some v → is_good_range v.range ≡ true

module _ (ts : Types) (enums : AreEnums ts.table.heads) where
  spot_range : (t : ℕ) (s : Spot) → In s (spots_of ts (expansion ts t)) → HasRange s
  spot_range t s i =
      each_spot ts (λ path t guards bindings. ⊤) HasRange (λ path t guards bindings h v e. none e)
      (λ path t guards bindings h f j of typed range is q k v e. some q range (form_range (form ts.table.heads of) (enums of) range is) v e)
      (λ path t guards bindings h d is p j label place kind arguments members e v k. none k)
      (λ path t guards bindings h d is p j label head names arguments parts e of to v k. none k)
      (λ path t guards bindings h d is p j v k. none k)
      (λ path t guards bindings h f j of typed k. tt)
      (λ path t guards bindings h d is p j label head names arguments parts e of to. tt)
      t tt (λ a e. tt) s i
    where
      none : {v : ValueSpot} → None ≡ Some v → is_good_range v.range ≡ true
      none e = cc

      some : (q : Path) (range : ValueRange) → is_good_range range ≡ true → (v : ValueSpot) → Some (record { path = q; range = range }) ≡ Some v → is_good_range v.range ≡ true
      some q range h v e = let same : record { path = q; range = range } ≡ v = cc in subst (λ (z : ValueSpot). is_good_range z.range ≡ true) same h

  pub all_ranges : (t : ℕ) (setting : Setting) → list_all (λ (v : ValueSpot). is_range v.range) (values (scene ts t setting)) ≡ true
  all_ranges t setting = all_from (λ (v : ValueSpot). is_range v.range) (values (scene ts t setting)) (λ v i.
      let g = filter_map_in (λ (s : Spot). value_spot s.path s.content) (spots_of ts (expansion ts t)) v i in
      left_of (is_range v.range) (is_ordered_range v.range) (spot_range t g.0 g.1 v g.2))

  pub all_ordered : (t : ℕ) (setting : Setting) → list_all (λ (v : ValueSpot). is_ordered_range v.range) (values (scene ts t setting)) ≡ true
  all_ordered t setting = all_from (λ (v : ValueSpot). is_ordered_range v.range) (values (scene ts t setting)) (λ v i.
      let g = filter_map_in (λ (s : Spot). value_spot s.path s.content) (spots_of ts (expansion ts t)) v i in
      right_of (is_range v.range) (is_ordered_range v.range) (spot_range t g.0 g.1 v g.2))

  -- the table is small if it has few texts
  pub small_table : length ts.table.texts ≤ field_reach → IsSmallTable ts.table
  small_table few = record { texts = few; members = λ e name n is. by (form ts.table.heads e) (enums e) name n is }
    where
      by : (f : Form) → ((members : List EnumMember) → f ≡ Form.Enum members → IsEnum members) → (name : List ℕ) (n : ℕ) → number_of (enum_members f) name ≡ Some n → n ≤ field_reach
      by (Form.Enum members) e name n is = enum_small members (e members refl) name n is
      by Form.Int e name n is = cc
      by Form.Uint e name n is = cc
      by Form.Float e name n is = cc
      by Form.Truth e name n is = cc
      by Form.Chars e name n is = cc
      by (Form.Physical x) e name n is = cc
      by (Form.Compound k) e name n is = cc
