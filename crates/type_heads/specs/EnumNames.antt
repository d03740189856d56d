-- The members of enums, as the program's own tables have them.
use Rattle.std.specs.Prelude.{◌≡◌, ℕ, ℤ, pos, List, Option, cond, is_some, option_and_then, option_map, slice_get, unwrap_or}
use Rattle.std.specs.HashMap.{get_by_text}
use Rattle.type_heads.specs.Form.{EnumMember}
use Rattle.type_heads.specs.Table.{TypeHead, enum_number, enums_with, number_of}
use Rattle.type_heads.specs.Shown.{hit_of, hit_more}
use Rattle.type_heads.specs.declared.kinds.EnumHit.{EnumHit}
use Rattle.type_heads.specs.declared.enum_index.NumberTable.{NumberTable}
use Rattle.type_heads.specs.declared.enum_index.HitTable.{HitTable}
use Rattle.type_heads.specs.declared.enum_index.EnumIndex.{EnumIndex}

-- the number that a table has for a name
abbrev pub number_in : NumberTable → List ℕ → Option ℤ
number_in t name = get_by_text t.numbers name

-- the number that the table of type t has for a name
abbrev pub number_at : List NumberTable → ℕ → List ℕ → Option ℤ
number_at xs t name = option_and_then (λ x. number_in x name) (slice_get xs t)

-- which enum a table has for a name
abbrev pub hit_in : HitTable → List ℕ → EnumHit
hit_in t name = unwrap_or (get_by_text t.hits name) EnumHit.Absent

-- the table has the numbers of these members
abbrev pub AreNumbers : NumberTable → List EnumMember → Type 0
AreNumbers t members = (name : List ℕ) → number_in t name ≡ option_map pos (number_of members name)

-- which enum has a member of that name, if type t with these members is one more
abbrev pub hit_counted : List EnumMember → EnumHit → ℕ → List ℕ → EnumHit
hit_counted members hit t name = cond (is_some (number_of members name)) (hit_more hit t) hit

-- the index has the numbers of the members of each type, and which enum has a member of each name
pub record IsEnumIndex (index : EnumIndex) (heads : List TypeHead) : Type 0 where
  pub numbers : (t : ℕ) (name : List ℕ) → number_at index.tables.items t name ≡ option_map pos (enum_number heads t name)
  pub hits : (name : List ℕ) → hit_in index.hits name ≡ hit_of (enums_with heads name)
