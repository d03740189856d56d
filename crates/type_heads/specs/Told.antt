-- What the calls on types tell of a program: the table, the members of each type by their places in the source, and the conditions. It has no trees.
use Rattle.std.specs.Prelude.{ℕ, List, [], ◌∷◌, Option, Some, None, map}
use Rattle.type_heads.specs.Table.{Table, all_types}
use Rattle.type_heads.specs.Types.{Member, Types}
use Rattle.type_heads.specs.Conditions.{Condition, condition}

-- a member: the numbers of its file, of its declaration there and of the member in that, and the innermost conditional subtype that it is under
pub record MemberAt : Type 0 where
  pub file : ℕ
  pub declaration : ℕ
  pub index : ℕ
  pub under : Option ℕ

-- all that is told
pub record Told : Type 0 where
  pub table : Table
  pub members : List (List MemberAt)
  pub conditions : List (Option Condition)

-- the last of some numbers
abbrev pub last_number : List ℕ → Option ℕ
last_number [] = None
last_number (t ∷ []) = Some t
last_number (t ∷ u ∷ us) = last_number (u ∷ us)

-- where a member stands
abbrev pub member_told : Member → MemberAt
member_told m = record { file = m.written.file; declaration = m.written.declaration; index = m.written.index; under = last_number m.under }

-- what is told of types
abbrev pub told : Types → Told
told ts = record {
  table = ts.table;
  members = map (map member_told) ts.members;
  conditions = map (condition ts) (all_types ts.table.heads);
}
