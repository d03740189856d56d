-- What is built of the declarations of a program.
use Rattle.std.specs.Prelude.{◌≡◌, ℕ, ◌<◌, ◌^◌, List, [], ◌∷◌, map, length, flat_map, fold}
use Rattle.string_texts.specs.type_heads.Table.{TypeHead, all_types}
use Rattle.string_texts.specs.type_heads.Types.{TypeBody, Member, Types}
use Rattle.string_texts.specs.type_heads.Texts.{declaration_exprs, texts_in, with_text}
use Rattle.string_texts.specs.type_heads.Told.{member_told}
use Rattle.string_texts.specs.type_heads.DeclaredTypes.{Placed}
use Rattle.string_texts.specs.type_heads.Members.{table_fields}
use Rattle.string_texts.specs.type_heads.UnitsPlaced.{units_in}
use Rattle.string_texts.specs.type_heads.Bodied.{all_bodies, seen_body}
use Rattle.type_tables.specs.type_members.Listed.{AreSubtypes}
use Rattle.type_tables.specs.Looked.{condition_of}
use Rattle.type_model.specs.Kept.{all_numbers}
use Rattle.type_model.specs.declared.parts.Bodies.{Bodies}
use Rattle.type_model.specs.declared.parts.MemberTables.{MemberTables}
use Rattle.type_model.specs.declared.parts.ProgramTables.{ProgramTables}

-- Parts

-- the bodies and the conditional subtypes of the types that are declared
abbrev pub AreBodies : List Placed → List TypeHead → Bodies → Type 0
AreBodies all heads b = (map seen_body b.entries.items ≡ all_bodies all) × AreSubtypes heads (map seen_body b.entries.items) b.subtypes

-- the texts of the strings in declarations, and the empty text, in byte order and each once
abbrev pub texts_among : List Placed → List (List ℕ)
texts_among all = fold with_text ([] ∷ []) (flat_map (λ (p : Placed). flat_map texts_in (declaration_exprs p.declaration)) all)

-- what is worked out of the members of each type
pub record AreMemberTables (heads : List TypeHead) (bodies : List TypeBody) (lists : List (List Member)) (t : MemberTables) : Type 0 where
  pub fields : t.fields ≡ map (table_fields heads) lists
  pub members : t.members ≡ map (map member_told) lists
  pub conditions : t.conditions.items ≡ map (condition_of heads bodies lists) (all_types heads)

-- what is worked out of the declarations alone
pub record AreProgramTables (all : List Placed) (heads : List TypeHead) (t : ProgramTables) : Type 0 where
  pub units : t.units ≡ units_in all
  pub texts : t.texts ≡ texts_among all
  pub few : length t.texts < 2 ^ 32
  pub numbers : t.numbers.items ≡ all_numbers heads

-- the types have these heads, bodies and members
abbrev pub HaveParts : List TypeHead → List TypeBody → List (List Member) → Types → Type 0
HaveParts heads bodies lists ts = (ts.table.heads ≡ heads) × (ts.bodies ≡ bodies) × (ts.members ≡ lists)
