-- Types in which each `do` is unfolded. Heads, fields and the table stay.
use Rattle.std.specs.Prelude.{◌≡◌, List, map}
use Rattle.composition.specs.dsl_tree.FileTree.{ModifierDeclTree}
use Rattle.composition.specs.type_heads.Types.{Program, Written, TypeBody, Member, Types}
use Rattle.composition.specs.type_heads.DeclaredTypes.{types_of}
use Rattle.modifier_meaning.specs.Application.{declared_modifiers}
use Rattle.modifier_meaning.specs.Unfolded.{unfolded_member, unfolded_program}
use Rattle.modifier_meaning.specs.WrittenScene.{written_types}

-- a member as written
abbrev pub unfolded_written : List ModifierDeclTree → Written → Written
unfolded_written mods w = record w { member = unfolded_member mods w.member }

-- the body of a type
abbrev pub unfolded_body : List ModifierDeclTree → TypeBody → TypeBody
unfolded_body mods b = record b { own = map (unfolded_written mods) b.own; more = map (unfolded_written mods) b.more }

-- a member of a type
abbrev pub unfolded_line : List ModifierDeclTree → Member → Member
unfolded_line mods m = record m { written = unfolded_written mods m.written }

-- all types
abbrev pub unfolded_types : List ModifierDeclTree → Types → Types
unfolded_types mods ts = record ts { bodies = map (unfolded_body mods) ts.bodies; members = map (map (unfolded_line mods)) ts.members }

-- The types of the program without modifiers are those of the program as written, with each `do` unfolded.
abbrev pub BodiesAgree : Type 0
BodiesAgree = (p : Program) → types_of (unfolded_program p) ≡ unfolded_types (declared_modifiers p.files) (written_types p)
