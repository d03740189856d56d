-- What the program's own texts of types are seen as.
use Rattle.std.specs.Prelude.{◌≡◌, ℕ, List, [], None, map, option_map, slice_index_or}
use Rattle.osc_base.specs.FaultRows.{FaultRow}
use Rattle.expr_nodes.specs.type_heads.Bodied.{seen_body}
use Rattle.expr_nodes.specs.type_heads.Members.{nowhere, the_do}
use Rattle.expr_nodes.specs.type_heads.Told.{Told}
use Rattle.expr_nodes.specs.type_heads.Types.{Types, Written}
use Rattle.expr_nodes.specs.type_heads.declared.body.Body.{Body}
use Rattle.program_fields.specs.SeenFields.{seen_do}
use Rattle.program_fields.specs.Tables.{lists_in}
use Rattle.program_calls.specs.composition.Uses.{member_use_rows}
use Rattle.program_uses.specs.declared.program_texts.ProgramTexts.{ProgramTexts}

-- the body of a type without text
abbrev pub bare_body : Body
bare_body = record { place = nowhere; heir = None; own = []; more = [] }

-- the rows of a member in the text of type t
abbrev pub written_rows : Types → ℕ → Written → List FaultRow
written_rows ts t w = member_use_rows ts t w.member

-- the members, the `do` and the body of each type of the program
pub record HasTextsOf (ts : Types) (p : ProgramTexts) : Type 0 where
  pub library : p.library ≡ ts.library
  pub members_told : lists_in p.fields ≡ ts.members
  pub do_told : (t : ℕ) → option_map seen_do (slice_index_or p.dos.items t None) ≡ the_do ts t
  pub bodies_told : map seen_body p.bodies.now ≡ ts.bodies

-- what is told of the types of a program, and its texts
pub record Tells (ts : Types) (t : Told) (p : ProgramTexts) : Type 0 where
  pub table : t.table ≡ ts.table
  pub texts : HasTextsOf ts p
