-- What a loaded program has beside trees that are as the grammar has them.
use Rattle.std.specs.Prelude.{◌≡◌, ℕ, ◌&&◌, ◌||◌, Bool, true, false, not, List, None, length, is_none, is_some, bytes_eq, codes, nat_le}
use Rattle.std.specs.Option.{option_map_or}
use Rattle.std.specs.List.{list_any}
use Rattle.expr_eval.specs.dsl_tree.declared.parts.Ident.{Ident}
use Rattle.expr_eval.specs.dsl_tree.FileTree.{MemberTree}
use Rattle.expr_eval.specs.type_heads.Form.{Form}
use Rattle.expr_eval.specs.type_heads.Table.{TypeHead, form, named}
use Rattle.expr_eval.specs.type_heads.Types.{Program, Types, Written}
use Rattle.expr_eval.specs.type_heads.Members.{body}
use Rattle.expr_eval.specs.type_heads.DeclaredTypes.{types_of}
use Rattle.expr_eval.specs.expr_nodes.Sizes.{field_reach}
use Rattle.run_values.specs.composition.Ranges.{range_of}
use Rattle.run_values.specs.composition.Invariants.{is_numeric}
use Rattle.scene_laws.specs.Premises.{is_spelled_program}

-- a field of this form holds a number
abbrev pub holds_number : Form → Bool
holds_number form = option_map_or is_numeric (range_of form) false

-- a member declares a field of that name that holds one number
abbrev pub is_number_field : List TypeHead → List ℕ → MemberTree → Bool
is_number_field heads name (MemberTree.Field f) =
    list_any (λ (i : Ident). bytes_eq i.text name) f.names && (is_none f.list && option_map_or (λ t. holds_number (form heads t)) (named heads None f.of.text) false)
is_number_field heads name (MemberTree.Rule r) = false
is_number_field heads name (MemberTree.Do place phase) = false

-- the declaration of a type has such a field
abbrev pub has_number : Types → ℕ → List ℕ → Bool
has_number ts t name = list_any (λ (w : Written). is_number_field ts.table.heads name w.member) (body ts.bodies t).own

-- the library's `vehicle` has its limits, if the library is there
abbrev pub has_limits : Types → Bool
has_limits ts = not (is_some ts.library)
    || option_map_or (λ v. has_number ts v (codes "max_speed") && has_number ts v (codes "max_acceleration")) (named ts.table.heads None (codes "vehicle")) false

-- The trees of a program are as the grammar has them, its texts are few, and its library declares the limits of vehicles.
pub record IsLoadedProgram (p : Program) : Type 0 where
  pub spelled : is_spelled_program p ≡ true
  pub few_texts : nat_le (length (types_of p).table.texts) field_reach ≡ true
  pub limits : has_limits (types_of p) ≡ true
