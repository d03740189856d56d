-- What is written of a forest: its tokens, one after another.
pub use Rattle.std.specs.Prelude.{OnOk, ◌≡◌, [], map, List, refl, IfOk, None, Option, Some, nat_lt, option_map, ℕ, ◌++◌, ◌==◌, ◌||◌, ◌∷◌}
pub use Rattle.osc_base.specs.declared.fault.Place.{Place}
pub use Rattle.dsl_tree.specs.ExprTree.{ExprTree, row_of}
pub use Rattle.dsl_tree.specs.FileTree.{DeclarationTree, ModifierPartTree}
pub use Rattle.dsl_tree.specs.Forest.{nil, Forest, sub, wrong, bare, seen, Spells}
pub use Rattle.dsl_tree.specs.Grammar.{Part}
pub use Rattle.dsl_tree.specs.Language.{FollowsGrammar, Spelled}
pub use Rattle.dsl_tree.specs.PhaseTree.{ArgumentTree}
pub use Rattle.dsl_tree.specs.Views.{expr_tree, suffix_tree, further_tree, At, FurtherTree, Named, SuffixTree, argument_tree, file_tree, head_tree, phase_tree, comp_tree, compound_tree, declaration_tree, field_tree, grouped, indexed_row, member_tree, modifier_decl_tree, modifier_part_tree, modifier_tree, more_tree, named_row, part_tree, path_row, path_tree, phase_step, rule_tree, with_suffixes}
pub use Rattle.dsl_tree.specs.Written.{ident, mark, written, at, expr, listed, next_index, next_name, next_part, operator_kind, path, level, listed_tail, raised, sign_kind, truth_word}
pub use Rattle.dsl_tree.specs.WrittenFile.{base, bases_tail, file, unit_bases, unit_end, block, body, compound_heading, declaration, declarations, enum_declaration, enum_item, enum_items, field, field_type, imports, initial, items_tail, member, members_tail, modifier_block, modifier_part, modifier_parts_tail, modifiers, names_tail, optional_heir, qualified_name, signed, type_declaration, unit_declaration, unit_tail}
pub use Rattle.dsl_tree.specs.WrittenTails.{further_tail, suffix_tail}
pub use Rattle.dsl_tree.specs.WrittenPhases.{dotted_names, block_phases, invocation_arguments, phase, arguments, arguments_tail, block_end, composition_arguments, invocation_rest, modifier, named_tail, newline, parts_tail, phases_tail, rule, rules_tail, with_block}
pub use Rattle.dsl_tree.specs.declared.expr.{Expr.Expr, Further.Further, Operator.Operator, Suffix.Suffix}
pub use Rattle.dsl_tree.specs.declared.file.{File.File, Import.Import}
pub use Rattle.dsl_tree.specs.declared.parts.Ident.{Ident}
pub use Rattle.dsl_tree.specs.declared.phases.{Argument.Argument, Phase.Phase, Phase.TheOpen.Phase-F}
pub use Rattle.dsl_tree.specs.declared.rules.PathHead.{PathHead}
pub use Rattle.dsl_tree.specs.declared.token.{MarkKind.MarkKind, Token.Token, TokenKind.TokenKind}
pub use Rattle.dsl_tree.specs.declared.units.BasePart.{BasePart}
pub use Rattle.dsl_spell.specs.declared.writer.Writer.{Writer}

-- one token more
abbrev pub put : Writer → Place → TokenKind → Writer
put w place kind = record { alloc = w.alloc; at = w.at; tokens = w.tokens ++ record { place = place; kind = kind } ∷ [] }

-- the tokens of a forest more
abbrev pub wrote : Writer → Forest → Writer
wrote w nil = w
wrote w (seen place kind f) = wrote (put w place kind) f
wrote w (bare kind f) = wrote (put w w.at kind) f
wrote w (sub a f) = wrote (wrote w a) f
wrote w wrong = w

-- no part of it is wrong
abbrev pub Whole : Forest → Type 0
Whole nil = Unit {0}
Whole (seen place kind f) = Whole f
Whole (bare kind f) = Whole f
Whole (sub a f) = Whole a × Whole f
Whole wrong = ⊥

-- a forest without a wrong part is written
abbrev pub Writes : Writer → Forest → Writer → Type 0
Writes w f v = Whole f → v ≡ wrote w f

-- so is an expression, in a place for any level
abbrev pub Fills : Writer → ExprTree → Writer → Type 0
Fills w t v = (l : ℕ) → Writes w (at l t (written t)) v

-- so are operators and their parts
abbrev pub Joins : Writer → List FurtherTree → Writer → Type 0
Joins w rest v = (l : ℕ) → Writes w (further_tail l rest) v

-- what is written before the rest of a row
abbrev pub Steps : {X : Type 0} → (List X → Forest) → X → Writer → Writer → Type 0
Steps {X} tail x w u = (rest : List X) (v : Writer) → Writes u (tail rest) v → Writes w (tail (x ∷ rest)) v

-- a name with a colon after it, if there is one
abbrev pub label_of : Option Ident → Forest
label_of None = nil
label_of (Some name) = ident name (mark MarkKind.Colon nil)

abbrev pub argument_of : Argument → Forest
argument_of a = sub (label_of a.name) (sub (expr (expr_tree a.value)) nil)

-- a row with commas after its first item, one at least
abbrev pub comma_row : {X : Type 0} → (X → Forest) → (List X → Forest) → List X → Forest
comma_row item tail [] = wrong
comma_row item tail (x ∷ rest) = sub (item x) (sub (tail rest) nil)

-- a block after `with:`, or a line end
abbrev pub with_rows : {X : Type 0} → (List X → Forest) → List X → Forest
with_rows tail [] = newline nil
with_rows tail (x ∷ rest) = with_block (sub (tail (x ∷ rest)) block_end)
