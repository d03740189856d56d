-- What is left of the rules of members, of extensions and of parts of modifiers, and what it is written as.
use Rattle.std.specs.Prelude.{◌∷◌, ◌++◌, option_map, map}
use Rattle.dsl_tree.specs.{declared.rules.PathHead.PathHead, Views.rule_tree, Views.member_tree}
use Rattle.dsl_cursor.specs.Words.{ℕ, List, [], Token, TokenKind, MarkKind, ActorWord, word_code, name_token, names, Forest, nil, sub, at}
use Rattle.dsl_expressions.specs.Words.{ItWord, argument_tree, expr_tree}
use Rattle.dsl_tree.specs.Written as written
use Rattle.dsl_tree.specs.WrittenPhases.{invocation_arguments, newline}
use Rattle.dsl_tree.specs.WrittenFile as file
use Rattle.dsl_parser.specs.declared.{members.FieldRest.FieldRest, declarations.Addition.Addition, declarations.Addition.TheVariants.Items, declarations.Addition.TheVariants.Members, modifiers.NamedPart.NamedPart, modifiers.NamedPart.TheVariants.OfType, modifiers.NamedPart.TheVariants.With}

abbrev pub written_field_rest : FieldRest → Forest
written_field_rest f =
    written.mark MarkKind.Colon (sub (file.field_type f.of.list f.of.of) (sub (file.initial (option_map expr_tree f.initial)) (sub (file.field_end (map rule_tree f.rules)) nil)))

-- Extensions

abbrev pub written_extension : Addition → Forest
written_extension (Items items) = sub (file.enum_items items) (newline nil)
written_extension (Members members) = sub (file.block (map member_tree members)) nil

-- Modifiers

abbrev pub written_named : NamedPart → Forest
written_named (OfType of) = written.mark MarkKind.Colon (written.ident of (newline nil))
written_named (With arguments) = written.mark MarkKind.OpenRound (sub (invocation_arguments (map argument_tree arguments)) (newline nil))

-- Paths

-- the token of the head of a path
abbrev pub head_codes : List ℕ
head_codes = names ++ (word_code ItWord ∷ word_code ActorWord ∷ [])

abbrev pub head_token : PathHead → Token
head_token (PathHead.Name name) = name_token name
head_token (PathHead.It place) = at (TokenKind.Word ItWord) place
head_token (PathHead.Actor place) = at (TokenKind.Word ActorWord) place
