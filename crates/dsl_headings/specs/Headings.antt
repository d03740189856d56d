-- The words that declarations begin with.
use Rattle.std.specs.Prelude.{◌∷◌}
use Rattle.dsl_tree.specs.{declared.token.WordKind.TheVariants.TypeWord, declared.token.WordKind.TheVariants.UnitWord, declared.token.WordKind.TheVariants.StructWord, declared.token.WordKind.TheVariants.ActionWord, declared.token.WordKind.TheVariants.ScenarioWord, declared.compounds.CompoundKind.CompoundKind}
use Rattle.dsl_cursor.specs.Words.{ℕ, List, [], Bool, true, false, Place, Token, TokenKind, WordKind, ActorWord, word_code, at}

abbrev pub unit_codes : List ℕ
unit_codes = word_code TypeWord ∷ word_code UnitWord ∷ []

-- of types with members and no owner, and of those that may have one
abbrev pub plain_codes : List ℕ
plain_codes = word_code StructWord ∷ word_code ActorWord ∷ []

abbrev pub owned_codes : List ℕ
owned_codes = word_code ActionWord ∷ word_code ScenarioWord ∷ []

abbrev pub kind_word : CompoundKind → WordKind
kind_word CompoundKind.Struct = StructWord
kind_word CompoundKind.Actor = ActorWord
kind_word CompoundKind.Action = ActionWord
kind_word CompoundKind.Scenario = ScenarioWord

abbrev pub compound_token : Place → CompoundKind → Token
compound_token place kind = at (TokenKind.Word (kind_word kind)) place

-- whether the name has no owner
abbrev pub is_plain : CompoundKind → Bool
is_plain CompoundKind.Struct = true
is_plain CompoundKind.Actor = true
is_plain CompoundKind.Action = false
is_plain CompoundKind.Scenario = false
