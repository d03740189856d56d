-- What the lexer and the parser say of a source, and what a source says of its name.
use Rattle.std.proofs.Common.{◌≡◌, ◌≢◌, refl, ap, List, [], ◌∷◌, false}
use Rattle.dsl_tree.specs.declared.token.Token.{Token}
use Rattle.dsl_tree.specs.declared.token.TokenKind.{TokenKind}
use Rattle.dsl_tree.specs.Language.{is_end, Ended}
use Rattle.dsl_lexer.specs.SourceTokens.{EndsOnce}

no_end : (kind : TokenKind) → kind ≢ TokenKind.End → is_end kind ≡ false
no_end TokenKind.End other = absurd (other refl)
no_end _ other = refl

-- END is the last token and no other
pub ended : (tokens : List Token) → EndsOnce tokens → Ended tokens
ended [] once = absurd once
ended (token ∷ []) once = ap is_end once
ended (token ∷ next ∷ others) once = (no_end token.kind once.0, ended (next ∷ others) once.1)
