-- The language: which lists of tokens spell a tree, and where a list that spells none goes wrong.
use Rattle.std.specs.Prelude.{◌≡◌, List, [], ◌∷◌, ◌++◌, Bool, true, false, map}
use Rattle.osc_base.specs.declared.fault.FaultCode.{FaultCode}
use Rattle.osc_base.specs.declared.fault.Fault.{Fault}
use Rattle.dsl_tree.specs.declared.token.Token.{Token}
use Rattle.dsl_tree.specs.declared.token.TokenKind.{TokenKind}
use Rattle.dsl_tree.specs.declared.file.File.{File}
use Rattle.dsl_tree.specs.FileTree.{FileTree}
use Rattle.dsl_tree.specs.Views.{file_tree}
use Rattle.dsl_tree.specs.Grammar.{Part}
use Rattle.dsl_tree.specs.Forest.{Forest, IsOf, Spells}
use Rattle.dsl_tree.specs.WrittenFile.{file}

-- The tree follows the grammar. Such a tree is spelled by some list of tokens, and no other tree is.
abbrev pub FollowsGrammar : FileTree → Type 0
FollowsGrammar tree = IsOf Part.File (file tree)

-- the tree follows the grammar, and the tokens are those it is written as, with its places
pub record Spelled (tree : FileTree) (tokens : List Token) : Type 0 where
  pub follows : FollowsGrammar tree
  pub spells : Spells (file tree) tokens []

-- The last token is `End`, and no other one is: so the lexer gives them.
abbrev pub is_end : TokenKind → Bool
is_end TokenKind.End = true
is_end _ = false

abbrev pub Ended : List Token → Type 0
Ended [] = ⊥
Ended (token ∷ []) = is_end token.kind ≡ true
Ended (token ∷ next ∷ others) = (is_end token.kind ≡ false) × Ended (next ∷ others)

-- The spelling of some tree begins with these tokens. Numbers and texts have no ranges here. That
-- changes nothing: those of the prefix are the tokens' own. Of those after it the grammar asks
-- no more than a whole number, a number of at most 9, or one of three names.
pub record IsViable (front : List Token) : Type 0 where
  pub tree : FileTree
  pub back : List Token
  pub spelled : Spelled tree (front ++ back)

-- the code of a fault at a token: `LeftOut` when it is a word that is left out, else `Syntax`
abbrev pub fault_code : TokenKind → FaultCode
fault_code (TokenKind.LeftOut word) = FaultCode.LeftOut
fault_code _ = FaultCode.Syntax

-- the fault is at the first token with which no spelling of a tree goes on
pub record FirstFault (tokens : List Token) (fault : Fault) : Type 0 where
  pub front : List Token
  pub token : Token
  pub back : List Token
  pub split : tokens ≡ front ++ token ∷ back
  pub viable : IsViable front
  pub dead : IsViable (front ++ token ∷ []) → ⊥
  pub place : fault.place ≡ token.place
  pub code : fault.code ≡ fault_code token.kind

-- a list of tokens spells one tree at most
abbrev pub OneTree : Type 0
OneTree = (tree other : FileTree) (tokens : List Token) → Spelled tree tokens → Spelled other tokens → tree ≡ other

-- and so it does of the program's own files, in every field of every node
abbrev pub OneFile : Type 0
OneFile = (f g : File) (tokens : List Token) → Spelled (file_tree f) tokens → Spelled (file_tree g) tokens → f ≡ g

-- a tree that follows the grammar is spelled, and apart from the places that it doesn't hold by one list
abbrev pub OneSpelling : Type 0
OneSpelling =
    ((tree : FileTree) → FollowsGrammar tree → (tokens : List Token) × Spelled tree tokens)
    × ((tree : FileTree) (tokens others : List Token) → Spelled tree tokens → Spelled tree others → map (λ t. t.kind) tokens ≡ map (λ t. t.kind) others)

-- a list with a fault spells no tree
abbrev pub FaultsSpellNothing : Type 0
FaultsSpellNothing = (tokens : List Token) (fault : Fault) (tree : FileTree) → FirstFault tokens fault → Spelled tree tokens → ⊥

-- a list of tokens has one first fault at most
abbrev pub OneFirstFault : Type 0
OneFirstFault = (tokens : List Token) (fault other : Fault) → FirstFault tokens fault → FirstFault tokens other → fault ≡ other

-- a list whose last token, and no other, is END has a tree or a first fault: it can't be that it has neither
abbrev pub TreeOrFault : Type 0
TreeOrFault = (tokens : List Token) → Ended tokens
    → ((tree : FileTree) → Spelled tree tokens → ⊥)
    → ((fault : Fault) → FirstFault tokens fault → ⊥) → ⊥

-- each forest of the grammar is what some tree is written as
abbrev pub ForestsAreTrees : Type 0
ForestsAreTrees = (forest : Forest) → IsOf Part.File forest → (tree : FileTree) × (file tree ≡ forest)

-- each tree that follows the grammar is the tree of a file as the program holds it
abbrev pub TreesAreFiles : Type 0
TreesAreFiles = (tree : FileTree) → FollowsGrammar tree → (f : File) × (file_tree f ≡ tree)
