-- What the source of a file is: it has one tree, or one first fault.
use Rattle.std.specs.Prelude.{ℕ, List}
use Rattle.osc_base.specs.declared.fault.Fault.{Fault}
use Rattle.dsl_tree.specs.declared.token.Token.{Token}
use Rattle.dsl_tree.specs.FileTree.{FileTree}
use Rattle.dsl_tree.specs.Language.{Spelled, FirstFault}
use Rattle.dsl_lexer.specs.SourceTokens.{TokensCut, IsFirstFault}

-- the tokens of the file of this number, and the tree that they spell
pub record IsRead (number : ℕ) (source : List ℕ) (tokens : List Token) (tree : FileTree) : Type 0 where
  pub cut : TokensCut number source tokens
  pub spelled : Spelled tree tokens

-- the first fault of a file that has no tree: that of its bytes, else that of its tokens
pub data IsRefused (number : ℕ) (source : List ℕ) (fault : Fault) : Type 0 where
  lexical : IsFirstFault number source fault → IsRefused number source fault
  syntactic : (tokens : List Token) → TokensCut number source tokens → FirstFault tokens fault → IsRefused number source fault
