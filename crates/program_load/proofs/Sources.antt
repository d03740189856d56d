-- A source has one tree or one first fault.
use Rattle.std.proofs.Common.{◌≡◌, sym, subst, ℕ, List}
use Rattle.osc_base.specs.declared.fault.Fault.{Fault}
use Rattle.dsl_tree.specs.declared.token.Token.{Token}
use Rattle.dsl_tree.specs.FileTree.{FileTree}
use Rattle.dsl_tree.specs.Language.{Spelled, FirstFault}
use Rattle.dsl_tree.proofs.OneTrees.{no_tree_at_fault}
use Rattle.dsl_tree.proofs.Ends.{one_first_fault}
use Rattle.dsl_lexer.proofs.LawProofs as lexer
use Rattle.program_load.specs.SourceReading.{IsRead, IsRefused, lexical, syntactic}

module _ (number : ℕ) (source : List ℕ) where
  pub same_fault : (fault fault' : Fault) → IsRefused number source fault → IsRefused number source fault' → fault ≡ fault'
  same_fault fault fault' (lexical first) (lexical first') = lexer.one_fault number source fault fault' first first'
  same_fault fault fault' (lexical first) (syntactic tokens' cut' first') =
      absurd (lexer.cut_or_fault number source tokens' first.at fault.code first.count cut' first.is_fault)
  same_fault fault fault' (syntactic tokens cut first) (lexical first') =
      absurd (lexer.cut_or_fault number source tokens first'.at fault'.code first'.count cut first'.is_fault)
  same_fault fault fault' (syntactic tokens cut first) (syntactic tokens' cut' first') =
      one_first_fault tokens fault fault' first
      (subst (λ (ts : List Token). FirstFault ts fault') (sym (lexer.one_list number source tokens tokens' cut cut')) first')

  pub never_both : (tokens : List Token) (tree : FileTree) (fault : Fault) → IsRead number source tokens tree → IsRefused number source fault → ⊥
  never_both tokens tree fault read (lexical first) = lexer.cut_or_fault number source tokens first.at fault.code first.count read.cut first.is_fault
  never_both tokens tree fault read (syntactic tokens' cut' first) =
      no_tree_at_fault tokens' fault tree first (subst (Spelled tree) (lexer.one_list number source tokens tokens' read.cut cut') read.spelled)
