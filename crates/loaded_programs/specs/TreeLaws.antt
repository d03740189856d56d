-- What each tree is like that is spelled by such tokens.
use Rattle.std.specs.Prelude.{◌≡◌, ℕ, ◌≤◌, ◌&&◌, Bool, true, List, length, flat_map}
use Rattle.std.specs.List.{list_all}
use Rattle.name_scope.specs.dsl_tree.declared.token.Token.{Token}
use Rattle.name_scope.specs.dsl_tree.declared.token.TokenKind.{TokenKind}
use Rattle.name_scope.specs.dsl_tree.FileTree.{DeclarationTree, FileTree}
use Rattle.name_scope.specs.dsl_tree.Forest.{Forest, nil, seen, bare, sub, wrong}
use Rattle.name_scope.specs.dsl_tree.WrittenFile.{file}
use Rattle.name_scope.specs.dsl_tree.Language.{Spelled}
use Rattle.checkable_scenes.specs.type_heads.Texts.{texts_in, declaration_exprs}
use Rattle.checkable_scenes.specs.scene_laws.Premises.{are_short, is_spelled}
use Rattle.loaded_programs.specs.TokenLaws.{has_few_digits, is_no_word, all_kinds, count_strings}

-- the numbers in the expressions of declarations have at most 18 digits
abbrev pub have_short_numbers : List DeclarationTree → Bool
have_short_numbers ds = list_all (λ (d : DeclarationTree). list_all are_short (declaration_exprs d)) ds

-- the texts of the strings in the expressions of declarations
abbrev pub texts_among : List DeclarationTree → List (List ℕ)
texts_among ds = flat_map (λ (d : DeclarationTree). flat_map texts_in (declaration_exprs d)) ds

-- each token that a forest holds passes the test
abbrev pub each_written : (TokenKind → Bool) → Forest → Bool
each_written test nil = true
each_written test (seen place kind f) = test kind && each_written test f
each_written test (bare kind f) = test kind && each_written test f
each_written test (sub part f) = each_written test part && each_written test f
each_written test wrong = true

-- ---- laws of trees and the tokens that spell them

-- a test that all tokens pass is passed by all that the tree is written as
abbrev pub TreesPassTests : Type 0
TreesPassTests = (test : TokenKind → Bool) (tree : FileTree) (tokens : List Token) → Spelled tree tokens → all_kinds test tokens ≡ true → each_written test (file tree) ≡ true

-- if the numbers of the tokens have at most 18 digits, so have those of the tree
abbrev pub TreesAreShort : Type 0
TreesAreShort = (tree : FileTree) (tokens : List Token) → Spelled tree tokens → all_kinds has_few_digits tokens ≡ true → have_short_numbers tree.decls ≡ true

-- if moreover no name is a word, the tree is as the laws on scenes ask
abbrev pub TreesAreFormed : Type 0
TreesAreFormed =
    (tree : FileTree) (tokens : List Token) → Spelled tree tokens → all_kinds has_few_digits tokens ≡ true → all_kinds is_no_word tokens ≡ true
    → list_all is_spelled tree.decls ≡ true

-- a tree has no more texts than its tokens have strings
abbrev pub TextsAreFew : Type 0
TextsAreFew = (tree : FileTree) (tokens : List Token) → Spelled tree tokens → length (texts_among tree.decls) ≤ count_strings tokens
