-- What all tokens pass is passed by all that the tree is written as.
use Rattle.std.proofs.Common.{◌≡◌, Bool, true, List, [], ◌∷◌, refl, ap, sym, ◌∙◌}
use Rattle.std.proofs.lemmas.Bool.{and_parts}
use Rattle.name_scope.specs.dsl_tree.declared.token.Token.{Token}
use Rattle.name_scope.specs.dsl_tree.declared.token.TokenKind.{TokenKind}
use Rattle.name_scope.specs.dsl_tree.Forest.{Forest, nil, seen, bare, sub, wrong, Spells}
use Rattle.name_scope.specs.dsl_tree.WrittenFile.{file}
use Rattle.loaded_programs.specs.TokenLaws.{all_kinds}
use Rattle.loaded_programs.specs.TreeLaws.{each_written, TreesPassTests}
use Rattle.loaded_programs.proofs.Booleans.{both}

module _ (test : TokenKind → Bool) where
  -- a token of this kind, and the tokens behind it
  first_passes : (t : Token) (ts : List Token) (kind : TokenKind) → t.kind ≡ kind → all_kinds test (t ∷ ts) ≡ true → (test kind ≡ true) × (all_kinds test ts ≡ true)
  first_passes t ts kind same h = let parts = and_parts (test t.kind) (all_kinds test ts) h in (sym (ap test same) ∙ parts.0, parts.1)

  forest_passes : (f : Forest) (tokens rest : List Token) → Spells f tokens rest → all_kinds test tokens ≡ true → (each_written test f ≡ true) × (all_kinds test rest ≡ true)
  forest_passes nil tokens rest s h = (refl, sym (ap (all_kinds test) s) ∙ h)
  forest_passes (seen place kind f) [] rest s h = absurd s
  forest_passes (seen place kind f) (t ∷ ts) rest (p, k, s) h =
      let first = first_passes t ts kind k h in
      let later = forest_passes f ts rest s first.1 in
      (both (test kind) (each_written test f) first.0 later.0, later.1)
  forest_passes (bare kind f) [] rest s h = absurd s
  forest_passes (bare kind f) (t ∷ ts) rest (k, s) h =
      let first = first_passes t ts kind k h in
      let later = forest_passes f ts rest s first.1 in
      (both (test kind) (each_written test f) first.0 later.0, later.1)
  forest_passes (sub part f) tokens rest (middle, s, s') h =
      let first = forest_passes part tokens middle s h in
      let later = forest_passes f middle rest s' first.1 in
      (both (each_written test part) (each_written test f) first.0 later.0, later.1)
  forest_passes wrong tokens rest s h = absurd s

pub trees_pass_tests : TreesPassTests
trees_pass_tests test tree tokens s h = (forest_passes test (file tree) tokens [] s.spells h).0
