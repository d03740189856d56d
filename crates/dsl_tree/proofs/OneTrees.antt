-- The laws of spelling: one tree at most for a list of tokens, one list of kinds for a tree.
use Rattle.std.proofs.Common.{◌≡◌, List, [], ◌∷◌, map, refl, sym, ◌∙◌, ap, ap₂, subst, append_assoc}
use Rattle.dsl_tree.specs.declared.token.Token.{Token}
use Rattle.dsl_tree.specs.declared.token.TokenKind.{TokenKind}
use Rattle.dsl_tree.specs.declared.file.File.{File}
use Rattle.dsl_tree.specs.Grammar.{Part}
use Rattle.dsl_tree.specs.Forest.{Forest, nil, seen, bare, sub, wrong, Spells}
use Rattle.dsl_tree.specs.FileTree.{FileTree}
use Rattle.dsl_tree.specs.Views.{file_tree}
use Rattle.dsl_tree.specs.WrittenFile.{file}
use Rattle.dsl_tree.specs.Language.{OneFile, FollowsGrammar, Spelled, OneTree, OneSpelling, FaultsSpellNothing}
use Rattle.dsl_tree.proofs.Law.{one_forest}
use Rattle.dsl_tree.proofs.Inverse.{sole}
pub use Rattle.dsl_tree.proofs.WholeForests.{is_is_whole}
use Rattle.dsl_tree.proofs.Leaves.{leaves, Spells-leaves}
use Rattle.dsl_tree.proofs.FileValues.{file_value, file_back_value}

pub spelled_once : OneTree
spelled_once tree other tokens s s' =
    let (t, e, only) = sole Part.File (file other) s'.follows in
    only tree (one_forest Part.File (file tree) (file other) tokens s.follows s'.follows s.spells s'.spells) ∙ sym (only other refl)

-- a tree that follows the grammar is spelled by the tokens of its forest
pub spelled_by : (tree : FileTree) → FollowsGrammar tree → (tokens : List Token) × Spelled tree tokens
spelled_by tree follows =
    (leaves tree.end (file tree) [], record { follows = follows; spells = Spells-leaves tree.end (file tree) [] (is_is_whole Part.File (file tree) follows) })

same_kinds : (f : Forest) (ts us z y : List Token) → Spells f ts z → Spells f us y → map (λ t. t.kind) z ≡ map (λ t. t.kind) y → map (λ t. t.kind) ts ≡ map (λ t. t.kind) us
same_kinds nil ts us z y s s' e = ap (map (λ (t : Token). t.kind)) s ∙ (e ∙ sym (ap (map (λ (t : Token). t.kind)) s'))
same_kinds (seen place kind f) (t ∷ ts) (u ∷ us) z y (p, k, s) (p', k', s') e = ap₂ (λ (a : TokenKind) (b : List TokenKind). a ∷ b) (k ∙ sym k') (same_kinds f ts us z y s s' e)
same_kinds (bare kind f) (t ∷ ts) (u ∷ us) z y (k, s) (k', s') e = ap₂ (λ (a : TokenKind) (b : List TokenKind). a ∷ b) (k ∙ sym k') (same_kinds f ts us z y s s' e)
same_kinds (sub a g) ts us z y (m, s, s2) (n, s', s2') e = same_kinds a ts us m n s s' (same_kinds g m n z y s2 s2' e)
same_kinds (seen place kind f) [] us z y s s' e = absurd s
same_kinds (seen place kind f) (t ∷ ts) [] z y s s' e = absurd s'
same_kinds (bare kind f) [] us z y s s' e = absurd s
same_kinds (bare kind f) (t ∷ ts) [] z y s s' e = absurd s'
same_kinds wrong ts us z y s s' e = absurd s

pub one_spelling_holds : OneSpelling
one_spelling_holds = (spelled_by, λ tree tokens others s s'. same_kinds (file tree) tokens others [] [] s.spells s'.spells refl)

pub no_tree_at_fault : FaultsSpellNothing
no_tree_at_fault tokens fault tree first spelled =
    first.dead (record {
      tree = tree;
      back = first.back;
      spelled = subst (Spelled tree) (first.split ∙ sym (append_assoc first.front (first.token ∷ []) first.back)) spelled;
    })

-- two files with one tree that follows the grammar are one
pub same_file : (f g : File) → FollowsGrammar (file_tree f) → file_tree f ≡ file_tree g → f ≡ g
same_file f g follows e =
    sym (file_back_value f (is_is_whole Part.File (file (file_tree f)) follows))
    ∙ (ap file_value e ∙ file_back_value g (is_is_whole Part.File (file (file_tree g)) (subst FollowsGrammar e follows)))

pub one_file_spelled : OneFile
one_file_spelled f g tokens s s' = same_file f g s.follows (spelled_once (file_tree f) (file_tree g) tokens s s')
