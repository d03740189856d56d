-- The rows of headings over declarations and over their trees.
use Rattle.std.proofs.Common.{◌≡◌, ◌∙◌, refl, ap, List, [], ◌∷◌, ◌++◌, Option, map, filter_map, flat_map}
use Rattle.std.specs.List.{cons_option}
use Rattle.type_members.specs.osc_base.declared.fault.Fault.{Fault}
use Rattle.type_members.specs.osc_base.FaultRows.{FaultRow, first_from}
use Rattle.type_members.specs.dsl_tree.FileTree.{DeclarationTree}
use Rattle.type_members.specs.dsl_tree.Views.{declaration_tree}
use Rattle.type_members.specs.type_heads.DeclaredTypes.{Placed}
use Rattle.type_members.specs.type_heads.Placing.{seen_placed}
use Rattle.heading_faults.specs.Trees.{trees}
use Rattle.type_members.specs.type_heads.declared.placed.PlacedDecl.{PlacedDecl}
use Rattle.fault_sets.proofs.RowSteps.{two}

named_trees : {X : Type 0} (f : DeclarationTree → Option X) (ps : List PlacedDecl) → filter_map f (trees ps) ≡ filter_map (λ (p : Placed). f p.declaration) (map seen_placed ps)
named_trees f [] = refl
named_trees f (p ∷ ps) = ap (cons_option (f (declaration_tree p.declaration.now))) (named_trees f ps)

rows_trees : {X : Type 0} (f : DeclarationTree → List X) (ps : List PlacedDecl) → flat_map f (trees ps) ≡ flat_map (λ (p : Placed). f p.declaration) (map seen_placed ps)
rows_trees f [] = refl
rows_trees f (p ∷ ps) = ap (λ rs. f (declaration_tree p.declaration.now) ++ rs) (rows_trees f ps)

-- names first, then uses, then enums
pub joined : {X : Type 0} (names : List X → List FaultRow) (f : DeclarationTree → Option X) (g : DeclarationTree → List FaultRow) (enums : List FaultRow)
    (all ps : List PlacedDecl) (first a b c : Option Fault) → all ≡ ps →
    a ≡ first_from first (names (filter_map f (trees all))) → b ≡ first_from a (flat_map g (trees all)) → c ≡ first_from b enums →
    c ≡ first_from first (names (filter_map (λ (p : Placed). f p.declaration) (map seen_placed ps)) ++ flat_map (λ (p : Placed). g p.declaration) (map seen_placed ps) ++ enums)
joined names f g enums all ps first a b c same one more last =
    let named : List FaultRow = names (filter_map (λ (p : Placed). f p.declaration) (map seen_placed ps)) in
    let used : List FaultRow = flat_map (λ (p : Placed). g p.declaration) (map seen_placed ps) in
    two (named ++ used) enums first b c
    (two named used first a b (one ∙ ap (λ qs. first_from first (names (filter_map f (trees qs)))) same ∙ ap (λ ns. first_from first (names ns)) (named_trees f ps))
    (more ∙ ap (λ qs. first_from a (flat_map g (trees qs))) same ∙ ap (first_from a) (rows_trees g ps))) last
