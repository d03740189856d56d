-- The elements of a list of values, one by one.
use Rattle.std.proofs.Common.{◌≡◌, ◌∙◌, sym, ap, ℕ, suc, ◌+◌, ◌-◌, ◌<◌, ◌≤◌, List, [], ◌∷◌, ◌++◌, map, arith, append-nil, append_assoc}
use Rattle.std.specs.List.{range_with_len}
use Rattle.osc_base.specs.declared.path.Path.{Path}
use Rattle.osc_base.specs.Paths.{then_index}
use Rattle.scene_expansion.specs.composition.declared.guard.Guard.{Guard}
use Rattle.scene_expansion.specs.composition.declared.spot.ValueRange.{ValueRange}
use Rattle.scene_expansion.specs.expansion_laws.Works.{Work, Value}

-- element n
abbrev pub element_at : Path → List Guard → ValueRange → ℕ → Work
element_at path guards range n = Value (then_index path n) guards range

range_more : (a n : ℕ) → a < n → range_with_len a (n - a) ≡ a ∷ range_with_len (a + 1) (n - (a + 1))
range_more a n lt = let e : n - a ≡ suc (n - (a + 1)) = omega (arith, lt) in ap (range_with_len a) e

-- an element further
pub element_more : (f : ℕ → Work) (a n : ℕ) (old new all : List Work) → a < n → new ≡ old ++ f a ∷ [] → old ++ map f (range_with_len a (n - a)) ≡ all
    → new ++ map f (range_with_len (a + 1) (n - (a + 1))) ≡ all
element_more f a n old new all lt is before =
    ap (λ ws. ws ++ map f (range_with_len (a + 1) (n - (a + 1)))) is ∙ append_assoc old (f a ∷ []) (map f (range_with_len (a + 1) (n - (a + 1))))
    ∙ ap (λ ns. old ++ map f ns) (sym (range_more a n lt)) ∙ before

-- none is left
pub element_end : (f : ℕ → Work) (a n : ℕ) (old all : List Work) → n ≤ a → old ++ map f (range_with_len a (n - a)) ≡ all → old ≡ all
element_end f a n old all le h =
    let none : n - a ≡ 0 = omega (arith, le) in
    sym (append-nil old) ∙ ap (λ k. old ++ map f (range_with_len a k)) (sym none) ∙ h
