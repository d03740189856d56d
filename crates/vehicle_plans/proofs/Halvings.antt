-- Halvings, step by step.
use Rattle.std.proofs.Common.{◌≡◌, refl, ℕ, zero, suc, ◌+◌, ◌<◌, ◌≤◌, sym, ap, ◌∙◌, List, [], ◌++◌, nat_lt, arith, lt-ltb, le-ltb}
use Rattle.std.proofs.lemmas.Bool.{cond-true, cond-false}
use Rattle.std.proofs.lemmas.List.{append-nil}
use Rattle.search_plans.specs.declared.wish.Entry.{Entry}
use Rattle.vehicle_plans.specs.declared.grid.Grid.{Grid}
use Rattle.vehicle_plans.specs.declared.grid.Quantity.{Quantity}
use Rattle.vehicle_plans.specs.VehiclePlan.{half, betweens, inner}
use Rattle.vehicle_plans.proofs.Joins as Joins

-- the entries of one halving more, if it has its middle at m
abbrev parts : Grid → Quantity → ℕ → ℕ → ℕ → ℕ → List Entry
parts g quantity less a m b = betweens g quantity a m b ++ (inner g quantity less a m ++ inner g quantity less m b)

halved_once : (g : Grid) (quantity : Quantity) (less a m b : ℕ) → a + 1 < b → m ≡ half a b
    → parts g quantity less a m b ≡ inner g quantity (suc less) a b
unfolding inner
halved_once g quantity less a m b wide middle =
    ap (λ c. parts g quantity less a c b) middle
    ∙ sym (cond-true (nat_lt (a + 1) b) (parts g quantity less a (half a b) b) [] (lt-ltb (a + 1) b wide))

halved : (g : Grid) (quantity : Quantity) (depth less a m b : ℕ) → depth ≡ suc less → a + 1 < b → m ≡ half a b
    → parts g quantity less a m b ≡ inner g quantity depth a b
halved g quantity depth less a m b more wide middle =
    halved_once g quantity less a m b wide middle ∙ ap (λ d. inner g quantity d a b) (sym more)

-- what stands after the middle and both halves
pub inner_more : (g : Grid) (quantity : Quantity) (depth less a m b : ℕ) (old first second new : List Entry)
    → less + 1 ≡ depth → a + 1 < b → m ≡ half a b
    → first ≡ old ++ betweens g quantity a m b → second ≡ first ++ inner g quantity less a m → new ≡ second ++ inner g quantity less m b
    → new ≡ old ++ inner g quantity depth a b
inner_more g quantity depth less a m b old first second new more wide middle one two three =
    let s : depth ≡ suc less = omega (arith, more) in
    Joins.joined_three old first second new (betweens g quantity a m b) (inner g quantity less a m) (inner g quantity less m b)
    one two three
    ∙ ap (λ xs. old ++ xs) (halved g quantity depth less a m b s wide middle)

never : (g : Grid) (quantity : Quantity) (a b : ℕ) → inner g quantity 0 a b ≡ []
unfolding inner
never g quantity a b = refl

-- without halvings there is nothing between
pub none_left : (g : Grid) (quantity : Quantity) (depth a b : ℕ) (old : List Entry) → depth ≤ 0 → old ≡ old ++ inner g quantity depth a b
none_left g quantity depth a b old none =
    let z : depth ≡ 0 = omega (arith, none) in
    sym (append-nil old) ∙ ap (λ xs. old ++ xs) (sym (never g quantity a b)) ∙ ap (λ d. old ++ inner g quantity d a b) (sym z)

nothing : (g : Grid) (quantity : Quantity) (depth a b : ℕ) → b ≤ a + 1 → inner g quantity depth a b ≡ []
unfolding inner
nothing g quantity zero a b close = refl
nothing g quantity (suc d) a b close = cond-false (nat_lt (a + 1) b) (parts g quantity d a (half a b) b) [] (le-ltb (a + 1) b close)

-- nor without ticks
pub narrow : (g : Grid) (quantity : Quantity) (depth a b : ℕ) (old : List Entry) → b ≤ a + 1 → old ≡ old ++ inner g quantity depth a b
narrow g quantity depth a b old close = sym (append-nil old) ∙ ap (λ xs. old ++ xs) (sym (nothing g quantity depth a b close))
