-- Where a record ends: at the last box of the way down to its first open leaf.
use Rattle.std.proofs.Common.{◌≡◌, refl, sym, ap, ◌∙◌, subst, ⊎_elim, inl, inr, ℕ, suc, zero, ◌+◌, ◌-◌, ◌<◌, Bool, true, false, ◌||◌, cond, List, [], ◌∷◌, length, get_or, arith}
use Rattle.std.proofs.lemmas.Bool.{false≢true, or_left}
use Rattle.box_eval.specs.declared.bounds.Pair.{Pair}
use Rattle.box_eval.specs.declared.cut.Cut.{Cut}
use Rattle.box_eval.specs.Box.{first_part, second_part}
use Rattle.record_trees.specs.Record.{Leaf, close, unknown, Tree, branch, leaf, is_open, has_open}
use Rattle.record_trees.specs.Guided.{EndsAt, way_down}

-- a tree that ends at a box has an open leaf
pub ends_open : (tree : Tree) (box ends : List Pair) → EndsAt box ends tree → has_open tree ≡ true
ends_open (branch cut first second) box ends h = ⊎_elim
    (λ (later : (has_open first ≡ false) × EndsAt box (second_part cut ends) second). ap (λ b. b || has_open second) later.0 ∙ ends_open second box (second_part cut ends) later.1)
    (λ (sooner : EndsAt box (first_part cut ends) first × (second ≡ leaf unknown)). or_left (has_open first) (has_open second) (ends_open first box (first_part cut ends) sooner.0))
    h
ends_open (leaf l) box ends h = h.0

way_long : (tree : Tree) (ends : List Pair) → (n : ℕ) × (length (way_down ends tree) ≡ suc n)
way_long (branch cut first second) ends = (length (cond (has_open first) (way_down (first_part cut ends) first) (way_down (second_part cut ends) second)), refl)
way_long (leaf l) ends = (0, refl)

last_after : (ends : List Pair) (boxes : List (List Pair)) (n : ℕ) → length boxes ≡ suc n → get_or (ends ∷ boxes) (length (ends ∷ boxes) - 1) [] ≡ get_or boxes (length boxes - 1) []
last_after ends boxes n is = ap (λ k. get_or (ends ∷ boxes) k []) {x = length (ends ∷ boxes) - 1} {y = suc (length boxes - 1)} (omega (arith, is))

-- the last box
abbrev last : List (List Pair) → List Pair
last boxes = get_or boxes (length boxes - 1) []

last_of_parts : (cut : Cut) (first second : Tree) (box ends : List Pair)
    → (EndsAt box (first_part cut ends) first → last (way_down (first_part cut ends) first) ≡ box)
    → (EndsAt box (second_part cut ends) second → last (way_down (second_part cut ends) second) ≡ box)
    → EndsAt box ends (branch cut first second) → (b : Bool) → has_open first ≡ b
    → last (ends ∷ cond b (way_down (first_part cut ends) first) (way_down (second_part cut ends) second)) ≡ box
last_of_parts cut first second box ends one two (inl (closed, later)) true is = absurd (false≢true (sym closed ∙ is))
last_of_parts cut first second box ends one two (inr (here, all)) true is =
    let w = way_long first (first_part cut ends) in last_after ends (way_down (first_part cut ends) first) w.0 w.1 ∙ one here
last_of_parts cut first second box ends one two (inl (closed, later)) false is =
    let w = way_long second (second_part cut ends) in last_after ends (way_down (second_part cut ends) second) w.0 w.1 ∙ two later
last_of_parts cut first second box ends one two (inr (here, all)) false is = absurd (false≢true (sym is ∙ ends_open first box (first_part cut ends) here))

-- the way down ends there
pub ends_last : (tree : Tree) (box ends : List Pair) → EndsAt box ends tree → last (way_down ends tree) ≡ box
ends_last (branch cut first second) box ends h =
    last_of_parts cut first second box ends (ends_last first box (first_part cut ends)) (ends_last second box (second_part cut ends)) h (has_open first) refl
ends_last (leaf l) box ends h = sym h.1
