-- What rows are written as, by the lists that they are read into.
use Rattle.std.proofs.Common.{◌≡◌, ℕ, zero, suc, ◌-◌, ◌≤◌, List, [], ◌∷◌, Bool, cond, refl, sym, ◌∙◌, ap, arith}
use Rattle.std.proofs.lemmas.Bool.{le-ltb}
use Rattle.osc_base.specs.declared.fault.Place.{Place}
use Rattle.dsl_tree.specs.declared.expr.Operator.{Operator}
use Rattle.dsl_tree.specs.ExprTree.{ExprTree}
use Rattle.dsl_tree.specs.Views as Views
use Rattle.dsl_tree.specs.Views.{FurtherTree, SuffixTree, Named, At, grouped, with_suffixes}
use Rattle.dsl_tree.specs.Forest.{Forest, nil, sub, wrong}
pub use Rattle.dsl_tree.specs.WrittenTails.{further_tail, suffix_tail}
use Rattle.dsl_tree.specs.Written.{level, lifted, raised, at, written, or_row, and_row, sum_row, product_row, post_row, path, path_row, path_front}

-- Levels

at_raised : (l : ℕ) (t : ExprTree) (f : Forest) → l ≤ level t → at l t f ≡ raised (level t - l) l f
at_raised l t f h = ap (λ (b : Bool). cond b wrong (raised (level t - l) l f)) (le-ltb (level t) l h)

-- a tree at its own level
pub at_own : (l : ℕ) (t : ExprTree) (f : Forest) → level t ≡ l → at l t f ≡ f
at_own l t f e =
    at_raised l t f (let h : l ≤ level t = omega arith in h) ∙ ap (λ (n : ℕ). raised n l f) (let z : level t - l ≡ zero = omega arith in z)

-- a tree of a higher level: nothing stands after it
pub at_lower : (l : ℕ) (t : ExprTree) (f : Forest) → suc l ≤ level t → at l t f ≡ lifted l (at (suc l) t f)
at_lower l t f h =
    at_raised l t f (omega arith)
    ∙ (ap (λ (n : ℕ). raised n l f) (let e : level t - l ≡ suc (level t - suc l) = omega arith in e) ∙ ap (lifted l) (sym (at_raised (suc l) t f h)))

-- Rows of operators, whose parts stand at the level l

abbrev Join : Type 0
Join = Place → Operator → ExprTree → ExprTree → ExprTree

-- what a row is written as by what its left side is, and its level
abbrev Rows : ℕ → ℕ → Join → (ExprTree → Forest → Forest) → Type 0
Rows own l join row =
    (left : ExprTree) (next : FurtherTree) (rest : List FurtherTree)
    → (written (grouped join left (next ∷ rest)) ≡ row left (further_tail l (next ∷ rest))) × (level (grouped join left (next ∷ rest)) ≡ own)

-- what a row of one operator or more is written as, at its own level and in a place for that level
abbrev pub OwnRow : ℕ → Join → Type 0
OwnRow l join =
    (first : ExprTree) (next : FurtherTree) (rest : List FurtherTree)
    → written (grouped join (ExprTree.Start first) (next ∷ rest)) ≡ sub (at l first (written first)) (sub (further_tail l (next ∷ rest)) nil)

abbrev pub RowAt : ℕ → ℕ → Join → Type 0
RowAt own l join =
    (first : ExprTree) (next : FurtherTree) (rest : List FurtherTree)
    → at own (grouped join (ExprTree.Start first) (next ∷ rest)) (written (grouped join (ExprTree.Start first) (next ∷ rest)))
    ≡ sub (at l first (written first)) (sub (further_tail l (next ∷ rest)) nil)

-- of a tree at its own level
own_at : (l : ℕ) (t : ExprTree) (f : Forest) → (written t ≡ f) × (level t ≡ l) → at l t (written t) ≡ f
own_at l t f (e, own) = at_own l t (written t) own ∙ e

or_rows : Rows 1 2 ExprTree.Or or_row
or_rows left next [] = (refl, refl)
or_rows left next (other ∷ rest) = or_rows (ExprTree.Or next.place next.operator left next.part) other rest

pub or_own : OwnRow 2 ExprTree.Or
or_own first next rest = (or_rows (ExprTree.Start first) next rest).0

pub or_written : RowAt 1 2 ExprTree.Or
or_written first next rest = own_at 1 (grouped ExprTree.Or (ExprTree.Start first) (next ∷ rest)) _ (or_rows (ExprTree.Start first) next rest)

and_rows : Rows 2 3 ExprTree.And and_row
and_rows left next [] = (refl, refl)
and_rows left next (other ∷ rest) = and_rows (ExprTree.And next.place next.operator left next.part) other rest

pub and_own : OwnRow 3 ExprTree.And
and_own first next rest = (and_rows (ExprTree.Start first) next rest).0

pub and_written : RowAt 2 3 ExprTree.And
and_written first next rest = own_at 2 (grouped ExprTree.And (ExprTree.Start first) (next ∷ rest)) _ (and_rows (ExprTree.Start first) next rest)

sum_rows : Rows 5 6 ExprTree.Sum sum_row
sum_rows left next [] = (refl, refl)
sum_rows left next (other ∷ rest) = sum_rows (ExprTree.Sum next.place next.operator left next.part) other rest

pub sum_own : OwnRow 6 ExprTree.Sum
sum_own first next rest = (sum_rows (ExprTree.Start first) next rest).0

pub sum_written : RowAt 5 6 ExprTree.Sum
sum_written first next rest = own_at 5 (grouped ExprTree.Sum (ExprTree.Start first) (next ∷ rest)) _ (sum_rows (ExprTree.Start first) next rest)

product_rows : Rows 6 7 ExprTree.Product product_row
product_rows left next [] = (refl, refl)
product_rows left next (other ∷ rest) = product_rows (ExprTree.Product next.place next.operator left next.part) other rest

pub product_own : OwnRow 7 ExprTree.Product
product_own first next rest = (product_rows (ExprTree.Start first) next rest).0

pub product_written : RowAt 6 7 ExprTree.Product
product_written first next rest = own_at 6 (grouped ExprTree.Product (ExprTree.Start first) (next ∷ rest)) _ (product_rows (ExprTree.Start first) next rest)

-- Suffixes, one or more

post_rows : (head : ExprTree) (s : SuffixTree) (rest : List SuffixTree)
    → (written (with_suffixes head (s ∷ rest)) ≡ post_row head (suffix_tail (s ∷ rest))) × (level (with_suffixes head (s ∷ rest)) ≡ 8)
post_rows head (Named name) [] = (refl, refl)
post_rows head (At place index) [] = (refl, refl)
post_rows head (Named name) (s ∷ rest) = post_rows (ExprTree.Dot head name) s rest
post_rows head (At place index) (s ∷ rest) = post_rows (ExprTree.Index place head index) s rest

pub post_own : (head : ExprTree) (s : SuffixTree) (rest : List SuffixTree)
    → written (with_suffixes (ExprTree.Start head) (s ∷ rest)) ≡ sub (at 9 head (written head)) (sub (suffix_tail (s ∷ rest)) nil)
post_own head s rest = (post_rows (ExprTree.Start head) s rest).0

pub post_written : (head : ExprTree) (s : SuffixTree) (rest : List SuffixTree)
    → at 8 (with_suffixes (ExprTree.Start head) (s ∷ rest)) (written (with_suffixes (ExprTree.Start head) (s ∷ rest)))
    ≡ sub (at 9 head (written head)) (sub (suffix_tail (s ∷ rest)) nil)
post_written head s rest = own_at 8 (with_suffixes (ExprTree.Start head) (s ∷ rest)) _ (post_rows (ExprTree.Start head) s rest)

-- Paths

pub front_of_row : (t : ExprTree) (ss : List SuffixTree) → path_front (with_suffixes t ss) nil ≡ path_front t (suffix_tail ss)
front_of_row t [] = refl
front_of_row t (Named name ∷ rest) = front_of_row (ExprTree.Dot t name) rest
front_of_row t (At place index ∷ rest) = front_of_row (ExprTree.Index place t index) rest

pub path_of_row : (t : ExprTree) (s : SuffixTree) (ss : List SuffixTree) → path (with_suffixes t (s ∷ ss)) ≡ path_front (with_suffixes t (s ∷ ss)) nil
path_of_row t (Named name) [] = refl
path_of_row t (At place index) [] = refl
path_of_row t (Named name) (s ∷ rest) = path_of_row (ExprTree.Dot t name) s rest
path_of_row t (At place index) (s ∷ rest) = path_of_row (ExprTree.Index place t index) s rest

-- a head of a path, which is written as a path itself, and its suffixes
pub path_written : (head : ExprTree) (ss : List SuffixTree) → path head ≡ path_row head nil → path (Views.path_row head ss) ≡ path_row head (suffix_tail ss)
path_written head [] e = e
path_written head (s ∷ rest) e = path_of_row (ExprTree.Start head) s rest ∙ front_of_row (ExprTree.Start head) (s ∷ rest)
