-- A forest without `wrong` is within no other that has one.
use Rattle.std.proofs.Common.{◌≡◌, ℕ, zero, suc, ◌-◌, List, [], ◌∷◌, true, false, Option, refl, ◌&&◌, arith}
use Rattle.std.proofs.lemmas.Bool.{false≢true}
use Rattle.dsl_tree.specs.declared.parts.Ident.{Ident}
use Rattle.dsl_tree.specs.declared.phases.InvokeHead.{InvokeHead}
use Rattle.dsl_tree.specs.ExprTree.{ExprTree, Or, And, Sum, Product, Dot, Index, It, Actor, Name, Start}
use Rattle.dsl_tree.specs.Grammar.{Part, Symbol, Seen, Bare, Of}
use Rattle.dsl_tree.specs.Forest.{Forest, nil, seen, bare, sub, wrong, Follows, IsOf}
use Rattle.dsl_tree.specs.Written.{level, lifted, raised, at, next_part, next_name, next_index, written, or_row, and_row, sum_row, product_row, post_row, expr, path_row, path_front}
use Rattle.dsl_tree.specs.WrittenPhases.{labelled, invocation, labelled_invocation}
use Rattle.dsl_tree.proofs.Tests.{is_whole, left_of, right_of}
use Rattle.dsl_tree.proofs.Sets.{and_both}
use Rattle.dsl_tree.proofs.Fits.{by_rules}

pub whole_lifted : (l : ℕ) (f : Forest) → is_whole (lifted l f) ≡ true → is_whole f ≡ true
whole_lifted l f h = grind arith

pub whole_raised : (d l : ℕ) (f : Forest) → is_whole (raised d l f) ≡ true → is_whole f ≡ true
whole_raised zero l f h = h
whole_raised (suc d) l f h = whole_raised d (suc l) f (whole_lifted l (raised d (suc l) f) h)

pub whole_at : (l : ℕ) (t : ExprTree) (f : Forest) → is_whole (at l t f) ≡ true → is_whole f ≡ true
whole_at l t f h = grind (arith, whole_raised (level t - l) l f)

pub head_whole : (label : Option Ident) (head : InvokeHead) (rest : Forest) → is_whole (labelled label (invocation head rest) (labelled_invocation head rest)) ≡ true → is_whole rest ≡ true
head_whole label head rest h = grind arith

pub label_whole : (label : Option Ident) (core : Forest) → is_whole (labelled label core core) ≡ true → is_whole core ≡ true
label_whole label core h = grind arith

-- `wrong` stands nowhere in a forest that follows a rule
pub follows_is_whole : (f : Forest) (ss : List Symbol) → Follows f ss → is_whole f ≡ true
follows_is_whole nil [] h = refl
follows_is_whole (seen place kind f) (Seen codes ∷ ss) (h, h') = follows_is_whole f ss h'
follows_is_whole (bare kind f) (Bare codes ∷ ss) (h, h') = follows_is_whole f ss h'
follows_is_whole (sub a g) (Of p ∷ ss) (any, h) =
    and_both (is_whole a) (is_whole g) (by_rules p (Follows a) (is_whole a ≡ true) any (λ r fit does. follows_is_whole a r does)) (follows_is_whole g ss h)
follows_is_whole _ _ h = absurd h

pub is_is_whole : (p : Part) (f : Forest) → IsOf p f → is_whole f ≡ true
is_is_whole p f is = by_rules p (Follows f) (is_whole f ≡ true) is (λ r fit does. follows_is_whole f r does)

-- the rest of a row
pub or_whole : (t : ExprTree) (rest : Forest) → is_whole (or_row t rest) ≡ true → is_whole rest ≡ true
or_whole (Start first) rest h = left_of (is_whole rest) true (right_of (is_whole (at 2 first (written first))) (is_whole (sub rest nil)) h)
or_whole (Or place operator left right) rest h =
    left_of (is_whole rest) true (right_of (is_whole (at 2 right (written right))) (is_whole (sub rest nil)) (or_whole left (next_part place operator (at 2 right (written right)) rest) h))
or_whole _ rest h = absurd (false≢true h)

pub and_whole : (t : ExprTree) (rest : Forest) → is_whole (and_row t rest) ≡ true → is_whole rest ≡ true
and_whole (Start first) rest h = left_of (is_whole rest) true (right_of (is_whole (at 3 first (written first))) (is_whole (sub rest nil)) h)
and_whole (And place operator left right) rest h =
    left_of (is_whole rest) true (right_of (is_whole (at 3 right (written right))) (is_whole (sub rest nil)) (and_whole left (next_part place operator (at 3 right (written right)) rest) h))
and_whole _ rest h = absurd (false≢true h)

pub sum_whole : (t : ExprTree) (rest : Forest) → is_whole (sum_row t rest) ≡ true → is_whole rest ≡ true
sum_whole (Start first) rest h = left_of (is_whole rest) true (right_of (is_whole (at 6 first (written first))) (is_whole (sub rest nil)) h)
sum_whole (Sum place operator left right) rest h =
    left_of (is_whole rest) true (right_of (is_whole (at 6 right (written right))) (is_whole (sub rest nil)) (sum_whole left (next_part place operator (at 6 right (written right)) rest) h))
sum_whole _ rest h = absurd (false≢true h)

pub product_whole : (t : ExprTree) (rest : Forest) → is_whole (product_row t rest) ≡ true → is_whole rest ≡ true
product_whole (Start first) rest h = left_of (is_whole rest) true (right_of (is_whole (at 7 first (written first))) (is_whole (sub rest nil)) h)
product_whole (Product place operator left right) rest h =
    left_of (is_whole rest) true (right_of (is_whole (at 7 right (written right))) (is_whole (sub rest nil)) (product_whole left (next_part place operator (at 7 right (written right)) rest) h))
product_whole _ rest h = absurd (false≢true h)

pub post_whole : (t : ExprTree) (rest : Forest) → is_whole (post_row t rest) ≡ true → is_whole rest ≡ true
post_whole (Start head) rest h = left_of (is_whole rest) true (right_of (is_whole (at 9 head (written head))) (is_whole (sub rest nil)) h)
post_whole (Dot head name) rest h = left_of (is_whole rest) true (post_whole head (next_name name rest) h)
post_whole (Index place head index) rest h =
    left_of (is_whole rest) true (right_of (is_whole (at 0 index (written index)) && true) (is_whole (sub rest nil)) (post_whole head (next_index place (at 0 index (written index)) rest) h))
post_whole _ rest h = absurd (false≢true h)

pub path_head_whole : (t : ExprTree) (rest : Forest) → is_whole (path_row t rest) ≡ true → is_whole rest ≡ true
path_head_whole (Name name) rest h = left_of (is_whole rest) true h
path_head_whole (It place) rest h = left_of (is_whole rest) true h
path_head_whole (Actor place) rest h = left_of (is_whole rest) true h
path_head_whole _ rest h = absurd (false≢true h)

pub front_whole : (t : ExprTree) (rest : Forest) → is_whole (path_front t rest) ≡ true → is_whole rest ≡ true
front_whole (Start head) rest h = path_head_whole head rest h
front_whole (Dot head name) rest h = left_of (is_whole rest) true (front_whole head (next_name name rest) h)
front_whole (Index place head index) rest h = left_of (is_whole rest) true (right_of (is_whole (expr index) && true) (is_whole (sub rest nil)) (front_whole head (next_index place (expr index) rest) h))
front_whole _ rest h = absurd (false≢true h)
