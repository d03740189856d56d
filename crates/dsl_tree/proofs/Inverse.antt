-- Each forest of the grammar is what exactly one tree is written as.
use Rattle.std.proofs.Common.{◌≡◌, ℕ, List, [], ◌∷◌, Bool, true, refl, sym, ◌∙◌, ap, ap₂, subst, map, ◌&&◌, not, inl, inr}
use Rattle.std.specs.List.{list_all}
use Rattle.std.proofs.lemmas.Bool.{eq-eqb}
use Rattle.dsl_tree.specs.declared.token.TokenKind.{TokenKind}
use Rattle.dsl_tree.specs.FileTree.{FileTree}
use Rattle.dsl_tree.specs.Codes.{has}
use Rattle.dsl_tree.specs.Grammar.{Part, Symbol, Seen, Bare, Of, rules}
use Rattle.dsl_tree.specs.Forest.{Forest, nil, seen, bare, sub, AnyRule, Follows, IsOf}
use Rattle.dsl_tree.specs.WrittenFile.{file}
use Rattle.dsl_tree.proofs.Tests.{any_rule, is_whole, left_of, right_of}
use Rattle.dsl_tree.proofs.Sets.{both_ways, not_true, or_left, or_right}
use Rattle.dsl_tree.proofs.EachPart.{each_part}
use Rattle.dsl_tree.proofs.WholeForests.{is_is_whole}
use Rattle.dsl_tree.proofs.Classes.{Class, Names, Numbers, Physicals, Texts, LeftOuts, Plain, Value, kind_of, AnyOf, kind_any, classes, seen_class, bare_class, seen_found, bare_found}
use Rattle.dsl_tree.proofs.PartTrees.{Tree, forest_of, Row, row_forest, Choice, choice_forest, tag, class_tag, tags, may_follow, is_only}
use Rattle.dsl_tree.proofs.Cuts.{makes, cut}

-- Tokens: what one of some classes holds is found in its kind alone, if no two of them have one tag.

kind_tag : (x : Class) (v : Value x) → tag (kind_of x v) ≡ class_tag x
kind_tag Names v = refl
kind_tag Numbers v = refl
kind_tag Physicals v = refl
kind_tag Texts v = refl
kind_tag LeftOuts v = refl
kind_tag (Plain kind) v = refl

has_tag : (xs : List Class) (v : AnyOf xs) → has (map class_tag xs) (tag (kind_any xs v)) ≡ true
has_tag [] v = absurd v
has_tag (x ∷ []) v = or_left _ _ (eq-eqb (class_tag x) _ (sym (kind_tag x v)))
has_tag (x ∷ (y ∷ ys)) (inl v) = or_left _ _ (eq-eqb (class_tag x) _ (sym (kind_tag x v)))
has_tag (x ∷ (y ∷ ys)) (inr v) = or_right _ _ (has_tag (y ∷ ys) v)

abbrev are_distinct : List ℕ → Bool
are_distinct [] = true
are_distinct (t ∷ ts) = not (has ts t) && are_distinct ts

kind_same : (x : Class) (v w : Value x) → kind_of x v ≡ kind_of x w → v ≡ w
kind_same Names v w e = cc
kind_same Numbers v w e = let d : v.0 ≡ w.0 = cc in let p : v.1 ≡ w.1 = cc in λ i. (d i, p i)
kind_same Physicals v w e = let d : v.0 ≡ w.0 = cc in let p : v.1 ≡ w.1 = cc in let u : v.2 ≡ w.2 = cc in λ i. (d i, p i, u i)
kind_same Texts v w e = cc
kind_same LeftOuts v w e = cc
kind_same (Plain kind) v w e = refl

-- two classes with one kind
tag_twice : (x : Class) (xs : List Class) → are_distinct (map class_tag (x ∷ xs)) ≡ true → (v : Value x) (w : AnyOf xs) → kind_of x v ≡ kind_any xs w → ⊥
tag_twice x xs d v w e =
    both_ways (has (map class_tag xs) (class_tag x)) (subst (λ (t : ℕ). has (map class_tag xs) t ≡ true) (sym (ap tag e) ∙ kind_tag x v) (has_tag xs w)) (not_true _ (left_of _ _ d))

any_same : (xs : List Class) → are_distinct (map class_tag xs) ≡ true → (v w : AnyOf xs) → kind_any xs v ≡ kind_any xs w → v ≡ w
any_same [] d v w e = absurd v
any_same (x ∷ []) d v w e = kind_same x v w e
any_same (x ∷ (y ∷ ys)) d (inl v) (inl w) e = ap inl (kind_same x v w e)
any_same (x ∷ (y ∷ ys)) d (inl v) (inr w) e = absurd (tag_twice x (y ∷ ys) d v w e)
any_same (x ∷ (y ∷ ys)) d (inr v) (inl w) e = absurd (tag_twice x (y ∷ ys) d w v (sym e))
any_same (x ∷ (y ∷ ys)) d (inr v) (inr w) e = ap inr (any_same (y ∷ ys) (right_of _ _ d) v w e)

abbrev is_clear : Symbol → Bool
is_clear (Seen codes) = are_distinct (tags codes)
is_clear (Bare codes) = are_distinct (map class_tag (classes bare_class codes))
is_clear (Of p) = true

all_clear : (p : Part) → list_all (list_all is_clear) (rules p) ≡ true
all_clear p = each_part (λ p. list_all (list_all is_clear) (rules p)) refl p

-- Rules: no other one can be followed

any_may : (f : Forest) (rs : List (List Symbol)) → ((r : List Symbol) → Follows f r → may_follow f r ≡ true) → AnyRule rs (Follows f) → any_rule rs (may_follow f) ≡ true
any_may f [] sound any = absurd any
any_may f (r ∷ rs) sound (inl does) = or_left _ _ (sound r does)
any_may f (r ∷ rs) sound (inr any) = or_right _ _ (any_may f rs sound any)

follows_may : (f : Forest) (ss : List Symbol) → Follows f ss → may_follow f ss ≡ true
follows_may nil [] h = refl
follows_may (seen place kind f) (Seen codes ∷ ss) h =
    let k = seen_found kind codes h.0 in subst (λ (x : TokenKind). has (tags codes) (tag x) ≡ true) k.1 (has_tag (classes seen_class codes) k.0)
follows_may (bare kind f) (Bare codes ∷ ss) h = h.0
follows_may (sub a g) (Of p ∷ ss) h = any_may a (rules p) (follows_may a) h.0
follows_may _ _ h = absurd h

-- the only row of a rule whose forest is f
abbrev RowFor : Forest → List Symbol → Type 0
RowFor f ss = (row : Row ss) × (row_forest ss row ≡ f) × ((other : Row ss) → row_forest ss other ≡ f → other ≡ row)

-- and of all rules
abbrev ChoiceFor : Forest → List (List Symbol) → Type 0
ChoiceFor f rs =
    (choice : Choice rs) × (choice_forest rs choice ≡ f) × ((other : Choice rs) → choice_forest rs other ≡ f → is_only rs other f ≡ true → other ≡ choice)

chosen : (f : Forest) (rs : List (List Symbol)) → list_all (list_all is_clear) rs ≡ true
    → ((r : List Symbol) → list_all is_clear r ≡ true → Follows f r → RowFor f r) → AnyRule rs (Follows f) → ChoiceFor f rs
chosen f [] clear one any = absurd any
chosen f (r ∷ []) clear one (inl does) = let row = one r (left_of _ _ clear) does in (row.0, row.1, λ other e only. row.2 other e)
chosen f (r ∷ []) clear one (inr none) = absurd none
chosen f (r ∷ (s ∷ rs)) clear one (inl does) =
    let row = one r (left_of _ _ clear) does in (
      inl row.0,
      row.1,
      elim [
        | inl other ↦ λ e only. ap inl (row.2 other e)
        | inr other ↦ λ e only. both_ways (may_follow f r) (follows_may f r does) (not_true _ (left_of _ _ only))
      ],
    )
chosen f (r ∷ (s ∷ rs)) clear one (inr any) =
    let later = chosen f (s ∷ rs) (right_of _ _ clear) one any in (
      inr later.0,
      later.1,
      elim [
        | inl other ↦ λ e only. both_ways (any_rule (s ∷ rs) (may_follow f)) (any_may f (s ∷ rs) (follows_may f) any) (not_true _ only)
        | inr other ↦ λ e only. ap inr (later.2 other e (right_of _ _ only))
      ],
    )

-- the only tree of a part that is written so
abbrev pub Sole : Part → Forest → Type 0
Sole p f = (t : Tree p) × (forest_of p t ≡ f) × ((other : Tree p) → forest_of p other ≡ f → other ≡ t)

sole_by : (p : Part) (f : Forest) → IsOf p f → ChoiceFor f (rules p) → Sole p f
sole_by p f is choice =
    let tree = makes p choice.0 in
    let whole = is_is_whole p f is in (
      tree.0,
      tree.1 (subst (λ (g : Forest). is_whole g ≡ true) (sym choice.1) whole) ∙ choice.1,
      λ other e.
          let k = cut p other (subst (IsOf p) (sym e) is) (subst (λ (g : Forest). is_whole g ≡ true) (sym e) whole) in
          sym k.1 ∙ ap (λ (c : Choice (rules p)). (makes p c).0)
          (choice.2 k.0 (sym ((makes p k.0).1 k.3) ∙ (ap (forest_of p) k.1 ∙ e)) (subst (λ (g : Forest). is_only (rules p) k.0 g ≡ true) e k.2)),
    )

row_of : (f : Forest) (ss : List Symbol) → list_all is_clear ss ≡ true → Follows f ss → RowFor f ss
row_of nil [] clear h = (tt, refl, λ other e. refl)
row_of (seen place kind f) (Seen codes ∷ ss) clear (h, h') =
    let k = seen_found kind codes h in let rest = row_of f ss (right_of (is_clear (Seen codes)) (list_all is_clear ss) clear) h' in (
      ((place, k.0), rest.0),
      ap₂ (seen place) k.1 rest.1,
      λ other e.
          let at : other.0.0 ≡ place = cc in
          let kept : kind_any (classes seen_class codes) other.0.1 ≡ kind = cc in
          let later : row_forest ss other.1 ≡ f = cc in
          let same = any_same (classes seen_class codes) (left_of _ _ clear) other.0.1 k.0 (kept ∙ sym k.1) in
          λ i. ((at i, same i), rest.2 other.1 later i),
    )
row_of (bare kind f) (Bare codes ∷ ss) clear (h, h') =
    let k = bare_found kind codes h in let rest = row_of f ss (right_of (is_clear (Bare codes)) (list_all is_clear ss) clear) h' in (
      (k.0, rest.0),
      ap₂ bare k.1 rest.1,
      λ other e.
          let kept : kind_any (classes bare_class codes) other.0 ≡ kind = cc in
          let later : row_forest ss other.1 ≡ f = cc in
          λ i. (any_same (classes bare_class codes) (left_of _ _ clear) other.0 k.0 (kept ∙ sym k.1) i, rest.2 other.1 later i),
    )
row_of (sub a g) (Of p ∷ ss) clear (any, h) =
    let tree = sole_by p a any (chosen a (rules p) (all_clear p) (λ r c does. row_of a r c does) any) in let rest = row_of g ss clear h in (
      (tree.0, rest.0),
      ap₂ sub tree.1 rest.1,
      λ other e.
          let first : forest_of p other.0 ≡ a = cc in
          let later : row_forest ss other.1 ≡ g = cc in
          λ i. (tree.2 other.0 first i, rest.2 other.1 later i),
    )
row_of _ _ clear h = absurd h

pub sole : (p : Part) (f : Forest) → IsOf p f → Sole p f
sole p f is = sole_by p f is (chosen f (rules p) (all_clear p) (row_of f) is)

-- the tree that a forest of the grammar is written from
pub tree_of : (f : Forest) → IsOf Part.File f → (t : FileTree) × (file t ≡ f)
tree_of f is = let tree = sole Part.File f is in (tree.0, tree.1)
