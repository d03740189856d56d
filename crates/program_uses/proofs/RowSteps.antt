-- The first fault of rows, a part of them at a time.
use Rattle.std.proofs.Common.{◌≡◌, ◌∙◌, refl, sym, ap, ap₂, subst, ℕ, ◌+◌, ◌<◌, ◌≤◌, List, [], ◌∷◌, ◌++◌, Option, Some, None, Result, Ok, Err, IfOk, map, drop, length, get_or, flat_map}
use Rattle.std.proofs.lemmas.List.{drop_all, drop_more}
use Rattle.osc_base.specs.declared.fault.Place.{Place}
use Rattle.osc_base.specs.declared.fault.Fault.{Fault}
use Rattle.osc_base.specs.FaultRows.{FaultRow, row_fault, first_of, first_from, first_fault}
use Rattle.osc_base.proofs.FaultRows.{first_from_joined}
use Rattle.expr_eval.proofs.of_expr_typing.Firsts.{first_assoc}
use Rattle.dsl_tree.specs.ExprTree.{ExprTree}
use Rattle.expr_nodes.specs.type_heads.Table.{Table}
use Rattle.expr_nodes.specs.Scope.{Scope}
use Rattle.expr_nodes.specs.Checks.{IsChecked}
use Rattle.expr_nodes.specs.Typed.{Typed}
use Rattle.expr_nodes.specs.Typing.{expr_rows, typed, first as begins}
use Rattle.expr_nodes.specs.Seen.{seen_part}
use Rattle.expr_nodes.specs.declared.parts.Checked.{Checked}

none_last : (a : Option Fault) → first_of a None ≡ a
none_last None = refl
none_last (Some f) = refl

-- the first of a fault and rows
pub from_is : (a : Option Fault) (rs : List FaultRow) → first_from a rs ≡ first_of a (first_fault rs)
from_is a [] = sym (none_last a)
from_is a (r ∷ rs) =
    from_is (first_of a (row_fault r)) rs ∙ first_assoc a (row_fault r) (first_fault rs) ∙ ap (first_of a) (sym (from_is (row_fault r) rs))

-- an expression that is known
pub known_from : (first result : Option Fault) (known : Checked) → result ≡ first_of first known.fault →
    (table : Table) (sc : Scope) (e : ExprTree) → IsChecked table sc e known → result ≡ first_from first (expr_rows table sc e)
known_from first result known is table sc e h = is ∙ ap (first_of first) h.0 ∙ sym (from_is first (expr_rows table sc e))

-- what an expression that is known is given to
pub fitted_from : (rows : Place → Option Typed → List FaultRow) (first result : Option Fault) (place : Place) (known : Checked) (table : Table) (sc : Scope) (e : ExprTree) →
    result ≡ first_from first (rows place (seen_part known.typed)) → place ≡ begins e → IsChecked table sc e known → result ≡ first_from first (rows (begins e) (typed table sc e))
fitted_from rows first result place known table sc e is at h = is ∙ ap₂ (λ p t. first_from first (rows p t)) at h.1

-- two parts, and three
pub two : (xs ys : List FaultRow) (first middle last : Option Fault) → middle ≡ first_from first xs → last ≡ first_from middle ys → last ≡ first_from first (xs ++ ys)
two xs ys first middle last one more = more ∙ ap (λ f. first_from f ys) one ∙ sym (first_from_joined first xs ys)

pub three : (xs ys zs : List FaultRow) (first middle later last : Option Fault) → middle ≡ first_from first xs → later ≡ first_from middle ys → last ≡ first_from later zs →
    last ≡ first_from first (xs ++ ys ++ zs)
three xs ys zs first middle later last one more most = two (xs ++ ys) zs first later last (two xs ys first middle later one more) most

-- one fact of a result follows from another
pub if_ok : {X E : Type 0} (P Q : X → Type 0) → ((x : X) → P x → Q x) → (r : Result X E) → IfOk r P → IfOk r Q
if_ok P Q more (Ok x) h = more x h
if_ok P Q more (Err e) h = tt

-- what is left of a list begins with the item of a loop
pub left_is : {X : Type 0} (xs : List X) (i : ℕ) (x : X) → i < length xs → x ≡ get_or xs i x → drop i xs ≡ x ∷ drop (i + 1) xs
left_is xs i x less is = drop_more xs i x less ∙ ap (λ y. y ∷ drop (i + 1) xs) (sym is)

-- rows of each item of a list, the items that are left being those from number i on
module _ {X Y : Type 0} (rows : Y → List FaultRow) (see : X → Y) (items xs : List X) (i : ℕ) (same : items ≡ xs) where
  pub each_more : (x : X) (whole now next : Option Fault) → i < length items → x ≡ get_or items i x → next ≡ first_from now (rows (see x)) →
      whole ≡ first_from now (flat_map rows (map see (drop i xs))) → whole ≡ first_from next (flat_map rows (map see (drop (i + 1) xs)))
  each_more x whole now next less is step before =
      let less' : i < length xs = subst (λ ys. i < length ys) same less in
      let is' : x ≡ get_or xs i x = is ∙ ap (λ ys. get_or ys i x) same in
      let left : drop i xs ≡ x ∷ drop (i + 1) xs = drop_more xs i x less' ∙ ap (λ y. y ∷ drop (i + 1) xs) (sym is') in
      before ∙ ap (λ ys. first_from now (flat_map rows (map see ys))) left
      ∙ first_from_joined now (rows (see x)) (flat_map rows (map see (drop (i + 1) xs)))
      ∙ ap (λ f. first_from f (flat_map rows (map see (drop (i + 1) xs)))) (sym step)

  pub each_end : (whole now : Option Fault) → length items ≤ i → whole ≡ first_from now (flat_map rows (map see (drop i xs))) → now ≡ whole
  each_end whole now less before =
      let none : drop i xs ≡ [] = drop_all i xs (subst (λ ys. length ys ≤ i) same less) in
      sym (before ∙ ap (λ ys. first_from now (flat_map rows (map see ys))) none)
