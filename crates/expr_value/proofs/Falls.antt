-- Parts of a node are less deep than the node.
use Rattle.std.proofs.Common.{◌≡◌, refl, ap, ℕ, zero, suc, ◌+◌, ◌<◌, ◌≤◌, List, [], ◌∷◌, arith, length, get_or}
use Rattle.std.specs.Prelude.{max, Bool}
use denote.Param.Weighed.{most}
use Rattle.expr_nodes.specs.declared.compare.Compare.{Compare}
use Rattle.expr_nodes.specs.declared.node.Info.{Info}
use Rattle.expr_nodes.specs.declared.node.Join.{Join}
use Rattle.expr_nodes.specs.declared.node.Earlier.{Earlier}
use Rattle.expr_nodes.specs.declared.node.Typed.{Typed}
use Rattle.expr_nodes.specs.declared.node.Typed.TheViews
use Rattle.expr_nodes.specs.declared.node.Typed.TheViews.{size-Typed, size-Earlier}

-- an element of a list
pub at_most : {A : Type 0} (f : A → ℕ) (xs : List A) (i : ℕ) (next : A) → i < length xs → next ≡ get_or xs i next → f next ≤ most f xs
at_most f [] i next less is = absurd (omega arith)
at_most f (x ∷ xs) zero next less is =
    let e : most f (x ∷ xs) ≡ max (f x) (most f xs) = refl in
    omega (arith, e, ap f is)
at_most f (x ∷ xs) (suc i) next less is =
    let e : most f (x ∷ xs) ≡ max (f x) (most f xs) = refl in
    omega (arith, e, at_most f xs i next (omega arith) is)

pub below_minus : (t p part : Typed) (info : Info) → t ≡ TheViews.Minus info part → p ≡ part → size-Typed p < size-Typed t
below_minus t p part info is same =
    let e : size-Typed (TheViews.Minus info part) ≡ max 0 (max (size-Typed part) 0) + 1 = TheViews.sized-Minus info part in
    omega (arith, e, ap size-Typed is, ap size-Typed same)

pub below_not : (t p part : Typed) (info : Info) → t ≡ TheViews.Not info part → p ≡ part → size-Typed p < size-Typed t
below_not t p part info is same =
    let e : size-Typed (TheViews.Not info part) ≡ max 0 (max (size-Typed part) 0) + 1 = TheViews.sized-Not info part in
    omega (arith, e, ap size-Typed is, ap size-Typed same)

pub below_implies : (t left right : Typed) (info : Info) → t ≡ TheViews.Implies info left right → (size-Typed left < size-Typed t) × (size-Typed right < size-Typed t)
below_implies t left right info is =
    let e : size-Typed (TheViews.Implies info left right) ≡ max 0 (max (size-Typed left) (max (size-Typed right) 0)) + 1 = TheViews.sized-Implies info left right in
    (omega (arith, e, ap size-Typed is), omega (arith, e, ap size-Typed is))

pub below_within : (t left right : Typed) (info : Info) → t ≡ TheViews.Within info left right → (size-Typed left < size-Typed t) × (size-Typed right < size-Typed t)
below_within t left right info is =
    let e : size-Typed (TheViews.Within info left right) ≡ max 0 (max (size-Typed left) (max (size-Typed right) 0)) + 1 = TheViews.sized-Within info left right in
    (omega (arith, e, ap size-Typed is), omega (arith, e, ap size-Typed is))

pub below_relation : (t left right : Typed) (info : Info) (sign : Compare) → t ≡ TheViews.Relation info sign left right → (size-Typed left < size-Typed t) × (size-Typed right < size-Typed t)
below_relation t left right info sign is =
    let e : size-Typed (TheViews.Relation info sign left right) ≡ max 0 (max 0 (max (size-Typed left) (max (size-Typed right) 0))) + 1 = TheViews.sized-Relation info sign left right in
    (omega (arith, e, ap size-Typed is), omega (arith, e, ap size-Typed is))

pub below_span : (t low high : Typed) (info : Info) → t ≡ TheViews.Span info low high → (size-Typed low < size-Typed t) × (size-Typed high < size-Typed t)
below_span t low high info is =
    let e : size-Typed (TheViews.Span info low high) ≡ max 0 (max (size-Typed low) (max (size-Typed high) 0)) + 1 = TheViews.sized-Span info low high in
    (omega (arith, e, ap size-Typed is), omega (arith, e, ap size-Typed is))

pub below_joined : (t first last : Typed) (info : Info) (join : Join) (earlier : List Earlier) → t ≡ TheViews.Joined info join first earlier last → (size-Typed first < size-Typed t) × ((most size-Earlier earlier < size-Typed t) × (size-Typed last < size-Typed t))
below_joined t first last info join earlier is =
    let e : size-Typed (TheViews.Joined info join first earlier last) ≡ max 0 (max 0 (max (size-Typed first) (max (most size-Earlier earlier) (max (size-Typed last) 0)))) + 1 = TheViews.sized-Joined info join first earlier last in
    (omega (arith, e, ap size-Typed is), (omega (arith, e, ap size-Typed is), omega (arith, e, ap size-Typed is)))

pub below_listed : (t : Typed) (info : Info) (f : Bool) (items : List Typed) → t ≡ TheViews.Listed info f items → most size-Typed items < size-Typed t
below_listed t info f items is =
    let e : size-Typed (TheViews.Listed info f items) ≡ max 0 (max 0 (max (most size-Typed items) 0)) + 1 = TheViews.sized-Listed info f items in
    omega (arith, e, ap size-Typed is)

pub part_below : (e : Earlier) → size-Typed e.part < size-Earlier e
part_below x =
    let e : size-Earlier x ≡ max 0 (max (size-Typed x.part) 0) + 1 = TheViews.size_is-Earlier x in
    omega (arith, e)
