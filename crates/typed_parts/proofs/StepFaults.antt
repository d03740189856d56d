-- The first fault of an operator and its parts.
use Rattle.std.proofs.Common.{◌≡◌, ◌∙◌, sym, ap, ap₂, List, ◌++◌, Option}
use Rattle.expr_nodes.specs.osc_base.declared.fault.Fault.{Fault}
use Rattle.expr_nodes.specs.osc_base.FaultRows.{FaultRow, first_of, first_fault}
use Rattle.expr_nodes.specs.Typed.{Typed}
use Rattle.typed_parts.proofs.Firsts.{first_append}

pub one_fault : (rows : Option Typed → List FaultRow) (x y : Option Typed) (xs : List FaultRow) (own part all : Option Fault)
    → x ≡ y → own ≡ first_fault (rows x) → part ≡ first_fault xs → all ≡ first_of own part → all ≡ first_fault (rows y ++ xs)
one_fault rows x y xs own part all same first second h =
    h ∙ ap₂ first_of (first ∙ ap (λ t. first_fault (rows t)) same) second ∙ sym (first_append (rows y) xs)

pub two_faults : (rows : Option Typed → Option Typed → List FaultRow) (x y u v : Option Typed) (xs ys : List FaultRow) (own left right all : Option Fault)
    → x ≡ u → y ≡ v → own ≡ first_fault (rows x y) → left ≡ first_fault xs → right ≡ first_fault ys → all ≡ first_of (first_of own left) right
    → all ≡ first_fault (rows u v ++ xs ++ ys)
two_faults rows x y u v xs ys own left right all same also first second third h =
    h
    ∙ ap₂ first_of (ap₂ first_of (first ∙ ap₂ (λ s t. first_fault (rows s t)) same also) second ∙ sym (first_append (rows u v) xs)) third
    ∙ sym (first_append (rows u v ++ xs) ys)
