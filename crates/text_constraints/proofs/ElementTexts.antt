-- The elements of a list field that is `it`, by a sample of them.
use Rattle.std.proofs.Common.{◌≡◌, ◌∙◌, refl, ap, ℕ, zero, suc, ◌+◌, ◌<◌, arith, true, false, List, [], ◌∷◌, Option, Some, None, is_none, option_and_then, option_map, slice_get}
use Rattle.std.specs.Prelude.{codes}
use Rattle.osc_base.specs.declared.fault.FaultCode.{FaultCode}
use Rattle.osc_base.specs.declared.fault.Place.{Place}
use Rattle.osc_base.specs.declared.path.Path.{Path}
use Rattle.osc_base.specs.FaultRows.{FaultRow, first_fault, row}
use Rattle.osc_base.specs.Paths.{root, then_index, then_name}
use Rattle.dsl_tree.specs.declared.parts.Digits.{Digits}
use Rattle.dsl_tree.specs.ExprTree.{ExprTree}
use Rattle.expr_nodes.specs.type_heads.Table.{Table, form}
use Rattle.expr_nodes.specs.type_heads.Form.{Form}
use Rattle.program_texts.specs.composition.Givens.{element}
use Rattle.expr_nodes.specs.Kinds.{ValueKind, kind_of}
use Rattle.expr_nodes.specs.Names.{elements_from, it_at, per_of}
use Rattle.expr_nodes.specs.Operators.{index_typed, element as element_in}
use Rattle.expr_nodes.specs.Parts.{of_one}
use Rattle.expr_nodes.specs.Scope.{It, Scope}
use Rattle.expr_nodes.specs.Sizes.{field_size, info_at, unit_size}
use Rattle.expr_nodes.specs.Typed.{Typed, Read, Listed, begun_at, items_of}
use Rattle.expr_nodes.specs.Typing.{typed}
use Rattle.text_constraints.specs.Elements.{AreSampled, Sample, SampleFor, element_path, sample_at}

-- element n of those from number a on
elements_get : (each : Path → Typed) (path : Path) (a count n : ℕ) → n < count → slice_get (items_of (elements_from a count each path)) n ≡ Some (each (then_index path (a + n)))
elements_get each path a zero n h = absurd (omega (arith, h))
elements_get each path a (suc count) zero h = let same : a ≡ a + zero = omega arith in ap (λ k. Some (each (then_index path k))) same
elements_get each path a (suc count) (suc n) h =
    let less : n < count = omega (arith, h) in
    let same : (a + 1) + n ≡ a + suc n = omega arith in
    elements_get each path (a + 1) count n less ∙ ap (λ k. Some (each (then_index path k))) same

module _ (table : Table) (sc : Scope) (count n : ℕ) where
  abbrev digits : Place → Digits
  digits place = record { place = place; digits = n; places = 0 }

  -- the typed form of the element, and its faults, by what `it` is
  abbrev typed_by : Place → Option It → Option Typed
  typed_by place it = index_typed (option_and_then (it_at table place) it) (ExprTree.Number (digits place))

  abbrev faults_by : Place → Option It → List FaultRow
  faults_by place it =
      row place FaultCode.NotConstant false
      ∷ row place FaultCode.Index (of_one (option_and_then (it_at table place) it) (λ h. is_none (element_in n h)))
      ∷ row place FaultCode.Unknown (is_none it)
      ∷ row place FaultCode.TooLarge false
      ∷ []

  -- a list of elements of a kind
  abbrev list_with : Place → ℕ → ValueKind → Form → Typed
  list_with place t k f = Listed (info_at place k unit_size) true (elements_from 0 count (λ p. Read (info_at place k (field_size (per_of f))) p (per_of f)) (then_name root (codes "it")))

  abbrev list_by : Place → ℕ → Option ValueKind → Option Typed
  list_by place t k = option_map (λ x. list_with place t x (form table.heads t)) k

  abbrev sample_by : Place → ℕ → Option ValueKind → Option Sample
  sample_by place t k = option_map (λ x. record { info = info_at place x (field_size (per_of (form table.heads t))); per = per_of (form table.heads t) }) k

  got : n < count → (place : Place) (t : ℕ) (k : ValueKind) → element_in n (list_with place t k (form table.heads t))
      ≡ Some (Read (info_at place k (field_size (per_of (form table.heads t)))) (element_path n) (per_of (form table.heads t)))
  got less place t k =
      let same : 0 + n ≡ n = omega arith in
      elements_get (λ p. Read (info_at place k (field_size (per_of (form table.heads t)))) p (per_of (form table.heads t))) (then_name root (codes "it")) 0 count n less
      ∙ ap (λ m. Some (Read (info_at place k (field_size (per_of (form table.heads t)))) (then_index (then_name root (codes "it")) m) (per_of (form table.heads t)))) same

  no_sample : (place : Place) (it : Option It) → sc.it ≡ it → option_and_then (it_at table place) it ≡ None → typed table sc (element place n) ≡ None
  no_sample place it is none = ap (typed_by place) is ∙ ap (λ t. index_typed t (ExprTree.Number (digits place))) none

  some_sample : n < count → (at : Place) (t : ℕ) → sc.it ≡ Some (It.Of t (Some count)) → (k : Option ValueKind) → kind_of t (form table.heads t) ≡ k → SampleFor table sc n (sample_by at t k)
  unfolding SampleFor
  some_sample less at t is None kind = λ place. no_sample place (Some (It.Of t (Some count))) is (ap (list_by place t) kind)
  some_sample less at t is (Some k) kind = λ place. (
    ap (λ it. first_fault (faults_by place it)) is
        ∙ ap (λ o. first_fault (row place FaultCode.NotConstant false ∷ row place FaultCode.Index (of_one (list_by place t o) (λ h. is_none (element_in n h))) ∷ row place FaultCode.Unknown false ∷ row place FaultCode.TooLarge false ∷ [])) kind
        ∙ ap (λ e. first_fault (row place FaultCode.NotConstant false ∷ row place FaultCode.Index (is_none e) ∷ row place FaultCode.Unknown false ∷ row place FaultCode.TooLarge false ∷ [])) (got less place t k),
    ap (typed_by place) is ∙ ap (λ o. index_typed (list_by place t o) (ExprTree.Number (digits place))) kind ∙ ap (option_map (begun_at place)) (got less place t k),
  )

-- a sample serves for each element of a list
pub are_sampled : (table : Table) (sc : Scope) (count : ℕ) (at : Place) (of : Option ℕ) → sc.it ≡ option_map (λ t. It.Of t (Some count)) of → AreSampled table sc count (option_and_then (sample_at table at) of)
unfolding AreSampled SampleFor
are_sampled table sc count at None is = λ n less place. no_sample table sc count n place None is refl
are_sampled table sc count at (Some t) is = λ n less. some_sample table sc count n less at t is (kind_of t (form table.heads t)) refl

-- an element of that number is known by the sample
pub sampled_at : (table : Table) (sc : Scope) (count n : ℕ) (s : Option Sample) → AreSampled table sc count s → n < count → SampleFor table sc n s
unfolding AreSampled
sampled_at table sc count n s all less = all n less
