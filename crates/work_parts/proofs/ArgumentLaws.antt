-- The amounts of arguments are those of the constraints that they give.
use Rattle.std.proofs.Common.{◌≡◌, ◌∙◌, refl, ap, ap₂, ℕ, ◌+◌, Bool, true, false, cond, List, [], ◌∷◌, Option, Some, None, find, is_some, map, option_map, option_to_list, arith, slice_get}
use Rattle.std.specs.Prelude.{bytes_eq, codes}
use Rattle.std.specs.Option.{option_map_or}
use Rattle.osc_base.specs.declared.path.Path.{Path}
use Rattle.dsl_tree.specs.declared.parts.Ident.{Ident}
use Rattle.dsl_tree.specs.ExprTree.{ExprTree}
use Rattle.dsl_tree.specs.PhaseTree.{ArgumentTree}
use Rattle.expr_nodes.specs.type_heads.Types.{Field, Types}
use Rattle.expr_nodes.specs.type_heads.Members.{fields}
use Rattle.object_works.specs.scene_expansion.composition.Calls.{Assigned, assigned}
use Rattle.object_works.specs.scene_expansion.composition.Expansion.{Calling, argument_named, given_argument, given_duration, here_in, of_arguments}
use Rattle.object_works.specs.scene_expansion.composition.Givens.{Given, Here, from_root, given_required, read_at}
use Rattle.expr_nodes.specs.Fits.{is_read}
use Rattle.expr_nodes.specs.Names.{is_duration}
use Rattle.expr_nodes.specs.Scope.{It}
use Rattle.expr_nodes.specs.Typed as Nodes
use Rattle.expr_nodes.specs.Typed.{Typed, moved}
use Rattle.expr_nodes.specs.Typing.{first, typed}
use Rattle.work_counts.specs.Amounts.{Amount, amount_of, no_amount, plus}
use Rattle.work_counts.specs.TextAmounts.{value_amount}
use Rattle.work_counts.proofs.TextLaws.{amount_append}
use Rattle.work_parts.specs.Arguments.{arguments_amount, assigned_amount, duration_amount, field_amount, is_duration_argument, reads_one}

plus_none : (a : Amount) → plus a no_amount ≡ a
plus_none a =
    let one : a.rules + 0 ≡ a.rules = omega arith in
    let two : a.tokens + 0 ≡ a.tokens = omega arith in
    λ i. record { rules = one i; tokens = two i }

-- ---- parameters

-- what is read is read elsewhere too
read_moved : (to : Path → Path) (t : Typed) → is_some (read_at (moved to t)) ≡ is_read t
read_moved to (Nodes.Constant i number) = refl
read_moved to (Nodes.Read i path per) = refl
read_moved to (Nodes.Whole i path) = refl
read_moved to (Nodes.Listed i is_field items) = refl
read_moved to (Nodes.Span i low high) = refl
read_moved to (Nodes.Minus i part) = refl
read_moved to (Nodes.Not i part) = refl
read_moved to (Nodes.Sum i left right) = refl
read_moved to (Nodes.Times i left right) = refl
read_moved to (Nodes.And i left right) = refl
read_moved to (Nodes.Or i left right) = refl
read_moved to (Nodes.Implies i left right) = refl
read_moved to (Nodes.Relation i sign left right) = refl
read_moved to (Nodes.Within i left right) = refl

-- a requirement on what is read
module _ (give : Typed → Given) (amount : Amount) (same : (t : Typed) → amount_of (give t ∷ []) ≡ amount) (to : Path → Path) where
  required_if : (t : Typed) (b : Bool) → is_some (read_at (moved to t)) ≡ b
      → amount_of (map give (option_to_list (cond b (Some (moved to t)) None))) ≡ cond b amount no_amount
  required_if t true is = same (moved to t)
  required_if t false is = refl

  required_one : (t : Typed) → amount_of (map give (option_to_list (cond (is_some (read_at (moved to t))) (Some (moved to t)) None))) ≡ cond (is_read t) amount no_amount
  required_one t = required_if t (is_some (read_at (moved to t))) refl ∙ ap (λ b. cond b amount no_amount) (read_moved to t)

  pub required_is : (o : Option Typed) → amount_of (map give (option_to_list (find (λ (l : Typed). is_some (read_at l)) (option_to_list (option_map (moved to) o))))) ≡ cond (reads_one o) amount no_amount
  required_is None = refl
  required_is (Some t) = required_one t

-- ---- arguments

duration_one : (ts : Types) (call : Calling) (value : ExprTree) → amount_of (given_duration ts call value ∷ []) ≡ value_amount value
duration_one ts call value = plus_none (value_amount value)

module _ (ts : Types) (call : Calling) (of : ℕ) where
  abbrev here : Here
  here = here_in ts call (Some (It.Of of None))

  given_field : (value : ExprTree) (f : Field) → amount_of (given_argument ts call here value (Assigned.Given f)) ≡ field_amount ts.table of value (Some f)
  given_field value f =
      required_is (λ p. given_required ts here call.path (Some p) value) (value_amount value) (λ t. plus_none (value_amount value)) (from_root here)
      (typed ts.table here.scope (ExprTree.Dot (ExprTree.It (first value)) f.name))

  given_found : (value : ExprTree) (other : Assigned) (o : Option Field) → amount_of (given_argument ts call here value other) ≡ no_amount
      → amount_of (given_argument ts call here value (option_map_or Assigned.Given o other)) ≡ field_amount ts.table of value o
  given_found value other None is = is
  given_found value other (Some f) is = given_field value f

  given_one : (n : ℕ) (value : ExprTree) (name : Option Ident) → amount_of (given_argument ts call here value (assigned ts of n name)) ≡ assigned_amount ts.table of (fields ts of) n value name
  given_one n value None = given_found value Assigned.Surplus (slice_get (fields ts of) n) refl
  given_one n value (Some name) = by (is_duration name.text)
    where
      found : Option Field
      found = find (λ (f : Field). bytes_eq f.name.text name.text) (fields ts of)

      by : (b : Bool) → amount_of (given_argument ts call here value (cond b Assigned.Duration (option_map_or Assigned.Given found (Assigned.Unknown name))))
          ≡ cond b (value_amount value) (field_amount ts.table of value found)
      by true = duration_one ts call value
      by false = given_found value (Assigned.Unknown name) found refl

  -- the constraints of all arguments
  pub arguments_are : (n : ℕ) (arguments : List ArgumentTree)
      → amount_of (of_arguments ts of (given_argument ts call here) n arguments) ≡ arguments_amount ts.table of (fields ts of) n arguments
  arguments_are n [] = refl
  arguments_are n (a ∷ others) =
      amount_append (given_argument ts call here a.value (assigned ts of n a.name)) (of_arguments ts of (given_argument ts call here) (n + 1) others)
      ∙ ap₂ plus (given_one n a.value a.name) (arguments_are (n + 1) others)

-- ---- the stated duration

-- the value of the argument `duration:`
module _ (ts : Types) (call : Calling) where
  abbrev stated : Option ExprTree → Amount
  stated o = amount_of (map (given_duration ts call) (option_to_list o))

  abbrev found : List ArgumentTree → Option ArgumentTree
  found = find (λ (x : ArgumentTree). option_map_or (λ (i : Ident). bytes_eq i.text (codes "duration")) x.name false)

  duration_next : (a : ArgumentTree) (others : List ArgumentTree) (b : Bool) → stated (option_map (λ (x : ArgumentTree). x.value) (found others)) ≡ duration_amount others
      → stated (option_map (λ (x : ArgumentTree). x.value) (cond b (Some a) (found others))) ≡ cond b (value_amount a.value) (duration_amount others)
  duration_next a others true rest = duration_one ts call a.value
  duration_next a others false rest = rest

  pub duration_is : (arguments : List ArgumentTree) → amount_of (map (given_duration ts call) (option_to_list (argument_named (codes "duration") arguments))) ≡ duration_amount arguments
  duration_is [] = refl
  duration_is (a ∷ others) = duration_next a others (is_duration_argument a) (duration_is others)
