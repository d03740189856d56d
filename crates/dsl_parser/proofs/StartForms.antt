-- How phases are read: those without a block, and the steps of the readers of compositions.
use Rattle.std.proofs.Common.{◌≡◌, ◌<◌, ◌≤◌, List, [], ◌∷◌, length, map, Bool, cond, Some, None, refl, sym, ◌∙◌, ap, subst, Ok, arith, ◌≢◌, ℕ, Option, Err}
use Rattle.dsl_cursor.specs.Words.{Place, Ident, Token, ActorWord, word_code, Part, Forest, nil, seen, sub, first, starts, Starts, Stops, Outcome, onto, take, after, only_part, in_row, names, read, rule_at, Stop, Memory, rest_at}
use Rattle.dsl_expressions.specs.Words.{Expr, expr_tree, argument_tree}
use Rattle.dsl_parser.specs.Words.{InvokeHead, Phase, PhaseTree, phase_tree, part_tree, InvocationRest, behind_label, core_of, invoke_codes, invoke_token, label_rest, IsStarted, row_of, headed, IsHeaded, CompositionHead, Composition}
use Rattle.dsl_tree.specs.WrittenPhases as written
use Rattle.dsl_parser.specs.declared.phases.PhaseStart.TheVariants.{Whole}
use Rattle.dsl_cursor.proofs.{Lengths.take_shorter, Lengths.read_within, Lengths.read_shorter, ReadParts.Took, ReadSteps.read_step, RowSteps.read_so}

-- Behind a label

abbrev labelled_so : List Token → PhaseTree → Outcome
labelled_so z tree = Ok (label_rest (written.phase tree), z)

abbrev HasLabel : Ident → PhaseTree → Type 0
HasLabel label tree = written.phase tree ≡ behind_label label (label_rest (written.phase tree))

abbrev rest_of : InvocationRest → Forest
rest_of rest = written.invocation_rest rest.names (map argument_tree rest.arguments) (map part_tree rest.parts)

abbrev invoked : Ident → InvokeHead → InvocationRest → PhaseTree
invoked label head rest = PhaseTree.Invoke (Some label) head rest.names (map argument_tree rest.arguments) (map part_tree rest.parts)

head_forest : (head : InvokeHead) (f : Forest) → seen (invoke_token head).place (invoke_token head).kind (sub f nil) ≡ written.labelled_invocation head f
head_forest (InvokeHead.Name name) f = refl
head_forest (InvokeHead.Actor place) f = refl

-- the rest of an invocation, after its head
abbrev behind_head : Token → List Token → Outcome
behind_head t m = onto (seen t.place t.kind) (onto only_part (read Part.InvocationRest m))

abbrev not_head : List Token → Outcome
not_head ts = cond (starts (first Part.Composition) ts) (in_row read (rule_at Part.LabelledPhase 1) ts) (in_row read (rule_at Part.LabelledPhase 2) ts)

abbrev labelled_rules : List Token → Bool → Outcome
labelled_rules ts b = cond b (after (take invoke_codes ts) behind_head) (not_head ts)

pub head_started : (label : Ident) (head : InvokeHead) (rest : InvocationRest) (phase : Phase) (ts m n : List Token) → Starts invoke_codes ts → take invoke_codes ts ≡ Ok (invoke_token head, m) → read Part.InvocationRest m ≡ Ok (rest_of rest, n)
    → phase_tree phase ≡ invoked label head rest → IsStarted Part.LabelledPhase (behind_label label) label_rest ts (Ok (Whole phase)) n
head_started label head rest phase ts m n start one two is = (
  read_step Part.LabelledPhase ts
      ∙ (ap (labelled_rules ts) start
      ∙ (ap (λ (o : Took). after o behind_head) one
      ∙ (ap (λ (o : Outcome). onto (seen (invoke_token head).place (invoke_token head).kind) (onto only_part o)) two
      ∙ (ap (read_so n) (head_forest head (rest_of rest))
      ∙ ap (labelled_so n) (sym is))))),
  subst (HasLabel label) (sym is) refl,
  let a : length m < length ts = take_shorter invoke_codes ts (invoke_token head) m one in
      let b : length n ≤ length m = read_within Part.InvocationRest m (rest_of rest) n two in
      omega (arith, a, b),
)

abbrev wait_of : Place → Expr → Forest
wait_of place elapsed = core_of (written.wait place (expr_tree elapsed))

pub wait_labelled : (label : Ident) (place : Place) (elapsed : Expr) (phase : Phase) (ts m : List Token) → Stops invoke_codes ts → Stops (first Part.Composition) ts → read Part.Wait ts ≡ Ok (wait_of place elapsed, m)
    → phase_tree phase ≡ PhaseTree.Wait (Some label) place (expr_tree elapsed) → IsStarted Part.LabelledPhase (behind_label label) label_rest ts (Ok (Whole phase)) m
wait_labelled label place elapsed phase ts m head composition one is = (
  read_step Part.LabelledPhase ts
      ∙ (ap (labelled_rules ts) head
      ∙ (ap (λ (b : Bool). cond b (in_row read (rule_at Part.LabelledPhase 1) ts) (onto only_part (read Part.Wait ts))) composition
      ∙ (ap (onto only_part) one
      ∙ ap (labelled_so m) (sym is)))),
  subst (HasLabel label) (sym is) refl,
  read_shorter Part.Wait ts (wait_of place elapsed) m refl one,
)

-- Without a label

abbrev whole_so : List Token → PhaseTree → Outcome
whole_so z tree = Ok (written.phase tree, z)

abbrev phase_rule : List Token → Bool → Outcome → Outcome
phase_rule ts b others = cond b (in_row read (rule_at Part.Phase 0) ts) others

abbrev actor_or_wait : List Token → Bool → Outcome
actor_or_wait ts b = cond b (in_row read (rule_at Part.Phase 2) ts) (onto only_part (read Part.Wait ts))

abbrev actor : List Token → Bool
actor ts = starts (word_code ActorWord ∷ []) ts

abbrev no_name : List Token → Bool → Outcome
no_name ts b = cond b (in_row read (rule_at Part.Phase 1) ts) (actor_or_wait ts (actor ts))

pub wait_started : (place : Place) (elapsed : Expr) (phase : Phase) (ts k m : List Token) → Stops names ts → Stops (first Part.Composition) ts → Stops (word_code ActorWord ∷ []) ts → k ≡ ts → read Part.Wait k ≡ Ok (wait_of place elapsed, m)
    → phase_tree phase ≡ PhaseTree.Wait None place (expr_tree elapsed) → IsStarted Part.Phase (λ f. f) (λ f. f) ts (Ok (Whole phase)) m
wait_started place elapsed phase ts k m name composition actor same waits is =
    let one : read Part.Wait ts ≡ Ok (wait_of place elapsed, m) = ap (read Part.Wait) (sym same) ∙ waits in (
      read_step Part.Phase ts
          ∙ (ap (λ (b : Bool). phase_rule ts b (no_name ts (starts (first Part.Composition) ts))) name
          ∙ (ap (no_name ts) composition
          ∙ (ap (actor_or_wait ts) actor
          ∙ (ap (onto only_part) one
          ∙ ap (whole_so m) (sym is))))),
      refl,
      read_shorter Part.Wait ts (wait_of place elapsed) m refl one,
    )

-- A composition: what stands before its block, and the phases in it

abbrev pub StartsComposition : Option Ident → List Token → List Token → Type 0
StartsComposition label ts a = IsStarted Part.Phase (λ f. f) (λ f. f) ts (Ok (Composition label)) a

pub composed_read : (label : Option Ident) (head : CompositionHead) (members : List Phase) (whole : Phase) (ts a b z : List Token) → StartsComposition label ts a → IsHeaded a (Ok head) b
    → in_row read (rest_at Part.Composition 0 5) b ≡ Ok (written.block_phases (row_of (map phase_tree members)), z)
    → phase_tree whole ≡ PhaseTree.Comp label head.place head.kind (map argument_tree head.arguments) (row_of (map phase_tree members))
    → read Part.Phase ts ≡ Ok (written.phase (phase_tree whole), z)
composed_read label head members whole ts a b z (within, starts, form, fails) (less, heads, stops) block is =
    let f : Forest = written.block_phases (row_of (map phase_tree members)) in
    starts (headed head f) z (heads f z block) ∙ ap (whole_so z) (sym is)

pub composition_stops : (label : Option Ident) (ts a : List Token) (e : Stop ℕ) → StartsComposition label ts a → (e ≢ Memory → read Part.Composition a ≡ Err e) → e ≢ Memory → read Part.Phase ts ≡ Err e
composition_stops label ts a e (within, starts, form, fails) stop some = fails e (stop some)

pub block_stops : (head : CompositionHead) (a b : List Token) (e : Stop ℕ) → IsHeaded a (Ok head) b → (e ≢ Memory → in_row read (rest_at Part.Composition 0 5) b ≡ Err e) → e ≢ Memory → read Part.Composition a ≡ Err e
block_stops head a b e (less, heads, fails) stop some = fails e (stop some)
