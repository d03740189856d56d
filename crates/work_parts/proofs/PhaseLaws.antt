-- The counts of phases, by those of their constraints and modifiers.
use Rattle.std.proofs.Common.{◌≡◌, ◌∙◌, refl, sym, ap, ap₂, ℕ, ◌+◌, ◌*◌, ◌<◌, ◌^◌, Bool, true, false, cond, List, [], ◌∷◌, ◌++◌, Option, Some, None, length, map, flat_map, is_some, option_to_list, arith}
use Rattle.std.specs.Prelude.{bytes_eq, codes}
use Rattle.std.specs.Option.{option_map_or}
use Rattle.dsl_tree.specs.declared.parts.Ident.{Ident}
use Rattle.dsl_tree.specs.declared.phases.CompKind.{CompKind}
use Rattle.dsl_tree.specs.declared.phases.InvokeHead.{InvokeHead}
use Rattle.dsl_tree.specs.ExprTree.{ExprTree}
use Rattle.dsl_tree.specs.PhaseTree.{ArgumentTree, ModifierTree, PartTree}
use Rattle.expr_nodes.specs.type_heads.Types.{Types}
use Rattle.expr_nodes.specs.type_heads.Members.{fields, the_do}
use Rattle.object_works.specs.scene_expansion.composition.declared.spot.PhaseKind.{PhaseKind}
use Rattle.object_works.specs.scene_expansion.composition.Expansion.{Calling, GivenModifier, argument_named, composition_kind, given_argument, given_duration, given_modifier, here_in, of_arguments, overlap_kind, part_modifier, part_rule}
use Rattle.object_works.specs.scene_expansion.composition.Givens.{Given, Here}
use Rattle.object_works.specs.scene_expansion.composition.ModifierLines.{ModifierForm, modifier_form}
use Rattle.object_works.specs.scene_expansion.composition.Scenes.{Binding, is_one_of}
use Rattle.object_works.specs.scene_expansion.composition.Tokens.{arguments_tokens}
use Rattle.object_works.specs.scene_expansion.expansion_laws.Counts.{total, given_rules, given_tokens, modifier_tokens}
use Rattle.object_works.specs.scene_expansion.expansion_laws.WorkNodes.{node_of}
use Rattle.object_works.specs.scene_expansion.expansion_laws.Works as Works
use Rattle.expr_nodes.specs.Scope.{It}
use Rattle.object_works.specs.scene_expansion.AllCounts.{counts_of}
use Rattle.work_counts.specs.declared.tally.Tally.{Tally}
use Rattle.work_counts.specs.Amounts.{Amount, amount_of, kept, no_amount, plus, sum_of}
use Rattle.work_counts.specs.TextAmounts.{times_amount, value_amount}
use Rattle.work_counts.proofs.Sums.{kept_plus, joined, total_append}
use Rattle.work_counts.proofs.TextLaws.{amount_append, rule_is}
use Rattle.work_parts.specs.Arguments.{arguments_amount, duration_amount}
use Rattle.work_parts.specs.OwnCounts.{counts_with}
use Rattle.work_parts.specs.Parts.{composition_slots, modifier_amount, part_amount}
use Rattle.work_parts.proofs.ArgumentLaws.{arguments_are, duration_is}
use Rattle.work_parts.proofs.Nodes.{node_is}

-- ---- compositions

-- one of the kinds of a `parallel`
start_else : (a b c : Bool) → is_one_of (cond a PhaseKind.End (cond b PhaseKind.Equal (cond c PhaseKind.Any PhaseKind.Start))) ≡ false
start_else true b c = refl
start_else false true c = refl
start_else false false true = refl
start_else false false false = refl

overlap_some : (e : ExprTree) → is_one_of (overlap_kind (Some e)) ≡ false
overlap_some (ExprTree.Name i) = start_else (bytes_eq i.text (codes "end")) (bytes_eq i.text (codes "equal")) (bytes_eq i.text (codes "any"))
overlap_some (ExprTree.Listed place items) = refl
overlap_some (ExprTree.Implies place left right) = refl
overlap_some (ExprTree.Or place operator left right) = refl
overlap_some (ExprTree.And place operator left right) = refl
overlap_some (ExprTree.Not place part) = refl
overlap_some (ExprTree.Relation place sign left right) = refl
overlap_some (ExprTree.Sum place operator left right) = refl
overlap_some (ExprTree.Product place operator left right) = refl
overlap_some (ExprTree.Minus place part) = refl
overlap_some (ExprTree.Dot head name) = refl
overlap_some (ExprTree.Index place head index) = refl
overlap_some (ExprTree.Number number) = refl
overlap_some (ExprTree.Physical number unit) = refl
overlap_some (ExprTree.Chars place text) = refl
overlap_some (ExprTree.Truth place value) = refl
overlap_some (ExprTree.It place) = refl
overlap_some (ExprTree.Actor place) = refl
overlap_some (ExprTree.EnumName of member) = refl
overlap_some (ExprTree.Group place inner) = refl
overlap_some (ExprTree.Span place low high) = refl
overlap_some (ExprTree.RangeCall place low high) = refl
overlap_some (ExprTree.Start part) = refl

overlap : (o : Option ExprTree) → is_one_of (overlap_kind o) ≡ false
overlap None = refl
overlap (Some e) = overlap_some e

slots_are : (kind : CompKind) (arguments : List ArgumentTree) → composition_slots kind ≡ cond (is_one_of (composition_kind kind arguments)) 3 2
slots_are CompKind.Serial arguments = refl
slots_are CompKind.Parallel arguments = ap (λ b. cond b 3 2) (sym (overlap (argument_named (codes "overlap") arguments)))
slots_are CompKind.OneOf arguments = refl

few_slots : (kind : CompKind) → composition_slots kind < 2 ^ 64
few_slots CompKind.Serial = omega arith
few_slots CompKind.Parallel = omega arith
few_slots CompKind.OneOf = omega arith

no_modifiers : (last r g : ℕ) → r ≡ g → r ≡ g + (last + 1) * 0
no_modifiers last r g is = omega arith

-- a composition
pub composition_is : (ts : Types) (call : Calling) (kind : CompKind) (arguments : List ArgumentTree) (count last slots : ℕ) (own : Tally)
    → slots ≡ composition_slots kind → own ≡ kept (duration_amount arguments)
    → counts_with 0 slots 1 own ≡ counts_of last (node_of ts (Works.Comp call kind arguments count))
composition_is ts call kind arguments count last slots own same is =
    let few : slots < 2 ^ 64 = omega (arith, same, few_slots kind) in
    let a = duration_is ts call arguments in
    node_is last (node_of ts (Works.Comp call kind arguments count)) 0 slots 1 own (duration_amount arguments) is refl (omega arith) (same ∙ slots_are kind arguments) few refl
    (no_modifiers last (duration_amount arguments).rules (total given_rules (map (given_duration ts call) (option_to_list (argument_named (codes "duration") arguments)))) (ap (λ (x : Amount). x.rules) (sym a)))
    (no_modifiers last (duration_amount arguments).tokens (total given_tokens (map (given_duration ts call) (option_to_list (argument_named (codes "duration") arguments)))) (ap (λ (x : Amount). x.tokens) (sym a)))

-- a `wait`
pub wait_is : (ts : Types) (call : Calling) (elapsed : ExprTree) (last : ℕ) (own : Tally) → own ≡ kept (value_amount elapsed)
    → counts_with 0 2 1 own ≡ counts_of last (node_of ts (Works.Wait call elapsed))
wait_is ts call elapsed last own is =
    node_is last (node_of ts (Works.Wait call elapsed)) 0 2 1 own (value_amount elapsed) is refl (omega arith) refl (omega arith) refl
    (no_modifiers last 1 (1 + 0) (omega arith)) (no_modifiers last (value_amount elapsed).tokens ((value_amount elapsed).tokens + 0) (omega arith))

-- ---- the parts of a `with:`

-- of modifiers
abbrev pub modifiers_amount : List GivenModifier → Amount
modifiers_amount ms = record { rules = length ms; tokens = total modifier_tokens ms }

-- of constraints, and of modifiers at so many ticks
abbrev pub amount_with : ℕ → List Given → List GivenModifier → Amount
amount_with ticks given modifiers = plus (amount_of given) (times_amount ticks (modifiers_amount modifiers))

length_append : {X : Type 0} (xs ys : List X) → length (xs ++ ys) ≡ length xs + length ys
length_append [] ys = omega arith
length_append (x ∷ xs) ys = let more : length (xs ++ ys) ≡ length xs + length ys = length_append xs ys in omega (arith, more)

regroup : (t a b m n : ℕ) → (a + b) + t * (m + n) ≡ (a + t * m) + (b + t * n)
regroup t a b m n = omega arith

-- of both of two rows
with_append : (ticks : ℕ) (g h : List Given) (m n : List GivenModifier) → amount_with ticks (g ++ h) (m ++ n) ≡ plus (amount_with ticks g m) (amount_with ticks h n)
with_append ticks g h m n = λ i. record {
  rules = (ap₂ (λ x y. x + ticks * y) (total_append given_rules g h) (length_append m n) ∙ regroup ticks (total given_rules g) (total given_rules h) (length m) (length n)) i;
  tokens = (ap₂ (λ x y. x + ticks * y) (total_append given_tokens g h) (total_append modifier_tokens m n) ∙ regroup ticks (total given_tokens g) (total given_tokens h) (total modifier_tokens m) (total modifier_tokens n)) i;
}

parts_are : (a b : Amount) → a.rules ≡ b.rules → a.tokens ≡ b.tokens → a ≡ b
parts_are a b one two = λ i. record { rules = one i; tokens = two i }

module _ (ts : Types) (call : Calling) (here : Here) (ticks : ℕ) where
  modifier_is : (m : ModifierTree) (o : Option ModifierForm)
      → amount_with ticks [] (map (given_modifier ts call here m) (option_to_list o))
      ≡ option_map_or (λ (f : ModifierForm). times_amount ticks (record { rules = 1; tokens = arguments_tokens m.arguments })) o no_amount
  modifier_is m None = parts_are (amount_with ticks [] []) no_amount (omega arith) (omega arith)
  modifier_is m (Some f) =
      parts_are (amount_with ticks [] (given_modifier ts call here m f ∷ [])) (times_amount ticks (record { rules = 1; tokens = arguments_tokens m.arguments })) (omega arith)
      (plain (arguments_tokens m.arguments))
    where
      plain : (n : ℕ) → 0 + ticks * (n + 0) ≡ ticks * n
      plain n = omega arith

  part_is : (p : PartTree) → amount_with ticks (part_rule ts call here p) (part_modifier ts call here p) ≡ part_amount ticks p
  part_is (PartTree.RulePart r) =
      parts_are (amount_with ticks (part_rule ts call here (PartTree.RulePart r)) []) (amount_of (part_rule ts call here (PartTree.RulePart r))) (none (total given_rules (part_rule ts call here (PartTree.RulePart r)))) (none (total given_tokens (part_rule ts call here (PartTree.RulePart r))))
      ∙ rule_is ts here call.path [] r
    where
      none : (n : ℕ) → n + ticks * 0 ≡ n
      none n = omega arith
  part_is (PartTree.ModifierPart m) = modifier_is m (modifier_form m)

  pub with_is : (parts : List PartTree) → amount_with ticks (flat_map (part_rule ts call here) parts) (flat_map (part_modifier ts call here) parts) ≡ sum_of (part_amount ticks) parts
  with_is [] = parts_are (amount_with ticks [] []) no_amount (omega arith) (omega arith)
  with_is (p ∷ ps) =
      with_append ticks (part_rule ts call here p) (flat_map (part_rule ts call here) ps) (part_modifier ts call here p) (flat_map (part_modifier ts call here) ps)
      ∙ ap₂ plus (part_is p) (with_is ps)

-- a modifier that has a form
pub modifier_some : (ticks : ℕ) (m : ModifierTree) (f : ModifierForm) → Some f ≡ modifier_form m
    → times_amount ticks (record { rules = 1; tokens = arguments_tokens m.arguments }) ≡ modifier_amount ticks m
modifier_some ticks m f is = ap (λ o. option_map_or (λ (g : ModifierForm). times_amount ticks (record { rules = 1; tokens = arguments_tokens m.arguments })) o no_amount) is

-- ---- invocations

invoke_slots : (b : Bool) → ◌≡◌ {A = ℕ} 2 (cond (is_one_of (cond b PhaseKind.Scenario PhaseKind.Action)) 3 2)
invoke_slots true = refl
invoke_slots false = refl

plus_grouped : (a b c : Amount) → plus (plus a b) c ≡ plus a (plus b c)
plus_grouped a b c = parts_are (plus (plus a b) c) (plus a (plus b c)) (omega arith) (omega arith)

module _ (ts : Types) (steps : ℕ) (call : Calling) (head : InvokeHead) (names : List Ident) (arguments : List ArgumentTree) (parts : List PartTree) (of : ℕ) (bindings : List Binding) (last : ℕ) where
  abbrev here : Here
  here = here_in ts call (Some (It.Of of None))

  abbrev given : List Given
  given = of_arguments ts of (given_argument ts call here) 0 arguments

  abbrev rules : List Given
  rules = flat_map (part_rule ts call here) parts

  abbrev modifiers : List GivenModifier
  modifiers = flat_map (part_modifier ts call here) parts

  abbrev all : Amount
  all = plus (arguments_amount ts.table of (fields ts of) 0 arguments) (sum_of (part_amount (last + 1)) parts)

  all_is : all ≡ amount_with (last + 1) (given ++ rules) modifiers
  all_is =
      ap₂ plus (sym (arguments_are ts call of 0 arguments)) (sym (with_is ts call here (last + 1) parts))
      ∙ sym (plus_grouped (amount_of given) (amount_of rules) (times_amount (last + 1) (modifiers_amount modifiers)))
      ∙ ap (λ a. plus a (times_amount (last + 1) (modifiers_amount modifiers))) (sym (amount_append given rules))

  pub invocation_is : (own one two : Tally) (ticks : ℕ) → ticks ≡ last + 1
      → one ≡ kept (arguments_amount ts.table of (fields ts of) 0 arguments) → two ≡ kept (sum_of (part_amount ticks) parts) → own ≡ joined one two
      → counts_with 0 2 1 own ≡ counts_of last (node_of ts (Works.Invoke steps call head names arguments parts of bindings))
  invocation_is own one two ticks same is_one is_two is =
      node_is last (node_of ts (Works.Invoke steps call head names arguments parts of bindings)) 0 2 1 own all
      (is ∙ ap₂ joined is_one (is_two ∙ ap (λ n. kept (sum_of (part_amount n) parts)) same) ∙ kept_plus (arguments_amount ts.table of (fields ts of) 0 arguments) (sum_of (part_amount (last + 1)) parts))
      refl (omega arith) (invoke_slots (is_some (the_do ts of))) (omega arith) refl
      (ap (λ (a : Amount). a.rules) all_is) (ap (λ (a : Amount). a.tokens) all_is)
