-- The amounts of texts are those of the constraints that they give.
use Rattle.std.proofs.Common.{◌≡◌, ◌∙◌, refl, sym, ap, ap₂, ℕ, zero, suc, ◌+◌, ◌<◌, Bool, true, false, cond, List, [], ◌∷◌, ◌++◌, Option, Some, None, length, map, filter_map, flat_map, option_map, option_to_list, reverse, is_some, arith}
use Rattle.std.specs.List.{cons_option}
use Rattle.std.proofs.lemmas.List.{reverse-append}
use Rattle.std.specs.Option.{option_map_or}
use Rattle.dsl_tree.specs.osc_base.declared.fault.Place.{Place}
use Rattle.dsl_tree.specs.osc_base.declared.path.Path.{Path}
use Rattle.dsl_tree.specs.declared.parts.Ident.{Ident}
use Rattle.dsl_tree.specs.declared.rules.KeepKind.{KeepKind}
use Rattle.dsl_tree.specs.declared.compounds.HeirCondition.{HeirCondition}
use Rattle.dsl_tree.specs.ExprTree.{ExprTree, items_of}
use Rattle.dsl_tree.specs.PhaseTree.{RuleTree}
use Rattle.dsl_tree.specs.FileTree.{FieldTree, MemberTree}
use Rattle.program_texts.specs.type_heads.Table.{bases}
use Rattle.program_texts.specs.type_heads.Types.{Types, Field, Member}
use Rattle.program_texts.specs.type_heads.Members.{field, field_type, heir_condition, members}
use Rattle.program_texts.specs.expr_nodes.Typing.{first}
use Rattle.program_texts.specs.composition.declared.guard.Guard.{Guard}
use Rattle.program_texts.specs.composition.Givens.{FieldHere, Given, Here, element, field_here, given_condition, given_conditions, given_elements, given_field, given_initial, given_initials, given_member, given_rule, own_givens}
use Rattle.program_texts.specs.composition.Tokens.{tokens, value_tokens}
use Rattle.program_texts.specs.expansion_laws.WorkNodes.{own_within}
use Rattle.program_texts.specs.expansion_laws.Counts.{total, given_rules, given_tokens}
use Rattle.work_counts.proofs.Sums.{total_append}
use Rattle.work_counts.specs.Amounts.{Amount, amount_of, no_amount, plus, sum_of}
use Rattle.work_counts.specs.TextAmounts.{base_amount, field_amount, heir_amount, initial_amount, member_amount, rule_amount, times_amount, type_amount, value_amount}

-- two rows of constraints
pub amount_append : (xs ys : List Given) → amount_of (xs ++ ys) ≡ plus (amount_of xs) (amount_of ys)
amount_append xs ys = λ i. record { rules = total_append given_rules xs ys i; tokens = total_append given_tokens xs ys i }

-- constraints of each of some things
pub amount_each : {X : Type 0} (give : X → List Given) (amount : X → Amount) → ((x : X) → amount_of (give x) ≡ amount x) → (xs : List X) → amount_of (flat_map give xs) ≡ sum_of amount xs
amount_each give amount same [] = refl
amount_each give amount same (x ∷ xs) = amount_append (give x) (flat_map give xs) ∙ ap₂ plus (same x) (amount_each give amount same xs)

-- one constraint of each
pub amount_one : {X : Type 0} (give : X → Given) (amount : X → Amount) → ((x : X) → amount_of (give x ∷ []) ≡ amount x) → (xs : List X) → amount_of (map give xs) ≡ sum_of amount xs
amount_one give amount same [] = refl
amount_one give amount same (x ∷ xs) = amount_append (give x ∷ []) (map give xs) ∙ ap₂ plus (same x) (amount_one give amount same xs)

-- an amount that has these parts
parts_are : (a b : Amount) → a.rules ≡ b.rules → a.tokens ≡ b.tokens → a ≡ b
parts_are a b one two = λ i. record { rules = one i; tokens = two i }

plus_none : (a : Amount) → plus a no_amount ≡ a
plus_none a = parts_are (plus a no_amount) a (omega arith) (omega arith)

plus_grouped : (a b c : Amount) → plus (plus a b) c ≡ plus a (plus b c)
plus_grouped a b c = parts_are (plus (plus a b) c) (plus a (plus b c)) (omega arith) (omega arith)

-- ---- rules

pub rule_is : (ts : Types) (here : Here) (holder : Path) (under : List Guard) (r : RuleTree) → amount_of (given_rule ts here holder under r ∷ []) ≡ rule_amount r
rule_is ts here holder under (RuleTree.Keep place KeepKind.Plain e) = plus_none (record { rules = 1; tokens = tokens e })
rule_is ts here holder under (RuleTree.Keep place KeepKind.Hard e) = plus_none (record { rules = 1; tokens = tokens e })
rule_is ts here holder under (RuleTree.Keep place KeepKind.Default e) = plus_none (record { rules = 1; tokens = tokens e })
rule_is ts here holder under (RuleTree.Remove place path) = plus_none (record { rules = 0; tokens = tokens path })

-- ---- initial values

initial_is : (ts : Types) (f : FieldHere) (left value : ExprTree) → amount_of (given_initial ts f left value ∷ []) ≡ value_amount value
initial_is ts f left value = plus_none (value_amount value)

elements_are : (ts : Types) (f : FieldHere) (n : ℕ) (values : List ExprTree) → amount_of (given_elements ts f n values) ≡ sum_of value_amount values
elements_are ts f n [] = refl
elements_are ts f n (value ∷ values) =
    amount_append (given_initial ts f (element (first value) n) value ∷ []) (given_elements ts f (n + 1) values)
    ∙ ap₂ plus (initial_is ts f (element (first value) n) value) (elements_are ts f (n + 1) values)

pub initials_are : (ts : Types) (f : FieldHere) (is_list : Bool) (value : ExprTree) → amount_of (given_initials ts f is_list value) ≡ initial_amount is_list value
initials_are ts f true (ExprTree.Listed place items) = elements_are ts f 0 (items_of items)
initials_are ts f false (ExprTree.Listed place items) = plus_none (value_amount (ExprTree.Listed place items))
initials_are ts f true (ExprTree.Implies place left right) = plus_none (value_amount (ExprTree.Implies place left right))
initials_are ts f true (ExprTree.Or place operator left right) = plus_none (value_amount (ExprTree.Or place operator left right))
initials_are ts f true (ExprTree.And place operator left right) = plus_none (value_amount (ExprTree.And place operator left right))
initials_are ts f true (ExprTree.Not place part) = plus_none (value_amount (ExprTree.Not place part))
initials_are ts f true (ExprTree.Relation place sign left right) = plus_none (value_amount (ExprTree.Relation place sign left right))
initials_are ts f true (ExprTree.Sum place operator left right) = plus_none (value_amount (ExprTree.Sum place operator left right))
initials_are ts f true (ExprTree.Product place operator left right) = plus_none (value_amount (ExprTree.Product place operator left right))
initials_are ts f true (ExprTree.Minus place part) = plus_none (value_amount (ExprTree.Minus place part))
initials_are ts f true (ExprTree.Dot head name) = plus_none (value_amount (ExprTree.Dot head name))
initials_are ts f true (ExprTree.Index place head index) = plus_none (value_amount (ExprTree.Index place head index))
initials_are ts f true (ExprTree.Number number) = plus_none (value_amount (ExprTree.Number number))
initials_are ts f true (ExprTree.Physical number unit) = plus_none (value_amount (ExprTree.Physical number unit))
initials_are ts f true (ExprTree.Chars place text) = plus_none (value_amount (ExprTree.Chars place text))
initials_are ts f true (ExprTree.Truth place value) = plus_none (value_amount (ExprTree.Truth place value))
initials_are ts f true (ExprTree.It place) = plus_none (value_amount (ExprTree.It place))
initials_are ts f true (ExprTree.Actor place) = plus_none (value_amount (ExprTree.Actor place))
initials_are ts f true (ExprTree.Name name) = plus_none (value_amount (ExprTree.Name name))
initials_are ts f true (ExprTree.EnumName of member) = plus_none (value_amount (ExprTree.EnumName of member))
initials_are ts f true (ExprTree.Group place inner) = plus_none (value_amount (ExprTree.Group place inner))
initials_are ts f true (ExprTree.Span place low high) = plus_none (value_amount (ExprTree.Span place low high))
initials_are ts f true (ExprTree.RangeCall place low high) = plus_none (value_amount (ExprTree.RangeCall place low high))
initials_are ts f true (ExprTree.Start part) = plus_none (value_amount (ExprTree.Start part))
initials_are ts f false (ExprTree.Implies place left right) = plus_none (value_amount (ExprTree.Implies place left right))
initials_are ts f false (ExprTree.Or place operator left right) = plus_none (value_amount (ExprTree.Or place operator left right))
initials_are ts f false (ExprTree.And place operator left right) = plus_none (value_amount (ExprTree.And place operator left right))
initials_are ts f false (ExprTree.Not place part) = plus_none (value_amount (ExprTree.Not place part))
initials_are ts f false (ExprTree.Relation place sign left right) = plus_none (value_amount (ExprTree.Relation place sign left right))
initials_are ts f false (ExprTree.Sum place operator left right) = plus_none (value_amount (ExprTree.Sum place operator left right))
initials_are ts f false (ExprTree.Product place operator left right) = plus_none (value_amount (ExprTree.Product place operator left right))
initials_are ts f false (ExprTree.Minus place part) = plus_none (value_amount (ExprTree.Minus place part))
initials_are ts f false (ExprTree.Dot head name) = plus_none (value_amount (ExprTree.Dot head name))
initials_are ts f false (ExprTree.Index place head index) = plus_none (value_amount (ExprTree.Index place head index))
initials_are ts f false (ExprTree.Number number) = plus_none (value_amount (ExprTree.Number number))
initials_are ts f false (ExprTree.Physical number unit) = plus_none (value_amount (ExprTree.Physical number unit))
initials_are ts f false (ExprTree.Chars place text) = plus_none (value_amount (ExprTree.Chars place text))
initials_are ts f false (ExprTree.Truth place value) = plus_none (value_amount (ExprTree.Truth place value))
initials_are ts f false (ExprTree.It place) = plus_none (value_amount (ExprTree.It place))
initials_are ts f false (ExprTree.Actor place) = plus_none (value_amount (ExprTree.Actor place))
initials_are ts f false (ExprTree.Name name) = plus_none (value_amount (ExprTree.Name name))
initials_are ts f false (ExprTree.EnumName of member) = plus_none (value_amount (ExprTree.EnumName of member))
initials_are ts f false (ExprTree.Group place inner) = plus_none (value_amount (ExprTree.Group place inner))
initials_are ts f false (ExprTree.Span place low high) = plus_none (value_amount (ExprTree.Span place low high))
initials_are ts f false (ExprTree.RangeCall place low high) = plus_none (value_amount (ExprTree.RangeCall place low high))
initials_are ts f false (ExprTree.Start part) = plus_none (value_amount (ExprTree.Start part))

-- ---- conditions

sum_append : {X : Type 0} (f : X → Amount) (xs ys : List X) → sum_of f (xs ++ ys) ≡ plus (sum_of f xs) (sum_of f ys)
sum_append f xs ys = λ i. record { rules = total_append (λ x. (f x).rules) xs ys i; tokens = total_append (λ x. (f x).tokens) xs ys i }

plus_turned : (a b : Amount) → plus a b ≡ plus b a
plus_turned a b = parts_are (plus a b) (plus b a) (omega arith) (omega arith)

sum_reverse : {X : Type 0} (f : X → Amount) (xs : List X) → sum_of f (reverse xs) ≡ sum_of f xs
sum_reverse f [] = refl
sum_reverse f (x ∷ xs) =
    ap (sum_of f) (reverse-append (x ∷ []) xs) ∙ sum_append f (reverse xs) (x ∷ []) ∙ plus_turned (sum_of f (reverse xs)) (sum_of f (x ∷ []))
    ∙ ap₂ plus (plus_none (f x)) (sum_reverse f xs)

-- constraints of what some things have
module _ {X Y : Type 0} (has : X → Option Y) (give : Y → List Given) (amount : Y → Amount) (same : (y : Y) → amount_of (give y) ≡ amount y) where
  abbrev amount_had : X → Amount
  amount_had x = option_map_or amount (has x) no_amount

  amount_some : (xs : List X) → amount_of (flat_map give (filter_map has xs)) ≡ sum_of amount_had xs
  amount_some [] = refl
  amount_some (x ∷ xs) = by (has x) (amount_some xs)
    where
      by : (o : Option Y) → amount_of (flat_map give (filter_map has xs)) ≡ sum_of amount_had xs → amount_of (flat_map give (cons_option o (filter_map has xs))) ≡ plus (option_map_or amount o no_amount) (sum_of amount_had xs)
      by None h = h ∙ sym (plus_turned no_amount (sum_of amount_had xs) ∙ plus_none (sum_of amount_had xs))
      by (Some y) h = amount_append (give y) (flat_map give (filter_map has xs)) ∙ ap₂ plus (same y) h

heir_is : (ts : Types) (f : FieldHere) (place : Place) (t : ℕ) (c : HeirCondition)
    → amount_of (map (given_condition ts f place c) (option_to_list (field ts t c.field.text))) ≡ heir_amount ts t c
heir_is ts f place t c = by (field ts t c.field.text)
  where
    by : (o : Option Field) → amount_of (map (given_condition ts f place c) (option_to_list o)) ≡ cond (is_some o) (record { rules = 1; tokens = 2 + value_tokens c.value }) no_amount
    by None = refl
    by (Some g) = plus_none (record { rules = 1; tokens = 2 + value_tokens c.value })

conditions_are : (ts : Types) (f : FieldHere) (place : Place) (t : ℕ) → amount_of (given_conditions ts f place t) ≡ type_amount ts t
conditions_are ts f place t =
    amount_some (heir_condition ts.bodies) (λ c. map (given_condition ts f place c) (option_to_list (field ts t c.field.text))) (heir_amount ts t) (heir_is ts f place t) (reverse (t ∷ bases ts.table.heads t))
    ∙ sum_reverse (base_amount ts t) (t ∷ bases ts.table.heads t)

-- ---- fields and members

of_option : {X : Type 0} (give : X → List Given) (amount : X → Amount) → ((x : X) → amount_of (give x) ≡ amount x) → (o : Option X)
    → amount_of (flat_map give (option_to_list o)) ≡ option_map_or amount o no_amount
of_option give amount same None = refl
of_option give amount same (Some x) = amount_append (give x) [] ∙ plus_none (amount_of (give x)) ∙ same x

is_listed : (o : Option Place) → option_map_or (λ (place : Place). true) o false ≡ is_some o
is_listed None = refl
is_listed (Some place) = refl

pub field_is : (ts : Types) (object : Path) (t : ℕ) (f : Field) → amount_of (given_field ts object t f) ≡ field_amount ts f.tree
field_is ts object t f =
    let h : FieldHere = field_here ts object t f in
    let conds : List Given = flat_map (given_conditions ts h f.tree.of.place) (option_to_list (field_type ts f)) in
    let rules : List Given = map (given_rule ts h.here object h.under) f.tree.rules in
    let initials : List Given = flat_map (given_initials ts h (option_map_or (λ (place : Place). true) f.tree.list false)) (option_to_list f.tree.initial) in
    amount_append (conds ++ rules) initials ∙ ap (λ a. plus a (amount_of initials)) (amount_append conds rules)
    ∙ plus_grouped (amount_of conds) (amount_of rules) (amount_of initials)
    ∙ ap₂ plus (of_option (given_conditions ts h f.tree.of.place) (type_amount ts) (conditions_are ts h f.tree.of.place) (field_type ts f))
    (ap₂ plus (amount_one (given_rule ts h.here object h.under) rule_amount (rule_is ts h.here object h.under) f.tree.rules)
    (of_option (given_initials ts h (option_map_or (λ (place : Place). true) f.tree.list false)) (initial_amount (option_map_or (λ (place : Place). true) f.tree.list false)) (initials_are ts h (option_map_or (λ (place : Place). true) f.tree.list false)) f.tree.initial))
    ∙ ap (λ b. plus (option_map_or (type_amount ts) (field_type ts f) no_amount) (plus (sum_of rule_amount f.tree.rules) (option_map_or (initial_amount b) f.tree.initial no_amount))) (is_listed f.tree.list)

names_are : (ts : Types) (object : Path) (t : ℕ) (m : Member) (f : FieldTree) (names : List Ident)
    → amount_of (flat_map (given_field ts object t) (map (λ (i : Ident). record { name = i; tree = f; holder = m.holder; under = m.under }) names)) ≡ times_amount (length names) (field_amount ts f)
names_are ts object t m f [] = parts_are no_amount (times_amount 0 (field_amount ts f)) (omega arith) (omega arith)
names_are ts object t m f (i ∷ names) =
    let here : Field = record { name = i; tree = f; holder = m.holder; under = m.under } in
    amount_append (given_field ts object t here) (flat_map (given_field ts object t) (map (λ (j : Ident). record { name = j; tree = f; holder = m.holder; under = m.under }) names))
    ∙ ap₂ plus (field_is ts object t here) (names_are ts object t m f names)
    ∙ parts_are (plus (field_amount ts f) (times_amount (length names) (field_amount ts f))) (times_amount (suc (length names)) (field_amount ts f)) (omega arith) (omega arith)

pub member_is : (ts : Types) (object : Path) (t : ℕ) (m : Member) (tree : MemberTree) → amount_of (given_member ts object t m tree) ≡ member_amount ts tree
member_is ts object t m (MemberTree.Field f) = names_are ts object t m f f.names
member_is ts object t m (MemberTree.Rule r) = rule_is ts _ object _ r
member_is ts object t m (MemberTree.Do place phase) = refl

-- the own constraints of an object
pub own_are : (ts : Types) (object : Path) (t : ℕ) → amount_of (own_givens ts object t) ≡ sum_of (λ (m : Member). member_amount ts m.written.member) (members ts t)
own_are ts object t = amount_each (λ (m : Member). given_member ts object t m m.written.member) (λ (m : Member). member_amount ts m.written.member) (λ m. member_is ts object t m m.written.member) (members ts t)

-- with some steps left
pub own_some : (steps : ℕ) (ts : Types) (object : Path) (t : ℕ) → 0 < steps → sum_of (λ (m : Member). member_amount ts m.written.member) (members ts t) ≡ amount_of (own_within steps ts object t)
own_some zero ts object t h = absurd (omega (arith, h))
own_some (suc steps) ts object t h = sym (own_are ts object t)
