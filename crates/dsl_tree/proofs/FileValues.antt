-- The program's rules, phases, declarations and files, and their trees: each is read back from the other.
use Rattle.std.proofs.Common.{◌≡◌, List, [], ◌∷◌, true, Option, Some, None, option_map, map, refl, sym, ◌∙◌, ap, ap₂, subst, ◌&&◌, arith}
use Rattle.std.proofs.lemmas.Bool.{false≢true}
use Rattle.osc_base.specs.declared.fault.Place.{Place}
use Rattle.dsl_tree.specs.declared.parts.Ident.{Ident}
use Rattle.dsl_tree.specs.declared.parts.QName.{QName}
use Rattle.dsl_tree.specs.declared.token.MarkKind.{MarkKind}
use Rattle.dsl_tree.specs.declared.expr.Expr.{Expr}
use Rattle.dsl_tree.specs.declared.expr.Suffix.{Suffix}
use Rattle.dsl_tree.specs.declared.rules.RuleDecl.{RuleDecl}
use Rattle.dsl_tree.specs.declared.rules.PathHead.{PathHead}
use Rattle.dsl_tree.specs.declared.rules.PathNode.{PathNode}
use Rattle.dsl_tree.specs.declared.phases.Argument.{Argument}
use Rattle.dsl_tree.specs.declared.phases.ModifierNode.{ModifierNode}
use Rattle.dsl_tree.specs.declared.phases.InvokePart.{InvokePart}
use Rattle.dsl_tree.specs.declared.phases.InvokeHead.{InvokeHead}
use Rattle.dsl_tree.specs.declared.phases.CompNode.{CompNode}
use Rattle.dsl_tree.specs.declared.phases.CompKind.{CompKind}
use Rattle.dsl_tree.specs.declared.phases.Phase.{Phase}
use Rattle.dsl_tree.specs.declared.phases.Phase.TheOpen.{Phase-F, CompNode-F}
use Rattle.dsl_tree.specs.declared.phases.Phase.TheFolds.{fold-roll-Phase, fold-roll-CompNode, ind-Phase, map-Phase, map-CompNode}
use Rattle.dsl_tree.specs.declared.phases.Phase.TheViews
use Rattle.dsl_tree.specs.declared.phases.Phase.TheViews.{roll-Phase, roll-CompNode}
use Rattle.dsl_tree.specs.declared.compounds.FieldDecl.{FieldDecl}
use Rattle.dsl_tree.specs.declared.compounds.Member.{Member}
use Rattle.dsl_tree.specs.declared.compounds.CompoundKind.{CompoundKind}
use Rattle.dsl_tree.specs.declared.compounds.CompoundDecl.{CompoundDecl}
use Rattle.dsl_tree.specs.declared.modifiers.ModifierPart.{ModifierPart}
use Rattle.dsl_tree.specs.declared.modifiers.ModifierDecl.{ModifierDecl}
use Rattle.dsl_tree.specs.declared.file.Declaration.{Declaration}
use Rattle.dsl_tree.specs.declared.file.File.{File}
use Rattle.dsl_tree.specs.ExprTree.{ExprTree}
use Rattle.dsl_tree.specs.PhaseTree.{RuleTree, ArgumentTree, ModifierTree, PartTree, PhaseTree, PhaseRow, row_of}
use Rattle.dsl_tree.specs.FileTree.{FieldTree, MemberTree, CompoundTree, DeclarationTree, ModifierPartTree, ModifierDeclTree, FileTree}
use Rattle.dsl_tree.specs.Forest.{Forest, nil, sub, wrong}
use Rattle.dsl_tree.specs.Written as Written
use Rattle.dsl_tree.specs.Written.{expr, path, path_front, next_name, next_index}
use Rattle.dsl_tree.specs.WrittenPhases.{by_option, keep_kind, rule, rules_tail, named_argument, named_tail, arguments_tail, arguments, dotted_names, invocation_arguments, invocation_part, parts_tail, invocation_end, invocation_rest, composition_arguments, composition, wait, phase, block_phases, phases_tail}
use Rattle.dsl_tree.specs.WrittenFile.{imports, initial, field_end, field_type, names_tail, field, member, members_tail, block, body, heading_rest, optional_heir, qualified_name, compound_heading, declaration, declarations, modifier_part, modifier_parts_tail, modifier_block, modifier_declaration, modifiers, file}
use Rattle.dsl_tree.specs.Views as Views
use Rattle.dsl_tree.specs.Views.{SuffixTree, Named, At, with_suffixes, expr_tree, suffix_tree, head_tree, path_tree, rule_tree, argument_tree, modifier_tree, part_tree, phase_tree, comp_tree, field_tree, member_tree, compound_tree, declaration_tree, modifier_part_tree, modifier_decl_tree, file_tree}
use Rattle.dsl_tree.proofs.Tests.{is_whole, left_of, right_of}
use Rattle.dsl_tree.proofs.WholeForests.{path_head_whole, front_whole, head_whole, label_whole}
use Rattle.dsl_tree.proofs.WrittenRows.{suffix_tail, front_of_row, path_of_row}
use Rattle.dsl_tree.proofs.Seen.{seen_dot_suffix}
use Rattle.dsl_tree.proofs.SeenPhases.{seen_comp, seen_invoke, seen_wait}
use Rattle.dsl_tree.proofs.Values.{Such, value_of, suffix_value, suffix_whole, suffix_parts, suffix_back, expr_back, expr_tree_back, index_seen}

-- Lists

-- nothing breaks the grammar in what a tree is written as
abbrev Whole : {T : Type 0} → (T → Forest) → T → Type 0
Whole form t = is_whole (form t) ≡ true

-- all of a list
abbrev Each : {T : Type 0} → (T → Type 0) → List T → Type 0
Each Good [] = Unit {0}
Each Good (t ∷ ts) = Good t × Each Good ts

-- values and trees of a row are read back if each of them is
values_back : {V T : Type 0} (Good : T → Type 0) (tree : V → T) (value : T → V) → ((v : V) → Good (tree v) → value (tree v) ≡ v) → (vs : List V) → Each Good (map tree vs) → map value (map tree vs) ≡ vs
values_back Good tree value back [] h = refl
values_back Good tree value back (v ∷ vs) (h, h') = ap₂ ◌∷◌ (back v h) (values_back Good tree value back vs h')

trees_back : {V T : Type 0} (Good : T → Type 0) (tree : V → T) (value : T → V) → ((t : T) → Good t → tree (value t) ≡ t) → (ts : List T) → Each Good ts → map tree (map value ts) ≡ ts
trees_back Good tree value back [] h = refl
trees_back Good tree value back (t ∷ ts) (h, h') = ap₂ ◌∷◌ (back t h) (trees_back Good tree value back ts h')

-- the items of a row, of which the first may stand before a row that is written otherwise
each_row : {T : Type 0} (item : T → Forest) (form tail : List T → Forest)
    → ((t : T) (ts : List T) → is_whole (form (t ∷ ts)) ≡ (is_whole (item t) && (is_whole (tail ts) && true)))
    → ((t : T) (ts : List T) → is_whole (tail (t ∷ ts)) ≡ (is_whole (item t) && (is_whole (tail ts) && true)))
    → (ts : List T) → Whole form ts → Each (Whole item) ts
each_row item form tail e e' [] h = tt
each_row item form tail e e' (t ∷ ts) h = let k = sym (e t ts) ∙ h in (left_of _ _ k, each_row item tail tail e' e' ts (left_of _ true (right_of _ _ k)))

-- Paths

-- the path of a tree, with what stands after it
unfoldable pub path_onto : ExprTree → List Suffix → PathNode
path_onto (ExprTree.Name name) rest = record { head = PathHead.Name name; suffixes = rest }
path_onto (ExprTree.It place) rest = record { head = PathHead.It place; suffixes = rest }
path_onto (ExprTree.Actor place) rest = record { head = PathHead.Actor place; suffixes = rest }
path_onto (ExprTree.Start head) rest = path_onto head rest
path_onto (ExprTree.Dot head name) rest = path_onto head (Suffix.Suffix::Dot name ∷ rest)
path_onto (ExprTree.Index place head index) rest = path_onto head (Suffix.Suffix::Index place (value_of index) ∷ rest)
path_onto _ rest = record { head = PathHead.It (record { file = 0; line = 0; column = 0; token = 0 }); suffixes = rest }

suffix_tree_back : (s : SuffixTree) → suffix_whole s ≡ true → suffix_tree (suffix_value s) ≡ s
suffix_tree_back (Named name) h = seen_dot_suffix name
suffix_tree_back (At place index) h = index_seen place index (value_of index) (expr_tree_back index h)

each_suffix : (ss : List SuffixTree) → Whole suffix_tail ss → Each (λ s. suffix_whole s ≡ true) ss
each_suffix [] h = tt
each_suffix (s ∷ ss) h = let both = suffix_parts s ss h in (both.0, each_suffix ss both.1)

onto_head : (h : PathHead) (rest : List Suffix) → path_onto (head_tree h) rest ≡ record { head = h; suffixes = rest }
unfolding path_onto
onto_head h rest = grind arith

-- a path is read from its head and the row behind it
onto_row : (t : ExprTree) (ss : List SuffixTree) → path_onto (with_suffixes t ss) [] ≡ path_onto t (map suffix_value ss)
unfolding path_onto
onto_row t [] = refl
onto_row t (Named name ∷ rest) = onto_row (ExprTree.Dot t name) rest
onto_row t (At place index ∷ rest) = onto_row (ExprTree.Index place t index) rest

path_back : (head : PathHead) (ss : List Suffix) → is_whole (path (Views.path_row (head_tree head) (map suffix_tree ss))) ≡ true
    → path_onto (Views.path_row (head_tree head) (map suffix_tree ss)) [] ≡ record { head = head; suffixes = ss }
unfolding path_onto
path_back head [] h = onto_head head []
path_back head (s ∷ rest) h =
    let start : ExprTree = ExprTree.Start (head_tree head) in
    let e = path_of_row start (suffix_tree s) (map suffix_tree rest) ∙ front_of_row start (map suffix_tree (s ∷ rest)) in
    let w = path_head_whole (head_tree head) (suffix_tail (map suffix_tree (s ∷ rest))) (subst (λ (f : Forest). is_whole f ≡ true) e h) in
    onto_row start (map suffix_tree (s ∷ rest)) ∙ (onto_head head (map suffix_value (map suffix_tree (s ∷ rest)))
    ∙ ap (λ (x : List Suffix). record { head = head; suffixes = x }) (values_back (λ s. suffix_whole s ≡ true) suffix_tree suffix_value suffix_back (s ∷ rest) (each_suffix (map suffix_tree (s ∷ rest)) w)))

-- a path with a suffix at least
front_tree : (t : ExprTree) (f : Forest) (s : Suffix) (rest : List Suffix) → is_whole (path_front t f) ≡ true → path_tree (path_onto t (s ∷ rest)) ≡ with_suffixes t (map suffix_tree (s ∷ rest))
unfolding path_onto
front_tree (ExprTree.Start (ExprTree.Name name)) f s rest h = refl
front_tree (ExprTree.Start (ExprTree.It place)) f s rest h = refl
front_tree (ExprTree.Start (ExprTree.Actor place)) f s rest h = refl
front_tree (ExprTree.Dot head name) f s rest h = front_tree head (next_name name f) (Suffix.Suffix::Dot name) (s ∷ rest) h
    ∙ ap (λ (x : SuffixTree). with_suffixes head (x ∷ map suffix_tree (s ∷ rest))) (seen_dot_suffix name)
front_tree (ExprTree.Index place head index) f s rest h = front_tree head (next_index place (expr index) f) (Suffix.Suffix::Index place (value_of index)) (s ∷ rest) h
    ∙ ap (λ (x : SuffixTree). with_suffixes head (x ∷ map suffix_tree (s ∷ rest))) (index_seen place index (value_of index) (expr_tree_back index (left_of _ _ (left_of _ _ (front_whole head (next_index place (expr index) f) h)))))
front_tree _ f s rest h = absurd (false≢true h)

path_tree_back : (t : ExprTree) → is_whole (path t) ≡ true → path_tree (path_onto t []) ≡ t
unfolding path_onto
path_tree_back (ExprTree.Dot head name) h = front_tree head (next_name name nil) (Suffix.Suffix::Dot name) [] h ∙ ap (λ (x : SuffixTree). with_suffixes head (x ∷ [])) (seen_dot_suffix name)
path_tree_back (ExprTree.Index place head index) h = front_tree head (next_index place (expr index) nil) (Suffix.Suffix::Index place (value_of index)) [] h
    ∙ ap (λ (x : SuffixTree). with_suffixes head (x ∷ [])) (index_seen place index (value_of index) (expr_tree_back index (left_of _ _ (left_of _ _ (front_whole head (next_index place (expr index) nil) h)))))
path_tree_back (ExprTree.Name name) h = refl
path_tree_back (ExprTree.It place) h = refl
path_tree_back (ExprTree.Actor place) h = refl
path_tree_back _ h = absurd (false≢true h)

-- Rules and arguments

abbrev pub rule_value : RuleTree → RuleDecl
rule_value (RuleTree.Keep place kind e) = RuleDecl.Keep place kind (value_of e)
rule_value (RuleTree.Remove place t) = RuleDecl.Remove place (path_onto t [])

rule_back : (r : RuleDecl) → Whole rule (rule_tree r) → rule_value (rule_tree r) ≡ r
rule_back (RuleDecl.Keep place kind e) h = ap (RuleDecl.Keep place kind) (expr_back e (left_of _ _ (right_of (is_whole (keep_kind kind)) _ h)))
rule_back (RuleDecl.Remove place n) h = ap (RuleDecl.Remove place) (path_back n.head n.suffixes (left_of _ _ h))

rule_tree_back : (r : RuleTree) → Whole rule r → rule_tree (rule_value r) ≡ r
rule_tree_back (RuleTree.Keep place kind e) h = ap (RuleTree.Keep place kind) (expr_tree_back e (left_of _ _ (right_of (is_whole (keep_kind kind)) _ h)))
rule_tree_back (RuleTree.Remove place t) h = ap (RuleTree.Remove place) (path_tree_back t (left_of _ _ h))

each_rule : (rs : List RuleTree) → Whole field_end rs → Each (Whole rule) rs
each_rule = each_row rule field_end rules_tail (λ r rs. refl) (λ r rs. refl)

abbrev pub argument_value : ArgumentTree → Argument
argument_value a = record { name = a.name; value = value_of a.value }

argument_back : (a : Argument) → Whole expr (expr_tree a.value) → argument_value (argument_tree a) ≡ a
argument_back a h = ap (λ (x : Expr). record { name = a.name; value = x }) (expr_back a.value h)

argument_tree_back : (a : ArgumentTree) → Whole expr a.value → argument_tree (argument_value a) ≡ a
argument_tree_back a h = ap (λ (x : ExprTree). record { name = a.name; value = x }) (expr_tree_back a.value h)

abbrev GoodArgument : ArgumentTree → Type 0
GoodArgument a = Whole expr a.value

abbrev EachArgument : List ArgumentTree → Type 0
EachArgument = Each GoodArgument

pub named_parts : (name : Option Ident) (value : ExprTree) (rest : Forest) → is_whole (by_option name wrong (λ n. Written.mark MarkKind.Comma (named_argument n value rest))) ≡ true → (is_whole (expr value) ≡ true) × (is_whole rest ≡ true)
named_parts name value rest h = grind arith

each_named : (args : List ArgumentTree) → Whole named_tail args → EachArgument args
each_named [] h = tt
each_named (a ∷ others) h = let both = named_parts a.name a.value (named_tail others) h in (both.0, each_named others both.1)

each_argument : (args : List ArgumentTree) → Whole arguments args → EachArgument args
each_argument [] h = tt
each_argument (a ∷ others) h = parts a.name a.value others (each_argument others) h
  where
    tail : (args : List ArgumentTree) → (Whole arguments args → EachArgument args) → is_whole (arguments_tail args (arguments args)) ≡ true → EachArgument args
    tail [] each h = tt
    tail (a ∷ others) each h = each (left_of _ _ h)

    parts : (name : Option Ident) (value : ExprTree) (others : List ArgumentTree) → (Whole arguments others → EachArgument others)
        → is_whole (by_option name (sub (expr value) (sub (arguments_tail others (arguments others)) nil)) (λ n. named_argument n value (named_tail others))) ≡ true
        → (Whole expr value) × EachArgument others
    parts None value others each h = (left_of _ _ h, tail others each (left_of _ _ (right_of (is_whole (expr value)) _ h)))
    parts (Some n) value others each h = (left_of _ _ h, each_named others (left_of _ _ (right_of (is_whole (expr value)) _ h)))

each_invoked : (args : List ArgumentTree) → Whole invocation_arguments args → EachArgument args
each_invoked [] h = tt
each_invoked (a ∷ others) h = each_argument (a ∷ others) (left_of _ _ h)

each_composed : (args : List ArgumentTree) → Whole composition_arguments args → EachArgument args
each_composed [] h = tt
each_composed (a ∷ others) h = each_argument (a ∷ others) (left_of _ _ h)

-- Phases

abbrev pub modifier_value : ModifierTree → ModifierNode
modifier_value m = record { name = m.name; arguments = map argument_value m.arguments }

modifier_back : (m : ModifierNode) → Whole invocation_arguments (map argument_tree m.arguments) → modifier_value (modifier_tree m) ≡ m
modifier_back m h = ap (λ (x : List Argument). record { name = m.name; arguments = x }) (values_back GoodArgument argument_tree argument_value argument_back m.arguments (each_invoked (map argument_tree m.arguments) h))

modifier_tree_back : (m : ModifierTree) → Whole invocation_arguments m.arguments → modifier_tree (modifier_value m) ≡ m
modifier_tree_back m h = ap (λ (x : List ArgumentTree). record { name = m.name; arguments = x }) (trees_back GoodArgument argument_tree argument_value argument_tree_back m.arguments (each_invoked m.arguments h))

abbrev pub part_value : PartTree → InvokePart
part_value (PartTree.RulePart r) = InvokePart.Rule (rule_value r)
part_value (PartTree.ModifierPart m) = InvokePart.Modifier (modifier_value m)

part_back : (p : InvokePart) → Whole invocation_part (part_tree p) → part_value (part_tree p) ≡ p
part_back (InvokePart.Rule r) h = ap InvokePart.Rule (rule_back r (left_of _ _ h))
part_back (InvokePart.Modifier m) h = ap InvokePart.Modifier (modifier_back m (left_of _ _ h))

part_tree_back : (p : PartTree) → Whole invocation_part p → part_tree (part_value p) ≡ p
part_tree_back (PartTree.RulePart r) h = ap PartTree.RulePart (rule_tree_back r (left_of _ _ h))
part_tree_back (PartTree.ModifierPart m) h = ap PartTree.ModifierPart (modifier_tree_back m (left_of _ _ h))

each_part : (ps : List PartTree) → Whole invocation_end ps → Each (Whole invocation_part) ps
each_part = each_row invocation_part invocation_end parts_tail (λ p ps. refl) (λ p ps. refl)

abbrev pub comp_of : Option Ident → Place → CompKind → List Argument → List Phase → CompNode
comp_of label place kind args members = record { label = label; place = place; kind = kind; arguments = args; members = members }

abbrev mutual
  pub phase_value : PhaseTree → Phase
  phase_value (PhaseTree.Comp label place kind args members) = TheViews.Comp (comp_of label place kind (map argument_value args) (phases_value members))
  phase_value (PhaseTree.Invoke label head names args parts) = Phase.Invoke (record { label = label; head = head; names = names; arguments = map argument_value args; parts = map part_value parts })
  phase_value (PhaseTree.Wait label place elapsed) = Phase.Wait (record { label = label; place = place; elapsed = value_of elapsed })

  pub phases_value : PhaseRow → List Phase
  phases_value PhaseRow.End = []
  phases_value (PhaseRow.Phase first others) = phase_value first ∷ phases_value others

-- the parts of a whole phase are whole

comp_parts : (label : Option Ident) (place : Place) (kind : CompKind) (args : List ArgumentTree) (members : PhaseRow) → Whole phase (PhaseTree.Comp label place kind args members)
    → (EachArgument args) × (is_whole (block_phases members) ≡ true)
comp_parts label place kind args members h =
    let w = label_whole label (composition place kind args (block_phases members)) h in
    (each_composed args (left_of _ _ (left_of _ _ w)), right_of (is_whole (composition_arguments args)) _ (left_of _ _ w))

invoke_parts : (label : Option Ident) (head : InvokeHead) (names : List Ident) (args : List ArgumentTree) (ps : List PartTree) → Whole phase (PhaseTree.Invoke label head names args ps)
    → (EachArgument args) × (Each (Whole invocation_part) ps)
invoke_parts label head names args ps h =
    let w = right_of (is_whole (dotted_names names)) _ (head_whole label head (invocation_rest names args ps) h) in
    (each_invoked args (left_of _ _ w), each_part ps (left_of _ _ (right_of (is_whole (invocation_arguments args)) _ w)))

wait_part : (label : Option Ident) (place : Place) (elapsed : ExprTree) → Whole phase (PhaseTree.Wait label place elapsed) → Whole expr elapsed
wait_part label place elapsed h = left_of _ _ (left_of _ _ (label_whole label (wait place elapsed) h))

abbrev OfPhase : Phase → Type 0
OfPhase x = is_whole (phase (phase_tree x)) ≡ true → phase_value (phase_tree x) ≡ x

abbrev OfComp : CompNode → Type 0
OfComp c = is_whole (phase (comp_tree c)) ≡ true → phase_value (comp_tree c) ≡ TheViews.Comp c

tail_phases : (xs : List (Such OfPhase)) → is_whole (phases_tail (row_of (map phase_tree (map (λ x. x.0) xs)))) ≡ true → phases_value (row_of (map phase_tree (map (λ x. x.0) xs))) ≡ map (λ x. x.0) xs
tail_phases [] h = refl
tail_phases (x ∷ xs) h = ap₂ (λ (a : Phase) (b : List Phase). a ∷ b) (x.1 (left_of _ _ h)) (tail_phases xs (left_of _ _ (right_of _ _ h)))

block_back : (xs : List (Such OfPhase)) → is_whole (block_phases (row_of (map phase_tree (map (λ x. x.0) xs)))) ≡ true → phases_value (row_of (map phase_tree (map (λ x. x.0) xs))) ≡ map (λ x. x.0) xs
block_back [] h = refl
block_back (x ∷ xs) h = ap₂ (λ (a : Phase) (b : List Phase). a ∷ b) (x.1 (left_of _ _ h)) (tail_phases xs (left_of _ _ (right_of _ _ h)))

abbrev mapped_phase : Phase-F (Such OfPhase) (Such OfComp) → Phase-F Phase CompNode
mapped_phase y = map-Phase (Such OfPhase) (Such OfComp) Phase CompNode (λ x. x.0) (λ c. c.0) y

abbrev mapped_comp : CompNode-F (Such OfPhase) (Such OfComp) → CompNode-F Phase CompNode
mapped_comp y = map-CompNode (Such OfPhase) (Such OfComp) Phase CompNode (λ x. x.0) (λ c. c.0) y

-- a phase is read back from what is seen of it
by_seen : (x : Phase) (t : PhaseTree) → phase_tree x ≡ t → (Whole phase t → phase_value t ≡ x) → OfPhase x
by_seen x t e back h = ap phase_value e ∙ back (subst (Whole phase) e h)

phase_proof : (y : Phase-F (Such OfPhase) (Such OfComp)) → OfPhase (roll-Phase (mapped_phase y))
unfolding roll-Phase denote.Hole.Carrier.roll
phase_proof (Phase-F.Comp c) = by_seen (TheViews.Comp c.0) (comp_tree c.0) (fold-roll-Phase PhaseTree PhaseTree Views.phase_step Views.comp_step (Phase-F.Comp c.0)) c.1
phase_proof (Phase-F.Invoke i) = by_seen (Phase.Invoke i) _ (seen_invoke i) λ h.
    let (w, w') = invoke_parts i.label i.head i.names (map argument_tree i.arguments) (map part_tree i.parts) h in
    ap₂ (λ (a : List Argument) (b : List InvokePart). Phase.Invoke (record { label = i.label; head = i.head; names = i.names; arguments = a; parts = b }))
    (values_back GoodArgument argument_tree argument_value argument_back i.arguments w) (values_back (Whole invocation_part) part_tree part_value part_back i.parts w')
phase_proof (Phase-F.Wait w) = by_seen (Phase.Wait w) _ (seen_wait w) λ h.
    ap (λ (e : Expr). Phase.Wait (record { label = w.label; place = w.place; elapsed = e })) (expr_back w.elapsed (wait_part w.label w.place (expr_tree w.elapsed) h))

comp_proof : (y : CompNode-F (Such OfPhase) (Such OfComp)) → OfComp (roll-CompNode (mapped_comp y))
unfolding denote.Hole.Carrier.roll
comp_proof y h =
    let e = fold-roll-CompNode PhaseTree PhaseTree Views.phase_step Views.comp_step (mapped_comp y) in
    let (w, w') = comp_parts y.label y.place y.kind (map argument_tree y.arguments) (row_of (map phase_tree (map (λ x. x.0) y.members))) (subst (Whole phase) e h) in
    ap phase_value e
    ∙ ap₂ (λ (a : List Argument) (b : List Phase). TheViews.Comp (comp_of y.label y.place y.kind a b)) (values_back GoodArgument argument_tree argument_value argument_back y.arguments w) (block_back y.members w')

phase_back : (x : Phase) → OfPhase x
phase_back = ind-Phase OfPhase OfComp
    (λ x y is. subst (λ v. OfPhase (roll-Phase v)) is (phase_proof y))
    (λ x y is. subst (λ v. OfComp (roll-CompNode v)) is (comp_proof y))

mutual
  phase_tree_back : (p : PhaseTree) → Whole phase p → phase_tree (phase_value p) ≡ p
  phase_tree_back (PhaseTree.Comp label place kind args members) h =
      seen_comp (comp_of label place kind (map argument_value args) (phases_value members))
      ∙ ap₂ (PhaseTree.Comp label place kind) (trees_back GoodArgument argument_tree argument_value argument_tree_back args (comp_parts label place kind args members h).0) (block_tree_back members (comp_parts label place kind args members h).1)
  phase_tree_back (PhaseTree.Invoke label head names args ps) h =
      seen_invoke (record { label = label; head = head; names = names; arguments = map argument_value args; parts = map part_value ps })
      ∙ ap₂ (PhaseTree.Invoke label head names) (trees_back GoodArgument argument_tree argument_value argument_tree_back args (invoke_parts label head names args ps h).0) (trees_back (Whole invocation_part) part_tree part_value part_tree_back ps (invoke_parts label head names args ps h).1)
  phase_tree_back (PhaseTree.Wait label place elapsed) h =
      seen_wait (record { label = label; place = place; elapsed = value_of elapsed }) ∙ ap (PhaseTree.Wait label place) (expr_tree_back elapsed (wait_part label place elapsed h))

  block_tree_back : (ps : PhaseRow) → is_whole (block_phases ps) ≡ true → row_of (map phase_tree (phases_value ps)) ≡ ps
  block_tree_back PhaseRow.End h = absurd (false≢true h)
  block_tree_back (PhaseRow.Phase first others) h = ap₂ PhaseRow.Phase (phase_tree_back first (left_of _ _ h)) (phase_trees_back others (left_of _ _ (right_of _ _ h)))

  phase_trees_back : (ps : PhaseRow) → is_whole (phases_tail ps) ≡ true → row_of (map phase_tree (phases_value ps)) ≡ ps
  phase_trees_back PhaseRow.End h = refl
  phase_trees_back (PhaseRow.Phase first others) h = ap₂ PhaseRow.Phase (phase_tree_back first (left_of _ _ h)) (phase_trees_back others (left_of _ _ (right_of _ _ h)))

-- Members

optional_back : (e : Option Expr) → Whole initial (option_map expr_tree e) → option_map value_of (option_map expr_tree e) ≡ e
optional_back None h = refl
optional_back (Some e) h = ap Some (expr_back e (left_of _ _ h))

optional_tree_back : (e : Option ExprTree) → Whole initial e → option_map expr_tree (option_map value_of e) ≡ e
optional_tree_back None h = refl
optional_tree_back (Some e) h = ap Some (expr_tree_back e (left_of _ _ h))

abbrev pub field_value : FieldTree → FieldDecl
field_value f = record { names = f.names; list = f.list; of = f.of; initial = option_map value_of f.initial; rules = map rule_value f.rules }

field_parts : (names : List Ident) (f : FieldTree) → is_whole (field names f) ≡ true → (Whole initial f.initial) × (Each (Whole rule) f.rules)
field_parts [] f h = absurd (false≢true h)
field_parts (n ∷ ns) f h =
    let k = right_of (is_whole (field_type f.list f.of)) _ (right_of (is_whole (names_tail ns)) _ h) in (left_of _ _ k, each_rule f.rules (left_of _ _ (right_of (is_whole (initial f.initial)) _ k)))

field_back : (f : FieldDecl) → is_whole (field f.names (field_tree f)) ≡ true → field_value (field_tree f) ≡ f
field_back f h =
    let (w, w') = field_parts f.names (field_tree f) h in
    ap₂ (λ (e : Option Expr) (rs : List RuleDecl). record { names = f.names; list = f.list; of = f.of; initial = e; rules = rs }) (optional_back f.initial w) (values_back (Whole rule) rule_tree rule_value rule_back f.rules w')

field_tree_back : (f : FieldTree) → is_whole (field f.names f) ≡ true → field_tree (field_value f) ≡ f
field_tree_back f h =
    let (w, w') = field_parts f.names f h in
    ap₂ (λ (e : Option ExprTree) (rs : List RuleTree). record { names = f.names; list = f.list; of = f.of; initial = e; rules = rs }) (optional_tree_back f.initial w) (trees_back (Whole rule) rule_tree rule_value rule_tree_back f.rules w')

-- tools/write-members writes the rows
abbrev pub member_value : MemberTree → Member
member_value (MemberTree.Field f) = Member.Field (field_value f)
member_value (MemberTree.Rule r) = Member.Rule (rule_value r)
member_value (MemberTree.Do place p) = Member.Do place (phase_value p)

member_back : (m : Member) → Whole member (member_tree m) → member_value (member_tree m) ≡ m
member_back (Member.Field f) h = ap Member.Field (field_back f h)
member_back (Member.Rule r) h = ap Member.Rule (rule_back r (left_of _ _ h))
member_back (Member.Do place p) h = ap (Member.Do place) (phase_back p (left_of _ _ h))

member_tree_back : (m : MemberTree) → Whole member m → member_tree (member_value m) ≡ m
member_tree_back m h = grind (arith, field_tree_back, rule_tree_back, phase_tree_back)

each_member : (ms : List MemberTree) → Whole block ms → Each (Whole member) ms
each_member = each_row member block members_tail (λ m ms. refl) (λ m ms. refl)

each_of_body : (ms : List MemberTree) → Whole body ms → Each (Whole member) ms
each_of_body [] h = tt
each_of_body (m ∷ ms) h = each_member (m ∷ ms) (left_of _ _ h)

-- Declarations

abbrev pub compound_value : CompoundTree → CompoundDecl
compound_value c = record { place = c.place; kind = c.kind; name = c.name; heir = c.heir; members = map member_value c.members }

pub heading_whole : (kind : CompoundKind) (c : CompoundTree) → is_whole (compound_heading kind c) ≡ true → is_whole (heading_rest c) ≡ true
heading_whole kind c h = grind arith

abbrev pub declaration_value : DeclarationTree → Declaration
declaration_value (DeclarationTree.TypeDeclaration d) = Declaration.Physical d
declaration_value (DeclarationTree.UnitDeclaration d) = Declaration.Unit d
declaration_value (DeclarationTree.EnumDeclaration d) = Declaration.Enum d
declaration_value (DeclarationTree.CompoundDeclaration c) = Declaration.Compound (compound_value c)
declaration_value (DeclarationTree.MemberExtension e) = Declaration.MemberExtension (record { place = e.place; name = e.name; members = map member_value e.members })
declaration_value (DeclarationTree.EnumExtension e) = Declaration.EnumExtension e

body_whole : (c : CompoundTree) → is_whole (compound_heading c.kind c) ≡ true → Each (Whole member) c.members
body_whole c h = each_of_body c.members (left_of _ _ (right_of (is_whole (optional_heir c.heir)) _ (heading_whole c.kind c h)))

extension_whole : (name : QName) (ms : List MemberTree) (rest : Forest) → is_whole (sub (qualified_name name) (sub (sub (block ms) nil) rest)) ≡ true → Each (Whole member) ms
extension_whole name ms rest h = each_member ms (left_of _ _ (left_of _ _ (right_of (is_whole (qualified_name name)) _ h)))

declaration_back : (d : Declaration) → Whole declaration (declaration_tree d) → declaration_value (declaration_tree d) ≡ d
declaration_back (Declaration.Compound c) h =
    ap (λ (ms : List Member). Declaration.Compound (record { place = c.place; kind = c.kind; name = c.name; heir = c.heir; members = ms }))
    (values_back (Whole member) member_tree member_value member_back c.members (body_whole (compound_tree c) h))
declaration_back (Declaration.MemberExtension e) h =
    ap (λ (ms : List Member). Declaration.MemberExtension (record { place = e.place; name = e.name; members = ms }))
    (values_back (Whole member) member_tree member_value member_back e.members (extension_whole e.name (map member_tree e.members) nil h))
declaration_back _ h = refl

declaration_tree_back : (d : DeclarationTree) → Whole declaration d → declaration_tree (declaration_value d) ≡ d
declaration_tree_back (DeclarationTree.CompoundDeclaration c) h =
    ap (λ (ms : List MemberTree). DeclarationTree.CompoundDeclaration (record { place = c.place; kind = c.kind; name = c.name; heir = c.heir; members = ms }))
    (trees_back (Whole member) member_tree member_value member_tree_back c.members (body_whole c h))
declaration_tree_back (DeclarationTree.MemberExtension e) h =
    ap (λ (ms : List MemberTree). DeclarationTree.MemberExtension (record { place = e.place; name = e.name; members = ms }))
    (trees_back (Whole member) member_tree member_value member_tree_back e.members (extension_whole e.name e.members nil h))
declaration_tree_back _ h = refl

-- Modifiers

abbrev pub modifier_part_value : ModifierPartTree → ModifierPart
modifier_part_value (ModifierPartTree.Parameter name of) = ModifierPart.Parameter name of
modifier_part_value (ModifierPartTree.ModifierRule r) = ModifierPart.Rule (rule_value r)
modifier_part_value (ModifierPartTree.Application m) = ModifierPart.Apply (modifier_value m)

modifier_part_back : (p : ModifierPart) → Whole modifier_part (modifier_part_tree p) → modifier_part_value (modifier_part_tree p) ≡ p
modifier_part_back (ModifierPart.Parameter name of) h = refl
modifier_part_back (ModifierPart.Rule r) h = ap ModifierPart.Rule (rule_back r (left_of _ _ h))
modifier_part_back (ModifierPart.Apply m) h = ap ModifierPart.Apply (modifier_back m (left_of _ _ (left_of _ _ h)))

modifier_part_tree_back : (p : ModifierPartTree) → Whole modifier_part p → modifier_part_tree (modifier_part_value p) ≡ p
modifier_part_tree_back (ModifierPartTree.Parameter name of) h = refl
modifier_part_tree_back (ModifierPartTree.ModifierRule r) h = ap ModifierPartTree.ModifierRule (rule_tree_back r (left_of _ _ h))
modifier_part_tree_back (ModifierPartTree.Application m) h = ap ModifierPartTree.Application (modifier_tree_back m (left_of _ _ (left_of _ _ h)))

each_modifier_part : (ps : List ModifierPartTree) → Whole modifier_block ps → Each (Whole modifier_part) ps
each_modifier_part = each_row modifier_part modifier_block modifier_parts_tail (λ p ps. refl) (λ p ps. refl)

abbrev pub modifier_decl_value : ModifierDeclTree → ModifierDecl
modifier_decl_value d = record { place = d.place; name = d.name; parts = map modifier_part_value d.parts }

modifier_decl_back : (d : ModifierDecl) → Whole modifier_declaration (modifier_decl_tree d) → modifier_decl_value (modifier_decl_tree d) ≡ d
modifier_decl_back d h =
    ap (λ (ps : List ModifierPart). record { place = d.place; name = d.name; parts = ps })
    (values_back (Whole modifier_part) modifier_part_tree modifier_part_value modifier_part_back d.parts (each_modifier_part (map modifier_part_tree d.parts) h))

modifier_decl_tree_back : (d : ModifierDeclTree) → Whole modifier_declaration d → modifier_decl_tree (modifier_decl_value d) ≡ d
modifier_decl_tree_back d h =
    ap (λ (ps : List ModifierPartTree). record { place = d.place; name = d.name; parts = ps })
    (trees_back (Whole modifier_part) modifier_part_tree modifier_part_value modifier_part_tree_back d.parts (each_modifier_part d.parts h))

-- Files

each_modifier : (t : FileTree) → is_whole (file t) ≡ true → Each (Whole modifier_declaration) t.modifiers
each_modifier t h = each_row modifier_declaration modifiers modifiers (λ d ds. refl) (λ d ds. refl) t.modifiers (left_of _ _ (right_of (is_whole (imports t.imports)) _ h))

each_declaration : (t : FileTree) → is_whole (file t) ≡ true → Each (Whole declaration) t.decls
each_declaration t h =
    each_row declaration declarations declarations (λ d ds. refl) (λ d ds. refl) t.decls
    (left_of _ _ (right_of (is_whole (modifiers t.modifiers)) _ (right_of (is_whole (imports t.imports)) _ h)))

unfoldable pub file_value : FileTree → File
file_value f = record { imports = f.imports; modifiers = map modifier_decl_value f.modifiers; decls = map declaration_value f.decls; end = f.end }

pub file_back_value : (f : File) → is_whole (file (file_tree f)) ≡ true → file_value (file_tree f) ≡ f
unfolding file_value
file_back_value f h =
    ap₂ (λ (ms : List ModifierDecl) (ds : List Declaration). record { imports = f.imports; modifiers = ms; decls = ds; end = f.end })
    (values_back (Whole modifier_declaration) modifier_decl_tree modifier_decl_value modifier_decl_back f.modifiers (each_modifier (file_tree f) h))
    (values_back (Whole declaration) declaration_tree declaration_value declaration_back f.decls (each_declaration (file_tree f) h))

pub file_tree_back : (t : FileTree) → is_whole (file t) ≡ true → file_tree (file_value t) ≡ t
unfolding file_value
file_tree_back t h =
    ap₂ (λ (ms : List ModifierDeclTree) (ds : List DeclarationTree). record { imports = t.imports; modifiers = ms; decls = ds; end = t.end })
    (trees_back (Whole modifier_declaration) modifier_decl_tree modifier_decl_value modifier_decl_tree_back t.modifiers (each_modifier t h))
    (trees_back (Whole declaration) declaration_tree declaration_value declaration_tree_back t.decls (each_declaration t h))
