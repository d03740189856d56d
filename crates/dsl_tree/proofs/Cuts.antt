-- Trees and the rows of the rules that they are made from, both ways.
use Rattle.std.proofs.Common.{◌≡◌, ℕ, suc, ◌-◌, ◌≤◌, List, [], ◌∷◌, Bool, true, false, cond, Option, Some, None, inl, inr, refl, ap, arith, sym}
use Rattle.std.specs.Prelude.{nat_lt}
use Rattle.std.proofs.lemmas.Bool.{false≢true, ltb-false}
use Rattle.osc_base.specs.declared.fault.Place.{Place}
use Rattle.dsl_tree.specs.declared.parts.Ident.{Ident}
use Rattle.dsl_tree.specs.declared.parts.Digits.{Digits}
use Rattle.dsl_tree.specs.declared.parts.Signed.{Signed}
use Rattle.dsl_tree.specs.declared.expr.Operator.{Operator}
use Rattle.dsl_tree.specs.declared.expr.RelationSign.{RelationSign}
use Rattle.dsl_tree.specs.declared.expr.RelationSign.TheVariants.{Below}
use Rattle.dsl_tree.specs.declared.rules.KeepKind.{KeepKind}
use Rattle.dsl_tree.specs.declared.phases.CompKind.{CompKind}
use Rattle.dsl_tree.specs.declared.phases.InvokeHead.{InvokeHead}
use Rattle.dsl_tree.specs.declared.compounds.ConditionValue.{ConditionValue}
use Rattle.dsl_tree.specs.declared.compounds.CompoundKind.{CompoundKind}
use Rattle.dsl_tree.specs.declared.compounds.Heir.{Heir}
use Rattle.dsl_tree.specs.declared.file.Import.{Import}
use Rattle.dsl_tree.specs.declared.token.MarkKind.{MarkKind}
use Rattle.dsl_tree.specs.declared.units.BasePart.{BasePart}
use Rattle.dsl_tree.specs.ExprTree.{ExprTree, Implies, Not, Relation, Minus, Dot, Index, Number, Physical, Chars, Truth, It, Actor, Name, EnumName, Group, Span, Listed, RangeCall, Start, ExprRow, Or, And, Sum, Product}
use Rattle.dsl_tree.specs.PhaseTree.{Keep, Remove, ArgumentTree, RulePart, ModifierPart, Comp, Invoke, Wait, PhaseRow}
use Rattle.dsl_tree.specs.FileTree.{Field, Rule, Do, MemberTree, DeclarationTree, TypeDeclaration, UnitDeclaration, EnumDeclaration, CompoundDeclaration, MemberExtension, EnumExtension, Parameter, ModifierRule, Application}
use Rattle.dsl_tree.specs.Views.{FurtherTree, SuffixTree, Named, At, grouped, with_suffixes, path_row}
use Rattle.dsl_tree.specs.Grammar.{Part, rules}
use Rattle.dsl_tree.specs.Forest.{Forest, nil, sub, wrong, IsOf}
use Rattle.dsl_tree.specs.Written.{mark, ident, digits, level, lifted, raised, written, path, mark_at, or_row, and_row, sum_row, product_row, post_row, path_front}
use Rattle.dsl_tree.specs.WrittenFile.{same_place, signed, qualified_name}
use Rattle.dsl_tree.proofs.Tests.{is_whole, right_of, is_not}
use Rattle.dsl_tree.proofs.WrittenRows.{at_lower, suffix_tail, or_written, and_written, sum_written, product_written, post_written, path_written, further_tail}
use Rattle.dsl_tree.proofs.PartTrees.{Made, Choice, choice_forest, is_only, OfType, With, Another, Factor, Offset, MoreItems, MoreMembers, Invoked, InOrder, Pause, Labelled, Unlabelled, High, Items, at_level, dash, Tree, forest_of}
use Rattle.dsl_tree.proofs.WholeForests.{whole_lifted}

-- names and numbers, and what their tokens hold
abbrev pub named : Place × List ℕ → Ident
named t = record { place = t.0; text = t.1 }

abbrev pub counted : Place × (ℕ × ℕ) → Digits
counted t = record { place = t.0; digits = t.1.0; places = t.1.1 }

abbrev held : Ident → Place × List ℕ
held name = (name.place, name.text)

abbrev digits_held : Digits → Place × (ℕ × ℕ)
digits_held number = (number.place, (number.digits, number.places))

abbrev pub further : Place → Operator → ExprTree → FurtherTree
further place operator part = record { place = place; operator = operator; part = part }

abbrev pub argument : Option Ident → ExprTree → ArgumentTree
argument name value = record { name = name; value = value }

abbrev pub compound : Place → CompoundKind → Ident → Option Ident → Option Heir → List MemberTree → DeclarationTree
compound place kind first second heir members = CompoundDeclaration (record { place = place; kind = kind; name = record { first = first; second = second }; heir = heir; members = members })

-- Signs

abbrev pub signed_of : Option Place → Digits → Signed
signed_of None number = record { place = number.place; minus = false; number = number }
signed_of (Some place) number = record { place = place; minus = true; number = number }

same_place_refl : (p : Place) → same_place p p ≡ true
same_place_refl p = grind arith

pub signed_written : (sign : Option Place) (number : Digits) → signed (signed_of sign number) ≡ sub (dash sign) (digits number nil)
signed_written None number = ap (λ (b : Bool). cond b (sub nil (digits number nil)) wrong) (same_place_refl number.place)
signed_written (Some place) number = refl

same_place_true : (p q : Place) → same_place p q ≡ true → p ≡ q
same_place_true p q h =
    let file : p.file ≡ q.file = grind arith in
    let line : p.line ≡ q.line = grind arith in
    let column : p.column ≡ q.column = grind arith in
    let token : p.token ≡ q.token = grind arith in
    λ i. record { file = file i; line = line i; column = column i; token = token i }

signed_cut : (s : Signed) → is_whole (signed s) ≡ true → (sign : Option Place) × (signed_of sign s.number ≡ s)
signed_cut s = go s.minus (same_place s.place s.number.place) refl refl
  where
    go : (m e : Bool) → m ≡ s.minus → same_place s.place s.number.place ≡ e
        → is_whole (cond m (sub (mark_at s.place MarkKind.Dash nil) (digits s.number nil)) (cond e (sub nil (digits s.number nil)) wrong)) ≡ true → (sign : Option Place) × (signed_of sign s.number ≡ s)
    go true e minus same w = (Some s.place, λ i. record { place = s.place; minus = minus i; number = s.number })
    go false true minus same w = let place = same_place_true s.place s.number.place same in (None, sym (λ i. record { place = place i; minus = sym minus i; number = s.number }))
    go false false minus same w = absurd (false≢true w)

dash_whole : (sign : Option Place) → is_whole (sub (dash sign) nil) ≡ true
dash_whole None = refl
dash_whole (Some place) = refl

-- Rows to trees

-- a tree of a higher level, when nothing stands after it
pub lower : (l : ℕ) (t : ExprTree) → is_whole (lifted l (at_level (suc l) t)) ≡ true → at_level l t ≡ lifted l (at_level (suc l) t)
lower l t = go (nat_lt (level t) (suc l)) refl
  where
    go : (b : Bool) → nat_lt (level t) (suc l) ≡ b → is_whole (lifted l (cond b wrong (raised (level t - suc l) (suc l) (written t)))) ≡ true → at_level l t ≡ lifted l (at_level (suc l) t)
    go true e w = absurd (false≢true (whole_lifted l wrong w))
    go false e w = let high : suc l ≤ level t = ltb-false (level t) (suc l) e in at_lower l t (written t) high

-- the tree that is made from a row
abbrev pub makes : (p : Part) (choice : Choice (rules p)) → Made p (choice_forest (rules p) choice)
makes Part.File (is, (ms, (ds, (end, u)))) = (record { imports = is; modifiers = ms; decls = ds; end = end.0 }, λ h. refl)
makes Part.Imports (inl u) = ([], λ h. refl)
makes Part.Imports (inr (i, (is, u))) = (i ∷ is, λ h. refl)
makes Part.Import (word, (i, u)) = (i, λ h. refl)
makes Part.ImportRest (inl (text, u)) = (Import.Named text.0 text.1, λ h. refl)
makes Part.ImportRest (inr (name, (names, u))) = (Import.Dotted (named name ∷ names), λ h. refl)
makes Part.DottedNames (inl u) = ([], λ h. refl)
makes Part.DottedNames (inr (dot, (name, (rest, u)))) = (named name ∷ rest, λ h. refl)
makes Part.Modifiers (inl u) = ([], λ h. refl)
makes Part.Modifiers (inr (d, (ds, u))) = (d ∷ ds, λ h. refl)
makes Part.ModifierDeclaration (word, (name, (colon, (line, (wider, (p, (ps, u))))))) =
    (record { place = word.0; name = named name; parts = p ∷ ps }, λ h. refl)
makes Part.ModifierPart (inl (name, (OfType of, u))) = (Parameter (named name) of, λ h. refl)
makes Part.ModifierPart (inl (name, (With args, u))) = (Application (record { name = named name; arguments = args }), λ h. refl)
makes Part.ModifierPart (inr (r, u)) = (ModifierRule r, λ h. refl)
makes Part.NamedPart (inl (colon, (of, u))) = (OfType (named of), λ h. refl)
makes Part.NamedPart (inr (opens, (args, u))) = (With args, λ h. refl)
makes Part.ModifierPartsTail (inl u) = ([], λ h. refl)
makes Part.ModifierPartsTail (inr (p, (ps, u))) = (p ∷ ps, λ h. refl)
makes Part.Declarations (inl u) = ([], λ h. refl)
makes Part.Declarations (inr (d, (ds, u))) = (d ∷ ds, λ h. refl)
makes Part.Declaration (inl (word, (name, (is_word, (si, (opens, (b, (rest, u)))))))) =
    (TypeDeclaration (record { place = word.0; name = named name; bases = b ∷ rest }), λ h. refl)
makes Part.Declaration (inr (inl (word, (name, (of_word, (of, (is_word, (si, (opens, (b, (rest, u))))))))))) =
    (UnitDeclaration (record { place = word.0; name = named name; of = named of; bases = b ∷ rest.0; factor = rest.1; offset = rest.2 }), λ h. refl)
makes Part.Declaration (inr (inr (inl (word, (name, (colon, (items, u))))))) =
    (EnumDeclaration (record { place = word.0; name = named name; items = items.0 ∷ items.1 }), λ h. refl)
makes Part.Declaration (inr (inr (inr (inl ((place, inl v), (name, (heir, (body, u)))))))) = (compound place CompoundKind.Struct (named name) None heir body, λ h. refl)
makes Part.Declaration (inr (inr (inr (inl ((place, inr v), (name, (heir, (body, u)))))))) = (compound place CompoundKind.Actor (named name) None heir body, λ h. refl)
makes Part.Declaration (inr (inr (inr (inr (inl ((place, inl v), (name, (heir, (body, u))))))))) = (compound place CompoundKind.Action name.first name.second heir body, λ h. refl)
makes Part.Declaration (inr (inr (inr (inr (inl ((place, inr v), (name, (heir, (body, u))))))))) = (compound place CompoundKind.Scenario name.first name.second heir body, λ h. refl)
makes Part.Declaration (inr (inr (inr (inr (inr (word, (name, (colon, (MoreItems items, u))))))))) =
    (EnumExtension (record { place = word.0; name = name; items = items.0 ∷ items.1 }), λ h. refl)
makes Part.Declaration (inr (inr (inr (inr (inr (word, (name, (colon, (MoreMembers members, u))))))))) =
    (MemberExtension (record { place = word.0; name = name; members = members.0 ∷ members.1 }), λ h. refl)
makes Part.BasesTail (inl u) = ([], λ h. refl)
makes Part.BasesTail (inr (comma, (b, (rest, u)))) = (b ∷ rest, λ h. refl)
makes Part.UnitTail (inl row) = (([], None, None), λ h. refl)
makes Part.UnitTail (inr (comma, (Another b rest, u))) = ((b ∷ rest.0, rest.1, rest.2), λ h. refl)
makes Part.UnitTail (inr (comma, (Factor factor offset, u))) = (([], Some factor, offset), λ h. refl)
makes Part.UnitTail (inr (comma, (Offset offset, u))) = (([], None, Some offset), λ h. refl)
makes Part.UnitMore (inl (b, (rest, u))) = (Another b rest, λ h. refl)
makes Part.UnitMore (inr (inl (name, (colon, (factor, (offset, u)))))) = (Factor factor offset, λ h. refl)
makes Part.UnitMore (inr (inr (name, (colon, (offset, u))))) = (Offset offset, λ h. refl)
makes Part.FactorTail (inl row) = (None, λ h. refl)
makes Part.FactorTail (inr (comma, (name, (colon, (offset, u))))) = (Some offset, λ h. refl)
makes Part.Base (name, (colon, (sign, (number, u)))) =
    (record { name = named name; exponent = signed_of sign (counted number) }, λ h. ap (λ (f : Forest). ident (named name) (mark MarkKind.Colon f)) (signed_written sign (counted number)))
makes Part.OptionalDash (inl u) = (None, λ h. refl)
makes Part.OptionalDash (inr (sign, u)) = (Some sign.0, λ h. refl)
makes Part.Signed (sign, (number, u)) = (signed_of sign (counted number), λ h. signed_written sign (counted number))
makes Part.EnumItems (opens, (i, (rest, u))) = ((i, rest), λ h. refl)
makes Part.EnumItem (name, (number, u)) = (record { name = named name; number = number }, λ h. refl)
makes Part.ItemNumber (inl u) = (None, λ h. refl)
makes Part.ItemNumber (inr (assign, (number, u))) = (Some (counted number), λ h. refl)
makes Part.ItemsTail (inl u) = ([], λ h. refl)
makes Part.ItemsTail (inr (comma, (i, (rest, u)))) = (i ∷ rest, λ h. refl)
makes Part.QualifiedName (name, (second, u)) = (record { first = named name; second = second }, λ h. refl)
makes Part.SecondName (inl u) = (None, λ h. refl)
makes Part.SecondName (inr (dot, (name, u))) = (Some (named name), λ h. refl)
makes Part.OptionalHeir (inl u) = (None, λ h. refl)
makes Part.OptionalHeir (inr (word, (base, (condition, u)))) = (Some (record { base = base; condition = condition }), λ h. refl)
makes Part.HeirCondition (inl u) = (None, λ h. refl)
makes Part.HeirCondition (inr (opens, (field, (equal, (value, u))))) = (Some (record { field = named field; value = value }), λ h. refl)
makes Part.ConditionValue (inl ((place, inl v), u)) = (ConditionValue.Truth place true, λ h. refl)
makes Part.ConditionValue (inl ((place, inr v), u)) = (ConditionValue.Truth place false, λ h. refl)
makes Part.ConditionValue (inr (name, (None, u))) = (ConditionValue.Name (named name), λ h. refl)
makes Part.ConditionValue (inr (name, (Some member, u))) = (ConditionValue.EnumName (named name) member, λ h. refl)
makes Part.EnumMember (inl u) = (None, λ h. refl)
makes Part.EnumMember (inr (bang, (name, u))) = (Some (named name), λ h. refl)
makes Part.Body (inl row) = ([], λ h. refl)
makes Part.Body (inr (colon, (ms, u))) = (ms.0 ∷ ms.1, λ h. refl)
makes Part.Block (line, (wider, (m, (ms, u)))) = ((m, ms), λ h. refl)
makes Part.ExtensionRest (inl (items, u)) = (MoreItems items, λ h. refl)
makes Part.ExtensionRest (inr (members, u)) = (MoreMembers members, λ h. refl)
makes Part.MembersTail (inl u) = ([], λ h. refl)
makes Part.MembersTail (inr (m, (ms, u))) = (m ∷ ms, λ h. refl)
makes Part.Member (inl (name, (names, (colon, (type, (initial, (end, u))))))) =
    (Field (record { names = named name ∷ names; list = type.0; of = type.1; initial = initial; rules = end }), λ h. refl)
makes Part.Member (inr (inl (r, u))) = (Rule r, λ h. refl)
makes Part.Member (inr (inr (word, (p, u)))) = (Do word.0 p, λ h. refl)
makes Part.NamesTail (inl u) = ([], λ h. refl)
makes Part.NamesTail (inr (comma, (name, (rest, u)))) = (named name ∷ rest, λ h. refl)
makes Part.FieldType (inl (name, u)) = ((None, named name), λ h. refl)
makes Part.FieldType (inr (word, (of_word, (name, u)))) = ((Some word.0, named name), λ h. refl)
makes Part.Initial (inl u) = (None, λ h. refl)
makes Part.Initial (inr (assign, (value, u))) = (Some value, λ h. refl)
makes Part.FieldEnd (inl row) = ([], λ h. refl)
makes Part.FieldEnd (inr (with_word, (colon, (line, (wider, (r, (rest, u))))))) = (r ∷ rest, λ h. refl)
makes Part.RulesTail (inl u) = ([], λ h. refl)
makes Part.RulesTail (inr (r, (rest, u))) = (r ∷ rest, λ h. refl)
makes Part.Rule (inl (word, (opens, (kind, (e, u))))) = (Keep word.0 kind e, λ h. refl)
makes Part.Rule (inr (word, (opens, (path, u)))) = (Remove word.0 path, λ h. refl)
makes Part.KeepKind (inl u) = (KeepKind.Plain, λ h. refl)
makes Part.KeepKind (inr (inl v, u)) = (KeepKind.Hard, λ h. refl)
makes Part.KeepKind (inr (inr v, u)) = (KeepKind.Default, λ h. refl)
makes Part.Path ((place, inl text), (ss, u)) = (path_row (Name (named (place, text))) ss, λ h. path_written (Name (named (place, text))) ss refl)
makes Part.Path ((place, inr (inl v)), (ss, u)) = (path_row (It place) ss, λ h. path_written (It place) ss refl)
makes Part.Path ((place, inr (inr v)), (ss, u)) = (path_row (Actor place) ss, λ h. path_written (Actor place) ss refl)
makes Part.SuffixesTail (inl u) = ([], λ h. refl)
makes Part.SuffixesTail (inr (Named name, (rest, u))) = (Named name ∷ rest, λ h. refl)
makes Part.SuffixesTail (inr (At place index, (rest, u))) = (At place index ∷ rest, λ h. refl)
makes Part.Suffix (inl (dot, (name, u))) = (Named (named name), λ h. refl)
makes Part.Suffix (inr (opens, (index, (closes, u)))) = (At opens.0 index, λ h. refl)
makes Part.Phase (inl (name, (Labelled (Invoked head rest), u))) = (Invoke (Some (named name)) head rest.0 rest.1 rest.2, λ h. refl)
makes Part.Phase (inl (name, (Labelled (InOrder c), u))) = (Comp (Some (named name)) c.0 c.1 c.2 c.3, λ h. refl)
makes Part.Phase (inl (name, (Labelled (Pause w), u))) = (Wait (Some (named name)) w.0 w.1, λ h. refl)
makes Part.Phase (inl (name, (Unlabelled rest, u))) = (Invoke None (InvokeHead.Name (named name)) rest.0 rest.1 rest.2, λ h. refl)
makes Part.Phase (inr (inl (c, u))) = (Comp None c.0 c.1 c.2 c.3, λ h. refl)
makes Part.Phase (inr (inr (inl (word, (rest, u))))) = (Invoke None (InvokeHead.Actor word.0) rest.0 rest.1 rest.2, λ h. refl)
makes Part.Phase (inr (inr (inr (w, u)))) = (Wait None w.0 w.1, λ h. refl)
makes Part.PhaseAfterName (inl (colon, (c, u))) = (Labelled c, λ h. refl)
makes Part.PhaseAfterName (inr (rest, u)) = (Unlabelled rest, λ h. refl)
makes Part.LabelledPhase (inl ((place, inl text), (rest, u))) = (Invoked (InvokeHead.Name (named (place, text))) rest, λ h. refl)
makes Part.LabelledPhase (inl ((place, inr v), (rest, u))) = (Invoked (InvokeHead.Actor place) rest, λ h. refl)
makes Part.LabelledPhase (inr (inl (c, u))) = (InOrder c, λ h. refl)
makes Part.LabelledPhase (inr (inr (w, u))) = (Pause w, λ h. refl)
makes Part.Composition ((place, inl v), (args, (colon, (line, (wider, (first, (rest, u))))))) = ((place, CompKind.Serial, args, PhaseRow.Phase first rest), λ h. refl)
makes Part.Composition ((place, inr (inl v)), (args, (colon, (line, (wider, (first, (rest, u))))))) = ((place, CompKind.Parallel, args, PhaseRow.Phase first rest), λ h. refl)
makes Part.Composition ((place, inr (inr v)), (args, (colon, (line, (wider, (first, (rest, u))))))) = ((place, CompKind.OneOf, args, PhaseRow.Phase first rest), λ h. refl)
makes Part.CompositionArguments (inl u) = ([], λ h. refl)
makes Part.CompositionArguments (inr (opens, (args, u))) = (args.0 ∷ args.1, λ h. refl)
makes Part.PhasesTail (inl u) = (PhaseRow.End, λ h. refl)
makes Part.PhasesTail (inr (first, (rest, u))) = (PhaseRow.Phase first rest, λ h. refl)
makes Part.Wait (word, (elapsed, (opens, (e, u)))) = ((word.0, e), λ h. refl)
makes Part.InvocationRest (names, (opens, (args, (end, u)))) = ((names, args, end), λ h. refl)
makes Part.InvocationArguments (inl row) = ([], λ h. refl)
makes Part.InvocationArguments (inr (args, u)) = (args.0 ∷ args.1, λ h. refl)
makes Part.InvocationEnd (inl row) = ([], λ h. refl)
makes Part.InvocationEnd (inr (with_word, (colon, (line, (wider, (p, (rest, u))))))) = (p ∷ rest, λ h. refl)
makes Part.InvocationPart (inl (r, u)) = (RulePart r, λ h. refl)
makes Part.InvocationPart (inr (name, (opens, (args, u)))) = (ModifierPart (record { name = named name; arguments = args }), λ h. refl)
makes Part.PartsTail (inl u) = ([], λ h. refl)
makes Part.PartsTail (inr (p, (rest, u))) = (p ∷ rest, λ h. refl)
makes Part.Arguments (inl (e, (rest, u))) = ((argument None e, rest), λ h. refl)
makes Part.Arguments (inr (name, (colon, (e, (rest, u))))) = ((argument (Some (named name)) e, rest), λ h. refl)
makes Part.ArgumentsTail (inl row) = ([], λ h. refl)
makes Part.ArgumentsTail (inr (comma, (more, u))) = (more.0 ∷ more.1, λ h. refl)
makes Part.NamedTail (inl row) = ([], λ h. refl)
makes Part.NamedTail (inr (comma, (name, (colon, (e, (rest, u)))))) = (argument (Some (named name)) e ∷ rest, λ h. refl)
makes Part.Expr (x, (None, u)) = (x, lower 0 x)
makes Part.Expr (x, (Some right, u)) = (Implies right.0 x right.1, λ h. refl)
makes Part.ImpliesTail (inl u) = (None, λ h. refl)
makes Part.ImpliesTail (inr (sign, (right, u))) = (Some (sign.0, right), λ h. refl)
makes Part.Or (x, ([], u)) = (x, lower 1 x)
makes Part.Or (x, (next ∷ rest, u)) = (grouped ExprTree.Or (Start x) (next ∷ rest), λ h. or_written x next rest)
makes Part.OrTail (inl u) = ([], λ h. refl)
makes Part.OrTail (inr (sign, (part, (rest, u)))) = (further sign.0 Operator.Or part ∷ rest, λ h. refl)
makes Part.And (x, ([], u)) = (x, lower 2 x)
makes Part.And (x, (next ∷ rest, u)) = (grouped ExprTree.And (Start x) (next ∷ rest), λ h. and_written x next rest)
makes Part.AndTail (inl u) = ([], λ h. refl)
makes Part.AndTail (inr (sign, (part, (rest, u)))) = (further sign.0 Operator.And part ∷ rest, λ h. refl)
makes Part.Not (inl (word, (x, u))) = (Not word.0 x, λ h. refl)
makes Part.Not (inr (x, u)) = (x, lower 3 x)
makes Part.Relation (x, (None, u)) = (x, lower 4 x)
makes Part.Relation (x, (Some right, u)) = (Relation right.0 right.1 x right.2, λ h. refl)
makes Part.RelationTail (inl u) = (None, λ h. refl)
makes Part.RelationTail (inr ((place, inl v), (right, u))) = (Some (place, RelationSign.Within, right), λ h. refl)
makes Part.RelationTail (inr ((place, inr (inl v)), (right, u))) = (Some (place, RelationSign.Equal, right), λ h. refl)
makes Part.RelationTail (inr ((place, inr (inr (inl v))), (right, u))) = (Some (place, RelationSign.Differ, right), λ h. refl)
makes Part.RelationTail (inr ((place, inr (inr (inr (inl v)))), (right, u))) = (Some (place, Below, right), λ h. refl)
makes Part.RelationTail (inr ((place, inr (inr (inr (inr (inl v))))), (right, u))) = (Some (place, RelationSign.AtMost, right), λ h. refl)
makes Part.RelationTail (inr ((place, inr (inr (inr (inr (inr (inl v)))))), (right, u))) = (Some (place, RelationSign.Above, right), λ h. refl)
makes Part.RelationTail (inr ((place, inr (inr (inr (inr (inr (inr v)))))), (right, u))) = (Some (place, RelationSign.AtLeast, right), λ h. refl)
makes Part.Sum (x, ([], u)) = (x, lower 5 x)
makes Part.Sum (x, (next ∷ rest, u)) = (grouped ExprTree.Sum (Start x) (next ∷ rest), λ h. sum_written x next rest)
makes Part.SumTail (inl u) = ([], λ h. refl)
makes Part.SumTail (inr ((place, inl v), (part, (rest, u)))) = (further place Operator.Plus part ∷ rest, λ h. refl)
makes Part.SumTail (inr ((place, inr v), (part, (rest, u)))) = (further place Operator.Dash part ∷ rest, λ h. refl)
makes Part.Product (x, ([], u)) = (x, lower 6 x)
makes Part.Product (x, (next ∷ rest, u)) = (grouped ExprTree.Product (Start x) (next ∷ rest), λ h. product_written x next rest)
makes Part.ProductTail (inl u) = ([], λ h. refl)
makes Part.ProductTail (inr ((place, inl v), (part, (rest, u)))) = (further place Operator.Star part ∷ rest, λ h. refl)
makes Part.ProductTail (inr ((place, inr v), (part, (rest, u)))) = (further place Operator.Slash part ∷ rest, λ h. refl)
makes Part.Minus (inl (sign, (x, u))) = (Minus sign.0 x, λ h. refl)
makes Part.Minus (inr (x, u)) = (x, lower 7 x)
makes Part.Postfix (x, ([], u)) = (x, lower 8 x)
makes Part.Postfix (x, (s ∷ rest, u)) = (with_suffixes (Start x) (s ∷ rest), λ h. post_written x s rest)
makes Part.Primary (inl (number, u)) = (Number (counted number), λ h. refl)
makes Part.Primary (inr (inl ((place, v), u))) = (Physical (counted (place, (v.0, v.1))) v.2, λ h. refl)
makes Part.Primary (inr (inr (inl (text, u)))) = (Chars text.0 text.1, λ h. refl)
makes Part.Primary (inr (inr (inr (inl ((place, inl v), u))))) = (Truth place true, λ h. refl)
makes Part.Primary (inr (inr (inr (inl ((place, inr v), u))))) = (Truth place false, λ h. refl)
makes Part.Primary (inr (inr (inr (inr (inl (word, u)))))) = (It word.0, λ h. refl)
makes Part.Primary (inr (inr (inr (inr (inr (inl (word, u))))))) = (Actor word.0, λ h. refl)
makes Part.Primary (inr (inr (inr (inr (inr (inr (inl (name, (None, u))))))))) = (Name (named name), λ h. refl)
makes Part.Primary (inr (inr (inr (inr (inr (inr (inl (name, (Some member, u))))))))) = (EnumName (named name) member, λ h. refl)
makes Part.Primary (inr (inr (inr (inr (inr (inr (inr (inl (opens, (inner, (closes, u))))))))))) = (Group opens.0 inner, λ h. refl)
makes Part.Primary (inr (inr (inr (inr (inr (inr (inr (inr (inl (opens, (low, (High high, u)))))))))))) = (Span opens.0 low high, λ h. refl)
makes Part.Primary (inr (inr (inr (inr (inr (inr (inr (inr (inl (opens, (item, (Items others, u)))))))))))) = (Listed opens.0 (ExprRow.Item item others), λ h. refl)
makes Part.Primary (inr (inr (inr (inr (inr (inr (inr (inr (inr (word, (opens, (low, (comma, (high, (closes, u))))))))))))))) = (RangeCall word.0 low high, λ h. refl)
makes Part.BracketRest (inl (dots, (high, (closes, u)))) = (High high, λ h. refl)
makes Part.BracketRest (inr (items, (closes, u))) = (Items items, λ h. refl)
makes Part.ListedTail (inl u) = (ExprRow.End, λ h. refl)
makes Part.ListedTail (inr (comma, (item, (others, u)))) = (ExprRow.Item item others, λ h. refl)

-- Trees to rows

-- The row that a tree is made from. Its rule is the only one that the tree's forest may follow.
abbrev pub Cut : (p : Part) → Tree p → Type 0
Cut p t =
    (choice : Choice (rules p)) × ((makes p choice).0 ≡ t) × (is_only (rules p) choice (forest_of p t) ≡ true)
    × (is_whole (choice_forest (rules p) choice) ≡ true)

-- if `wrong` stands nowhere in the forest, and if that follows a rule
abbrev WholeCut : (p : Part) → Tree p → Type 0
WholeCut p t = is_whole (forest_of p t) ≡ true → Cut p t

abbrev FitCut : (p : Part) → Tree p → Type 0
FitCut p t = IsOf p (forest_of p t) → WholeCut p t

-- by whether a list has an item
by_items : {A : Type 0} (P : List A → Type 0) → P [] → ((x : A) (rest : List A) → P (x ∷ rest)) → (xs : List A) → P xs
by_items P none some [] = none
by_items P none some (x ∷ rest) = some x rest

-- Trees that hold no row, or one of some rules

compound_cut : (place : Place) (kind : CompoundKind) (first : Ident) (second : Option Ident) (heir : Option Heir) (members : List MemberTree)
    → WholeCut Part.Declaration (compound place kind first second heir members)
compound_cut place CompoundKind.Struct first None heir members w = (inr (inr (inr (inl ((place, inl tt), (held first, (heir, (members, tt))))))), refl, refl, w)
compound_cut place CompoundKind.Actor first None heir members w = (inr (inr (inr (inl ((place, inr tt), (held first, (heir, (members, tt))))))), refl, refl, w)
compound_cut place CompoundKind.Action first second heir members w =
    (inr (inr (inr (inr (inl ((place, inl tt), (record { first = first; second = second }, (heir, (members, tt)))))))), refl, refl, w)
compound_cut place CompoundKind.Scenario first second heir members w =
    (inr (inr (inr (inr (inl ((place, inr tt), (record { first = first; second = second }, (heir, (members, tt)))))))), refl, refl, w)
compound_cut place _ first second heir members w = absurd (false≢true w)

argument_cut : (name : Option Ident) (value : ExprTree) (others : List ArgumentTree) → WholeCut Part.Arguments (argument name value, others)
argument_cut None value others w = (inl (value, (others, tt)), refl, refl, w)
argument_cut (Some name) value others w = (inr (held name, (tt, (value, (others, tt)))), refl, refl, w)

named_cut : (name : Option Ident) (value : ExprTree) (others : List ArgumentTree) → WholeCut Part.NamedTail (argument name value ∷ others)
named_cut None value others w = absurd (false≢true w)
named_cut (Some name) value others w = (inr (tt, (held name, (tt, (value, (others, tt))))), refl, refl, w)

unit_tail_cut : (bases : List BasePart) (factor offset : Option Signed) → WholeCut Part.UnitTail (bases, factor, offset)
unit_tail_cut (b ∷ rest) factor offset w = (inr (tt, (Another b (rest, factor, offset), tt)), refl, refl, w)
unit_tail_cut [] (Some factor) offset w = (inr (tt, (Factor factor offset, tt)), refl, refl, w)
unit_tail_cut [] None (Some offset) w = (inr (tt, (Offset offset, tt)), refl, refl, w)
unit_tail_cut [] None None w = (inl (tt, (tt, tt)), refl, refl, w)

-- Rows of operators and of suffixes, whose trees are grouped from the left

or_cut : (t : ExprTree) (next : FurtherTree) (rest : List FurtherTree) → is_whole (or_row t (further_tail 2 (next ∷ rest))) ≡ true → Cut Part.Or (grouped Or t (next ∷ rest))
or_cut (Start first) next rest w = ((first, (next ∷ rest, tt)), refl, refl, w)
or_cut (Or place operator left right) next rest w = or_cut left (further place operator right) (next ∷ rest) w
or_cut _ next rest w = absurd (false≢true w)

and_cut : (t : ExprTree) (next : FurtherTree) (rest : List FurtherTree) → is_whole (and_row t (further_tail 3 (next ∷ rest))) ≡ true → Cut Part.And (grouped And t (next ∷ rest))
and_cut (Start first) next rest w = ((first, (next ∷ rest, tt)), refl, refl, w)
and_cut (And place operator left right) next rest w = and_cut left (further place operator right) (next ∷ rest) w
and_cut _ next rest w = absurd (false≢true w)

sum_cut : (t : ExprTree) (next : FurtherTree) (rest : List FurtherTree) → is_whole (sum_row t (further_tail 6 (next ∷ rest))) ≡ true → Cut Part.Sum (grouped Sum t (next ∷ rest))
sum_cut (Start first) next rest w = ((first, (next ∷ rest, tt)), refl, refl, w)
sum_cut (Sum place operator left right) next rest w = sum_cut left (further place operator right) (next ∷ rest) w
sum_cut _ next rest w = absurd (false≢true w)

product_cut : (t : ExprTree) (next : FurtherTree) (rest : List FurtherTree) → is_whole (product_row t (further_tail 7 (next ∷ rest))) ≡ true → Cut Part.Product (grouped Product t (next ∷ rest))
product_cut (Start first) next rest w = ((first, (next ∷ rest, tt)), refl, refl, w)
product_cut (Product place operator left right) next rest w = product_cut left (further place operator right) (next ∷ rest) w
product_cut _ next rest w = absurd (false≢true w)

post_cut : (t : ExprTree) (s : SuffixTree) (rest : List SuffixTree) → is_whole (post_row t (suffix_tail (s ∷ rest))) ≡ true → Cut Part.Postfix (with_suffixes t (s ∷ rest))
post_cut (Start head) s rest w = ((head, (s ∷ rest, tt)), refl, refl, w)
post_cut (Dot head name) s rest w = post_cut head (Named name) (s ∷ rest) w
post_cut (Index place head index) s rest w = post_cut head (At place index) (s ∷ rest) w
post_cut _ s rest w = absurd (false≢true w)

path_cut : (t : ExprTree) (s : SuffixTree) (rest : List SuffixTree) → is_whole (path_front t (suffix_tail (s ∷ rest))) ≡ true → Cut Part.Path (with_suffixes t (s ∷ rest))
path_cut (Start (Name name)) s rest w = (((name.place, inl name.text), (s ∷ rest, tt)), refl, refl, w)
path_cut (Start (It place)) s rest w = (((place, inr (inl tt)), (s ∷ rest, tt)), refl, refl, w)
path_cut (Start (Actor place)) s rest w = (((place, inr (inr tt)), (s ∷ rest, tt)), refl, refl, w)
path_cut (Dot head name) s rest w = path_cut head (Named name) (s ∷ rest) w
path_cut (Index place head index) s rest w = path_cut head (At place index) (s ∷ rest) w
path_cut _ s rest w = absurd (false≢true w)

-- Operators that a rule has

or_sign : (place : Place) (operator : Operator) (part : ExprTree) (rest : List FurtherTree) → FitCut Part.OrTail (further place operator part ∷ rest)
or_sign place Operator.Or part rest fit w = (inr ((place, tt), (part, (rest, tt))), refl, refl, w)
or_sign place operator part rest fit w = absurd (is_not Part.OrTail (forest_of Part.OrTail (further place operator part ∷ rest)) refl fit)

and_sign : (place : Place) (operator : Operator) (part : ExprTree) (rest : List FurtherTree) → FitCut Part.AndTail (further place operator part ∷ rest)
and_sign place Operator.And part rest fit w = (inr ((place, tt), (part, (rest, tt))), refl, refl, w)
and_sign place operator part rest fit w = absurd (is_not Part.AndTail (forest_of Part.AndTail (further place operator part ∷ rest)) refl fit)

sum_sign : (place : Place) (operator : Operator) (part : ExprTree) (rest : List FurtherTree) → FitCut Part.SumTail (further place operator part ∷ rest)
sum_sign place Operator.Plus part rest fit w = (inr ((place, inl tt), (part, (rest, tt))), refl, refl, w)
sum_sign place Operator.Dash part rest fit w = (inr ((place, inr tt), (part, (rest, tt))), refl, refl, w)
sum_sign place operator part rest fit w = absurd (is_not Part.SumTail (forest_of Part.SumTail (further place operator part ∷ rest)) refl fit)

product_sign : (place : Place) (operator : Operator) (part : ExprTree) (rest : List FurtherTree) → FitCut Part.ProductTail (further place operator part ∷ rest)
product_sign place Operator.Star part rest fit w = (inr ((place, inl tt), (part, (rest, tt))), refl, refl, w)
product_sign place Operator.Slash part rest fit w = (inr ((place, inr tt), (part, (rest, tt))), refl, refl, w)
product_sign place operator part rest fit w = absurd (is_not Part.ProductTail (forest_of Part.ProductTail (further place operator part ∷ rest)) refl fit)

-- the row of each tree
pub cut : (p : Part) (t : Tree p) → IsOf p (forest_of p t) → is_whole (forest_of p t) ≡ true → Cut p t
cut Part.File f fit w = ((f.imports, (f.modifiers, (f.decls, ((f.end, tt), tt)))), refl, refl, w)
cut Part.Imports [] fit w = (inl tt, refl, refl, w)
cut Part.Imports (i ∷ is) fit w = (inr (i, (is, tt)), refl, refl, w)
cut Part.Import i fit w = ((tt, (i, tt)), refl, refl, w)
cut Part.ImportRest (Import.Named place text) fit w = (inl ((place, text), (tt, tt)), refl, refl, w)
cut Part.ImportRest (Import.Dotted []) fit w = absurd (false≢true w)
cut Part.ImportRest (Import.Dotted (name ∷ names)) fit w = (inr (held name, (names, (tt, tt))), refl, refl, w)
cut Part.DottedNames [] fit w = (inl tt, refl, refl, w)
cut Part.DottedNames (name ∷ names) fit w = (inr (tt, (held name, (names, tt))), refl, refl, w)
cut Part.Modifiers [] fit w = (inl tt, refl, refl, w)
cut Part.Modifiers (d ∷ ds) fit w = (inr (d, (ds, tt)), refl, refl, w)
cut Part.ModifierDeclaration d fit w =
    by_items (λ parts. WholeCut Part.ModifierDeclaration (record d { parts = parts })) (λ w. absurd (false≢true w))
    (λ p rest w. (((d.place, tt), (held d.name, (tt, (tt, (tt, (p, (rest, (tt, tt)))))))), refl, refl, w)) d.parts w
cut Part.ModifierPart (Parameter name of) fit w = (inl (held name, (OfType of, tt)), refl, refl, w)
cut Part.ModifierPart (ModifierRule r) fit w = (inr (r, tt), refl, refl, w)
cut Part.ModifierPart (Application m) fit w = (inl (held m.name, (With m.arguments, tt)), refl, refl, w)
cut Part.NamedPart (OfType of) fit w = (inl (tt, (held of, (tt, tt))), refl, refl, w)
cut Part.NamedPart (With args) fit w = (inr (tt, (args, (tt, tt))), refl, refl, w)
cut Part.ModifierPartsTail [] fit w = (inl tt, refl, refl, w)
cut Part.ModifierPartsTail (p ∷ ps) fit w = (inr (p, (ps, tt)), refl, refl, w)
cut Part.Declarations [] fit w = (inl tt, refl, refl, w)
cut Part.Declarations (d ∷ ds) fit w = (inr (d, (ds, tt)), refl, refl, w)
cut Part.Declaration (TypeDeclaration d) fit w =
    by_items (λ bases. WholeCut Part.Declaration (TypeDeclaration (record d { bases = bases }))) (λ w. absurd (false≢true w))
    (λ b rest w. (inl ((d.place, tt), (held d.name, (tt, (tt, (tt, (b, (rest, (tt, (tt, tt))))))))), refl, refl, w)) d.bases w
cut Part.Declaration (UnitDeclaration d) fit w =
    by_items (λ bases. WholeCut Part.Declaration (UnitDeclaration (record d { bases = bases }))) (λ w. absurd (false≢true w))
    (λ b rest w. (inr (inl ((d.place, tt), (held d.name, (tt, (held d.of, (tt, (tt, (tt, (b, ((rest, d.factor, d.offset), tt)))))))))), refl, refl, w)) d.bases w
cut Part.Declaration (EnumDeclaration d) fit w =
    by_items (λ items. WholeCut Part.Declaration (EnumDeclaration (record d { items = items }))) (λ w. absurd (false≢true w))
    (λ i rest w. (inr (inr (inl ((d.place, tt), (held d.name, (tt, ((i, rest), (tt, tt))))))), refl, refl, w)) d.items w
cut Part.Declaration (CompoundDeclaration c) fit w = compound_cut c.place c.kind c.name.first c.name.second c.heir c.members w
cut Part.Declaration (MemberExtension e) fit w =
    by_items (λ members. WholeCut Part.Declaration (MemberExtension (record e { members = members }))) (λ w. absurd (false≢true (right_of (is_whole (qualified_name e.name)) _ w)))
    (λ m rest w. (inr (inr (inr (inr (inr ((e.place, tt), (e.name, (tt, (MoreMembers (m, rest), tt)))))))), refl, refl, w)) e.members w
cut Part.Declaration (EnumExtension e) fit w =
    by_items (λ items. WholeCut Part.Declaration (EnumExtension (record e { items = items }))) (λ w. absurd (false≢true (right_of (is_whole (qualified_name e.name)) _ w)))
    (λ i rest w. (inr (inr (inr (inr (inr ((e.place, tt), (e.name, (tt, (MoreItems (i, rest), tt)))))))), refl, refl, w)) e.items w
cut Part.BasesTail [] fit w = (inl tt, refl, refl, w)
cut Part.BasesTail (b ∷ rest) fit w = (inr (tt, (b, (rest, tt))), refl, refl, w)
cut Part.UnitTail u fit w = unit_tail_cut u.0 u.1 u.2 w
cut Part.UnitMore (Another b rest) fit w = (inl (b, (rest, tt)), refl, refl, w)
cut Part.UnitMore (Factor factor offset) fit w = (inr (inl (tt, (tt, (factor, (offset, tt))))), refl, refl, w)
cut Part.UnitMore (Offset offset) fit w = (inr (inr (tt, (tt, (offset, (tt, (tt, tt)))))), refl, refl, w)
cut Part.FactorTail None fit w = (inl (tt, (tt, tt)), refl, refl, w)
cut Part.FactorTail (Some offset) fit w = (inr (tt, (tt, (tt, (offset, (tt, (tt, tt)))))), refl, refl, w)
cut Part.Base b fit w =
    let sign = signed_cut b.exponent w in
    ((held b.name, (tt, (sign.0, (digits_held b.exponent.number, tt)))), ap (λ (s : Signed). record { name = b.name; exponent = s }) sign.1, refl, dash_whole sign.0)
cut Part.OptionalDash None fit w = (inl tt, refl, refl, w)
cut Part.OptionalDash (Some place) fit w = (inr ((place, tt), tt), refl, refl, w)
cut Part.Signed s fit w = let sign = signed_cut s w in ((sign.0, (digits_held s.number, tt)), sign.1, refl, dash_whole sign.0)
cut Part.EnumItems items fit w = ((tt, (items.0, (items.1, (tt, tt)))), refl, refl, w)
cut Part.EnumItem i fit w = ((held i.name, (i.number, tt)), refl, refl, w)
cut Part.ItemNumber None fit w = (inl tt, refl, refl, w)
cut Part.ItemNumber (Some number) fit w = (inr (tt, (digits_held number, tt)), refl, refl, w)
cut Part.ItemsTail [] fit w = (inl tt, refl, refl, w)
cut Part.ItemsTail (i ∷ rest) fit w = (inr (tt, (i, (rest, tt))), refl, refl, w)
cut Part.QualifiedName q fit w = ((held q.first, (q.second, tt)), refl, refl, w)
cut Part.SecondName None fit w = (inl tt, refl, refl, w)
cut Part.SecondName (Some name) fit w = (inr (tt, (held name, tt)), refl, refl, w)
cut Part.OptionalHeir None fit w = (inl tt, refl, refl, w)
cut Part.OptionalHeir (Some heir) fit w = (inr (tt, (heir.base, (heir.condition, tt))), refl, refl, w)
cut Part.HeirCondition None fit w = (inl tt, refl, refl, w)
cut Part.HeirCondition (Some c) fit w = (inr (tt, (held c.field, (tt, (c.value, (tt, tt))))), refl, refl, w)
cut Part.ConditionValue (ConditionValue.Truth place true) fit w = (inl ((place, inl tt), tt), refl, refl, w)
cut Part.ConditionValue (ConditionValue.Truth place false) fit w = (inl ((place, inr tt), tt), refl, refl, w)
cut Part.ConditionValue (ConditionValue.Name name) fit w = (inr (held name, (None, tt)), refl, refl, w)
cut Part.ConditionValue (ConditionValue.EnumName name member) fit w = (inr (held name, (Some member, tt)), refl, refl, w)
cut Part.EnumMember None fit w = (inl tt, refl, refl, w)
cut Part.EnumMember (Some name) fit w = (inr (tt, (held name, tt)), refl, refl, w)
cut Part.Body [] fit w = (inl (tt, tt), refl, refl, w)
cut Part.Body (m ∷ ms) fit w = (inr (tt, ((m, ms), tt)), refl, refl, w)
cut Part.Block ms fit w = ((tt, (tt, (ms.0, (ms.1, (tt, tt))))), refl, refl, w)
cut Part.ExtensionRest (MoreItems items) fit w = (inl (items, (tt, tt)), refl, refl, w)
cut Part.ExtensionRest (MoreMembers members) fit w = (inr (members, tt), refl, refl, w)
cut Part.MembersTail [] fit w = (inl tt, refl, refl, w)
cut Part.MembersTail (m ∷ ms) fit w = (inr (m, (ms, tt)), refl, refl, w)
cut Part.Member (Field f) fit w =
    by_items (λ names. WholeCut Part.Member (Field (record f { names = names }))) (λ w. absurd (false≢true w))
    (λ name names w. (inl (held name, (names, (tt, ((f.list, f.of), (f.initial, (f.rules, tt)))))), refl, refl, w)) f.names w
cut Part.Member (Rule r) fit w = (inr (inl (r, tt)), refl, refl, w)
cut Part.Member (Do place p) fit w = (inr (inr ((place, tt), (p, tt))), refl, refl, w)
cut Part.NamesTail [] fit w = (inl tt, refl, refl, w)
cut Part.NamesTail (name ∷ names) fit w = (inr (tt, (held name, (names, tt))), refl, refl, w)
cut Part.FieldType (None, name) fit w = (inl (held name, tt), refl, refl, w)
cut Part.FieldType (Some place, name) fit w = (inr ((place, tt), (tt, (held name, tt))), refl, refl, w)
cut Part.Initial None fit w = (inl tt, refl, refl, w)
cut Part.Initial (Some value) fit w = (inr (tt, (value, tt)), refl, refl, w)
cut Part.FieldEnd [] fit w = (inl (tt, tt), refl, refl, w)
cut Part.FieldEnd (r ∷ rest) fit w = (inr (tt, (tt, (tt, (tt, (r, (rest, (tt, tt))))))), refl, refl, w)
cut Part.RulesTail [] fit w = (inl tt, refl, refl, w)
cut Part.RulesTail (r ∷ rest) fit w = (inr (r, (rest, tt)), refl, refl, w)
cut Part.Rule (Keep place kind e) fit w = (inl ((place, tt), (tt, (kind, (e, (tt, (tt, tt)))))), refl, refl, w)
cut Part.Rule (Remove place path) fit w = (inr ((place, tt), (tt, (path, (tt, (tt, tt))))), refl, refl, w)
cut Part.KeepKind KeepKind.Plain fit w = (inl tt, refl, refl, w)
cut Part.KeepKind KeepKind.Hard fit w = (inr (inl tt, tt), refl, refl, w)
cut Part.KeepKind KeepKind.Default fit w = (inr (inr tt, tt), refl, refl, w)
cut Part.Path (Name name) fit w = (((name.place, inl name.text), ([], tt)), refl, refl, w)
cut Part.Path (It place) fit w = (((place, inr (inl tt)), ([], tt)), refl, refl, w)
cut Part.Path (Actor place) fit w = (((place, inr (inr tt)), ([], tt)), refl, refl, w)
cut Part.Path (Dot head name) fit w = path_cut head (Named name) [] w
cut Part.Path (Index place head index) fit w = path_cut head (At place index) [] w
cut Part.Path _ fit w = absurd (false≢true w)
cut Part.SuffixesTail [] fit w = (inl tt, refl, refl, w)
cut Part.SuffixesTail (Named name ∷ rest) fit w = (inr (Named name, (rest, tt)), refl, refl, w)
cut Part.SuffixesTail (At place index ∷ rest) fit w = (inr (At place index, (rest, tt)), refl, refl, w)
cut Part.Suffix (Named name) fit w = (inl (tt, (held name, tt)), refl, refl, w)
cut Part.Suffix (At place index) fit w = (inr ((place, tt), (index, (tt, tt))), refl, refl, w)
cut Part.Phase (Comp (Some label) place kind args members) fit w = (inl (held label, (Labelled (InOrder (place, kind, args, members)), tt)), refl, refl, w)
cut Part.Phase (Comp None place CompKind.Serial args members) fit w = (inr (inl ((place, CompKind.Serial, args, members), tt)), refl, refl, w)
cut Part.Phase (Comp None place CompKind.Parallel args members) fit w = (inr (inl ((place, CompKind.Parallel, args, members), tt)), refl, refl, w)
cut Part.Phase (Comp None place CompKind.OneOf args members) fit w = (inr (inl ((place, CompKind.OneOf, args, members), tt)), refl, refl, w)
cut Part.Phase (Invoke (Some label) head names args parts) fit w = (inl (held label, (Labelled (Invoked head (names, args, parts)), tt)), refl, refl, w)
cut Part.Phase (Invoke None (InvokeHead.Name name) names args parts) fit w = (inl (held name, (Unlabelled (names, args, parts), tt)), refl, refl, w)
cut Part.Phase (Invoke None (InvokeHead.Actor place) names args parts) fit w = (inr (inr (inl ((place, tt), ((names, args, parts), tt)))), refl, refl, w)
cut Part.Phase (Wait (Some label) place elapsed) fit w = (inl (held label, (Labelled (Pause (place, elapsed)), tt)), refl, refl, w)
cut Part.Phase (Wait None place elapsed) fit w = (inr (inr (inr ((place, elapsed), tt))), refl, refl, w)
cut Part.PhaseAfterName (Labelled c) fit w = (inl (tt, (c, tt)), refl, refl, w)
cut Part.PhaseAfterName (Unlabelled rest) fit w = (inr (rest, tt), refl, refl, w)
cut Part.LabelledPhase (Invoked (InvokeHead.Name name) rest) fit w = (inl ((name.place, inl name.text), (rest, tt)), refl, refl, w)
cut Part.LabelledPhase (Invoked (InvokeHead.Actor place) rest) fit w = (inl ((place, inr tt), (rest, tt)), refl, refl, w)
cut Part.LabelledPhase (InOrder (place, CompKind.Serial, args, members)) fit w = (inr (inl ((place, CompKind.Serial, args, members), tt)), refl, refl, w)
cut Part.LabelledPhase (InOrder (place, CompKind.Parallel, args, members)) fit w = (inr (inl ((place, CompKind.Parallel, args, members), tt)), refl, refl, w)
cut Part.LabelledPhase (InOrder (place, CompKind.OneOf, args, members)) fit w = (inr (inl ((place, CompKind.OneOf, args, members), tt)), refl, refl, w)
cut Part.LabelledPhase (Pause pause) fit w = (inr (inr (pause, tt)), refl, refl, w)
cut Part.Composition (place, kind, args, PhaseRow.End) fit w = absurd (false≢true (right_of (is_whole (forest_of Part.CompositionArguments args)) _ w))
cut Part.Composition (place, CompKind.Serial, args, PhaseRow.Phase first rest) fit w = (((place, inl tt), (args, (tt, (tt, (tt, (first, (rest, (tt, tt)))))))), refl, refl, w)
cut Part.Composition (place, CompKind.Parallel, args, PhaseRow.Phase first rest) fit w = (((place, inr (inl tt)), (args, (tt, (tt, (tt, (first, (rest, (tt, tt)))))))), refl, refl, w)
cut Part.Composition (place, CompKind.OneOf, args, PhaseRow.Phase first rest) fit w = (((place, inr (inr tt)), (args, (tt, (tt, (tt, (first, (rest, (tt, tt)))))))), refl, refl, w)
cut Part.CompositionArguments [] fit w = (inl tt, refl, refl, w)
cut Part.CompositionArguments (a ∷ rest) fit w = (inr (tt, ((a, rest), tt)), refl, refl, w)
cut Part.PhasesTail PhaseRow.End fit w = (inl tt, refl, refl, w)
cut Part.PhasesTail (PhaseRow.Phase first rest) fit w = (inr (first, (rest, tt)), refl, refl, w)
cut Part.Wait (place, elapsed) fit w = (((place, tt), (tt, (tt, (elapsed, (tt, (tt, tt)))))), refl, refl, w)
cut Part.InvocationRest i fit w = ((i.0, (tt, (i.1, (i.2, tt)))), refl, refl, w)
cut Part.InvocationArguments [] fit w = (inl (tt, tt), refl, refl, w)
cut Part.InvocationArguments (a ∷ rest) fit w = (inr ((a, rest), tt), refl, refl, w)
cut Part.InvocationEnd [] fit w = (inl (tt, tt), refl, refl, w)
cut Part.InvocationEnd (p ∷ rest) fit w = (inr (tt, (tt, (tt, (tt, (p, (rest, (tt, tt))))))), refl, refl, w)
cut Part.InvocationPart (RulePart r) fit w = (inl (r, tt), refl, refl, w)
cut Part.InvocationPart (ModifierPart m) fit w = (inr (held m.name, (tt, (m.arguments, (tt, tt)))), refl, refl, w)
cut Part.PartsTail [] fit w = (inl tt, refl, refl, w)
cut Part.PartsTail (p ∷ rest) fit w = (inr (p, (rest, tt)), refl, refl, w)
cut Part.Arguments args fit w = argument_cut args.0.name args.0.value args.1 w
cut Part.ArgumentsTail [] fit w = (inl (tt, tt), refl, refl, w)
cut Part.ArgumentsTail (a ∷ rest) fit w = (inr (tt, ((a, rest), tt)), refl, refl, w)
cut Part.NamedTail [] fit w = (inl (tt, tt), refl, refl, w)
cut Part.NamedTail (a ∷ rest) fit w = named_cut a.name a.value rest w
cut Part.Expr (Implies place left right) fit w = ((left, (Some (place, right), tt)), refl, refl, w)
cut Part.Expr t fit w = ((t, (None, tt)), refl, refl, w)
cut Part.ImpliesTail None fit w = (inl tt, refl, refl, w)
cut Part.ImpliesTail (Some (place, right)) fit w = (inr ((place, tt), (right, tt)), refl, refl, w)
cut Part.Or (Or place operator left right) fit w = or_cut left (further place operator right) [] w
cut Part.Or t fit w = ((t, ([], tt)), refl, refl, w)
cut Part.OrTail [] fit w = (inl tt, refl, refl, w)
cut Part.OrTail (next ∷ rest) fit w = or_sign next.place next.operator next.part rest fit w
cut Part.And (And place operator left right) fit w = and_cut left (further place operator right) [] w
cut Part.And t fit w = ((t, ([], tt)), refl, refl, w)
cut Part.AndTail [] fit w = (inl tt, refl, refl, w)
cut Part.AndTail (next ∷ rest) fit w = and_sign next.place next.operator next.part rest fit w
cut Part.Not (Not place part) fit w = (inl ((place, tt), (part, tt)), refl, refl, w)
cut Part.Not t fit w = (inr (t, tt), refl, refl, w)
cut Part.Relation (Relation place sign left right) fit w = ((left, (Some (place, sign, right), tt)), refl, refl, w)
cut Part.Relation t fit w = ((t, (None, tt)), refl, refl, w)
cut Part.RelationTail None fit w = (inl tt, refl, refl, w)
cut Part.RelationTail (Some (place, RelationSign.Within, right)) fit w = (inr ((place, inl tt), (right, tt)), refl, refl, w)
cut Part.RelationTail (Some (place, RelationSign.Equal, right)) fit w = (inr ((place, inr (inl tt)), (right, tt)), refl, refl, w)
cut Part.RelationTail (Some (place, RelationSign.Differ, right)) fit w = (inr ((place, inr (inr (inl tt))), (right, tt)), refl, refl, w)
cut Part.RelationTail (Some (place, Below, right)) fit w = (inr ((place, inr (inr (inr (inl tt)))), (right, tt)), refl, refl, w)
cut Part.RelationTail (Some (place, RelationSign.AtMost, right)) fit w = (inr ((place, inr (inr (inr (inr (inl tt))))), (right, tt)), refl, refl, w)
cut Part.RelationTail (Some (place, RelationSign.Above, right)) fit w = (inr ((place, inr (inr (inr (inr (inr (inl tt)))))), (right, tt)), refl, refl, w)
cut Part.RelationTail (Some (place, RelationSign.AtLeast, right)) fit w = (inr ((place, inr (inr (inr (inr (inr (inr tt)))))), (right, tt)), refl, refl, w)
cut Part.Sum (Sum place operator left right) fit w = sum_cut left (further place operator right) [] w
cut Part.Sum t fit w = ((t, ([], tt)), refl, refl, w)
cut Part.SumTail [] fit w = (inl tt, refl, refl, w)
cut Part.SumTail (next ∷ rest) fit w = sum_sign next.place next.operator next.part rest fit w
cut Part.Product (Product place operator left right) fit w = product_cut left (further place operator right) [] w
cut Part.Product t fit w = ((t, ([], tt)), refl, refl, w)
cut Part.ProductTail [] fit w = (inl tt, refl, refl, w)
cut Part.ProductTail (next ∷ rest) fit w = product_sign next.place next.operator next.part rest fit w
cut Part.Minus (Minus place part) fit w = (inl ((place, tt), (part, tt)), refl, refl, w)
cut Part.Minus t fit w = (inr (t, tt), refl, refl, w)
cut Part.Postfix (Dot head name) fit w = post_cut head (Named name) [] w
cut Part.Postfix (Index place head index) fit w = post_cut head (At place index) [] w
cut Part.Postfix t fit w = ((t, ([], tt)), refl, refl, w)
cut Part.Primary (Number number) fit w = (inl (digits_held number, tt), refl, refl, w)
cut Part.Primary (Physical number unit) fit w = (inr (inl ((number.place, (number.digits, number.places, unit)), tt)), refl, refl, w)
cut Part.Primary (Chars place text) fit w = (inr (inr (inl ((place, text), tt))), refl, refl, w)
cut Part.Primary (Truth place true) fit w = (inr (inr (inr (inl ((place, inl tt), tt)))), refl, refl, w)
cut Part.Primary (Truth place false) fit w = (inr (inr (inr (inl ((place, inr tt), tt)))), refl, refl, w)
cut Part.Primary (It place) fit w = (inr (inr (inr (inr (inl ((place, tt), tt))))), refl, refl, w)
cut Part.Primary (Actor place) fit w = (inr (inr (inr (inr (inr (inl ((place, tt), tt)))))), refl, refl, w)
cut Part.Primary (Name name) fit w = (inr (inr (inr (inr (inr (inr (inl (held name, (None, tt)))))))), refl, refl, w)
cut Part.Primary (EnumName name member) fit w = (inr (inr (inr (inr (inr (inr (inl (held name, (Some member, tt)))))))), refl, refl, w)
cut Part.Primary (Group place inner) fit w = (inr (inr (inr (inr (inr (inr (inr (inl ((place, tt), (inner, (tt, tt)))))))))), refl, refl, w)
cut Part.Primary (Span place low high) fit w = (inr (inr (inr (inr (inr (inr (inr (inr (inl ((place, tt), (low, (High high, tt))))))))))), refl, refl, w)
cut Part.Primary (Listed place (ExprRow.Item item others)) fit w = (inr (inr (inr (inr (inr (inr (inr (inr (inl ((place, tt), (item, (Items others, tt))))))))))), refl, refl, w)
cut Part.Primary (RangeCall place low high) fit w = (inr (inr (inr (inr (inr (inr (inr (inr (inr ((place, tt), (tt, (low, (tt, (high, (tt, tt)))))))))))))), refl, refl, w)
cut Part.Primary _ fit w = absurd (false≢true w)
cut Part.BracketRest (High high) fit w = (inl (tt, (high, (tt, tt))), refl, refl, w)
cut Part.BracketRest (Items items) fit w = (inr (items, (tt, tt)), refl, refl, w)
cut Part.ListedTail ExprRow.End fit w = (inl tt, refl, refl, w)
cut Part.ListedTail (ExprRow.Item item others) fit w = (inr (tt, (item, (others, tt))), refl, refl, w)
