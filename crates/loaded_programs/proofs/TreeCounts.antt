-- The expressions and names of declarations weigh no more than what the declarations are written as.
use Rattle.std.proofs.Common.{◌≡◌, ℕ, ◌+◌, ◌≤◌, true, Option, Some, None, List, [], ◌∷◌, ◌++◌, ◌&&◌, arith}
use Rattle.std.specs.Prelude.{flat_map, option_to_list}
use Rattle.std.proofs.lemmas.Bool.{false≢true}
use Rattle.name_scope.specs.dsl_tree.declared.parts.Ident.{Ident}
use Rattle.name_scope.specs.dsl_tree.declared.phases.InvokeHead.{InvokeHead}
use Rattle.name_scope.specs.dsl_tree.declared.compounds.CompoundKind.{CompoundKind}
use Rattle.name_scope.specs.dsl_tree.declared.token.MarkKind.{MarkKind}
use Rattle.name_scope.specs.dsl_tree.ExprTree.{ExprTree}
use Rattle.name_scope.specs.dsl_tree.PhaseTree.{RuleTree, ArgumentTree, PartTree, PhaseTree, PhaseRow}
use Rattle.name_scope.specs.dsl_tree.FileTree.{FieldTree, MemberTree, CompoundTree, DeclarationTree, FileTree}
use Rattle.name_scope.specs.dsl_tree.Forest.{Forest, nil, sub, wrong}
use Rattle.name_scope.specs.dsl_tree.Written.{mark, ident, expr}
use Rattle.name_scope.specs.dsl_tree.WrittenPhases.{keep_kind, rule, rules_tail, by_option, named_argument, named_tail, arguments_tail, arguments, dotted_names, invocation_arguments, invocation_part, parts_tail, invocation_end, invocation_rest, invocation, labelled_invocation, labelled, composition_arguments, composition, wait, phase, block_phases, phases_tail}
use Rattle.name_scope.specs.dsl_tree.WrittenFile.{imports, qualified_name, optional_heir, names_tail, field_type, initial, field_end, field, member, members_tail, block, body, heading_rest, compound_heading, declaration, declarations, modifiers, file}
use Rattle.name_scope.proofs.of_dsl_tree.Tests.{is_whole, left_of, right_of}
use Rattle.name_scope.proofs.of_dsl_tree.WholeForests.{label_whole, head_whole}
use Rattle.name_scope.proofs.of_dsl_tree.FileValues.{named_parts, heading_whole}
use Rattle.checkable_scenes.specs.type_heads.Texts.{rule_exprs, argument_exprs, part_exprs, phase_exprs, row_exprs, member_exprs}
use Rattle.loaded_programs.proofs.LeafCounts.{Measure, count, leaves, expr_count, path_count}

-- the weight of expressions, of names, and of members
abbrev pub all_leaves : Measure → List ExprTree → ℕ
all_leaves m [] = 0
all_leaves m (e ∷ es) = leaves m e + all_leaves m es

abbrev pub name_weight : Measure → List Ident → ℕ
name_weight m [] = 0
name_weight m (name ∷ names) = m.name name.text + name_weight m names

abbrev pub declared_names : MemberTree → List Ident
declared_names (MemberTree.Field f) = f.names
declared_names (MemberTree.Rule r) = []
declared_names (MemberTree.Do place p) = []

abbrev pub member_weight : Measure → List MemberTree → ℕ
member_weight m [] = 0
member_weight m (x ∷ xs) = (name_weight m (declared_names x) + all_leaves m (member_exprs x)) + member_weight m xs

abbrev pub declaration_weight : Measure → DeclarationTree → ℕ
declaration_weight m (DeclarationTree.TypeDeclaration d) = 0
declaration_weight m (DeclarationTree.UnitDeclaration d) = 0
declaration_weight m (DeclarationTree.EnumDeclaration d) = 0
declaration_weight m (DeclarationTree.CompoundDeclaration d) = member_weight m d.members
declaration_weight m (DeclarationTree.MemberExtension d) = member_weight m d.members
declaration_weight m (DeclarationTree.EnumExtension d) = 0

abbrev pub file_weight : Measure → List DeclarationTree → ℕ
file_weight m [] = 0
file_weight m (d ∷ ds) = declaration_weight m d + file_weight m ds

module _ (m : Measure) where
  pub all_append : (xs ys : List ExprTree) → all_leaves m (xs ++ ys) ≡ all_leaves m xs + all_leaves m ys
  all_append [] ys = omega arith
  all_append (x ∷ xs) ys = let e = all_append xs ys in omega (arith, e)

  -- ---- rules and arguments

  rule_count : (r : RuleTree) → is_whole (rule r) ≡ true → all_leaves m (rule_exprs r) ≤ count m (rule r)
  rule_count (RuleTree.Keep place kind e) h = let a = expr_count m e (left_of _ _ (right_of (is_whole (keep_kind kind)) _ h)) in omega (arith, a)
  rule_count (RuleTree.Remove place t) h = let a = path_count m t (left_of _ _ h) in omega (arith, a)

  rules_count : (rs : List RuleTree) → is_whole (rules_tail rs) ≡ true → all_leaves m (flat_map rule_exprs rs) ≤ count m (rules_tail rs)
  rules_count [] h = omega arith
  rules_count (r ∷ rs) h =
      let a = rule_count r (left_of _ _ h) in
      let b = rules_count rs (left_of _ _ (right_of (is_whole (rule r)) _ h)) in
      let c = all_append (rule_exprs r) (flat_map rule_exprs rs) in
      omega (arith, a, b, c)

  named_one : (name : Option Ident) (value : ExprTree) (rest : Forest) → is_whole (by_option name wrong (λ n. mark MarkKind.Comma (named_argument n value rest))) ≡ true
      → count m (expr value) + count m rest ≤ count m (by_option name wrong (λ n. mark MarkKind.Comma (named_argument n value rest)))
  named_one None value rest h = absurd (false≢true h)
  named_one (Some n) value rest h = omega arith

  named_count : (args : List ArgumentTree) → is_whole (named_tail args) ≡ true → all_leaves m (argument_exprs args) ≤ count m (named_tail args)
  named_count [] h = omega arith
  named_count (a ∷ others) h =
      let both = named_parts a.name a.value (named_tail others) h in
      let one = named_one a.name a.value (named_tail others) h in
      let e = expr_count m a.value both.0 in
      let rest = named_count others both.1 in
      omega (arith, one, e, rest)

  tail_count : (args : List ArgumentTree) → (is_whole (arguments args) ≡ true → all_leaves m (argument_exprs args) ≤ count m (arguments args))
      → is_whole (arguments_tail args (arguments args)) ≡ true → all_leaves m (argument_exprs args) ≤ count m (arguments_tail args (arguments args))
  tail_count [] below h = omega arith
  tail_count (a ∷ others) below h = let e = below (left_of _ _ h) in omega (arith, e)

  argument_count : (name : Option Ident) (value : ExprTree) (others : List ArgumentTree) → (is_whole (arguments others) ≡ true → all_leaves m (argument_exprs others) ≤ count m (arguments others))
      → is_whole (by_option name (sub (expr value) (sub (arguments_tail others (arguments others)) nil)) (λ n. named_argument n value (named_tail others))) ≡ true
      → leaves m value + all_leaves m (argument_exprs others) ≤ count m (by_option name (sub (expr value) (sub (arguments_tail others (arguments others)) nil)) (λ n. named_argument n value (named_tail others)))
  argument_count None value others below h =
      let a = expr_count m value (left_of _ _ h) in let b = tail_count others below (left_of _ _ (right_of (is_whole (expr value)) _ h)) in omega (arith, a, b)
  argument_count (Some n) value others below h =
      let a = expr_count m value (left_of _ _ h) in let b = named_count others (left_of _ _ (right_of (is_whole (expr value)) _ h)) in omega (arith, a, b)

  arguments_count : (args : List ArgumentTree) → is_whole (arguments args) ≡ true → all_leaves m (argument_exprs args) ≤ count m (arguments args)
  arguments_count [] h = absurd (false≢true h)
  arguments_count (a ∷ others) h = argument_count a.name a.value others (arguments_count others) h

  invoked_count : (args : List ArgumentTree) → is_whole (invocation_arguments args) ≡ true → all_leaves m (argument_exprs args) ≤ count m (invocation_arguments args)
  invoked_count [] h = omega arith
  invoked_count (a ∷ others) h = let e = arguments_count (a ∷ others) (left_of _ _ h) in omega (arith, e)

  composed_count : (args : List ArgumentTree) → is_whole (composition_arguments args) ≡ true → all_leaves m (argument_exprs args) ≤ count m (composition_arguments args)
  composed_count [] h = omega arith
  composed_count (a ∷ others) h = let e = arguments_count (a ∷ others) (left_of _ _ h) in omega (arith, e)

  -- ---- phases

  part_count : (p : PartTree) → is_whole (invocation_part p) ≡ true → all_leaves m (part_exprs p) ≤ count m (invocation_part p)
  part_count (PartTree.RulePart r) h = let e = rule_count r (left_of _ _ h) in omega (arith, e)
  part_count (PartTree.ModifierPart x) h = let e = invoked_count x.arguments (left_of _ _ h) in omega (arith, e)

  parts_count : (ps : List PartTree) → is_whole (parts_tail ps) ≡ true → all_leaves m (flat_map part_exprs ps) ≤ count m (parts_tail ps)
  parts_count [] h = omega arith
  parts_count (p ∷ ps) h =
      let a = part_count p (left_of _ _ h) in
      let b = parts_count ps (left_of _ _ (right_of (is_whole (invocation_part p)) _ h)) in
      let c = all_append (part_exprs p) (flat_map part_exprs ps) in
      omega (arith, a, b, c)

  end_count : (ps : List PartTree) → is_whole (invocation_end ps) ≡ true → all_leaves m (flat_map part_exprs ps) ≤ count m (invocation_end ps)
  end_count [] h = omega arith
  end_count (p ∷ ps) h =
      let a = part_count p (left_of _ _ h) in
      let b = parts_count ps (left_of _ _ (right_of (is_whole (invocation_part p)) _ h)) in
      let c = all_append (part_exprs p) (flat_map part_exprs ps) in
      omega (arith, a, b, c)

  label_count : (label : Option Ident) (core : Forest) → count m core ≤ count m (labelled label core core)
  label_count None core = omega arith
  label_count (Some l) core = omega arith

  head_count : (label : Option Ident) (head : InvokeHead) (rest : Forest) → count m rest ≤ count m (labelled label (invocation head rest) (labelled_invocation head rest))
  head_count None (InvokeHead.Name name) rest = omega arith
  head_count None (InvokeHead.Actor place) rest = omega arith
  head_count (Some l) (InvokeHead.Name name) rest = omega arith
  head_count (Some l) (InvokeHead.Actor place) rest = omega arith

  invoke_count : (names : List Ident) (args : List ArgumentTree) (parts : List PartTree) → is_whole (invocation_rest names args parts) ≡ true
      → all_leaves m (argument_exprs args ++ flat_map part_exprs parts) ≤ count m (invocation_rest names args parts)
  invoke_count names args parts w =
      let a = invoked_count args (left_of _ _ (right_of (is_whole (dotted_names names)) _ w)) in
      let b = end_count parts (left_of _ _ (right_of (is_whole (invocation_arguments args)) _ (right_of (is_whole (dotted_names names)) _ w))) in
      let c = all_append (argument_exprs args) (flat_map part_exprs parts) in
      omega (arith, a, b, c)

  mutual
    phase_count : (p : PhaseTree) → is_whole (phase p) ≡ true → all_leaves m (phase_exprs p) ≤ count m (phase p)
    phase_count (PhaseTree.Comp label place kind args members) h =
        let w : is_whole (composition place kind args (block_phases members)) ≡ true = label_whole label (composition place kind args (block_phases members)) h in
        let inner : is_whole (composition_arguments args) && (is_whole (block_phases members)) ≡ true = left_of _ _ w in
        let a = composed_count args (left_of (is_whole (composition_arguments args)) _ inner) in
        let b = block_count members (right_of (is_whole (composition_arguments args)) _ inner) in
        let c = all_append (argument_exprs args) (row_exprs members) in
        let d = label_count label (composition place kind args (block_phases members)) in
        omega (arith, a, b, c, d)
    phase_count (PhaseTree.Invoke label head names args parts) h =
        let a = invoke_count names args parts (head_whole label head (invocation_rest names args parts) h) in
        let b = head_count label head (invocation_rest names args parts) in
        omega (arith, a, b)
    phase_count (PhaseTree.Wait label place elapsed) h =
        let a = expr_count m elapsed (left_of _ _ (left_of _ _ (label_whole label (wait place elapsed) h))) in
        let b = label_count label (wait place elapsed) in
        omega (arith, a, b)

    block_count : (ps : PhaseRow) → is_whole (block_phases ps) ≡ true → all_leaves m (row_exprs ps) ≤ count m (block_phases ps)
    block_count PhaseRow.End h = absurd (false≢true h)
    block_count (PhaseRow.Phase first others) h =
        let a = phase_count first (left_of _ _ h) in
        let b = phases_count others (left_of _ _ (right_of (is_whole (phase first)) _ h)) in
        let c = all_append (phase_exprs first) (row_exprs others) in
        omega (arith, a, b, c)

    phases_count : (ps : PhaseRow) → is_whole (phases_tail ps) ≡ true → all_leaves m (row_exprs ps) ≤ count m (phases_tail ps)
    phases_count PhaseRow.End h = omega arith
    phases_count (PhaseRow.Phase first others) h =
        let a = phase_count first (left_of _ _ h) in
        let b = phases_count others (left_of _ _ (right_of (is_whole (phase first)) _ h)) in
        let c = all_append (phase_exprs first) (row_exprs others) in
        omega (arith, a, b, c)

  -- ---- members

  initial_count : (e : Option ExprTree) → is_whole (initial e) ≡ true → all_leaves m (option_to_list e) ≤ count m (initial e)
  initial_count None h = omega arith
  initial_count (Some e) h = let a = expr_count m e (left_of _ _ h) in omega (arith, a)

  field_end_count : (rs : List RuleTree) → is_whole (field_end rs) ≡ true → all_leaves m (flat_map rule_exprs rs) ≤ count m (field_end rs)
  field_end_count [] h = omega arith
  field_end_count (r ∷ rs) h =
      let a = rule_count r (left_of _ _ h) in
      let b = rules_count rs (left_of _ _ (right_of (is_whole (rule r)) _ h)) in
      let c = all_append (rule_exprs r) (flat_map rule_exprs rs) in
      omega (arith, a, b, c)

  names_count : (names : List Ident) → name_weight m names ≤ count m (names_tail names)
  names_count [] = omega arith
  names_count (n ∷ ns) = let a = names_count ns in omega (arith, a)

  field_count : (names : List Ident) (f : FieldTree) → is_whole (field names f) ≡ true → name_weight m names + all_leaves m (member_exprs (MemberTree.Field f)) ≤ count m (field names f)
  field_count [] f h = absurd (false≢true h)
  field_count (n ∷ ns) f h =
      let h2 : (is_whole (field_type f.list f.of) && (is_whole (initial f.initial) && (is_whole (field_end f.rules) && true))) ≡ true = right_of (is_whole (names_tail ns)) _ h in
      let h3 : (is_whole (initial f.initial) && (is_whole (field_end f.rules) && true)) ≡ true = right_of (is_whole (field_type f.list f.of)) _ h2 in
      let a = names_count ns in
      let b = initial_count f.initial (left_of _ _ h3) in
      let c = field_end_count f.rules (left_of _ _ (right_of (is_whole (initial f.initial)) _ h3)) in
      let d = all_append (option_to_list f.initial) (flat_map rule_exprs f.rules) in
      omega (arith, a, b, c, d)

  member_count : (x : MemberTree) → is_whole (member x) ≡ true → name_weight m (declared_names x) + all_leaves m (member_exprs x) ≤ count m (member x)
  member_count (MemberTree.Field f) h = field_count f.names f h
  member_count (MemberTree.Rule r) h = let a = rule_count r (left_of _ _ h) in omega (arith, a)
  member_count (MemberTree.Do place p) h = let a = phase_count p (left_of _ _ h) in omega (arith, a)

  members_count : (xs : List MemberTree) → is_whole (members_tail xs) ≡ true → member_weight m xs ≤ count m (members_tail xs)
  members_count [] h = omega arith
  members_count (x ∷ xs) h =
      let a = member_count x (left_of _ _ h) in
      let b = members_count xs (left_of _ _ (right_of (is_whole (member x)) _ h)) in
      omega (arith, a, b)

  block_weight : (xs : List MemberTree) → is_whole (block xs) ≡ true → member_weight m xs ≤ count m (block xs)
  block_weight [] h = omega arith
  block_weight (x ∷ xs) h =
      let a = member_count x (left_of _ _ h) in
      let b = members_count xs (left_of _ _ (right_of (is_whole (member x)) _ h)) in
      omega (arith, a, b)

  body_count : (xs : List MemberTree) → is_whole (body xs) ≡ true → member_weight m xs ≤ count m (body xs)
  body_count [] h = omega arith
  body_count (x ∷ xs) h = let a = block_weight (x ∷ xs) (left_of _ _ h) in omega (arith, a)

  -- ---- declarations

  plain_count : (second : Option Ident) (first : Ident) (f : Forest) → is_whole (by_option second (ident first f) (λ s. wrong)) ≡ true → count m f ≤ count m (by_option second (ident first f) (λ s. wrong))
  plain_count None first f h = omega arith
  plain_count (Some s) first f h = absurd (false≢true h)

  heading_count : (kind : CompoundKind) (c : CompoundTree) → is_whole (compound_heading kind c) ≡ true → count m (heading_rest c) ≤ count m (compound_heading kind c)
  heading_count CompoundKind.Struct c h = let a = plain_count c.name.second c.name.first (heading_rest c) h in omega (arith, a)
  heading_count CompoundKind.Actor c h = let a = plain_count c.name.second c.name.first (heading_rest c) h in omega (arith, a)
  heading_count CompoundKind.Action c h = omega arith
  heading_count CompoundKind.Scenario c h = omega arith

  declaration_count : (d : DeclarationTree) → is_whole (declaration d) ≡ true → declaration_weight m d ≤ count m (declaration d)
  declaration_count (DeclarationTree.TypeDeclaration d) h = omega arith
  declaration_count (DeclarationTree.UnitDeclaration d) h = omega arith
  declaration_count (DeclarationTree.EnumDeclaration d) h = omega arith
  declaration_count (DeclarationTree.CompoundDeclaration c) h =
      let a = body_count c.members (left_of _ _ (right_of (is_whole (optional_heir c.heir)) _ (heading_whole c.kind c h))) in
      let b = heading_count c.kind c h in
      omega (arith, a, b)
  declaration_count (DeclarationTree.MemberExtension e) h =
      let a = block_weight e.members (left_of _ _ (left_of _ _ (right_of (is_whole (qualified_name e.name)) _ h))) in
      omega (arith, a)
  declaration_count (DeclarationTree.EnumExtension e) h = omega arith

  declarations_count : (ds : List DeclarationTree) → is_whole (declarations ds) ≡ true → file_weight m ds ≤ count m (declarations ds)
  declarations_count [] h = omega arith
  declarations_count (d ∷ ds) h =
      let a = declaration_count d (left_of _ _ h) in
      let b = declarations_count ds (left_of _ _ (right_of (is_whole (declaration d)) _ h)) in
      omega (arith, a, b)

  pub file_count : (t : FileTree) → is_whole (file t) ≡ true → file_weight m t.decls ≤ count m (file t)
  file_count t h =
      let a = declarations_count t.decls (left_of _ _ (right_of (is_whole (modifiers t.modifiers)) _ (right_of (is_whole (imports t.imports)) _ h))) in
      omega (arith, a)
