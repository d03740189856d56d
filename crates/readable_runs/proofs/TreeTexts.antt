-- The names of the fields of a tree are letters, digits and `_`, and its texts are UTF-8, if its tokens are so.
use Rattle.std.proofs.Common.{◌≡◌, ◌∙◌, refl, ap, ℕ, ◌+◌, ◌≤◌, Bool, true, false, cond, not, List, [], ◌∷◌, ◌++◌, arith}
use Rattle.std.specs.Prelude.{flat_map}
use Rattle.std.specs.List.{list_all}
use Rattle.std.specs.Str.{is_utf8}
use Rattle.std.proofs.lemmas.Bool.{false≢true, and_parts}
use Rattle.std.proofs.lemmas.List.Folds.{list_all-append}
use Rattle.osc_base.specs.PathTexts.{is_name}
use Rattle.source_scenes.specs.dsl_tree.declared.parts.Ident.{Ident}
use Rattle.source_scenes.specs.dsl_tree.declared.token.Token.{Token}
use Rattle.source_scenes.specs.dsl_tree.declared.token.TokenKind.{TokenKind}
use Rattle.source_scenes.specs.dsl_tree.ExprTree.{ExprTree, Implies, Or, And, Not, Relation, Sum, Product, Minus, Dot, Index, Number, Physical, Chars, Truth, It, Actor, Name, EnumName, Group, Span, Listed, RangeCall, Start, ExprRow, End, Item}
use Rattle.source_scenes.specs.dsl_tree.FileTree.{MemberTree, DeclarationTree, FileTree}
use Rattle.source_scenes.specs.dsl_tree.Grammar.{Part}
use Rattle.source_scenes.specs.dsl_tree.Language.{Spelled}
use Rattle.source_scenes.specs.dsl_tree.WrittenFile.{file}
use Rattle.source_scenes.proofs.of_dsl_tree.OneTrees.{is_is_whole}
use Rattle.run_tests.specs.type_heads.Texts.{texts_in, texts_among, member_exprs, declaration_exprs}
use Rattle.source_scenes.proofs.of_loaded_programs.Booleans.{both}
use Rattle.source_scenes.proofs.of_loaded_programs.LeafCounts.{Measure, weight, total, leaves, row_leaves, spelled_total}
use Rattle.source_scenes.proofs.of_loaded_programs.TreeCounts.{all_leaves, name_weight, declared_names, member_weight, declaration_weight, file_weight, all_append, file_count}
use Rattle.readable_runs.proofs.SourceTexts.{is_readable, all_readable}

abbrev one : Bool → ℕ
one b = cond b 1 0

not_one : (b : Bool) → one (not b) ≤ 0 → b ≡ true
not_one true h = refl
not_one false h = absurd (omega (arith, h))

one_not : (b : Bool) → b ≡ true → one (not b) ≡ 0
one_not true h = refl
one_not false h = absurd (false≢true h)

-- another name, and a string that isn't UTF-8, weigh 1
abbrev odd : Measure
odd = record { number = λ digits places. 0; string = λ text. one (not (is_utf8 text)); name = λ text. one (not (is_name text)) }

readable_kind : (kind : TokenKind) → is_readable kind ≡ true → weight odd kind ≡ 0
readable_kind (TokenKind.Number digits places) h = refl
readable_kind (TokenKind.Physical digits places unit) h = refl
readable_kind (TokenKind.Name text) h = one_not (is_name text) h
readable_kind (TokenKind.Chars text) h = one_not (is_utf8 text) h
readable_kind (TokenKind.Mark k) h = refl
readable_kind (TokenKind.Word w) h = refl
readable_kind (TokenKind.LeftOut w) h = refl
readable_kind TokenKind.Newline h = refl
readable_kind TokenKind.Indent h = refl
readable_kind TokenKind.Dedent h = refl
readable_kind TokenKind.End h = refl

no_total : (ts : List Token) → all_readable ts ≡ true → total odd ts ≡ 0
no_total [] h = refl
no_total (t ∷ ts) h =
    let parts = and_parts (is_readable t.kind) (all_readable ts) h in
    let a = readable_kind t.kind parts.0 in
    let b = no_total ts parts.1 in
    omega (arith, a, b)

light : (tree : FileTree) (tokens : List Token) → Spelled tree tokens → all_readable tokens ≡ true → file_weight odd tree.decls ≤ 0
light tree tokens s h =
    let a = file_count odd tree (is_is_whole Part.File (file tree) s.follows) in
    let b = spelled_total odd (file tree) tokens [] s.spells in
    let c = no_total tokens h in
    omega (arith, a, b, c)

-- ---- texts

all_both : (xs ys : List (List ℕ)) → list_all is_utf8 xs ≡ true → list_all is_utf8 ys ≡ true → list_all is_utf8 (xs ++ ys) ≡ true
all_both xs ys p q = list_all-append is_utf8 xs ys ∙ both _ _ p q

mutual
  texts_light : (t : ExprTree) → leaves odd t ≤ 0 → list_all is_utf8 (texts_in t) ≡ true
  texts_light (Implies place left right) h = all_both (texts_in left) (texts_in right) (texts_light left (omega (arith, h))) (texts_light right (omega (arith, h)))
  texts_light (Or place operator left right) h = all_both (texts_in left) (texts_in right) (texts_light left (omega (arith, h))) (texts_light right (omega (arith, h)))
  texts_light (And place operator left right) h = all_both (texts_in left) (texts_in right) (texts_light left (omega (arith, h))) (texts_light right (omega (arith, h)))
  texts_light (Not place part) h = texts_light part h
  texts_light (Relation place sign left right) h = all_both (texts_in left) (texts_in right) (texts_light left (omega (arith, h))) (texts_light right (omega (arith, h)))
  texts_light (Sum place operator left right) h = all_both (texts_in left) (texts_in right) (texts_light left (omega (arith, h))) (texts_light right (omega (arith, h)))
  texts_light (Product place operator left right) h = all_both (texts_in left) (texts_in right) (texts_light left (omega (arith, h))) (texts_light right (omega (arith, h)))
  texts_light (Minus place part) h = texts_light part h
  texts_light (Dot head name) h = texts_light head h
  texts_light (Index place head index) h = all_both (texts_in head) (texts_in index) (texts_light head (omega (arith, h))) (texts_light index (omega (arith, h)))
  texts_light (Number number) h = refl
  texts_light (Physical number unit) h = refl
  texts_light (Chars place text) h = both (is_utf8 text) true (not_one (is_utf8 text) h) refl
  texts_light (Truth place value) h = refl
  texts_light (It place) h = refl
  texts_light (Actor place) h = refl
  texts_light (Name name) h = refl
  texts_light (EnumName of member) h = refl
  texts_light (Group place inner) h = texts_light inner h
  texts_light (Span place low high) h = all_both (texts_in low) (texts_in high) (texts_light low (omega (arith, h))) (texts_light high (omega (arith, h)))
  texts_light (Listed place items) h = items_light items h
  texts_light (RangeCall place low high) h = all_both (texts_in low) (texts_in high) (texts_light low (omega (arith, h))) (texts_light high (omega (arith, h)))
  texts_light (Start first) h = texts_light first h

  items_light : (items : ExprRow) → row_leaves odd items ≤ 0 → list_all is_utf8 (texts_among items) ≡ true
  items_light End h = refl
  items_light (Item item others) h = all_both (texts_in item) (texts_among others) (texts_light item (omega (arith, h))) (items_light others (omega (arith, h)))

expressions_light : (es : List ExprTree) → all_leaves odd es ≤ 0 → list_all is_utf8 (flat_map texts_in es) ≡ true
expressions_light [] h = refl
expressions_light (e ∷ es) h = all_both (texts_in e) (flat_map texts_in es) (texts_light e (omega (arith, h))) (expressions_light es (omega (arith, h)))

members_leaves : (xs : List MemberTree) → all_leaves odd (flat_map member_exprs xs) ≤ member_weight odd xs
members_leaves [] = omega arith
members_leaves (x ∷ xs) = let a = members_leaves xs in let b = all_append odd (member_exprs x) (flat_map member_exprs xs) in omega (arith, a, b)

declaration_leaves : (d : DeclarationTree) → all_leaves odd (declaration_exprs d) ≤ declaration_weight odd d
declaration_leaves (DeclarationTree.TypeDeclaration d) = omega arith
declaration_leaves (DeclarationTree.UnitDeclaration d) = omega arith
declaration_leaves (DeclarationTree.EnumDeclaration d) = omega arith
declaration_leaves (DeclarationTree.CompoundDeclaration d) = members_leaves d.members
declaration_leaves (DeclarationTree.MemberExtension d) = members_leaves d.members
declaration_leaves (DeclarationTree.EnumExtension d) = omega arith

-- the texts of declarations
abbrev pub texts_of_all : List DeclarationTree → List (List ℕ)
texts_of_all ds = flat_map (λ d. flat_map texts_in (declaration_exprs d)) ds

texts_all : (ds : List DeclarationTree) → file_weight odd ds ≤ 0 → list_all is_utf8 (texts_of_all ds) ≡ true
texts_all [] h = refl
texts_all (d ∷ ds) h =
    let a = declaration_leaves d in
    all_both (flat_map texts_in (declaration_exprs d)) (texts_of_all ds) (expressions_light (declaration_exprs d) (omega (arith, a, h))) (texts_all ds (omega (arith, h)))

pub tree_texts : (tree : FileTree) (tokens : List Token) → Spelled tree tokens → all_readable tokens ≡ true → list_all is_utf8 (texts_of_all tree.decls) ≡ true
tree_texts tree tokens s h = texts_all tree.decls (light tree tokens s h)

-- ---- names

-- the names that a member declares
abbrev pub has_names : MemberTree → Bool
has_names m = list_all (λ (i : Ident). is_name i.text) (declared_names m)

names_light : (names : List Ident) → name_weight odd names ≤ 0 → list_all (λ (i : Ident). is_name i.text) names ≡ true
names_light [] h = refl
names_light (i ∷ is) h = both (is_name i.text) _ (not_one (is_name i.text) (omega (arith, h))) (names_light is (omega (arith, h)))

members_light : (xs : List MemberTree) → member_weight odd xs ≤ 0 → list_all has_names xs ≡ true
members_light [] h = refl
members_light (x ∷ xs) h = both (has_names x) _ (names_light (declared_names x) (omega (arith, h))) (members_light xs (omega (arith, h)))

-- the names that a declaration's members declare
abbrev pub all_named : DeclarationTree → Bool
all_named (DeclarationTree.CompoundDeclaration d) = list_all has_names d.members
all_named (DeclarationTree.MemberExtension d) = list_all has_names d.members
all_named (DeclarationTree.TypeDeclaration d) = true
all_named (DeclarationTree.UnitDeclaration d) = true
all_named (DeclarationTree.EnumDeclaration d) = true
all_named (DeclarationTree.EnumExtension d) = true

one_named : (d : DeclarationTree) → declaration_weight odd d ≤ 0 → all_named d ≡ true
one_named (DeclarationTree.CompoundDeclaration d) h = members_light d.members h
one_named (DeclarationTree.MemberExtension d) h = members_light d.members h
one_named (DeclarationTree.TypeDeclaration d) h = refl
one_named (DeclarationTree.UnitDeclaration d) h = refl
one_named (DeclarationTree.EnumDeclaration d) h = refl
one_named (DeclarationTree.EnumExtension d) h = refl

declarations_named : (ds : List DeclarationTree) → file_weight odd ds ≤ 0 → list_all all_named ds ≡ true
declarations_named [] h = refl
declarations_named (d ∷ ds) h = both (all_named d) _ (one_named d (omega (arith, h))) (declarations_named ds (omega (arith, h)))

pub tree_names : (tree : FileTree) (tokens : List Token) → Spelled tree tokens → all_readable tokens ≡ true → list_all all_named tree.decls ≡ true
tree_names tree tokens s h = declarations_named tree.decls (light tree tokens s h)
