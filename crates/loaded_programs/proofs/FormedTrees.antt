-- Trees that are spelled by tokens with short numbers, and with names that are no words.
use Rattle.std.proofs.Common.{◌≡◌, ℕ, ◌+◌, ◌^◌, ◌≤◌, Bool, true, false, cond, not, ◌&&◌, List, [], ◌∷◌, length, refl, ap, sym, ◌∙◌, arith, true≢false}
use Rattle.std.specs.Prelude.{nat_lt, nat_le, flat_map, bytes_eq, codes, filter}
use Rattle.std.specs.List.{list_all}
use Rattle.std.proofs.lemmas.Bool.{false≢true, and_parts}
use Rattle.std.proofs.lemmas.List.{length-append}
use Rattle.std.proofs.lemmas.Slice.Eq.{bytes_eq-Decides}
use Rattle.name_scope.specs.dsl_tree.declared.parts.Ident.{Ident}
use Rattle.name_scope.specs.dsl_tree.declared.enums.EnumItem.{EnumItem}
use Rattle.name_scope.specs.dsl_tree.declared.token.Token.{Token}
use Rattle.name_scope.specs.dsl_tree.declared.token.TokenKind.{TokenKind}
use Rattle.name_scope.specs.dsl_tree.ExprTree.{ExprTree, Implies, Or, And, Not, Relation, Sum, Product, Minus, Dot, Index, Number, Physical, Chars, Truth, It, Actor, Name, EnumName, Group, Span, Listed, RangeCall, Start, ExprRow, End, Item}
use Rattle.name_scope.specs.dsl_tree.PhaseTree as Phases
use Rattle.name_scope.specs.dsl_tree.PhaseTree.{PhaseTree, PhaseRow}
use Rattle.name_scope.specs.dsl_tree.FileTree.{MemberTree, DeclarationTree, FileTree}
use Rattle.name_scope.specs.dsl_tree.Grammar.{Part}
use Rattle.name_scope.specs.dsl_tree.Language.{Spelled}
use Rattle.name_scope.specs.dsl_tree.WrittenPhases.{composition_arguments, composition, phase, block_phases, phases_tail}
use Rattle.name_scope.specs.dsl_tree.WrittenFile.{imports, qualified_name, optional_heir, enum_items, member, members_tail, block, body, declaration, declarations, modifiers, file}
use Rattle.name_scope.proofs.of_dsl_tree.Tests.{is_whole, left_of, right_of}
use Rattle.name_scope.proofs.of_dsl_tree.WholeForests.{label_whole}
use Rattle.name_scope.proofs.of_dsl_tree.FileValues.{heading_whole}
use Rattle.name_scope.proofs.of_dsl_tree.OneTrees.{is_is_whole}
use Rattle.dsl_lexer.specs.Kinds.{is_word}
use Rattle.checkable_scenes.specs.type_heads.Texts.{texts_in, texts_among, member_exprs, declaration_exprs}
use Rattle.checkable_scenes.specs.scene_laws.Premises.{is_short, are_short, row_is_short, is_free, is_full, row_is_full, is_formed, is_written, is_spelled}
use Rattle.loaded_programs.specs.TokenLaws.{has_few_digits, is_no_word, is_string, all_kinds, count_strings}
use Rattle.loaded_programs.specs.TreeLaws.{have_short_numbers, TreesAreShort, TreesAreFormed, TextsAreFew}
use Rattle.loaded_programs.specs.TreeLaws as TreeLaws
use Rattle.loaded_programs.proofs.Booleans.{both}
use Rattle.loaded_programs.proofs.LeafCounts.{Measure, weight, total, leaves, row_leaves, spelled_total}
use Rattle.loaded_programs.proofs.TreeCounts.{all_leaves, name_weight, declared_names, member_weight, declaration_weight, file_weight, all_append, file_count}

abbrev one : Bool → ℕ
one b = cond b 1 0

one_not : (b : Bool) → b ≡ true → one (not b) ≡ 0
one_not true h = refl
one_not false h = absurd (false≢true h)

not_one : (b : Bool) → one (not b) ≤ 0 → b ≡ true
not_one true h = refl
not_one false h = absurd (omega (arith, h))

-- a long number, and a name that is a word, weigh 1
abbrev long_numbers : Measure
long_numbers = record { number = λ digits places. one (not (nat_lt digits (10 ^ 18) && nat_le places 18)); string = λ text. 0; name = λ text. 0 }

abbrev words : Measure
words = record { number = λ digits places. 0; string = λ text. 0; name = λ text. one (not (not (is_word text))) }

-- a string weighs 1
abbrev strings : Measure
strings = record { number = λ digits places. 0; string = λ text. 1; name = λ text. 0 }

-- ---- what tokens weigh

short_kind : (kind : TokenKind) → has_few_digits kind ≡ true → weight long_numbers kind ≡ 0
short_kind (TokenKind.Number digits places) h = one_not (nat_lt digits (10 ^ 18) && nat_le places 18) h
short_kind (TokenKind.Physical digits places unit) h = one_not (nat_lt digits (10 ^ 18) && nat_le places 18) h
short_kind (TokenKind.Name text) h = refl
short_kind (TokenKind.Chars text) h = refl
short_kind (TokenKind.Mark k) h = refl
short_kind (TokenKind.Word w) h = refl
short_kind (TokenKind.LeftOut w) h = refl
short_kind TokenKind.Newline h = refl
short_kind TokenKind.Indent h = refl
short_kind TokenKind.Dedent h = refl
short_kind TokenKind.End h = refl

free_kind : (kind : TokenKind) → is_no_word kind ≡ true → weight words kind ≡ 0
free_kind (TokenKind.Number digits places) h = refl
free_kind (TokenKind.Physical digits places unit) h = refl
free_kind (TokenKind.Name text) h = one_not (not (is_word text)) h
free_kind (TokenKind.Chars text) h = refl
free_kind (TokenKind.Mark k) h = refl
free_kind (TokenKind.Word w) h = refl
free_kind (TokenKind.LeftOut w) h = refl
free_kind TokenKind.Newline h = refl
free_kind TokenKind.Indent h = refl
free_kind TokenKind.Dedent h = refl
free_kind TokenKind.End h = refl

no_total : (m : Measure) (test : TokenKind → Bool) → ((kind : TokenKind) → test kind ≡ true → weight m kind ≡ 0) → (ts : List Token) → all_kinds test ts ≡ true → total m ts ≡ 0
no_total m test none [] h = refl
no_total m test none (t ∷ ts) h =
    let parts = and_parts (test t.kind) (all_kinds test ts) h in
    let a = none t.kind parts.0 in
    let b = no_total m test none ts parts.1 in
    omega (arith, a, b)

string_total : (ts : List Token) → total strings ts ≡ count_strings ts
string_total [] = refl
string_total (t ∷ ts) = by t.kind (string_total ts)
  where
    by : (kind : TokenKind) → total strings ts ≡ count_strings ts
        → weight strings kind + total strings ts ≡ length (cond (is_string kind) (t ∷ filter (λ (t : Token). is_string t.kind) ts) (filter (λ (t : Token). is_string t.kind) ts))
    by (TokenKind.Number digits places) e = omega (arith, e)
    by (TokenKind.Physical digits places unit) e = omega (arith, e)
    by (TokenKind.Name text) e = omega (arith, e)
    by (TokenKind.Chars text) e = omega (arith, e)
    by (TokenKind.Mark k) e = omega (arith, e)
    by (TokenKind.Word w) e = omega (arith, e)
    by (TokenKind.LeftOut w) e = omega (arith, e)
    by TokenKind.Newline e = omega (arith, e)
    by TokenKind.Indent e = omega (arith, e)
    by TokenKind.Dedent e = omega (arith, e)
    by TokenKind.End e = omega (arith, e)

-- a tree weighs no more than its tokens
module _ (tree : FileTree) (tokens : List Token) (s : Spelled tree tokens) where
  whole : is_whole (file tree) ≡ true
  whole = is_is_whole Part.File (file tree) s.follows

  lighter : (m : Measure) → file_weight m tree.decls ≤ total m tokens
  lighter m =
      let a = file_count m tree whole in
      let b = spelled_total m (file tree) tokens [] s.spells in
      omega (arith, a, b)

-- ---- short numbers

mutual
  short_leaves : (t : ExprTree) → leaves long_numbers t ≤ 0 → are_short t ≡ true
  short_leaves (Implies place left right) h = both (are_short left) (are_short right) (short_leaves left (omega (arith, h))) (short_leaves right (omega (arith, h)))
  short_leaves (Or place operator left right) h = both (are_short left) (are_short right) (short_leaves left (omega (arith, h))) (short_leaves right (omega (arith, h)))
  short_leaves (And place operator left right) h = both (are_short left) (are_short right) (short_leaves left (omega (arith, h))) (short_leaves right (omega (arith, h)))
  short_leaves (Not place part) h = short_leaves part h
  short_leaves (Relation place sign left right) h = both (are_short left) (are_short right) (short_leaves left (omega (arith, h))) (short_leaves right (omega (arith, h)))
  short_leaves (Sum place operator left right) h = both (are_short left) (are_short right) (short_leaves left (omega (arith, h))) (short_leaves right (omega (arith, h)))
  short_leaves (Product place operator left right) h = both (are_short left) (are_short right) (short_leaves left (omega (arith, h))) (short_leaves right (omega (arith, h)))
  short_leaves (Minus place part) h = short_leaves part h
  short_leaves (Dot head name) h = short_leaves head h
  short_leaves (Index place head index) h = short_leaves head (omega (arith, h))
  short_leaves (Number number) h = not_one (is_short number) h
  short_leaves (Physical number unit) h = refl
  short_leaves (Chars place text) h = refl
  short_leaves (Truth place value) h = refl
  short_leaves (It place) h = refl
  short_leaves (Actor place) h = refl
  short_leaves (Name name) h = refl
  short_leaves (EnumName of member) h = refl
  short_leaves (Group place inner) h = short_leaves inner h
  short_leaves (Span place low high) h = both (are_short low) (are_short high) (short_leaves low (omega (arith, h))) (short_leaves high (omega (arith, h)))
  short_leaves (Listed place items) h = short_items items h
  short_leaves (RangeCall place low high) h = both (are_short low) (are_short high) (short_leaves low (omega (arith, h))) (short_leaves high (omega (arith, h)))
  short_leaves (Start first) h = short_leaves first h

  short_items : (items : ExprRow) → row_leaves long_numbers items ≤ 0 → row_is_short items ≡ true
  short_items End h = refl
  short_items (Item item others) h = both (are_short item) (row_is_short others) (short_leaves item (omega (arith, h))) (short_items others (omega (arith, h)))

short_all : (es : List ExprTree) → all_leaves long_numbers es ≤ 0 → list_all are_short es ≡ true
short_all [] h = refl
short_all (e ∷ es) h = both (are_short e) (list_all are_short es) (short_leaves e (omega (arith, h))) (short_all es (omega (arith, h)))

-- the expressions of members, one after another
members_leaves : (m : Measure) (xs : List MemberTree) → all_leaves m (flat_map member_exprs xs) ≤ member_weight m xs
members_leaves m [] = omega arith
members_leaves m (x ∷ xs) = let a = members_leaves m xs in let b = all_append m (member_exprs x) (flat_map member_exprs xs) in omega (arith, a, b)

declaration_leaves : (m : Measure) (d : DeclarationTree) → all_leaves m (declaration_exprs d) ≤ declaration_weight m d
declaration_leaves m (DeclarationTree.TypeDeclaration d) = omega arith
declaration_leaves m (DeclarationTree.UnitDeclaration d) = omega arith
declaration_leaves m (DeclarationTree.EnumDeclaration d) = omega arith
declaration_leaves m (DeclarationTree.CompoundDeclaration d) = members_leaves m d.members
declaration_leaves m (DeclarationTree.MemberExtension d) = members_leaves m d.members
declaration_leaves m (DeclarationTree.EnumExtension d) = omega arith

short_declarations : (ds : List DeclarationTree) → file_weight long_numbers ds ≤ 0 → have_short_numbers ds ≡ true
short_declarations [] h = refl
short_declarations (d ∷ ds) h =
    let a = declaration_leaves long_numbers d in
    both (list_all are_short (declaration_exprs d)) (have_short_numbers ds) (short_all (declaration_exprs d) (omega (arith, a, h))) (short_declarations ds (omega (arith, h)))

pub trees_are_short : TreesAreShort
trees_are_short tree tokens s short =
    let a = lighter tree tokens s long_numbers in
    let b = no_total long_numbers has_few_digits short_kind tokens short in
    short_declarations tree.decls (omega (arith, a, b))

-- ---- names that are no words

not_this : (text word : List ℕ) → is_word word ≡ true → is_word text ≡ false → bytes_eq text word ≡ false
not_this text word w h = by (bytes_eq text word) refl
  where
    by : (b : Bool) → bytes_eq text word ≡ b → b ≡ false
    by true e = absurd (true≢false (sym w ∙ (sym (ap is_word ((bytes_eq-Decides text word).0 e)) ∙ h)))
    by false e = refl

free_name : (text : List ℕ) → is_word text ≡ false → is_free text ≡ true
free_name text h = rw (not_this text (codes "it") refl h, not_this text (codes "actor") refl h, not_this text (codes "do") refl h) refl

no_word : (b : Bool) → not b ≡ true → b ≡ false
no_word true h = absurd (true≢false (sym h))
no_word false h = refl

free_names : (names : List Ident) → name_weight words names ≤ 0 → list_all (λ (i : Ident). is_free i.text) names ≡ true
free_names [] h = refl
free_names (n ∷ ns) h =
    both (is_free n.text) (list_all (λ (i : Ident). is_free i.text) ns)
    (free_name n.text (no_word (is_word n.text) (not_one (not (is_word n.text)) (omega (arith, h))))) (free_names ns (omega (arith, h)))

-- ---- compositions with members

some_there : {A : Type 0} (x : A) (xs : List A) → nat_lt 0 (length (x ∷ xs)) ≡ true
some_there x xs = grind arith

mutual
  full_phase : (p : PhaseTree) → is_whole (phase p) ≡ true → is_full p ≡ true
  full_phase (PhaseTree.Comp label place kind args members) h =
      let w : is_whole (composition place kind args (block_phases members)) ≡ true = label_whole label (composition place kind args (block_phases members)) h in
      full_block members (right_of (is_whole (composition_arguments args)) _ (left_of _ _ w))
  full_phase (PhaseTree.Invoke label head names args parts) h = refl
  full_phase (PhaseTree.Wait label place elapsed) h = refl

  full_block : (ps : PhaseRow) → is_whole (block_phases ps) ≡ true → nat_lt 0 (length (Phases.phases_of ps)) && row_is_full ps ≡ true
  full_block PhaseRow.End h = absurd (false≢true h)
  full_block (PhaseRow.Phase first others) h =
      both _ (is_full first && row_is_full others) (some_there first (Phases.phases_of others))
      (both (is_full first) (row_is_full others) (full_phase first (left_of _ _ h)) (full_phases others (left_of _ _ (right_of (is_whole (phase first)) _ h))))

  full_phases : (ps : PhaseRow) → is_whole (phases_tail ps) ≡ true → row_is_full ps ≡ true
  full_phases PhaseRow.End h = refl
  full_phases (PhaseRow.Phase first others) h =
      both (is_full first) (row_is_full others) (full_phase first (left_of _ _ h)) (full_phases others (left_of _ _ (right_of (is_whole (phase first)) _ h)))

-- ---- members and declarations

formed_member : (x : MemberTree) → is_whole (member x) ≡ true → name_weight words (declared_names x) ≤ 0 → is_formed x ≡ true
formed_member (MemberTree.Field f) h w = free_names f.names w
formed_member (MemberTree.Rule r) h w = refl
formed_member (MemberTree.Do place p) h w = full_phase p (left_of _ _ h)

written_member : (x : MemberTree) (xs : List MemberTree) → is_whole (member x) ≡ true → member_weight long_numbers (x ∷ xs) ≤ 0 → member_weight words (x ∷ xs) ≤ 0 → is_written x ≡ true
written_member x xs h l w = both (is_formed x) (list_all are_short (member_exprs x)) (formed_member x h (omega (arith, w))) (short_all (member_exprs x) (omega (arith, l)))

written_members : (xs : List MemberTree) → is_whole (members_tail xs) ≡ true → member_weight long_numbers xs ≤ 0 → member_weight words xs ≤ 0 → list_all is_written xs ≡ true
written_members [] h l w = refl
written_members (x ∷ xs) h l w =
    both (is_written x) (list_all is_written xs) (written_member x xs (left_of _ _ h) l w)
    (written_members xs (left_of _ _ (right_of (is_whole (member x)) _ h)) (omega (arith, l)) (omega (arith, w)))

written_block : (xs : List MemberTree) → is_whole (block xs) ≡ true → member_weight long_numbers xs ≤ 0 → member_weight words xs ≤ 0 → list_all is_written xs ≡ true
written_block [] h l w = refl
written_block (x ∷ xs) h l w =
    both (is_written x) (list_all is_written xs) (written_member x xs (left_of _ _ h) l w)
    (written_members xs (left_of _ _ (right_of (is_whole (member x)) _ h)) (omega (arith, l)) (omega (arith, w)))

written_body : (xs : List MemberTree) → is_whole (body xs) ≡ true → member_weight long_numbers xs ≤ 0 → member_weight words xs ≤ 0 → list_all is_written xs ≡ true
written_body [] h l w = refl
written_body (x ∷ xs) h l w = written_block (x ∷ xs) (left_of _ _ h) l w

some_items : (items : List EnumItem) → is_whole (enum_items items) ≡ true → nat_lt 0 (length items) ≡ true
some_items [] h = absurd (false≢true h)
some_items (i ∷ is) h = some_there i is

spelled_one : (d : DeclarationTree) → is_whole (declaration d) ≡ true → declaration_weight long_numbers d ≤ 0 → declaration_weight words d ≤ 0 → is_spelled d ≡ true
spelled_one (DeclarationTree.TypeDeclaration d) h l w = refl
spelled_one (DeclarationTree.UnitDeclaration d) h l w = refl
spelled_one (DeclarationTree.EnumDeclaration d) h l w = some_items d.items (left_of _ _ h)
spelled_one (DeclarationTree.CompoundDeclaration c) h l w = written_body c.members (left_of _ _ (right_of (is_whole (optional_heir c.heir)) _ (heading_whole c.kind c h))) l w
spelled_one (DeclarationTree.MemberExtension e) h l w = written_block e.members (left_of _ _ (left_of _ _ (right_of (is_whole (qualified_name e.name)) _ h))) l w
spelled_one (DeclarationTree.EnumExtension e) h l w = refl

spelled_all : (ds : List DeclarationTree) → is_whole (declarations ds) ≡ true → file_weight long_numbers ds ≤ 0 → file_weight words ds ≤ 0 → list_all is_spelled ds ≡ true
spelled_all [] h l w = refl
spelled_all (d ∷ ds) h l w =
    both (is_spelled d) (list_all is_spelled ds) (spelled_one d (left_of _ _ h) (omega (arith, l)) (omega (arith, w)))
    (spelled_all ds (left_of _ _ (right_of (is_whole (declaration d)) _ h)) (omega (arith, l)) (omega (arith, w)))

pub trees_are_formed : TreesAreFormed
trees_are_formed tree tokens s short free =
    let a = lighter tree tokens s long_numbers in
    let b = no_total long_numbers has_few_digits short_kind tokens short in
    let c = lighter tree tokens s words in
    let d = no_total words is_no_word free_kind tokens free in
    spelled_all tree.decls (left_of _ _ (right_of (is_whole (modifiers tree.modifiers)) _ (right_of (is_whole (imports tree.imports)) _ (whole tree tokens s))))
    (omega (arith, a, b)) (omega (arith, c, d))

-- ---- texts

mutual
  texts_counted : (t : ExprTree) → length (texts_in t) ≡ leaves strings t
  texts_counted (Implies place left right) = let a = texts_counted left in let b = texts_counted right in let c = length-append (texts_in left) (texts_in right) in omega (arith, a, b, c)
  texts_counted (Or place operator left right) = let a = texts_counted left in let b = texts_counted right in let c = length-append (texts_in left) (texts_in right) in omega (arith, a, b, c)
  texts_counted (And place operator left right) = let a = texts_counted left in let b = texts_counted right in let c = length-append (texts_in left) (texts_in right) in omega (arith, a, b, c)
  texts_counted (Not place part) = texts_counted part
  texts_counted (Relation place sign left right) = let a = texts_counted left in let b = texts_counted right in let c = length-append (texts_in left) (texts_in right) in omega (arith, a, b, c)
  texts_counted (Sum place operator left right) = let a = texts_counted left in let b = texts_counted right in let c = length-append (texts_in left) (texts_in right) in omega (arith, a, b, c)
  texts_counted (Product place operator left right) = let a = texts_counted left in let b = texts_counted right in let c = length-append (texts_in left) (texts_in right) in omega (arith, a, b, c)
  texts_counted (Minus place part) = texts_counted part
  texts_counted (Dot head name) = texts_counted head
  texts_counted (Index place head index) = let a = texts_counted head in let b = texts_counted index in let c = length-append (texts_in head) (texts_in index) in omega (arith, a, b, c)
  texts_counted (Number number) = refl
  texts_counted (Physical number unit) = refl
  texts_counted (Chars place text) = refl
  texts_counted (Truth place value) = refl
  texts_counted (It place) = refl
  texts_counted (Actor place) = refl
  texts_counted (Name name) = refl
  texts_counted (EnumName of member) = refl
  texts_counted (Group place inner) = texts_counted inner
  texts_counted (Span place low high) = let a = texts_counted low in let b = texts_counted high in let c = length-append (texts_in low) (texts_in high) in omega (arith, a, b, c)
  texts_counted (Listed place items) = items_counted items
  texts_counted (RangeCall place low high) = let a = texts_counted low in let b = texts_counted high in let c = length-append (texts_in low) (texts_in high) in omega (arith, a, b, c)
  texts_counted (Start first) = texts_counted first

  items_counted : (items : ExprRow) → length (texts_among items) ≡ row_leaves strings items
  items_counted End = refl
  items_counted (Item item others) = let a = texts_counted item in let b = items_counted others in let c = length-append (texts_in item) (texts_among others) in omega (arith, a, b, c)

all_counted : (es : List ExprTree) → length (flat_map texts_in es) ≡ all_leaves strings es
all_counted [] = refl
all_counted (e ∷ es) = let a = texts_counted e in let b = all_counted es in let c = length-append (texts_in e) (flat_map texts_in es) in omega (arith, a, b, c)

declarations_counted : (ds : List DeclarationTree) → length (TreeLaws.texts_among ds) ≤ file_weight strings ds
declarations_counted [] = omega arith
declarations_counted (d ∷ ds) =
    let a = all_counted (declaration_exprs d) in
    let b = declaration_leaves strings d in
    let c = declarations_counted ds in
    let e = length-append (flat_map texts_in (declaration_exprs d)) (TreeLaws.texts_among ds) in
    omega (arith, a, b, c, e)

pub texts_are_few : TextsAreFew
texts_are_few tree tokens s =
    let a = declarations_counted tree.decls in
    let b = lighter tree tokens s strings in
    let c = string_total tokens in
    omega (arith, a, b, c)
