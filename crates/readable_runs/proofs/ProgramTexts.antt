-- The fields of a loaded program have names of letters, digits and `_`, and its texts are UTF-8.
use Rattle.std.proofs.Common.{◌≡◌, ◌∙◌, sym, subst, ℕ, ◌+◌, Bool, true, false, cond, List, [], ◌∷◌, ◌++◌, map, length, refl}
use Rattle.std.specs.Prelude.{flat_map, fold}
use Rattle.std.specs.Ordering.{is_lt, is_eq, nat_cmp}
use Rattle.std.specs.Cmp.Lexicographic.{slice_cmp}
use Rattle.std.specs.List.{list_all}
use Rattle.std.specs.Str.{is_utf8}
use Rattle.std.proofs.lemmas.Bool.{and_parts}
use Rattle.std.proofs.lemmas.List.Folds.{list_all-append}
use Rattle.std.proofs.lemmas.Str.{IsUtf8-nil, is_utf8-from_IsUtf8}
use Rattle.osc_base.specs.PathTexts.{is_name}
use Rattle.source_scenes.specs.outside_io.declared.shelf.NamedBytes.{NamedBytes}
use Rattle.source_scenes.specs.dsl_tree.declared.parts.Ident.{Ident}
use Rattle.source_scenes.specs.dsl_tree.FileTree.{DeclarationTree, FileTree, MemberTree}
use Rattle.source_scenes.specs.dsl_tree.Views.{file_tree}
use Rattle.source_scenes.specs.name_scope.FileNumbers.{AddedFile}
use Rattle.source_scenes.specs.program_load.Loading.{AreTakenAfter, IsTaken}
use Rattle.run_tests.specs.type_heads.Texts.{texts_of, with_text}
use Rattle.run_tests.specs.type_heads.Types.{Program, Types, Field, Member}
use Rattle.run_tests.specs.type_heads.Members.{fields, fields_declared, members}
use Rattle.run_tests.specs.type_heads.DeclaredTypes.{Placed, placed_in, placed_from, types_of}
use Rattle.run_tests.specs.composition.declared.setting.Setting.{Setting}
use Rattle.run_tests.specs.composition.Expanded.{scene}
use Rattle.source_scenes.proofs.of_field_flatten.Tests.{In, all_at, flat_map_in, map_in}
use Rattle.source_scenes.proofs.of_scene_laws.WrittenMembers.{AllMembers, all_members, members_pass}
use Rattle.source_scenes.proofs.of_loaded_programs.Booleans.{both}
use Rattle.source_scenes.proofs.of_loaded_programs.LoadedFiles.{trees}
use Rattle.readable_runs.proofs.SourceTexts.{readable_tokens}
use Rattle.readable_runs.proofs.TreeTexts.{all_named, has_names, texts_of_all, tree_names, tree_texts}

-- ---- names

as_members : (d : DeclarationTree) → all_named d ≡ true → members_pass has_names d ≡ true
as_members (DeclarationTree.CompoundDeclaration d) h = h
as_members (DeclarationTree.MemberExtension d) h = h
as_members (DeclarationTree.TypeDeclaration d) h = refl
as_members (DeclarationTree.UnitDeclaration d) h = refl
as_members (DeclarationTree.EnumDeclaration d) h = refl
as_members (DeclarationTree.EnumExtension d) h = refl

placed_named : (file index : ℕ) (ds : List DeclarationTree) → list_all all_named ds ≡ true → list_all (λ (d : Placed). members_pass has_names d.declaration) (placed_in file index ds) ≡ true
placed_named file index [] h = refl
placed_named file index (d ∷ ds) h =
    let parts = and_parts (all_named d) (list_all all_named ds) h in
    both (members_pass has_names d) _ (as_members d parts.0) (placed_named file (index + 1) ds parts.1)

-- ---- texts

with_utf8 : (texts : List (List ℕ)) (text : List ℕ) → list_all is_utf8 texts ≡ true → is_utf8 text ≡ true → list_all is_utf8 (with_text texts text) ≡ true
with_utf8 [] text h one = both (is_utf8 text) true one refl
with_utf8 (first ∷ later) text h one =
    let parts = and_parts (is_utf8 first) (list_all is_utf8 later) h in
    by (is_lt (slice_cmp nat_cmp text first)) (is_eq (slice_cmp nat_cmp text first)) (both (is_utf8 first) _ parts.0 (with_utf8 later text parts.1 one))
  where
    by : (less same : Bool) → list_all is_utf8 (first ∷ with_text later text) ≡ true
        → list_all is_utf8 (cond less (text ∷ first ∷ later) (cond same (first ∷ later) (first ∷ with_text later text))) ≡ true
    by true same e = both (is_utf8 text) _ one h
    by false true e = h
    by false false e = e

all_with_utf8 : (texts more : List (List ℕ)) → list_all is_utf8 texts ≡ true → list_all is_utf8 more ≡ true → list_all is_utf8 (fold with_text texts more) ≡ true
all_with_utf8 texts [] h k = h
all_with_utf8 texts (t ∷ ts) h k =
    let parts = and_parts (is_utf8 t) (list_all is_utf8 ts) k in
    all_with_utf8 (with_text texts t) ts (with_utf8 texts t h parts.0) parts.1

-- ---- files that are taken

module _ (files : List NamedBytes) (main : List ℕ) where
  pub all_taken_named : (before later : List AddedFile) (n : ℕ) → AreTakenAfter files main before later →
      list_all (λ (d : Placed). members_pass has_names d.declaration) (placed_from n (trees later)) ≡ true
  all_taken_named before [] n t = refl
  all_taken_named before (added ∷ later) n t =
      let taken : IsTaken files before t.0.0 added = t.0.2 in
      let decls = (file_tree added.file).decls in
      let named = tree_names (file_tree added.file) taken.tokens taken.read.spelled (readable_tokens (length before) taken.source taken.tokens taken.read.cut) in
      list_all-append (λ (d : Placed). members_pass has_names d.declaration) (placed_in n 0 decls) (placed_from (n + 1) (trees later))
      ∙ both _ _ (placed_named n 0 decls named) (all_taken_named (before ++ added ∷ []) later (n + 1) t.1)

  all_taken_texts : (before later : List AddedFile) → AreTakenAfter files main before later → list_all is_utf8 (flat_map (λ (f : FileTree). texts_of_all f.decls) (trees later)) ≡ true
  all_taken_texts before [] t = refl
  all_taken_texts before (added ∷ later) t =
      let taken : IsTaken files before t.0.0 added = t.0.2 in
      let tree = file_tree added.file in
      let texts = tree_texts tree taken.tokens taken.read.spelled (readable_tokens (length before) taken.source taken.tokens taken.read.cut) in
      list_all-append is_utf8 (texts_of_all tree.decls) (flat_map (λ (f : FileTree). texts_of_all f.decls) (trees later))
      ∙ both _ _ texts (all_taken_texts (before ++ added ∷ []) later t.1)

  pub program_texts : (program : List AddedFile) → AreTakenAfter files main [] program → list_all is_utf8 (texts_of (trees program)) ≡ true
  program_texts program t =
      all_with_utf8 ([] ∷ []) (flat_map (λ (f : FileTree). texts_of_all f.decls) (trees program))
      (both (is_utf8 []) true (is_utf8-from_IsUtf8 [] IsUtf8-nil) refl) (all_taken_texts [] program t)

-- ---- types

pub scene_texts : (p : Program) (t : ℕ) (setting : Setting) → list_all is_utf8 (texts_of p.files) ≡ true → list_all is_utf8 (scene (types_of p) t setting).texts ≡ true
unfolding types_of
scene_texts p t setting h = h

named_fields : (ts : Types) → AllMembers has_names ts → (t : ℕ) (f : Field) → In f (fields ts t) → is_name f.name.text ≡ true
named_fields ts formed t f i =
    let g = flat_map_in (λ (m : Member). fields_declared m m.written.member) (members ts t) f i in
    by g.0 g.0.written.member (formed.members t g.0 g.1) g.2
  where
    by : (m : Member) (tree : MemberTree) → has_names tree ≡ true → In f (fields_declared m tree) → is_name f.name.text ≡ true
    by m (MemberTree.Field x) h j =
        let g = map_in (λ (i : Ident). record { name = i; tree = x; holder = m.holder; under = m.under }) x.names f j in
        subst (λ (z : Field). is_name z.name.text ≡ true) (sym g.2) (all_at (λ (i : Ident). is_name i.text) x.names h g.0 g.1)
    by m (MemberTree.Rule r) h j = absurd j
    by m (MemberTree.Do place phase) h j = absurd j

pub program_fields : (p : Program) → list_all (λ (d : Placed). members_pass has_names d.declaration) (placed_from 0 p.files) ≡ true → (t : ℕ) (f : Field) → In f (fields (types_of p) t) → is_name f.name.text ≡ true
program_fields p h = named_fields (types_of p) (all_members has_names p h)
