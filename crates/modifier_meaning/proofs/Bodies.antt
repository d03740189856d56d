-- The types of a program without modifiers.
use Rattle.std.proofs.Common.{◌≡◌, refl, sym, ap, ap₂, ◌∙◌, ℕ, ◌+◌, List, [], ◌∷◌, ◌++◌, map, Bool, true, false, cond, Option, Some}
use Rattle.std.specs.Prelude.{flat_map, filter_map, option_map}
use Rattle.std.proofs.lemmas.List.{map-append}
use Rattle.composition.specs.dsl_tree.declared.enums.EnumItem.{EnumItem}
use Rattle.composition.specs.dsl_tree.FileTree.{MemberTree, DeclarationTree, ModifierDeclTree, FileTree}
use Rattle.composition.specs.type_heads.Table.{TypeHead, TableField, TableUnit, all_types}
use Rattle.composition.specs.type_heads.Types.{TypeBody, Member, Types}
use Rattle.composition.specs.type_heads.Members.{members_of, table_fields, table_field}
use Rattle.composition.specs.type_heads.Units.{unit_declared, units_of}
use Rattle.composition.specs.type_heads.Texts.{texts_of}
use Rattle.composition.specs.type_heads.DeclaredTypes.{Placed, placed_in, placed_from, written_from, Declared, basic_types, compound, type_declared, all_declared, means, items_added, members_added, items_with, form_with, base_of, head_with, body_with, heads_from, bodies_from, declared_heads, types_from, types_of}
use Rattle.modifier_meaning.specs.Application.{declared_modifiers}
use Rattle.modifier_meaning.specs.Unfolded.{unfolded_member, unfolded_declaration, unfolded_tree}
use Rattle.modifier_meaning.specs.WrittenTexts.{written_texts}
use Rattle.modifier_meaning.specs.WrittenScene.{with_texts}
use Rattle.modifier_meaning.specs.UnfoldedTypes.{unfolded_written, unfolded_body, unfolded_line, unfolded_types, BodiesAgree}
use Rattle.modifier_meaning.proofs.Lists.{flat_alike, map_alike, map_flat, flat_of_map, map_of_map}
use Rattle.modifier_meaning.proofs.Members.{there_of_map, fields_same, members_of_mapped}
use Rattle.modifier_meaning.proofs.Texts.{texts_unfolded}

module _ (mods : List ModifierDeclTree) where
  -- ---- declarations in load order

  abbrev placed_new : Placed → Placed
  placed_new d = record d { declaration = unfolded_declaration mods d.declaration }

  in_file : (file index : ℕ) (ds : List DeclarationTree) → placed_in file index (map (unfolded_declaration mods) ds) ≡ map placed_new (placed_in file index ds)
  in_file file index [] = refl
  in_file file index (d ∷ ds) = ap (λ xs. placed_new (record { file = file; index = index; declaration = d }) ∷ xs) (in_file file (index + 1) ds)

  from_file : (file : ℕ) (files : List FileTree) → placed_from file (map (unfolded_tree mods) files) ≡ map placed_new (placed_from file files)
  from_file file [] = refl
  from_file file (f ∷ files) =
      ap₂ (λ a b. a ++ b) (in_file file 0 f.decls) (from_file (file + 1) files) ∙ sym (map-append placed_new (placed_in file 0 f.decls) (placed_from (file + 1) files))

  -- ---- declared types

  abbrev declared_new : Declared → Declared
  declared_new d = record d { body = unfolded_body mods d.body }

  pub written_mapped : (file declaration n : ℕ) (ms : List MemberTree) →
      written_from file declaration n (map (unfolded_member mods) ms) ≡ map (unfolded_written mods) (written_from file declaration n ms)
  written_mapped file declaration n [] = refl
  written_mapped file declaration n (m ∷ ms) =
      ap (λ xs. unfolded_written mods (record { file = file; declaration = declaration; index = n; member = m }) ∷ xs) (written_mapped file declaration (n + 1) ms)

  type_same : (file index : ℕ) (d : DeclarationTree) → type_declared file index (unfolded_declaration mods d) ≡ option_map declared_new (type_declared file index d)
  type_same file index (DeclarationTree.TypeDeclaration d) = refl
  type_same file index (DeclarationTree.UnitDeclaration d) = refl
  type_same file index (DeclarationTree.EnumDeclaration d) = refl
  type_same file index (DeclarationTree.CompoundDeclaration d) =
      λ i. Some (record (declared_new (compound file index d)) { body = record (unfolded_body mods (compound file index d).body) { own = written_mapped file index 0 d.members i } })
  type_same file index (DeclarationTree.MemberExtension d) = refl
  type_same file index (DeclarationTree.EnumExtension d) = refl

  all_mapped : (all : List Placed) → all_declared (map placed_new all) ≡ map declared_new (all_declared all)
  all_mapped all =
      ap (λ ds. basic_types ++ ds)
      (there_of_map placed_new (λ (d : Placed). type_declared d.file d.index d.declaration) declared_new (λ (d : Placed). type_declared d.file d.index d.declaration)
      (λ d. type_same d.file d.index d.declaration) all)
      ∙ sym (map-append declared_new basic_types (filter_map (λ (d : Placed). type_declared d.file d.index d.declaration) all))

  heads_same : (ds : List Declared) → map (λ (d : Declared). d.head) (map declared_new ds) ≡ map (λ (d : Declared). d.head) ds
  heads_same ds = map_of_map (λ (d : Declared). d.head) declared_new ds

  names_same : (all : List Placed) → declared_heads (map placed_new all) ≡ declared_heads all
  names_same all = ap (map (λ (d : Declared). d.head)) (all_mapped all) ∙ heads_same (all_declared all)

  -- ---- heads and bodies

  module _ (names : List TypeHead) (all : List Placed) where
    items_one : (t : ℕ) (d : DeclarationTree) → items_added names t (unfolded_declaration mods d) ≡ items_added names t d
    items_one t (DeclarationTree.TypeDeclaration d) = refl
    items_one t (DeclarationTree.UnitDeclaration d) = refl
    items_one t (DeclarationTree.EnumDeclaration d) = refl
    items_one t (DeclarationTree.CompoundDeclaration d) = refl
    items_one t (DeclarationTree.MemberExtension d) = refl
    items_one t (DeclarationTree.EnumExtension d) = refl

    items_same : (t : ℕ) (items : List EnumItem) → items_with names (map placed_new all) t items ≡ items_with names all t items
    items_same t items = ap (λ xs. items ++ xs)
        (flat_of_map (λ (d : Placed). items_added names t d.declaration) placed_new all
        ∙ flat_alike (λ (d : Placed). items_added names t (unfolded_declaration mods d.declaration)) (λ (d : Placed). items_added names t d.declaration) (λ d. items_one t d.declaration) all)

    head_same : (t : ℕ) (d : Declared) → head_with names (map placed_new all) t (declared_new d) ≡ head_with names all t d
    head_same t d = ap (λ items. record d.head { form = form_with items d.head.form; base = base_of names d.body }) (items_same t d.items)

    added_by : (b : Bool) (file index : ℕ) (ms : List MemberTree) →
        cond b (written_from file index 0 (map (unfolded_member mods) ms)) [] ≡ map (unfolded_written mods) (cond b (written_from file index 0 ms) [])
    added_by true file index ms = written_mapped file index 0 ms
    added_by false file index ms = refl

    members_one : (t : ℕ) (p : Placed) (d : DeclarationTree) → members_added names t (placed_new p) (unfolded_declaration mods d) ≡ map (unfolded_written mods) (members_added names t p d)
    members_one t p (DeclarationTree.TypeDeclaration d) = refl
    members_one t p (DeclarationTree.UnitDeclaration d) = refl
    members_one t p (DeclarationTree.EnumDeclaration d) = refl
    members_one t p (DeclarationTree.CompoundDeclaration d) = refl
    members_one t p (DeclarationTree.MemberExtension d) = added_by (means names d.name t) p.file p.index d.members
    members_one t p (DeclarationTree.EnumExtension d) = refl

    more_mapped : (t : ℕ) → flat_map (λ (p : Placed). members_added names t p p.declaration) (map placed_new all)
        ≡ map (unfolded_written mods) (flat_map (λ (p : Placed). members_added names t p p.declaration) all)
    more_mapped t =
        flat_of_map (λ (p : Placed). members_added names t p p.declaration) placed_new all
        ∙ flat_alike (λ (p : Placed). members_added names t (placed_new p) (unfolded_declaration mods p.declaration)) (λ (p : Placed). map (unfolded_written mods) (members_added names t p p.declaration)) (λ p. members_one t p p.declaration) all
        ∙ sym (map_flat (unfolded_written mods) (λ (p : Placed). members_added names t p p.declaration) all)

    body_same : (t : ℕ) (d : Declared) → body_with names (map placed_new all) t (declared_new d) ≡ unfolded_body mods (body_with names all t d)
    body_same t d = ap (λ more. record (unfolded_body mods d.body) { more = more }) (more_mapped t)

    pub heads_from_same : (t : ℕ) (ds : List Declared) → heads_from names (map placed_new all) t (map declared_new ds) ≡ heads_from names all t ds
    heads_from_same t [] = refl
    heads_from_same t (d ∷ ds) = ap₂ (λ a b. a ∷ b) (head_same t d) (heads_from_same (t + 1) ds)

    pub bodies_from_same : (t : ℕ) (ds : List Declared) → bodies_from names (map placed_new all) t (map declared_new ds) ≡ map (unfolded_body mods) (bodies_from names all t ds)
    bodies_from_same t [] = refl
    bodies_from_same t (d ∷ ds) = ap₂ (λ a b. a ∷ b) (body_same t d) (bodies_from_same (t + 1) ds)

  -- ---- units

  unit_one : (d : DeclarationTree) → unit_declared (unfolded_declaration mods d) ≡ unit_declared d
  unit_one (DeclarationTree.TypeDeclaration d) = refl
  unit_one (DeclarationTree.UnitDeclaration d) = refl
  unit_one (DeclarationTree.EnumDeclaration d) = refl
  unit_one (DeclarationTree.CompoundDeclaration d) = refl
  unit_one (DeclarationTree.MemberExtension d) = refl
  unit_one (DeclarationTree.EnumExtension d) = refl

  units_same : (files : List FileTree) → units_of (map (unfolded_tree mods) files) ≡ units_of files
  units_same files =
      flat_of_map (λ (f : FileTree). flat_map unit_declared f.decls) (unfolded_tree mods) files
      ∙ flat_alike (λ (f : FileTree). flat_map unit_declared (map (unfolded_declaration mods) f.decls)) (λ (f : FileTree). flat_map unit_declared f.decls)
      (λ f. flat_of_map unit_declared (unfolded_declaration mods) f.decls ∙ flat_alike (λ d. unit_declared (unfolded_declaration mods d)) unit_declared unit_one f.decls) files

  -- ---- types

  abbrev made : Option ℕ → List TypeHead → List TypeBody → List (List Member) → List (List TableField) → List TableUnit → List (List ℕ) → Types
  made library heads bodies members fields units texts =
      record { bodies = bodies; library = library; members = members; table = record { heads = heads; fields = fields; units = units; texts = texts } }

  members_all : (heads : List TypeHead) (bodies : List TypeBody) →
      map (members_of heads (map (unfolded_body mods) bodies)) (all_types heads) ≡ map (map (unfolded_line mods)) (map (members_of heads bodies) (all_types heads))
  members_all heads bodies =
      map_alike (members_of heads (map (unfolded_body mods) bodies)) (λ t. map (unfolded_line mods) (members_of heads bodies t)) (members_of_mapped mods heads bodies) (all_types heads)
      ∙ sym (map_of_map (map (unfolded_line mods)) (members_of heads bodies) (all_types heads))

  fields_all : (heads : List TypeHead) (ms : List (List Member)) → map (table_fields heads) (map (map (unfolded_line mods)) ms) ≡ map (table_fields heads) ms
  fields_all heads ms =
      map_of_map (table_fields heads) (map (unfolded_line mods)) ms
      ∙ map_alike (λ m. table_fields heads (map (unfolded_line mods) m)) (table_fields heads) (λ m. ap (filter_map (table_field heads)) (fields_same mods m)) ms

  -- the types of files without modifiers, given heads and bodies
  types_mapped : (files : List FileTree) (library : Option ℕ) (heads heads2 : List TypeHead) (bodies bodies2 : List TypeBody) →
      heads2 ≡ heads → bodies2 ≡ map (unfolded_body mods) bodies → texts_of (map (unfolded_tree mods) files) ≡ written_texts files →
      types_from (record { files = map (unfolded_tree mods) files; library = library }) heads2 bodies2
      ≡ unfolded_types mods (with_texts (written_texts files) (types_from (record { files = files; library = library }) heads bodies))
  types_mapped files library heads heads2 bodies bodies2 e f g =
      ap₂ (types_from (record { files = map (unfolded_tree mods) files; library = library })) e f
      ∙ (λ i. made library heads (map (unfolded_body mods) bodies) (members_all heads bodies i) (fields_of i) (units_same files i) (g i))
    where
      fields_of : map (table_fields heads) (map (members_of heads (map (unfolded_body mods) bodies)) (all_types heads)) ≡ map (table_fields heads) (map (members_of heads bodies) (all_types heads))
      fields_of = ap (map (table_fields heads)) (members_all heads bodies) ∙ fields_all heads (map (members_of heads bodies) (all_types heads))

  pub types_unfolded : (files : List FileTree) (library : Option ℕ) → texts_of (map (unfolded_tree mods) files) ≡ written_texts files →
      types_of (record { files = map (unfolded_tree mods) files; library = library })
      ≡ unfolded_types mods (with_texts (written_texts files) (types_of (record { files = files; library = library })))
  unfolding types_of
  types_unfolded files library g =
      types_mapped files library
      (heads_from (declared_heads (placed_from 0 files)) (placed_from 0 files) 0 (all_declared (placed_from 0 files)))
      (heads_from (declared_heads (placed_from 0 (map (unfolded_tree mods) files))) (placed_from 0 (map (unfolded_tree mods) files)) 0 (all_declared (placed_from 0 (map (unfolded_tree mods) files))))
      (bodies_from (declared_heads (placed_from 0 files)) (placed_from 0 files) 0 (all_declared (placed_from 0 files)))
      (bodies_from (declared_heads (placed_from 0 (map (unfolded_tree mods) files))) (placed_from 0 (map (unfolded_tree mods) files)) 0 (all_declared (placed_from 0 (map (unfolded_tree mods) files))))
      (heads_all (placed_from 0 files) (placed_from 0 (map (unfolded_tree mods) files)) (from_file 0 files))
      (bodies_all (placed_from 0 files) (placed_from 0 (map (unfolded_tree mods) files)) (from_file 0 files))
      g
    where
      heads_all : (all all2 : List Placed) → all2 ≡ map placed_new all → heads_from (declared_heads all2) all2 0 (all_declared all2) ≡ heads_from (declared_heads all) all 0 (all_declared all)
      heads_all all all2 e =
          ap (λ xs. heads_from (declared_heads xs) xs 0 (all_declared xs)) e
          ∙ ap₂ (λ names ds. heads_from names (map placed_new all) 0 ds) (names_same all) (all_mapped all)
          ∙ heads_from_same (declared_heads all) all 0 (all_declared all)

      bodies_all : (all all2 : List Placed) → all2 ≡ map placed_new all → bodies_from (declared_heads all2) all2 0 (all_declared all2) ≡ map (unfolded_body mods) (bodies_from (declared_heads all) all 0 (all_declared all))
      bodies_all all all2 e =
          ap (λ xs. bodies_from (declared_heads xs) xs 0 (all_declared xs)) e
          ∙ ap₂ (λ names ds. bodies_from names (map placed_new all) 0 ds) (names_same all) (all_mapped all)
          ∙ bodies_from_same (declared_heads all) all 0 (all_declared all)

pub bodies_agree : BodiesAgree
bodies_agree p = types_unfolded (declared_modifiers p.files) p.files p.library (texts_unfolded p.files)
