-- The types of a program, put together from their parts.
use Rattle.std.proofs.Common.{◌≡◌, ◌∙◌, refl, sym, ap, ℕ, suc, ◌+◌, List, [], ◌∷◌, Option, map, length}
use Rattle.std.specs.Prelude.{flat_map, fold}
use Rattle.std.proofs.lemmas.List.{length-map}
use Rattle.string_texts.specs.type_heads.Table.{TypeHead, TableField, TableUnit, all_types, numbers_from}
use Rattle.string_texts.specs.type_heads.Types.{Program, TypeBody, Member, Types}
use Rattle.string_texts.specs.type_heads.Conditions.{Condition}
use Rattle.string_texts.specs.type_heads.Members.{members_of, table_fields}
use Rattle.string_texts.specs.type_heads.Texts.{declaration_exprs, texts_in, texts_of, with_text}
use Rattle.string_texts.specs.type_heads.Told.{MemberAt, Told, member_told, told}
use Rattle.string_texts.specs.type_heads.Units.{units_of}
use Rattle.string_texts.specs.type_heads.UnitsPlaced.{units_in}
use Rattle.string_texts.specs.type_heads.DeclaredTypes.{Placed, placed, types_from, types_of}
use Rattle.string_texts.specs.type_heads.HeadsGrouped.{all_heads}
use Rattle.string_texts.specs.type_heads.Bodied.{all_bodies, seen_body}
use Rattle.string_texts.specs.type_heads.declared.body.Body.{Body}
use Rattle.string_texts.specs.type_heads.Placing.{seen_placed}
use Rattle.string_texts.specs.type_heads.declared.placed.PlacedDecl.{PlacedDecl}
use Rattle.string_texts.proofs.of_type_heads.FileLists.{among, in_files, program_units}
use Rattle.type_tables.specs.Looked.{condition_of}
use Rattle.type_model.specs.Built.{AreMemberTables, AreProgramTables, HaveParts, texts_among}
use Rattle.type_model.specs.declared.parts.MemberTables.{MemberTables}
use Rattle.type_model.specs.declared.parts.ProgramTables.{ProgramTables}

-- Texts

pub texts_placed : (ps : List PlacedDecl) →
    fold with_text ([] ∷ []) (flat_map (λ p. flat_map texts_in (declaration_exprs (seen_placed p).declaration)) ps) ≡ texts_among (map seen_placed ps)
texts_placed ps = ap (fold with_text ([] ∷ [])) (among (λ d. flat_map texts_in (declaration_exprs d)) ps)

program_texts : (p : Program) → texts_among (placed p) ≡ texts_of p.files
program_texts p = ap (fold with_text ([] ∷ [])) (in_files (λ d. flat_map texts_in (declaration_exprs d)) 0 p.files)

-- Members

counted : {X : Type 0} (n : ℕ) (xs : List X) → length (numbers_from n xs) ≡ length xs
counted n [] = refl
counted n (x ∷ xs) = ap suc (counted (n + 1) xs)

pub list_count : (heads : List TypeHead) (bodies : List TypeBody) (lists : List (List Member)) → lists ≡ map (members_of heads bodies) (all_types heads) → length lists ≡ length heads
list_count heads bodies lists is = ap length is ∙ length-map (all_types heads) (members_of heads bodies) ∙ counted 0 heads

module _ (p : Program) (all : List Placed) (of_program : all ≡ placed p)
    (heads : List TypeHead) (same_heads : heads ≡ all_heads all)
    (bodies : List TypeBody) (same_bodies : bodies ≡ all_bodies all)
    (lists : List (List Member)) (same_lists : lists ≡ map (members_of heads bodies) (all_types heads))
  where
    types_are : types_from p (all_heads (placed p)) (all_bodies (placed p)) ≡ types_of p
    unfolding all_heads all_bodies types_of
    types_are = refl

    from_parts : types_from p heads bodies ≡ types_of p
    from_parts =
        ap (λ hs. types_from p hs bodies) (same_heads ∙ ap all_heads of_program)
        ∙ ap (types_from p (all_heads (placed p))) (same_bodies ∙ ap all_bodies of_program)
        ∙ types_are

    pub have_parts : HaveParts heads bodies lists (types_of p)
    have_parts = (
      ap (λ (ts : Types). ts.table.heads) (sym from_parts),
      ap (λ (ts : Types). ts.bodies) (sym from_parts),
      ap (λ (ts : Types). ts.members) (sym from_parts) ∙ sym same_lists,
    )

    -- types with these units and texts
    types_with : List (List Member) → List TableUnit → List (List ℕ) → Types
    types_with members units texts = record {
      bodies = bodies;
      library = p.library;
      members = members;
      table = record { heads = heads; fields = map (table_fields heads) members; units = units; texts = texts };
    }

    with_all : (units : List TableUnit) (texts : List (List ℕ)) → units ≡ units_in all → texts ≡ texts_among all → types_with lists units texts ≡ types_of p
    unfolding types_with types_of
    with_all units texts same_units same_texts =
        ap (λ ms. types_with ms units texts) same_lists
        ∙ ap (λ us. types_with (map (members_of heads bodies) (all_types heads)) us texts) (same_units ∙ ap units_in of_program ∙ program_units p)
        ∙ ap (types_with (map (members_of heads bodies) (all_types heads)) (units_of p.files)) (same_texts ∙ ap texts_among of_program ∙ program_texts p)
        ∙ from_parts

    pub told_types : (fields : List (List TableField)) (units : List TableUnit) (texts : List (List ℕ)) (members : List (List MemberAt)) (conditions : List (Option Condition)) →
        fields ≡ map (table_fields heads) lists → units ≡ units_in all → texts ≡ texts_among all → members ≡ map (map member_told) lists →
        conditions ≡ map (condition_of heads bodies lists) (all_types heads) →
        ◌≡◌ {A = Told} (record { table = record { heads = heads; fields = fields; units = units; texts = texts }; members = members; conditions = conditions }) (told (types_of p))
    unfolding types_with
    told_types fields units texts members conditions same_fields same_units same_texts same_members same_conditions =
        ap (λ fs. made fs members conditions) same_fields
        ∙ ap (λ ms. made (map (table_fields heads) lists) ms conditions) same_members
        ∙ ap (made (map (table_fields heads) lists) (map (map member_told) lists)) same_conditions
        ∙ ap told (with_all units texts same_units same_texts)
      where
        made : List (List TableField) → List (List MemberAt) → List (Option Condition) → Told
        made fs ms cs = record { table = record { heads = heads; fields = fs; units = units; texts = texts }; members = ms; conditions = cs }

pub told_parts : (p : Program) (all : List Placed) (of_program : all ≡ placed p) (heads : List TypeHead) (same_heads : heads ≡ all_heads all)
    (entries : List Body) (slice : List Body) → slice ≡ entries → map seen_body entries ≡ all_bodies all → (lists : List (List Member)) → lists ≡ map (members_of heads (map seen_body entries)) (all_types heads) →
    (m : MemberTables) → AreMemberTables heads (map seen_body slice) lists m → (t : ProgramTables) → AreProgramTables all heads t →
    ◌≡◌ {A = Told}
    (record {
      table = record { heads = heads; fields = m.fields; units = t.units; texts = t.texts };
      members = m.members;
      conditions = m.conditions.items;
    })
    (told (types_of p))
told_parts p all of_program heads same_heads entries slice same same_bodies lists same_lists m members t program =
    told_types p all of_program heads same_heads (map seen_body entries) same_bodies lists same_lists
    m.fields t.units t.texts m.members m.conditions.items
    members.fields program.units program.texts members.members
    (members.conditions ∙ ap (λ bs. map (condition_of heads (map seen_body bs) lists) (all_types heads)) same)

pub program_lists : (p : Program) (all : List Placed) → all ≡ placed p → (heads : List TypeHead) → heads ≡ all_heads all →
    map (members_of heads (all_bodies all)) (all_types heads) ≡ (types_of p).members
program_lists p all same heads same_heads =
    sym (have_parts p all same heads same_heads (all_bodies all) refl (map (members_of heads (all_bodies all)) (all_types heads)) refl).2
