-- Going through the members of an enum.
use Rattle.std.proofs.Common.{◌≡◌, ◌∙◌, refl, sym, ap, ℕ, ◌+◌, ◌<◌, Bool, true, false, ◌||◌, List, [], ◌∷◌, ◌++◌, Option, nat_lt, take, length, get_or, append_assoc, append-nil, flat_map, nat_eq, subst}
use Rattle.std.proofs.lemmas.List.{map-append}
use Rattle.std.proofs.lemmas.List.Concat.{flat_map-append}
use Rattle.std.specs.Option.{option_map_or}
use Rattle.std.proofs.lemmas.List.{take_more}
use Rattle.type_members.specs.osc_base.declared.fault.Fault.{Fault}
use Rattle.type_members.specs.osc_base.declared.fault.FaultCode.{FaultCode}
use Rattle.type_members.specs.osc_base.FaultRows.{FaultRow, row, row_fault, first_of, first_from}
use Rattle.type_members.specs.dsl_tree.declared.enums.EnumItem.{EnumItem}
use Rattle.type_members.specs.type_heads.Form.{EnumMember, greatest_value}
use Rattle.std.proofs.Common.{cond, filter, map}
use Rattle.type_members.specs.dsl_tree.FileTree.{DeclarationTree}
use Rattle.type_members.specs.type_heads.Table.{TypeHead, is_enum}
use Rattle.type_members.specs.type_heads.Placing.{seen_placed, seen_type}
use Rattle.type_members.specs.type_heads.Extending.{extends, type_extended}
use Rattle.type_members.specs.type_heads.declared.own_type.OwnType.{OwnType}
use Rattle.fault_sets.proofs.RowSteps.{done}
use Rattle.type_members.specs.type_heads.DeclaredTypes.{Placed, Declared, items_added, items_with, means, numbered_from}
use Rattle.type_members.specs.type_heads.HeadingFaults.{enum_rows_from, item_rows, number_place, shares_item}
use Rattle.heading_faults.specs.ItemSets.{has_item, HasItems, ContinuesItems, items_in, rows_of_items, rows_of_type}
use Rattle.type_members.specs.dsl_tree.Views.{declaration_tree}
use Rattle.heading_faults.specs.Trees.{trees}
use Rattle.type_members.specs.type_heads.declared.placed.PlacedDecl.{PlacedDecl}
use Rattle.heading_faults.specs.declared.items.ItemSet.{ItemSet}

pub one_item : (first found : Option Fault) (old new : ItemSet) (i : EnumItem) (number : ℕ) (is_met : Bool) →
    number ≡ option_map_or (λ d. d.digits) i.number old.next →
    is_met ≡ has_item old (record { name = i.name.text; number = number }) →
    ((other : EnumMember) → has_item new other ≡ (shares_item other (record { name = i.name.text; number = number }) || has_item old other)) →
    new.next ≡ number + 1 →
    found ≡ first_from first (row i.name.place FaultCode.Twice is_met ∷ row (number_place i) FaultCode.TooLarge (nat_lt greatest_value number) ∷ []) →
    ContinuesItems first old found new (i ∷ [])
one_item first found old new i number is_met numbered met more next now = λ earlier later has.
    let m : EnumMember = record { name = i.name.text; number = number } in
    let all : ℕ → Option Fault = λ k. first_from first (item_rows earlier (i ∷ later) (record { name = i.name.text; number = k } ∷ numbered_from (k + 1) later)) in
    let others : ℕ → List FaultRow = λ k. item_rows (m ∷ earlier) later (numbered_from k later) in
    let here : Bool → Option Fault = λ b. first_of (first_of first (row_fault (row i.name.place FaultCode.Twice b))) (row_fault (row (number_place i) FaultCode.TooLarge (nat_lt greatest_value number))) in (
      m ∷ earlier,
      (λ other. more other ∙ ap (λ b. shares_item other m || b) (has other)),
      ap all (sym numbered) ∙ ap (λ b. first_from (here b) (others (number + 1))) (sym (met ∙ has m)) ∙ ap (λ f. first_from f (others (number + 1))) (sym now)
          ∙ ap (λ k. first_from found (others k)) (sym next),
    )

pub no_items : (first : Option Fault) (met : ItemSet) → ContinuesItems first met first met []
no_items first met = λ earlier later has. (earlier, has, refl)

pub then_items : (first middle found : Option Fault) (old between new : ItemSet) (xs ys : List EnumItem) → ContinuesItems first old middle between xs →
    ContinuesItems middle between found new ys → ContinuesItems first old found new (xs ++ ys)
then_items first middle found old between new xs ys one other = λ earlier later has.
    let a = one earlier (ys ++ later) has in
    let b = other a.0 later a.1 in
    (b.0, b.1, ap (λ is. first_from first (item_rows earlier is (numbered_from old.next is))) (append_assoc xs ys later) ∙ a.2 ∙ b.2)

pub next_item : (first found found' : Option Fault) (old met met' : ItemSet) (items : List EnumItem) (n : ℕ) (i : EnumItem) → n < length items → i ≡ get_or items n i →
    ContinuesItems found met found' met' (i ∷ []) → ContinuesItems first old found met (take n items) → ContinuesItems first old found' met' (take (n + 1) items)
next_item first found found' old met met' items n i less is one before =
    let e : take n items ++ i ∷ [] ≡ take (n + 1) items = ap (λ x. take n items ++ x ∷ []) is ∙ sym (take_more items n i less) in
    subst (ContinuesItems first old found' met') e (then_items first found found' old met met' (take n items) (i ∷ []) before one)

-- one extension more
pub next_extension : (first found found' : Option Fault) (old met met' : ItemSet) (all : List PlacedDecl) (n : ℕ) (p : PlacedDecl) (items : List EnumItem) →
    n < length all → p ≡ get_or all n p → items ≡ items_in (declaration_tree p.declaration.now) →
    ContinuesItems found met found' met' items → ContinuesItems first old found met (flat_map items_in (trees (take n all))) →
    ContinuesItems first old found' met' (flat_map items_in (trees (take (n + 1) all)))
next_extension first found found' old met met' all n p items less is seen one before =
    let earlier : List EnumItem = flat_map items_in (trees (take n all)) in
    let e : earlier ++ items ≡ flat_map items_in (trees (take (n + 1) all)) =
    ap (λ xs. earlier ++ xs) (seen ∙ sym (append-nil (items_in (declaration_tree p.declaration.now))))
    ∙ sym (flat_map-append items_in (trees (take n all)) (trees (p ∷ [])))
    ∙ ap (flat_map items_in) (sym (map-append (λ (d : PlacedDecl). declaration_tree d.declaration.now) (take n all) (p ∷ [])))
    ∙ ap (λ x. flat_map items_in (trees (take n all ++ x ∷ []))) is
    ∙ ap (λ xs. flat_map items_in (trees xs)) (sym (take_more all n p less)) in
    subst (ContinuesItems first old found' met') e (then_items first found found' old met met' earlier items before one)

-- all items are done
pub all_items : (first found : Option Fault) (old new : ItemSet) (items : List EnumItem) → HasItems old [] → old.next ≡ 0 → ContinuesItems first old found new items → found ≡ first_from first (rows_of_items items)
all_items first found old new items has zero all =
    let done = all [] [] has in
    sym done.2 ∙ ap (λ is. first_from first (item_rows [] is (numbered_from old.next is))) (append-nil items)
    ∙ ap (λ k. first_from first (item_rows [] items (numbered_from k items))) zero

-- ---- All enums

one_added : (heads : List TypeHead) (t : ℕ) (p : PlacedDecl) (qs : List PlacedDecl) (d : DeclarationTree) → d ≡ declaration_tree p.declaration.now →
    items_added heads t d ++ flat_map items_in (trees qs) ≡ flat_map items_in (trees (cond (option_map_or (nat_eq t) (type_extended heads d) false) (p ∷ qs) qs))
one_added heads t p qs (DeclarationTree.EnumExtension d) is = by (means heads d.name t)
  where
    by : (b : Bool) → cond b d.items [] ++ flat_map items_in (trees qs) ≡ flat_map items_in (trees (cond b (p ∷ qs) qs))
    by true = ap (λ e. items_in e ++ flat_map items_in (trees qs)) is
    by false = refl
one_added heads t p qs (DeclarationTree.MemberExtension d) is = by (means heads d.name t)
  where
    by : (b : Bool) → flat_map items_in (trees qs) ≡ flat_map items_in (trees (cond b (p ∷ qs) qs))
    by true = ap (λ e. items_in e ++ flat_map items_in (trees qs)) is
    by false = refl
one_added heads t p qs (DeclarationTree.TypeDeclaration d) is = refl
one_added heads t p qs (DeclarationTree.UnitDeclaration d) is = refl
one_added heads t p qs (DeclarationTree.EnumDeclaration d) is = refl
one_added heads t p qs (DeclarationTree.CompoundDeclaration d) is = refl

-- what all declarations add to a type is what its extensions add
all_added : (heads : List TypeHead) (t : ℕ) (ps : List PlacedDecl) →
    flat_map (λ (d : Placed). items_added heads t d.declaration) (map seen_placed ps) ≡ flat_map items_in (trees (filter (λ (p : PlacedDecl). extends heads t (seen_placed p)) ps))
all_added heads t [] = refl
all_added heads t (p ∷ ps) =
    ap (λ is. items_added heads t (declaration_tree p.declaration.now) ++ is) (all_added heads t ps)
    ∙ one_added heads t p (filter (λ (q : PlacedDecl). extends heads t (seen_placed q)) ps) (declaration_tree p.declaration.now) refl

-- one type more
pub next_type : (heads : List TypeHead) (placed : List PlacedDecl) (t : ℕ) (extensions : List PlacedDecl) (own : OwnType) (types later : List OwnType) (goal found found' : Option Fault) →
    extensions ≡ filter (λ (p : PlacedDecl). extends heads t (seen_placed p)) placed → types ≡ own ∷ later →
    found' ≡ first_from found (rows_of_type (seen_type own) extensions) →
    goal ≡ first_from found (enum_rows_from heads (map seen_placed placed) t (map seen_type types)) →
    goal ≡ first_from found' (enum_rows_from heads (map seen_placed placed) (t + 1) (map seen_type later))
next_type heads placed t extensions own types later goal found found' grouped is now rest =
    let d : Declared = seen_type own in
    let all : List Placed = map seen_placed placed in
    let same : items_with heads all t d.items ≡ d.items ++ flat_map items_in (trees extensions) =
    ap (λ xs. d.items ++ xs) (all_added heads t placed ∙ ap (λ ps. flat_map items_in (trees ps)) (sym grouped)) in
    done (rows_of_items (cond (is_enum d.head.form) (items_with heads all t d.items) [])) (enum_rows_from heads all (t + 1) (map seen_type later)) found found' goal
    (now ∙ ap (λ xs. first_from found (rows_of_items (cond (is_enum d.head.form) xs []))) (sym same))
    (rest ∙ ap (λ ts. first_from found (enum_rows_from heads all t (map seen_type ts))) is)
