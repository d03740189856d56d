-- The numbers of an enum without a fault are distinct and small, and those of its range ascend.
use Rattle.std.proofs.Common.{◌≡◌, ℕ, ◌+◌, ◌≤◌, refl, sym, ◌∙◌, subst, ◌⊎◌, inl, inr, List, [], ◌∷◌, Bool, true, false, cond, Option, Some, None, map, length, arith, true≢false}
use Rattle.std.specs.Prelude.{⊤, ℤ, pos, nat_eq, nat_lt, bytes_eq, int_le, int_lt, find, option_map}
use Rattle.std.specs.Option.{option_map_or}
use Rattle.std.specs.List.{list_any, list_all}
use Rattle.std.proofs.lemmas.Int.{ints}
use Rattle.expansion_laws.specs.dsl_tree.declared.enums.EnumItem.{EnumItem}
use Rattle.expansion_laws.specs.type_heads.Form.{EnumMember, greatest_value}
use Rattle.expansion_laws.specs.type_heads.Table.{number_of}
use Rattle.expansion_laws.specs.type_heads.Bounds.{inserted, ascending, numbers_of}
use Rattle.expansion_laws.specs.type_heads.HeadingFaults.{shares_item, item_rows}
use Rattle.expansion_laws.specs.type_heads.DeclaredTypes.{numbered_from}
use Rattle.expansion_laws.specs.expr_nodes.Sizes.{field_reach}
use Rattle.expansion_laws.specs.expr_nodes.Parts.{any_holds}
use Rattle.expansion_laws.specs.composition.declared.spot.ValueRange.{ValueRange}
use Rattle.expansion_laws.specs.composition.Invariants.{is_small, is_range}
use Rattle.field_flatten.specs.Exactness.{is_ascending, is_ordered_range}
use Rattle.field_flatten.proofs.Tests.{both, In, map_in, all_from, found_in}
use Rattle.scene_laws.proofs.FaultRows.{no_left, no_right}
use Rattle.scene_laws.proofs.LowestTerms.{below}

filled : {A : Type 0} (x : A) (xs : List A) → nat_lt 0 (length (x ∷ xs)) ≡ true
filled x xs = grind arith

-- ---- members without a fault

-- each member has a number that is small and that no earlier one has
abbrev AreFresh : List EnumMember → List EnumMember → Type 0
AreFresh earlier [] = ⊤
AreFresh earlier (m ∷ ms) = (list_any (shares_item m) earlier ≡ false) × (m.number ≤ greatest_value) × AreFresh (m ∷ earlier) ms

fresh_from : (earlier : List EnumMember) (n : ℕ) (items : List EnumItem) → any_holds (item_rows earlier items (numbered_from n items)) ≡ false → AreFresh earlier (numbered_from n items)
fresh_from earlier n [] h = tt
fresh_from earlier n (i ∷ is) h =
    let m : EnumMember = record { name = i.name.text; number = option_map_or (λ d. d.digits) i.number n } in
    let rest = no_right (list_any (shares_item m) earlier) _ h in (
      no_left (list_any (shares_item m) earlier) _ h,
      below greatest_value m.number (no_left (nat_lt greatest_value m.number) _ rest),
      fresh_from (m ∷ earlier) (m.number + 1) is (no_right (nat_lt greatest_value m.number) _ rest),
    )

-- of members that are fresh after some, each is small
pub fresh_small : (earlier ms : List EnumMember) → AreFresh earlier ms → (m : EnumMember) → In m ms → m.number ≤ greatest_value
fresh_small earlier [] f m i = absurd i
fresh_small earlier (x ∷ xs) f m (inl e) = rw e f.1
fresh_small earlier (x ∷ xs) f m (inr i) = fresh_small (x ∷ earlier) xs f.2 m i

-- no number of fresh members is one of an earlier member
apart_from : (earlier ms : List EnumMember) → AreFresh earlier ms → (k : EnumMember) → In k earlier → (m : EnumMember) → In m ms → nat_eq m.number k.number ≡ false
apart_from earlier [] f k i m j = absurd j
apart_from earlier (x ∷ xs) f k i m (inl e) = rw e (by earlier f.0 i)
  where
    by : (ks : List EnumMember) → list_any (shares_item x) ks ≡ false → In k ks → nat_eq x.number k.number ≡ false
    by [] h l = absurd l
    by (y ∷ ys) h (inl same) = rw same (no_right (bytes_eq x.name y.name) (nat_eq x.number y.number) (no_left (shares_item x y) _ h))
    by (y ∷ ys) h (inr l) = by ys (no_right (shares_item x y) _ h) l
apart_from earlier (x ∷ xs) f k i m (inr j) = apart_from (x ∷ earlier) xs f.2 k (inr i) m j

-- ---- ascending numbers

-- each number is less than those after it
abbrev Rising : List ℤ → Type 0
Rising [] = ⊤
Rising (n ∷ ns) = ((m : ℤ) → In m ns → int_lt n m ≡ true) × Rising ns

in_inserted : (n : ℤ) (ns : List ℤ) (m : ℤ) → In m (inserted n ns) → (m ≡ n) ⊎ In m ns
in_inserted n [] m i = i
in_inserted n (k ∷ ks) m i = by (int_le n k) i (in_inserted n ks m)
  where
    by : (b : Bool) → In m (cond b (n ∷ k ∷ ks) (k ∷ inserted n ks)) → (In m (inserted n ks) → (m ≡ n) ⊎ In m ks) → (m ≡ n) ⊎ In m (k ∷ ks)
    by true j f = j
    by false (inl e) f = inr (inl e)
    by false (inr j) f = elim (f j) as (λ _. (m ≡ n) ⊎ In m (k ∷ ks)) [ inl e ↦ inl e | inr l ↦ inr (inr l) ]

less_of : (n k : ℤ) → int_le n k ≡ true → (n ≡ k → ⊥) → int_lt n k ≡ true
less_of n k h different = grind (arith, ints)

less_back : (n k : ℤ) → int_le n k ≡ false → int_lt k n ≡ true
less_back n k h = grind (arith, ints)

less_more : (a b c : ℤ) → int_lt a b ≡ true → int_lt b c ≡ true → int_lt a c ≡ true
less_more a b c p q = grind (arith, ints)

rising_inserted : (n : ℤ) (ns : List ℤ) → ((m : ℤ) → In m ns → n ≡ m → ⊥) → Rising ns → Rising (inserted n ns)
rising_inserted n [] f r = (λ m i. absurd i, tt)
rising_inserted n (k ∷ ks) f r = by (int_le n k) refl (rising_inserted n ks (λ m i. f m (inr i)) r.1)
  where
    by : (b : Bool) → int_le n k ≡ b → Rising (inserted n ks) → Rising (cond b (n ∷ k ∷ ks) (k ∷ inserted n ks))
    by true e rest = (first, r)
      where
        here : int_lt n k ≡ true
        here = less_of n k e (f k (inl refl))

        first : (m : ℤ) → In m (k ∷ ks) → int_lt n m ≡ true
        first m (inl same) = rw same here
        first m (inr i) = less_more n k m here (r.0 m i)
    by false e rest = (first, rest)
      where
        first : (m : ℤ) → In m (inserted n ks) → int_lt k m ≡ true
        first m i = elim (in_inserted n ks m i) as (λ _. int_lt k m ≡ true) [
          | inl same ↦ rw same (less_back n k e)
          | inr j ↦ r.0 m j
        ]

in_ascending : (ns : List ℤ) (m : ℤ) → In m (ascending ns) → In m ns
in_ascending [] m i = absurd i
in_ascending (n ∷ ns) m i = elim (in_inserted n (ascending ns) m i) as (λ _. In m (n ∷ ns)) [
  | inl e ↦ inl e
  | inr j ↦ inr (in_ascending ns m j)
]

abbrev numbers : List EnumMember → List ℤ
numbers ms = map (λ (m : EnumMember). pos m.number) ms

pos_is : (a b : ℕ) → pos a ≡ pos b → nat_eq b a ≡ true
pos_is a b h = grind (arith, ints)

rising_numbers : (earlier ms : List EnumMember) → AreFresh earlier ms → Rising (ascending (numbers ms))
rising_numbers earlier [] f = tt
rising_numbers earlier (x ∷ xs) f = rising_inserted (pos x.number) (ascending (numbers xs)) other (rising_numbers (x ∷ earlier) xs f.2)
  where
    other : (m : ℤ) → In m (ascending (numbers xs)) → pos x.number ≡ m → ⊥
    other m i same =
        let g = map_in (λ (m : EnumMember). pos m.number) xs m (in_ascending (numbers xs) m i) in
        true≢false (sym (pos_is x.number g.0.number (same ∙ g.2)) ∙ apart_from (x ∷ earlier) xs f.2 x (inl refl) g.0 g.1)

is_rising : (ns : List ℤ) → Rising ns → is_ascending ns ≡ true
is_rising [] r = refl
is_rising (n ∷ []) r = refl
is_rising (n ∷ m ∷ ns) r = both (int_lt n m) (is_ascending (m ∷ ns)) (r.0 m (inl refl)) (is_rising (m ∷ ns) r.1)

length_inserted : (n : ℤ) (ns : List ℤ) → nat_lt 0 (length (inserted n ns)) ≡ true
length_inserted n [] = refl
length_inserted n (k ∷ ks) = by (int_le n k)
  where
    by : (b : Bool) → nat_lt 0 (length (cond b (n ∷ k ∷ ks) (k ∷ inserted n ks))) ≡ true
    by true = filled n (k ∷ ks)
    by false = filled k (inserted n ks)

small_pos : (n : ℕ) → n ≤ greatest_value → is_small (pos n) ≡ true
small_pos n h = grind (arith, ints)

-- ---- enums

-- an enum with a member, all of its numbers distinct and small
pub record IsEnum (members : List EnumMember) : Type 0 where
  pub some : nat_lt 0 (length members) ≡ true
  pub fresh : AreFresh [] members

pub enum_is : (n : ℕ) (items : List EnumItem) → nat_lt 0 (length items) ≡ true → any_holds (item_rows [] items (numbered_from n items)) ≡ false → IsEnum (numbered_from n items)
enum_is n [] some h = absurd (true≢false (sym some))
enum_is n (i ∷ is) some h = record { some = filled (record { name = i.name.text; number = option_map_or (λ d. d.digits) i.number n }) (numbered_from (option_map_or (λ d. d.digits) i.number n + 1) is); fresh = fresh_from [] n (i ∷ is) h }

pub enum_range : (members : List EnumMember) → IsEnum members → is_range (ValueRange.Among (numbers_of members)) ≡ true
enum_range [] e = absurd (true≢false (sym e.some))
enum_range (m ∷ ms) e =
    both (nat_lt 0 (length (numbers_of (m ∷ ms)))) (list_all is_small (numbers_of (m ∷ ms))) (length_inserted (pos m.number) (ascending (numbers ms)))
    (all_from is_small (numbers_of (m ∷ ms)) (λ n i.
    let g = map_in (λ (m : EnumMember). pos m.number) (m ∷ ms) n (in_ascending (numbers (m ∷ ms)) n i) in
    subst (λ z. is_small z ≡ true) (sym g.2) (small_pos g.0.number (fresh_small [] (m ∷ ms) e.fresh g.0 g.1))))

pub enum_ordered : (members : List EnumMember) → IsEnum members → is_ordered_range (ValueRange.Among (numbers_of members)) ≡ true
enum_ordered members e = is_rising (numbers_of members) (rising_numbers [] members e.fresh)

pub enum_small : (members : List EnumMember) → IsEnum members → (name : List ℕ) (n : ℕ) → number_of members name ≡ Some n → n ≤ field_reach
enum_small members e name n h = by (find (λ m. bytes_eq m.name name) members) refl h
  where
    by : (o : Option EnumMember) → find (λ m. bytes_eq m.name name) members ≡ o → option_map (λ m. m.number) o ≡ Some n → n ≤ field_reach
    by None is k = cc
    by (Some m) is k = let same : m.number ≡ n = cc in subst (λ z. z ≤ field_reach) same (fresh_small [] members e.fresh m (found_in (λ m. bytes_eq m.name name) members m is).0)
