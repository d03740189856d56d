-- The fields of a part of a row of members, by what is worked out of the row.
use Rattle.std.proofs.Common.{◌≡◌, ◌∙◌, refl, sym, ap, ℕ, zero, suc, ◌+◌, List, [], ◌∷◌, ◌++◌, Option, Some, None, arith, map, length, take, drop, slice_index_or, length-append, bytes_eq, option_map}
use Rattle.std.specs.Prelude.{find, option_and_then, slice_get}
use Rattle.std.specs.Option.{option_map_or}
use Rattle.std.proofs.lemmas.List.{append_assoc, length-map, map-append}
use Rattle.std.proofs.Math.Seq.{drop-append-add, drop-nil, take-append-add}
use Rattle.dsl_tree.specs.declared.parts.Ident.{Ident}
use Rattle.dsl_tree.specs.FileTree.{FieldTree, MemberTree}
use Rattle.type_heads.specs.Members.{fields_among, fields_declared}
use Rattle.type_heads.specs.Types.{Field, Member}
use Rattle.program_fields.specs.Parts.{all_ends, end_of, ends_from, facts_of, field_at, field_with, has_text, one_field, spots_between, spots_from, spots_in, with_number}
use Rattle.program_fields.specs.SeenFields.{has_name}
use Rattle.program_fields.proofs.Agreeing.{found, got, part_agree}

-- each name leads to its field

at_end : {X : Type 0} (before : List X) (x : X) (xs : List X) → slice_get (before ++ x ∷ xs) (length before) ≡ Some x
at_end [] x xs = refl
at_end (b ∷ bs) x xs = at_end bs x xs

names_law : (all : List Member) (n : ℕ) (m : Member) (f : FieldTree) → slice_get all n ≡ Some m → m.written.member ≡ MemberTree.Field f → (names : List Ident) →
    map (field_at all) (map (with_number n) names) ≡ map Some (map (one_field m f) names)
names_law all n m f at is [] = refl
names_law all n m f at is (i ∷ later) =
    let first : field_at all (i, n) ≡ Some (one_field m f i) =
    ap (option_and_then (λ (m : Member). field_with i m m.written.member)) at ∙ ap (field_with i m) is in
    λ k. first k ∷ names_law all n m f at is later k

member_law : (all : List Member) (n : ℕ) (m : Member) → slice_get all n ≡ Some m → (tree : MemberTree) → m.written.member ≡ tree →
    map (field_at all) (spots_in n tree) ≡ map Some (fields_declared m tree)
member_law all n m at (MemberTree.Field f) is = names_law all n m f at is f.names
member_law all n m at (MemberTree.Rule r) is = refl
member_law all n m at (MemberTree.Do place phase) is = refl

spots_law : (before ms : List Member) → map (field_at (before ++ ms)) (spots_from (length before) ms) ≡ map Some (fields_among ms)
spots_law before [] = refl
spots_law before (m ∷ ms) =
    let all : List Member = before ++ m ∷ ms in
    let longer : length (before ++ m ∷ []) ≡ length before + 1 = length-append before (m ∷ []) in
    let first : map (field_at all) (spots_in (length before) m.written.member) ≡ map Some (fields_declared m m.written.member) =
    member_law all (length before) m (at_end before m ms) m.written.member refl in
    let later : map (field_at all) (spots_from (length before + 1) ms) ≡ map Some (fields_among ms) =
    sym (λ k. map (field_at (append_assoc before (m ∷ []) ms k)) (spots_from (longer k) ms)) ∙ spots_law (before ++ m ∷ []) ms in
    map-append (field_at all) (spots_in (length before) m.written.member) (spots_from (length before + 1) ms)
    ∙ (λ k. first k ++ later k)
    ∙ sym (map-append Some (fields_declared m m.written.member) (fields_among ms))

all_law : (ms : List Member) → map (field_at ms) (spots_from 0 ms) ≡ map Some (fields_among ms)
all_law ms = spots_law [] ms

count_is : (ms : List Member) → length (spots_from 0 ms) ≡ length (fields_among ms)
count_is ms = sym (length-map (spots_from 0 ms) (field_at ms)) ∙ ap length (all_law ms) ∙ length-map (fields_among ms) Some

-- how many fields the first members declare

split_length : (m : Member) (ms : List Member) → length (fields_among (m ∷ ms)) ≡ length (fields_declared m m.written.member) + length (fields_among ms)
split_length m ms = length-append (fields_declared m m.written.member) (fields_among ms)

end_is : (n : ℕ) (ms : List Member) (k : ℕ) → slice_index_or (n ∷ ends_from n ms) k (n + length (fields_among ms)) ≡ n + length (fields_among (take k ms))
end_is n ms zero = omega arith
end_is n [] (suc k) = refl
end_is n (m ∷ ms) (suc k) =
    let e : ℕ = length (fields_declared m m.written.member) in
    let all : n + length (fields_among (m ∷ ms)) ≡ (n + e) + length (fields_among ms) = omega (arith, split_length m ms) in
    let first : n + length (fields_among (m ∷ take k ms)) ≡ (n + e) + length (fields_among (take k ms)) = omega (arith, split_length m (take k ms)) in
    ap (slice_index_or ((n + e) ∷ ends_from (n + e) ms) k) all ∙ end_is (n + e) ms k ∙ sym first

-- with nothing before the first
plus_zero : (n : ℕ) → 0 + n ≡ n
plus_zero n = omega arith

end_law : (k : ℕ) (ms : List Member) → end_of k ms ≡ length (fields_among (take k ms))
end_law k ms =
    ap (slice_index_or (all_ends ms) k) (count_is ms ∙ sym (plus_zero (length (fields_among ms))))
    ∙ end_is 0 ms k
    ∙ plus_zero (length (fields_among (take k ms)))

first_fields : (k : ℕ) (ms : List Member) → take (length (fields_among (take k ms))) (fields_among ms) ≡ fields_among (take k ms)
first_fields zero ms = refl
first_fields (suc k) [] = refl
first_fields (suc k) (m ∷ ms) =
    ap (λ n. take n (fields_among (m ∷ ms))) (split_length m (take k ms))
    ∙ take-append-add (fields_declared m m.written.member) (fields_among ms) (length (fields_among (take k ms)))
    ∙ ap (λ fs. fields_declared m m.written.member ++ fs) (first_fields k ms)

-- without the fields of the first k members there are those of the others
later_fields : (k n : ℕ) (ms : List Member) → drop (length (fields_among (take k ms))) (fields_among (take n ms)) ≡ fields_among (drop k (take n ms))
later_fields zero n ms = refl
later_fields (suc k) zero ms = drop-nil (length (fields_among (take (suc k) ms)))
later_fields (suc k) (suc n) [] = refl
later_fields (suc k) (suc n) (m ∷ ms) =
    ap (λ c. drop c (fields_among (m ∷ take n ms))) (split_length m (take k ms))
    ∙ drop-append-add (fields_declared m m.written.member) (fields_among (take n ms)) (length (fields_among (take k ms)))
    ∙ later_fields k n ms

between_law : (from to : ℕ) (ms : List Member) → map (field_at ms) (spots_between from to ms) ≡ map Some (fields_among (drop from (take to ms)))
between_law from to ms =
    part_agree (field_at ms) (end_of from ms) (end_of to ms) (spots_from 0 ms) (fields_among ms) (all_law ms)
    ∙ ap (map Some)
    ((λ i. drop (end_law from ms i) (take (end_law to ms i) (fields_among ms)))
    ∙ ap (drop (length (fields_among (take from ms)))) (first_fields to ms)
    ∙ later_fields from to ms)

-- how many fields there are
pub count_law : (from to : ℕ) (ms : List Member) → length (spots_between from to ms) ≡ length (fields_among (drop from (take to ms)))
count_law from to ms =
    sym (length-map (spots_between from to ms) (field_at ms))
    ∙ ap length (between_law from to ms)
    ∙ length-map (fields_among (drop from (take to ms))) Some

-- the field of a number
pub field_law : (from to : ℕ) (ms : List Member) (number : ℕ) →
    option_and_then (field_at ms) (slice_get (spots_between from to ms) number) ≡ slice_get (fields_among (drop from (take to ms))) number
field_law from to ms number = got (field_at ms) (spots_between from to ms) (fields_among (drop from (take to ms))) (between_law from to ms) number

with_name : (i : Ident) (m : Member) (tree : MemberTree) (f : Field) → field_with i m tree ≡ Some f → i ≡ f.name
with_name i m (MemberTree.Field t) f e = ap (λ o. option_map_or (λ (x : Field). x.name) o i) e
with_name i m (MemberTree.Rule r) f e = let never : None ≡ Some f = e in cc
with_name i m (MemberTree.Do place phase) f e = let never : None ≡ Some f = e in cc

named_at : (i : Ident) (o : Option Member) (f : Field) → option_and_then (λ (m : Member). field_with i m m.written.member) o ≡ Some f → i ≡ f.name
named_at i None f e = let never : None ≡ Some f = e in cc
named_at i (Some m) f e = with_name i m m.written.member f e

-- the field of a name
pub named_law : (from to : ℕ) (ms : List Member) (name : List ℕ) →
    option_and_then (field_at ms) (find (has_text name) (spots_between from to ms)) ≡ find (has_name name) (fields_among (drop from (take to ms)))
named_law from to ms name =
    found (field_at ms) (has_text name) (has_name name) (λ s f e. ap (λ (i : Ident). bytes_eq i.text name) (named_at s.0 (slice_get ms s.1) f e))
    (spots_between from to ms) (fields_among (drop from (take to ms))) (between_law from to ms)

-- Rows

abbrev pub Facts : Type 0
Facts = List (Ident × ℕ) × List ℕ × List ℕ

pub row_there : (rows : List (List Member)) (n : ℕ) (x : Facts) → Some x ≡ option_map facts_of (slice_get rows n) → x ≡ facts_of (slice_index_or rows n [])
row_there [] n x e = let never : Some x ≡ None = e in cc
row_there (ms ∷ rows) zero x e = ap (λ o. option_map_or (λ (y : Facts). y) o x) e
row_there (ms ∷ rows) (suc n) x e = row_there rows n x e

pub row_missing : (rows : List (List Member)) (n : ℕ) → None ≡ option_map facts_of (slice_get rows n) → slice_index_or rows n [] ≡ []
row_missing [] n e = refl
row_missing (ms ∷ rows) zero e = let never : None ≡ Some (facts_of ms) = e in cc
row_missing (ms ∷ rows) (suc n) e = row_missing rows n e
