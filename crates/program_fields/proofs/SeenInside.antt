-- The fields and the `do` of a part whose members are seen from inside of conditional subtypes.
use Rattle.std.proofs.Common.{◌≡◌, ◌∙◌, refl, sym, ap, ap₂, ℕ, ◌+◌, List, [], ◌∷◌, ◌++◌, Option, Some, None, map, length, take, drop}
use Rattle.std.specs.Prelude.{find, option_and_then, option_map, slice_get, slice_index_or}
use Rattle.std.proofs.lemmas.List.{drop-map, length-map, take-map}
use Rattle.std.proofs.lemmas.Option.{slice_get-map}
use Rattle.dsl_tree.specs.FileTree.{MemberTree}
use Rattle.type_heads.specs.Members.{fields_among, fields_declared}
use Rattle.type_heads.specs.Types.{Member}
use Rattle.type_members.specs.Shared.{under_inside}
use Rattle.program_fields.specs.Parts.{dos_from, dos_in, ends_from, field_at, has_text, is_between, one_field, spots_between, spots_from, spots_in, the_do_in}
use Rattle.program_fields.specs.SeenFields.{first_do_in, has_name}
use Rattle.program_fields.proofs.DoPlaces.{do_law}
use Rattle.program_fields.proofs.Placed.{count_law, field_law, named_law}

-- what is made of a member that is found
module _ {X : Type 0} (make : Member → Option X) (k : ℕ) (ms : List Member) (n : ℕ) where
  pub made_inside : (o : Option Member) → o ≡ slice_get ms n → option_and_then (λ (m : Member). make (under_inside k m)) o ≡ option_and_then make (slice_get (map (under_inside k) ms) n)
  made_inside o at = mapped o ∙ ap (λ o. option_and_then make (option_map (under_inside k) o)) at ∙ ap (option_and_then make) (sym (slice_get-map (under_inside k) ms n))
    where
      mapped : (o : Option Member) → option_and_then (λ (m : Member). make (under_inside k m)) o ≡ option_and_then make (option_map (under_inside k) o)
      mapped None = refl
      mapped (Some m) = refl

-- from inside of none all is as it was
pub inside_none : (ms : List Member) → map (under_inside 0) ms ≡ ms
inside_none [] = refl
inside_none (m ∷ ms) = ap (λ rest. m ∷ rest) (inside_none ms)

module _ (k : ℕ) where
  -- what is worked out of a row doesn't depend on what its members are under
  spots_inside : (n : ℕ) (ms : List Member) → spots_from n (map (under_inside k) ms) ≡ spots_from n ms
  spots_inside n [] = refl
  spots_inside n (m ∷ ms) = ap (λ ss. spots_in n m.written.member ++ ss) (spots_inside (n + 1) ms)

  count_declared : (m : Member) (tree : MemberTree) → length (fields_declared (under_inside k m) tree) ≡ length (fields_declared m tree)
  count_declared m (MemberTree.Field f) = length-map f.names (one_field (under_inside k m) f) ∙ sym (length-map f.names (one_field m f))
  count_declared m (MemberTree.Rule r) = refl
  count_declared m (MemberTree.Do place phase) = refl

  ends_inside : (n : ℕ) (ms : List Member) → ends_from n (map (under_inside k) ms) ≡ ends_from n ms
  ends_inside n [] = refl
  ends_inside n (m ∷ ms) =
      ap (λ c. (n + c) ∷ ends_from (n + c) (map (under_inside k) ms)) (count_declared m m.written.member)
      ∙ ap (λ es. (n + length (fields_declared m m.written.member)) ∷ es) (ends_inside (n + length (fields_declared m m.written.member)) ms)

  dos_inside : (n : ℕ) (ms : List Member) → dos_from n (map (under_inside k) ms) ≡ dos_from n ms
  dos_inside n [] = refl
  dos_inside n (m ∷ ms) = ap (λ ds. dos_in n m ++ ds) (dos_inside (n + 1) ms)

  names_inside : (from to : ℕ) (ms : List Member) → spots_between from to (map (under_inside k) ms) ≡ spots_between from to ms
  names_inside from to ms =
      ap₂ (λ ss es. drop (slice_index_or (0 ∷ es) from (length ss)) (take (slice_index_or (0 ∷ es) to (length ss)) ss)) (spots_inside 0 ms) (ends_inside 0 ms)

  part_inside : (from to : ℕ) (ms : List Member) → drop from (take to (map (under_inside k) ms)) ≡ map (under_inside k) (drop from (take to ms))
  part_inside from to ms = ap (drop from) (take-map (under_inside k) to ms) ∙ drop-map (under_inside k) from (take to ms)

  module _ (from to : ℕ) (ms : List Member) where
    -- how many fields there are
    pub count_inside : length (spots_between from to ms) ≡ length (fields_among (map (under_inside k) (drop from (take to ms))))
    count_inside =
        ap length (sym (names_inside from to ms))
        ∙ count_law from to (map (under_inside k) ms)
        ∙ ap (λ xs. length (fields_among xs)) (part_inside from to ms)

    -- the field of a number
    pub field_inside : (number : ℕ) →
        option_and_then (field_at (map (under_inside k) ms)) (slice_get (spots_between from to ms) number) ≡ slice_get (fields_among (map (under_inside k) (drop from (take to ms)))) number
    field_inside number =
        ap (λ ss. option_and_then (field_at (map (under_inside k) ms)) (slice_get ss number)) (sym (names_inside from to ms))
        ∙ field_law from to (map (under_inside k) ms) number
        ∙ ap (λ xs. slice_get (fields_among xs) number) (part_inside from to ms)

    -- the field of a name
    pub named_inside : (name : List ℕ) →
        option_and_then (field_at (map (under_inside k) ms)) (find (has_text name) (spots_between from to ms)) ≡ find (has_name name) (fields_among (map (under_inside k) (drop from (take to ms))))
    named_inside name =
        ap (λ ss. option_and_then (field_at (map (under_inside k) ms)) (find (has_text name) ss)) (sym (names_inside from to ms))
        ∙ named_law from to (map (under_inside k) ms) name
        ∙ ap (λ xs. find (has_name name) (fields_among xs)) (part_inside from to ms)

    -- the first `do`
    pub do_inside : option_and_then the_do_in (option_and_then (slice_get (map (under_inside k) ms)) (find (is_between from to) (dos_from 0 ms)))
        ≡ first_do_in (map (under_inside k) (drop from (take to ms)))
    do_inside =
        ap (λ ds. option_and_then the_do_in (option_and_then (slice_get (map (under_inside k) ms)) (find (is_between from to) ds))) (sym (dos_inside 0 ms))
        ∙ do_law from to (map (under_inside k) ms)
        ∙ ap first_do_in (part_inside from to ms)
