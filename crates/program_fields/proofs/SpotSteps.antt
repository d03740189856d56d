-- The names of the fields of one member more, how many there are after it, and the places of `do`s.
use Rattle.std.proofs.Common.{◌≡◌, ◌∙◌, refl, sym, ap, ℕ, ◌+◌, ◌<◌, List, [], ◌∷◌, ◌++◌, map, length, drop, get_or, length-append}
use Rattle.std.proofs.lemmas.List.{append_assoc, drop_more, length-map}
use Rattle.dsl_tree.specs.declared.parts.Ident.{Ident}
use Rattle.dsl_tree.specs.FileTree.{MemberTree}
use Rattle.type_heads.specs.Members.{fields_declared}
use Rattle.type_heads.specs.Types.{Member}
use Rattle.type_members.specs.Listed.{seen_listed}
use Rattle.type_members.specs.declared.listed.ListedMember.{ListedMember}
use Rattle.program_fields.specs.Parts.{dos_from, dos_in, ends_from, one_field, spots_from, spots_in, with_number}
use Rattle.program_fields.specs.SeenSpots.{seen_spot}
use Rattle.program_fields.specs.declared.spots.FieldSpot.{FieldSpot}

spots_count : (n : ℕ) (m : Member) (tree : MemberTree) → length (spots_in n tree) ≡ length (fields_declared m tree)
spots_count n m (MemberTree.Field f) = length-map f.names (with_number n) ∙ sym (length-map f.names (one_field m f))
spots_count n m (MemberTree.Rule r) = refl
spots_count n m (MemberTree.Do place phase) = refl

module _ (members : List ListedMember) (i : ℕ) (m : ListedMember) (n : ℕ) (into into' : List FieldSpot) where
  from_here : i < length members → m ≡ get_or members i m → seen_listed m ∷ map seen_listed (drop (i + 1) members) ≡ map seen_listed (drop i members)
  from_here within is = ap (map seen_listed) (sym (drop_more members i m within ∙ ap (λ x. x ∷ drop (i + 1) members) (sym is)))

  pub spots_more : (all : List (Ident × ℕ)) → i < length members → m ≡ get_or members i m →
      map seen_spot into ++ spots_from n (map seen_listed (drop i members)) ≡ all → map seen_spot into' ≡ map seen_spot into ++ spots_in n (seen_listed m).written.member →
      map seen_spot into' ++ spots_from (n + 1) (map seen_listed (drop (i + 1) members)) ≡ all
  spots_more all within is so_far more =
      ap (λ ss. ss ++ spots_from (n + 1) (map seen_listed (drop (i + 1) members))) more
      ∙ append_assoc (map seen_spot into) (spots_in n (seen_listed m).written.member) (spots_from (n + 1) (map seen_listed (drop (i + 1) members)))
      ∙ ap (λ ms. map seen_spot into ++ spots_from n ms) (from_here within is)
      ∙ so_far

  pub ends_more : (ends ends' all : List ℕ) → i < length members → m ≡ get_or members i m →
      ends ++ ends_from (length into) (map seen_listed (drop i members)) ≡ all → map seen_spot into' ≡ map seen_spot into ++ spots_in n (seen_listed m).written.member →
      ends' ≡ ends ++ length into' ∷ [] → ends' ++ ends_from (length into') (map seen_listed (drop (i + 1) members)) ≡ all
  ends_more ends ends' all within is so_far more longer =
      let tree : MemberTree = (seen_listed m).written.member in
      let count : length into' ≡ length into + length (fields_declared (seen_listed m) tree) =
      sym (length-map into' seen_spot) ∙ ap length more ∙ length-append (map seen_spot into) (spots_in n tree)
      ∙ (λ k. length-map into seen_spot k + spots_count n (seen_listed m) tree k) in
      ap (λ es. es ++ ends_from (length into') (map seen_listed (drop (i + 1) members))) longer
      ∙ append_assoc ends (length into' ∷ []) (ends_from (length into') (map seen_listed (drop (i + 1) members)))
      ∙ ap (λ c. ends ++ c ∷ ends_from c (map seen_listed (drop (i + 1) members))) count
      ∙ ap (λ ms. ends ++ ends_from (length into) ms) (from_here within is)
      ∙ so_far

-- the places of the `do`s after one member more
pub dos_more : (members : List ListedMember) (i : ℕ) (m : ListedMember) (n : ℕ) (dos dos' all : List ℕ) → i < length members → m ≡ get_or members i m →
    dos ++ dos_from n (map seen_listed (drop i members)) ≡ all → dos' ≡ dos ++ dos_in n (seen_listed m) →
    dos' ++ dos_from (n + 1) (map seen_listed (drop (i + 1) members)) ≡ all
dos_more members i m n dos dos' all within is so_far more =
    ap (λ ds. ds ++ dos_from (n + 1) (map seen_listed (drop (i + 1) members))) more
    ∙ append_assoc dos (dos_in n (seen_listed m)) (dos_from (n + 1) (map seen_listed (drop (i + 1) members)))
    ∙ ap (λ ms. dos ++ dos_from n ms) (from_here members i m n [] [] within is)
    ∙ so_far
