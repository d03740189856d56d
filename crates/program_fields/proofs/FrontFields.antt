-- The fields and the first `do` of parts, one part at a time.
use Rattle.std.proofs.Common.{◌≡◌, ◌∙◌, refl, sym, ap, ℕ, zero, suc, ◌+◌, ◌-◌, ◌<◌, ◌≤◌, true, List, [], ◌∷◌, ◌++◌, Option, arith, length, get_or}
use Rattle.std.specs.Prelude.{find, filter_map, slice_get}
use Rattle.std.specs.Option.{option_or}
use Rattle.std.proofs.lemmas.List.Elements.{filter_map-append}
use Rattle.std.proofs.lemmas.List.Folds.{find-append}
use Rattle.std.proofs.lemmas.Grind.{flat_map-append}
use Rattle.type_heads.specs.Members.{fields_among, fields_declared}
use Rattle.type_heads.specs.Types.{Do, Field, Member}
use Rattle.type_members.specs.Shared.{members_in_part}
use Rattle.type_members.specs.declared.places.Part.{Part}
use Rattle.type_members.specs.declared.places.Span.{Span}
use Rattle.program_fields.specs.Parts.{the_do_in}
use Rattle.program_fields.specs.SeenFields.{first_do_in, has_name}
use Rattle.program_fields.proofs.Fronts.{left_at, one_more}

both : (xs ys : List Member) → fields_among (xs ++ ys) ≡ fields_among xs ++ fields_among ys
both xs ys = flat_map-append (λ (m : Member). fields_declared m m.written.member) xs ys

-- the first field of a name, and the first `do`, are those of the first list, or else those of the second
pub named_split : (name : List ℕ) (xs ys : List Member) →
    find (has_name name) (fields_among (xs ++ ys)) ≡ option_or (find (has_name name) (fields_among xs)) (find (has_name name) (fields_among ys))
named_split name xs ys = ap (find (has_name name)) (both xs ys) ∙ find-append (has_name name) (fields_among xs) (fields_among ys)

pub do_split : (xs ys : List Member) → first_do_in (xs ++ ys) ≡ option_or (first_do_in xs) (first_do_in ys)
do_split xs ys =
    ap (find (λ (d : Do). true)) (filter_map-append the_do_in xs ys) ∙ find-append (λ (d : Do). true) (filter_map the_do_in xs) (filter_map the_do_in ys)

-- what stands at a number

before_end : {X : Type 0} (xs ys : List X) (n : ℕ) → n < length xs → slice_get (xs ++ ys) n ≡ slice_get xs n
before_end [] ys n h = absurd (omega (arith, h))
before_end (x ∷ xs) ys zero h = refl
before_end (x ∷ xs) ys (suc n) h = let less : n < length xs = omega (arith, h) in before_end xs ys n less

past_end : {X : Type 0} (xs ys : List X) (n : ℕ) → slice_get (xs ++ ys) (length xs + n) ≡ slice_get ys n
past_end [] ys n = let e : 0 + n ≡ n = omega arith in ap (slice_get ys) e
past_end (x ∷ xs) ys n = let e : length (x ∷ xs) + n ≡ suc (length xs + n) = omega arith in ap (slice_get (x ∷ xs ++ ys)) e ∙ past_end xs ys n

module _ (rows : List (List Member)) (s : Span) (parts : List Part) (i : ℕ) (d : Part) (within : i < length parts) where
  abbrev here : List Field
  here = fields_among (members_in_part rows (get_or parts i d))

  abbrev later : List Field
  later = fields_among (left_at rows parts (i + 1) s)

  fields_more : fields_among (left_at rows parts i s) ≡ here ++ later
  fields_more = ap fields_among (one_more rows s parts i d within) ∙ both (members_in_part rows (get_or parts i d)) (left_at rows parts (i + 1) s)

  -- the field of a number is in the part
  pub number_here : (left count : ℕ) (all found : Option Field) → count ≡ length here → left < count → found ≡ slice_get here left →
      slice_get (fields_among (left_at rows parts i s)) left ≡ all → found ≡ all
  number_here left count all found counted less is_here so_far =
      let below : left < length here = omega (arith, counted, less) in
      is_here ∙ sym (before_end here later left below) ∙ sym (ap (λ fs. slice_get fs left) fields_more) ∙ so_far

  -- it comes after the part
  pub number_later : (left count : ℕ) (all : Option Field) → count ≡ length here → count ≤ left → slice_get (fields_among (left_at rows parts i s)) left ≡ all →
      slice_get later (left - count) ≡ all
  number_later left count all counted most so_far =
      let e : length here + (left - count) ≡ left = omega (arith, counted, most) in
      sym (past_end here later (left - count)) ∙ ap (slice_get (here ++ later)) e ∙ sym (ap (λ fs. slice_get fs left) fields_more) ∙ so_far
