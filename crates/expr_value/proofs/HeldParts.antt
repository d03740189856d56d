-- Expressions whose paths hold numbers, by their parts.
use Rattle.std.proofs.Common.{◌≡◌, ◌∙◌, refl, sym, ap, List, [], ◌∷◌, ◌++◌, Bool, true, false, ◌&&◌, map}
use Rattle.std.specs.Prelude.{ℤ, Option, is_some}
use Rattle.std.specs.List.{list_all}
use Rattle.std.proofs.lemmas.List.Folds.{list_all-append}
use Rattle.expr_nodes.specs.osc_base.declared.path.Path.{Path}
use Rattle.expr_nodes.specs.declared.node.Info.{Info}
use Rattle.expr_nodes.specs.declared.node.Join.{Join}
use Rattle.expr_nodes.specs.declared.node.Earlier.{Earlier}
use Rattle.expr_nodes.specs.declared.node.Typed.{Typed}
use Rattle.expr_nodes.specs.declared.node.Typed.TheViews
use Rattle.expr_nodes.specs.Typed as Nodes
use Rattle.expr_nodes.specs.Typed.{reads}
use Rattle.expr_nodes.specs.Seen.{Reached, seen, seen_info, reached, joined, grouped}
use Rattle.expr_nodes.proofs.SeenNodes.{seen_joined}
use Rattle.expr_value.specs.Held.{are_held}

-- a test of two lists
pub held_both : (test : Path → Bool) (xs ys : List Path) → list_all test (xs ++ ys) ≡ (list_all test xs && list_all test ys)
held_both = list_all-append

and_assoc : (a b c : Bool) → ((a && b) && c) ≡ (a && (b && c))
and_assoc true b c = refl
and_assoc false b c = refl

and_true : (a : Bool) → (a && true) ≡ a
and_true true = refl
and_true false = refl

module _ (told : Path → Option ℤ) where
  abbrev held : Nodes.Typed → Bool
  held t = are_held told t

  abbrev pub held_part : Reached → Bool
  held_part r = are_held told r.part

  held_joined : (join : Join) (i : Nodes.Info) (a b : Nodes.Typed) → held (joined join i a b) ≡ (held a && held b)
  held_joined Join.Sum i a b = held_both (λ p. is_some (told p)) (reads a) (reads b)
  held_joined Join.Times i a b = held_both (λ p. is_some (told p)) (reads a) (reads b)
  held_joined Join.And i a b = held_both (λ p. is_some (told p)) (reads a) (reads b)
  held_joined Join.Or i a b = held_both (λ p. is_some (told p)) (reads a) (reads b)

  held_grouped : (join : Join) (left : Nodes.Typed) (rest : List Reached) → held (grouped join left rest) ≡ (held left && list_all held_part rest)
  held_grouped join left [] = sym (and_true (held left))
  held_grouped join left (r ∷ rest) =
      held_grouped join (joined join r.info left r.part) rest
      ∙ ap (λ b. b && list_all held_part rest) (held_joined join r.info left r.part)
      ∙ and_assoc (held left) (held r.part) (list_all held_part rest)

  -- a row of parts
  pub held_row_node : (t : Typed) (info : Info) (join : Join) (first : Typed) (earlier shown : List Earlier) (last : Typed) → t ≡ TheViews.Joined info join first earlier last → shown ≡ earlier
      → held (seen t) ≡ (held (seen first) && (list_all held_part (map reached shown) && held (seen last)))
  held_row_node t info join first earlier shown last is same =
      ap held (ap seen is ∙ seen_joined info join first earlier last)
      ∙ held_joined join (seen_info info) (grouped join (seen first) (map reached earlier)) (seen last)
      ∙ ap (λ b. b && held (seen last)) (held_grouped join (seen first) (map reached earlier))
      ∙ and_assoc (held (seen first)) (list_all held_part (map reached earlier)) (held (seen last))
      ∙ ap (λ es. held (seen first) && (list_all held_part (map reached es) && held (seen last))) (sym same)

  all_chosen : (n a b c : Bool) → n ≡ (a && (b && c)) → a ≡ true → b ≡ true → c ≡ n
  all_chosen n true true c h p q = sym h
  all_chosen n true false c h p q = absurd (cc)
  all_chosen n false b c h p q = absurd (cc)

  second_chosen : (n a b c : Bool) → n ≡ (a && (b && c)) → a ≡ true → b ≡ false → false ≡ n
  second_chosen n true false c h p q = sym h
  second_chosen n true true c h p q = absurd (cc)
  second_chosen n false b c h p q = absurd (cc)

  first_chosen : (n a b c : Bool) → n ≡ (a && (b && c)) → a ≡ false → false ≡ n
  first_chosen n false b c h p = sym h
  first_chosen n true b c h p = absurd (cc)

  module _ (t : Typed) (info : Info) (join : Join) (first : Typed) (earlier shown : List Earlier) (last : Typed) (is : t ≡ TheViews.Joined info join first earlier last) (same : shown ≡ earlier)
      (f p : Bool) (of_first : f ≡ held (seen first)) (of_parts : p ≡ list_all held_part (map reached shown)) where
    node : held (seen t) ≡ (held (seen first) && (list_all held_part (map reached shown) && held (seen last)))
    node = held_row_node t info join first earlier shown last is same

    pub row_last : (l : Bool) → f ≡ true → p ≡ true → l ≡ held (seen last) → l ≡ held (seen t)
    row_last l a b e = e ∙ all_chosen (held (seen t)) (held (seen first)) (list_all held_part (map reached shown)) (held (seen last)) node (sym of_first ∙ a) (sym of_parts ∙ b)

    pub row_parts : f ≡ true → p ≡ false → p ≡ held (seen t)
    row_parts a b = b ∙ second_chosen (held (seen t)) (held (seen first)) (list_all held_part (map reached shown)) (held (seen last)) node (sym of_first ∙ a) (sym of_parts ∙ b)

    pub row_first : f ≡ false → f ≡ held (seen t)
    row_first a = a ∙ first_chosen (held (seen t)) (held (seen first)) (list_all held_part (map reached shown)) (held (seen last)) node (sym of_first ∙ a)
