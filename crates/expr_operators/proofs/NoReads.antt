-- Expressions that read no path, by their parts.
use Rattle.std.proofs.Common.{◌≡◌, ◌∙◌, refl, sym, ap, ℕ, List, [], ◌∷◌, ◌++◌, Bool, true, false, ◌&&◌, length, map, nat_eq, suc, arith}
use Rattle.std.proofs.lemmas.Bool.Decides.{nat_tests}
use Rattle.std.specs.List.{list_all}
use Rattle.dsl_tree.specs.osc_base.declared.path.Path.{Path}
use Rattle.expr_nodes.specs.declared.node.Info.{Info}
use Rattle.expr_nodes.specs.declared.node.Join.{Join}
use Rattle.expr_nodes.specs.declared.node.Earlier.{Earlier}
use Rattle.expr_nodes.specs.declared.node.Typed.{Typed}
use Rattle.expr_nodes.specs.declared.node.Typed.TheViews
use Rattle.expr_nodes.specs.Typed as Nodes
use Rattle.expr_nodes.specs.Typed.{reads}
use Rattle.expr_nodes.specs.Operators.{is_constant}
use Rattle.expr_nodes.specs.Seen.{Reached, seen, seen_info, reached, joined, grouped}
use Rattle.expr_nodes.specs.NoReads.{constant_part}
use Rattle.expr_nodes.proofs.SeenNodes.{seen_joined}

some_not : (n : ℕ) → nat_eq (suc n) 0 ≡ false
some_not n = grind (arith, nat_tests)

-- two lists that are empty
pub constant_both : (xs ys : List Path) → nat_eq (length (xs ++ ys)) 0 ≡ (nat_eq (length xs) 0 && nat_eq (length ys) 0)
constant_both [] ys = refl
constant_both (x ∷ xs) ys = some_not (length (xs ++ ys)) ∙ sym (ap (λ b. b && nat_eq (length ys) 0) (some_not (length xs)))

constant_joined : (join : Join) (i : Nodes.Info) (a b : Nodes.Typed) → is_constant (joined join i a b) ≡ (is_constant a && is_constant b)
constant_joined Join.Sum i a b = constant_both (reads a) (reads b)
constant_joined Join.Times i a b = constant_both (reads a) (reads b)
constant_joined Join.And i a b = constant_both (reads a) (reads b)
constant_joined Join.Or i a b = constant_both (reads a) (reads b)

and_assoc : (a b c : Bool) → ((a && b) && c) ≡ (a && (b && c))
and_assoc true b c = refl
and_assoc false b c = refl

and_true : (a : Bool) → (a && true) ≡ a
and_true true = refl
and_true false = refl

constant_grouped : (join : Join) (left : Nodes.Typed) (rest : List Reached) → is_constant (grouped join left rest) ≡ (is_constant left && list_all constant_part rest)
constant_grouped join left [] = sym (and_true (is_constant left))
constant_grouped join left (r ∷ rest) =
    constant_grouped join (joined join r.info left r.part) rest
    ∙ ap (λ b. b && list_all constant_part rest) (constant_joined join r.info left r.part)
    ∙ and_assoc (is_constant left) (is_constant r.part) (list_all constant_part rest)

-- a row of parts
pub constant_row_node : (t : Typed) (info : Info) (join : Join) (first : Typed) (earlier shown : List Earlier) (last : Typed) → t ≡ TheViews.Joined info join first earlier last → shown ≡ earlier
    → is_constant (seen t) ≡ (is_constant (seen first) && (list_all constant_part (map reached shown) && is_constant (seen last)))
constant_row_node t info join first earlier shown last is same =
    ap is_constant (ap seen is ∙ seen_joined info join first earlier last)
    ∙ constant_joined join (seen_info info) (grouped join (seen first) (map reached earlier)) (seen last)
    ∙ ap (λ b. b && is_constant (seen last)) (constant_grouped join (seen first) (map reached earlier))
    ∙ and_assoc (is_constant (seen first)) (list_all constant_part (map reached earlier)) (is_constant (seen last))
    ∙ ap (λ es. is_constant (seen first) && (list_all constant_part (map reached es) && is_constant (seen last))) (sym same)

all_chosen : (n a b c : Bool) → n ≡ (a && (b && c)) → a ≡ true → b ≡ true → c ≡ n
all_chosen n true true c h p q = sym h
all_chosen n true false c h p q = absurd (cc)
all_chosen n false b c h p q = absurd (cc)

second_chosen : (n a b c : Bool) → n ≡ (a && (b && c)) → a ≡ true → b ≡ false → false ≡ n
second_chosen n true false c h p q = sym h
second_chosen n true true c h p q = absurd (cc)
second_chosen n false b c h p q = absurd (cc)

first_chosen : (n a b c : Bool) → n ≡ (a && (b && c)) → a ≡ false → false ≡ n
first_chosen n false b c h p = sym h
first_chosen n true b c h p = absurd (cc)

module _ (t : Typed) (info : Info) (join : Join) (first : Typed) (earlier shown : List Earlier) (last : Typed) (is : t ≡ TheViews.Joined info join first earlier last) (same : shown ≡ earlier)
    (f p : Bool) (of_first : f ≡ is_constant (seen first)) (of_parts : p ≡ list_all constant_part (map reached shown)) where
  node : is_constant (seen t) ≡ (is_constant (seen first) && (list_all constant_part (map reached shown) && is_constant (seen last)))
  node = constant_row_node t info join first earlier shown last is same

  pub row_last : (l : Bool) → f ≡ true → p ≡ true → l ≡ is_constant (seen last) → l ≡ is_constant (seen t)
  row_last l a b e = e ∙ all_chosen (is_constant (seen t)) (is_constant (seen first)) (list_all constant_part (map reached shown)) (is_constant (seen last)) node (sym of_first ∙ a) (sym of_parts ∙ b)

  pub row_parts : f ≡ true → p ≡ false → p ≡ is_constant (seen t)
  row_parts a b = b ∙ second_chosen (is_constant (seen t)) (is_constant (seen first)) (list_all constant_part (map reached shown)) (is_constant (seen last)) node (sym of_first ∙ a) (sym of_parts ∙ b)

  pub row_first : f ≡ false → f ≡ is_constant (seen t)
  row_first a = a ∙ first_chosen (is_constant (seen t)) (is_constant (seen first)) (list_all constant_part (map reached shown)) (is_constant (seen last)) node (sym of_first ∙ a)
