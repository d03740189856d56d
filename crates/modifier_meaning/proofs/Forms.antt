-- The form of a modifier of the table, once arguments are put in.
use Rattle.std.proofs.Common.{◌≡◌, refl, sym, ap, ap₂, ◌∙◌, ℕ, List, [], ◌∷◌, map, Option, Some, None, Bool, true, false, cond, not}
use Rattle.std.specs.Prelude.{filter, filter_map, option_map, option_and_then, find, bytes_eq, codes}
use Rattle.std.specs.List.{cons_option}
use Rattle.composition.specs.osc_base.declared.modifier.Moment.{Moment}
use Rattle.composition.specs.dsl_tree.declared.parts.Ident.{Ident}
use Rattle.composition.specs.dsl_tree.ExprTree.{ExprTree}
use Rattle.composition.specs.dsl_tree.PhaseTree.{ArgumentTree, ModifierTree}
use Rattle.composition.specs.ModifierLines.{ModifierLine, NamedValue, named_value, unnamed_value, is_at, moment_of, ModifierForm, is_line, modifier_lines, form_of_arguments, modifier_form}
use Rattle.modifier_meaning.specs.Put.{put}
use Rattle.modifier_meaning.specs.Unfolded.{put_value, put_argument, put_modifier}

-- a form with the arguments put in
abbrev pub put_form : List NamedValue → ModifierForm → ModifierForm
put_form args f = record f { range = option_map (put args) f.range; other = option_map (put args) f.other }

module _ (args : List NamedValue) where
  -- a value with a name, of which the word after `at:` stays
  abbrev put_named : NamedValue → NamedValue
  put_named v = cond (is_at v) v (put_value args v)

  -- ---- one argument

  unnamed_none : (name : Option Ident) (value : ExprTree) →
      unnamed_value (put_argument args (record { name = name; value = value })) ≡ option_map (put args) (unnamed_value (record { name = name; value = value }))
  unnamed_none None value = refl
  unnamed_none (Some i) value = by (bytes_eq i.text (codes "at"))
    where
      by : (b : Bool) → unnamed_value (cond b (record { name = Some i; value = value }) (record { name = Some i; value = put args value })) ≡ None
      by true = refl
      by false = refl

  named_one : (name : Option Ident) (value : ExprTree) →
      named_value (put_argument args (record { name = name; value = value })) ≡ option_map put_named (named_value (record { name = name; value = value }))
  named_one None value = refl
  named_one (Some i) value = by (bytes_eq i.text (codes "at"))
    where
      by : (b : Bool) → named_value (cond b (record { name = Some i; value = value }) (record { name = Some i; value = put args value }))
          ≡ Some (cond b (record { name = i.text; value = value }) (record { name = i.text; value = put args value }))
      by true = refl
      by false = refl

  -- ---- rows of arguments

  added : {X Y : Type 0} (f : X → Y) (o : Option X) (xs : List X) → map f (cons_option o xs) ≡ cons_option (option_map f o) (map f xs)
  added f None xs = refl
  added f (Some x) xs = refl

  unnamed_all : (list : List ArgumentTree) → filter_map unnamed_value (map (put_argument args) list) ≡ map (put args) (filter_map unnamed_value list)
  unnamed_all [] = refl
  unnamed_all (a ∷ list) =
      ap₂ (λ o xs. cons_option o xs) (unnamed_none a.name a.value) (unnamed_all list)
      ∙ sym (added (put args) (unnamed_value a) (filter_map unnamed_value list))

  named_all : (list : List ArgumentTree) → filter_map named_value (map (put_argument args) list) ≡ map put_named (filter_map named_value list)
  named_all [] = refl
  named_all (a ∷ list) =
      ap₂ (λ o xs. cons_option o xs) (named_one a.name a.value) (named_all list)
      ∙ sym (added put_named (named_value a) (filter_map named_value list))

  -- the words after `at:`
  at_step : (b : Bool) (v : NamedValue) (xs ys : List NamedValue) → xs ≡ ys →
      cond b ((cond b v (put_value args v)) ∷ xs) xs ≡ cond b (v ∷ ys) ys
  at_step true v xs ys e = ap (λ z. v ∷ z) e
  at_step false v xs ys e = e

  still_at : (b : Bool) (v : NamedValue) → is_at (cond b v (put_value args v)) ≡ is_at v
  still_at true v = refl
  still_at false v = refl

  at_all : (vs : List NamedValue) → filter is_at (map put_named vs) ≡ filter is_at vs
  at_all [] = refl
  at_all (v ∷ vs) =
      ap (λ b. cond b (put_named v ∷ filter is_at (map put_named vs)) (filter is_at (map put_named vs))) (still_at (is_at v) v)
      ∙ at_step (is_at v) v (filter is_at (map put_named vs)) (filter is_at vs) (at_all vs)

  -- the other values with a name
  other_step : (b : Bool) (v : NamedValue) (xs ys : List NamedValue) → xs ≡ map (put_value args) ys →
      cond (not b) ((cond b v (put_value args v)) ∷ xs) xs ≡ map (put_value args) (cond (not b) (v ∷ ys) ys)
  other_step true v xs ys e = e
  other_step false v xs ys e = ap (λ z. put_value args v ∷ z) e

  other_all : (vs : List NamedValue) → filter (λ v. not (is_at v)) (map put_named vs) ≡ map (put_value args) (filter (λ v. not (is_at v)) vs)
  other_all [] = refl
  other_all (v ∷ vs) =
      ap (λ b. cond (not b) (put_named v ∷ filter (λ v. not (is_at v)) (map put_named vs)) (filter (λ v. not (is_at v)) (map put_named vs))) (still_at (is_at v) v)
      ∙ other_step (is_at v) v (filter (λ v. not (is_at v)) (map put_named vs)) (filter (λ v. not (is_at v)) vs) (other_all vs)

  -- ---- forms

  module _ (name : List ℕ) (moment : Moment) where
    line_found : (range : Option ExprTree) (other : Option NamedValue) (o : Option ModifierLine) →
        option_map (λ (l : ModifierLine). record { kind = l.kind; moment = moment; range = option_map (put args) range; other = option_map (λ (v : NamedValue). v.value) (option_map (put_value args) other) }) o
        ≡ option_map (put_form args) (option_map (λ (l : ModifierLine). record { kind = l.kind; moment = moment; range = range; other = option_map (λ (v : NamedValue). v.value) other }) o)
    line_found range None None = refl
    line_found range None (Some l) = refl
    line_found range (Some v) None = refl
    line_found range (Some v) (Some l) = refl

    of_arguments : (es : List ExprTree) (vs : List NamedValue) →
        form_of_arguments name (map (put args) es) (map (put_value args) vs) moment ≡ option_map (put_form args) (form_of_arguments name es vs moment)
    of_arguments [] [] = line_found None None (find (is_line name false None) modifier_lines)
    of_arguments [] (v ∷ []) = line_found None (Some v) (find (is_line name false (Some v.name)) modifier_lines)
    of_arguments [] (v ∷ w ∷ vs) = refl
    of_arguments (e ∷ []) [] = line_found (Some e) None (find (is_line name true None) modifier_lines)
    of_arguments (e ∷ []) (v ∷ []) = line_found (Some e) (Some v) (find (is_line name true (Some v.name)) modifier_lines)
    of_arguments (e ∷ []) (v ∷ w ∷ vs) = refl
    of_arguments (e ∷ f ∷ es) [] = refl
    of_arguments (e ∷ f ∷ es) (v ∷ vs) = refl

  with_moment : (name : List ℕ) (es : List ExprTree) (vs : List NamedValue) (o : Option Moment) →
      option_and_then (form_of_arguments name (map (put args) es) (map (put_value args) vs)) o ≡ option_map (put_form args) (option_and_then (form_of_arguments name es vs) o)
  with_moment name es vs None = refl
  with_moment name es vs (Some moment) = of_arguments name moment es vs

  -- the three rows of arguments of a modifier
  formed : (name : List ℕ) (es fs : List ExprTree) (named put_names : List NamedValue) →
      fs ≡ map (put args) es → put_names ≡ map put_named named →
      option_and_then (form_of_arguments name fs (filter (λ v. not (is_at v)) put_names)) (moment_of (filter is_at put_names))
      ≡ option_map (put_form args) (option_and_then (form_of_arguments name es (filter (λ v. not (is_at v)) named)) (moment_of (filter is_at named)))
  formed name es fs named put_names p q =
      ap₂ (λ xs ys. option_and_then (form_of_arguments name xs (filter (λ v. not (is_at v)) ys)) (moment_of (filter is_at ys))) p q
      ∙ ap₂ (λ xs ys. option_and_then (form_of_arguments name (map (put args) es) xs) (moment_of ys)) (other_all named) (at_all named)
      ∙ with_moment name es (filter (λ v. not (is_at v)) named) (moment_of (filter is_at named))

  pub form_put : (m : ModifierTree) → modifier_form (put_modifier args m) ≡ option_map (put_form args) (modifier_form m)
  form_put m =
      formed m.name.text (filter_map unnamed_value m.arguments) (filter_map unnamed_value (map (put_argument args) m.arguments))
      (filter_map named_value m.arguments) (filter_map named_value (map (put_argument args) m.arguments)) (unnamed_all m.arguments) (named_all m.arguments)
