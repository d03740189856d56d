-- The constraints of rules, arguments and stated durations are sound.
use Rattle.std.proofs.Common.{◌≡◌, refl, sym, ap, ◌∙◌, subst, ◌⊎◌, inl, inr, List, [], ◌∷◌, ◌++◌, Bool, true, false, ◌&&◌, ◌||◌, not, cond, Some, None, true≢false}
use Rattle.std.specs.Prelude.{option_map, option_and_then, codes}
use Rattle.std.specs.List.{list_any}
use Rattle.osc_base.specs.declared.fault.Place.{Place}
use Rattle.osc_base.specs.declared.path.Path.{Path}
use Rattle.osc_base.specs.Paths.{root, then_name, then_duration}
use Rattle.osc_base.specs.declared.mark.Strength.{Strength}
use Rattle.expr_eval.specs.dsl_tree.declared.rules.KeepKind.{KeepKind}
use Rattle.expr_eval.specs.dsl_tree.ExprTree.{ExprTree}
use Rattle.expr_eval.specs.dsl_tree.PhaseTree.{RuleTree}
use Rattle.expr_eval.specs.type_heads.Texts.{rule_exprs}
use Rattle.expr_eval.specs.type_heads.Types.{Types}
use Rattle.expr_eval.specs.expr_nodes.declared.compare.Compare.{Compare}
use Rattle.expr_eval.specs.expr_nodes.Kinds.{is_number, is_truth, same_units, are_alike}
use Rattle.expr_eval.specs.expr_nodes.Typed as Nodes
use Rattle.expr_eval.specs.expr_nodes.Typed.{Typed, Info, kind, moved, place_of}
use Rattle.expr_eval.specs.expr_nodes.Sizes.{size, joined, is_wide}
use Rattle.expr_eval.specs.expr_nodes.Parts.{any_holds, of_one, is_scalar, both_numbers}
use Rattle.expr_eval.specs.expr_nodes.Operators.{truth_at, comparison_rows, within_rows}
use Rattle.expr_eval.specs.expr_nodes.Fits.{is_kind, differs, ends_of, sizes_of, fit_rows, duration_fit_rows, constraint_rows}
use Rattle.expr_eval.specs.expr_nodes.Fits as Fits
use Rattle.expr_eval.specs.expr_nodes.Names.{duration_at}
use Rattle.expr_eval.specs.expr_nodes.Sound.{is_sound, is_truth_info}
use Rattle.expr_eval.specs.expr_nodes.Typing.{typed, expr_rows, first, is_path}
use Rattle.expr_eval.specs.Resolved.{IsResolved}
use Rattle.expr_eval.proofs.TypedForms.{typed_or_refused}
use Rattle.run_values.specs.composition.declared.guard.Guard.{Guard}
use Rattle.run_values.specs.composition.Uses.{isnt_path_to, default_rows, rule_rows}
use Rattle.run_values.specs.composition.Givens.{Here, Given, from_root, typed_here, read_at, strength_of, given_rule, required, given_required}
use Rattle.run_values.specs.composition.Expansion.{Calling, here_in, given_duration}
use Rattle.run_values.specs.field_flatten.Seen.{has_values}
use Rattle.run_values.proofs.of_field_flatten.Tests.{left_of, right_of, both, In}
use Rattle.scene_laws.specs.Premises.{IsSmallTable, are_short}
use Rattle.scene_laws.proofs.FaultRows.{no_left, no_right, rows_left, rows_right, holds_not}
use Rattle.scene_laws.proofs.MovedPaths.{kind_moved, scalar_moved, sound_moved, values_moved}
use Rattle.scene_laws.proofs.IsSound.{IsGood, scalar_values, truth_info, comparison_good, within_good}
use Rattle.scene_laws.proofs.TypedSound.{typed_good}

-- one sound truth value
pub record IsConstraint (x : Typed) : Type 0 where
  pub truth : is_truth (kind x) ≡ true
  pub scalar : is_scalar x ≡ true
  pub sound : is_sound x ≡ true
  pub values : has_values x ≡ true

-- a constraint has a sound expression, or removes defaults of a target
abbrev pub GivenSound : Given → Type 0
GivenSound g = ((g.strength ≡ Strength.Remove) × (g.typed ≡ None) × ((p : Path) × (g.target ≡ Some p))) ⊎ ((g.strength ≡ Strength.Remove → ⊥) × ((x : Typed) × (g.typed ≡ Some x) × IsConstraint x))

pub constraint_moved : (to : Path → Path) (x : Typed) → IsGood x → is_scalar x ≡ true → is_truth (kind x) ≡ true → IsConstraint (moved to x)
constraint_moved to x g s t = record {
  truth = ap is_truth (kind_moved to x) ∙ t;
  scalar = scalar_moved to x ∙ s;
  sound = sound_moved to x ∙ g.sound;
  values = values_moved to x ∙ scalar_values x s g.stands;
}

-- ---- rules

pub rule_sound : (ts : Types) → IsSmallTable ts.table → (here : Here) → IsResolved ts.table here.scope → (holder : Path) (under : List Guard) (r : RuleTree) → any_holds (rule_rows ts.table here.scope r) ≡ false
    → ((e : ExprTree) → In e (rule_exprs r) → are_short e ≡ true) → GivenSound (given_rule ts here holder under r)
rule_sound ts small here resolved holder under (RuleTree.Keep place keep e) rows short =
    let first_rows = expr_rows ts.table here.scope e in
    let second_rows = constraint_rows (first e) (typed ts.table here.scope e) in
    let both_rows = rows_left (first_rows ++ second_rows) (default_rows ts.table here.scope keep e) rows in
    let x = typed_or_refused ts.table here.scope resolved e (rows_left first_rows second_rows both_rows) in
    let judged = subst (λ o. any_holds (constraint_rows (first e) o) ≡ false) x.1 (rows_right first_rows second_rows both_rows) in
    let right = holds_not (is_scalar x.0 && is_truth (kind x.0)) (no_left (not (is_scalar x.0 && is_truth (kind x.0))) false judged) in
    let good = typed_good ts.table small here.scope e (short e (inl refl)) x.0 x.1 in
    inr (stays keep, (moved (from_root here) x.0, ap (λ o. option_map (moved (from_root here)) o) x.1, constraint_moved (from_root here) x.0 good (left_of (is_scalar x.0) _ right) (right_of (is_scalar x.0) _ right)))
  where
    stays : (k : KeepKind) → strength_of k ≡ Strength.Remove → ⊥
    stays KeepKind.Plain q = hard q
      where
        hard : Strength.Hard ≡ Strength.Remove → ⊥
        hard h = cc
    stays KeepKind.Hard q = hard q
      where
        hard : Strength.Hard ≡ Strength.Remove → ⊥
        hard h = cc
    stays KeepKind.Default q = soft q
      where
        soft : Strength.Default ≡ Strength.Remove → ⊥
        soft h = cc
rule_sound ts small here resolved holder under (RuleTree.Remove place path) rows short =
    let judged = no_left (isnt_path_to ts.table here.scope Fits.is_read path) (any_holds (expr_rows ts.table here.scope path)) rows in
    let x = typed_or_refused ts.table here.scope resolved path (no_right (isnt_path_to ts.table here.scope Fits.is_read path) (any_holds (expr_rows ts.table here.scope path)) rows) in
    let is = holds_not (is_path path) (no_left (not (is_path path)) _ judged) in
    let read = holds_not (Fits.is_read x.0) (subst (λ o. of_one o (λ t. not (Fits.is_read t)) ≡ false) x.1 (no_right (not (is_path path)) (of_one (typed ts.table here.scope path) (λ t. not (Fits.is_read t))) judged)) in
    let target = of_read x.0 read in
    inl (refl, refl, (target.0, ap (λ b. cond b (option_and_then read_at (typed_here ts here path)) None) is ∙ ap (λ o. option_and_then read_at (option_map (moved (from_root here)) o)) x.1 ∙ target.1))
  where
    of_read : (x : Typed) → Fits.is_read x ≡ true → (p : Path) × (read_at (moved (from_root here) x) ≡ Some p)
    of_read (Nodes.Read i p per) h = (from_root here p, refl)
    of_read (Nodes.Whole i p) h = absurd (true≢false (sym h))
    of_read (Nodes.Listed i f items) h = absurd (true≢false (sym h))
    of_read (Nodes.Constant i n) h = absurd (true≢false (sym h))
    of_read (Nodes.Span i l r) h = absurd (true≢false (sym h))
    of_read (Nodes.Minus i a) h = absurd (true≢false (sym h))
    of_read (Nodes.Not i a) h = absurd (true≢false (sym h))
    of_read (Nodes.Sum i l r) h = absurd (true≢false (sym h))
    of_read (Nodes.Times i l r) h = absurd (true≢false (sym h))
    of_read (Nodes.And i l r) h = absurd (true≢false (sym h))
    of_read (Nodes.Or i l r) h = absurd (true≢false (sym h))
    of_read (Nodes.Implies i l r) h = absurd (true≢false (sym h))
    of_read (Nodes.Relation i s l r) h = absurd (true≢false (sym h))
    of_read (Nodes.Within i l r) h = absurd (true≢false (sym h))

-- ---- values that are given to something

pub or_false : (a : Bool) → a || false ≡ true → a ≡ true
or_false true h = refl
or_false false h = h

-- what fits something of a kind and size can be compared with it
module _ (p : Place) (x : Typed) (scalar : is_scalar x ≡ true) where
  pub single_compared : (q : Place) (y : Typed) → is_scalar y ≡ true → are_alike (kind x) (kind y) ≡ true → differs (kind x) y || false ≡ false → is_wide (joined (size x) (size y)) || false ≡ false
      → any_holds (comparison_rows q Compare.Equal (Some x) (Some y)) ≡ false
  single_compared q y s alike units wide =
      rows (not (is_scalar x) || (not (is_scalar y) || not (are_alike (kind x) (kind y)))) (both_numbers x y && not (same_units (kind x) (kind y))) (is_wide (joined (size x) (size y)))
      (rw (scalar, s, alike) refl) (regroup (is_number (kind x)) (is_number (kind y)) (not (same_units (kind x) (kind y))) (no_left (differs (kind x) y) false units)) (no_left (is_wide (joined (size x) (size y))) false wide)
    where
      rows : (a b c : Bool) → a ≡ false → b ≡ false → c ≡ false → a || (b || (c || false)) ≡ false
      rows a b c e f g = rw (e, f, g) refl

      regroup : (a b c : Bool) → a && (b && c) ≡ false → (a && b) && c ≡ false
      regroup true b c h = h
      regroup false b c h = h

  -- the comparison of a value with what it fits
  pub value_compared : (q : Place) (y : Typed) → IsGood x → IsGood y → is_scalar y ≡ true → are_alike (kind x) (kind y) ≡ true → differs (kind x) y || false ≡ false → is_wide (joined (size x) (size y)) || false ≡ false
      → IsGood (Nodes.Relation (truth_at (place_of x)) Compare.Equal x y)
  value_compared q y good other s alike units wide = comparison_good q Compare.Equal x y good other (single_compared q y s alike units wide)

  -- said to begin at another place
  begun_relation : (q : Place) (y : Typed) → IsGood (Nodes.Relation (truth_at (place_of x)) Compare.Equal x y) → (to : Path → Path) → IsConstraint (moved to (Nodes.Relation (truth_at q) Compare.Equal x y))
  begun_relation q y g to =
      let r : Typed = Nodes.Relation (truth_at (place_of x)) Compare.Equal x y in
      record {
        truth = refl;
        scalar = refl;
        sound = sound_moved to (Nodes.Relation (truth_at q) Compare.Equal x y) ∙ both (is_truth_info (truth_at q)) _ (truth_info q) (right_of (is_truth_info (truth_at (place_of x))) _ g.sound);
        values = values_moved to (Nodes.Relation (truth_at q) Compare.Equal x y) ∙ scalar_values r refl g.stands;
      }

  -- a range of numbers
  span_within : (q : Place) (i : Info) (low high : Typed) → IsGood x → IsGood (Nodes.Span i low high) → any_holds (fit_rows true (kind x) (size x) sizes_of p (Some (Nodes.Span i low high))) ≡ false
      → any_holds (within_rows q (Some x) (Some (Nodes.Span i low high))) ≡ false
  span_within q i low high good other h =
      let kinds = holds_not (is_kind true (kind x) (Nodes.Span i low high)) (no_left (not (is_kind true (kind x) (Nodes.Span i low high))) _ h) in
      let rest = no_right (not (is_kind true (kind x) (Nodes.Span i low high))) _ h in
      let units = no_left (list_any (differs (kind x)) (ends_of (Nodes.Span i low high))) _ rest in
      let wide = no_left (list_any (λ z. is_wide (joined (size x) z)) (sizes_of (Nodes.Span i low high))) false (no_right (list_any (differs (kind x)) (ends_of (Nodes.Span i low high))) _ rest) in
      let number = left_of (is_number (kind x)) _ kinds in
      let ends = numbers (is_number (kind low)) (is_number (kind high)) (right_of (is_number (kind x)) _ kinds) in
      rows (not (is_scalar x) || (not true || not (both_numbers x low && both_numbers x high)))
      (list_any (λ z. both_numbers x z && not (same_units (kind x) (kind z))) (low ∷ high ∷ [])) (list_any (λ z. is_wide (joined (size x) (size z))) (low ∷ high ∷ []))
      (rw (scalar, number, ends.0, ends.1) refl)
      (regroup (is_number (kind x)) (is_number (kind low)) (not (same_units (kind x) (kind low))) (is_number (kind high)) (not (same_units (kind x) (kind high))) units) wide
    where
      numbers : (a b : Bool) → not (not a || (not b || false)) ≡ true → (a ≡ true) × (b ≡ true)
      numbers true true e = (refl, refl)
      numbers true false e = absurd (true≢false (sym e))
      numbers false b e = absurd (true≢false (sym e))

      rows : (a b c : Bool) → a ≡ false → b ≡ false → c ≡ false → a || (b || (c || false)) ≡ false
      rows a b c e f g = rw (e, f, g) refl

      regroup : (n a c b d : Bool) → (n && (a && c)) || ((n && (b && d)) || false) ≡ false → ((n && a) && c) || (((n && b) && d) || false) ≡ false
      regroup true a c b d h = h
      regroup false a c b d h = h

  span_sound : (q : Place) (i : Info) (low high : Typed) → IsGood (Nodes.Within (truth_at (place_of x)) x (Nodes.Span i low high)) → (to : Path → Path) → IsConstraint (moved to (Nodes.Within (truth_at q) x (Nodes.Span i low high)))
  span_sound q i low high g to =
      let r : Typed = Nodes.Within (truth_at (place_of x)) x (Nodes.Span i low high) in
      record {
        truth = refl;
        scalar = refl;
        sound = sound_moved to (Nodes.Within (truth_at q) x (Nodes.Span i low high)) ∙ both (is_truth_info (truth_at q)) _ (truth_info q) (right_of (is_truth_info (truth_at (place_of x))) _ g.sound);
        values = values_moved to (Nodes.Within (truth_at q) x (Nodes.Span i low high)) ∙ scalar_values r refl g.stands;
      }

  single_sound : (q : Place) (y : Typed) → IsGood x → IsGood y → is_scalar y ≡ true → are_alike (kind x) (kind y) || false ≡ true → differs (kind x) y || false ≡ false → is_wide (joined (size x) (size y)) || false ≡ false → (to : Path → Path)
      → IsConstraint (moved to (Nodes.Relation (truth_at q) Compare.Equal x y))
  single_sound q y good other s alike units wide to = begun_relation q y (value_compared q y good other s (or_false (are_alike (kind x) (kind y)) alike) units wide) to

  -- what is given to something of its kind and size
  pub required_sound : (to : Path → Path) (q : Place) (y : Typed) → IsGood x → IsGood y → any_holds (fit_rows true (kind x) (size x) sizes_of p (Some y)) ≡ false → IsConstraint (moved to (required q x y))
  required_sound to q (Nodes.Span i low high) good other h = span_sound q i low high (within_good q x (Nodes.Span i low high) good other (span_within q i low high good other h)) to
  required_sound to q (Nodes.Whole i path) good other h = absurd (true≢false h)
  required_sound to q (Nodes.Listed i f items) good other h = absurd (true≢false h)
  required_sound to q (Nodes.Constant i n) good other h =
      let rest = no_right (not (are_alike (kind x) (kind (Nodes.Constant i n)) || false)) _ h in
      single_sound q (Nodes.Constant i n) good other refl (holds_not (are_alike (kind x) (kind (Nodes.Constant i n)) || false) (no_left (not (are_alike (kind x) (kind (Nodes.Constant i n)) || false)) _ h))
      (no_left (differs (kind x) (Nodes.Constant i n) || false) _ rest) (no_left (is_wide (joined (size x) (size (Nodes.Constant i n))) || false) false (no_right (differs (kind x) (Nodes.Constant i n) || false) _ rest)) to
  required_sound to q (Nodes.Read i path per) good other h =
      let rest = no_right (not (are_alike (kind x) (kind (Nodes.Read i path per)) || false)) _ h in
      single_sound q (Nodes.Read i path per) good other refl (holds_not (are_alike (kind x) (kind (Nodes.Read i path per)) || false) (no_left (not (are_alike (kind x) (kind (Nodes.Read i path per)) || false)) _ h))
      (no_left (differs (kind x) (Nodes.Read i path per) || false) _ rest) (no_left (is_wide (joined (size x) (size (Nodes.Read i path per))) || false) false (no_right (differs (kind x) (Nodes.Read i path per) || false) _ rest)) to
  required_sound to q (Nodes.Minus i a) good other h =
      let rest = no_right (not (are_alike (kind x) (kind (Nodes.Minus i a)) || false)) _ h in
      single_sound q (Nodes.Minus i a) good other refl (holds_not (are_alike (kind x) (kind (Nodes.Minus i a)) || false) (no_left (not (are_alike (kind x) (kind (Nodes.Minus i a)) || false)) _ h))
      (no_left (differs (kind x) (Nodes.Minus i a) || false) _ rest) (no_left (is_wide (joined (size x) (size (Nodes.Minus i a))) || false) false (no_right (differs (kind x) (Nodes.Minus i a) || false) _ rest)) to
  required_sound to q (Nodes.Not i a) good other h =
      let rest = no_right (not (are_alike (kind x) (kind (Nodes.Not i a)) || false)) _ h in
      single_sound q (Nodes.Not i a) good other refl (holds_not (are_alike (kind x) (kind (Nodes.Not i a)) || false) (no_left (not (are_alike (kind x) (kind (Nodes.Not i a)) || false)) _ h))
      (no_left (differs (kind x) (Nodes.Not i a) || false) _ rest) (no_left (is_wide (joined (size x) (size (Nodes.Not i a))) || false) false (no_right (differs (kind x) (Nodes.Not i a) || false) _ rest)) to
  required_sound to q (Nodes.Sum i l r) good other h =
      let rest = no_right (not (are_alike (kind x) (kind (Nodes.Sum i l r)) || false)) _ h in
      single_sound q (Nodes.Sum i l r) good other refl (holds_not (are_alike (kind x) (kind (Nodes.Sum i l r)) || false) (no_left (not (are_alike (kind x) (kind (Nodes.Sum i l r)) || false)) _ h))
      (no_left (differs (kind x) (Nodes.Sum i l r) || false) _ rest) (no_left (is_wide (joined (size x) (size (Nodes.Sum i l r))) || false) false (no_right (differs (kind x) (Nodes.Sum i l r) || false) _ rest)) to
  required_sound to q (Nodes.Times i l r) good other h =
      let rest = no_right (not (are_alike (kind x) (kind (Nodes.Times i l r)) || false)) _ h in
      single_sound q (Nodes.Times i l r) good other refl (holds_not (are_alike (kind x) (kind (Nodes.Times i l r)) || false) (no_left (not (are_alike (kind x) (kind (Nodes.Times i l r)) || false)) _ h))
      (no_left (differs (kind x) (Nodes.Times i l r) || false) _ rest) (no_left (is_wide (joined (size x) (size (Nodes.Times i l r))) || false) false (no_right (differs (kind x) (Nodes.Times i l r) || false) _ rest)) to
  required_sound to q (Nodes.And i l r) good other h =
      let rest = no_right (not (are_alike (kind x) (kind (Nodes.And i l r)) || false)) _ h in
      single_sound q (Nodes.And i l r) good other refl (holds_not (are_alike (kind x) (kind (Nodes.And i l r)) || false) (no_left (not (are_alike (kind x) (kind (Nodes.And i l r)) || false)) _ h))
      (no_left (differs (kind x) (Nodes.And i l r) || false) _ rest) (no_left (is_wide (joined (size x) (size (Nodes.And i l r))) || false) false (no_right (differs (kind x) (Nodes.And i l r) || false) _ rest)) to
  required_sound to q (Nodes.Or i l r) good other h =
      let rest = no_right (not (are_alike (kind x) (kind (Nodes.Or i l r)) || false)) _ h in
      single_sound q (Nodes.Or i l r) good other refl (holds_not (are_alike (kind x) (kind (Nodes.Or i l r)) || false) (no_left (not (are_alike (kind x) (kind (Nodes.Or i l r)) || false)) _ h))
      (no_left (differs (kind x) (Nodes.Or i l r) || false) _ rest) (no_left (is_wide (joined (size x) (size (Nodes.Or i l r))) || false) false (no_right (differs (kind x) (Nodes.Or i l r) || false) _ rest)) to
  required_sound to q (Nodes.Implies i l r) good other h =
      let rest = no_right (not (are_alike (kind x) (kind (Nodes.Implies i l r)) || false)) _ h in
      single_sound q (Nodes.Implies i l r) good other refl (holds_not (are_alike (kind x) (kind (Nodes.Implies i l r)) || false) (no_left (not (are_alike (kind x) (kind (Nodes.Implies i l r)) || false)) _ h))
      (no_left (differs (kind x) (Nodes.Implies i l r) || false) _ rest) (no_left (is_wide (joined (size x) (size (Nodes.Implies i l r))) || false) false (no_right (differs (kind x) (Nodes.Implies i l r) || false) _ rest)) to
  required_sound to q (Nodes.Relation i g l r) good other h =
      let rest = no_right (not (are_alike (kind x) (kind (Nodes.Relation i g l r)) || false)) _ h in
      single_sound q (Nodes.Relation i g l r) good other refl (holds_not (are_alike (kind x) (kind (Nodes.Relation i g l r)) || false) (no_left (not (are_alike (kind x) (kind (Nodes.Relation i g l r)) || false)) _ h))
      (no_left (differs (kind x) (Nodes.Relation i g l r) || false) _ rest) (no_left (is_wide (joined (size x) (size (Nodes.Relation i g l r))) || false) false (no_right (differs (kind x) (Nodes.Relation i g l r) || false) _ rest)) to
  required_sound to q (Nodes.Within i l r) good other h =
      let rest = no_right (not (are_alike (kind x) (kind (Nodes.Within i l r)) || false)) _ h in
      single_sound q (Nodes.Within i l r) good other refl (holds_not (are_alike (kind x) (kind (Nodes.Within i l r)) || false) (no_left (not (are_alike (kind x) (kind (Nodes.Within i l r)) || false)) _ h))
      (no_left (differs (kind x) (Nodes.Within i l r) || false) _ rest) (no_left (is_wide (joined (size x) (size (Nodes.Within i l r))) || false) false (no_right (differs (kind x) (Nodes.Within i l r) || false) _ rest)) to

-- what is required of moved expressions is what is required, moved
required_moved : (to : Path → Path) (q : Place) (l r : Typed) → required q (moved to l) (moved to r) ≡ moved to (required q l r)
required_moved to q l (Nodes.Constant i n) = refl
required_moved to q l (Nodes.Read i path per) = refl
required_moved to q l (Nodes.Whole i path) = refl
required_moved to q l (Nodes.Listed i f items) = refl
required_moved to q l (Nodes.Span i low high) = refl
required_moved to q l (Nodes.Minus i a) = refl
required_moved to q l (Nodes.Not i a) = refl
required_moved to q l (Nodes.Sum i a b) = refl
required_moved to q l (Nodes.Times i a b) = refl
required_moved to q l (Nodes.And i a b) = refl
required_moved to q l (Nodes.Or i a b) = refl
required_moved to q l (Nodes.Implies i a b) = refl
required_moved to q l (Nodes.Relation i g a b) = refl
required_moved to q l (Nodes.Within i a b) = refl

-- a value of the text that fits what it is required of
pub given_sound : (ts : Types) → IsSmallTable ts.table → (here : Here) (phase : Path) (p : Place) (l : Typed) → IsGood l → is_scalar l ≡ true → (value : ExprTree) (v : Typed) → typed ts.table here.scope value ≡ Some v → are_short value ≡ true
    → any_holds (fit_rows true (kind l) (size l) sizes_of p (Some v)) ≡ false → GivenSound (given_required ts here phase (Some (moved (from_root here) l)) value)
given_sound ts small here phase p l good scalar value v is short fits =
    let good_value = typed_good ts.table small here.scope value short v is in
    inr (
      hard,
      (
        moved (from_root here) (required (first value) l v),
        ap (λ o. option_map (required (first value) (moved (from_root here) l)) (option_map (moved (from_root here)) o)) is ∙ ap Some (required_moved (from_root here) (first value) l v),
        required_sound p l scalar (from_root here) (first value) v good good_value fits,
      ),
    )
  where
    hard : Strength.Hard ≡ Strength.Remove → ⊥
    hard h = cc

-- a stated duration that fits
pub duration_sound : (ts : Types) → IsSmallTable ts.table → (call : Calling) → IsResolved ts.table (here_in ts call None).scope → (value : ExprTree)
    → any_holds (duration_fit_rows (first value) (typed ts.table (here_in ts call None).scope value) ++ expr_rows ts.table (here_in ts call None).scope value) ≡ false → are_short value ≡ true → GivenSound (given_duration ts call value)
duration_sound ts small call resolved value rows short =
    let here = here_in ts call None in
    let fit = duration_fit_rows (first value) (typed ts.table here.scope value) in
    let v = typed_or_refused ts.table here.scope resolved value (rows_right fit (expr_rows ts.table here.scope value) rows) in
    let fits = subst (λ o. any_holds (duration_fit_rows (first value) o) ≡ false) v.1 (rows_left fit (expr_rows ts.table here.scope value) rows) in
    given_sound ts small here call.path (first value) (duration_at (first value) (then_duration (then_name root (codes "it")))) (record { sound = refl; stands = refl }) refl value v.0 v.1 short fits
