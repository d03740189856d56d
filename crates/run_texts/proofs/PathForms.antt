-- The path that a text gives is the one that has the text.
use Rattle.std.proofs.Common.{◌≡◌, ◌&&◌, ◌^◌, ◌<◌, ◌≤◌, ℕ, zero, suc, Bool, true, false, cond, refl, sym, ap, ◌∙◌, subst, true≢false, arith, List, [], ◌∷◌, length, take, drop, get_or, eqb-true, eq-eqb, ltb-true, Option, Some, None, Result, Ok, Err}
use Rattle.std.specs.Prelude.{nat_lt, nat_eq, decimal, flat_map, IfOk, IfSome, option_map, option_and_then, bytes_eq}
use Rattle.std.specs.List.{prefix_len}
use Rattle.std.specs.Str.Parse.{digits_value}
use Rattle.std.proofs.lemmas.Slice.Eq.{bytes_eq-Decides}
use Rattle.std.proofs.lemmas.Fmt.{digits_value-decimal}
use Rattle.osc_base.specs.declared.path.Path.{Path}
use Rattle.osc_base.specs.declared.path.Step.{Step}
use Rattle.osc_base.specs.declared.path.Step.TheVariants.{Name, Index, Member}
use Rattle.osc_base.specs.Path.{later_step_text}
use Rattle.osc_base.specs.Paths.{path_of}
use Rattle.osc_base.specs.PathTexts.{is_digit, continues_name, is_name, is_step, are_steps, before_member, ends_step, number_step, IsNumber, IsNoNumber, HasText, BeginsWith, BeginsWithNone, Spells}
use Rattle.osc_base.proofs.PathReading.{numerals, name_begins, name_missing, number_begins, number_missing, bracket_missing, step_shorter, spelled_after, spells_more, path_continues, path_found, no_first}
use Rattle.run_texts.specs.PathForms.{number_in, name_front, number_end, number_front, front, steps_in, path_from}

-- ---- steps

-- what a text begins with
abbrev FrontIs : Bool → List ℕ → Option (Step × List ℕ) → Type 0
FrontIs m text None = BeginsWithNone m text
FrontIs m text (Some f) = BeginsWith m text f.0 f.1

name_front_is : (m : Bool) (text : List ℕ) → FrontIs m (46 ∷ text) (name_front text)
name_front_is m text = by (is_name (take (prefix_len continues_name text) text)) refl
  where
    by : (c : Bool) → is_name (take (prefix_len continues_name text) text) ≡ c
        → FrontIs m (46 ∷ text) (cond c (Some (Name (take (prefix_len continues_name text) text), drop (prefix_len continues_name text) text)) None)
    by true e = name_begins m text e
    by false e = name_missing m text e

-- the number that digits are the decimal of
abbrev NumberIs : List ℕ → Option ℕ → Type 0
NumberIs digits None = IsNoNumber digits
NumberIs digits (Some n) = IsNumber digits n

value_is : (digits : List ℕ) (n : ℕ) → IsNumber digits n → digits_value 10 digits ≡ n
value_is digits n x =
    let small : n < 2 ^ 64 = omega (arith, ltb-true n (2 ^ 32) x.1) in
    ap (digits_value 10) (sym x.0) ∙ digits_value-decimal numerals n small

number_in_is : (digits : List ℕ) → NumberIs digits (number_in digits)
number_in_is digits = by (bytes_eq (decimal (digits_value 10 digits)) digits) (nat_lt (digits_value 10 digits) (2 ^ 32)) refl refl
  where
    by : (c d : Bool) → bytes_eq (decimal (digits_value 10 digits)) digits ≡ c → nat_lt (digits_value 10 digits) (2 ^ 32) ≡ d
        → NumberIs digits (cond (c && d) (Some (digits_value 10 digits)) None)
    by true true e f = ((bytes_eq-Decides (decimal (digits_value 10 digits)) digits).0 e, f)
    by true false e f = λ n x. true≢false (sym x.1 ∙ ap (λ k. nat_lt k (2 ^ 32)) (sym (value_is digits n x)) ∙ f)
    by false d e f = λ n x. true≢false (sym ((bytes_eq-Decides (decimal (digits_value 10 digits)) digits).1 (ap decimal (value_is digits n x) ∙ x.0)) ∙ e)

not_empty : (b : ℕ) (bs : List ℕ) → [] ≡ b ∷ bs → ⊥
not_empty b bs e = zero_suc (ap length e)
  where
    zero_suc : 0 ≡ suc (length bs) → ⊥
    zero_suc h = omega arith

number_end_is : (m : Bool) (text : List ℕ) (o : Option ℕ) (behind : List ℕ) → NumberIs (take (prefix_len is_digit text) text) o
    → drop (prefix_len is_digit text) text ≡ behind → FrontIs m (91 ∷ text) (number_end m o behind)
number_end_is m text None behind h e = number_missing m text h
number_end_is m text (Some n) [] h e = bracket_missing m text (λ l f. not_empty 93 l (sym e ∙ f))
number_end_is m text (Some n) (b ∷ left) h e = by (nat_eq b 93) refl
  where
    by : (c : Bool) → nat_eq b 93 ≡ c → FrontIs m (91 ∷ text) (cond c (Some (number_step m n, left)) None)
    by true c = number_begins m text n left h (e ∙ ap (λ x. x ∷ left) (eqb-true b 93 c))
    by false c = bracket_missing m text (λ l f. true≢false (sym (eq-eqb b 93 (ap (λ z. get_or z 0 0) (sym e ∙ f))) ∙ c))

front_is : (m : Bool) (text : List ℕ) → FrontIs m text (front m text)
front_is m [] = λ s l x. no_text (step_shorter m [] s l x)
  where
    no_text : {n : ℕ} → n < 0 → ⊥
    no_text h = omega (arith, h)
front_is m (b ∷ text) = by (nat_eq b 46) (nat_eq b 91) refl refl
  where
    other : nat_eq b 46 ≡ false → nat_eq b 91 ≡ false → (s : Step) (l : List ℕ) → BeginsWith m (b ∷ text) s l → ⊥
    other e f (Name n) l x = true≢false (sym (eq-eqb b 46 (sym (ap (λ z. get_or z 0 0) x.text_is))) ∙ e)
    other e f (Index n) l x = true≢false (sym (eq-eqb b 91 (sym (ap (λ z. get_or z 0 0) x.text_is))) ∙ f)
    other e f (Member n) l x = true≢false (sym (eq-eqb b 91 (sym (ap (λ z. get_or z 0 0) x.text_is))) ∙ f)

    by : (c d : Bool) → nat_eq b 46 ≡ c → nat_eq b 91 ≡ d → FrontIs m (b ∷ text) (cond c (name_front text) (cond d (number_front m text) None))
    by true d e f = subst (λ z. FrontIs m (z ∷ text) (name_front text)) (sym (eqb-true b 46 e)) (name_front_is m text)
    by false true e f = subst (λ z. FrontIs m (z ∷ text) (number_front m text)) (sym (eqb-true b 91 f))
        (number_end_is m text (number_in (take (prefix_len is_digit text) text)) (drop (prefix_len is_digit text) text) (number_in_is (take (prefix_len is_digit text) text)) refl)
    by false false e f = other e f

-- ---- lists of steps

left_of : (a b : Bool) → a && b ≡ true → a ≡ true
left_of true b h = refl
left_of false b h = h

later_ends : (s : Step) (later : List Step) → ends_step s (flat_map later_step_text later) ≡ true
later_ends (Index n) later = refl
later_ends (Member n) later = refl
later_ends (Name n) [] = refl
later_ends (Name n) (Name x ∷ later) = refl
later_ends (Name n) (Index x ∷ later) = refl
later_ends (Name n) (Member x ∷ later) = refl

spells_begins : (m : Bool) (text : List ℕ) (s : Step) (later : List Step) → Spells m text (s ∷ later) → BeginsWith m text s (flat_map later_step_text later)
spells_begins m text s later h =
    record { text_is = h.text_is; fits = left_of (is_step m s) (are_steps (before_member s) later) h.fits; ends = later_ends s later }

abbrev StepsAre : Bool → List ℕ → Option (List Step) → Type 0
StepsAre m text None = (steps : List Step) → Spells m text steps → ⊥
StepsAre m text (Some steps) = Spells m text steps

longer : (m : Bool) (b : ℕ) (text : List ℕ) (s : Step) (l : List ℕ) → StepsAre (before_member s) l None → BeginsWith m (b ∷ text) s l → StepsAre m (b ∷ text) None
longer m b text s l none x [] g = not_empty b text g.text_is
longer m b text s l none x (t ∷ later) g = none later (spelled_after m (b ∷ text) s l t later x g).1

none_begins : (m : Bool) (b : ℕ) (text : List ℕ) → BeginsWithNone m (b ∷ text) → StepsAre m (b ∷ text) None
none_begins m b text none [] g = not_empty b text g.text_is
none_begins m b text none (t ∷ later) g = none t (flat_map later_step_text later) (spells_begins m (b ∷ text) t later g)

module _ (n : ℕ) (shorter : (m : Bool) (text : List ℕ) → length text ≤ n → StepsAre m text (steps_in n m text)) (m : Bool) (b : ℕ) (text : List ℕ) (few : length (b ∷ text) ≤ suc n) where
  more_steps : (s : Step) (l : List ℕ) → BeginsWith m (b ∷ text) s l → (o : Option (List Step)) → StepsAre (before_member s) l o
      → StepsAre m (b ∷ text) (option_map (λ (later : List Step). s ∷ later) o)
  more_steps s l x None none = longer m b text s l none x
  more_steps s l x (Some later) h = spells_more m (b ∷ text) s l later x h

  steps_after_front : (o : Option (Step × List ℕ)) → FrontIs m (b ∷ text) o
      → StepsAre m (b ∷ text) (option_and_then (λ (f : Step × List ℕ). option_map (λ (later : List Step). f.0 ∷ later) (steps_in n (before_member f.0) f.1)) o)
  steps_after_front None none = none_begins m b text none
  steps_after_front (Some f) x =
      more_steps f.0 f.1 x (steps_in n (before_member f.0) f.1) (shorter (before_member f.0) f.1 (omega (arith, few, step_shorter m (b ∷ text) f.0 f.1 x)))

steps_in_are : (n : ℕ) (m : Bool) (text : List ℕ) → length text ≤ n → StepsAre m text (steps_in n m text)
steps_in_are zero m [] few = record { fits = refl; text_is = refl }
steps_in_are (suc n) m [] few = record { fits = refl; text_is = refl }
steps_in_are zero m (b ∷ text) few = absurd (omega (arith, few))
steps_in_are (suc n) m (b ∷ text) few = steps_after_front n (steps_in_are n) m b text few (front m (b ∷ text)) (front_is m (b ∷ text))

-- a text has one list of steps at most
same_steps_spelled : (m : Bool) (text : List ℕ) (xs ys : List Step) → Spells m text xs → Spells m text ys → xs ≡ ys
same_steps_spelled m text [] [] g h = refl
same_steps_spelled m text [] (y ∷ ys) g h = absurd (no_length (step_shorter m text y (flat_map later_step_text ys) (spells_begins m text y ys h)) (ap length (sym g.text_is)))
  where
    no_length : {n k : ℕ} → n < k → k ≡ 0 → ⊥
    no_length l e = omega (arith, l, e)
same_steps_spelled m text (x ∷ xs) [] g h = absurd (no_length (step_shorter m text x (flat_map later_step_text xs) (spells_begins m text x xs g)) (ap length (sym h.text_is)))
  where
    no_length : {n k : ℕ} → n < k → k ≡ 0 → ⊥
    no_length l e = omega (arith, l, e)
same_steps_spelled m text (x ∷ xs) (y ∷ ys) g h =
    let begun = spells_begins m text x xs g in
    let own = spelled_after m text x (flat_map later_step_text xs) x xs begun g in
    let other = spelled_after m text x (flat_map later_step_text xs) y ys begun h in
    λ i. sym other.0 i ∷ same_steps_spelled (before_member x) (flat_map later_step_text xs) xs ys own.1 other.1 i

-- ---- paths

abbrev pub PathIs : List ℕ → Option Path → Type 0
PathIs text None = (path : Path) → HasText path text → ⊥
PathIs text (Some path) = HasText path text

path_after_front : (text : List ℕ) (s : Step) (l : List ℕ) → BeginsWith false (46 ∷ text) s l → (o : Option (List Step)) → StepsAre (before_member s) l o
    → PathIs text (option_map (λ (later : List Step). path_of (s ∷ later)) o)
path_after_front text s l x None none = λ path h. let c = path_continues text s l path x h in none c.later c.spelled
path_after_front text s l x (Some later) g = path_found text s l (path_of (s ∷ later)) x (record { later = later; steps_are = refl; spelled = g })

path_after : (text : List ℕ) (o : Option (Step × List ℕ)) → FrontIs false (46 ∷ text) o
    → PathIs text (option_and_then (λ (f : Step × List ℕ). option_map (λ (later : List Step). path_of (f.0 ∷ later)) (steps_in (length text) (before_member f.0) f.1)) o)
path_after text None none = λ path h. no_first text path none h
path_after text (Some f) x =
    path_after_front text f.0 f.1 x (steps_in (length text) (before_member f.0) f.1)
    (steps_in_are (length text) (before_member f.0) f.1 (omega (arith, step_shorter false (46 ∷ text) f.0 f.1 x)))

-- the path that a text gives has the text, and where it gives none there is none
pub path_from_is : (text : List ℕ) → PathIs text (path_from text)
path_from_is text = path_after text (name_front text) (name_front_is false text)

-- a text has one path at most
one_path_by : (text : List ℕ) (p q : Path) (o : Option (Step × List ℕ)) → FrontIs false (46 ∷ text) o → HasText p text → HasText q text → p ≡ q
one_path_by text p q None none g h = absurd (no_first text p none g)
one_path_by text p q (Some f) x g h =
    let c = path_continues text f.0 f.1 p x g in
    let d = path_continues text f.0 f.1 q x h in
    let same = same_steps_spelled (before_member f.0) f.1 c.later d.later c.spelled d.spelled in
    λ i. record { steps = (c.steps_are ∙ ap (λ z. f.0 ∷ z) same ∙ sym d.steps_are) i }

pub one_path : (text : List ℕ) (p q : Path) → HasText p text → HasText q text → p ≡ q
one_path text p q = one_path_by text p q (name_front text) (name_front_is false text)

-- what has the text is what the text gives
same_path_read : (text : List ℕ) (a b : Option Path) → PathIs text a → PathIs text b → a ≡ b
same_path_read text None None g h = refl
same_path_read text None (Some q) g h = absurd (g q h)
same_path_read text (Some p) None g h = absurd (h p g)
same_path_read text (Some p) (Some q) g h = ap (λ z. Some z) (one_path text p q g h)

pub path_given : (text : List ℕ) (path : Path) → HasText path text → path_from text ≡ Some path
path_given text path h = same_path_read text (path_from text) (Some path) (path_from_is text) h

-- what the program reads is what the text gives
pub path_read : {E : Type 0} (text : List ℕ) (r : Result (Option Path) E) → IfOk r (λ o. IfSome o (λ p. HasText p text))
    → IfOk r (λ o. o ≡ None → (p : Path) → HasText p text → ⊥) → IfOk r (λ o. o ≡ path_from text)
path_read text (Ok None) found none = same_path_read text None (path_from text) (none refl) (path_from_is text)
path_read text (Ok (Some p)) found none = same_path_read text (Some p) (path_from text) found (path_from_is text)
path_read text (Err e) found none = tt
