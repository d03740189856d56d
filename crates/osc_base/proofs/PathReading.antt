-- Texts of paths, read from the front: a text begins with one step at most, and a path's text begins with each of its steps in turn.
use Rattle.std.proofs.Common.{◌≡◌, ◌≢◌, ◌++◌, ◌&&◌, ◌||◌, ◌^◌, ◌<◌, ◌≤◌, ◌+◌, ◌-◌, ℕ, zero, suc, Bool, true, false, not, cond, refl, sym, ap, ◌∙◌, subst, true≢false, arith, List, [], ◌∷◌, length, take, drop, take-append-drop, get_or, append_assoc, append-nil, rules, eq-eqb, lt-ltb, length-append, ltb-true, leb-true, eqb-true}
use Rattle.std.specs.Prelude.{nat_lt, nat_le, nat_eq, decimal, flat_map, IfOk, IfSome, MatchOption, MatchResult, IsUtf8, IsAscii, Some, None, Ok, Err, Option, Result}
use Rattle.std.specs.List.{list_all, prefix_len}
use Rattle.std.proofs.lemmas.Str.Parse.{IsNumeralModel, numerals_by_value}
use Rattle.std.proofs.lemmas.Fmt.{digits_decimal, decimal_injective, decimal_digit, first_decimal, decimal_nonempty, decimal-digits_value, digits_value-decimal, IsAscii-from_digits}
use Rattle.std.proofs.lemmas.Str.{IsUtf8-from_ascii}
use Rattle.std.proofs.lemmas.Str.Ascii.{IsAscii-nil, IsAscii-cons}
use Rattle.std.proofs.lemmas.Str.Parse.{parse_digits}
use Rattle.std.specs.Str.Parse.{digits_value, ParsesUnsigned}
use Rattle.std.specs.Result.{result_ok}
use Rattle.osc_base.specs.declared.path.Path.{Path}
use Rattle.osc_base.specs.declared.path.Step.{Step}
use Rattle.osc_base.specs.declared.path.Step.TheVariants.{Name, Index, Member}
use Rattle.osc_base.specs.Path.{path_text, later_step_text}
use Rattle.osc_base.specs.PathTexts.{begins_name, is_digit, continues_name, is_name, before_member, is_step, are_steps, is_written, HasText, ends_step, number_step, IsNumber, IsNoNumber, has_leading_zero, BeginsWith, BeginsWithNone, Spells, Continues}
use native.Mathlib.Numerals.{one-add}

left_of : (a b : Bool) → a && b ≡ true → a ≡ true
left_of true b h = refl
left_of false b h = h

right_of : (a b : Bool) → a && b ≡ true → b ≡ true
right_of true b h = h
right_of false b h = absurd (true≢false (sym h))

-- ---- runs

-- a list doesn't begin with what passes
abbrev pub stops : (ℕ → Bool) → List ℕ → Bool
stops p [] = true
stops p (x ∷ xs) = not (p x)

not_both : (b : Bool) → b ≡ true → not b ≡ true → {A : Type 0} → A
not_both true e n = absurd (true≢false (sym n))
not_both false e n = absurd (true≢false (sym e))

heads : (x y : ℕ) (xs ys : List ℕ) → x ∷ xs ≡ y ∷ ys → x ≡ y
heads x y xs ys e = ap (λ l. get_or l 0 0) e

tails : (x y : ℕ) (xs ys : List ℕ) → x ∷ xs ≡ y ∷ ys → xs ≡ ys
tails x y xs ys e = ap (λ l. drop 1 l) e

-- a list is cut in one way into a run that passes and what doesn't go on with it
same_run : (p : ℕ → Bool) (xs ys us vs : List ℕ) → list_all p xs ≡ true → list_all p us ≡ true → stops p ys ≡ true → stops p vs ≡ true
    → xs ++ ys ≡ us ++ vs → (xs ≡ us) × (ys ≡ vs)
same_run p [] ys [] vs a b c d e = (refl, e)
same_run p [] ys (u ∷ us) vs a b c d e = not_both (p u) (left_of (p u) (list_all p us) b) (ap (stops p) (sym e) ∙ c)
same_run p (x ∷ xs) ys [] vs a b c d e = not_both (p x) (left_of (p x) (list_all p xs) a) (ap (stops p) e ∙ d)
same_run p (x ∷ xs) ys (u ∷ us) vs a b c d e =
    let rest = same_run p xs ys us vs (right_of (p x) (list_all p xs) a) (right_of (p u) (list_all p us) b) c d (tails x u (xs ++ ys) (us ++ vs) e) in
    ((λ i. heads x u (xs ++ ys) (us ++ vs) e i ∷ rest.0 i), rest.1)

all_taken_by : (p : ℕ → Bool) (x : ℕ) (xs : List ℕ) (b : Bool) → p x ≡ b → list_all p (take (prefix_len p xs) xs) ≡ true
    → list_all p (take (cond b (1 + prefix_len p xs) 0) (x ∷ xs)) ≡ true
all_taken_by p x xs true e h = subst (λ n. list_all p (take n (x ∷ xs)) ≡ true) (sym (one-add (prefix_len p xs))) (rw (e, h) refl)
all_taken_by p x xs false e h = refl

pub all_taken : (p : ℕ → Bool) (xs : List ℕ) → list_all p (take (prefix_len p xs) xs) ≡ true
all_taken p [] = refl
all_taken p (x ∷ xs) = all_taken_by p x xs (p x) refl (all_taken p xs)

stops_after_by : (p : ℕ → Bool) (x : ℕ) (xs : List ℕ) (b : Bool) → p x ≡ b → stops p (drop (prefix_len p xs) xs) ≡ true
    → stops p (drop (cond b (1 + prefix_len p xs) 0) (x ∷ xs)) ≡ true
stops_after_by p x xs true e h = subst (λ n. stops p (drop n (x ∷ xs)) ≡ true) (sym (one-add (prefix_len p xs))) h
stops_after_by p x xs false e h = ap not e

pub stops_after : (p : ℕ → Bool) (xs : List ℕ) → stops p (drop (prefix_len p xs) xs) ≡ true
stops_after p [] = refl
stops_after p (x ∷ xs) = stops_after_by p x xs (p x) refl (stops_after p xs)

-- ---- numbers

pub numerals : IsNumeralModel (λ ds. list_all is_digit ds ≡ true) (digits_value 10)
numerals = numerals_by_value _ (search rules)

small : (n : ℕ) → nat_lt n (2 ^ 32) ≡ true → n < 2 ^ 64
small n h = omega (arith, ltb-true n (2 ^ 32) h)

decimal_digits : (n : ℕ) → nat_lt n (2 ^ 32) ≡ true → list_all is_digit (decimal n) ≡ true
decimal_digits n h = digits_decimal numerals n (small n h)

-- a number in brackets, with the list grouped to the right
bracket_text : (n : ℕ) (left : List ℕ) → ((91 ∷ decimal n) ++ 93 ∷ []) ++ left ≡ 91 ∷ (decimal n ++ 93 ∷ left)
bracket_text n left = ap (λ l. 91 ∷ l) (append_assoc (decimal n) (93 ∷ []) left)

same_numbers : (n k : ℕ) (left other : List ℕ) → nat_lt n (2 ^ 32) ≡ true → nat_lt k (2 ^ 32) ≡ true
    → ((91 ∷ decimal n) ++ 93 ∷ []) ++ left ≡ ((91 ∷ decimal k) ++ 93 ∷ []) ++ other → (n ≡ k) × (left ≡ other)
same_numbers n k left other a b e =
    let runs = same_run is_digit (decimal n) (93 ∷ left) (decimal k) (93 ∷ other) (decimal_digits n a) (decimal_digits k b) refl refl
    (tails 91 91 (decimal n ++ 93 ∷ left) (decimal k ++ 93 ∷ other) (sym (bracket_text n left) ∙ e ∙ bracket_text k other)) in
    (decimal_injective n k (small n a) (small k b) runs.0, tails 93 93 left other runs.1)

-- ---- steps

pub name_continues : (name : List ℕ) → is_name name ≡ true → list_all continues_name name ≡ true
name_continues [] h = absurd (true≢false (sym h))
name_continues (b ∷ bs) h = rw (left_of (begins_name b) (list_all continues_name bs) h) (right_of (begins_name b) (list_all continues_name bs) h)

name_stops : (name left : List ℕ) → ends_step (Name name) left ≡ true → stops continues_name left ≡ true
name_stops name [] h = refl
name_stops name (b ∷ bs) h = h

pub stops_name : (name left : List ℕ) → stops continues_name left ≡ true → ends_step (Name name) left ≡ true
stops_name name [] h = refl
stops_name name (b ∷ bs) h = h

-- a byte that isn't another
dot_not_bracket : {A : Type 0} → ◌≡◌ {A = ℕ} 46 91 → A
dot_not_bracket e = absurd (omega arith)

-- a text begins with one step at most
one_by : (m : Bool) (s t : Step) (l k : List ℕ) → is_step m s ≡ true → is_step m t ≡ true → ends_step s l ≡ true → ends_step t k ≡ true
    → later_step_text s ++ l ≡ later_step_text t ++ k → (s ≡ t) × (l ≡ k)
one_by m (Name a) (Name b) l k f g u v e =
    let runs = same_run continues_name a l b k (name_continues a f) (name_continues b g) (name_stops a l u) (name_stops b k v) (tails 46 46 (a ++ l) (b ++ k) e) in
    (ap (λ (n : List ℕ). Name n) runs.0, runs.1)
one_by m (Name a) (Index b) l k f g u v e = dot_not_bracket (ap (λ l. get_or l 0 0) e)
one_by m (Name a) (Member b) l k f g u v e = dot_not_bracket (ap (λ l. get_or l 0 0) e)
one_by m (Index a) (Name b) l k f g u v e = dot_not_bracket (sym (ap (λ l. get_or l 0 0) e))
one_by m (Member a) (Name b) l k f g u v e = dot_not_bracket (sym (ap (λ l. get_or l 0 0) e))
one_by m (Index a) (Index b) l k f g u v e =
    let same = same_numbers a b l k (right_of (not m) (nat_lt a (2 ^ 32)) f) (right_of (not m) (nat_lt b (2 ^ 32)) g) e in
    (ap (λ n. Index n) same.0, same.1)
one_by m (Member a) (Member b) l k f g u v e =
    let same = same_numbers a b l k (right_of m (nat_lt a (2 ^ 32)) f) (right_of m (nat_lt b (2 ^ 32)) g) e in
    (ap (λ n. Member n) same.0, same.1)
one_by m (Index a) (Member b) l k f g u v e = not_both m (left_of m (nat_lt b (2 ^ 32)) g) (left_of (not m) (nat_lt a (2 ^ 32)) f)
one_by m (Member a) (Index b) l k f g u v e = not_both m (left_of m (nat_lt a (2 ^ 32)) f) (left_of (not m) (nat_lt b (2 ^ 32)) g)

pub one_step : (m : Bool) (text : List ℕ) (s t : Step) (l k : List ℕ) → BeginsWith m text s l → BeginsWith m text t k → (s ≡ t) × (l ≡ k)
one_step m text s t l k x y = one_by m s t l k x.fits y.fits x.ends y.ends (x.text_is ∙ sym y.text_is)

-- ---- lists of steps

-- what stands after a name in the text of later steps doesn't go on with it
later_ends : (s : Step) (later : List Step) → ends_step s (flat_map later_step_text later) ≡ true
later_ends (Index n) later = refl
later_ends (Member n) later = refl
later_ends (Name n) [] = refl
later_ends (Name n) (Name x ∷ later) = refl
later_ends (Name n) (Index x ∷ later) = refl
later_ends (Name n) (Member x ∷ later) = refl

spells_begins : (m : Bool) (text : List ℕ) (s : Step) (later : List Step) → Spells m text (s ∷ later) → BeginsWith m text s (flat_map later_step_text later)
spells_begins m text s later h =
    record { text_is = h.text_is; fits = left_of (is_step m s) (are_steps (before_member s) later) h.fits; ends = later_ends s later }

-- the steps that spell a text begin with the step that it begins with
pub spelled_after : (m : Bool) (text : List ℕ) (s : Step) (l : List ℕ) (t : Step) (later : List Step) → BeginsWith m text s l → Spells m text (t ∷ later)
    → (t ≡ s) × Spells (before_member s) l later
spelled_after m text s l t later x h =
    let same = one_step m text t s (flat_map later_step_text later) l (spells_begins m text t later h) x in
    (same.0, record { fits = ap (λ z. are_steps (before_member z) later) (sym same.0) ∙ right_of (is_step m t) (are_steps (before_member t) later) h.fits; text_is = same.1 })

pub spells_more : (m : Bool) (text : List ℕ) (s : Step) (l : List ℕ) (later : List Step) → BeginsWith m text s l → Spells (before_member s) l later
    → Spells m text (s ∷ later)
spells_more m text s l later x h =
    record { fits = rw (x.fits, h.fits) refl; text_is = ap (λ z. later_step_text s ++ z) h.text_is ∙ x.text_is }

-- of a text after a first step, these steps were read, and this is left
pub record Reached (first : Step) (text : List ℕ) (steps : List Step) (of_member : Bool) (left : List ℕ) : Type 0 where
  pub done : List Step
  pub steps_are : steps ≡ first ∷ done
  pub forward : (later : List Step) → Spells of_member left later → Spells (before_member first) text (done ++ later)
  pub back : (all : List Step) → Spells (before_member first) text all → (later : List Step) × (all ≡ done ++ later) × Spells of_member left later

pub reached_first : (first : Step) (text : List ℕ) → Reached first text (first ∷ []) (before_member first) text
reached_first first text = record { done = []; steps_are = refl; forward = λ later h. h; back = λ all h. (all, refl, h) }

-- a text is left, so a step more is
spelled_some : (m : Bool) (left : List ℕ) (later : List Step) → Spells m left later → left ≢ [] → (s : Step) × (others : List Step) × (later ≡ s ∷ others)
spelled_some m left [] h some = absurd (some (sym h.text_is))
spelled_some m left (s ∷ others) h some = (s, others, refl)

pub reached_more : (first : Step) (text : List ℕ) (steps : List Step) (m : Bool) (left : List ℕ) (s : Step) (behind : List ℕ) → left ≢ []
    → Reached first text steps m left → BeginsWith m left s behind → Reached first text (steps ++ s ∷ []) (before_member s) behind
reached_more first text steps m left s behind some r x = record {
  done = r.done ++ s ∷ [];
  steps_are = ap (λ z. z ++ s ∷ []) r.steps_are;
  forward = λ later h. subst (λ z. Spells (before_member first) text z) (sym (append_assoc r.done (s ∷ []) later)) (r.forward (s ∷ later) (spells_more m left s behind later x h));
  back = λ all h. back_more all (r.back all h);
}
  where
    back_more : (all : List Step) → (later : List Step) × (all ≡ r.done ++ later) × Spells m left later
        → (later : List Step) × (all ≡ (r.done ++ s ∷ []) ++ later) × Spells (before_member s) behind later
    back_more all ([], e, h) = absurd (some (sym h.text_is))
    back_more all (t ∷ others, e, h) =
        let after = spelled_after m left s behind t others x h in
        (others, e ∙ ap (λ z. r.done ++ z ∷ others) after.0 ∙ sym (append_assoc r.done (s ∷ []) others), after.1)

-- nothing is left
pub reached_all : (first : Step) (text : List ℕ) (steps : List Step) (m : Bool) (left : List ℕ) → left ≡ [] → Reached first text steps m left
    → Continues first text (record { steps = steps })
reached_all first text steps m left none r = record {
  later = r.done;
  steps_are = r.steps_are;
  spelled = subst (λ z. Spells (before_member first) text z) (append-nil r.done) (r.forward [] (record { fits = refl; text_is = sym none }));
}

-- what is left begins with no step
pub reached_none : (first : Step) (text : List ℕ) (steps : List Step) (m : Bool) (left : List ℕ) → left ≢ [] → Reached first text steps m left
    → BeginsWithNone m left → (path : Path) → Continues first text path → ⊥
reached_none first text steps m left some r none path c = by (r.back c.later c.spelled)
  where
    by : (later : List Step) × (c.later ≡ r.done ++ later) × Spells m left later → ⊥
    by ([], e, h) = some (sym h.text_is)
    by (s ∷ others, e, h) = none s (flat_map later_step_text others) (spells_begins m left s others h)

-- ---- whole paths

-- a path's text with a point before it spells its steps
pub written_spells : (text : List ℕ) (steps : List Step) → is_written steps ≡ true → path_text steps ≡ text → Spells false (46 ∷ text) steps
written_spells text [] w e = absurd (true≢false (sym w))
written_spells text (Name name ∷ later) w e = record { fits = w; text_is = ap (λ z. 46 ∷ z) e }
written_spells text (Index n ∷ later) w e = absurd (true≢false (sym w))
written_spells text (Member n ∷ later) w e = absurd (true≢false (sym w))

pub path_continues : (text : List ℕ) (s : Step) (left : List ℕ) (path : Path) → BeginsWith false (46 ∷ text) s left → HasText path text → Continues s left path
path_continues text s left path x h = by path.steps refl (written_spells text path.steps h.written h.text_is)
  where
    by : (steps : List Step) → path.steps ≡ steps → Spells false (46 ∷ text) steps → Continues s left path
    by [] e g = absurd (no_text (ap length g.text_is))
      where
        no_text : 0 ≡ suc (length text) → ⊥
        no_text e = omega arith
    by (t ∷ later) e g =
        let after = spelled_after false (46 ∷ text) s left t later x g in
        record { later = later; steps_are = e ∙ ap (λ z. z ∷ later) after.0; spelled = after.1 }

pub no_first : (text : List ℕ) (path : Path) → BeginsWithNone false (46 ∷ text) → HasText path text → ⊥
no_first text path none h = by path.steps (written_spells text path.steps h.written h.text_is)
  where
    by : (steps : List Step) → Spells false (46 ∷ text) steps → ⊥
    by [] g = absurd (no_text (ap length g.text_is))
      where
        no_text : 0 ≡ suc (length text) → ⊥
        no_text e = omega arith
    by (t ∷ later) g = none t (flat_map later_step_text later) (spells_begins false (46 ∷ text) t later g)

first_text : (text : List ℕ) (s : Step) (left : List ℕ) (later : List Step) → BeginsWith false (46 ∷ text) s left → flat_map later_step_text later ≡ left
    → path_text (s ∷ later) ≡ text
first_text text (Name name) left later x e = ap (λ z. name ++ z) e ∙ tails 46 46 (name ++ left) text x.text_is
first_text text (Index n) left later x e = dot_not_bracket (sym (ap (λ l. get_or l 0 0) x.text_is))
first_text text (Member n) left later x e = dot_not_bracket (sym (ap (λ l. get_or l 0 0) x.text_is))

first_written : (text : List ℕ) (s : Step) (left : List ℕ) (later : List Step) → BeginsWith false (46 ∷ text) s left → are_steps (before_member s) later ≡ true
    → is_written (s ∷ later) ≡ true
first_written text (Name name) left later x e = rw (x.fits, e) refl
first_written text (Index n) left later x e = dot_not_bracket (sym (ap (λ l. get_or l 0 0) x.text_is))
first_written text (Member n) left later x e = dot_not_bracket (sym (ap (λ l. get_or l 0 0) x.text_is))

pub path_found : (text : List ℕ) (s : Step) (left : List ℕ) (path : Path) → BeginsWith false (46 ∷ text) s left → Continues s left path → HasText path text
path_found text s left path x c = record {
  written = ap is_written c.steps_are ∙ first_written text s left c.later x c.spelled.fits;
  text_is = ap path_text c.steps_are ∙ first_text text s left c.later x c.spelled.text_is;
}

-- ---- what a text begins with

-- a text that begins with a name, after a point
pub name_begins : (m : Bool) (text : List ℕ) → is_name (take (prefix_len continues_name text) text) ≡ true
    → BeginsWith m (46 ∷ text) (Name (take (prefix_len continues_name text) text)) (drop (prefix_len continues_name text) text)
name_begins m text h = record {
  text_is = ap (λ z. 46 ∷ z) (take-append-drop (prefix_len continues_name text) text);
  fits = h;
  ends = stops_name (take (prefix_len continues_name text) text) (drop (prefix_len continues_name text) text) (stops_after continues_name text);
}

pub name_missing : (m : Bool) (text : List ℕ) → is_name (take (prefix_len continues_name text) text) ≡ false → BeginsWithNone m (46 ∷ text)
name_missing m text h (Name name) left x =
    let runs = same_run continues_name name left (take (prefix_len continues_name text) text) (drop (prefix_len continues_name text) text)
    (name_continues name x.fits) (all_taken continues_name text) (name_stops name left x.ends) (stops_after continues_name text)
    (tails 46 46 (name ++ left) text x.text_is ∙ sym (take-append-drop (prefix_len continues_name text) text)) in
    true≢false (sym x.fits ∙ ap is_name runs.0 ∙ h)
name_missing m text h (Index n) left x = dot_not_bracket (sym (ap (λ l. get_or l 0 0) x.text_is))
name_missing m text h (Member n) left x = dot_not_bracket (sym (ap (λ l. get_or l 0 0) x.text_is))

pub number_begins : (m : Bool) (text : List ℕ) (n : ℕ) (left : List ℕ) → IsNumber (take (prefix_len is_digit text) text) n
    → drop (prefix_len is_digit text) text ≡ 93 ∷ left → BeginsWith m (91 ∷ text) (number_step m n) left
number_begins true text n left h e = record {
  text_is = bracket_text n left ∙ ap (λ z. 91 ∷ z) ((λ i. h.0 i ++ sym e i) ∙ take-append-drop (prefix_len is_digit text) text);
  fits = h.1;
  ends = refl;
}
number_begins false text n left h e = record {
  text_is = bracket_text n left ∙ ap (λ z. 91 ∷ z) ((λ i. h.0 i ++ sym e i) ∙ take-append-drop (prefix_len is_digit text) text);
  fits = h.1;
  ends = refl;
}

numbers_in : (text : List ℕ) (n : ℕ) (left : List ℕ) → nat_lt n (2 ^ 32) ≡ true → ((91 ∷ decimal n) ++ 93 ∷ []) ++ left ≡ 91 ∷ text
    → (decimal n ≡ take (prefix_len is_digit text) text) × (93 ∷ left ≡ drop (prefix_len is_digit text) text)
numbers_in text n left small e =
    same_run is_digit (decimal n) (93 ∷ left) (take (prefix_len is_digit text) text) (drop (prefix_len is_digit text) text)
    (decimal_digits n small) (all_taken is_digit text) refl (stops_after is_digit text)
    (tails 91 91 (decimal n ++ 93 ∷ left) text (sym (bracket_text n left) ∙ e) ∙ sym (take-append-drop (prefix_len is_digit text) text))

-- what begins with a bracket begins with a number in brackets
number_in : (m : Bool) (text : List ℕ) (s : Step) (left : List ℕ) → BeginsWith m (91 ∷ text) s left
    → (n : ℕ) × IsNumber (take (prefix_len is_digit text) text) n × (93 ∷ left ≡ drop (prefix_len is_digit text) text)
number_in m text (Name name) left x = dot_not_bracket (ap (λ l. get_or l 0 0) x.text_is)
number_in m text (Index n) left x =
    let small = right_of (not m) (nat_lt n (2 ^ 32)) x.fits in
    let parts = numbers_in text n left small x.text_is in (n, (parts.0, small), parts.1)
number_in m text (Member n) left x =
    let small = right_of m (nat_lt n (2 ^ 32)) x.fits in
    let parts = numbers_in text n left small x.text_is in (n, (parts.0, small), parts.1)

pub number_missing : (m : Bool) (text : List ℕ) → IsNoNumber (take (prefix_len is_digit text) text) → BeginsWithNone m (91 ∷ text)
number_missing m text none s left x = let h = number_in m text s left x in none h.0 h.1

pub bracket_missing : (m : Bool) (text : List ℕ) → ((l : List ℕ) → drop (prefix_len is_digit text) text ≡ 93 ∷ l → ⊥) → BeginsWithNone m (91 ∷ text)
bracket_missing m text none s left x = let h = number_in m text s left x in none left (sym h.2)

-- a step takes a byte or more
pub step_shorter : (m : Bool) (text : List ℕ) (s : Step) (left : List ℕ) → BeginsWith m text s left → length left < length text
step_shorter m text (Name name) left x = omega (arith, sym (ap length x.text_is), length-append name left)
step_shorter m text (Index n) left x = omega (arith, sym (ap length x.text_is), length-append ((91 ∷ decimal n) ++ 93 ∷ []) left, length-append (91 ∷ decimal n) (93 ∷ []))
step_shorter m text (Member n) left x = omega (arith, sym (ap length x.text_is), length-append ((91 ∷ decimal n) ++ 93 ∷ []) left, length-append (91 ∷ decimal n) (93 ∷ []))

-- ---- bytes

name_byte_ascii : (b : ℕ) → continues_name b ≡ true → b < 128
name_byte_ascii b h = by (nat_le 65 b && nat_le b 90) (nat_le 97 b && nat_le b 122) (nat_eq b 95) (is_digit b) refl refl refl refl h
  where
    by : (u v w x : Bool) → nat_le 65 b && nat_le b 90 ≡ u → nat_le 97 b && nat_le b 122 ≡ v → nat_eq b 95 ≡ w → is_digit b ≡ x → (u || (v || w)) || x ≡ true → b < 128
    by true v w x d e f g h = omega (arith, leb-true b 90 (right_of (nat_le 65 b) (nat_le b 90) d))
    by false true w x d e f g h = omega (arith, leb-true b 122 (right_of (nat_le 97 b) (nat_le b 122) e))
    by false false true x d e f g h = omega (arith, eqb-true b 95 f)
    by false false false true d e f g h = omega (arith, leb-true b 57 (right_of (nat_le 48 b) (nat_le b 57) g))
    by false false false false d e f g h = absurd (true≢false (sym h))

all_ascii : (bs : List ℕ) → list_all continues_name bs ≡ true → IsAscii bs
all_ascii [] h = IsAscii-nil
all_ascii (b ∷ bs) h = IsAscii-cons b bs (name_byte_ascii b (left_of (continues_name b) (list_all continues_name bs) h)) (all_ascii bs (right_of (continues_name b) (list_all continues_name bs) h))

pub name_utf8 : (bs : List ℕ) → is_name bs ≡ true → IsUtf8 bs
name_utf8 bs h = IsUtf8-from_ascii bs (all_ascii bs (name_continues bs h))

pub digits_utf8 : (bs : List ℕ) → list_all is_digit bs ≡ true → IsUtf8 bs
digits_utf8 bs h = IsUtf8-from_ascii bs (IsAscii-from_digits bs (numerals.to bs h))

-- ---- numbers read

zero_first : (n : ℕ) (b c : ℕ) (more : List ℕ) → nat_lt n (2 ^ 32) ≡ true → decimal n ≡ b ∷ c ∷ more → b ≡ 48 → ⊥
zero_first zero b c more small e z = absurd (one_long (ap length (sym (decimal_digit 0 (omega arith)) ∙ e)))
  where
    one_long : 1 ≡ suc (suc (length more)) → ⊥
    one_long e = omega arith
zero_first (suc n) b c more h e z = omega (arith, first_decimal (suc n) (omega arith) (small (suc n) h), ap (λ l. get_or l 0 0) e)

pub leading_none : (ds : List ℕ) → has_leading_zero ds ≡ true → IsNoNumber ds
leading_none [] h n x = true≢false (sym h)
leading_none (b ∷ []) h n x = true≢false (sym h)
leading_none (b ∷ c ∷ more) h n x = zero_first n b c more x.1 x.0 (eqb-true b 48 h)

one_digit : (ds : List ℕ) → has_leading_zero ds ≡ false → get_or ds 0 0 ≡ 48 → 0 < length ds → length ds ≡ 1
one_digit [] h e some = absurd (omega arith)
one_digit (b ∷ []) h e some = refl
one_digit (b ∷ c ∷ more) h e some = absurd (true≢false (sym (eq-eqb b 48 e) ∙ h))

pub number_parsed : {E : Type 0} (ds : List ℕ) (r : Result ℕ E) → list_all is_digit ds ≡ true → has_leading_zero ds ≡ false → ParsesUnsigned 32 10 ds r
    → MatchOption (result_ok r) (IsNoNumber ds) (IsNumber ds)
number_parsed {E} ds (Ok n) all lead h =
    let read : ((0 < length ds) × (digits_value 10 ds < 2 ^ 32)) × (n ≡ digits_value 10 ds) = parse_digits numerals {E = E} 32 ds (Ok n) h all in
    let most : digits_value 10 ds < 2 ^ 32 = read.0.1 in
    let few : digits_value 10 ds < 2 ^ 64 = omega (arith, most) in
    (ap decimal read.1 ∙ decimal-digits_value numerals ds all read.0.0 (λ z. one_digit ds lead z read.0.0) few, lt-ltb n (2 ^ 32) (omega (arith, most, read.1)))
number_parsed {E} ds (Err e) all lead h = λ n x.
    let read : (0 < length ds) × (digits_value 10 ds < 2 ^ 32) → ⊥ = parse_digits numerals {E = E} 32 ds (Err e) h all in
    let value : digits_value 10 ds ≡ n = ap (digits_value 10) (sym x.0) ∙ digits_value-decimal numerals n (small n x.1) in
    let some : 0 < length ds = subst (λ z. 0 < length z) x.0 (decimal_nonempty n (small n x.1)) in
    read (some, omega (arith, value, ltb-true n (2 ^ 32) x.1))

-- ---- results

pub for_member : {F E : Type 0} (P : Bool → Option F → Type 0) (m : Bool) (r : Result (Option F) E) → IfOk r (λ o. (k : Bool) → P k o) → IfOk r (P m)
for_member P m (Ok o) h = h m
for_member P m (Err e) h = h

pub ok_name : {T E : Type 0} (bytes : T → List ℕ) (Q : E → Type 0) (text : List ℕ) (r : Result T E) → is_name text ≡ true
    → MatchResult r (λ s. (bytes s ≡ text) × IsUtf8 text) (λ e. (IsUtf8 text → ⊥) × Q e)
    → MatchOption (result_ok r) (is_name text ≡ false) (λ s. (bytes s ≡ text) × (is_name text ≡ true))
ok_name bytes Q text (Ok s) h m = (m.0, h)
ok_name bytes Q text (Err e) h m = absurd (m.0 (name_utf8 text h))

pub gave_none : {F : Type 0} (P : F → Type 0) (N : Type 0) (o : Option F) → o ≡ None → N → MatchOption o N P
gave_none P N o e h = subst (λ z. MatchOption z N P) (sym e) h

pub some_of : {F : Type 0} (P : F → Type 0) (N : Type 0) (o : Option F) (x : F) → o ≡ Some x → MatchOption o N P → P x
some_of P N o x e h = subst (λ z. MatchOption z N P) e h

pub none_of : {F : Type 0} (P : F → Type 0) (N : Type 0) (o : Option F) → o ≡ None → MatchOption o N P → N
none_of P N o e h = subst (λ z. MatchOption z N P) e h

pub later_found : {E : Type 0} (r : Result (Option Path) E) (text : List ℕ) (s : Step) (left : List ℕ) → BeginsWith false (46 ∷ text) s left
    → IfOk r (λ o. IfSome o (λ p. Continues s left p)) → IfOk r (λ o. IfSome o (λ p. HasText p text))
later_found (Ok (Some p)) text s left x h = path_found text s left p x h
later_found (Ok None) text s left x h = tt
later_found (Err e) text s left x h = tt

pub later_none : {E : Type 0} (r : Result (Option Path) E) (text : List ℕ) (s : Step) (left : List ℕ) → BeginsWith false (46 ∷ text) s left
    → IfOk r (λ o. o ≡ None → (p : Path) → Continues s left p → ⊥) → IfOk r (λ o. o ≡ None → (p : Path) → HasText p text → ⊥)
later_none (Ok o) text s left x h = λ e p t. h e p (path_continues text s left p x t)
later_none (Err e) text s left x h = tt

-- ---- lists

pub front_text : (text : List ℕ) (b : ℕ) → 1 ≤ length text → get_or text 0 0 ≡ b → b ∷ take (length text - 1) (drop 1 text) ≡ text
front_text [] b h e = absurd (omega arith)
front_text (x ∷ xs) b h e = λ i. sym e i ∷ (ap (λ z. take z xs) (one_less (length xs)) ∙ whole xs) i
  where
    one_less : (n : ℕ) → suc n - 1 ≡ n
    one_less n = omega arith

    whole : (l : List ℕ) → take (length l) l ≡ l
    whole [] = refl
    whole (y ∷ ys) = ap (λ z. y ∷ z) (whole ys)

pub none_left : (text : List ℕ) → length text ≡ 0 → text ≡ []
none_left [] e = refl
none_left (x ∷ xs) e = absurd (omega arith)
