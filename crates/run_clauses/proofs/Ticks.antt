-- Tests of lists of ticks.
use Rattle.std.proofs.Common.{◌≡◌, ◌∙◌, refl, sym, ap, ap₂, arith, ℕ, zero, suc, ◌+◌, ◌<◌, List, [], ◌∷◌, ◌&&◌, ◌||◌, Bool, true, false, cond, not, Option, Some, None, map}
use Rattle.std.proofs.lemmas.Int.{ints}
use Rattle.std.specs.Prelude.{ℤ, pos, int_le, ◌≤ℤ◌, nat_eq, slice_get}
use Rattle.std.specs.Option.{option_map_or}
use Rattle.std.specs.List.{list_all, list_any}
use Rattle.osc_base.specs.Comparisons.{same_number}
use Rattle.osc_base.specs.declared.path.Path.{Path}
use Rattle.run_entries.specs.composition.declared.run.Span.{Span}
use Rattle.run_entries.specs.composition.declared.run.Run.{Run}
use Rattle.run_entries.specs.composition.RunParts.{span_in}
use Rattle.run_entries.specs.composition.Items.{times_of}
use Rattle.run_entries.specs.composition.Arrangement.{Times, same_span, overlap, chosen_spans, covers, ends_of}
use Rattle.run_clauses.specs.Latest.{latest, later_tick, is_first, is_last}

pub all_mapped : {A B : Type 0} (t : B → Bool) (f : A → B) (xs : List A) → list_all t (map f xs) ≡ list_all (λ x. t (f x)) xs
all_mapped t f [] = refl
all_mapped t f (x ∷ xs) = ap (λ b. t (f x) && b) (all_mapped t f xs)

pub any_mapped : {A B : Type 0} (t : B → Bool) (f : A → B) (xs : List A) → list_any t (map f xs) ≡ list_any (λ x. t (f x)) xs
any_mapped t f [] = refl
any_mapped t f (x ∷ xs) = ap (λ b. t (f x) || b) (any_mapped t f xs)

-- ---- orders

le_of : (a b : ℤ) → int_le a b ≡ true → a ≤ℤ b
le_of a b h = grind (arith, ints, h)

le_z : (a b : ℤ) → a ≤ℤ b → int_le a b ≡ true
le_z a b h = grind (arith, ints, h)

over : (a b : ℤ) → int_le a b ≡ false → b ≤ℤ a
over a b h = grind (arith, ints, h)

through : (a b c : ℤ) → int_le a b ≡ true → int_le b c ≡ true → int_le a c ≡ true
through a b c p q = let u : a ≤ℤ b = le_of a b p in let v : b ≤ℤ c = le_of b c q in le_z a c (omega (arith, ints))

and_false : (b : Bool) → b && false ≡ false
and_false true = refl
and_false false = refl

and_true : (b : Bool) → b && true ≡ b
and_true true = refl
and_true false = refl

-- a tick is at least the later of two if it is at least both
later_le : (a b e : ℤ) → (int_le a e && int_le b e) ≡ int_le (later_tick a b) e
later_le a b e = by (int_le a b) refl
  where
    second : (x y : Bool) → (y ≡ true → x ≡ true) → x && y ≡ y
    second x true f = and_true x ∙ f refl
    second x false f = and_false x

    first : (x y : Bool) → (x ≡ true → y ≡ true) → x && y ≡ x
    first true y f = f refl
    first false y f = refl

    by : (t : Bool) → int_le a b ≡ t → (int_le a e && int_le b e) ≡ int_le (cond t b a) e
    by true p = second (int_le a e) (int_le b e) (λ q. through a b e p q)
    by false p = first (int_le a e) (int_le b e) (λ q. through b a e (le_z b a (over a b p)) q)

both_all : {A : Type 0} (t u : A → Bool) (xs : List A) → (list_all t xs && list_all u xs) ≡ list_all (λ x. t x && u x) xs
both_all t u [] = refl
both_all {A} t u (x ∷ xs) = by (t x) (u x) (list_all t xs) (list_all u xs) ∙ ap (λ b. (t x && u x) && b) (both_all t u xs)
  where
    by : (a b c d : Bool) → ((a && c) && (b && d)) ≡ ((a && b) && (c && d))
    by true true c d = refl
    by true false c d = and_false c
    by false b c d = refl

all_same : {A : Type 0} (t u : A → Bool) → ((x : A) → t x ≡ u x) → (xs : List A) → list_all t xs ≡ list_all u xs
all_same t u h [] = refl
all_same t u h (x ∷ xs) = ap₂ (◌&&◌) (h x) (all_same t u h xs)

later_all : (a b : ℤ) (ends : List ℤ) → (list_all (int_le a) ends && list_all (int_le b) ends) ≡ list_all (int_le (later_tick a b)) ends
later_all a b ends = both_all (int_le a) (int_le b) ends ∙ all_same (λ e. int_le a e && int_le b e) (int_le (later_tick a b)) (later_le a b) ends

and_assoc : (a b c : Bool) → (a && (b && c)) ≡ ((a && b) && c)
and_assoc true b c = refl
and_assoc false b c = refl

overlap_from : (tick : ℤ) (starts ends : List ℤ) → (list_all (int_le tick) ends && overlap starts ends) ≡ list_all (int_le (latest tick starts)) ends
overlap_from tick [] ends = and_true (list_all (int_le tick) ends)
overlap_from tick (s ∷ ss) ends =
    and_assoc (list_all (int_le tick) ends) (list_all (int_le s) ends) (overlap ss ends)
    ∙ ap (λ b. b && overlap ss ends) (later_all tick s ends)
    ∙ overlap_from (later_tick tick s) ss ends

-- ticks from 0 on share a moment if none ends before the latest starts
pub overlap_latest : (starts ends : List ℤ) → list_all (int_le (pos 0)) ends ≡ true → list_all (int_le (latest (pos 0) starts)) ends ≡ overlap starts ends
overlap_latest starts ends h = sym (overlap_from (pos 0) starts ends) ∙ ap (λ b. b && overlap starts ends) h

-- ---- the chosen member

same_pos : (a b : ℕ) → same_number (pos a) (pos b) ≡ nat_eq a b
same_pos a b = grind (arith, ints)

module _ (times : Times) (whole : Path) (n : ℕ) (is : times.member whole ≡ pos n) where
  asked : (k : ℕ) → same_number (times.member whole) (pos k) ≡ nat_eq n k
  asked k = ap (λ z. same_number z (pos k)) is ∙ same_pos n k

  passed : (k : ℕ) (ms : List Path) → n < k → chosen_spans times whole k ms ≡ true
  passed k [] h = refl
  passed k (m ∷ ms) h = ap₂ (λ t r. (not t || same_span times m whole) && r) (asked k ∙ other k h) (passed (k + 1) ms (omega (arith, h)))
    where
      other : (j : ℕ) → n < j → nat_eq n j ≡ false
      other j g = grind arith

  chosen_later : (k j : ℕ) (ms : List Path) → n ≡ k + j → option_map_or (λ m. same_span times m whole) (slice_get ms j) true ≡ chosen_spans times whole k ms
  chosen_later k zero [] d = refl
  chosen_later k (suc j) [] d = refl
  chosen_later k zero (m ∷ ms) d =
      sym (ap₂ (λ t r. (not t || same_span times m whole) && r) (asked k ∙ here k d) (passed (k + 1) ms (omega (arith, d))) ∙ and_true (same_span times m whole))
    where
      here : (j : ℕ) → n ≡ j + 0 → nat_eq n j ≡ true
      here j g = grind arith
  chosen_later k (suc j) (m ∷ ms) d =
      chosen_later (k + 1) j ms (omega (arith, d))
      ∙ sym (ap (λ t. (not t || same_span times m whole) && chosen_spans times whole (k + 1) ms) (asked k ∙ there k d))
    where
      there : (i : ℕ) → n ≡ i + suc j → nat_eq n i ≡ false
      there i g = grind arith

pub chosen_span : (times : Times) (whole : Path) (n : ℕ) (ms : List Path) → pos n ≡ times.member whole
    → option_map_or (λ m. same_span times m whole) (slice_get ms n) true ≡ chosen_spans times whole 0 ms
chosen_span times whole n ms e = chosen_later times whole n (sym e) 0 n ms (omega arith)

-- ---- wholes

pub covers_is : (times : Times) (whole : Path) (ms : List Path) → (is_first times.start whole ms && is_last times.end whole ms) ≡ covers times whole ms
covers_is times whole ms =
    sym (λ i. (all_mapped (int_le (times.start whole)) times.start ms i && any_mapped (λ t. same_number t (times.start whole)) times.start ms i)
    && (all_mapped (λ t. int_le t (times.end whole)) times.end ms i && any_mapped (λ t. same_number t (times.end whole)) times.end ms i))

-- no phase ends before tick 0
pub ends_from_first : (run : Run) (ms : List Path) → list_all (int_le (pos 0)) (ends_of (times_of run) ms) ≡ true
ends_from_first run [] = refl
ends_from_first run (m ∷ ms) = ap₂ (◌&&◌) (by (span_in run m)) (ends_from_first run ms)
  where
    from_first : (n : ℕ) → int_le (pos 0) (pos n) ≡ true
    from_first n = grind (arith, ints)

    by : (o : Option Span) → int_le (pos 0) (option_map_or (λ (s : Span). pos s.end) o (pos 0)) ≡ true
    by None = refl
    by (Some s) = from_first s.end
