-- What the tables say of each rule of a part.
use Rattle.std.proofs.Common.{◌≡◌, List, [], ◌∷◌, true, inl, inr, ◌||◌, ◌&&◌, not}
use Rattle.dsl_tree.specs.Grammar.{Part, Symbol, rules}
use Rattle.dsl_tree.specs.Forest.{AnyRule}
use Rattle.dsl_tree.specs.Lookahead.{first, empty, goes_on, second, firsts, empties, stops, seconds, subset, sound, fits, all_fit, are_told_apart, is_told_from, are_all_told_apart}
use Rattle.dsl_tree.proofs.Tests.{left_of, right_of}
use Rattle.dsl_tree.proofs.Sets.{implied}
use Rattle.dsl_tree.proofs.Checked.{checked}

pub record Fit (p : Part) (r : List Symbol) : Type 0 where
  pub begins : subset (firsts r) (first p) ≡ true
  pub blank : empties r ≡ true → empty p ≡ true
  pub ends : subset (stops r) (goes_on p) ≡ true
  pub is_sound : sound r ≡ true
  pub then_second : subset (seconds r) (second p) ≡ true

to_fit : (p : Part) (r : List Symbol) → fits p r ≡ true → Fit p r
to_fit p r h =
    let h2 : (subset (stops r) (goes_on p) && (sound r && subset (seconds r) (second p))) ≡ true = right_of (not (empties r) || empty p) _ (right_of (subset (firsts r) (first p)) _ h) in
    let h3 : (sound r && subset (seconds r) (second p)) ≡ true = right_of (subset (stops r) (goes_on p)) _ h2 in
    record {
      begins = left_of _ _ h;
      blank = implied (empties r) (empty p) (left_of _ _ (right_of (subset (firsts r) (first p)) _ h));
      ends = left_of _ _ h2;
      is_sound = left_of _ _ h3;
      then_second = right_of (sound r) _ h3;
    }

pub any_map : (rs : List (List Symbol)) (P Q : List Symbol → Type 0) → ((r : List Symbol) → P r → Q r) → AnyRule rs P → AnyRule rs Q
any_map [] P Q f any = any
any_map (r ∷ rs) P Q f (inl does) = inl (f r does)
any_map (r ∷ rs) P Q f (inr any) = inr (any_map rs P Q f any)

by_any : (rs : List (List Symbol)) (P : List Symbol → Type 0) (G : Type 0) → AnyRule rs P → ((r : List Symbol) → P r → G) → G
by_any [] P G any go = absurd any
by_any (r ∷ rs) P G (inl does) go = go r does
by_any (r ∷ rs) P G (inr any) go = by_any rs P G any go

-- the rule by which something does, with its fit

abbrev Fitting : Part → (List Symbol → Type 0) → List Symbol → Type 0
Fitting p P r = Fit p r × P r

any_fits : (p : Part) (rs : List (List Symbol)) (P : List Symbol → Type 0) → all_fit p rs ≡ true → AnyRule rs P → AnyRule rs (Fitting p P)
any_fits p [] P h any = any
any_fits p (r ∷ rs) P h (inl does) = inl (to_fit p r (left_of _ _ h), does)
any_fits p (r ∷ rs) P h (inr any) = inr (any_fits p rs P (right_of (fits p r) _ h) any)

rules_fit : (p : Part) (P : List Symbol → Type 0) → AnyRule (rules p) P → AnyRule (rules p) (Fitting p P)
rules_fit p P any = any_fits p (rules p) P (left_of _ _ (checked p)) any

pub by_rules : (p : Part) (P : List Symbol → Type 0) (G : Type 0) → AnyRule (rules p) P → ((r : List Symbol) → Fit p r → P r → G) → G
by_rules p P G any go = by_any (rules p) (Fitting p P) G (rules_fit p P any) (λ r (fit, does). go r fit does)

pub fit_map : (p : Part) (P Q : List Symbol → Type 0) → ((r : List Symbol) → Fit p r → P r → Q r) → AnyRule (rules p) P → AnyRule (rules p) Q
fit_map p P Q f any = any_map (rules p) (Fitting p P) Q (λ r (fit, does). f r fit does) (rules_fit p P any)

-- a part that may be empty goes on with what it begins with
pub first_goes_on : (p : Part) → empty p ≡ true → subset (first p) (goes_on p) ≡ true
first_goes_on p e = implied (empty p) _ (right_of (are_all_told_apart (rules p)) _ (right_of (all_fit p (rules p)) _ (checked p))) e

-- Two rules of one part are one, or are told apart

by_told : (r : List Symbol) (rs : List (List Symbol)) (P : List Symbol → Type 0) (G : Type 0) → is_told_from r rs ≡ true → AnyRule rs P → ((s : List Symbol) → are_told_apart r s ≡ true → P s → G) → G
by_told r [] P G t any go = absurd any
by_told r (s ∷ ss) P G t (inl does) go = go s (left_of _ _ t) does
by_told r (s ∷ ss) P G t (inr any) go = by_told r ss P G (right_of (are_told_apart r s) _ t) any go

pick_from : (rs : List (List Symbol)) (P Q : List Symbol → Type 0) (G : Type 0) → are_all_told_apart rs ≡ true → AnyRule rs P → AnyRule rs Q → ((r : List Symbol) → P r → Q r → G)
    → ((r s : List Symbol) → are_told_apart r s ≡ true → P r → Q s → G) → ((r s : List Symbol) → are_told_apart r s ≡ true → P s → Q r → G) → G
pick_from [] P Q G t any other same one two = absurd any
pick_from (r ∷ rs) P Q G t (inl does) (inl does') same one two = same r does does'
pick_from (r ∷ rs) P Q G t (inl does) (inr other) same one two = by_told r rs Q G (left_of _ _ t) other (λ s tells does'. one r s tells does does')
pick_from (r ∷ rs) P Q G t (inr any) (inl does') same one two = by_told r rs P G (left_of _ _ t) any (λ s tells does. two r s tells does does')
pick_from (r ∷ rs) P Q G t (inr any) (inr other) same one two = pick_from rs P Q G (right_of (is_told_from r rs) _ t) any other same one two

pub pick : (p : Part) (P Q : List Symbol → Type 0) (G : Type 0) → AnyRule (rules p) P → AnyRule (rules p) Q
    → ((r : List Symbol) → Fit p r → P r → Q r → G)
    → ((r s : List Symbol) → Fit p r → Fit p s → are_told_apart r s ≡ true → P r → Q s → G)
    → ((r s : List Symbol) → Fit p r → Fit p s → are_told_apart r s ≡ true → P s → Q r → G) → G
pick p P Q G any other same one two =
    pick_from (rules p) (Fitting p P) (Fitting p Q) G (left_of _ _ (right_of (all_fit p (rules p)) _ (checked p))) (rules_fit p P any) (rules_fit p Q other)
    (λ r (fit, does) (fit', does'). same r fit does does')
    (λ r s tells (fit, does) (fit', does'). one r s fit fit' tells does does')
    (λ r s tells (fit, does) (fit', does'). two r s fit' fit tells does does')
