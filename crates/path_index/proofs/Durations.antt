-- The path of a duration, and what it is the duration of.
use Rattle.std.proofs.Common.{◌≡◌, ◌∙◌, refl, sym, ap, ℕ, List, [], ◌∷◌, ◌++◌, Bool, true, false, cond, Option, Some, None, codes}
use Rattle.std.specs.Prelude.{find, option_and_then, bytes_eq}
use Rattle.std.proofs.lemmas.Slice.Eq.{bytes_eq-Decides}
use Rattle.osc_base.specs.declared.path.Path.{Path}
use Rattle.osc_base.specs.declared.path.Step.{Step}
use Rattle.osc_base.specs.declared.path.Step.TheVariants.{Name, Index, Member}
use Rattle.osc_base.specs.Paths.{path_of, same_path, then_duration, timed_part}
use Rattle.osc_base.proofs.PathEquality.{path_is, own_path}

abbrev last_step : Step
last_step = Name (codes "duration")

-- what stands before `duration`
pub timed_end : (steps : List Step) → timed_part (steps ++ last_step ∷ []) ≡ Some steps
timed_end [] = refl
timed_end (Name name ∷ []) = refl
timed_end (Index number ∷ []) = refl
timed_end (Member number ∷ []) = refl
timed_end (Name name ∷ next ∷ later) = rw (timed_end (next ∷ later)) refl
timed_end (Index number ∷ next ∷ later) = rw (timed_end (next ∷ later)) refl
timed_end (Member number ∷ next ∷ later) = rw (timed_end (next ∷ later)) refl

some_is : {A : Type 0} (x y : A) → Some x ≡ Some y → x ≡ y
some_is x y h = cc

never : (before : List Step) → None ≡ Some before → ⊥
never before h = cc

longer : (step : Step) (rest before : List Step) → ((b : List Step) → timed_part rest ≡ Some b → rest ≡ b ++ last_step ∷ []) →
    (timed_part rest ≡ None → ⊥) → ((b : List Step) → timed_part rest ≡ Some b → step ∷ b ≡ before) → step ∷ rest ≡ before ++ last_step ∷ []
longer step rest before f none one = by (timed_part rest) refl
  where
    by : (o : Option (List Step)) → timed_part rest ≡ o → step ∷ rest ≡ before ++ last_step ∷ []
    by None e = absurd (none e)
    by (Some b) e = ap (λ l. step ∷ l) (f b e) ∙ ap (λ z. z ++ last_step ∷ []) (one b e)

-- a path with `duration` at its end is its first part and `duration`
pub timed_back : (steps before : List Step) → timed_part steps ≡ Some before → steps ≡ before ++ last_step ∷ []
timed_back [] before h = cc
timed_back (Name name ∷ []) before h = by (bytes_eq name (codes "duration")) refl h
  where
    by : (b : Bool) → bytes_eq name (codes "duration") ≡ b → cond b (Some []) None ≡ Some before → Name name ∷ [] ≡ before ++ last_step ∷ []
    by true e h = let same : name ≡ codes "duration" = (bytes_eq-Decides name (codes "duration")).0 e in let none : [] ≡ before = some_is [] before h in ap (λ (n : List ℕ). Name n ∷ []) same ∙ ap (λ b. b ++ last_step ∷ []) none
    by false e h = cc
timed_back (Index number ∷ []) before h = cc
timed_back (Member number ∷ []) before h = cc
timed_back (Name n ∷ next ∷ later) before h =
    longer (Name n) (next ∷ later) before (timed_back (next ∷ later)) (λ e. never before (rw e at h)) (λ b e. some_is (Name n ∷ b) before (rw e at h))
timed_back (Index n ∷ next ∷ later) before h =
    longer (Index n) (next ∷ later) before (timed_back (next ∷ later)) (λ e. never before (rw e at h)) (λ b e. some_is (Index n ∷ b) before (rw e at h))
timed_back (Member n ∷ next ∷ later) before h =
    longer (Member n) (next ∷ later) before (timed_back (next ∷ later)) (λ e. never before (rw e at h)) (λ b e. some_is (Member n ∷ b) before (rw e at h))

same_truth : (a b : Bool) → (a ≡ true → b ≡ true) → (b ≡ true → a ≡ true) → a ≡ b
same_truth true b f g = sym (f refl)
same_truth false true f g = g refl
same_truth false false f g = refl

module _ {T : Type 0} (key : T → Path) (path : Path) where
  abbrev TimedAt : Option (List Step) → Type 0
  TimedAt o = (xs : List T) → find (λ x. same_path (then_duration (key x)) path) xs ≡ option_and_then (λ steps. find (λ x. same_path (key x) (path_of steps)) xs) o

  none_timed : timed_part path.steps ≡ None → (p : Path) → same_path (then_duration p) path ≡ false
  none_timed none p = by (same_path (then_duration p) path) refl
    where
      by : (b : Bool) → same_path (then_duration p) path ≡ b → b ≡ false
      by false e = refl
      by true e = let h : Some p.steps ≡ None = sym (timed_end p.steps) ∙ ap (λ (q : Path). timed_part q.steps) (path_is (then_duration p) path e) ∙ none in cc

  one_timed : (before : List Step) → timed_part path.steps ≡ Some before → (p : Path) → same_path (then_duration p) path ≡ same_path p (path_of before)
  one_timed before one p = same_truth (same_path (then_duration p) path) (same_path p (path_of before)) forth back
    where
      forth : same_path (then_duration p) path ≡ true → same_path p (path_of before) ≡ true
      forth e =
          let h : p.steps ≡ before = some_is p.steps before (sym (timed_end p.steps) ∙ ap (λ (q : Path). timed_part q.steps) (path_is (then_duration p) path e) ∙ one) in
          ap (λ s. same_path (path_of s) (path_of before)) h ∙ own_path (path_of before)

      back : same_path p (path_of before) ≡ true → same_path (then_duration p) path ≡ true
      back e =
          let h : p ≡ path_of before = path_is p (path_of before) e in
          let whole : path.steps ≡ before ++ last_step ∷ [] = timed_back path.steps before one in
          ap (λ q. same_path (then_duration q) path) h ∙ ap (λ s. same_path (then_duration (path_of before)) (path_of s)) whole ∙ own_path (then_duration (path_of before))

  at_none : timed_part path.steps ≡ None → TimedAt None
  at_none none [] = refl
  at_none none (x ∷ xs) = ap (λ b. cond b (Some x) (find (λ y. same_path (then_duration (key y)) path) xs)) (none_timed none (key x)) ∙ at_none none xs

  at_one : (before : List Step) → timed_part path.steps ≡ Some before → TimedAt (Some before)
  at_one before one [] = refl
  at_one before one (x ∷ xs) = λ i. cond (one_timed before one (key x) i) (Some x) (at_one before one xs i)

  -- the first whose duration is read at a path is the first that stands before `duration`
  pub timed_find : TimedAt (timed_part path.steps)
  timed_find = by (timed_part path.steps) refl
    where
      by : (o : Option (List Step)) → timed_part path.steps ≡ o → TimedAt o
      by None e = at_none e
      by (Some before) e = at_one before e
