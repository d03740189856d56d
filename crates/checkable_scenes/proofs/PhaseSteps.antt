-- Paths of phases, paths at which a duration may be read, and what stays so when a path is replaced by its home.
use Rattle.std.proofs.Common.{◌≡◌, ℕ, refl, sym, ap, ◌∙◌, subst, ◌⊎◌, inl, inr, List, [], ◌∷◌, ◌++◌, Bool, true, false, ◌&&◌, cond, Option, Some, None}
use Rattle.std.specs.Prelude.{⊤, codes}
use Rattle.std.specs.Option.{option_map_or}
use Rattle.osc_base.specs.declared.path.Path.{Path}
use Rattle.osc_base.specs.declared.path.Step.{Step}
use Rattle.osc_base.specs.declared.path.Step.TheVariants.{Name, Index, Member}
use Rattle.osc_base.specs.Paths.{path_of, same_step, steps_after}
use Rattle.run_values.specs.composition.Scenes.{Binding}
use Rattle.run_values.specs.composition.Homes.{home}
use Rattle.run_values.proofs.of_field_flatten.Tests.{In, path_is}
use Rattle.scene_laws.proofs.Steps.{joined_again}

-- the steps of a phase's path are `do`s and members
abbrev pub OnlyPhases : List Step → Type 0
OnlyPhases [] = ⊤
OnlyPhases (Name n ∷ rest) = (n ≡ codes "do") × OnlyPhases rest
OnlyPhases (Member k ∷ rest) = OnlyPhases rest
OnlyPhases (Index k ∷ rest) = ⊥

-- the duration of a phase, or of the whole, is read there
abbrev pub IsTimed : List Step → Type 0
IsTimed steps = (w : List Step) × OnlyPhases w × (steps ≡ w ++ Name (codes "duration") ∷ [])

-- a value or an object that is no phase
abbrev pub IsThing : List Step → Type 0
IsThing steps = (OnlyPhases steps → ⊥) × (IsTimed steps → ⊥)

pub only_left : (xs ys : List Step) → OnlyPhases (xs ++ ys) → OnlyPhases xs
only_left [] ys h = tt
only_left (Name n ∷ xs) ys h = (h.0, only_left xs ys h.1)
only_left (Member k ∷ xs) ys h = only_left xs ys h
only_left (Index k ∷ xs) ys h = h

pub only_right : (xs ys : List Step) → OnlyPhases (xs ++ ys) → OnlyPhases ys
only_right [] ys h = h
only_right (Name n ∷ xs) ys h = only_right xs ys h.1
only_right (Member k ∷ xs) ys h = only_right xs ys h
only_right (Index k ∷ xs) ys h = absurd h

pub only_both : (xs ys : List Step) → OnlyPhases xs → OnlyPhases ys → OnlyPhases (xs ++ ys)
only_both [] ys p q = q
only_both (Name n ∷ xs) ys p q = (p.0, only_both xs ys p.1 q)
only_both (Member k ∷ xs) ys p q = only_both xs ys p q
only_both (Index k ∷ xs) ys p q = p

-- ---- last steps

abbrev last_or : Step → List Step → Step
last_or s [] = s
last_or s (x ∷ xs) = last_or x xs

last_after : (s x : Step) (xs : List Step) → last_or s (xs ++ x ∷ []) ≡ x
last_after s x [] = refl
last_after s x (y ∷ xs) = last_after y x xs

abbrev front : List Step → List Step
front [] = []
front (x ∷ []) = []
front (x ∷ y ∷ xs) = x ∷ front (y ∷ xs)

front_after : (xs : List Step) (x : Step) → front (xs ++ x ∷ []) ≡ xs
front_after [] x = refl
front_after (y ∷ []) x = refl
front_after (y ∷ z ∷ xs) x = ap (λ l. y ∷ l) (front_after (z ∷ xs) x)

pub last_same : (xs ys : List Step) (x y : Step) → xs ++ x ∷ [] ≡ ys ++ y ∷ [] → (xs ≡ ys) × (x ≡ y)
last_same xs ys x y e = (sym (front_after xs x) ∙ ap front e ∙ front_after ys y, sym (last_after x x xs) ∙ ap (λ l. last_or x l) e ∙ last_after x y ys)

name_same : (a b : List ℕ) → Name a ≡ Name b → a ≡ b
name_same a b e = ap name_of e
  where
    name_of : Step → List ℕ
    name_of (Name n) = n
    name_of _ = []

-- a name after what isn't timed
pub named_thing : (w : List Step) (n : List ℕ) → (n ≡ codes "do" → ⊥) → (n ≡ codes "duration" → OnlyPhases w → ⊥) → IsThing (w ++ Name n ∷ [])
named_thing w n free apart = (λ o. free (only_right w (Name n ∷ []) o).0, λ t. let g = last_same w t.0 (Name n) (Name (codes "duration")) t.2 in apart (name_same n (codes "duration") g.1) (subst OnlyPhases (sym g.0) t.1))

-- an element of a list
pub index_untimed : (w : List Step) (k : ℕ) → IsTimed (w ++ Index k ∷ []) → ⊥
index_untimed w k t = differ (last_same w t.0 (Index k) (Name (codes "duration")) t.2).1
  where
    differ : {n : List ℕ} → Index k ≡ Name n → ⊥
    differ e = cc

-- ---- homes

step_is : (a b : Step) → same_step a b ≡ true → a ≡ b
step_is a b h = by (path_is (path_of (a ∷ [])) (path_of (b ∷ [])) (one h))
  where
    one : same_step a b ≡ true → same_step a b && true ≡ true
    one e = ap (λ z. z && true) e

    first_of : List Step → Step
    first_of [] = a
    first_of (x ∷ xs) = x

    by : path_of (a ∷ []) ≡ path_of (b ∷ []) → a ≡ b
    by e = ap (λ (p : Path). first_of p.steps) e

after_joined : (xs ys zs : List Step) → steps_after xs ys ≡ Some zs → ys ≡ xs ++ zs
after_joined [] ys zs h = cc
after_joined (a ∷ xs) [] zs h = cc
after_joined (a ∷ xs) (b ∷ ys) zs h = by (same_step a b) refl h (after_joined xs ys zs)
  where
    by : (c : Bool) → same_step a b ≡ c → cond c (steps_after xs ys) None ≡ Some zs → (steps_after xs ys ≡ Some zs → ys ≡ xs ++ zs) → b ∷ ys ≡ a ∷ xs ++ zs
    by true e g f = let same = step_is a b e in ap (λ l. b ∷ l) (f g) ∙ ap (λ s. s ∷ xs ++ zs) (sym same)
    by false e g f = cc

-- what is known of bindings: each is a parameter's, or `actor`, and its home is no phase
pub record IsBinding (b : Binding) : Type 0 where
  pub base : List Step
  pub name : List ℕ
  pub at : b.at.steps ≡ base ++ Name name ∷ []
  pub free : name ≡ codes "do" → ⊥
  pub untimed : name ≡ codes "duration" → ⊥
  pub thing : IsThing b.home.steps

abbrev pub AreBindings : List Binding → Type 0
AreBindings bs = (b : Binding) → In b bs → IsBinding b

-- the steps of a path that may be timed
abbrev Clean : List Step → Type 0
Clean [] = ⊤
Clean (Name n ∷ rest) = ((n ≡ codes "do") ⊎ (n ≡ codes "duration")) × Clean rest
Clean (Member k ∷ rest) = Clean rest
Clean (Index k ∷ rest) = ⊥

timed_clean : (w : List Step) → OnlyPhases w → Clean (w ++ Name (codes "duration") ∷ [])
timed_clean [] h = (inr refl, tt)
timed_clean (Name n ∷ w) h = (inl h.0, timed_clean w h.1)
timed_clean (Member k ∷ w) h = timed_clean w h
timed_clean (Index k ∷ w) h = h

clean_named : (xs : List Step) (n : List ℕ) (ys : List Step) → Clean (xs ++ Name n ∷ ys) → (n ≡ codes "do") ⊎ (n ≡ codes "duration")
clean_named [] n ys h = h.0
clean_named (Name m ∷ xs) n ys h = clean_named xs n ys h.1
clean_named (Member k ∷ xs) n ys h = clean_named xs n ys h
clean_named (Index k ∷ xs) n ys h = absurd h

-- a path at which a duration is read is its own home
pub timed_home : (bs : List Binding) → AreBindings bs → (p : Path) → IsTimed p.steps → home bs p ≡ p
timed_home [] f p t = refl
timed_home (b ∷ bs) f p t = by (steps_after b.at.steps p.steps) refl (timed_home bs (λ c i. f c (inr i)) p t)
  where
    by : (o : Option (List Step)) → steps_after b.at.steps p.steps ≡ o → home bs p ≡ p → option_map_or (λ later. path_of (b.home.steps ++ later)) o (home bs p) ≡ p
    by None e rest = rest
    by (Some later) e rest =
        let k = f b (inl refl) in
        let joined : p.steps ≡ k.base ++ Name k.name ∷ later = after_joined b.at.steps p.steps later e ∙ ap (λ l. l ++ later) k.at ∙ joined_again k.base (Name k.name ∷ []) later in
        let c = clean_named k.base k.name later (subst Clean joined (subst Clean (sym t.2) (timed_clean t.0 t.1))) in
        absurd (elim c as (λ _. ⊥) [ inl g ↦ k.free g | inr g ↦ k.untimed g ])

ends : (xs : List Step) → (xs ≡ []) ⊎ ((ys : List Step) × (y : Step) × (xs ≡ ys ++ y ∷ []))
ends [] = inl refl
ends (x ∷ xs) = elim (ends xs) as (λ _. (x ∷ xs ≡ []) ⊎ ((ys : List Step) × (y : Step) × (x ∷ xs ≡ ys ++ y ∷ []))) [
  | inl e ↦ inr ([], x, ap (λ l. x ∷ l) e)
  | inr g ↦ inr (x ∷ g.0, g.1, ap (λ l. x ∷ l) g.2)
]

nil_after : (xs : List Step) → xs ++ [] ≡ xs
nil_after [] = refl
nil_after (x ∷ xs) = ap (λ l. x ∷ l) (nil_after xs)

-- what comes after a thing isn't timed, and is no phase
after_thing : (h later : List Step) → IsThing h → IsThing (h ++ later)
after_thing h later t = (λ o. t.0 (only_left h later o), λ timed. by (ends later) timed)
  where
    by : (later ≡ []) ⊎ ((ys : List Step) × (y : Step) × (later ≡ ys ++ y ∷ [])) → IsTimed (h ++ later) → ⊥
    by (inl e) timed = t.1 (subst IsTimed (ap (λ l. h ++ l) e ∙ nil_after h) timed)
    by (inr g) timed =
        let same : (h ++ g.0) ++ g.1 ∷ [] ≡ timed.0 ++ Name (codes "duration") ∷ [] = joined_again h g.0 (g.1 ∷ []) ∙ sym (ap (λ l. h ++ l) g.2) ∙ timed.2 in
        let l = last_same (h ++ g.0) timed.0 g.1 (Name (codes "duration")) same in
        t.0 (only_left h g.0 (subst OnlyPhases (sym l.0) timed.1))

-- what isn't timed has a home that isn't, and the home of a thing is one
pub untimed_home : (bs : List Binding) → AreBindings bs → (p : Path) → (IsTimed p.steps → ⊥) → IsTimed (home bs p).steps → ⊥
untimed_home [] f p t = t
untimed_home (b ∷ bs) f p t = by (steps_after b.at.steps p.steps) (untimed_home bs (λ c i. f c (inr i)) p t)
  where
    by : (o : Option (List Step)) → (IsTimed (home bs p).steps → ⊥) → IsTimed (option_map_or (λ later. path_of (b.home.steps ++ later)) o (home bs p)).steps → ⊥
    by None rest = rest
    by (Some later) rest = (after_thing b.home.steps later (f b (inl refl)).thing).1

pub thing_home : (bs : List Binding) → AreBindings bs → (p : Path) → IsThing p.steps → IsThing (home bs p).steps
thing_home [] f p t = t
thing_home (b ∷ bs) f p t = by (steps_after b.at.steps p.steps) (thing_home bs (λ c i. f c (inr i)) p t)
  where
    by : (o : Option (List Step)) → IsThing (home bs p).steps → IsThing (option_map_or (λ later. path_of (b.home.steps ++ later)) o (home bs p)).steps
    by None rest = rest
    by (Some later) rest = after_thing b.home.steps later (f b (inl refl)).thing
