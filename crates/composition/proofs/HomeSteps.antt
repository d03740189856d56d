-- The home of a path, by the first parameter whose path is a prefix of it.
use Rattle.std.proofs.Common.{◌≡◌, ◌∙◌, refl, sym, ap, ap₂, arith, ℕ, ◌+◌, ◌<◌, ◌≤◌, take, get_or, min, List, [], ◌∷◌, ◌++◌, ◌&&◌, ◌||◌, Bool, true, false, cond, Option, Some, None, map, drop, length, is_some}
use Rattle.std.specs.Prelude.{find, option_map, Result, Ok, Err, IfOk}
use Rattle.std.specs.Option.{option_map_or}
use Rattle.std.proofs.lemmas.List.{take_more}
use Rattle.expr_nodes.specs.osc_base.declared.path.Path.{Path}
use Rattle.expr_nodes.specs.osc_base.declared.path.Step.{Step}
use Rattle.expr_nodes.specs.osc_base.Paths.{path_of, same_path, same_step, same_steps, steps_after}
use Rattle.keep_rules.specs.path_index.declared.index.PathIndex.{PathIndex}
use Rattle.keep_rules.specs.path_index.Places.{first_place, place_at, Places}
use Rattle.composition.specs.declared.part.Binding.{Binding}
use Rattle.composition.specs.SeenParts.{seen_binding, seen_spot}
use Rattle.composition.specs.SeenHomes.{leads, moved_on, least_place}
use Rattle.composition.specs.Homes.{home}
use Rattle.composition.specs.Homes as homes
use Rattle.composition.specs.SeenHomes as seen
use Rattle.composition.specs.declared.part.Spot.{Spot}
use Rattle.composition.specs.declared.source.Source.{Source}
use Rattle.composition.specs.SeenSources.{seen_source}
use Rattle.composition.specs.Scenes as Scenes
use Rattle.composition.proofs.Sources.{found_map}

-- ---- prefixes

-- a path with a step more has one prefix more, itself
prefix_more : (a xs : List Step) (x : Step) → is_some (steps_after a (xs ++ x ∷ [])) ≡ (is_some (steps_after a xs) || same_steps a (xs ++ x ∷ []))
prefix_more [] [] x = refl
prefix_more [] (y ∷ ys) x = refl
prefix_more (b ∷ []) [] x = by (same_step b x)
  where
    by : (s : Bool) → is_some {T = List Step} (cond s (Some []) None) ≡ (s && true)
    by true = refl
    by false = refl
prefix_more (b ∷ c ∷ more) [] x = by (same_step b x)
  where
    by : (s : Bool) → is_some {T = List Step} (cond s None None) ≡ (s && false)
    by true = refl
    by false = refl
prefix_more (b ∷ more) (y ∷ ys) x = by (same_step b y) (prefix_more more ys x)
  where
    by : (s : Bool) → is_some (steps_after more (ys ++ x ∷ [])) ≡ (is_some (steps_after more ys) || same_steps more (ys ++ x ∷ []))
        → is_some (cond s (steps_after more (ys ++ x ∷ [])) None) ≡ (is_some (cond s (steps_after more ys) None) || (s && same_steps more (ys ++ x ∷ [])))
    by true h = h
    by false h = refl

-- ---- first places

abbrev AtLeast : ℕ → Option ℕ → Type 0
AtLeast n None = Rattle.std.specs.Prelude.⊤
AtLeast n (Some m) = n ≤ m

first_bound : {X : Type 0} (t : X → Bool) (n : ℕ) (xs : List X) → AtLeast n (first_place t n xs)
first_bound t n [] = tt
first_bound {X} t n (x ∷ xs) = by (t x) (first_place t (n + 1) xs) (first_bound t (n + 1) xs)
  where
    by : (b : Bool) (o : Option ℕ) → AtLeast (n + 1) o → AtLeast n (cond b (Some n) o)
    by true o h = omega arith
    by false None h = tt
    by false (Some m) h = omega (arith, h)

least_left : (n : ℕ) (o : Option ℕ) → AtLeast n o → Some n ≡ least_place (Some n) o
least_left n None h = refl
least_left n (Some m) h = let e : n ≡ min n m = omega (arith, h) in ap (λ k. Some k) e

least_right : (n : ℕ) (o : Option ℕ) → AtLeast n o → Some n ≡ least_place o (Some n)
least_right n None h = refl
least_right n (Some m) h = let e : n ≡ min m n = omega (arith, h) in ap (λ k. Some k) e

weaker : (n : ℕ) (o : Option ℕ) → AtLeast (n + 1) o → AtLeast n o
weaker n None h = tt
weaker n (Some m) h = omega (arith, h)

-- the first place at which one test or another holds is the lesser of the first places of both
first_either : {X : Type 0} (t u : X → Bool) (n : ℕ) (xs : List X) → first_place (λ x. t x || u x) n xs ≡ least_place (first_place t n xs) (first_place u n xs)
first_either t u n [] = refl
first_either {X} t u n (x ∷ xs) =
    by (t x) (u x) (first_either t u (n + 1) xs) (weaker n (first_place t (n + 1) xs) (first_bound t (n + 1) xs)) (weaker n (first_place u (n + 1) xs) (first_bound u (n + 1) xs))
  where
    by : (a b : Bool) → first_place (λ y. t y || u y) (n + 1) xs ≡ least_place (first_place t (n + 1) xs) (first_place u (n + 1) xs)
        → AtLeast n (first_place t (n + 1) xs) → AtLeast n (first_place u (n + 1) xs)
        → cond (a || b) (Some n) (first_place (λ y. t y || u y) (n + 1) xs) ≡ least_place (cond a (Some n) (first_place t (n + 1) xs)) (cond b (Some n) (first_place u (n + 1) xs))
    by true true h f g = least_left n (Some n) (omega arith)
    by true false h f g = least_left n (first_place u (n + 1) xs) g
    by false true h f g = least_right n (first_place t (n + 1) xs) f
    by false false h f g = h

same_firsts : {X : Type 0} (t u : X → Bool) → ((x : X) → t x ≡ u x) → (n : ℕ) (xs : List X) → first_place t n xs ≡ first_place u n xs
same_firsts t u h n [] = refl
same_firsts t u h n (x ∷ xs) = λ i. cond (h x i) (Some n) (same_firsts t u h (n + 1) xs i)

-- before the first step
pub first_root : (index : PathIndex) (bs : List Binding) (prefix : Path) → Places index (λ p. p) (λ (b : Binding). b.at) bs → prefix.steps ≡ []
    → place_at index prefix ≡ first_place (leads []) 0 bs
first_root index bs prefix places none = places prefix ∙ same_firsts (λ (b : Binding). same_path b.at prefix) (leads []) same 0 bs
  where
    empty : (a : List Step) → same_steps a [] ≡ is_some (steps_after a [])
    empty [] = refl
    empty (x ∷ xs) = refl

    same : (b : Binding) → same_path b.at prefix ≡ leads [] b
    same b = ap (same_steps b.at.steps) none ∙ empty b.at.steps

-- with a step more
pub first_longer : (index : PathIndex) (bs : List Binding) (prefix : Path) (steps : List Step) (x : Step) (first : Option ℕ)
    → Places index (λ p. p) (λ (b : Binding). b.at) bs → prefix.steps ≡ steps ++ x ∷ [] → first ≡ first_place (leads steps) 0 bs
    → least_place first (place_at index prefix) ≡ first_place (leads (steps ++ x ∷ [])) 0 bs
first_longer index bs prefix steps x first places longer before =
    (λ i. least_place (before i) (places prefix i))
    ∙ sym (first_either (leads steps) (λ (b : Binding). same_path b.at prefix) 0 bs)
    ∙ same_firsts (λ (b : Binding). leads steps b || same_path b.at prefix) (leads (steps ++ x ∷ [])) same 0 bs
  where
    same : (b : Binding) → (leads steps b || same_path b.at prefix) ≡ leads (steps ++ x ∷ []) b
    same b = ap (λ z. leads steps b || same_steps b.at.steps z) longer ∙ sym (prefix_more b.at.steps steps x)

-- one step more
pub more_steps : (items : List Step) (i : ℕ) (x y : Step) (before after : List Step) → i < length items → x ≡ get_or items i x → y ≡ x → before ≡ take i items
    → after ≡ before ++ y ∷ [] → after ≡ take (i + 1) items
more_steps items i x y before after lt is same so now = now ∙ ap₂ (λ b z. b ++ z ∷ []) so (same ∙ is) ∙ sym (take_more items i x lt)

-- ---- homes

after_is : (a steps later : List Step) → steps_after a steps ≡ Some later → later ≡ drop (length a) steps
after_is [] steps later h = sym (some_is steps later h)
  where
    some_is : (x y : List Step) → Some x ≡ Some y → x ≡ y
    some_is x y h = cc
after_is (b ∷ more) [] later h = cc
after_is (b ∷ more) (y ∷ ys) later h = by (same_step b y) (after_is more ys later) h
  where
    by : (s : Bool) → (steps_after more ys ≡ Some later → later ≡ drop (length more) ys) → cond s (steps_after more ys) None ≡ Some later → later ≡ drop (length more) ys
    by true f e = f e
    by false f e = cc

pub home_found : (path : Path) (bs : List Binding) → home (map seen_binding bs) path ≡ option_map_or (moved_on path) (find (leads path.steps) bs) path
home_found path [] = refl
home_found path (b ∷ bs) = by (steps_after b.at.steps path.steps) refl (home_found path bs)
  where
    by : (o : Option (List Step)) → steps_after b.at.steps path.steps ≡ o
        → home (map seen_binding bs) path ≡ option_map_or (moved_on path) (find (leads path.steps) bs) path
        → option_map_or (λ later. path_of (b.home.steps ++ later)) o (home (map seen_binding bs) path)
        ≡ option_map_or (moved_on path) (cond (is_some o) (Some b) (find (leads path.steps) bs)) path
    by None e h = h
    by (Some later) e h = ap (λ z. path_of (b.home.steps ++ z)) (after_is b.at.steps path.steps later e)

-- ---- what the program's own parts tell

pub moved_home : {E : Type 0} (path : Path) (bs : List Binding) (b : Binding) (r : Result Path E) → Some b ≡ find (leads path.steps) bs
    → IfOk r (λ p. p ≡ moved_on path b) → IfOk r (λ p. p ≡ home (map seen_binding bs) path)
moved_home path bs b (Ok p) first h = h ∙ ap (λ o. option_map_or (moved_on path) o path) first ∙ sym (home_found path bs)
moved_home path bs b (Err e) first h = h

pub own_home : {E : Type 0} (path : Path) (bs : List Binding) (r : Result Path E) → None ≡ find (leads path.steps) bs → IfOk r (λ p. p ≡ path)
    → IfOk r (λ p. p ≡ home (map seen_binding bs) path)
own_home path bs (Ok p) first h = h ∙ ap (λ o. option_map_or (moved_on path) o path) first ∙ sym (home_found path bs)
own_home path bs (Err e) first h = h

pub timed_seen : (s : Source) → seen.is_timed s ≡ homes.is_timed (seen_source s)
timed_seen Source.Run = refl
timed_seen (Source.Phase phase) = refl
timed_seen Source.Value = refl

-- a path is a home by the first part that stands there
pub home_seen : (scene : Scenes.Scene) (spots : List Spot) (path : Path) (first : Option Spot) → scene.spots ≡ map seen_spot spots
    → first ≡ find (λ (s : Spot). same_path s.path path) spots
    → option_map_or (λ (s : Spot). true) first (homes.is_timed (Scenes.source scene path)) ≡ homes.is_home scene path
home_seen scene spots path first seen is =
    ap (λ o. option_map_or (λ (s : Spot). true) o (homes.is_timed (Scenes.source scene path))) is
    ∙ sym (by (find (λ (s : Spot). same_path s.path path) spots))
    ∙ sym (ap (λ o. option_map_or (λ (s : Scenes.Spot). true) o (homes.is_timed (Scenes.source scene path)))
    (ap (find (λ (s : Scenes.Spot). same_path s.path path)) seen ∙ found_map seen_spot (λ (s : Scenes.Spot). same_path s.path path) spots))
  where
    by : (o : Option Spot) → option_map_or (λ (s : Scenes.Spot). true) (option_map seen_spot o) (homes.is_timed (Scenes.source scene path))
        ≡ option_map_or (λ (s : Spot). true) o (homes.is_timed (Scenes.source scene path))
    by None = refl
    by (Some s) = refl
