-- Tables of names, as functions from names to places.
use Rattle.std.proofs.Common.{◌≡◌, ◌∙◌, refl, sym, ap, ℕ, ◌+◌, ◌<◌, List, [], ◌∷◌, ◌++◌, Bool, true, false, cond, ◌&&◌, Option, Some, None, true≢false, bytes_eq, length, take, arith, get_or, length-take}
use Rattle.std.specs.Option.{is_some, option_or}
use Rattle.std.specs.HashMap.{get_by_text}
use Rattle.std.proofs.lemmas.Slice.Eq.{bytes_eq-Decides}
use Rattle.std.proofs.lemmas.List.{take_more}
use Rattle.name_scope.specs.declared.ids.NameKind.{NameKind}
use Rattle.name_scope.specs.declared.table.NameTable.{NameTable}
use Rattle.name_scope.specs.declared.table.DeclTable.{DeclTable}
use Rattle.name_scope.specs.Declaring.{first_place, same_names}
use Rattle.name_scope.specs.Tables.{place_in, place_within, place_of}

pub or_nothing : (o : Option ℕ) → o ≡ option_or o None
or_nothing None = refl
or_nothing (Some x) = refl

kept : (o p : Option ℕ) → is_some o ≡ true → o ≡ option_or o p
kept None p h = absurd (true≢false (sym h))
kept (Some x) p h = refl

first : (o p : Option ℕ) → is_some o ≡ false → p ≡ option_or o p
first None p h = refl
first (Some x) p h = absurd (true≢false h)

-- a name that is there keeps its place
pub present : (f : List ℕ → Option ℕ) (name : List ℕ) (place : ℕ) → is_some (f name) ≡ true → (other : List ℕ) → f other ≡ option_or (f other) (cond (bytes_eq name other) (Some place) None)
present f name place there other = by (bytes_eq name other) refl
  where
    by : (b : Bool) → bytes_eq name other ≡ b → f other ≡ option_or (f other) (cond b (Some place) None)
    by true e = kept (f other) (Some place) (ap (λ n. is_some (f n)) (sym ((bytes_eq-Decides name other).0 e)) ∙ there)
    by false e = or_nothing (f other)

-- a new name gets one
pub placed : (f g : List ℕ → Option ℕ) (name : List ℕ) (place : ℕ) → is_some (f name) ≡ false → ((other : List ℕ) → g other ≡ cond (bytes_eq name other) (Some place) (f other)) →
    (other : List ℕ) → g other ≡ option_or (f other) (cond (bytes_eq name other) (Some place) None)
placed f g name place fresh is other = is other ∙ by (bytes_eq name other) refl
  where
    by : (b : Bool) → bytes_eq name other ≡ b → cond b (Some place) (f other) ≡ option_or (f other) (cond b (Some place) None)
    by true e = first (f other) (Some place) (ap (λ n. is_some (f n)) (sym ((bytes_eq-Decides name other).0 e)) ∙ fresh)
    by false e = or_nothing (f other)

-- an owner's table is taken out and put back with one name more
module _ (f g h : List ℕ → Option NameTable) (owner name : List ℕ) (place : ℕ) (before after : NameTable)
    (without : (w : List ℕ) → g w ≡ cond (bytes_eq owner w) None (f w))
    (with : (w : List ℕ) → h w ≡ cond (bytes_eq owner w) (Some after) (g w))
    (was : (text : List ℕ) → place_in before text ≡ place_within (f owner) text)
    (more : (text : List ℕ) → place_in after text ≡ option_or (place_in before text) (cond (bytes_eq name text) (Some place) None)) where
  pub owned_more : (w text : List ℕ) → place_within (h w) text ≡ option_or (place_within (f w) text) (cond (bytes_eq owner w && bytes_eq name text) (Some place) None)
  owned_more w text = ap (λ t. place_within t text) (with w ∙ ap (cond (bytes_eq owner w) (Some after)) (without w)) ∙ by (bytes_eq owner w) refl
    where
      by : (b : Bool) → bytes_eq owner w ≡ b → place_within (cond b (Some after) (cond b None (f w))) text ≡ option_or (place_within (f w) text) (cond (b && bytes_eq name text) (Some place) None)
      by true e = more text ∙ ap (λ o. option_or o (cond (bytes_eq name text) (Some place) None)) (was text ∙ ap (λ v. place_within (f v) text) ((bytes_eq-Decides owner w).0 e))
      by false e = or_nothing (place_within (f w) text)

-- the first place in one more
place_more_from : {X : Type 0} (test : X → Bool) (n : ℕ) (xs : List X) (x : X) → first_place test n (xs ++ x ∷ []) ≡ option_or (first_place test n xs) (cond (test x) (Some (n + length xs)) None)
place_more_from test n [] x = let e : n + 0 ≡ n = omega arith in ap (λ m. cond (test x) (Some m) None) (sym e)
place_more_from test n (y ∷ ys) x = by (test y) (place_more_from test (n + 1) ys x)
  where
    by : (b : Bool) → first_place test (n + 1) (ys ++ x ∷ []) ≡ option_or (first_place test (n + 1) ys) (cond (test x) (Some (n + 1 + length ys)) None) →
        cond b (Some n) (first_place test (n + 1) (ys ++ x ∷ [])) ≡ option_or (cond b (Some n) (first_place test (n + 1) ys)) (cond (test x) (Some (n + length (y ∷ ys))) None)
    by true h = refl
    by false h = h ∙ (let e : n + 1 + length ys ≡ n + length (y ∷ ys) = omega arith in ap (λ m. option_or (first_place test (n + 1) ys) (cond (test x) (Some m) None)) e)

pub place_more : {X : Type 0} (test : X → Bool) (xs : List X) (i : ℕ) (x : X) → i < length xs → first_place test 0 (take (i + 1) xs) ≡ option_or (first_place test 0 (take i xs)) (cond (test (get_or xs i x)) (Some i) None)
place_more test xs i x h =
    let n : 0 + length (take i xs) ≡ i = omega (arith, length-take i xs) in
    ap (first_place test 0) (take_more xs i x h) ∙ place_more_from test 0 (take i xs) (get_or xs i x)
    ∙ ap (λ m. option_or (first_place test 0 (take i xs)) (cond (test (get_or xs i x)) (Some m) None)) n

-- nothing changes for the names of other kinds
pub owned_all : (old new : DeclTable) (owner name : List ℕ) (place : ℕ) → new.types ≡ old.types → new.units ≡ old.units → new.behaviours ≡ old.behaviours →
    ((w text : List ℕ) → place_within (get_by_text new.owned w) text ≡ option_or (place_within (get_by_text old.owned w) text) (cond (bytes_eq owner w && bytes_eq name text) (Some place) None)) →
    (kind : NameKind) (other : Option (List ℕ)) (text : List ℕ) → place_of new kind other text ≡ option_or (place_of old kind other text) (cond (same_names NameKind.BehaviourName (Some owner) name kind other text) (Some place) None)
owned_all old new owner name place types units behaviours more NameKind.TypeName None text = ap (λ t. place_in t text) types ∙ or_nothing (place_in old.types text)
owned_all old new owner name place types units behaviours more NameKind.TypeName (Some w) text = refl
owned_all old new owner name place types units behaviours more NameKind.UnitName None text = ap (λ t. place_in t text) units ∙ or_nothing (place_in old.units text)
owned_all old new owner name place types units behaviours more NameKind.UnitName (Some w) text = refl
owned_all old new owner name place types units behaviours more NameKind.BehaviourName None text = ap (λ t. place_in t text) behaviours ∙ or_nothing (place_in old.behaviours text)
owned_all old new owner name place types units behaviours more NameKind.BehaviourName (Some w) text = more w text
owned_all old new owner name place types units behaviours more NameKind.ModifierName None text = refl
owned_all old new owner name place types units behaviours more NameKind.ModifierName (Some w) text = refl

pub place_next : {X : Type 0} (test : X → Bool) (xs : List X) (i n : ℕ) (x : X) → i < length xs → n ≡ i → x ≡ get_or xs i x →
    option_or (first_place test 0 (take i xs)) (cond (test x) (Some n) None) ≡ first_place test 0 (take (i + 1) xs)
place_next test xs i n x h same is =
    ap (λ y. option_or (first_place test 0 (take i xs)) (cond (test y) (Some n) None)) is
    ∙ ap (λ m. option_or (first_place test 0 (take i xs)) (cond (test (get_or xs i x)) (Some m) None)) same
    ∙ sym (place_more test xs i x h)
