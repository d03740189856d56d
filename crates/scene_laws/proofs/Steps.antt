-- Steps of paths.
use Rattle.std.proofs.Common.{◌≡◌, ℕ, zero, suc, ◌+◌, ◌≤◌, refl, sym, ap, ◌∙◌, subst, ◌⊎◌, inl, inr, List, [], ◌∷◌, ◌++◌, map, arith}
use Rattle.std.specs.Prelude.{⊤, flat_map}
use Rattle.std.specs.List.{range_with_len}
use Rattle.field_flatten.specs.osc_base.declared.path.Path.{Path}
use Rattle.field_flatten.specs.osc_base.declared.path.Step.{Step}
use Rattle.field_flatten.specs.osc_base.declared.path.Step.TheVariants.{Name, Index, Member}
use Rattle.field_flatten.specs.osc_base.Paths.{then_name}
use Rattle.field_flatten.proofs.Tests.{In, in_either, flat_map_in, map_in}
use Rattle.scene_laws.proofs.FieldNames.{Pairs}

-- ---- lists

pub joined_again : {A : Type 0} (xs ys zs : List A) → (xs ++ ys) ++ zs ≡ xs ++ (ys ++ zs)
joined_again [] ys zs = refl
joined_again (x ∷ xs) ys zs = ap (λ l. x ∷ l) (joined_again xs ys zs)

abbrev tail_of : {A : Type 0} → List A → List A
tail_of [] = []
tail_of (x ∷ xs) = xs

pub tail_same : {A : Type 0} (x y : A) (xs ys : List A) → x ∷ xs ≡ y ∷ ys → xs ≡ ys
tail_same x y xs ys h = ap tail_of h

pub cancelled : {A : Type 0} (base xs ys : List A) → base ++ xs ≡ base ++ ys → xs ≡ ys
cancelled [] xs ys h = h
cancelled (b ∷ bs) xs ys h = cancelled bs xs ys (tail_same b b (bs ++ xs) (bs ++ ys) h)

pub nothing_after : {A : Type 0} (base : List A) (x : A) (xs : List A) → base ≡ base ++ x ∷ xs → ⊥
nothing_after [] x xs h = cc
nothing_after (b ∷ bs) x xs h = nothing_after bs x xs (tail_same b b bs (bs ++ x ∷ xs) h)

module _ {A : Type 0} (R : A → A → Type 0) where
  pub pairs_append : (xs ys : List A) → Pairs R xs → Pairs R ys → ((x y : A) → In x xs → In y ys → R x y) → Pairs R (xs ++ ys)
  pairs_append [] ys p q f = q
  pairs_append (x ∷ xs) ys p q f = (λ z i. by z (in_either z xs ys i), pairs_append xs ys p.1 q (λ a b i j. f a b (inr i) j))
    where
      by : (z : A) → In z xs ⊎ In z ys → R x z
      by z (inl i) = p.0 z i
      by z (inr i) = f x z (inl refl) i

  pub pairs_flat : {B : Type 0} (S : B → B → Type 0) (f : B → List A) (bs : List B) → Pairs S bs → ((b : B) → In b bs → Pairs R (f b))
      → ((b c : B) (x y : A) → In b bs → In c bs → S b c → In x (f b) → In y (f c) → R x y) → Pairs R (flat_map f bs)
  pairs_flat S f [] p q g = tt
  pairs_flat S f (b ∷ bs) p q g =
      pairs_append (f b) (flat_map f bs) (q b (inl refl)) (pairs_flat S f bs p.1 (λ c i. q c (inr i)) (λ c d x y i j. g c d x y (inr i) (inr j)))
      (λ x y i j. let m = flat_map_in f bs y j in g b m.0 x y (inl refl) (inr m.1) (p.0 m.0 m.1) i m.2)

  pub pairs_map : {B : Type 0} (S : B → B → Type 0) (f : B → A) (bs : List B) → Pairs S bs → ((b c : B) → In b bs → In c bs → S b c → R (f b) (f c)) → Pairs R (map f bs)
  pairs_map S f [] p g = tt
  pairs_map S f (b ∷ bs) p g = (λ y i. let m = map_in f bs y i in subst (R (f b)) (sym m.2) (g b m.0 (inl refl) (inr m.1) (p.0 m.0 m.1)), pairs_map S f bs p.1 (λ c d i j. g c d (inr i) (inr j)))

in_range_above : (a n k : ℕ) → In k (range_with_len a n) → a ≤ k
in_range_above a zero k i = absurd i
in_range_above a (suc n) k (inl e) = omega (arith, e)
in_range_above a (suc n) k (inr i) = let more = in_range_above (a + 1) n k i in omega (arith, more)

pub range_apart : (a n : ℕ) → Pairs (λ (x y : ℕ). x ≡ y → ⊥) (range_with_len a n)
range_apart a zero = tt
range_apart a (suc n) = (λ k i same. let more = in_range_above (a + 1) n k i in absurd (omega (arith, same, more)), range_apart (a + 1) n)

-- ---- below a path

-- further steps, the first of which is a name
abbrev pub Below : Path → List ℕ → Path → Type 0
Below base name path = (rest : List Step) × (path.steps ≡ base.steps ++ Name name ∷ rest)

abbrev pub NamedBelow : Path → Path → Type 0
NamedBelow base path = (name : List ℕ) × Below base name path

pub name_below : (base : Path) (name : List ℕ) → Below base name (then_name base name)
name_below base name = ([], refl)

-- what is below a path that is below another
pub below_more : (base : Path) (name : List ℕ) (middle path : Path) → Below base name middle → (more : List Step) → path.steps ≡ middle.steps ++ more → Below base name path
below_more base name middle path b more h = (b.0 ++ more, h ∙ ap (λ l. l ++ more) b.1 ∙ joined_again base.steps (Name name ∷ b.0) more)

abbrev head_name : List Step → List ℕ
head_name (Name n ∷ rest) = n
head_name _ = []

pub below_one : (base : Path) (a b : List ℕ) (p q : Path) → Below base a p → Below base b q → p ≡ q → a ≡ b
below_one base a b p q x y same =
    let steps : base.steps ++ Name a ∷ x.0 ≡ base.steps ++ Name b ∷ y.0 = sym x.1 ∙ ap (λ z. z.steps) same ∙ y.1 in
    ap head_name (cancelled base.steps (Name a ∷ x.0) (Name b ∷ y.0) steps)

pub below_not : (base : Path) (a : List ℕ) (p : Path) → Below base a p → base ≡ p → ⊥
below_not base a p x same = nothing_after base.steps (Name a) x.0 (ap (λ z. z.steps) same ∙ x.1)

-- ---- members of phases

-- member steps alone
abbrev pub AreMembers : List Step → Type 0
AreMembers [] = ⊤
AreMembers (Member n ∷ rest) = AreMembers rest
AreMembers (Name n ∷ rest) = ⊥
AreMembers (Index n ∷ rest) = ⊥

-- steps that begin with no member
abbrev pub NoMember : List Step → Type 0
NoMember [] = ⊤
NoMember (Member n ∷ rest) = ⊥
NoMember (Name n ∷ rest) = ⊤
NoMember (Index n ∷ rest) = ⊤

-- the member steps with which a list begins
abbrev run_of : List Step → List Step
run_of [] = []
run_of (Member n ∷ rest) = Member n ∷ run_of rest
run_of (Name n ∷ rest) = []
run_of (Index n ∷ rest) = []

run_is : (ms rest : List Step) → AreMembers ms → NoMember rest → run_of (ms ++ rest) ≡ ms
run_is [] [] m r = refl
run_is [] (Name n ∷ rest) m r = refl
run_is [] (Index n ∷ rest) m r = refl
run_is [] (Member n ∷ rest) m r = absurd r
run_is (Member n ∷ ms) rest m r = ap (λ l. Member n ∷ l) (run_is ms rest m r)
run_is (Name n ∷ ms) rest m r = absurd m
run_is (Index n ∷ ms) rest m r = absurd m

pub runs_same : (ms ns rest more : List Step) → AreMembers ms → AreMembers ns → NoMember rest → NoMember more → ms ++ rest ≡ ns ++ more → ms ≡ ns
runs_same ms ns rest more m n r s h = sym (run_is ms rest m r) ∙ ap run_of h ∙ run_is ns more n s

pub member_last : (ms : List Step) (n : ℕ) → AreMembers ms → AreMembers (ms ++ Member n ∷ [])
member_last [] n m = tt
member_last (Member k ∷ ms) n m = member_last ms n m
member_last (Name k ∷ ms) n m = absurd m
member_last (Index k ∷ ms) n m = absurd m
