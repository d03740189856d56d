-- What is put at the end of a list, one thing after another.
use Rattle.std.proofs.Common.{◌≡◌, ◌∙◌, refl, sym, ap, ℕ, zero, suc, ◌+◌, ◌-◌, ◌<◌, ◌≤◌, arith, List, [], ◌∷◌, ◌++◌, Option, Some, None, Result, Ok, Err, append-nil, append_assoc, drop, flat_map, get_or, length, map, option_to_list, reverse, take}
use Rattle.std.specs.Result.{OnOk}
use Rattle.std.proofs.lemmas.List.{drop_more, reverse-append, take_more}

pub on_ok : {X E : Type 0} (P Q : Type 0) → (P → Q) → (r : Result X E) → OnOk r P → OnOk r Q
on_ok P Q more (Ok x) h = more h
on_ok P Q more (Err e) h = tt

-- nothing is put at the end
pub put_none : {X : Type 0} (old a : List X) → [] ≡ a → old ≡ old ++ a
put_none old a h = sym (append-nil old) ∙ ap (λ xs. old ++ xs) h

-- what is put at the end is another row
pub put_same : {X : Type 0} (old new a b : List X) → a ≡ b → new ≡ old ++ a → new ≡ old ++ b
put_same old new a b h is = is ∙ ap (λ xs. old ++ xs) h

-- what is put at the end in two steps
pub put_two : {X : Type 0} (old mid new a b : List X) → mid ≡ old ++ a → new ≡ mid ++ b → new ≡ old ++ (a ++ b)
put_two old mid new a b one two = two ∙ ap (λ xs. xs ++ b) one ∙ append_assoc old a b

-- what the last things give, as they were found elsewhere
pub put_last : {X Z : Type 0} (f : X → List Z) (old new all : List Z) (given left : List X) → given ≡ left → new ≡ old ++ flat_map f given → old ++ flat_map f left ≡ all → new ≡ all
put_last f old new all given left same is before = is ∙ ap (λ xs. old ++ flat_map f xs) same ∙ before

-- what is made of a part that is there, or isn't
pub of_some : {X Y : Type 0} (f : X → List Y) (o : Option X) (x : X) → Some x ≡ o → f x ≡ flat_map f (option_to_list o)
of_some f o x h = sym (append-nil (f x)) ∙ ap (λ p. flat_map f (option_to_list p)) h

pub of_none : {X Y : Type 0} (f : X → List Y) (o : Option X) → None ≡ o → [] ≡ flat_map f (option_to_list o)
of_none f o h = ap (λ p. flat_map f (option_to_list p)) h

-- what each of some things gives, one thing further
pub each_more : {X Y Z : Type 0} (f : X → List Z) (see : Y → X) (items : List Y) (i : ℕ) (x : Y) (old new all : List Z) → i < length items → x ≡ get_or items i x → new ≡ old ++ f (see x)
    → old ++ flat_map f (map see (drop i items)) ≡ all → new ++ flat_map f (map see (drop (i + 1) items)) ≡ all
each_more f see items i x old new all lt at is before =
    ap (λ ws. ws ++ flat_map f (map see (drop (i + 1) items))) is ∙ append_assoc old (f (see x)) (flat_map f (map see (drop (i + 1) items)))
    ∙ ap (λ ys. old ++ flat_map f (map see ys)) (sym (drop_more items i x lt ∙ ap (λ y. y ∷ drop (i + 1) items) (sym at))) ∙ before

-- the last of some things first
pub last_more : {X Z : Type 0} (f : X → List Z) (nearer left : List X) (x : X) (old new all : List Z) → left ≡ nearer ++ x ∷ [] → new ≡ old ++ f x
    → old ++ flat_map f (reverse left) ≡ all → new ++ flat_map f (reverse nearer) ≡ all
last_more f nearer left x old new all is more before =
    ap (λ ws. ws ++ flat_map f (reverse nearer)) more ∙ append_assoc old (f x) (flat_map f (reverse nearer))
    ∙ ap (λ ys. old ++ flat_map f ys) (sym (reverse-append nearer (x ∷ [])) ∙ ap reverse (sym is)) ∙ before

-- what each of some things gives, where they stand as they are
pub plain_more : {X Z : Type 0} (f : X → List Z) (items : List X) (i : ℕ) (x : X) (old new all : List Z) → i < length items → x ≡ get_or items i x → new ≡ old ++ f x
    → old ++ flat_map f (drop i items) ≡ all → new ++ flat_map f (drop (i + 1) items) ≡ all
plain_more f items i x old new all lt at is before =
    ap (λ ws. ws ++ flat_map f (drop (i + 1) items)) is ∙ append_assoc old (f x) (flat_map f (drop (i + 1) items))
    ∙ ap (λ ys. old ++ flat_map f ys) (sym (drop_more items i x lt ∙ ap (λ y. y ∷ drop (i + 1) items) (sym at))) ∙ before

-- one of each
pub one_more : {X Y Z : Type 0} (f : X → Z) (see : Y → X) (items : List Y) (i : ℕ) (x : Y) (old new all : List Z) → i < length items → x ≡ get_or items i x → new ≡ old ++ f (see x) ∷ []
    → old ++ map f (map see (drop i items)) ≡ all → new ++ map f (map see (drop (i + 1) items)) ≡ all
one_more f see items i x old new all lt at is before =
    ap (λ ws. ws ++ map f (map see (drop (i + 1) items))) is ∙ append_assoc old (f (see x) ∷ []) (map f (map see (drop (i + 1) items)))
    ∙ ap (λ ys. old ++ map f (map see ys)) (sym (drop_more items i x lt ∙ ap (λ y. y ∷ drop (i + 1) items) (sym at))) ∙ before

-- what each of some things gives by its number
pub numbered_more : {X Y Z : Type 0} (all_of : ℕ → List X → List Z) (f : ℕ → X → List Z) (see : Y → X) → ((n : ℕ) (x : X) (xs : List X) → all_of n (x ∷ xs) ≡ f n x ++ all_of (n + 1) xs)
    → (items : List Y) (i : ℕ) (x : Y) (old new all : List Z) → i < length items → x ≡ get_or items i x → new ≡ old ++ f i (see x)
    → old ++ all_of i (map see (drop i items)) ≡ all → new ++ all_of (i + 1) (map see (drop (i + 1) items)) ≡ all
numbered_more all_of f see split items i x old new all lt at is before =
    ap (λ ws. ws ++ all_of (i + 1) (map see (drop (i + 1) items))) is ∙ append_assoc old (f i (see x)) (all_of (i + 1) (map see (drop (i + 1) items)))
    ∙ ap (λ ys. old ++ ys) (sym (split i (see x) (map see (drop (i + 1) items))))
    ∙ ap (λ ys. old ++ all_of i (map see ys)) (sym (drop_more items i x lt ∙ ap (λ y. y ∷ drop (i + 1) items) (sym at))) ∙ before

-- a place before the last
pub before_more : {X Z : Type 0} (f : X → List Z) (items : List X) (i : ℕ) (x : X) (old new all : List Z) → 0 < i → i ≤ length items → x ≡ get_or items (i - 1) x → new ≡ old ++ f x
    → old ++ flat_map f (reverse (take i items)) ≡ all → new ++ flat_map f (reverse (take (i - 1) items)) ≡ all
before_more f items zero x old new all some le at is before = absurd (omega (arith, some))
before_more {X} f items (suc i) x old new all some le at is before =
    let same : suc i - 1 ≡ i = omega arith in
    let less : i < length items = omega (arith, le) in
    let next : suc i ≡ i + 1 = omega arith in
    let here : x ≡ get_or items i x = at ∙ ap (λ n. get_or items n x) same in
    ap (λ n. new ++ flat_map f (reverse (take n items))) same
    ∙ last_more f (take i items) (take (suc i) items) x old new all
    (ap (λ n. take n items) next ∙ take_more items i x less ∙ ap (λ (y : X). take i items ++ y ∷ []) (sym here)) is before

-- all of them
pub take_whole : {X : Type 0} (items : List X) → take (length items) items ≡ items
take_whole [] = refl
take_whole (x ∷ xs) = ap (λ ys. x ∷ ys) (take_whole xs)

-- none is left
pub before_none : {X Z : Type 0} (f : X → List Z) (items : List X) (i : ℕ) (old all : List Z) → i ≤ 0 → old ++ flat_map f (reverse (take i items)) ≡ all → old ≡ all
before_none f items zero old all le before = sym (append-nil old) ∙ before
before_none f items (suc i) old all le before = absurd (omega (arith, le))
