-- What a set holds after one key more, by tests on its keys.
use Rattle.std.proofs.Common.{◌≡◌, ◌∙◌, refl, sym, ap, ℕ, Bool, true, false, not, ◌||◌, List, [], ◌∷◌, ◌++◌, if◌then◌else◌, map, Bor, bytes_eq}
use Rattle.std.specs.List.{list_any}
use Rattle.std.proofs.lemmas.List.Folds.{list_any-append}
use Rattle.std.proofs.lemmas.Slice.Eq.{bytes_eq-Decides}
use Rattle.indexmap.specs.IndexSet.{insert_key}

or_true : (b : Bool) → (b || true) ≡ true
or_true true = refl
or_true false = refl

or_swapped : (a b : Bool) → (a || (b || false)) ≡ (b || a)
or_swapped true true = refl
or_swapped true false = refl
or_swapped false true = refl
or_swapped false false = refl

-- keys that are equal to the new one pass the test when that does
module _ {K : Type 0} (eq : K → K → Bool) (test : K → Bool) (v : K) (alike : (k : K) → eq v k ≡ true → test v ≡ test k) where
  met : (ks : List K) → list_any (eq v) ks ≡ true → test v ≡ true → list_any test ks ≡ true
  met [] h p = h
  met (k ∷ ks) h p = by (λ h. met ks h p) (eq v k) refl h
    where
      by : (list_any (eq v) ks ≡ true → list_any test ks ≡ true) → (b : Bool) → eq v k ≡ b → (b || list_any (eq v) ks) ≡ true → (test k || list_any test ks) ≡ true
      by others true e h = ap (λ b. b || list_any test ks) (sym (alike k e) ∙ p)
      by others false e h = ap (λ b. test k || b) (others h) ∙ or_true (test k)

  pub inserted : (ks : List K) → list_any test (insert_key eq ks v) ≡ (test v || list_any test ks)
  inserted ks = by (list_any (eq v) ks) refl
    where
      here : list_any (eq v) ks ≡ true → (b : Bool) → test v ≡ b → list_any test ks ≡ (b || list_any test ks)
      here e true p = met ks e p
      here e false p = refl

      by : (b : Bool) → list_any (eq v) ks ≡ b → list_any test (if b then ks else ks ++ v ∷ []) ≡ (test v || list_any test ks)
      by true e = here e (test v) refl
      by false e = list_any-append test ks (v ∷ []) ∙ or_swapped (list_any test ks) (test v)

-- Texts

abbrev pub now_of : List (Bor (List ℕ)) → List (List ℕ)
now_of keys = map (λ (key : Bor (List ℕ)). key.now) keys

pub any_now : (test : List ℕ → Bool) (keys : List (Bor (List ℕ))) → list_any (λ (key : Bor (List ℕ)). test key.now) keys ≡ list_any test (now_of keys)
any_now test [] = refl
any_now test (key ∷ keys) = ap (λ t. test key.now || t) (any_now test keys)

pub text_more : (keys later : List (Bor (List ℕ))) (text : Bor (List ℕ)) (old new : List (List ℕ)) → now_of keys ≡ old → now_of later ≡ new →
    later ≡ insert_key (λ (a b : Bor (List ℕ)). bytes_eq a.now b.now) keys text →
    (other : List ℕ) → list_any (bytes_eq other) new ≡ (bytes_eq other text.now || list_any (bytes_eq other) old)
text_more keys later text old new seen seen' written other =
    ap (list_any (bytes_eq other)) (sym seen') ∙ sym (any_now (bytes_eq other) later)
    ∙ ap (list_any (λ (key : Bor (List ℕ)). bytes_eq other key.now)) written
    ∙ inserted (λ (a b : Bor (List ℕ)). bytes_eq a.now b.now) (λ (key : Bor (List ℕ)). bytes_eq other key.now) text
    (λ k e. ap (bytes_eq other) ((bytes_eq-Decides text.now k.now).0 e)) keys
    ∙ ap (λ t. bytes_eq other text.now || t) (any_now (bytes_eq other) keys ∙ ap (list_any (bytes_eq other)) seen)

pub twice_not : (b : Bool) → not (not b) ≡ b
twice_not true = refl
twice_not false = refl

-- the same of the keys that a set has after it took one more
pub key_more : {K : Type 0} (eq : K → K → Bool) (test : K → Bool) (v : K) (keys later : List K) → later ≡ insert_key eq keys v →
    ((k : K) → eq v k ≡ true → test v ≡ test k) → list_any test later ≡ (test v || list_any test keys)
key_more eq test v keys later is alike = ap (list_any test) is ∙ inserted eq test v alike keys
