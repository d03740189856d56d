-- Reading on and on.
use Rattle.std.proofs.Common.{◌≡◌, refl, sym, ap, ◌∙◌, subst, ℕ, ◌≤◌, Bool, false, List, [], ◌++◌, length, Option, Some, None, arith, append_assoc}
use Rattle.std.specs.Io.KnownBytes.{prepend_known}
use Rattle.std.proofs.lemmas.Bool.{false≢true}
use Rattle.std.proofs.lemmas.List.{length-append}
use Rattle.outside_io.specs.declared.shelf.NamedBytes.{NamedBytes}
use Rattle.outside_io.specs.Counts.{Rises}
use Rattle.record_text.specs.Source.{limit, Unread, rest_of, Gives, IsAtEnd, IsTooLong, IsWithin, ReadsOn}

prepend_twice : (a b : List ℕ) (known : Option (List ℕ)) → prepend_known a (prepend_known b known) ≡ prepend_known (a ++ b) known
prepend_twice a b None = refl
prepend_twice a b (Some bytes) = ap Some (sym (append_assoc a b bytes))

prepend_nothing : (known : Option (List ℕ)) → prepend_known [] known ≡ known
prepend_nothing None = refl
prepend_nothing (Some bytes) = refl

pub gives_nothing : (x : Unread) (l : Option (List ℕ)) → Gives [] x x l l
gives_nothing x l = record { rest = sym (prepend_nothing (rest_of x l)); given = omega arith }

pub gives_then : (a b : List ℕ) (x y z : Unread) (l m n : Option (List ℕ)) → Gives a x y l m → Gives b y z m n → Gives (a ++ b) x z l n
gives_then a b x y z l m n g h = record {
  rest = g.rest ∙ (ap (prepend_known a) h.rest ∙ prepend_twice a b (rest_of z n));
  given = omega (arith, g.given, h.given, length-append a b);
}

-- what is left where all is known
pub left_after : (a : List ℕ) (known : Option (List ℕ)) (rest : List ℕ) → prepend_known a known ≡ Some rest → (later : List ℕ) × (known ≡ Some later) × (rest ≡ a ++ later)
left_after a None rest e = let never : ⊥ = cc in absurd never
left_after a (Some later) rest e = (later, refl, (let same : rest ≡ a ++ later = cc in same))

module _ (a : List ℕ) (x y : Unread) (l m : Option (List ℕ)) (g : Gives a x y l m) where
  pub too_long_before : IsTooLong y m → IsTooLong x l
  too_long_before too rest is =
      let r = left_after a (rest_of y m) rest (sym g.rest ∙ is) in
      omega (arith, too r.0 r.1, g.given, ap (λ (bs : List ℕ). length bs) r.2, length-append a r.0)

  pub within_before : IsWithin y m → IsWithin x l
  within_before few rest is =
      let r = left_after a (rest_of y m) rest (sym g.rest ∙ is) in
      omega (arith, few r.0 r.1, g.given, ap (λ (bs : List ℕ). length bs) r.2, length-append a r.0)

-- at the end nothing is left
pub end_rest : (x : Unread) (l : Option (List ℕ)) (rest : List ℕ) → IsAtEnd x l → rest_of x l ≡ Some rest → rest ≡ []
end_rest x None rest e is = let never : ⊥ = cc in absurd never
end_rest x (Some bytes) rest e is =
    let whole : rest ≡ x.bytes ++ bytes = cc in
    let none : bytes ≡ [] = e.nothing in
    whole ∙ rw (e.no_bytes, none) refl

pub end_within : (x : Unread) (l : Option (List ℕ)) → x.given ≤ limit → IsAtEnd x l → IsWithin x l
end_within x l few e rest is = omega (arith, few, ap (λ (bs : List ℕ). length bs) (end_rest x l rest e is))

pub reads_nothing : (f : Option (List NamedBytes)) (l : Option (List ℕ)) (k : ℕ) → ReadsOn f f l l k k false
reads_nothing f l k = record {
  files_kept = refl;
  telling_kept = refl;
  never_falls = omega arith;
  steady = λ _. refl;
  cause = λ e. absurd (false≢true e);
  nothing = λ e. absurd (false≢true e);
}

pub reads_then : (f g h : Option (List NamedBytes)) (l m n : Option (List ℕ)) (j k i : ℕ) (failed : Bool)
    → ReadsOn f g l m j k false → ReadsOn g h m n k i failed → ReadsOn f h l n j i failed
reads_then f g h l m n j k i failed r s =
    let same : k ≡ j = r.steady refl in
    record {
      files_kept = s.files_kept ∙ r.files_kept;
      telling_kept = s.telling_kept ∙ r.telling_kept;
      never_falls = omega (arith, s.never_falls, r.never_falls);
      steady = λ e. s.steady e ∙ same;
      cause = λ e. subst (λ (c : ℕ). Rises c i) same (s.cause e);
      nothing = s.nothing;
    }

-- a file that was read so far
pub record IsRead (x y : Unread) (l m : Option (List ℕ)) : Type 0 where
  pub text : List ℕ
  pub gives : Gives text x y l m

pub read_more : (a : List ℕ) (x y z : Unread) (l m n : Option (List ℕ)) → IsRead x y l m → Gives a y z m n → IsRead x z l n
read_more a x y z l m n r g = record { text = r.text ++ a; gives = gives_then r.text a x y z l m n r.gives g }
