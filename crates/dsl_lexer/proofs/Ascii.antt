-- ASCII bytes are whole characters, and control characters have a first one.
use Rattle.std.proofs.Common.{◌≡◌, ℕ, suc, zero, ◌+◌, ◌-◌, ◌<◌, ◌≤◌, Bool, true, false, cond, ◌⊎◌, inl, inr, Option, Some, None, List, [], ◌∷◌, ◌++◌, length, take, get_or, refl, ap, sym, ◌∙◌, subst, arith}
use Rattle.std.specs.Str.{IsUtf8, IsAscii, IsValidUpTo}
use Rattle.std.specs.Option.{option_map}
use Rattle.std.proofs.lemmas.Bool.{false≢true, true≢false}
use Rattle.std.proofs.lemmas.List.{take_more, get_or-append-add, get_or_append_left}
use Rattle.std.proofs.lemmas.Str.{IsUtf8-append, IsUtf8-from_ascii}
use Rattle.dsl_lexer.specs.declared.shape.Shape.{Shape}
use Rattle.dsl_lexer.specs.Bytes.{begins_control}
use Rattle.dsl_lexer.specs.Shapes.{Space, Tab, Comment, LineEnd, Joint, MarkShape, NameShape, NumberShape, StringShape, is_lexeme, IsShape}
use Rattle.dsl_lexer.specs.Pieces.{Piece, reach, Cut}
use Rattle.dsl_lexer.specs.SourceTokens.{HasControl}
use Rattle.dsl_lexer.specs.Scan.{control_at}
use Rattle.dsl_lexer.proofs.Fitting.{quote_is}
use Rattle.dsl_lexer.proofs.Cutting.{spelled}

pub one_ascii : (b : ℕ) → b < 128 → IsAscii (b ∷ [])
one_ascii b h zero = h
one_ascii b h (suc i) = omega arith

pub bad_not_ascii : (bytes : List ℕ) (n : ℕ) → IsValidUpTo bytes n → get_or bytes n 0 < 128 → ⊥
bad_not_ascii bytes n bad h =
    let short = bad.short in
    let whole : IsUtf8 (take (n + 1) bytes) = rw (take_more bytes n 0 short) (IsUtf8-append (take n bytes) (get_or bytes n 0 ∷ []) bad.front (IsUtf8-from_ascii (get_or bytes n 0 ∷ []) (one_ascii (get_or bytes n 0) h))) in
    bad.longest (n + 1) (omega arith) whole

two_ascii : (b c : ℕ) → b < 128 → c < 128 → IsAscii (b ∷ c ∷ [])
two_ascii b c h k zero = h
two_ascii b c h k (suc zero) = k
two_ascii b c h k (suc (suc i)) = omega arith

three_ascii : (b c d : ℕ) → b < 128 → c < 128 → d < 128 → IsAscii (b ∷ c ∷ d ∷ [])
three_ascii b c d h k m zero = h
three_ascii b c d h k m (suc zero) = k
three_ascii b c d h k m (suc (suc zero)) = m
three_ascii b c d h k m (suc (suc (suc i))) = omega arith

-- a separator is ASCII, but for comments
pub separator_ascii : (s : Shape) (text : List ℕ) → IsShape s text → is_lexeme s ≡ false → (s ≡ Comment) ⊎ IsAscii text
separator_ascii Space text e l = inr (rw e (one_ascii 32 (omega arith)))
separator_ascii Tab text e l = inr (rw e (one_ascii 9 (omega arith)))
separator_ascii Comment text e l = inl refl
separator_ascii LineEnd text (inl e) l = inr (rw e (one_ascii 10 (omega arith)))
separator_ascii LineEnd text (inr e) l = inr (rw e (two_ascii 13 10 (omega arith) (omega arith)))
separator_ascii Joint text (end, e, inl f) l = inr (rw (e, f) (two_ascii 92 10 (omega arith) (omega arith)))
separator_ascii Joint text (end, e, inr f) l = inr (rw (e, f) (three_ascii 92 13 10 (omega arith) (omega arith) (omega arith)))
separator_ascii MarkShape text e l = absurd (true≢false l)
separator_ascii NameShape text e l = absurd (true≢false l)
separator_ascii NumberShape text e l = absurd (true≢false l)
separator_ascii StringShape text e l = absurd (true≢false l)

-- a byte of a text that stands at an offset
pub byte_of : (bytes : List ℕ) (before : List Piece) (text behind : List ℕ) (k : ℕ) → Cut bytes before (text ++ behind) → k < length text → get_or bytes (reach before + k) 0 ≡ get_or text k 0
byte_of bytes before text behind k cut h =
    let x = spelled bytes before (text ++ behind) cut in
    ap (λ n. get_or bytes (n + k) 0) (sym x.size) ∙ ap (λ t. get_or t (length x.front + k) 0) x.split ∙ get_or-append-add x.front (text ++ behind) k 0 ∙ get_or_append_left text behind 0 k h

pub ascii_piece : (bytes : List ℕ) (before : List Piece) (text behind : List ℕ) (n : ℕ) → Cut bytes before (text ++ behind) → IsAscii text → IsValidUpTo bytes n → reach before ≤ n → n < reach before + length text → ⊥
ascii_piece bytes before text behind n cut ascii bad low high =
    let k = n - reach before in
    let at : reach before + k ≡ n = omega arith in
    let here : get_or bytes n 0 ≡ get_or text k 0 = ap (λ i. get_or bytes i 0) (sym at) ∙ byte_of bytes before text behind k cut (omega arith) in
    let small = ascii k in
    bad_not_ascii bytes n bad (omega arith)

-- control characters

some_is : (m n : ℕ) → Some m ≡ Some n → m ≡ n
some_is m n e = cc

pub record FirstControl (text : List ℕ) (i : ℕ) : Type 0 where
  pub there : HasControl text i
  pub within : i < length text
  pub least : (j : ℕ) → HasControl text j → i ≤ j

control_later : (b : ℕ) (more : List ℕ) (j : ℕ) → HasControl (b ∷ more) (suc j) → HasControl more j
control_later b more j h = record { byte = h.byte; more = h.more; split = h.split; control = h.control }

cons_parts : (b c : ℕ) (xs ys : List ℕ) → b ∷ xs ≡ c ∷ ys → (b ≡ c) × (xs ≡ ys)
cons_parts b c xs ys e = (cc, cc)

control_first : (b : ℕ) (more : List ℕ) → HasControl (b ∷ more) 0 → begins_control b more ≡ true
control_first b more h =
    let parts = cons_parts b h.byte more h.more h.split in
    rw (parts.0, parts.1) h.control

none_go : (b : ℕ) (more : List ℕ) (t : Bool) (o : Option ℕ) → begins_control b more ≡ t → cond t (Some 0) (option_map suc o) ≡ None → (o ≡ None → (j : ℕ) → HasControl more j → ⊥) → (i : ℕ) → HasControl (b ∷ more) i → ⊥
none_go b more true o f e later i h = absurd (cc)
none_go b more false (Some m) f e later i h = absurd (cc)
none_go b more false None f e later zero h = false≢true (sym f ∙ control_first b more h)
none_go b more false None f e later (suc i) h = later refl i (control_later b more i h)

pub control_none : (text : List ℕ) → control_at text ≡ None → (i : ℕ) → HasControl text i → ⊥
unfolding control_at
control_none [] e zero h = let s = h.split in absurd (cc)
control_none [] e (suc i) h = let s = h.split in absurd (cc)
control_none (b ∷ more) e i h = none_go b more (begins_control b more) (control_at more) refl e (λ f j k. control_none more f j k) i h

some_go : (b : ℕ) (more : List ℕ) (t : Bool) (o : Option ℕ) (i : ℕ) → begins_control b more ≡ t → cond t (Some 0) (option_map suc o) ≡ Some i → ((m : ℕ) → o ≡ Some m → FirstControl more m) → FirstControl (b ∷ more) i
some_go b more true o i f e later =
    let z : 0 ≡ i = some_is 0 i e in
    record { there = rw (← z) (record { byte = b; more = more; split = refl; control = f }); within = omega arith; least = λ j h. omega arith }
some_go b more false None i f e later = absurd (cc)
some_go b more false (Some m) i f e later =
    let z : suc m ≡ i = some_is (suc m) i e in
    let x = later m refl in
    let t = x.there in
    let w = x.within in
    record {
      there = rw (← z) (record { byte = t.byte; more = t.more; split = t.split; control = t.control });
      within = omega arith;
      least = λ j h. least_go m i z f x j h;
    }
  where
    least_go : (m i : ℕ) → suc m ≡ i → begins_control b more ≡ false → FirstControl more m → (j : ℕ) → HasControl (b ∷ more) j → i ≤ j
    least_go m i z f x zero h = absurd (false≢true (sym f ∙ control_first b more h))
    least_go m i z f x (suc j) h = let y = x.least j (control_later b more j h) in omega arith

pub control_some : (text : List ℕ) (i : ℕ) → control_at text ≡ Some i → FirstControl text i
unfolding control_at
control_some [] i e = absurd (cc)
control_some (b ∷ more) i e = some_go b more (begins_control b more) (control_at more) i refl e (λ m f. control_some more m f)

pub control_within : (text : List ℕ) (i : ℕ) → HasControl text i → i < length text
control_within [] zero h = let s = h.split in absurd (cc)
control_within [] (suc i) h = let s = h.split in absurd (cc)
control_within (b ∷ more) zero h = omega arith
control_within (b ∷ more) (suc i) h = let x = control_within more i (control_later b more i h) in omega arith

quote_go : (b : ℕ) (more : List ℕ) → (b ≡ 34) ⊎ (b ≡ 39) → begins_control b more ≡ false
quote_go b [] (inl e) = rw e refl
quote_go b [] (inr e) = rw e refl
quote_go b (c ∷ more) (inl e) = rw e refl
quote_go b (c ∷ more) (inr e) = rw e refl

-- a string doesn't begin with a control character
pub string_control : (text : List ℕ) (i : ℕ) → IsShape StringShape text → HasControl text i → 0 < i
string_control text zero (quote, inside, chars, e, q, good) h =
    absurd (false≢true (sym (quote_go quote (inside ++ quote ∷ []) (quote_is quote q)) ∙ control_first quote (inside ++ quote ∷ []) (subst (λ t. HasControl t 0) e h)))
string_control text (suc i) shape h = omega arith
