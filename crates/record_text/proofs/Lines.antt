-- A line of which no more than 1,732 bytes are held.
use Rattle.std.proofs.Common.{◌≡◌, ◌≢◌, refl, sym, ap, ◌∙◌, subst, ℕ, suc, zero, ◌+◌, ◌*◌, ◌<◌, ◌≤◌, Bool, true, false, List, [], ◌∷◌, ◌++◌, length, take, Option, Some, None, ℤ, pos, negsuc, arith}
use Rattle.std.specs.Prelude.{codes, decimal, nat_le, ◌==◌, unsigned_abs}
use Rattle.std.specs.Fmt.{signed_decimal}
use Rattle.std.proofs.lemmas.Bool.{leb-true}
use Rattle.std.proofs.lemmas.List.{length-append, length-take, length-take-le, take-append-le}
use Rattle.std.proofs.lemmas.Fmt.{length-decimal-le}
use Rattle.box_eval.specs.declared.cut.Side.TheVariants as Side
use Rattle.record_text.specs.TextLines.{TextLine}
use Rattle.record_text.specs.TextLines.{Head, Slots, Rules, Room, Cut, Close, Sum, Open, End}
use Rattle.record_text.specs.declared.line.Form.TheVariants.{One, Two}
use Rattle.record_text.specs.declared.page.Piece.{Piece}
use Rattle.record_text.specs.declared.page.Piece.TheVariants as P
use Rattle.record_text.specs.Pieces.{piece_bytes, IsShortPiece}
use Rattle.linear_sums.specs.declared.pick.Pick.{Pick}
use Rattle.record_text.specs.FoundLines.{FoundLine}
use Rattle.record_text.specs.Scan.{line_at}
use Rattle.record_text.specs.Lines.{IsFewDigits, HaveFewDigits, IsShort, slot_and_value, spelled_pick, spelled_picks, spelled, is_no_feed, NoFeed}
use Rattle.record_text.specs.Source.{Unread, Gives}
use Rattle.record_text.specs.Reader.{found_line, found_at, IsFound, read_of, AtEndIfNothing, Finds}
use Rattle.record_text.proofs.SumSpelling.{AreFewTimes, few_stand}
use Rattle.record_text.proofs.LineSpelling.{IsLine, line_takes, line_again}
use Rattle.record_text.proofs.Reading.{gives_then}

-- ---- the length of a line

pub decimal_short : (n : ℕ) → IsFewDigits n → length (decimal n) ≤ 18
decimal_short n few = length-decimal-le 18 n (omega arith) few (omega (arith, few))

pub signed_short : (v : ℤ) → IsFewDigits (unsigned_abs v) → length (signed_decimal v) ≤ 19
signed_short (pos n) few = omega (arith, decimal_short n few)
signed_short (negsuc n) few = omega (arith, decimal_short (suc n) few)

pub cut_short : (slot : ℕ) (v : ℤ) → IsFewDigits slot → IsFewDigits (unsigned_abs v) → length (slot_and_value slot v) ≤ 38
cut_short slot v few small = omega (arith, length-append (decimal slot) (32 ∷ signed_decimal v), decimal_short slot few, signed_short v small)

times_short : (n : ℕ) → n ≤ 1000000 → length (decimal n) ≤ 7
times_short n few = length-decimal-le 7 n (omega arith) (omega (arith, few)) (omega (arith, few))

pub picks_short : (ps : List Pick) → HaveFewDigits ps → AreFewTimes ps → length (spelled_picks ps) ≤ 27 * length ps
picks_short [] few times = omega arith
picks_short (p ∷ ps) few times = omega (
  arith,
  picks_short ps few.1 times.1,
  length-append (spelled_pick p) (spelled_picks ps),
  length-append (decimal p.times) (32 ∷ decimal p.rule),
  times_short p.times times.0,
  decimal_short p.rule few.0,
)

pub spelled_short : (line : TextLine) → IsShort line → length (spelled line) ≤ 1731
spelled_short (Head true One) few = omega arith
spelled_short (Head true Two) few = omega arith
spelled_short (Head false One) few = omega arith
spelled_short (Head false Two) few = omega arith
spelled_short (Slots n) few = omega (arith, decimal_short n few)
spelled_short (Rules n) few = omega (arith, decimal_short n few)
spelled_short (Room n) few = omega (arith, decimal_short n few)
spelled_short (Cut Side.Low slot v) few = omega (arith, cut_short slot v few.0 few.1)
spelled_short (Cut Side.High slot v) few = omega (arith, cut_short slot v few.0 few.1)
spelled_short (Close rule) few = omega (arith, decimal_short rule few)
spelled_short (Sum picks) few = let t = few_stand picks few.0 in omega (arith, picks_short picks few.1 t.1, t.0)
spelled_short Open few = omega arith
spelled_short End few = omega arith

-- ---- what is held of a line

-- a list of at most n is its own first n
pub take_short : {A : Type 0} (n : ℕ) (xs : List A) → length xs ≤ n → take n xs ≡ xs
take_short zero [] few = refl
take_short zero (x ∷ xs) few = absurd (let never : ⊥ = omega (arith, few) in never)
take_short (suc n) [] few = refl
take_short (suc n) (x ∷ xs) few = ap (λ ys. x ∷ ys) (take_short n xs (omega (arith, few)))

-- a list that has at most n of its first n + 1 has no more
pub take_all : {A : Type 0} (n : ℕ) (xs : List A) → length (take (suc n) xs) ≤ n → take (suc n) xs ≡ xs
take_all n xs few = take_short (suc n) xs (omega (arith, few, length-take (suc n) xs))

pub held_room : (held : List ℕ) (b : ℕ) (full : Bool) → full ≡ (length held == 1732) → length held ≤ 1732 → full ≡ false → held ++ b ∷ [] ≡ take 1732 (held ++ b ∷ [])
held_room held b full is fits no_ =
    let less : length held < 1732 = grind (arith) in
    sym (take_short 1732 (held ++ b ∷ []) (omega (arith, less, length-append held (b ∷ []))))

pub held_full : (held : List ℕ) (b : ℕ) (full : Bool) → full ≡ (length held == 1732) → full ≡ true → held ≡ take 1732 (held ++ b ∷ [])
held_full held b full is yes_ =
    let all : length held ≡ 1732 = grind (arith) in
    sym (take-append-le 1732 held (b ∷ []) (omega (arith, all)) ∙ take_short 1732 held (omega (arith, all)))

-- one byte more
pub hold_more : (held text : List ℕ) (b : ℕ) → held ≡ take 1732 text → take 1732 (held ++ b ∷ []) ≡ take 1732 (text ++ b ∷ [])
hold_more held text b is = by_length (nat_le (length text) 1732) refl
  where
    by_length : (few : Bool) → nat_le (length text) 1732 ≡ few → take 1732 (held ++ b ∷ []) ≡ take 1732 (text ++ b ∷ [])
    by_length true e = ap (λ (bs : List ℕ). take 1732 (bs ++ b ∷ [])) (is ∙ take_short 1732 text (leb-true (length text) 1732 e))
    by_length false e =
        let long : 1732 ≤ length text = grind (arith) in
        let all : length held ≡ 1732 = ap (λ (bs : List ℕ). length bs) is ∙ length-take-le 1732 text long in
        take-append-le 1732 held (b ∷ []) (omega (arith, all)) ∙ (take_short 1732 held (omega (arith, all)) ∙ (is ∙ sym (take-append-le 1732 text (b ∷ []) long)))

-- the bytes of a line that were read, of which the first 1732 are held
pub record IsHeld (held : List ℕ) (x y : Unread) (l m : Option (List ℕ)) : Type 0 where
  pub text : List ℕ
  pub no_feed : NoFeed text
  pub gives : Gives text x y l m
  pub held_is : held ≡ take 1732 text

no_feed_more : (text : List ℕ) (b : ℕ) → NoFeed text → b ≢ 10 → NoFeed (text ++ b ∷ [])
no_feed_more [] b all other = grind (arith)
no_feed_more (c ∷ text) b all other =
    let first : is_no_feed c ≡ true = grind (arith) in
    let more : NoFeed text = grind (arith) in
    rw (first, no_feed_more text b more other) refl

pub held_more : (held : List ℕ) (b : ℕ) (x y z : Unread) (l m n : Option (List ℕ)) → IsHeld held x y l m → b ≢ 10 → Gives (b ∷ []) y z m n
    → IsHeld (take 1732 (held ++ b ∷ [])) x z l n
held_more held b x y z l m n h other g = record {
  text = h.text ++ b ∷ [];
  no_feed = no_feed_more h.text b h.no_feed other;
  gives = gives_then h.text (b ∷ []) x y z l m n h.gives g;
  held_is = hold_more held h.text b h.held_is;
}

-- ---- what is found

line_found : (text : List ℕ) → NoFeed text → (o : Option TextLine) → line_at (take 1732 text) ≡ o → IsFound text (found_line o)
line_found text all None e = (
  all,
  λ line few is.
      let short : take 1732 text ≡ text = take_short 1732 text (omega (arith, spelled_short line few, ap (λ (bs : List ℕ). length bs) is)) in
      let never : Some line ≡ None = sym (line_again line few) ∙ (sym (ap line_at (short ∙ is)) ∙ e) in
      cc,
)
line_found text all (Some line) e =
    let t : IsLine (take 1732 text) line = line_takes (take 1732 text) line e in
    let whole : take 1732 text ≡ text = take_all 1731 text (omega (arith, spelled_short line t.0, ap (λ (bs : List ℕ). length bs) t.1)) in
    (t.0, sym whole ∙ t.1)

read_found : (text : List ℕ) (o : Option TextLine) → read_of text (found_line o) ≡ text ++ 10 ∷ []
read_found text None = refl
read_found text (Some line) = refl

never_end : (o : Option TextLine) (z : Unread) (n : Option (List ℕ)) → AtEndIfNothing (found_line o) z n
never_end None z n = tt
never_end (Some line) z n = tt

pub finds_line : (held : List ℕ) (x y z : Unread) (l m n : Option (List ℕ)) → IsHeld held x y l m → Gives (10 ∷ []) y z m n → Finds (found_at held) x z l n
finds_line held x y z l m n h g = subst (λ (bs : List ℕ). Finds (found_at bs) x z l n) (sym h.held_is) record {
  text = h.text;
  is = line_found h.text h.no_feed (line_at (take 1732 h.text)) refl;
  gives = subst (λ (bs : List ℕ). Gives bs x z l n) (sym (read_found h.text (line_at (take 1732 h.text)))) (gives_then h.text (10 ∷ []) x y z l m n h.gives g);
  at_end = never_end (line_at (take 1732 h.text)) z n;
}

-- the same in the words of the loop
pub found_held : (held shown : List ℕ) (b : ℕ) (found : FoundLine) (x y z : Unread) (l m n : Option (List ℕ)) → IsHeld held x y l m → Gives (b ∷ []) y z m n → b ≡ 10
    → shown ≡ held → found ≡ found_at shown → Finds found x z l n
found_held held shown b found x y z l m n h g feed is found_is =
    let same : found_at held ≡ found = cc in
    subst (λ (f : FoundLine). Finds f x z l n) same (finds_line held x y z l m n h (subst (λ (c : ℕ). Gives (c ∷ []) y z m n) feed g))

-- a piece has at most 44 bytes
pub piece_short : (piece : Piece) → IsShortPiece piece → length (piece_bytes piece) ≤ 44
piece_short (P.Head true One) few = omega arith
piece_short (P.Head true Two) few = omega arith
piece_short (P.Head false One) few = omega arith
piece_short (P.Head false Two) few = omega arith
piece_short (P.Slots n) few = omega (arith, decimal_short n few, length-append (codes "slots " ++ decimal n) (10 ∷ []))
piece_short (P.Rules n) few = omega (arith, decimal_short n few, length-append (codes "rules " ++ decimal n) (10 ∷ []))
piece_short (P.Room n) few = omega (arith, decimal_short n few, length-append (codes "room " ++ decimal n) (10 ∷ []))
piece_short (P.Cut Side.Low slot v) few = omega (arith, cut_short slot v few.0 few.1, length-append (codes "low " ++ slot_and_value slot v) (10 ∷ []))
piece_short (P.Cut Side.High slot v) few = omega (arith, cut_short slot v few.0 few.1, length-append (codes "high " ++ slot_and_value slot v) (10 ∷ []))
piece_short (P.Close rule) few = omega (arith, decimal_short rule few, length-append (codes "close " ++ decimal rule) (10 ∷ []))
piece_short P.Open few = omega arith
piece_short P.End few = omega arith
piece_short P.Word few = omega arith
piece_short (P.Pick times rule) few = omega (arith, decimal_short times few.0, decimal_short rule few.1, length-append (decimal times) (32 ∷ decimal rule))
piece_short P.Feed few = omega arith

pub spelled_room : (page after : List ℕ) (piece : Piece) → IsShortPiece piece → after ≡ page ++ piece_bytes piece → length after ≤ length page + 44
spelled_room page after piece few is =
    omega (arith, ap (λ (bs : List ℕ). length bs) is, length-append page (piece_bytes piece), piece_short piece few)
