-- Tokens that were taken, and how many are left after them.
use Rattle.std.proofs.Common.{◌≡◌, ℕ, ◌+◌, ◌<◌, ◌≤◌, List, [], ◌∷◌, length, true, false, refl, sym, ◌∙◌, ap, subst, Ok, arith}
use Rattle.std.proofs.lemmas.Bool.{false≢true}
use Rattle.dsl_cursor.specs.Words.{Place, Token, TokenKind, code, Part, Forest, empty, subset, Ended, at, take, read}
use Rattle.dsl_tree.proofs.Sets.{has-subset}
use Rattle.dsl_cursor.proofs.{ReadParts.taken, ReadParts.take_first, ReadSteps.taken_shorter, ReadSteps.parsed_within, ReadSteps.parsed_shorter, ReadSteps.read_parsed}

-- a token of one of few codes is one of many
pub take_within : (few many : List ℕ) (ts : List Token) (t : Token) (rest : List Token) → subset few many ≡ true → take few ts ≡ Ok (t, rest) → take many ts ≡ Ok (t, rest)
take_within few many ts t rest within h =
    ap (take many) (taken few ts t rest h).split ∙ take_first many t rest (has-subset few many (code t.kind) within (taken few ts t rest h).fits)

end_alone : (place : Place) (rest : List Token) → Ended (at TokenKind.End place ∷ rest) → take (code TokenKind.End ∷ []) (at TokenKind.End place ∷ rest) ≡ Ok (at TokenKind.End place, [])
unfolding take
end_alone place [] ended = refl
end_alone place (u ∷ us) ended = absurd (false≢true (sym ended.0))

-- nothing stands after `End`
pub end_taken : (ts rest : List Token) (t : Token) → ts ≡ t ∷ rest → Ended ts → t.kind ≡ TokenKind.End → take (code TokenKind.End ∷ []) ts ≡ Ok (at TokenKind.End t.place, [])
end_taken ts rest t is ended end =
    let same : ts ≡ at TokenKind.End t.place ∷ rest = is ∙ ap (λ (k : TokenKind). at k t.place ∷ rest) end in
    ap (take (code TokenKind.End ∷ [])) same ∙ end_alone t.place rest (subst Ended same ended)

pub take_shorter : (codes : List ℕ) (ts : List Token) (t : Token) (rest : List Token) → take codes ts ≡ Ok (t, rest) → length rest < length ts
take_shorter codes ts t rest h = let e : length rest + 1 ≡ length ts = taken_shorter codes ts t rest h in omega (arith, e)

pub read_within : (p : Part) (ts : List Token) (f : Forest) (rest : List Token) → read p ts ≡ Ok (f, rest) → length rest ≤ length ts
read_within p ts f rest h = parsed_within p f ts rest (read_parsed p ts f rest h)

pub read_shorter : (p : Part) (ts : List Token) (f : Forest) (rest : List Token) → empty p ≡ false → read p ts ≡ Ok (f, rest) → length rest < length ts
read_shorter p ts f rest full h = parsed_shorter p f ts rest full (read_parsed p ts f rest h)

pub ruleset lengths = (take_shorter, read_within, read_shorter)
