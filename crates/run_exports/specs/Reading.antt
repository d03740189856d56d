-- Texts and numbers read from a text: what each reader of an exported run uses, and no writer.
use Rattle.std.specs.Prelude.{ℕ, ◌+◌, ◌*◌, ◌^◌, ℤ, pos, neg_ℤ, Bool, true, false, cond, ◌&&◌, nat_eq, List, [], ◌∷◌, ◌++◌, codes, length, take, drop, replicate}
use Rattle.std.specs.Str.Parse.{digits_value}

-- what stands before the first byte of this kind
abbrev pub before : ℕ → List ℕ → List ℕ
before mark [] = []
before mark (b ∷ bs) = cond (nat_eq b mark) [] (b ∷ before mark bs)

-- what stands behind it
abbrev pub behind : ℕ → List ℕ → List ℕ
behind mark [] = []
behind mark (b ∷ bs) = cond (nat_eq b mark) bs (behind mark bs)

abbrev pub put_in_front : ℕ → List (List ℕ) → List (List ℕ)
put_in_front b [] = []
put_in_front b (piece ∷ later) = (b ∷ piece) ∷ later

-- the pieces that such a byte ends
abbrev pub ended_by : ℕ → List ℕ → List (List ℕ)
ended_by mark [] = []
ended_by mark (b ∷ bs) = cond (nat_eq b mark) ([] ∷ ended_by mark bs) (put_in_front b (ended_by mark bs))

-- ---- numbers

-- digits with or without a point, in units of which 10 ^ places make one: with 3 places `1.5` is 1500
abbrev pub scaled : ℕ → List ℕ → ℕ
scaled places text = digits_value 10 (before 46 text) * 10 ^ places + digits_value 10 (take places (behind 46 text ++ replicate places 48))

-- the same, where `-` may stand first
abbrev pub signed_scaled : ℕ → List ℕ → ℤ
signed_scaled places [] = pos (scaled places [])
signed_scaled places (b ∷ bs) = cond (nat_eq b 45) (neg_ℤ (pos (scaled places bs))) (pos (scaled places (b ∷ bs)))

-- ---- XML

-- a text begins with another
abbrev pub begins : List ℕ → List ℕ → Bool
begins [] text = true
begins (m ∷ ms) [] = false
begins (m ∷ ms) (b ∷ bs) = nat_eq b m && begins ms bs

-- without the spaces that it begins with
abbrev pub unindented : List ℕ → List ℕ
unindented [] = []
unindented (b ∷ bs) = cond (nat_eq b 32) (unindented bs) (b ∷ bs)

-- what stands behind the first place at which another text stands
abbrev pub behind_text : List ℕ → List ℕ → List ℕ
behind_text mark [] = []
behind_text mark (b ∷ bs) = cond (begins mark (b ∷ bs)) (drop (length mark) (b ∷ bs)) (behind_text mark bs)

-- the value of an attribute: what stands behind ` NAME="`, up to the next quote
abbrev pub attribute : List ℕ → List ℕ → List ℕ
attribute name text = before 34 (behind_text (32 ∷ (name ++ codes "=\"")) text)
