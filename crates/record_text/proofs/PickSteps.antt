-- Picks as they are read one by one.
use Rattle.std.proofs.Common.{◌≡◌, refl, sym, ap, ap₂, ◌∙◌, subst, ℕ, zero, suc, ◌+◌, ◌-◌, ◌<◌, ◌≤◌, Bool, true, false, ◌&&◌, List, [], ◌∷◌, ◌++◌, length, map, take, drop, get_or, Option, Some, None, arith, append_assoc, length-append, length-drop}
use Rattle.std.specs.Prelude.{nat_le, ◌==◌}
use Rattle.std.specs.List.{prefix_len}
use Rattle.std.specs.Option.{option_map}
use Rattle.std.proofs.lemmas.Bool.{false≢true}
use Rattle.std.proofs.lemmas.List.{append-nil}
use Rattle.std.proofs.Math.Seq.{take-length}
use Rattle.linear_sums.specs.declared.pick.Pick.{Pick}
use Rattle.record_trees.specs.Record.{are_in_order, may_stand}
use Rattle.record_text.specs.declared.picks.TextPick.{TextPick}
use Rattle.record_text.specs.Picked.{seen_pick}
use Rattle.record_text.specs.Scan.{is_no_space, number_after, after_number, pick_with, pick_at, after_pick, picks_then, picks_at}

-- ---- lists that are gone through from the front

pub first_and_later : {A : Type 0} (xs : List A) (x : A) → 1 ≤ length xs → x ≡ get_or xs 0 x → xs ≡ x ∷ take (length xs - 1) (drop 1 xs)
first_and_later [] x h e = absurd (let never : ⊥ = omega (arith, h) in never)
first_and_later (y ∷ ys) x h e =
    let k : suc (length ys) - 1 ≡ length ys = omega arith in
    ap₂ (λ a b. a ∷ b) (sym e) (sym (ap (λ n. take n ys) k ∙ take-length ys))

pub none_if : {A : Type 0} (xs : List A) → length xs < 1 → xs ≡ []
none_if [] h = refl
none_if (x ∷ xs) h = absurd (let never : ⊥ = omega (arith, h) in never)

pub fewer_left : {A : Type 0} (xs : List A) → 1 ≤ length xs → length (take (length xs - 1) (drop 1 xs)) < length xs
fewer_left [] h = absurd (let never : ⊥ = omega (arith, h) in never)
fewer_left (y ∷ ys) h =
    let k : suc (length ys) - 1 ≡ length ys = omega arith in
    let same : length (take (suc (length ys) - 1) ys) ≡ length ys = ap (λ (n : ℕ). length (take n ys)) k ∙ ap (λ (zs : List _). length zs) (take-length ys) in
    omega (arith, same)

-- ---- order

order_step : (from : ℕ) (x : TextPick) (ps : List Pick) (b : Bool) → b ≡ nat_le from x.rule && nat_le 1 x.times && nat_le x.times 1000000 → b ≡ true
    → are_in_order from (seen_pick x ∷ ps) ≡ are_in_order (x.rule + 1) ps
order_step from x ps b is yes_ = in_order (nat_le from x.rule) (nat_le 1 x.times) (nat_le x.times 1000000) (are_in_order (x.rule + 1) ps) (sym is ∙ yes_)
  where
    in_order : (a b c d : Bool) → a && b && c ≡ true → a && b && c && d ≡ d
    in_order true true true d e = refl
    in_order true true false d e = absurd (false≢true e)
    in_order true false c d e = absurd (false≢true e)
    in_order false b c d e = absurd (false≢true e)

order_stop : (from : ℕ) (x : TextPick) (ps : List Pick) (b : Bool) → b ≡ nat_le from x.rule && nat_le 1 x.times && nat_le x.times 1000000 → b ≡ false
    → are_in_order from (seen_pick x ∷ ps) ≡ false
order_stop from x ps b is no_ = out_of_order (nat_le from x.rule) (nat_le 1 x.times) (nat_le x.times 1000000) (are_in_order (x.rule + 1) ps) (sym is ∙ no_)
  where
    out_of_order : (a b c d : Bool) → a && b && c ≡ false → a && b && c && d ≡ false
    out_of_order true true true d e = absurd (false≢true (sym e))
    out_of_order true true false d e = refl
    out_of_order true false c d e = refl
    out_of_order false b c d e = refl

module _ (from : ℕ) (xs : List TextPick) (x : TextPick) (some_ : 1 ≤ length xs) (is : x ≡ get_or xs 0 x) (test : Bool)
    (asks : test ≡ nat_le from x.rule && nat_le 1 x.times && nat_le x.times 1000000) where
  parts : map seen_pick xs ≡ seen_pick x ∷ map seen_pick (take (length xs - 1) (drop 1 xs))
  parts = ap (map seen_pick) (first_and_later xs x some_ is)

  pub order_next : test ≡ true → (whole : Bool) → whole ≡ are_in_order from (map seen_pick xs) → (next : ℕ) → next ≡ x.rule + 1
      → whole ≡ are_in_order next (map seen_pick (take (length xs - 1) (drop 1 xs)))
  order_next yes_ whole w next n = w ∙ (ap (are_in_order from) parts ∙ (order_step from x _ test asks yes_ ∙ ap (λ (k : ℕ). are_in_order k (map seen_pick (take (length xs - 1) (drop 1 xs)))) (sym n)))

  pub order_fails : test ≡ false → (whole : Bool) → whole ≡ are_in_order from (map seen_pick xs) → false ≡ whole
  order_fails no_ whole w = sym (w ∙ (ap (are_in_order from) parts ∙ order_stop from x _ test asks no_))

pub order_ends : (from : ℕ) (xs : List TextPick) (whole : Bool) → length xs < 1 → whole ≡ are_in_order from (map seen_pick xs) → true ≡ whole
order_ends from xs whole none w = sym (w ∙ ap (λ (ys : List TextPick). are_in_order from (map seen_pick ys)) (none_if xs none))

-- ---- reading

-- these picks were read, and those of the rest come after them, if there is room
pub record AreRead (text : List ℕ) (picks : List Pick) (rest : List ℕ) : Type 0 where
  pub few : length picks ≤ 64
  pub whole : picks_at 64 text ≡ option_map (λ (ps : List Pick). picks ++ ps) (picks_at (64 - length picks) rest)

pub none_yet : (text : List ℕ) → AreRead text [] text
none_yet text = record { few = omega arith; whole = sym (same (picks_at 64 text)) }
  where
    same : (o : Option (List Pick)) → option_map (λ (ps : List Pick). [] ++ ps) o ≡ o
    same None = refl
    same (Some ps) = refl

-- no room is left
full_at : (rest : List ℕ) → 1 ≤ length rest → picks_at 0 rest ≡ None
full_at [] h = absurd (let never : ⊥ = omega (arith, h) in never)
full_at (b ∷ rest) h = refl

pub read_full : (text : List ℕ) (picks : List Pick) (rest : List ℕ) → AreRead text picks rest → 1 ≤ length rest → length picks ≡ 64 → None ≡ picks_at 64 text
read_full text picks rest r some_ all =
    let none : 64 - length picks ≡ 0 = omega (arith, all) in
    sym (r.whole ∙ ap (option_map (λ (ps : List Pick). picks ++ ps)) (ap (λ (k : ℕ). picks_at k rest) none ∙ full_at rest some_))

step_at : (k : ℕ) (rest : List ℕ) → 1 ≤ length rest → picks_at (suc k) rest ≡ picks_then (pick_at rest) (picks_at k (after_pick rest))
step_at k [] h = absurd (let never : ⊥ = omega (arith, h) in never)
step_at k (b ∷ rest) h = refl

room_left : (n : ℕ) → n < 64 → 64 - n ≡ suc (64 - (n + 1))
room_left n less = omega (arith, less)

module _ (text : List ℕ) (picks : List Pick) (rest : List ℕ) (r : AreRead text picks rest) (some_ : 1 ≤ length rest) (room : length picks < 64) where
  whole_is : picks_at 64 text ≡ option_map (λ (ps : List Pick). picks ++ ps) (picks_then (pick_at rest) (picks_at (64 - (length picks + 1)) (after_pick rest)))
  whole_is = r.whole ∙ ap (option_map (λ (ps : List Pick). picks ++ ps)) (ap (λ (k : ℕ). picks_at k rest) (room_left (length picks) room) ∙ step_at (64 - (length picks + 1)) rest some_)

  pub read_stops : pick_at rest ≡ None → None ≡ picks_at 64 text
  read_stops none = sym (whole_is ∙ ap (λ (o : Option Pick). option_map (λ (ps : List Pick). picks ++ ps) (picks_then o (picks_at (64 - (length picks + 1)) (after_pick rest)))) none)

  pub read_next : (p : Pick) → pick_at rest ≡ Some p → AreRead text (picks ++ p ∷ []) (after_pick rest)
  read_next p is = record {
    few = omega (arith, room, length-append picks (p ∷ []));
    whole = whole_is
        ∙ (ap (λ (o : Option Pick). option_map (λ (ps : List Pick). picks ++ ps) (picks_then o (picks_at (64 - (length picks + 1)) (after_pick rest)))) is
        ∙ (joined (picks_at (64 - (length picks + 1)) (after_pick rest))
        ∙ ap (λ (k : ℕ). option_map (λ (ps : List Pick). (picks ++ p ∷ []) ++ ps) (picks_at (64 - k) (after_pick rest))) (sym (length-append picks (p ∷ [])))));
  }
    where
      joined : (o : Option (List Pick)) → option_map (λ (ps : List Pick). picks ++ ps) (picks_then (Some p) o) ≡ option_map (λ (ps : List Pick). (picks ++ p ∷ []) ++ ps) o
      joined None = refl
      joined (Some ps) = ap Some (sym (append_assoc picks (p ∷ []) ps))

pub read_all : (text : List ℕ) (picks : List Pick) (rest : List ℕ) → AreRead text picks rest → length rest < 1 → Some picks ≡ picks_at 64 text
read_all text picks rest r none = sym (r.whole
    ∙ (ap (λ (bs : List ℕ). option_map (λ (ps : List Pick). picks ++ ps) (picks_at (64 - length picks) bs)) (none_if rest none) ∙ ap Some (append-nil picks)))

-- each number takes bytes
shorter_after : (text : List ℕ) → length (after_number text) ≤ length text
shorter_after [] = omega arith
shorter_after (b ∷ text) = omega (arith, length-drop (prefix_len is_no_space text) text)

less_after : (text : List ℕ) → 1 ≤ length text → length (after_number text) < length text
less_after [] h = absurd (let never : ⊥ = omega (arith, h) in never)
less_after (b ∷ text) h = omega (arith, length-drop (prefix_len is_no_space text) text)

pub less_left : (text : List ℕ) → 1 ≤ length text → length (after_number (after_number text)) < length text
less_left text h = omega (arith, less_after text h, shorter_after (after_number text))

-- ---- the words of the loop

word_step : (c : ℕ) (text : List ℕ) (b : Bool) → is_no_space c ≡ b → prefix_len is_no_space text ≤ length text → prefix_len is_no_space (c ∷ text) ≤ length (c ∷ text)
word_step c text true e h = rw e (omega (arith, h))
word_step c text false e h = rw e (omega arith)

pub word_within : (text : List ℕ) → prefix_len is_no_space text ≤ length text
word_within [] = omega arith
word_within (c ∷ text) = word_step c text (is_no_space c) refl (word_within text)

pub some_if : (xs : List ℕ) (empty : Bool) → empty ≡ (length xs == 0) → empty ≡ false → 1 ≤ length xs
some_if [] empty e no_ = absurd (false≢true (sym no_ ∙ e))
some_if (x ∷ xs) empty e no_ = omega arith

pub room_if : (n : ℕ) (full : Bool) → full ≡ (n == 64) → n ≤ 64 → full ≡ false → n < 64
room_if n full is few no_ = grind (arith)

module _ (o : Option TextPick) (t r : Option ℕ) (rest mid : List ℕ) (found : option_map seen_pick o ≡ pick_with t r) (first : t ≡ number_after rest) (middle : mid ≡ after_number rest)
    (second : r ≡ number_after mid) where
  pick_found : option_map seen_pick o ≡ pick_at rest
  pick_found = found ∙ ap₂ pick_with first (second ∙ ap number_after middle)

  pub pick_none : o ≡ None → pick_at rest ≡ None
  pick_none is = sym pick_found ∙ ap (option_map seen_pick) is

  pub pick_some : (p : TextPick) → o ≡ Some p → pick_at rest ≡ Some (seen_pick p)
  pick_some p is = sym pick_found ∙ ap (option_map seen_pick) is

pub left_less : (rest mid next : List ℕ) → next ≡ after_number mid → mid ≡ after_number rest → 1 ≤ length rest → length next < length rest
left_less rest mid next n m some_ = subst (λ (bs : List ℕ). length bs < length rest) (sym (n ∙ ap after_number m)) (less_left rest some_)

pub read_on : (text : List ℕ) (picks : List Pick) (rest mid next : List ℕ) (p : TextPick) (pushed : List Pick) → AreRead text picks rest → 1 ≤ length rest → length picks < 64
    → pick_at rest ≡ Some (seen_pick p) → pushed ≡ picks ++ seen_pick p ∷ [] → next ≡ after_number mid → mid ≡ after_number rest → AreRead text pushed next
read_on text picks rest mid next p pushed r some_ room is push n m =
    subst (λ (ps : List Pick). AreRead text ps next) (sym push) (subst (AreRead text (picks ++ seen_pick p ∷ [])) (sym (n ∙ ap after_number m)) (read_next text picks rest r some_ room (seen_pick p) is))
