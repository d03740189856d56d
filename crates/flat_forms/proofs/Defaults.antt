-- Marks without a default.
use Rattle.std.proofs.Common.{◌≡◌, refl, ℕ, List, [], ◌∷◌, Bool, true, false, cond, ap, sym}
use Prim.Native.Nat.{zero, suc}
use Rattle.std.specs.Prelude.{◌||◌, slice_get, drop, ◌+◌}
use Rattle.std.specs.List.{list_any}
use Rattle.osc_base.specs.declared.mark.Mark.{Mark}
use Rattle.keep_rules.specs.Overriding.{is_default, with_target, overriders_from, overriders}

abbrev pub marks_default : Mark → Bool
marks_default m = is_default m.strength

none_first : (a b : Bool) → a || b ≡ false → a ≡ false
none_first true b h = cc
none_first false b h = refl

none_later : (a b : Bool) → a || b ≡ false → b ≡ false
none_later true b h = cc
none_later false b h = h

nothing_over : (ms : List Mark) (i n : ℕ) (later : List Mark) → list_any marks_default ms ≡ false → [] ≡ overriders_from (slice_get ms i) n later
nothing_over [] i n later h = refl
nothing_over (m ∷ ms) zero n later h = ap (λ b. cond b (with_target m.target n later) []) (sym (none_first (is_default m.strength) (list_any marks_default ms) h))
nothing_over (m ∷ ms) (suc i) n later h = nothing_over ms i n later (none_later (is_default m.strength) (list_any marks_default ms) h)

-- without a default, nothing overrides
pub none_override : (ms : List Mark) → list_any marks_default ms ≡ false → (i : ℕ) → overriders [] i ≡ overriders ms i
none_override ms h i = nothing_over ms i (i + 1) (drop (i + 1) ms) h
