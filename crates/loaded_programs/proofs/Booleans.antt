-- What truth values give together, and what they have apart.
use Rattle.std.proofs.Common.{◌≡◌, refl, sym, Bool, true, false, ◌&&◌, ◌||◌, true≢false}

pub both : (a b : Bool) → a ≡ true → b ≡ true → a && b ≡ true
both true b h k = k
both false b h k = h

pub either : (a b : Bool) → a ≡ true → a || b ≡ true
either true b h = refl
either false b h = absurd (true≢false (sym h))

pub or_else : (a b : Bool) → b ≡ true → a || b ≡ true
or_else true b h = refl
or_else false b h = h

pub neither : (a b : Bool) → a ≡ false → b ≡ false → a || b ≡ false
neither true b h k = absurd (true≢false h)
neither false b h k = k

pub no_left : (a b : Bool) → a || b ≡ false → a ≡ false
no_left true b h = absurd (true≢false h)
no_left false b h = refl

pub no_right : (a b : Bool) → a || b ≡ false → b ≡ false
no_right true b h = absurd (true≢false h)
no_right false b h = h
