-- Which enum has a member: what is found so far, and what is left.
use Rattle.std.proofs.Common.{◌≡◌, sym, refl, ℕ, List, [], ◌∷◌}
use Rattle.type_heads.specs.declared.kinds.EnumHit.{EnumHit}
use Rattle.type_heads.specs.Shown.{hit_of, hit_more}

-- what is meant, given what is found before these
abbrev pub hit_after : EnumHit → List ℕ → EnumHit
hit_after hit [] = hit
hit_after hit (t ∷ ts) = hit_after (hit_more hit t) ts

several : (ts : List ℕ) → hit_after EnumHit.Several ts ≡ EnumHit.Several
several [] = refl
several (t ∷ ts) = several ts

pub hit_from : (ts : List ℕ) → hit_of ts ≡ hit_after EnumHit.Absent ts
hit_from [] = refl
hit_from (t ∷ []) = refl
hit_from (t ∷ u ∷ us) = sym (several us)
