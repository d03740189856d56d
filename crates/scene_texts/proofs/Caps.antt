-- Laws of counts that are kept.
use Rattle.std.proofs.Common.{◌≡◌, ℕ, ◌+◌, ◌^◌, ◌<◌, ◌∙◌, arith}
use Rattle.scene_texts.specs.Capped.{capped}

pub capped_small : (n : ℕ) → n < 2 ^ 64 → capped n ≡ n
unfolding capped
capped_small n h = omega arith

pub capped_left : (a b : ℕ) → capped (capped a + b) ≡ capped (a + b)
unfolding capped
capped_left a b = omega arith

pub capped_right : (a b : ℕ) → capped (a + capped b) ≡ capped (a + b)
unfolding capped
capped_right a b = omega arith

pub capped_twice : (a b : ℕ) → capped (capped a + capped b) ≡ capped (a + b)
capped_twice a b = capped_left a (capped b) ∙ capped_right a b

pub capped_around : (a b c : ℕ) → capped (capped (a + b) + c) ≡ capped (a + b + c)
capped_around a b c = capped_left (a + b) c
