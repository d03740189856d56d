-- The relations that modifiers of single ticks have say what the modifiers say.
use Rattle.std.proofs.Common.{◌≡◌, refl, ap, ◌||◌, not, arith}
use Rattle.std.specs.Prelude.{ℕ, ℤ, pos, negsuc, ◌+ℤ◌, ◌-ℤ◌}
use Rattle.std.proofs.lemmas.Int.{ints}
use Rattle.osc_base.specs.declared.modifier.Kind.{Kind}
use Rattle.osc_base.specs.declared.modifier.Moment.{Moment}
use Rattle.osc_base.specs.Number.{Number}
use Rattle.osc_base.specs.Comparisons.{same_number}
use Rattle.osc_base.specs.Modifiers.{holds_of, is_moment}
use Rattle.osc_base.specs.Relations.{Samples, Sight, samples_at, holds, asks, relation_of}

no_more : (a b : ℤ) → same_number a (b +ℤ pos 0) ≡ same_number a b
no_more a b = let e : b +ℤ pos 0 ≡ b = omega (arith, ints) in ap (same_number a) e

one_less : (a b : ℤ) → same_number a (b +ℤ negsuc 0) ≡ same_number a (b -ℤ pos 1)
one_less a b = let e : b +ℤ negsuc 0 ≡ b -ℤ pos 1 = omega (arith, ints) in ap (same_number a) e

-- the relation holds of samples exactly if the modifier does, whatever the next sample is
pub today_holds : (length : ℕ) (kind : Kind) (low high : Number) (s : Samples) → holds length (relation_of kind) low high s ≡ holds_of kind low high s.own s.other
today_holds length Kind.Speed low high s = refl
today_holds length Kind.FasterThan low high s = refl
today_holds length Kind.SlowerThan low high s = refl
today_holds length Kind.SameSpeed low high s = no_more s.own.speed s.other.speed
today_holds length Kind.Lane low high s = refl
today_holds length Kind.SameLane low high s = no_more s.own.lane s.other.lane
today_holds length Kind.LeftOf low high s = refl
today_holds length Kind.RightOf low high s = one_less s.own.lane s.other.lane
today_holds length Kind.Position low high s = refl
today_holds length Kind.AheadOf low high s = refl
today_holds length Kind.Behind low high s = refl

-- what a modifier asks at a tick is what it asks today
pub today_asks :
    (kind : Kind) (moment : Moment) (low high : Number) (s : Sight) (tick : ℕ)
    → asks (relation_of kind) moment low high s tick ≡ not (is_moment moment s.start s.end (pos tick)) || holds_of kind low high (s.own tick) (s.other tick)
today_asks kind moment low high s tick = by kind
  where
    by : (k : Kind) → asks (relation_of k) moment low high s tick ≡ not (is_moment moment s.start s.end (pos tick)) || holds_of k low high (s.own tick) (s.other tick)
    by Kind.Speed = refl
    by Kind.FasterThan = refl
    by Kind.SlowerThan = refl
    by Kind.SameSpeed = ap (λ b. not (is_moment moment s.start s.end (pos tick)) || b) (today_holds s.length Kind.SameSpeed low high (samples_at s tick))
    by Kind.Lane = refl
    by Kind.SameLane = ap (λ b. not (is_moment moment s.start s.end (pos tick)) || b) (today_holds s.length Kind.SameLane low high (samples_at s tick))
    by Kind.LeftOf = refl
    by Kind.RightOf = ap (λ b. not (is_moment moment s.start s.end (pos tick)) || b) (today_holds s.length Kind.RightOf low high (samples_at s tick))
    by Kind.Position = refl
    by Kind.AheadOf = refl
    by Kind.Behind = refl
