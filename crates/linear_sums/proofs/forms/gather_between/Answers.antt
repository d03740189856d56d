use Rattle.std.proofs.Common.{◌≡◌, refl, ◌∙◌, sym, ap, ◌+◌, [], ℤ, pos, ◌-ℤ◌, arith, to_z, of_z}
use Rattle.std.proofs.lemmas.Int.{ints}
use Rattle.std.specs.Int.{w128}
use Rattle.linear_sums.specs.Linear.{form_of_term, term_weight}
use Rattle.linear_sums.proofs.Weights.{some_weight, factor_within}
use Rattle.linear_sums.proofs.Gathering.{room_after, added_less, fits_less, wrapped_less, same_size}
use Rattle.linear_sums.proofs.forms.gather_between.Goals as goal

pub overflow_sub-times : goal.overflow_sub-times
overflow_sub-times c =
    let k : to_z w128 (of_z w128 c.args.times) ≡ c.args.times = omega (arith, ints) in
    let n = term_weight [] c.args.a.now + term_weight [] c.args.b.now in
    rw k (fits_less c.args.sums.now c.args.times n (omega (arith, some_weight [] c.args.a.now)) c.requires.room)

pub gather-requires-2-clause-room : goal.gather-requires-2-clause-room
gather-requires-2-clause-room c =
    let k : to_z w128 (of_z w128 c.args.times) ≡ c.args.times = omega (arith, ints) in
    let n = term_weight [] c.args.a.now + term_weight [] c.args.b.now in
    let f = fits_less c.args.sums.now c.args.times n (omega (arith, some_weight [] c.args.a.now)) c.requires.room in
    room_after c.args.sums.now c.gather.new.sums (to_z w128 (of_z w128 c.args.times)) (to_z w128 (of_z w128 (pos 0 -ℤ to_z w128 (of_z w128 c.args.times)))) (form_of_term c.args.a.now).factor
    (term_weight [] c.args.a.now) (term_weight [] c.args.b.now) n c.gather.ensures (factor_within [] c.args.a.now) (rw k c.requires.room) refl
    (same_size (to_z w128 (of_z w128 c.args.times)) (to_z w128 (of_z w128 (pos 0 -ℤ to_z w128 (of_z w128 c.args.times)))) (wrapped_less c.args.times _ k f ∙ ap (λ (m : ℤ). pos 0 -ℤ m) (sym k)))

pub returns : goal.returns
returns c =
    let k : to_z w128 (of_z w128 c.args.times) ≡ c.args.times = omega (arith, ints) in
    let n = term_weight [] c.args.a.now + term_weight [] c.args.b.now in
    let f = fits_less c.args.sums.now c.args.times n (omega (arith, some_weight [] c.args.a.now)) c.requires.room in
    added_less c.args.sums.now c.gather.new.sums c.gather-2.new.sums c.args.times _ _ (form_of_term c.args.a.now).factor (form_of_term c.args.b.now).factor
    c.gather.ensures c.gather-2.ensures k (wrapped_less c.args.times _ k f)
