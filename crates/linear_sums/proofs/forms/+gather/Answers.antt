use Rattle.std.proofs.Common.{◌≡◌, refl, ◌∙◌, sym, ap, subst, true, false, ◌<◌, [], ℤ, pos, ◌-ℤ◌, ◌*ℤ◌, arith, to_z, of_z}
use Rattle.std.proofs.lemmas.Int.{ints}
use Rattle.std.specs.Int.{w128}
use Rattle.box_eval.specs.declared.rule.Rule.TheViews.{size-Term}
use Rattle.linear_sums.specs.Linear.{TermForm, form_of_term, term_weight}
use Rattle.linear_sums.specs.Steps.{IsAdded}
use Rattle.linear_sums.proofs.Weights.{some_weight, factor_within}
use Rattle.linear_sums.proofs.TermParts.{of_sum, of_less, of_times, first_weight, second_weight}
use Rattle.linear_sums.proofs.Gathering.{room_after, added_sum, added_less, room_times, fits_times, fits_less, added_times, wrapped_product, wrapped_less, same_size, factor_first, factor_second}
use Rattle.linear_sums.proofs.forms.+gather.Goals as goal

pub gather-requires-in-Sum : goal.gather-requires-in-Sum
gather-requires-in-Sum t c =
    let x = c.get.result.now in
    let y = c.get-in-Sum.result.now in
    let d : size-Term c.args.term.now ≡ t = c.decreases in
    let j = of_sum c.args.term.now c.in-Sum.a c.in-Sum.b x y c.get.ensures c.get-in-Sum.ensures c.in-Sum.is in
    let b : size-Term y < t = omega (arith, d, j.second) in
    let k : to_z w128 (of_z w128 c.args.times) ≡ c.args.times = omega (arith, ints) in (
      b,
      (
        omega (arith, c.requires.slots, j.slots, c.gather.ensures.as_long),
        (
          omega (arith, c.requires.weight, j.weight []),
          room_after c.args.sums.now c.gather.new.sums (to_z w128 (of_z w128 c.args.times)) (to_z w128 (of_z w128 c.args.times)) (form_of_term x).factor
              (term_weight [] x) (term_weight [] y) (term_weight [] c.args.term.now) c.gather.ensures (factor_within [] x) (rw k c.requires.room) (j.weight []) refl,
        ),
      ),
    )

pub overflow_sub-times : goal.overflow_sub-times
overflow_sub-times t c =
    let k : to_z w128 (of_z w128 c.args.times) ≡ c.args.times = omega (arith, ints) in
    rw k (fits_less c.args.sums.now c.args.times (term_weight [] c.args.term.now) (some_weight [] c.args.term.now) c.requires.room)

pub gather-requires-in-Less-2 : goal.gather-requires-in-Less-2
gather-requires-in-Less-2 t c =
    let x = c.get-in-Less.result.now in
    let y = c.get-in-Less-2.result.now in
    let d : size-Term c.args.term.now ≡ t = c.decreases in
    let j = of_less c.args.term.now c.in-Less.a c.in-Less.b x y c.get-in-Less.ensures c.get-in-Less-2.ensures c.in-Less.is in
    let b : size-Term y < t = omega (arith, d, j.second) in
    let k : to_z w128 (of_z w128 c.args.times) ≡ c.args.times = omega (arith, ints) in
    let f = fits_less c.args.sums.now c.args.times (term_weight [] c.args.term.now) (some_weight [] c.args.term.now) c.requires.room in (
      b,
      (
        omega (arith, c.requires.slots, j.slots, c.gather-in-Less.ensures.as_long),
        (
          omega (arith, c.requires.weight, j.weight []),
          room_after c.args.sums.now c.gather-in-Less.new.sums (to_z w128 (of_z w128 c.args.times)) (to_z w128 (of_z w128 (pos 0 -ℤ to_z w128 (of_z w128 c.args.times)))) (form_of_term x).factor
              (term_weight [] x) (term_weight [] y) (term_weight [] c.args.term.now) c.gather-in-Less.ensures (factor_within [] x) (rw k c.requires.room) (j.weight [])
              (same_size (to_z w128 (of_z w128 c.args.times)) (to_z w128 (of_z w128 (pos 0 -ℤ to_z w128 (of_z w128 c.args.times)))) (wrapped_less c.args.times _ k f ∙ ap (λ (n : ℤ). pos 0 -ℤ n) (sym k))),
        ),
      ),
    )

pub constant-requires : goal.constant-requires
constant-requires t c =
    let x = c.get-then-is_fixed-2.result.now in
    let y = c.get-then-is_fixed.result.now in
    let j = of_times c.args.term.now c.in-Times.a c.in-Times.b x y c.get-then-is_fixed-2.ensures c.get-then-is_fixed.ensures c.in-Times.is in
    omega (arith, c.requires.weight, first_weight [] c.args.term.now x y j)

pub overflow_mul-times : goal.overflow_mul-times
overflow_mul-times t c =
    let x = c.get-then-is_fixed-2.result.now in
    let y = c.get-then-is_fixed.result.now in
    let j = of_times c.args.term.now c.in-Times.a c.in-Times.b x y c.get-then-is_fixed-2.ensures c.get-then-is_fixed.ensures c.in-Times.is in
    let k : to_z w128 (of_z w128 c.args.times) ≡ c.args.times = omega (arith, ints) in
    let r : to_z w128 (of_z w128 c.constant.result) ≡ c.constant.result = omega (arith, ints) in
    rw (k, r) (fits_times c.args.sums.now c.args.times c.constant.result (term_weight [] x) (term_weight [] y) (term_weight [] c.args.term.now)
    c.constant.ensures.small (j.weight []) (some_weight [] y) c.requires.room)

pub gather-requires-then-is_fixed : goal.gather-requires-then-is_fixed
gather-requires-then-is_fixed t c =
    let x = c.get-then-is_fixed-2.result.now in
    let y = c.get-then-is_fixed.result.now in
    let d : size-Term c.args.term.now ≡ t = c.decreases in
    let j = of_times c.args.term.now c.in-Times.a c.in-Times.b x y c.get-then-is_fixed-2.ensures c.get-then-is_fixed.ensures c.in-Times.is in
    let b : size-Term y < t = omega (arith, d, j.second) in
    let k : to_z w128 (of_z w128 c.args.times) ≡ c.args.times = omega (arith, ints) in
    let r : to_z w128 (of_z w128 c.constant.result) ≡ c.constant.result = omega (arith, ints) in
    let f = fits_times c.args.sums.now c.args.times c.constant.result (term_weight [] x) (term_weight [] y) (term_weight [] c.args.term.now)
    c.constant.ensures.small (j.weight []) (some_weight [] y) c.requires.room in (
      b,
      (
        omega (arith, c.requires.slots, j.slots),
        (
          omega (arith, c.requires.weight, second_weight [] c.args.term.now x y j),
          room_times c.args.sums.now c.args.times c.constant.result _ (term_weight [] x) (term_weight [] y) (term_weight [] c.args.term.now)
              (wrapped_product c.args.times _ c.constant.result _ k r f) c.constant.ensures.small (j.weight []) c.requires.room,
        ),
      ),
    )

pub constant-requires-else-is_fixed : goal.constant-requires-else-is_fixed
constant-requires-else-is_fixed t c =
    let x = c.get-else-is_fixed.result.now in
    let y = c.get-else-is_fixed-2.result.now in
    let j = of_times c.args.term.now c.in-Times.a c.in-Times.b x y c.get-else-is_fixed.ensures c.get-else-is_fixed-2.ensures c.in-Times.is in
    omega (arith, c.requires.weight, second_weight [] c.args.term.now x y j)

pub overflow_mul-times-else-is_fixed : goal.overflow_mul-times-else-is_fixed
overflow_mul-times-else-is_fixed t c =
    let x = c.get-else-is_fixed.result.now in
    let y = c.get-else-is_fixed-2.result.now in
    let j = of_times c.args.term.now c.in-Times.a c.in-Times.b x y c.get-else-is_fixed.ensures c.get-else-is_fixed-2.ensures c.in-Times.is in
    let k : to_z w128 (of_z w128 c.args.times) ≡ c.args.times = omega (arith, ints) in
    let r : to_z w128 (of_z w128 c.constant-else-is_fixed.result) ≡ c.constant-else-is_fixed.result = omega (arith, ints) in
    rw (k, r) (fits_times c.args.sums.now c.args.times c.constant-else-is_fixed.result (term_weight [] y) (term_weight [] x) (term_weight [] c.args.term.now)
    c.constant-else-is_fixed.ensures.small (omega (arith, j.weight [])) (some_weight [] x) c.requires.room)

pub gather-requires-else-is_fixed : goal.gather-requires-else-is_fixed
gather-requires-else-is_fixed t c =
    let x = c.get-else-is_fixed.result.now in
    let y = c.get-else-is_fixed-2.result.now in
    let d : size-Term c.args.term.now ≡ t = c.decreases in
    let j = of_times c.args.term.now c.in-Times.a c.in-Times.b x y c.get-else-is_fixed.ensures c.get-else-is_fixed-2.ensures c.in-Times.is in
    let b : size-Term x < t = omega (arith, d, j.first) in
    let k : to_z w128 (of_z w128 c.args.times) ≡ c.args.times = omega (arith, ints) in
    let r : to_z w128 (of_z w128 c.constant-else-is_fixed.result) ≡ c.constant-else-is_fixed.result = omega (arith, ints) in
    let f = fits_times c.args.sums.now c.args.times c.constant-else-is_fixed.result (term_weight [] y) (term_weight [] x) (term_weight [] c.args.term.now)
    c.constant-else-is_fixed.ensures.small (omega (arith, j.weight [])) (some_weight [] x) c.requires.room in (
      b,
      (
        omega (arith, c.requires.slots, j.slots),
        (
          omega (arith, c.requires.weight, first_weight [] c.args.term.now x y j),
          room_times c.args.sums.now c.args.times c.constant-else-is_fixed.result _ (term_weight [] y) (term_weight [] x) (term_weight [] c.args.term.now)
              (wrapped_product c.args.times _ c.constant-else-is_fixed.result _ k r f) c.constant-else-is_fixed.ensures.small (omega (arith, j.weight [])) c.requires.room,
        ),
      ),
    )

pub returns-in-Sum : goal.returns-in-Sum
returns-in-Sum t c =
    let x = c.get.result.now in
    let y = c.get-in-Sum.result.now in
    let j = of_sum c.args.term.now c.in-Sum.a c.in-Sum.b x y c.get.ensures c.get-in-Sum.ensures c.in-Sum.is in
    let k : to_z w128 (of_z w128 c.args.times) ≡ c.args.times = omega (arith, ints) in
    subst (λ (f : TermForm). IsAdded c.args.sums.now c.gather-in-Sum.new.sums c.args.times f.factor) (sym j.form)
    (added_sum c.args.sums.now c.gather.new.sums c.gather-in-Sum.new.sums c.args.times _ _ (form_of_term x).factor (form_of_term y).factor
    c.gather.ensures c.gather-in-Sum.ensures k k)

pub returns-in-Less : goal.returns-in-Less
returns-in-Less t c =
    let x = c.get-in-Less.result.now in
    let y = c.get-in-Less-2.result.now in
    let j = of_less c.args.term.now c.in-Less.a c.in-Less.b x y c.get-in-Less.ensures c.get-in-Less-2.ensures c.in-Less.is in
    let k : to_z w128 (of_z w128 c.args.times) ≡ c.args.times = omega (arith, ints) in
    let f = fits_less c.args.sums.now c.args.times (term_weight [] c.args.term.now) (some_weight [] c.args.term.now) c.requires.room in
    subst (λ (f : TermForm). IsAdded c.args.sums.now c.gather-in-Less-2.new.sums c.args.times f.factor) (sym j.form)
    (added_less c.args.sums.now c.gather-in-Less.new.sums c.gather-in-Less-2.new.sums c.args.times _ _ (form_of_term x).factor (form_of_term y).factor
    c.gather-in-Less.ensures c.gather-in-Less-2.ensures k (wrapped_less c.args.times _ k f))

pub returns-then-is_fixed : goal.returns-then-is_fixed
returns-then-is_fixed t c =
    let x = c.get-then-is_fixed-2.result.now in
    let y = c.get-then-is_fixed.result.now in
    let j = of_times c.args.term.now c.in-Times.a c.in-Times.b x y c.get-then-is_fixed-2.ensures c.get-then-is_fixed.ensures c.in-Times.is in
    let k : to_z w128 (of_z w128 c.args.times) ≡ c.args.times = omega (arith, ints) in
    let r : to_z w128 (of_z w128 c.constant.result) ≡ c.constant.result = omega (arith, ints) in
    let f = fits_times c.args.sums.now c.args.times c.constant.result (term_weight [] x) (term_weight [] y) (term_weight [] c.args.term.now)
    c.constant.ensures.small (j.weight []) (some_weight [] y) c.requires.room in
    let fixed : (form_of_term x).fixed ≡ true = ap (λ s. (form_of_term s).fixed) (c.get-then-is_fixed-2.ensures ∙ sym c.get-in-Times.ensures) ∙ sym c.is_fixed.ensures ∙ c.if-is_fixed.true in
    subst (λ (m : TermForm). IsAdded c.args.sums.now c.gather-then-is_fixed.new.sums c.args.times m.factor) (sym j.form)
    (added_times c.args.sums.now c.gather-then-is_fixed.new.sums c.args.times c.constant.result _ (form_of_term y).factor _
    c.gather-then-is_fixed.ensures (wrapped_product c.args.times _ c.constant.result _ k r f)
    (λ slot. factor_first (form_of_term x).fixed _ _ fixed ∙ ap (λ (n : ℤ). n *ℤ (form_of_term y).factor slot) (sym c.constant.ensures.value)))

pub returns-else-is_fixed : goal.returns-else-is_fixed
returns-else-is_fixed t c =
    let x = c.get-else-is_fixed.result.now in
    let y = c.get-else-is_fixed-2.result.now in
    let j = of_times c.args.term.now c.in-Times.a c.in-Times.b x y c.get-else-is_fixed.ensures c.get-else-is_fixed-2.ensures c.in-Times.is in
    let k : to_z w128 (of_z w128 c.args.times) ≡ c.args.times = omega (arith, ints) in
    let r : to_z w128 (of_z w128 c.constant-else-is_fixed.result) ≡ c.constant-else-is_fixed.result = omega (arith, ints) in
    let f = fits_times c.args.sums.now c.args.times c.constant-else-is_fixed.result (term_weight [] y) (term_weight [] x) (term_weight [] c.args.term.now)
    c.constant-else-is_fixed.ensures.small (omega (arith, j.weight [])) (some_weight [] x) c.requires.room in
    let fixed : (form_of_term x).fixed ≡ false = ap (λ s. (form_of_term s).fixed) (c.get-else-is_fixed.ensures ∙ sym c.get-in-Times.ensures) ∙ sym c.is_fixed.ensures ∙ c.if-is_fixed.false in
    subst (λ (m : TermForm). IsAdded c.args.sums.now c.gather-else-is_fixed.new.sums c.args.times m.factor) (sym j.form)
    (added_times c.args.sums.now c.gather-else-is_fixed.new.sums c.args.times c.constant-else-is_fixed.result _ (form_of_term x).factor _
    c.gather-else-is_fixed.ensures (wrapped_product c.args.times _ c.constant-else-is_fixed.result _ k r f)
    (λ slot. factor_second (form_of_term x).fixed _ _ fixed ∙ ap (λ (n : ℤ). n *ℤ (form_of_term x).factor slot) (sym c.constant-else-is_fixed.ensures.value)))
