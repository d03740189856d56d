use Rattle.std.proofs.Common.{◌≡◌, ◌∙◌, ap, length, refl, rules, fold, to_z, of_z, w64, FitsSigned}
use Rattle.std.specs.Int.{int_min, int_max}
use Rattle.std.proofs.lemmas.Int.{to_z-of_z}
use Rattle.work_parts.proofs.RangeEnds.{gap_from}
use Rattle.work_parts.proofs.ranges.has_gap.Goals as goal

pub returns-in-Some : goal.returns-in-Some
returns-in-Some c =
    let f : FitsSigned w64 c.least.result = search rules in
    let g : FitsSigned w64 c.greatest.result = search rules in
    let h : FitsSigned w64 c.in-Some.first.now = search rules in
    let first : to_z w64 (of_z w64 c.in-Some.first.now) ≡ c.in-Some.first.now = to_z-of_z w64 c.in-Some.first.now h in
    gap_from c.in-Some.first.now c.in-Some.later.now c.args.numbers.now (to_z w64 (of_z w64 c.least.result)) (to_z w64 (of_z w64 c.greatest.result)) (length c.in-Some.later.now) c.spans_more.result
    (search rules)
    (to_z-of_z w64 c.least.result f ∙ c.least.ensures ∙ ap (λ n. fold int_min n c.in-Some.later.now) first)
    (to_z-of_z w64 c.greatest.result g ∙ c.greatest.ensures ∙ ap (λ n. fold int_max n c.in-Some.later.now) first)
    refl
    c.spans_more.ensures
