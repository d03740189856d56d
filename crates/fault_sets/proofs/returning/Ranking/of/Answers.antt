use Rattle.std.proofs.Common.{◌≡◌, ◌∙◌, ap, sym, true, length}
use Rattle.fault_sets.specs.Ranking.{HasLevels, level_from}
use Rattle.fault_sets.specs.declared.returning.Ranking.{Ranking}
use Rattle.fault_sets.proofs.Ranked.{ranking_shows}
use Rattle.fault_sets.proofs.returning.Ranking.of.Goals as goal

pub returns-then-all_level : goal.returns-then-all_level
returns-then-all_level g c =
    let step = g.S.Steps.next c.args.steps.now in
    let next = c.in_ok-next.next in
    let ranks = c.in_ok-ranks.ranks in
    let r : Ranking = record { next = next; ranks = ranks } in
    let level : level_from (length next.items) ranks.items 0 next.items ≡ true =
    ap (λ rs. level_from (length next.items) rs 0 next.items) (sym c.as_slice-2.ensures.value)
    ∙ ap (λ ns. level_from (length ns) c.as_slice-2.result.now 0 ns) (sym c.as_slice-3.ensures.value)
    ∙ sym c.all_level.ensures ∙ c.if-all_level.true in
    let levels : HasLevels c.args.count step r = λ kept. (c.in_ok-next.ensures, level) in
    record { shown = ranking_shows step c.args.count r levels; levels = levels }
