use Rattle.std.proofs.Common.{◌∙◌, ◌++◌, ◌∷◌, sym, ap, map}
use Rattle.dsl_tree.specs.Views.{phase_tree}
use Rattle.composition.specs.Calls.{phases_at}
use Rattle.program_calls.specs.PlacedPhases.{members_placed, seen_phase, seen_turn}
use Rattle.program_calls.proofs.PhaseLists.{here, last_member, next_member, of_comp, on_ok, then_more}
use Rattle.program_calls.proofs.phases.+phase_walk.Goals as goal

pub push_members-loop-member-preserved : goal.push_members-loop-member-preserved
push_members-loop-member-preserved t c =
    next_member c.args.comp.now.kind c.args.place.now.path c.in_ok-inner.inner.path (map seen_turn c.args.place.now.way) (map seen_turn c.in_ok-inner.inner.way)
    c.loop-member.number c.in_ok-number.number c.loop-member.member-index c.args.comp.now.members c.as_slice-member-items.result.now c.member-item.result
    (map seen_phase c.loop-member.into.items) (map seen_phase c.push_phase.new.into.items)
    (map seen_phase c.args.into.now.items ++ members_placed c.args.place.now.path (map seen_turn c.args.place.now.way) c.args.comp.now)
    c.as_slice-member-items.ensures c.loop-member-test.true c.member-item.is c.in_ok-inner.ensures.path c.in_ok-inner.ensures.way c.in_ok-number.ensures
    c.in_ok-push_phase.ensures c.loop-member.invariant

pub push_members-returns : goal.push_members-returns
push_members-returns t c =
    last_member c.args.comp.now.kind c.args.place.now.path (map seen_turn c.args.place.now.way) c.loop-member.number c.loop-member.member-index
    c.args.comp.now.members c.as_slice-member-items.result.now (map seen_phase c.loop-member.into.items)
    (map seen_phase c.args.into.now.items ++ members_placed c.args.place.now.path (map seen_turn c.args.place.now.way) c.args.comp.now)
    c.as_slice-member-items.ensures c.loop-member-test.false c.loop-member.invariant

pub push_phase-returns-in-Comp : goal.push_phase-returns-in-Comp
push_phase-returns-in-Comp t c =
    on_ok _ _
    (λ rest. then_more (map seen_phase c.args.into.now.items) (map seen_phase c.push_here.new.into.items) (map seen_phase c.push_members.new.into.items)
    c.args.place.now.path (map seen_turn c.args.place.now.way) (phase_tree c.args.phase.now)
    (members_placed c.args.place.now.path (map seen_turn c.args.place.now.way) c.in-Comp.comp)
    c.in_ok-push_here.ensures rest
    (ap (λ p. phases_at c.args.place.now.path (map seen_turn c.args.place.now.way) (phase_tree p)) c.in-Comp.is
    ∙ of_comp c.args.place.now.path (map seen_turn c.args.place.now.way) c.in-Comp.comp
    ∙ ap (λ p. here c.args.place.now.path (map seen_turn c.args.place.now.way) (phase_tree p) ∷ members_placed c.args.place.now.path (map seen_turn c.args.place.now.way) c.in-Comp.comp) (sym c.in-Comp.is)))
    c.push_members.result c.push_members.ensures
