use Rattle.std.proofs.Common.{◌≡◌, ◌∙◌, ◌++◌, [], ◌∷◌, ap, map, rules}
use Rattle.type_members.specs.Listed.{seen_listed}
use Rattle.type_members.specs.Listing.{listed_within, pending, way_of}
use Rattle.type_members.specs.declared.listing.Stage.{Stage}
use Rattle.type_members.proofs.Tasks.{none_left, task_done}
use Rattle.type_members.proofs.listing.Descent.list.Goals as goal

pub loop-step-init : goal.loop-step-init
loop-step-init c =
    ap (λ ts. map seen_listed c.args.into.now.items ++ pending (way_of c.args.self.now) ts)
    (c.in_ok-push.ensures.items ∙ ap (λ ts. ts ++ record { of = c.args.of; under = c.new-under.result; stage = Stage.All c.args.steps } ∷ []) c.new-tasks.ensures.items)
    ∙ ap (λ u. map seen_listed c.args.into.now.items ++ listed_within c.args.steps (way_of c.args.self.now) u c.args.of) c.new-under.ensures

pub loop-step-preserved : goal.loop-step-preserved
loop-step-preserved c =
    task_done (way_of c.args.self.now) (map seen_listed c.loop-step.into.items) (map seen_listed c.step.new.into.items)
    (map seen_listed c.args.into.now.items ++ listed_within c.args.steps (way_of c.args.self.now) [] c.args.of)
    c.loop-step.tasks.items c.pop.new.self.items c.step.new.tasks.items c.in-Some.task c.in-Some.ensures.items c.loop-step.invariant c.in_ok-step.ensures

pub returns-in_default : goal.returns-in_default
returns-in_default c =
    let empty : c.loop-step.tasks.items ≡ [] = search rules in
    none_left (way_of c.args.self.now) (map seen_listed c.loop-step.into.items)
    (map seen_listed c.args.into.now.items ++ listed_within c.args.steps (way_of c.args.self.now) [] c.args.of) c.loop-step.tasks.items empty c.loop-step.invariant
