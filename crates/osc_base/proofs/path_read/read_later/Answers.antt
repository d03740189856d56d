use Rattle.std.proofs.Common.{◌≡◌, ◌≢◌, [], rules}
use Rattle.osc_base.specs.PathTexts.{BeginsWith, BeginsWithNone}
use Rattle.osc_base.proofs.PathReading.{reached_none, reached_more, reached_all, none_left, some_of, none_of}
use Rattle.osc_base.proofs.path_read.read_later.Goals as goal

pub returns-in_default-clause-none : goal.returns-in_default-clause-none
returns-in_default-clause-none c _ =
    let left = c.loop-left.left.now in
    let m = c.loop-left.of_member in
    let some : left ≢ [] = search rules in
    reached_none c.args.first.step c.args.first.left.now c.loop-left.steps m left some c.loop-left.invariant
    (none_of (λ x. BeginsWith m left x.step x.left.now) (BeginsWithNone m left) c.in_ok-next.field-0 c.in_default.is c.in_ok-next.ensures)

pub loop-left-preserved : goal.loop-left-preserved
loop-left-preserved c =
    let left = c.loop-left.left.now in
    let m = c.loop-left.of_member in
    let some : left ≢ [] = search rules in
    rw (c.in_ok-push-2.ensures.ok, c.is_before_member-of_member-in-loop-left.ensures)
    (reached_more c.args.first.step c.args.first.left.now c.loop-left.steps m left c.in-Some.next.step c.in-Some.next.left.now some c.loop-left.invariant
    (some_of (λ x. BeginsWith m left x.step x.left.now) (BeginsWithNone m left) c.in_ok-next.field-0 c.in-Some.next c.in-Some.is c.in_ok-next.ensures))

pub returns-clause-found : goal.returns-clause-found
returns-clause-found c =
    let none : c.loop-left.left.now ≡ [] = none_left c.loop-left.left.now (search rules) in
    reached_all c.args.first.step c.args.first.left.now c.loop-left.steps c.loop-left.of_member c.loop-left.left.now none c.loop-left.invariant
