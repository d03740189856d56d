use Rattle.std.proofs.Common.{rules, ◌≡◌, false}
use Rattle.type_heads.specs.Members.{has}
use Rattle.type_members.specs.Listing.{way_of}
use Rattle.type_members.proofs.Tasks.{pushed_one}
use Rattle.type_members.proofs.listing.Descent.push_subtype.Goals as goal

pub returns : goal.returns
returns c =
    let keep : has c.args.of (way_of c.args.self.now).skipped ≡ false = search rules in
    pushed_one (way_of c.args.self.now) c.args.steps c.args.under.now c.in_ok-under.under c.args.of c.args.tasks.now.items c.push.new.self.items keep c.in_ok-under.ensures c.in_ok-push.ensures.items
