use Rattle.std.proofs.Common.{rules, ◌≡◌, false, map, subst, sym, true}
use Rattle.std.specs.Prelude.{IfSome}
use Rattle.type_heads.specs.Bodied.{seen_body}
use Rattle.type_heads.specs.Members.{is_conditional}
use Rattle.type_members.specs.Origins.{IsConditionalStart, IsKnownAt}
use Rattle.type_members.proofs.Origins.{conditional_is, plain_start}
use Rattle.type_members.proofs.fronts.origin_of.Goals as goal

pub returns-then-not-is_conditional : goal.returns-then-not-is_conditional
returns-then-not-is_conditional c =
    let known : IsKnownAt c.args.heads.now (map seen_body c.args.bodies.now) c.args.rows.now c.in-Some.base c.in-Some-known_place.at =
    c.in-Some-known_place.ensures.place (map seen_body c.args.bodies.now) c.requires.rows in
    let unconditional : is_conditional (map seen_body c.args.bodies.now) c.args.of ≡ false = search rules in
    plain_start c.args.heads.now (map seen_body c.args.bodies.now) c.args.rows.now c.in-Some.base c.args.of c.in-Some-known_place.at (sym c.in-Some.ensures) unconditional known

pub returns-in-Some-2 : goal.returns-in-Some-2
returns-in-Some-2 c =
    let known : IsKnownAt c.args.heads.now (map seen_body c.args.bodies.now) c.args.rows.now c.in-Some.base c.in-Some-known_place.at =
    c.in-Some-known_place.ensures.place (map seen_body c.args.bodies.now) c.requires.rows in
    let conditional : is_conditional (map seen_body c.args.bodies.now) c.args.of ≡ true = search rules in
    conditional_is c.args.heads.now (map seen_body c.args.bodies.now) c.args.subtypes.now c.args.bare.now c.args.rows.now c.in-Some.base c.args.of c.in-Some-known_place.at c.in-Some-2.start
    (sym c.in-Some.ensures) conditional c.requires.subtypes c.requires.bare known
    (subst (λ o. IfSome o (IsConditionalStart c.args.rows.now c.args.bare.now c.in-Some-known_place.at.span c.args.of)) c.in-Some-2.is c.in_ok-start.ensures)
