use Rattle.std.proofs.Common.{◌≡◌, ◌∙◌, ◌++◌, ℕ, true, cond, List, [], ap, flat_map, map, sym}
use Rattle.type_members.specs.type_heads.Bodied.{seen_body}
use Rattle.type_members.specs.type_heads.Table.{form, has_members}
use Rattle.type_members.specs.type_heads.Members.{body}
use Rattle.type_members.specs.type_heads.HeadingFaults.{family}
use Rattle.heading_faults.specs.Holding.{fields_of}
use Rattle.heading_faults.proofs.HeldSteps.{family_is}
use Rattle.heading_faults.proofs.held.push_held.Goals as goal

pub returns : goal.returns
returns c =
    let heads = c.args.heads.now in
    let bodies = map seen_body c.args.bodies.now in
    let held : ℕ → List ℕ = λ u. fields_of heads ((body bodies u).own ++ (body bodies u).more) in
    let has : has_members (form heads c.args.of) ≡ true = ap has_members (sym c.form.ensures) ∙ sym c.has_members.ensures ∙ c.if-not-has_members.false in
    c.in_ok-push_all.ensures ∙ ap (λ fs. c.args.into.now.items ++ flat_map held fs)
    (c.as_slice.ensures.value ∙ c.in_ok-family.ensures ∙ family_is heads bodies c.args.subtypes.now c.args.of c.requires)
    ∙ ap (λ b. c.args.into.now.items ++ cond b (flat_map held (family heads bodies c.args.of)) []) (sym has)
