use Rattle.std.proofs.Common.{◌∙◌}
use Rattle.type_model.specs.type_heads.Gathered.{all_of}
use Rattle.type_model.specs.type_members.Listed.{lists_of}
use Rattle.type_build.proofs.SoundForms.{kept}
use Rattle.type_model.proofs.TypeParts.{told_parts}
use Rattle.type_build.proofs.build.with_members.Goals as goal

pub of-requires-3 : goal.of-requires-3
of-requires-3 c = kept (all_of c.args.declarations.now) c.args.heads c.in_ok-of_program.of_program c.requires.sound c.requires.program c.requires.same_heads c.in_ok-of_program.ensures

pub returns : goal.returns
returns c = λ p same.
    c.of-3.ensures
    ∙ told_parts p (all_of c.args.declarations.now) same c.args.heads c.requires.same_heads c.args.bodies.now.entries.items c.as_slice.result.now c.as_slice.ensures.value c.requires.same_bodies.0
    (lists_of c.args.lists.now) c.requires.same_members c.in_ok-of_members.of_members c.in_ok-of_members.ensures c.in_ok-of_program.of_program c.in_ok-of_program.ensures
