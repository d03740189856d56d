use Rattle.std.proofs.Common.{map, subst}
use Rattle.string_texts.specs.type_heads.Bodied.{seen_body}
use Rattle.type_tables.specs.type_members.Listed.{AreSubtypes}
use Rattle.type_model.proofs.parts.Bodies.of.Goals as goal

pub returns : goal.returns
returns c = (
  c.in_ok-entries.ensures,
  subst (λ bs. AreSubtypes c.args.heads.now (map seen_body bs) c.in_ok-subtypes.subtypes) c.as_slice.ensures.value c.in_ok-subtypes.ensures,
)
