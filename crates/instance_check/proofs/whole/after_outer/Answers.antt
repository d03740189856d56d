use Rattle.instance_check.proofs.whole.after_outer.Goals as goal

pub inner_wrong-requires : goal.inner_wrong-requires
inner_wrong-requires c = record {
  is_scene = c.requires.scene.is_scene;
  few_texts = c.requires.scene.few_texts;
  narrow_ranges = c.requires.scene.narrow_ranges;
  ended = c.requires.ended;
  bounded = c.requires.bounded;
}
