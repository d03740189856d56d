-- Worked run texts, by computation.
use Rattle.std.proofs.Common.{◌≡◌, refl, [], ◌∷◌, codes, pos, negsuc}
use Rattle.std.specs.Fmt.{digits}
use Rattle.serde_json.proofs.OnLiterals.{serde_json_on_literals}
use Rattle.osc_base.specs.declared.path.Step.TheVariants.{Name, Member}
use Rattle.composition.specs.declared.run.Run.{Run}
use Rattle.composition.specs.declared.run.Held.TheVariants.{Number, Chars}
use Rattle.run_check.specs.RunText.{run_text}

one_field : Run
one_field = record {
  choices = [];
  end = 0;
  phases = [];
  tick = 100;
  traces = [];
  values = record { path = record { steps = Name (codes "x") ∷ [] }; held = Number (pos 3) } ∷ [];
}

one_field_text : run_text one_field ≡ codes "{\"choices\":[],\"end\":0,\"form\":2,\"phases\":[],\"tick\":100,\"traces\":[],\"values\":[[\"x\",3]]}\n"
unfolding run_text one_field digits serde_json_on_literals
one_field_text = refl

-- something in each list
full : Run
full = record {
  choices = record { path = record { steps = Name (codes "do") ∷ [] }; member = 1 } ∷ [];
  end = 2;
  phases = record { path = record { steps = Name (codes "do") ∷ Member 1 ∷ [] }; start = 0; end = 2 } ∷ [];
  tick = 50;
  traces = record { path = record { steps = Name (codes "ego") ∷ [] }; samples = record { lane = pos 1; position = pos 100; speed = negsuc 0 } ∷ [] } ∷ [];
  values = record { path = record { steps = Name (codes "s") ∷ [] }; held = Chars (codes "a\"b") } ∷ [];
}

full_text : run_text full ≡ codes "{\"choices\":[[\"do\",1]],\"end\":2,\"form\":2,\"phases\":[[\"do[1]\",0,2]],\"tick\":50,\"traces\":[[\"ego\",[[1,100,-1]]]],\"values\":[[\"s\",\"a\\\"b\"]]}\n"
unfolding run_text full digits serde_json_on_literals
full_text = refl
