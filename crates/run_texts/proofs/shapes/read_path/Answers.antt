use Rattle.run_texts.proofs.PathForms.{path_read}
use Rattle.run_texts.proofs.shapes.read_path.Goals as goal

pub returns : goal.returns
returns c = path_read c.args.text.now c.read.result c.read.ensures.found c.read.ensures.none
