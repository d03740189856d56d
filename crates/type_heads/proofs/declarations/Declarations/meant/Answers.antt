use Rattle.type_heads.specs.Gathered.{heads_of}
use Rattle.type_heads.proofs.declarations.Declarations.meant.Goals as goal

pub returns : goal.returns
returns c = c.type_meant.ensures (heads_of c.args.self.now) c.requires.same_names
