-- Lists that are turned round.
use Rattle.std.proofs.Common.{◌≡◌, List, reverse}
use Rattle.std.proofs.lemmas.List.{reverse-reverse}
use Rattle.scene_expansion.specs.declared.work.Work.{Work}

pub turned_twice : (xs : List Work) → reverse (reverse xs) ≡ xs
turned_twice xs = reverse-reverse xs
