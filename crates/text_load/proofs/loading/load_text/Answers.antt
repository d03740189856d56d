use Rattle.outside_io.proofs.SomeFiles.{of_all}
use Rattle.text_load.proofs.Fetched.{text_read}
use Rattle.text_load.proofs.loading.load_text.Goals as goal

pub returns-in-Ok-true-clause-answer : goal.returns-in-Ok-true-clause-answer
returns-in-Ok-true-clause-answer g c =
    text_read (g.H.Shelf.files c.args.shelf.now) c.args.name.now c.args.limit c.read_text.result _ (rw c.in-Ok-true.field-0-test at c.in-Ok-true.ensures.finds)
    c.read_text.ensures.within c.read_text.ensures.whole c.read_text.ensures.stops

pub returns-in-Err-clause-answer : goal.returns-in-Err-clause-answer
returns-in-Err-clause-answer g c = of_all (g.H.Shelf.files c.args.shelf.now) _ (λ files. tt)
