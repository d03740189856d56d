use Rattle.seeded_search.proofs.Choices.{next_told}
use Rattle.seeded_search.proofs.places.next_here.Goals as goal

pub returns-clause-wide : goal.returns-clause-wide
returns-clause-wide c = next_told _ _ c.requires.ordered c.next_entry.ensures.wide c.next_entry.ensures.none
