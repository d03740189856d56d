use Rattle.std.proofs.Common.{◌≡◌, ◌<◌, ◌+◌, ◌*◌, ap, ap₂, arith}
use Rattle.seeded_search.specs.Draws.{number_of}
use Rattle.seeded_search.specs.Rooms.{Drawing}
use Rattle.seeded_search.proofs.Words.{word_taken}
use Rattle.seeded_search.proofs.draws.Draws.next.Goals as goal

pub returns-clause-number : goal.returns-clause-number
returns-clause-number c =
    let few : c.self.inside.count + 1 < 4294967296 = omega (arith, c.requires, ap (λ (d : Drawing). d.count) c.self.view_is) in
    let low = word_taken c.self.inside.seed (2 * c.self.inside.count) _ _ _ (omega arith) c.self.invariant c.next_word-low.ensures in
    let high = word_taken c.self.inside.seed (2 * c.self.inside.count + 1) _ _ _ (omega arith) low.1 c.next_word-high.ensures in
    let seed : c.self.inside.seed ≡ c.args.self.now.seed = ap (λ (d : Drawing). d.seed) c.self.view_is in
    let count : c.self.inside.count ≡ c.args.self.now.count = ap (λ (d : Drawing). d.count) c.self.view_is in
    omega (arith, c.from.ensures, c.from-2.ensures, low.0, high.0, ap₂ number_of seed count)
