-- Two words of a seed's stream, one after the other.
use Rattle.std.proofs.Common.{◌≡◌, ap, ◌∙◌, ℕ, ◌+◌, ◌%◌, ◌^◌, ◌<◌, arith}
use Rattle.rand_chacha.specs.ChaCha.{ChaCha, next_word}
use Rattle.seeded_search.specs.Draws.{stream_at, word_of}

-- one word, and the stream after it
pub word_taken : (seed place w : ℕ) (before after : ChaCha) → place + 1 < 2 ^ 68 → before ≡ stream_at seed place → (w, after) ≡ next_word 4 before
    → (w ≡ word_of seed place) × (after ≡ stream_at seed (place + 1))
unfolding word_of
word_taken seed place w before after few is taken =
    let e : (w, after) ≡ next_word 4 (stream_at seed place) = taken ∙ ap (next_word 4) is in
    (ap (λ p. p.0) e, ap (λ p. p.1) e ∙ ap (stream_at seed) {x = (place + 1) % 2 ^ 68} {y = place + 1} (omega arith))
