-- The numbers of a seed, which are words of the stream of ChaCha with 8 rounds, and the cuts that a plan chooses by them.
use Rattle.std.specs.Prelude.{ℕ, ◌+◌, ◌*◌, List, ◌++◌, replicate, Option, Some, None, pos}
use Rattle.std.specs.Int.{w64, to_le_bytes}
use Rattle.box_eval.specs.declared.bounds.Pair.{Pair}
use Rattle.box_eval.specs.declared.cut.Cut.{Cut}
use Rattle.box_eval.specs.declared.cut.Side.TheVariants.{Low}
use Rattle.box_eval.specs.Box.{cut_at}
use Rattle.search_plans.specs.declared.wish.Entry.{Entry}
use Rattle.search_plans.specs.Plans.{chosen}
use Rattle.rand_chacha.specs.ChaCha.{ChaCha, word_at, key_of}

-- the bytes of the key: the seed's eight, the low one first, then 24 zeros
abbrev pub seed_bytes : ℕ → List ℕ
seed_bytes seed = to_le_bytes w64 seed ++ replicate 24 0

-- the stream of a seed before the word at a place, counted from 0
abbrev pub stream_at : ℕ → ℕ → ChaCha
stream_at seed place = record { key = key_of (seed_bytes seed); stream = 0; word_pos = place }

-- the word at a place
unfoldable pub word_of : ℕ → ℕ → ℕ
word_of seed place = word_at 4 (key_of (seed_bytes seed)) 0 place

-- the number of decision k, from the words 2k and 2k + 1
abbrev pub number_of : ℕ → ℕ → ℕ
number_of seed k = word_of seed (2 * k) + 4294967296 * word_of seed (2 * k + 1)

-- the cut that is chosen, or any at all
abbrev pub cut_or_any : Option Cut → Cut
cut_or_any None = cut_at Low 0 (pos 0)
cut_or_any (Some cut) = cut

-- decision k in a box, by a plan and the seed's number k. Where no slot has two values there is none to make
abbrev pub chosen_by : List Entry → ℕ → ℕ → List Pair → Cut
chosen_by plan seed k ends = cut_or_any (chosen plan (number_of seed k) ends)
