-- What the words after `explain` ask for.
use Rattle.std.proofs.Common.{◌≡◌, ◌≤◌, ◌<◌, ◌⊎◌, refl, ap, arith, inl, inr, List, [], ◌∷◌, length, get_or, map, String, string_bytes, Some, None, codes}
use Rattle.clap.specs.Walk.{Text}
use Rattle.fault_texts.specs.Explained.{explanation, topic_list}
use Rattle.fault_texts.specs.Topics.{topic_named}
use Rattle.fault_texts.specs.declared.topics.Topic.{Topic}
use Rattle.command_words.specs.Words.{Help, Refused, explain_wanted, topic_wanted}
use Rattle.command_words.proofs.FirstWords.{other_word}

pub help_topic : (word : Text) → (word ≡ codes "help") ⊎ ((word ≡ codes "--help") ⊎ (word ≡ codes "-h")) → topic_wanted word ≡ Help topic_list
unfolding topic_wanted
help_topic word (inl e) = rw e refl
help_topic word (inr (inl e)) = rw e refl
help_topic word (inr (inr e)) = rw e refl

pub known_topic : (word : Text) (topic : Topic) → (word ≡ codes "help" → ⊥) → (word ≡ codes "--help" → ⊥) → (word ≡ codes "-h" → ⊥)
    → topic_named word ≡ Some topic → topic_wanted word ≡ Help (explanation topic)
unfolding topic_wanted
known_topic word topic a b c e = rw (other_word _ _ a, other_word _ _ b, other_word _ _ c, e) refl

pub no_topic : (word : Text) → (word ≡ codes "help" → ⊥) → (word ≡ codes "--help" → ⊥) → (word ≡ codes "-h" → ⊥)
    → topic_named word ≡ None → topic_wanted word ≡ Refused
unfolding topic_wanted
no_topic word a b c e = rw (other_word _ _ a, other_word _ _ b, other_word _ _ c, e) refl

-- ---- by how many words there are

pub without_words : {Z : Type 0} (words : List (String Z)) → length words < 1 → Help topic_list ≡ explain_wanted (map string_bytes words)
unfolding explain_wanted
without_words [] few = refl
without_words (word ∷ rest) few = absurd (omega arith)

pub with_one_word : {Z : Type 0} (words : List (String Z)) (word : String Z) → 1 ≤ length words → length words < 2 → word ≡ get_or words 0 word
    → topic_wanted (string_bytes word) ≡ explain_wanted (map string_bytes words)
unfolding explain_wanted
with_one_word [] word some few is = absurd (omega arith)
with_one_word (first ∷ []) word some few is = ap (λ w. topic_wanted (string_bytes w)) is
with_one_word (first ∷ second ∷ rest) word some few is = absurd (omega arith)

pub with_more_words : {Z : Type 0} (words : List (String Z)) → 2 ≤ length words → Refused ≡ explain_wanted (map string_bytes words)
unfolding explain_wanted
with_more_words [] many = absurd (omega arith)
with_more_words (first ∷ []) many = absurd (omega arith)
with_more_words (first ∷ second ∷ rest) many = refl
