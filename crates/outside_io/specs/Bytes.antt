-- What a sink holds, if it tells that; else `None`.
use Rattle.std.specs.Prelude.{◌≡◌, ℕ, List, Option, take}
use Rattle.std.specs.Io.KnownBytes.{append_known}

-- some prefix of these bytes was appended
abbrev pub AppendsPart : Option (List ℕ) → Option (List ℕ) → List ℕ → Type 0
AppendsPart before after bytes = (count : ℕ) × (after ≡ append_known before (take count bytes))
