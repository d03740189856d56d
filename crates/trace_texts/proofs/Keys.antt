-- The keys of an object, by their texts.
use Rattle.std.proofs.Common.{◌≡◌, refl, ℕ, List, [], ◌∷◌, Some, Bool, true, false, cond, not, String, string_bytes}
use Rattle.std.specs.Prelude.{find, option_map}
use Rattle.std.specs.Map.{keys_of}
use Rattle.std.specs.declared.alloc.Global.{Global}
use Rattle.serde_json.specs.View.{members_view}
use Rattle.serde_json.specs.declared.value.Value.{Value}
use Rattle.run_texts.specs.RunShape.{keys}

-- the first key with a property of its text is found by the texts
pub keys_found : (test : List ℕ → Bool) (ms : List (String Global × Value))
    → option_map (λ k. string_bytes k) (find (λ k. test (string_bytes k)) (keys_of ms)) ≡ find test (keys (members_view ms))
keys_found test [] = refl
keys_found test (m ∷ ms) = by (test (string_bytes m.0)) (keys_found test ms)
  where
    by : (b : Bool) → option_map (λ k. string_bytes k) (find (λ k. test (string_bytes k)) (keys_of ms)) ≡ find test (keys (members_view ms))
        → option_map (λ k. string_bytes k) (cond b (Some m.0) (find (λ k. test (string_bytes k)) (keys_of ms))) ≡ cond b (Some (string_bytes m.0)) (find test (keys (members_view ms)))
    by true h = refl
    by false h = h
