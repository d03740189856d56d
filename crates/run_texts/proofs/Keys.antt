-- The keys of an object, by their texts.
use Rattle.std.proofs.Common.{◌≡◌, refl, ℕ, List, [], ◌∷◌, Some, Bool, true, false, cond, not, String, string_bytes}
use Rattle.std.specs.Prelude.{find, option_map}
use Rattle.std.specs.Map.{keys_of}
use Rattle.std.specs.declared.alloc.Global.{Global}
use Rattle.serde_json.specs.View.{members_view}
use Rattle.serde_json.specs.declared.value.Value.{Value}
use Rattle.run_texts.specs.RunShape.{is_run_key, keys}

-- the first key that a run doesn't have is found by its text
pub keys_found : (form : ℕ) (ms : List (String Global × Value))
    → option_map (λ k. string_bytes k) (find (λ k. not (is_run_key form (string_bytes k))) (keys_of ms)) ≡ find (λ k. not (is_run_key form k)) (keys (members_view ms))
keys_found form [] = refl
keys_found form (m ∷ ms) = by (is_run_key form (string_bytes m.0)) (keys_found form ms)
  where
    by : (b : Bool) → option_map (λ k. string_bytes k) (find (λ k. not (is_run_key form (string_bytes k))) (keys_of ms)) ≡ find (λ k. not (is_run_key form k)) (keys (members_view ms))
        → option_map (λ k. string_bytes k) (cond (not b) (Some m.0) (find (λ k. not (is_run_key form (string_bytes k))) (keys_of ms))) ≡ cond (not b) (Some (string_bytes m.0)) (find (λ k. not (is_run_key form k)) (keys (members_view ms)))
    by true h = h
    by false h = refl
