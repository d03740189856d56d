-- The steps of the walks over a string: what is found from index i on is what is found at all, moved by i.
use Rattle.std.proofs.Common.{◌≡◌, ℕ, suc, ◌+◌, ◌<◌, ◌≤◌, Bool, true, false, Option, Some, None, List, ◌∷◌, length, get_or, drop, refl, ap, sym, ◌∙◌, arith}
use Rattle.std.specs.Prelude.{◌==◌}
use Rattle.std.specs.Option.{option_map}
use Rattle.std.specs.List.{between}
use Rattle.std.proofs.lemmas.List.{drop_more, drop_all}
use Rattle.std.proofs.lemmas.Slice.{between_to_end}
use Rattle.dsl_lexer.specs.Bytes.{is_line_feed, is_backslash, is_escapable, begins_control}
use Rattle.dsl_lexer.specs.Scan.{closing, control_at}

-- a number found, moved
abbrev pub moved : ℕ → Option ℕ → Option ℕ
moved i found = option_map (λ n. i + n) found

pub moved-suc : (i : ℕ) (o : Option ℕ) → moved i (option_map suc o) ≡ moved (i + 1) o
moved-suc i None = refl
moved-suc i (Some n) = let e : i + suc n ≡ i + 1 + n = omega arith in ap Some e

pub at_byte : (F : List ℕ → Option ℕ) (xs : List ℕ) (i : ℕ) → i < length xs → F (drop i xs) ≡ F (get_or xs i 0 ∷ drop (i + 1) xs)
at_byte F xs i h = ap F (drop_more xs i 0 h)

module _ (xs : List ℕ) (i : ℕ) (found : Option ℕ) (so_far : found ≡ moved i (control_at (drop i xs))) where
  pub control_here : i < length xs → begins_control (get_or xs i 0) (between (i + 1) (length xs) xs) ≡ true → Some i ≡ found
  unfolding control_at
  control_here h t =
      let b : begins_control (get_or xs i 0) (drop (i + 1) xs) ≡ true = rw (between_to_end xs (i + 1) (length xs) (omega arith)) at t in
      let e : control_at (drop i xs) ≡ Some 0 = at_byte control_at xs i h ∙ rw b refl in
      let z : i ≡ i + 0 = omega arith in ap Some z ∙ sym (so_far ∙ ap (moved i) e)

  pub control_later : i < length xs → begins_control (get_or xs i 0) (between (i + 1) (length xs) xs) ≡ false → found ≡ moved (i + 1) (control_at (drop (i + 1) xs))
  unfolding control_at
  control_later h t =
      let b : begins_control (get_or xs i 0) (drop (i + 1) xs) ≡ false = rw (between_to_end xs (i + 1) (length xs) (omega arith)) at t in
      let e : control_at (drop i xs) ≡ option_map suc (control_at (drop (i + 1) xs)) = at_byte control_at xs i h ∙ rw b refl in
      so_far ∙ ap (moved i) e ∙ moved-suc i (control_at (drop (i + 1) xs))

  pub control_nowhere : length xs ≤ i → None ≡ found
  unfolding control_at
  control_nowhere h = sym (so_far ∙ ap (λ ys. moved i (control_at ys)) (drop_all i xs h))

module _ (quote : ℕ) (xs : List ℕ) (i : ℕ) (found : Option ℕ) where
  pub escape_read : found ≡ moved i (closing quote true (drop i xs)) → i < length xs → is_escapable (get_or xs i 0) ≡ true → found ≡ moved (i + 1) (closing quote false (drop (i + 1) xs))
  unfolding closing
  escape_read so_far h t =
      let e : closing quote true (drop i xs) ≡ option_map suc (closing quote false (drop (i + 1) xs)) = at_byte (closing quote true) xs i h ∙ rw t refl in
      so_far ∙ ap (moved i) e ∙ moved-suc i (closing quote false (drop (i + 1) xs))

  pub escape_unknown : found ≡ moved i (closing quote true (drop i xs)) → i < length xs → is_escapable (get_or xs i 0) ≡ false → None ≡ found
  unfolding closing
  escape_unknown so_far h t =
      let e : closing quote true (drop i xs) ≡ None = at_byte (closing quote true) xs i h ∙ rw t refl in
      sym (so_far ∙ ap (moved i) e)

  pub backslash_read : found ≡ moved i (closing quote false (drop i xs)) → i < length xs → is_backslash (get_or xs i 0) ≡ true → found ≡ moved (i + 1) (closing quote true (drop (i + 1) xs))
  unfolding closing
  backslash_read so_far h t =
      let e : closing quote false (drop i xs) ≡ option_map suc (closing quote true (drop (i + 1) xs)) = at_byte (closing quote false) xs i h ∙ rw t refl in
      so_far ∙ ap (moved i) e ∙ moved-suc i (closing quote true (drop (i + 1) xs))

  pub quote_read : found ≡ moved i (closing quote false (drop i xs)) → i < length xs → is_backslash (get_or xs i 0) ≡ false → (get_or xs i 0 == quote) ≡ true → Some (i + 1) ≡ found
  unfolding closing
  quote_read so_far h t u =
      let e : closing quote false (drop i xs) ≡ Some 1 = at_byte (closing quote false) xs i h ∙ rw (t, u) refl in
      sym (so_far ∙ ap (moved i) e)

  pub line_feed_read : found ≡ moved i (closing quote false (drop i xs)) → i < length xs → is_backslash (get_or xs i 0) ≡ false → (get_or xs i 0 == quote) ≡ false → is_line_feed (get_or xs i 0) ≡ true → None ≡ found
  unfolding closing
  line_feed_read so_far h t u v =
      let e : closing quote false (drop i xs) ≡ None = at_byte (closing quote false) xs i h ∙ rw (t, u, v) refl in
      sym (so_far ∙ ap (moved i) e)

  pub plain_read : found ≡ moved i (closing quote false (drop i xs)) → i < length xs → is_backslash (get_or xs i 0) ≡ false → (get_or xs i 0 == quote) ≡ false → is_line_feed (get_or xs i 0) ≡ false → found ≡ moved (i + 1) (closing quote false (drop (i + 1) xs))
  unfolding closing
  plain_read so_far h t u v =
      let e : closing quote false (drop i xs) ≡ option_map suc (closing quote false (drop (i + 1) xs)) = at_byte (closing quote false) xs i h ∙ rw (t, u, v) refl in
      so_far ∙ ap (moved i) e ∙ moved-suc i (closing quote false (drop (i + 1) xs))

  pub unclosed : (escaped : Bool) → found ≡ moved i (closing quote escaped (drop i xs)) → length xs ≤ i → None ≡ found
  unfolding closing
  unclosed true so_far h = sym (so_far ∙ ap (λ ys. moved i (closing quote true ys)) (drop_all i xs h))
  unclosed false so_far h = sym (so_far ∙ ap (λ ys. moved i (closing quote false ys)) (drop_all i xs h))
