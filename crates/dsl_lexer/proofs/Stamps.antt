-- Tokens at one spot.
use Rattle.std.proofs.Common.{◌≡◌, ℕ, suc, ◌+◌, false, List, [], ◌∷◌, ◌++◌, length, map, replicate, refl, ap, sym, ◌∙◌, arith}
use Rattle.std.proofs.lemmas.List.{append_assoc, length-replicate, replicate_more}
use Rattle.std.specs.List.{filter}
use Rattle.std.specs.Prelude.{nat_lt}
use Rattle.std.proofs.lemmas.Bool.{cond-false}
use Rattle.dsl_lexer.specs.Layout.{is_widest, blocks}
use Rattle.dsl_tree.specs.declared.token.Token.{Token}
use Rattle.dsl_tree.specs.declared.token.TokenKind.{TokenKind}
use Rattle.dsl_tree.specs.declared.token.TokenKind.TheVariants.{Dedent, Indent}
use Rattle.dsl_lexer.specs.declared.spot.Spot.{Spot}
use Rattle.dsl_lexer.specs.Steps.{place_of, stamped}

pub length-stamped : (file : ℕ) (s : Spot) (n : ℕ) (kinds : List TokenKind) → length (stamped file s n kinds) ≡ length kinds
length-stamped file s n [] = refl
length-stamped file s n (kind ∷ more) = ap suc (length-stamped file s (n + 1) more)

pub stamped-append : (file : ℕ) (s : Spot) (n : ℕ) (xs ys : List TokenKind) → stamped file s n (xs ++ ys) ≡ stamped file s n xs ++ stamped file s (n + length xs) ys
stamped-append file s n [] ys = let e : n ≡ n + 0 = omega arith in ap (λ k. stamped file s k ys) e
stamped-append file s n (x ∷ xs) ys =
    let e : n + 1 + length xs ≡ n + suc (length xs) = omega arith in
    let rest : stamped file s (n + 1) (xs ++ ys) ≡ stamped file s (n + 1) xs ++ stamped file s (n + suc (length xs)) ys =
    stamped-append file s (n + 1) xs ys ∙ ap (λ k. stamped file s (n + 1) xs ++ stamped file s k ys) e in
    ap (λ t. record { place = place_of file s n; kind = x } ∷ t) rest

pub map_same : {A : Type 0} (kind : TokenKind) (xs : List A) → map (λ v. kind) xs ≡ replicate (length xs) kind
map_same kind [] = refl
map_same kind (x ∷ xs) = ap (λ t. kind ∷ t) (map_same kind xs)

-- one DEDENT more
pub dedent_step : (file : ℕ) (s : Spot) (start now next : List Token) (i : ℕ) → length now ≡ length start + i → now ≡ start ++ stamped file s (length start) (replicate i Dedent)
    → next ≡ now ++ stamped file s (length now) (Dedent ∷ []) → next ≡ start ++ stamped file s (length start) (replicate (i + 1) Dedent)
dedent_step file s start now next i count so_far e =
    let at : length now ≡ length start + length (replicate i Dedent) = rw length-replicate count in
    let one : stamped file s (length now) (Dedent ∷ []) ≡ stamped file s (length start + length (replicate i Dedent)) (Dedent ∷ []) = ap (λ k. stamped file s k (Dedent ∷ [])) at in
    let joined : stamped file s (length start) (replicate i Dedent ++ Dedent ∷ []) ≡ stamped file s (length start) (replicate i Dedent) ++ stamped file s (length start + length (replicate i Dedent)) (Dedent ∷ []) = stamped-append file s (length start) (replicate i Dedent) (Dedent ∷ []) in
    let more : stamped file s (length start) (replicate i Dedent ++ Dedent ∷ []) ≡ stamped file s (length start) (replicate (i + 1) Dedent) = ap (stamped file s (length start)) (replicate_more i Dedent) in
    e ∙ ap (λ t. t ++ stamped file s (length now) (Dedent ∷ [])) so_far ∙ append_assoc start (stamped file s (length start) (replicate i Dedent)) (stamped file s (length now) (Dedent ∷ []))
    ∙ ap (λ t. start ++ t) (ap (λ t. stamped file s (length start) (replicate i Dedent) ++ t) one ∙ sym joined ∙ more)

pub blocks_closed : (w : ℕ) (ws : List ℕ) (n : ℕ) → is_widest w ws ≡ false → n ≡ length (filter (λ v. nat_lt w v) ws) → replicate n Dedent ≡ blocks w ws
blocks_closed w ws n test e =
    let m : map (λ v. Dedent) (filter (λ v. nat_lt w v) ws) ≡ blocks w ws = sym (cond-false (is_widest w ws) (Indent ∷ []) (map (λ v. Dedent) (filter (λ v. nat_lt w v) ws)) test) in
    ap (λ k. replicate k Dedent) e ∙ sym (map_same Dedent (filter (λ v. nat_lt w v) ws)) ∙ m
