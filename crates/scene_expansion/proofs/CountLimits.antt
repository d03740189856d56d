-- Counts that stop at the greatest number of 64 bits decide the limits.
use Rattle.std.proofs.Common.{◌≡◌, ℕ, ◌+◌, ◌-◌, ◌^◌, ◌<◌, ◌≤◌, ◌⊎◌, inl, inr, Bool, true, false, List, [], ◌∷◌, ◌++◌, ◌∙◌, length, take, drop, get_or, refl, ap, ap₂, sym, arith}
use Rattle.std.specs.Prelude.{nat_lt, ◌||◌}
use Rattle.std.proofs.lemmas.Bool.{cases_lt}
use Rattle.std.proofs.lemmas.List.{take_all}
use Rattle.program_calls.specs.type_heads.Types.{Types}
use Rattle.program_calls.specs.composition.SceneFaults.{most_slots, most_rules, most_tokens}
use Rattle.scene_texts.specs.expansion_laws.Nodes.{Node}
use Rattle.scene_texts.specs.expansion_laws.WorkNodes.{node_of}
use Rattle.scene_texts.specs.expansion_laws.Counts.{total, is_past}
use Rattle.scene_texts.specs.expansion_laws.NodeCounts.{node_objects, node_slots, node_rules, node_tokens, pass_limits}
use Rattle.scene_texts.proofs.of_expansion_laws.NodeTotals.{total_append}
use Rattle.scene_texts.specs.Capped.{capped}
use Rattle.scene_texts.proofs.Caps.{capped_twice}
use Rattle.scene_expansion.specs.declared.work.Work.{Work as OwnWork}
use Rattle.scene_expansion.specs.declared.counts.Counts.{Counts}
use Rattle.scene_expansion.specs.AllCounts.{no_counts, counts_of, all_counts, sum_of, are_past}
use Rattle.scene_expansion.specs.SeenWorks.{seen_work}
use Rattle.scene_expansion.specs.Walks.{nodes_done}
use Rattle.scene_expansion.proofs.NodesDone.{done_more, done_split}

lt_holds : (a b : ℕ) → a < b → nat_lt a b ≡ true
lt_holds a b h = grind arith

lt_fails : (a b : ℕ) → b ≤ a → nat_lt a b ≡ false
lt_fails a b h = grind arith

above_cap : (most n : ℕ) → most < 2 ^ 64 - 1 → most < n → most < capped n
unfolding capped
above_cap most n h l = omega (arith, h, l)

below_cap : (most n : ℕ) → n ≤ most → capped n ≤ most
unfolding capped
below_cap most n l = omega (arith, l)

under_cap : (most n : ℕ) → most < 2 ^ 64 - 1 → nat_lt most (capped n) ≡ nat_lt most n
under_cap most n h = by (cases_lt most n)
  where
    by : (most < n) ⊎ (n ≤ most) → nat_lt most (capped n) ≡ nat_lt most n
    by (inl l) = lt_holds most (capped n) (above_cap most n h l) ∙ sym (lt_holds most n l)
    by (inr l) = lt_fails most (capped n) (below_cap most n l) ∙ sym (lt_fails most n l)

past_capped : (a b c d : ℕ) → is_past (capped a) (capped b) (capped c) (capped d) ≡ is_past a b c d
past_capped a b c d =
    ap₂ (λ x y. x || y) (under_cap most_slots a (omega arith))
    (ap₂ (λ x y. x || y) (under_cap most_slots b (omega arith)) (ap₂ (λ x y. x || y) (under_cap most_rules c (omega arith)) (under_cap most_tokens d (omega arith))))

pub counts_past : (last : ℕ) (nodes : List Node) → are_past (all_counts last nodes) ≡ pass_limits last nodes
counts_past last nodes = past_capped (total node_objects nodes) (total (node_slots last) nodes) (total (node_rules last) nodes) (total (node_tokens last) nodes)

-- ---- one part further

one_more : (f : Node → ℕ) (nodes : List Node) (n : Node) → capped (capped (total f nodes) + capped (f n)) ≡ capped (total f (nodes ++ n ∷ []))
one_more f nodes n = capped_twice (total f nodes) (f n) ∙ ap capped (let both : total f (nodes ++ n ∷ []) ≡ total f nodes + (f n + 0) = total_append f nodes (n ∷ []) in omega (arith, both))

counts_more : (last : ℕ) (nodes : List Node) (n : Node) → sum_of (all_counts last nodes) (counts_of last n) ≡ all_counts last (nodes ++ n ∷ [])
counts_more last nodes n = λ i. record {
  objects = one_more node_objects nodes n i;
  slots = one_more (node_slots last) nodes n i;
  rules = one_more (node_rules last) nodes n i;
  tokens = one_more (node_tokens last) nodes n i;
}

-- nothing is counted
pub none_counted : (last : ℕ) → no_counts ≡ all_counts last []
unfolding capped
none_counted last = refl

module _ (ts : Types) (works : List OwnWork) (last : ℕ) where
  -- a work more
  pub work_counted : (i : ℕ) (w : OwnWork) (all one new : Counts) → i < length works → w ≡ get_or works i w
      → all ≡ all_counts last (nodes_done ts (take i works)) → one ≡ counts_of last (node_of ts (seen_work w)) → new ≡ sum_of all one
      → new ≡ all_counts last (nodes_done ts (take (i + 1) works))
  work_counted i w all one new lt is before own sum =
      sum ∙ ap₂ sum_of before own ∙ counts_more last (nodes_done ts (take i works)) (node_of ts (seen_work w))
      ∙ ap (all_counts last) (sym (done_more ts works i w lt is))

  -- ---- past a limit

  is_more : (a b c d more less rest fewer : ℕ) → is_past a b c d ≡ true → is_past (a + more) (b + less) (c + rest) (d + fewer) ≡ true
  is_more a b c d more less rest fewer h =
      by (cases_lt most_slots a) (cases_lt most_slots b) (cases_lt most_rules c) (cases_lt most_tokens d)
    where
      or_true : (x : Bool) → (x || true) ≡ true
      or_true true = refl
      or_true false = refl

      first : (x y z u : Bool) → x ≡ true → (x || (y || (z || u))) ≡ true
      first x y z u e = ap (λ v. v || (y || (z || u))) e

      second : (x y z u : Bool) → y ≡ true → (x || (y || (z || u))) ≡ true
      second x y z u e = ap (λ v. x || (v || (z || u))) e ∙ or_true x

      third : (x y z u : Bool) → z ≡ true → (x || (y || (z || u))) ≡ true
      third x y z u e = ap (λ v. x || (y || (v || u))) e ∙ ap (λ v. x || v) (or_true y) ∙ or_true x

      fourth : (x y z u : Bool) → u ≡ true → (x || (y || (z || u))) ≡ true
      fourth x y z u e = ap (λ v. x || (y || (z || v))) e ∙ ap (λ v. x || (y || v)) (or_true z) ∙ ap (λ v. x || v) (or_true y) ∙ or_true x

      none : (x y z u : Bool) → x ≡ false → y ≡ false → z ≡ false → u ≡ false → (x || (y || (z || u))) ≡ false
      none x y z u p q r s = ap (λ v. v || (y || (z || u))) p ∙ ap (λ v. v || (z || u)) q ∙ ap (λ v. v || u) r ∙ s

      grown : (most n k : ℕ) → most < n → nat_lt most (n + k) ≡ true
      grown most n k l = lt_holds most (n + k) (omega (arith, l))

      by : (most_slots < a) ⊎ (a ≤ most_slots) → (most_slots < b) ⊎ (b ≤ most_slots) → (most_rules < c) ⊎ (c ≤ most_rules) → (most_tokens < d) ⊎ (d ≤ most_tokens)
          → is_past (a + more) (b + less) (c + rest) (d + fewer) ≡ true
      by (inl p) q r s = first (nat_lt most_slots (a + more)) (nat_lt most_slots (b + less)) (nat_lt most_rules (c + rest)) (nat_lt most_tokens (d + fewer)) (grown most_slots a more p)
      by (inr p) (inl q) r s = second (nat_lt most_slots (a + more)) (nat_lt most_slots (b + less)) (nat_lt most_rules (c + rest)) (nat_lt most_tokens (d + fewer)) (grown most_slots b less q)
      by (inr p) (inr q) (inl r) s = third (nat_lt most_slots (a + more)) (nat_lt most_slots (b + less)) (nat_lt most_rules (c + rest)) (nat_lt most_tokens (d + fewer)) (grown most_rules c rest r)
      by (inr p) (inr q) (inr r) (inl s) = fourth (nat_lt most_slots (a + more)) (nat_lt most_slots (b + less)) (nat_lt most_rules (c + rest)) (nat_lt most_tokens (d + fewer)) (grown most_tokens d fewer s)
      by (inr p) (inr q) (inr r) (inr s) =
          let not : is_past a b c d ≡ false = none (nat_lt most_slots a) (nat_lt most_slots b) (nat_lt most_rules c) (nat_lt most_tokens d) (lt_fails most_slots a p) (lt_fails most_slots b q) (lt_fails most_rules c r) (lt_fails most_tokens d s) in
          absurd (cc (h, not))

  past_with : (nodes more : List Node) → pass_limits last nodes ≡ true → pass_limits last (nodes ++ more) ≡ true
  past_with nodes more h =
      ap₂ (λ a b. is_past a b (total (node_rules last) (nodes ++ more)) (total (node_tokens last) (nodes ++ more))) (total_append node_objects nodes more) (total_append (node_slots last) nodes more)
      ∙ ap₂ (λ a b. is_past (total node_objects nodes + total node_objects more) (total (node_slots last) nodes + total (node_slots last) more) a b) (total_append (node_rules last) nodes more) (total_append (node_tokens last) nodes more)
      ∙ is_more (total node_objects nodes) (total (node_slots last) nodes) (total (node_rules last) nodes) (total (node_tokens last) nodes)
      (total node_objects more) (total (node_slots last) more) (total (node_rules last) more) (total (node_tokens last) more) h

  -- some of the works pass a limit
  pub some_past : (i : ℕ) (all : Counts) → all ≡ all_counts last (nodes_done ts (take i works)) → are_past all ≡ true → true ≡ pass_limits last (nodes_done ts works)
  some_past i all counted past =
      sym (ap (pass_limits last) (done_split ts works i)
      ∙ past_with (nodes_done ts (take i works)) (nodes_done ts (drop i works)) (sym (counts_past last (nodes_done ts (take i works))) ∙ ap are_past (sym counted) ∙ past))

  -- all of them don't
  pub all_within : (i : ℕ) (all : Counts) → all ≡ all_counts last (nodes_done ts (take i works)) → are_past all ≡ false → length works ≤ i → false ≡ pass_limits last (nodes_done ts works)
  all_within i all counted within whole =
      sym (ap (λ (ws : List OwnWork). pass_limits last (nodes_done ts ws)) (sym (take_all i works whole))
      ∙ sym (counts_past last (nodes_done ts (take i works))) ∙ ap are_past (sym counted) ∙ within)
