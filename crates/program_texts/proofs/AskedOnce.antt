-- Conditions that are gathered, each once: those that are asked for already need not be gathered again.
use Rattle.std.proofs.Common.{◌≡◌, ◌∙◌, refl, sym, ap, ℕ, zero, suc, ◌≤◌, ◌<◌, ◌+◌, ◌-◌, ◌||◌, ◌&&◌, Bool, true, false, cond, List, [], ◌∷◌, ◌++◌, Option, Some, None, filter_map, flat_map, option_to_list, length, take, get_or, arith, append-nil, append_assoc, nat_eq, is_some, subst, true≢false, Result, Ok, Err}
use Rattle.std.specs.List.{list_all}
use Rattle.std.specs.Result.{OnOk}
use Rattle.std.proofs.lemmas.List.{take_all, take_more}
use Rattle.std.proofs.lemmas.List.Folds.{list_all-append, list_any-append}
use Rattle.std.proofs.lemmas.Slice.Eq.{bytes_eq-Decides}
use Rattle.std.proofs.lemmas.Bool.Decides.{Decides-int_eq}
use Rattle.program_calls.specs.type_heads.Conditions.{Condition, condition}
use Rattle.program_calls.specs.type_heads.Members.{field}
use Rattle.program_calls.specs.type_heads.Types.{Field, Types}
use Rattle.program_calls.specs.cond_inherit.Conditions.{conditions_within, once_after, same_condition}
use Rattle.program_texts.specs.Asked.{adds, asks, is_done, once_more, seen_kept, steps_done, Covers, IsGathered}
use Rattle.program_texts.specs.SeenConditions.{conditions_after, conditions_of_field, with_earlier}
use Rattle.program_texts.specs.declared.asked.AskedConditions.{AskedConditions}
use Rattle.program_texts.proofs.ConditionSteps.{back, once_step, within_are, within_none}

-- ---- tests

and_both : (a b : Bool) → a ≡ true → b ≡ true → (a && b) ≡ true
and_both a b one two = ap (λ x. x && b) one ∙ two

and_left : (a b : Bool) → (a && b) ≡ true → a ≡ true
and_left true b h = refl
and_left false b h = h

and_right : (a b : Bool) → (a && b) ≡ true → b ≡ true
and_right true b h = h
and_right false true h = refl
and_right false false h = h

or_left : (a b : Bool) → a ≡ true → (a || b) ≡ true
or_left a b one = ap (λ x. x || b) one

or_right : (a b : Bool) → b ≡ true → (a || b) ≡ true
or_right true b two = refl
or_right false b two = two

-- a test that follows from another
all_more : {X : Type 0} (p q : X → Bool) → ((x : X) → p x ≡ true → q x ≡ true) → (xs : List X) → list_all p xs ≡ true → list_all q xs ≡ true
all_more p q more [] h = refl
all_more p q more (x ∷ xs) h = and_both (q x) (list_all q xs) (more x (and_left (p x) (list_all p xs) h)) (all_more p q more xs (and_right (p x) (list_all p xs) h))

all_append : {X : Type 0} (p : X → Bool) (xs ys : List X) → list_all p xs ≡ true → list_all p ys ≡ true → list_all p (xs ++ ys) ≡ true
all_append p xs ys one two = list_all-append p xs ys ∙ and_both (list_all p xs) (list_all p ys) one two

all_first : {X : Type 0} (p : X → Bool) (xs ys : List X) → list_all p (xs ++ ys) ≡ true → list_all p xs ≡ true
all_first p xs ys h = and_left (list_all p xs) (list_all p ys) (sym (list_all-append p xs ys) ∙ h)

all_later : {X : Type 0} (p : X → Bool) (xs ys : List X) → list_all p (xs ++ ys) ≡ true → list_all p ys ≡ true
all_later p xs ys h = and_right (list_all p xs) (list_all p ys) (sym (list_all-append p xs ys) ∙ h)

-- ---- conditions that are asked for

same_self : (c : Condition) → same_condition c c ≡ true
same_self c = and_both _ _ ((bytes_eq-Decides c.field c.field).1 refl) ((Decides-int_eq c.value c.value).1 refl)

asks_longer : (kept more : List Condition) (c : Condition) → asks kept c ≡ true → asks (kept ++ more) c ≡ true
asks_longer kept more c h = list_any-append (same_condition c) kept more ∙ or_left (asks kept c) (asks more c) h

asks_added : (kept cs : List Condition) (c : Condition) → asks kept c ≡ true → asks (adds kept cs) c ≡ true
asks_added kept [] c h = h
asks_added kept (d ∷ cs) c h = asks_added (kept ++ once_more kept d) cs c (asks_longer kept (once_more kept d) c h)

-- a condition that was put at the end
asks_last : (kept : List Condition) (c : Condition) → asks (kept ++ once_more kept c) c ≡ true
asks_last kept c = by (asks kept c) refl
  where
    by : (b : Bool) → asks kept c ≡ b → asks (kept ++ cond b [] (c ∷ [])) c ≡ true
    by true h = asks_longer kept [] c h
    by false h = list_any-append (same_condition c) kept (c ∷ []) ∙ or_right (asks kept c) (asks (c ∷ []) c) (or_left (same_condition c c) false (same_self c))

-- conditions that came in
all_added : (kept cs : List Condition) → list_all (asks (adds kept cs)) cs ≡ true
all_added kept [] = refl
all_added kept (c ∷ cs) =
    let next : List Condition = kept ++ once_more kept c in
    and_both (asks (adds next cs) c) (list_all (asks (adds next cs)) cs) (asks_added next cs c (asks_last kept c)) (all_added next cs)

-- conditions that are asked for already
none_added : (kept cs : List Condition) → list_all (asks kept) cs ≡ true → adds kept cs ≡ kept
none_added kept [] h = refl
none_added kept (c ∷ cs) h =
    let same : kept ++ once_more kept c ≡ kept = ap (λ b. kept ++ cond b [] (c ∷ [])) (and_left (asks kept c) (list_all (asks kept) cs) h) ∙ append-nil kept in
    ap (λ k. adds k cs) same ∙ none_added kept cs (and_right (asks kept c) (list_all (asks kept) cs) h)

-- some after others
adds_append : (kept xs ys : List Condition) → adds kept (xs ++ ys) ≡ adds (adds kept xs) ys
adds_append kept [] ys = refl
adds_append kept (x ∷ xs) ys = adds_append (kept ++ once_more kept x) xs ys

-- each once, at its first place
once_from : (kept cs : List Condition) → adds kept cs ≡ kept ++ once_after (back kept []) cs
once_from kept [] = sym (append-nil kept)
once_from kept (c ∷ cs) =
    once_from (kept ++ once_more kept c) cs ∙ once_step kept c cs (kept ++ once_more kept c) (kept ++ once_after (back kept []) (c ∷ cs)) refl refl

pub adds_once : (cs : List Condition) → adds [] cs ≡ once_after [] cs
adds_once cs = once_from [] cs

-- ---- fewer steps give fewer conditions

module _ (ts : Types) (t : ℕ) (p : Condition → Bool) where
  -- what each step gives
  abbrev Fewer : ℕ → ℕ → Type 0
  Fewer fewer more = (under : List ℕ) → list_all p (conditions_within more ts t under) ≡ true → list_all p (conditions_within fewer ts t under) ≡ true

  fields_fewer : (fewer more : ℕ) → Fewer fewer more → (fs : List Field)
      → list_all p (flat_map (λ (f : Field). conditions_within more ts t f.under) fs) ≡ true → list_all p (flat_map (λ (f : Field). conditions_within fewer ts t f.under) fs) ≡ true
  fields_fewer fewer more less [] h = refl
  fields_fewer fewer more less (f ∷ fs) h =
      all_append p (conditions_within fewer ts t f.under) (flat_map (λ (g : Field). conditions_within fewer ts t g.under) fs)
      (less f.under (all_first p (conditions_within more ts t f.under) (flat_map (λ (g : Field). conditions_within more ts t g.under) fs) h))
      (fields_fewer fewer more less fs (all_later p (conditions_within more ts t f.under) (flat_map (λ (g : Field). conditions_within more ts t g.under) fs) h))

  rows_fewer : (fewer more : ℕ) → Fewer fewer more → (cs : List Condition)
      → list_all p (flat_map (with_earlier more ts t) cs) ≡ true → list_all p (flat_map (with_earlier fewer ts t) cs) ≡ true
  rows_fewer fewer more less [] h = refl
  rows_fewer fewer more less (c ∷ cs) h =
      let held : (steps : ℕ) → List Condition = λ steps. flat_map (λ (f : Field). conditions_within steps ts t f.under) (option_to_list (field ts t c.field)) in
      let one : list_all p (with_earlier more ts t c) ≡ true = all_first p (with_earlier more ts t c) (flat_map (with_earlier more ts t) cs) h in
      all_append p (with_earlier fewer ts t c) (flat_map (with_earlier fewer ts t) cs)
      (all_append p (held fewer) (c ∷ []) (fields_fewer fewer more less (option_to_list (field ts t c.field)) (all_first p (held more) (c ∷ []) one)) (all_later p (held more) (c ∷ []) one))
      (rows_fewer fewer more less cs (all_later p (with_earlier more ts t c) (flat_map (with_earlier more ts t) cs) h))

  within_fewer : (fewer more : ℕ) → fewer ≤ more → Fewer fewer more
  within_fewer zero more le under h = refl
  within_fewer (suc fewer) zero le under h = absurd (omega (arith, le))
  within_fewer (suc fewer) (suc more) le under h =
      let less : fewer ≤ more = omega (arith, le) in
      rows_fewer fewer more (within_fewer fewer more less) (filter_map (condition ts) under) h

  after_fewer : (fewer more subtype : ℕ) → fewer ≤ more → list_all p (conditions_after more ts t subtype) ≡ true → list_all p (conditions_after fewer ts t subtype) ≡ true
  after_fewer fewer more subtype le h = rows_fewer fewer more (within_fewer fewer more le) (option_to_list (condition ts subtype)) h

-- ---- gathering

flat_last : {X Y : Type 0} (f : X → List Y) (xs : List X) (x : X) → flat_map f (xs ++ x ∷ []) ≡ flat_map f xs ++ f x
flat_last f [] x = append-nil (f x)
flat_last f (y ∷ ys) x = ap (λ zs. f y ++ zs) (flat_last f ys x) ∙ sym (append_assoc (f y) (flat_map f ys) (f x))

take_further : (xs : List ℕ) (i x : ℕ) → i < length xs → x ≡ get_or xs i x → take (i + 1) xs ≡ take i xs ++ x ∷ []
take_further xs i x lt at = take_more xs i x lt ∙ ap (λ y. take i xs ++ y ∷ []) (sym at)

module _ (ts : Types) (t : ℕ) where
  pub gathered_none : (a : AskedConditions) → IsGathered ts t a a []
  unfolding IsGathered
  gathered_none a h = (refl, h)

  pub gathered_two : (a b d : AskedConditions) (xs ys : List Condition) → IsGathered ts t a b xs → IsGathered ts t b d ys → IsGathered ts t a d (xs ++ ys)
  unfolding IsGathered
  gathered_two a b d xs ys one two h =
      let first : (seen_kept b ≡ adds (seen_kept a) xs) × Covers ts t (seen_kept b) (steps_done b) = one h in
      let then : (seen_kept d ≡ adds (seen_kept b) ys) × Covers ts t (seen_kept d) (steps_done d) = two first.1 in
      (then.0 ∙ ap (λ k. adds k ys) first.0 ∙ sym (adds_append (seen_kept a) xs ys), then.1)

  pub gathered_same : (a b : AskedConditions) (xs ys : List Condition) → xs ≡ ys → IsGathered ts t a b xs → IsGathered ts t a b ys
  gathered_same a b xs ys is h = subst (IsGathered ts t a b) is h

  -- no steps are left
  pub gathered_end : (a : AskedConditions) (steps : ℕ) (under : List ℕ) → steps ≡ 0 → IsGathered ts t a a (conditions_within steps ts t under)
  gathered_end a steps under none = gathered_same a a [] (conditions_within steps ts t under) (within_none steps ts t under none) (gathered_none a)

  -- a field that isn't there
  pub gathered_nowhere : (a : AskedConditions) (steps : ℕ) (name : List ℕ) → None ≡ field ts t name → IsGathered ts t a a (conditions_of_field steps ts t name)
  gathered_nowhere a steps name none =
      gathered_same a a [] (conditions_of_field steps ts t name)
      (ap (λ (o : Option Field). flat_map (λ (f : Field). conditions_within steps ts t f.under) (option_to_list o)) none) (gathered_none a)

  -- a subtype that has no condition
  pub gathered_always : (a : AskedConditions) (steps subtype : ℕ) → None ≡ condition ts subtype → IsGathered ts t a a (conditions_after steps ts t subtype)
  gathered_always a steps subtype none =
      gathered_same a a [] (conditions_after steps ts t subtype) (ap (λ (o : Option Condition). flat_map (with_earlier steps ts t) (option_to_list o)) none) (gathered_none a)

  -- a subtype that is done
  pub gathered_done : (a : AskedConditions) (subtype steps : ℕ) → is_done (steps_done a subtype) steps ≡ true → IsGathered ts t a a (conditions_after steps ts t subtype)
  unfolding IsGathered
  gathered_done a subtype steps done h = by (steps_done a subtype) refl done
    where
      by : (o : Option ℕ) → steps_done a subtype ≡ o → is_done o steps ≡ true → (seen_kept a ≡ adds (seen_kept a) (conditions_after steps ts t subtype)) × Covers ts t (seen_kept a) (steps_done a)
      by None is never = absurd (true≢false (sym never))
      by (Some most) is le = (sym (none_added (seen_kept a) (conditions_after steps ts t subtype) (h subtype steps most is (grind (arith, le)))), h)

  -- a condition after those that its field is under, and its subtype is done
  pub gathered_last : (a b d : AskedConditions) (subtype steps : ℕ) (c : Condition) (name : List ℕ)
      → IsGathered ts t a b (conditions_of_field steps ts t name) → name ≡ c.field → Some c ≡ condition ts subtype
      → seen_kept d ≡ seen_kept b ++ once_more (seen_kept b) c → ((q : ℕ) → steps_done d q ≡ cond (nat_eq subtype q) (Some steps) (steps_done b q))
      → IsGathered ts t a d (conditions_after steps ts t subtype)
  unfolding IsGathered
  gathered_last a b d subtype steps c name before named is kept marked h = (all_kept, covers)
    where
      earlier : List Condition
      earlier = conditions_of_field steps ts t name

      first : (seen_kept b ≡ adds (seen_kept a) earlier) × Covers ts t (seen_kept b) (steps_done b)
      first = before h

      whole : List Condition
      whole = conditions_after steps ts t subtype

      whole_is : earlier ++ c ∷ [] ≡ whole
      whole_is =
          ap (λ (n : List ℕ). conditions_of_field steps ts t n ++ c ∷ []) named
          ∙ sym (append-nil (with_earlier steps ts t c)) ∙ ap (λ (o : Option Condition). flat_map (with_earlier steps ts t) (option_to_list o)) is

      all_kept : seen_kept d ≡ adds (seen_kept a) whole
      all_kept = kept ∙ ap (λ k. k ++ once_more k c) first.0 ∙ sym (adds_append (seen_kept a) earlier (c ∷ [])) ∙ ap (adds (seen_kept a)) whole_is

      asked : list_all (asks (seen_kept d)) whole ≡ true
      asked = ap (λ k. list_all (asks k) whole) all_kept ∙ all_added (seen_kept a) whole

      longer : (x : Condition) → asks (seen_kept b) x ≡ true → asks (seen_kept d) x ≡ true
      longer x held = ap (λ k. asks k x) kept ∙ asks_longer (seen_kept b) (once_more (seen_kept b) c) x held

      by : (q fewer most : ℕ) (same : Bool) → nat_eq subtype q ≡ same → cond same (Some steps) (steps_done b q) ≡ Some most → fewer ≤ most → list_all (asks (seen_kept d)) (conditions_after fewer ts t q) ≡ true
      by q fewer most true same found le =
          let one : subtype ≡ q = grind (arith, same) in
          let many : steps ≡ most = cc in
          let less : fewer ≤ steps = omega arith in
          ap (λ s. list_all (asks (seen_kept d)) (conditions_after fewer ts t s)) (sym one) ∙ after_fewer ts t (asks (seen_kept d)) fewer steps subtype less asked
      by q fewer most false same found le = all_more (asks (seen_kept b)) (asks (seen_kept d)) longer (conditions_after fewer ts t q) (first.1 q fewer most found le)

      covers : Covers ts t (seen_kept d) (steps_done d)
      covers q fewer most found le = by q fewer most (nat_eq subtype q) refl (sym (marked q) ∙ found) le

  -- a fresh start
  pub gathered_all : (a b : AskedConditions) (cs : List Condition) → seen_kept a ≡ [] → ((q : ℕ) → steps_done a q ≡ None) → IsGathered ts t a b cs → seen_kept b ≡ once_after [] cs
  unfolding IsGathered
  gathered_all a b cs none fresh gathered =
      (gathered (λ q steps most found le. absurd (true≢false (sym (ap is_some (sym (fresh q) ∙ found)))))).0 ∙ ap (λ k. adds k cs) none ∙ adds_once cs

  -- a subtype further
  pub gathered_more : (a b d : AskedConditions) (steps : ℕ) (under : List ℕ) (i subtype : ℕ) → i < length under → subtype ≡ get_or under i subtype
      → IsGathered ts t a b (flat_map (conditions_after steps ts t) (take i under)) → IsGathered ts t b d (conditions_after steps ts t subtype)
      → IsGathered ts t a d (flat_map (conditions_after steps ts t) (take (i + 1) under))
  gathered_more a b d steps under i subtype lt at before one =
      gathered_same a d (flat_map (conditions_after steps ts t) (take i under) ++ conditions_after steps ts t subtype) (flat_map (conditions_after steps ts t) (take (i + 1) under))
      (sym (ap (flat_map (conditions_after steps ts t)) (take_further under i subtype lt at) ∙ flat_last (conditions_after steps ts t) (take i under) subtype))
      (gathered_two a b d _ _ before one)

  -- all of them
  pub gathered_each : (a b : AskedConditions) (steps : ℕ) (under : List ℕ) (i : ℕ) → 0 < steps → length under ≤ i
      → IsGathered ts t a b (flat_map (conditions_after (steps - 1) ts t) (take i under)) → IsGathered ts t a b (conditions_within steps ts t under)
  gathered_each a b steps under i some end h =
      gathered_same a b (flat_map (conditions_after (steps - 1) ts t) (take i under)) (conditions_within steps ts t under)
      (ap (flat_map (conditions_after (steps - 1) ts t)) (take_all i under end) ∙ within_are steps ts t under some) h

-- ---- results

pub on_both : {X E : Type 0} (P Q R : Type 0) → (P → Q → R) → (r : Result X E) → OnOk r P → OnOk r Q → OnOk r R
on_both P Q R more (Ok x) p q = more p q
on_both P Q R more (Err e) p q = tt
