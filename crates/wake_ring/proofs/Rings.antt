-- What each change of the links makes of the list.
use Rattle.std.proofs.Common.{◌≡◌, ◌≢◌, ℕ, zero, suc, ◌+◌, ◌-◌, ◌^◌, ◌<◌, ◌≤◌, true, false, cond, eqb, List, [], ◌∷◌, ◌++◌, length, get_or, set, refl, sym, ap, subst, ◌∙◌, ◌⊎◌, Some, inl, inr, arith, length-set, length-append, get_or-set_same, get_or-set_other}
use Rattle.std.proofs.lemmas.Bool.{cases_eq, cases_Bool}
use Rattle.wake_ring.specs.Queue.{Queue, queue, is_in, without, first, rest}
use Rattle.wake_ring.specs.Links.{Links, next_at, prev_at, IsUnlinked, linked_before, unlinked}
use Rattle.wake_ring.specs.Order.{Lacks, IsDistinct, after_in, before_in, walk, items_of, IsRing}
use Rattle.wake_ring.proofs.Order.{same, other, last, front, last_within, before_end, after_absent, after_first, after_pushed, before_pushed, after_within, before_within, after_without, before_without, without_first, without_absent, in_rest}
use Rattle.wake_ring.proofs.Members.{lacks_from, differs, in_first, in_later, in_below, end_lacks, IsDistinct-push, AllBelow-push, IsDistinct-without, AllBelow-without, length-without}

-- ---- two writes to one list of links
pub two_sets : (l : List ℕ) (p i u v x : ℕ) → p < length l → i < length l
    → get_or (set (set l p u) i v) x 0 ≡ cond (eqb x i) v (cond (eqb x p) u (get_or l x 0))
two_sets l p i u v x p_in i_in =
    elim (cases_eq x i) [
      | inl e ↦ ap (λ k. get_or (set (set l p u) i v) k 0) e
          ∙ get_or-set_same (set l p u) i v 0 (omega (arith, length-set l p u)) ∙ sym (same x i v _ e)
      | inr ne ↦ get_or-set_other (set l p u) i x v 0 ne
          ∙ elim (cases_eq x p) as (λ _. get_or (set l p u) x 0 ≡ cond (eqb x p) u (get_or l x 0)) [
            | inl f ↦ ap (λ k. get_or (set l p u) k 0) f ∙ get_or-set_same l p u 0 p_in ∙ sym (same x p u _ f)
            | inr nf ↦ get_or-set_other l p x u 0 nf ∙ sym (other x p u _ nf)
          ]
          ∙ sym (other x i v _ ne)
    ]

-- ---- the list is what a walk along the links finds
walk_is : (nexts : List ℕ) (a z : ℕ) (xs : List ℕ) → Lacks a xs → IsDistinct xs
    → ((x : ℕ) → (x ≡ a) ⊎ (is_in x xs ≡ true) → get_or nexts x 0 ≡ after_in x a xs z) → walk (length xs) (get_or nexts a 0) nexts ≡ xs
walk_is nexts a z [] out distinct links = refl
walk_is nexts a z (b ∷ xs) out distinct links =
    let old : ℕ → ℕ = λ x. after_in x b xs z in
    ap (λ k. walk (suc (length xs)) k nexts) (links a (inl refl) ∙ after_first a z (b ∷ xs))
    ∙ ap (λ l. b ∷ l) (walk_is nexts b z xs distinct.0 distinct.1 (λ x place. elim place [
      | inl e ↦ let here = ap (λ k. is_in k (b ∷ xs)) e ∙ in_first b xs in
          links x (inr here) ∙ other x a b (old x) (differs a x (b ∷ xs) out here)
      | inr e ↦ let here = in_later x b xs e in
          links x (inr here) ∙ other x a b (old x) (differs a x (b ∷ xs) out here)
    ]))

pub items_are : (end : ℕ) (l : Links) (xs : List ℕ) → IsRing end l xs → items_of end (length xs) l ≡ xs
items_are end l xs ring =
    walk_is l.nexts end end xs (end_lacks end xs ring.below) ring.distinct (λ x place. ring.forth x (elim place [
      | inl e ↦ omega arith
      | inr here ↦ omega (arith, in_below end x xs ring.below here)
    ]))

pub length-walk : (n x : ℕ) (nexts : List ℕ) → length (walk n x nexts) ≡ n
length-walk zero x nexts = refl
length-walk (suc n) x nexts = ap suc (length-walk n (get_or nexts x 0) nexts)

-- the list that a ring's fields stand for, where its links are those of xs and its count is right
pub read_back : (end n : ℕ) (l : Links) (xs : List ℕ) → IsRing end l xs → n ≡ length xs → items_of end n l ≡ xs
read_back end n l xs ring count = ap (λ k. items_of end k l) count ∙ items_are end l xs ring

pub settled : (end n : ℕ) (l : Links) (xs : List ℕ) → IsRing end l xs → n ≡ length xs → IsRing end l (items_of end n l)
settled end n l xs ring count = subst (λ ys. IsRing end l ys) (sym (read_back end n l xs ring count)) ring

-- ---- the calls
pub unlinked_ring : (end : ℕ) (l : Links) → end < 2 ^ 32 → IsUnlinked (suc end) l → IsRing end l []
unlinked_ring end l few alone = record {
  few = few;
  nexts = alone.nexts.0;
  prevs = alone.prevs.0;
  distinct = tt;
  below = tt;
  forth = λ x le. alone.nexts.1 x (omega arith) ∙ elim (cases_eq x end) [
    | inl e ↦ e ∙ sym (same x end end x e)
    | inr ne ↦ sym (other x end end x ne)
  ];
  back = λ x le. alone.prevs.1 x (omega arith) ∙ elim (cases_eq x end) [
    | inl e ↦ e ∙ sym (same x end end x e)
    | inr ne ↦ sym (other x end end x ne)
  ];
}

pub last_node : (end : ℕ) (l : Links) (xs : List ℕ) → IsRing end l xs → prev_at l end ≡ last end xs
last_node end l xs ring = ring.back end (omega arith) ∙ before_end end end xs (end_lacks end xs ring.below)

pub pushed : (end i : ℕ) (l : Links) (xs : List ℕ) → i < end → Lacks i xs → IsRing end l xs → IsRing end (linked_before end i l) (xs ++ i ∷ [])
pushed end i l xs lt lacks ring =
    let p = prev_at l end in
    let is_last = last_node end l xs ring in
    let p_in : p ≤ end = omega (arith, is_last, last_within end end xs (omega arith) ring.below) in
    let out = end_lacks end xs ring.below in
    let nexts = ring.nexts in let prevs = ring.prevs in
    let apart : i ≢ end = omega arith in
    record {
      few = ring.few;
      nexts = length-set (set l.nexts p i) i end ∙ length-set l.nexts p i ∙ nexts;
      prevs = length-set (set l.prevs end i) i p ∙ length-set l.prevs end i ∙ prevs;
      distinct = IsDistinct-push i xs lacks ring.distinct;
      below = AllBelow-push end i xs lt ring.below;
      forth = λ x le.
          two_sets l.nexts p i i end x (omega (arith, nexts)) (omega (arith, nexts))
          ∙ ap (λ y. cond (eqb x i) end (cond (eqb x p) i y)) (ring.forth x le)
          ∙ ap (λ k. cond (eqb x i) end (cond (eqb x k) i (after_in x end xs end))) is_last
          ∙ sym (after_pushed x i end end xs apart lacks out ring.distinct);
      back = λ x le.
          two_sets l.prevs end i i p x (omega (arith, prevs)) (omega (arith, prevs))
          ∙ ap (λ y. cond (eqb x i) p (cond (eqb x end) i y)) (ring.back x le)
          ∙ ap (λ k. cond (eqb x i) k (cond (eqb x end) i (before_in x end xs end))) is_last
          ∙ sym (before_pushed x i end end xs apart lacks out);
    }

-- the same number, under a test that it is i
at_itself : (x i y : ℕ) → cond (eqb x i) i y ≡ cond (eqb x i) x y
at_itself x i y = elim (cases_eq x i) [
  | inl e ↦ same x i i y e ∙ sym e ∙ sym (same x i x y e)
  | inr ne ↦ other x i i y ne ∙ sym (other x i x y ne)
]

pub removed : (end i : ℕ) (l : Links) (xs : List ℕ) → is_in i xs ≡ true → IsRing end l xs → IsRing end (unlinked i l) (without i xs)
removed end i l xs here ring =
    let lt = in_below end i xs ring.below here in
    let P = before_in i end xs end in let Q = after_in i end xs end in
    let p = prev_at l i in let q = next_at l i in
    let p_is : p ≡ P = ring.back i (omega arith) in
    let q_is : q ≡ Q = ring.forth i (omega arith) in
    let p_in : p ≤ end = omega (arith, p_is, before_within end i end end xs (omega arith) (omega arith) ring.below) in
    let q_in : q ≤ end = omega (arith, q_is, after_within end i end end xs (omega arith) (omega arith) ring.below) in
    let out = end_lacks end xs ring.below in
    let nexts = ring.nexts in let prevs = ring.prevs in
    let apart : i ≢ end = omega arith in
    record {
      few = ring.few;
      nexts = length-set (set l.nexts p q) i i ∙ length-set l.nexts p q ∙ nexts;
      prevs = length-set (set l.prevs q p) i i ∙ length-set l.prevs q p ∙ prevs;
      distinct = IsDistinct-without i xs ring.distinct;
      below = AllBelow-without end i xs ring.below;
      forth = λ x le.
          two_sets l.nexts p i q i x (omega (arith, nexts)) (omega (arith, nexts))
          ∙ at_itself x i (cond (eqb x p) q (get_or l.nexts x 0))
          ∙ ap (λ y. cond (eqb x i) x (cond (eqb x p) q y)) (ring.forth x le)
          ∙ ap (λ k. cond (eqb x i) x (cond (eqb x k) q (after_in x end xs end))) p_is
          ∙ ap (λ k. cond (eqb x i) x (cond (eqb x P) k (after_in x end xs end))) q_is
          ∙ sym (after_without x i end end xs apart here out ring.distinct);
      back = λ x le.
          two_sets l.prevs q i p i x (omega (arith, prevs)) (omega (arith, prevs))
          ∙ at_itself x i (cond (eqb x q) p (get_or l.prevs x 0))
          ∙ ap (λ y. cond (eqb x i) x (cond (eqb x q) p y)) (ring.back x le)
          ∙ ap (λ k. cond (eqb x i) x (cond (eqb x q) k (before_in x end xs end))) p_is
          ∙ ap (λ k. cond (eqb x i) x (cond (eqb x k) P (before_in x end xs end))) q_is
          ∙ sym (before_without x i end end xs apart apart here out ring.distinct);
    }

front_differs : (i z : ℕ) (xs : List ℕ) → i ≢ z → Lacks i xs → i ≢ front xs z
front_differs i z [] ne lacks = ne
front_differs i z (c ∷ xs) ne lacks = lacks.0

-- a number in the list is linked to another node
moves : (i a z : ℕ) (xs : List ℕ) → i ≢ a → i ≢ z → is_in i xs ≡ true → IsDistinct xs → after_in i a xs z ≢ i
moves i a z [] i≢a i≢z here distinct e = cc
moves i a z (b ∷ xs) i≢a i≢z here distinct e = elim (cases_eq i b) [
  | inl f ↦
      let step : after_in i a (b ∷ xs) z ≡ front xs z = other i a b (after_in i b xs z) i≢a ∙ ap (λ k. after_in k b xs z) f ∙ after_first b z xs in
      front_differs i z xs i≢z (subst (λ k. Lacks k xs) (sym f) distinct.0) (sym e ∙ step)
  | inr nf ↦ moves i b z xs nf i≢z (in_rest i b xs nf here) distinct.1 (sym (other i a b (after_in i b xs z) i≢a) ∙ e)
]

-- a node's link to itself tells that its number is not in the list
pub lacks_when : (end i : ℕ) (l : Links) (xs : List ℕ) → i < end → IsRing end l xs → next_at l i ≡ i → is_in i xs ≡ false
lacks_when end i l xs lt ring e = elim (cases_Bool (is_in i xs)) [
  | inl here ↦ absurd (moves i end end xs (omega arith) (omega arith) here ring.distinct (sym (ring.forth i (omega arith)) ∙ e))
  | inr gone ↦ gone
]

pub has_when : (end i : ℕ) (l : Links) (xs : List ℕ) → i < end → IsRing end l xs → (next_at l i ≡ i → ⊥) → is_in i xs ≡ true
has_when end i l xs lt ring ne = elim (cases_Bool (is_in i xs)) [
  | inl here ↦ here
  | inr gone ↦ absurd (ne (ring.forth i (omega arith) ∙ after_absent i end end xs (omega arith) (lacks_from i xs gone)))
]

-- the node after `end` is the first number's, or `end` itself
pub front_node : (end : ℕ) (l : Links) (xs : List ℕ) → IsRing end l xs → next_at l end ≡ front xs end
front_node end l xs ring = ring.forth end (omega arith) ∙ after_first end end xs

-- what stands beside a number, or beside the end, has links too
pub prev_there : (end i : ℕ) (l : Links) (xs : List ℕ) → i ≤ end → IsRing end l xs → prev_at l i < length l.nexts
prev_there end i l xs le ring = omega (arith, ring.nexts, ring.back i le, before_within end i end end xs (omega arith) le ring.below)

pub next_there : (end i : ℕ) (l : Links) (xs : List ℕ) → i ≤ end → IsRing end l xs → next_at l i < length l.nexts
next_there end i l xs le ring = omega (arith, ring.nexts, ring.forth i le, after_within end i end end xs (omega arith) le ring.below)

-- ---- a queue's fields after a call
-- a number below the queue's bound is below the number of the ring's end
pub in_bound : (q : Queue) (end n i : ℕ) (l : Links) → queue end (items_of end n l) ≡ q → i < q.bound → i < end
in_bound q end n i l e lt = subst (λ k. i < k) (ap (λ (p : Queue). p.bound) (sym e)) lt

-- the links are those of the list, and the count is its length
pub record Stands (end n : ℕ) (l : Links) (xs : List ℕ) : Type 0 where
  pub ring : IsRing end l xs
  pub count : n ≡ length xs

pub ring_of : (end n : ℕ) (l : Links) (xs : List ℕ) → Stands end n l xs → IsRing end l (items_of end n l)
ring_of end n l xs stands = settled end n l xs stands.ring stands.count

pub queue_is : (end n : ℕ) (l : Links) (xs : List ℕ) → Stands end n l xs → queue end (items_of end n l) ≡ queue end xs
queue_is end n l xs stands = ap (λ ys. queue end ys) (read_back end n l xs stands.ring stands.count)

pub pushed_stands : (end i n : ℕ) (l l' : Links) → i < end → IsRing end l (items_of end n l) → next_at l i ≡ i → l' ≡ linked_before end i l
    → Stands end (n + 1) l' (items_of end n l ++ i ∷ [])
pushed_stands end i n l l' lt ring alone is =
    let xs = items_of end n l in
    let lacks = lacks_from i xs (lacks_when end i l xs lt ring alone) in
    record {
      ring = subst (λ k. IsRing end k (xs ++ i ∷ [])) (sym is) (pushed end i l xs lt lacks ring);
      count = omega (arith, length-append xs (i ∷ []), length-walk n (next_at l end) l.nexts);
    }

pub removed_stands : (end i n : ℕ) (l l' : Links) → i < end → IsRing end l (items_of end n l) → (next_at l i ≡ i → ⊥) → l' ≡ unlinked i l
    → Stands end (n - 1) l' (without i (items_of end n l))
removed_stands end i n l l' lt ring linked is =
    let xs = items_of end n l in
    let here = has_when end i l xs lt ring linked in
    record {
      ring = subst (λ k. IsRing end k (without i xs)) (sym is) (removed end i l xs here ring);
      count = omega (arith, length-without i xs here ring.distinct, length-walk n (next_at l end) l.nexts);
    }

-- the first number of a queue that is not empty, and the queue without it
pub record Taken (end n i : ℕ) (l : Links) (xs : List ℕ) : Type 0 where
  pub first_is : first xs ≡ Some i
  pub below : i < end
  pub stands : Stands end (n - 1) (unlinked i l) (rest xs)

taken_from : (end n i : ℕ) (l : Links) (xs : List ℕ) → IsRing end l xs → n ≡ length xs → i ≡ next_at l end → i ≢ end → Taken end n i l xs
taken_from end n i l [] ring count is ne = absurd (ne (is ∙ front_node end l [] ring))
taken_from end n i l (b ∷ xs) ring count is ne =
    let i_is : i ≡ b = is ∙ front_node end l (b ∷ xs) ring in
    let gone : without b (b ∷ xs) ≡ xs = without_first b xs ∙ without_absent b xs ring.distinct.0 in
    let after = subst (λ ys. IsRing end (unlinked b l) ys) gone (removed end b l (b ∷ xs) (in_first b xs) ring) in
    record {
      first_is = ap Some (sym i_is);
      below = omega (arith, i_is, ring.below.0);
      stands = record {
        ring = subst (λ k. IsRing end (unlinked k l) xs) (sym i_is) after;
        count = omega (arith, count);
      };
    }

pub taken : (end n i : ℕ) (l : Links) → IsRing end l (items_of end n l) → i ≡ next_at l end → i ≢ end → Taken end n i l (items_of end n l)
taken end n i l ring is ne = taken_from end n i l (items_of end n l) ring (sym (length-walk n (next_at l end) l.nexts)) is ne
