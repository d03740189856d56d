-- What the parts of a node need, by what the node needs.
use Rattle.std.proofs.Common.{◌≡◌, ℕ, refl, sym, ap, ap₂, ◌∙◌, subst, List, [], ◌∷◌, map, length, get_or, Bool, true, ◌&&◌, ◌<◌, zero, suc, arith}
use Rattle.std.specs.List.{list_all}
use Rattle.expr_nodes.specs.osc_base.LowestTerms.{lcm}
use Rattle.expr_nodes.specs.declared.compare.Compare.{Compare}
use Rattle.expr_nodes.specs.declared.node.Join.{Join}
use Rattle.expr_nodes.specs.declared.node.Info.{Info}
use Rattle.expr_nodes.specs.declared.node.Earlier.{Earlier}
use Rattle.expr_nodes.specs.declared.node.Typed.{Typed}
use Rattle.expr_nodes.specs.declared.node.Typed.TheViews
use Rattle.expr_nodes.specs.Typed as Nodes
use Rattle.expr_nodes.specs.Seen.{Reached, seen, seen_info, reached}
use Rattle.expr_nodes.proofs.SeenNodes.{seen_joined, seen_listed, reached_is}
use Rattle.expr_value.proofs.Shapes.{seen_implies, seen_relation, seen_within, seen_span}
use Rattle.flat_terms.proofs.of_field_flatten.Tests.{left_of, right_of}
use Rattle.flat_terms.specs.declared.rows.TermRow.{TermRow}
use Rattle.flat_terms.specs.declared.rows.RuleRow.{RuleRow}
use Rattle.flat_shapes.specs.Room.{own_scale, is_small, has_room, can_equal}
use Rattle.flat_shapes.specs.Nodes.{part_scale, has_terms, has_rules, can_relate, can_be_in}
use Rattle.flat_shapes.proofs.RowCases.{InRow, terms_room, rules_room}

pub implied_room : (t left right first second : Typed) (info : Info) → t ≡ TheViews.Implies info left right → first ≡ left → second ≡ right → has_room 1 (seen t) ≡ true
    → (has_room 1 (seen first) ≡ true) × (has_room 1 (seen second) ≡ true)
implied_room t left right first second info is same like h =
    let k : has_room 1 (Nodes.Implies (seen_info info) (seen left) (seen right)) ≡ true = subst (λ n. has_room 1 n ≡ true) (ap seen is ∙ seen_implies info left right) h in
    let parts : has_room 1 (seen left) && has_room 1 (seen right) ≡ true = right_of (is_small 1) (has_room 1 (seen left) && has_room 1 (seen right)) k in (
      subst (λ z. has_room 1 (seen z) ≡ true) (sym same) (left_of (has_room 1 (seen left)) (has_room 1 (seen right)) parts),
      subst (λ z. has_room 1 (seen z) ≡ true) (sym like) (right_of (has_room 1 (seen left)) (has_room 1 (seen right)) parts),
    )

-- the right side of a relation at the common scale
pub common_room : (a b : Nodes.Typed) (d d' c : ℕ) → d ≡ own_scale a → d' ≡ own_scale b → c ≡ lcm d d' → can_relate a b ≡ true → has_room c b ≡ true
common_room a b d d' c first second is h =
    let m = lcm (own_scale a) (own_scale b) in
    subst (λ n. has_room n b ≡ true) (sym (is ∙ ap₂ lcm first second)) (right_of (has_room m a) (has_room m b) (right_of (is_small m) (has_room m a && has_room m b) h))

pub sides_room : (t left right first second : Typed) (info : Info) (sign : Compare) → t ≡ TheViews.Relation info sign left right → first ≡ left → second ≡ right → has_room 1 (seen t) ≡ true
    → can_relate (seen first) (seen second) ≡ true
sides_room t left right first second info sign is same like h =
    let k : has_room 1 (Nodes.Relation (seen_info info) sign (seen left) (seen right)) ≡ true = subst (λ n. has_room 1 n ≡ true) (ap seen is ∙ seen_relation info sign left right) h in
    subst (λ z. can_relate (seen z) (seen second) ≡ true) (sym same)
    (subst (λ z. can_relate (seen left) (seen z) ≡ true) (sym like) (right_of (is_small 1) (can_relate (seen left) (seen right)) k))

pub within_room : (t left right first second : Typed) (info : Info) → t ≡ TheViews.Within info left right → first ≡ left → second ≡ right → has_room 1 (seen t) ≡ true
    → can_be_in (seen first) (seen second) ≡ true
within_room t left right first second info is same like h =
    let k : has_room 1 (Nodes.Within (seen_info info) (seen left) (seen right)) ≡ true = subst (λ n. has_room 1 n ≡ true) (ap seen is ∙ seen_within info left right) h in
    subst (λ z. can_be_in (seen z) (seen second) ≡ true) (sym same)
    (subst (λ z. can_be_in (seen left) (seen z) ≡ true) (sym like) (right_of (is_small 1) (can_be_in (seen left) (seen right)) k))

-- ---- ranges and lists

pub low_room : (t low high shown : Typed) (info : Info) (left : Nodes.Typed) → t ≡ TheViews.Span info low high → shown ≡ low → can_be_in left (seen t) ≡ true → can_relate (seen shown) left ≡ true
low_room t low high shown info left is same h =
    let k : can_be_in left (Nodes.Span (seen_info info) (seen low) (seen high)) ≡ true = subst (λ n. can_be_in left n ≡ true) (ap seen is ∙ seen_span info low high) h in
    subst (λ z. can_relate (seen z) left ≡ true) (sym same) (left_of (can_relate (seen low) left) (can_relate left (seen high)) k)

pub high_room : (t low high shown : Typed) (info : Info) (left : Nodes.Typed) → t ≡ TheViews.Span info low high → shown ≡ high → can_be_in left (seen t) ≡ true → can_relate left (seen shown) ≡ true
high_room t low high shown info left is same h =
    let k : can_be_in left (Nodes.Span (seen_info info) (seen low) (seen high)) ≡ true = subst (λ n. can_be_in left n ≡ true) (ap seen is ∙ seen_span info low high) h in
    subst (λ z. can_relate left (seen z) ≡ true) (sym same) (right_of (can_relate (seen low) left) (can_relate left (seen high)) k)

row_room : (left : Nodes.Typed) (items : List Nodes.Typed) → can_equal (own_scale left) (λ c. has_room c left) (Nodes.row_of items) ≡ list_all (can_relate left) items
row_room left [] = refl
row_room left (x ∷ xs) = ap (λ b. can_relate left x && b) (row_room left xs)

pub items_room : (t : Typed) (info : Info) (is_field : Bool) (items shown : List Typed) (left : Nodes.Typed) → t ≡ TheViews.Listed info is_field items → shown ≡ items → can_be_in left (seen t) ≡ true
    → list_all (can_relate left) (map seen shown) ≡ true
items_room t info is_field items shown left is same h =
    let k : can_be_in left (Nodes.Listed (seen_info info) is_field (Nodes.row_of (map seen items))) ≡ true = subst (λ n. can_be_in left n ≡ true) (ap seen is ∙ seen_listed info is_field items) h in
    subst (λ xs. list_all (can_relate left) (map seen xs) ≡ true) (sym same) (sym (row_room left (map seen items)) ∙ k)

-- a test of all elements holds of each
pub each : {A B : Type 0} (f : A → B) (test : B → Bool) (xs : List A) (i : ℕ) (x : A) → i < length xs → x ≡ get_or xs i x → list_all test (map f xs) ≡ true → test (f x) ≡ true
each f test [] i x less is h = absurd (omega arith)
each f test (y ∷ ys) zero x less is h = subst (λ z. test (f z) ≡ true) (sym is) (left_of (test (f y)) (list_all test (map f ys)) h)
each f test (y ∷ ys) (suc i) x less is h = each f test ys i x (omega arith) is (right_of (test (f y)) (list_all test (map f ys)) h)

-- ---- rows

pub terms_of_row : (t first last : Typed) (info : Info) (join : Join) (earlier : List Earlier) (by : TermRow) (e : ℕ) → t ≡ TheViews.Joined info join first earlier last → has_terms by e (seen t) ≡ true
    → InRow (has_room (part_scale by e (seen first)) (seen first)) (list_all (λ (r : Reached). has_room (part_scale by e r.part) r.part) (map reached earlier)) (has_room (part_scale by e (seen last)) (seen last))
terms_of_row t first last info join earlier by e is h =
    terms_room by e join (seen_info info) (seen first) (seen last) (map reached earlier) (subst (λ n. has_terms by e n ≡ true) (ap seen is ∙ seen_joined info join first earlier last) h)

pub rules_of_row : (t first last : Typed) (info : Info) (join : Join) (earlier : List Earlier) (by : RuleRow) → t ≡ TheViews.Joined info join first earlier last → has_rules by (seen t) ≡ true
    → InRow (has_room 1 (seen first)) (list_all (λ (r : Reached). has_room 1 r.part) (map reached earlier)) (has_room 1 (seen last))
rules_of_row t first last info join earlier by is h =
    rules_room by join (seen_info info) (seen first) (seen last) (map reached earlier) (subst (λ n. has_rules by n ≡ true) (ap seen is ∙ seen_joined info join first earlier last) h)

pub term_part : (by : TermRow) (e : ℕ) (parts : List Earlier) (i : ℕ) (x : Earlier) → i < length parts → x ≡ get_or parts i x
    → list_all (λ (r : Reached). has_room (part_scale by e r.part) r.part) (map reached parts) ≡ true → has_room (part_scale by e (seen x.part)) (seen x.part) ≡ true
term_part by e parts i x less is h =
    subst (λ (r : Reached). has_room (part_scale by e r.part) r.part ≡ true) (reached_is x) (each reached (λ (r : Reached). has_room (part_scale by e r.part) r.part) parts i x less is h)

pub rule_part : (parts : List Earlier) (i : ℕ) (x : Earlier) → i < length parts → x ≡ get_or parts i x
    → list_all (λ (r : Reached). has_room 1 r.part) (map reached parts) ≡ true → has_room 1 (seen x.part) ≡ true
rule_part parts i x less is h = subst (λ (r : Reached). has_room 1 r.part ≡ true) (reached_is x) (each reached (λ (r : Reached). has_room 1 r.part) parts i x less is h)

pub item_part : (left : Nodes.Typed) (items : List Typed) (i : ℕ) (x : Typed) → i < length items → x ≡ get_or items i x → list_all (can_relate left) (map seen items) ≡ true → can_relate left (seen x) ≡ true
item_part left items i x less is h = each seen (can_relate left) items i x less is h
