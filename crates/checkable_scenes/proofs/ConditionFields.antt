-- The field that a conditional subtype's condition looks at is a field of each type that has members of the subtype.
use Rattle.std.proofs.Common.{◌≡◌, ℕ, ◌<◌, refl, sym, ap, ◌∙◌, subst, inl, inr, List, [], ◌∷◌, ◌++◌, true, false, ◌||◌, not, Option, Some, None, length, true≢false}
use Rattle.std.specs.Prelude.{filter, is_some, bytes_eq, nat_lt, option_map, option_and_then, ℤ}
use Rattle.std.specs.Option.{option_map_or}
use Rattle.std.proofs.lemmas.Slice.Eq.{bytes_eq-Decides}
use Rattle.osc_base.specs.declared.fault.Place.{Place}
use Rattle.expr_eval.specs.dsl_tree.declared.parts.Ident.{Ident}
use Rattle.expr_eval.specs.dsl_tree.declared.compounds.HeirCondition.{HeirCondition}
use Rattle.expr_eval.specs.dsl_tree.FileTree.{FieldTree, MemberTree}
use Rattle.expr_eval.specs.type_heads.Form.{Form}
use Rattle.expr_eval.specs.type_heads.Table.{base, bases, form}
use Rattle.expr_eval.specs.type_heads.Types.{Types, Written, Member, Field}
use Rattle.expr_eval.specs.type_heads.Members.{has, heir_condition, is_conditional, items_in, list_length, members, members_of, fields_declared, fields, field, field_type, declared_type}
use Rattle.expr_eval.specs.type_heads.Conditions.{Condition, condition_value, condition_on, condition}
use Rattle.expr_eval.specs.type_heads.MemberFaults.{can_decide, condition_field, depends_on, decided_rows, field_rows}
use Rattle.expr_eval.specs.type_heads.Cycles.{returns}
use Rattle.expr_eval.specs.expr_nodes.Parts.{any_holds}
use Rattle.run_values.proofs.of_field_flatten.Tests.{two_ways, In, in_left, in_right, in_map, map_in, in_flat_map, flat_map_in, in_filter, filter_in, found_in}
use Rattle.scene_laws.proofs.FaultRows.{no_left, no_right, not_so}
use Rattle.scene_laws.proofs.FieldNames.{AreCounted, less, more}
use Rattle.scene_laws.proofs.WrittenMembers.{members_written}
use Rattle.scene_laws.proofs.Acyclic.{has_in}
use Rattle.scene_laws.proofs.HeldTypes.{AreBased, AreMembersOf}
use Rattle.checkable_scenes.proofs.Inherited.{bases_step, Up, up_trans, Chain, chain_append, chain_in, chain_before, chain_above, chain_member, Comes, member_comes}

-- what is known of the types of a program without faults of headings and members
pub record IsInherited (ts : Types) : Type 0 where
  pub based : AreBased ts.table.heads
  pub unlooped : (t : ℕ) → has t (bases ts.table.heads t) ≡ false
  pub listed : AreMembersOf ts
  pub counted : AreCounted ts
  pub found : (t : ℕ) (f : Field) → In f (fields ts t) → field ts t f.name.text ≡ Some f
  pub decided : (s : ℕ) → s < length ts.table.heads → (c : HeirCondition) → heir_condition ts.bodies s ≡ Some c → any_holds (field_rows ts c (condition_field ts s)) ≡ false
  pub steady : (s : ℕ) → s < length ts.table.heads → is_conditional ts.bodies s ≡ true → returns (length ts.table.heads) (depends_on ts) s ≡ false

-- the field that a condition looks at in an object of type t
pub record Asked (ts : Types) (t s : ℕ) (c : Condition) : Type 0 where
  pub asked : Field
  pub inside : In asked (fields ts t)
  pub at : field ts t c.field ≡ Some asked
  pub of : ℕ
  pub typed : field_type ts asked ≡ Some of
  pub written : HeirCondition
  pub value : condition_value (form ts.table.heads of) written.value ≡ Some c.value
  pub alone : list_length asked.tree ≡ None
  pub depends : (x : ℕ) → In x asked.under → In x (depends_on ts s)

-- a condition of a type, taken apart
record Parts (ts : Types) (s : ℕ) (c : Condition) : Type 0 where
  from : ℕ
  based : base ts.table.heads s ≡ Some from
  written : HeirCondition
  heir : heir_condition ts.bodies s ≡ Some written
  asked : Field
  at : field ts from written.field.text ≡ Some asked
  of : ℕ
  typed : field_type ts asked ≡ Some of
  value : condition_value (form ts.table.heads of) written.value ≡ Some c.value
  named : c.field ≡ written.field.text

parts_of : (ts : Types) (s : ℕ) (c : Condition) → condition ts s ≡ Some c → Parts ts s c
parts_of ts s c h = by_base (base ts.table.heads s) refl h
  where
    by_value : (b : ℕ) → base ts.table.heads s ≡ Some b → (w : HeirCondition) → heir_condition ts.bodies s ≡ Some w → (f : Field) → field ts b w.field.text ≡ Some f → (of : ℕ) → field_type ts f ≡ Some of
        → (o : Option ℤ) → condition_value (form ts.table.heads of) w.value ≡ o → option_map (λ (n : ℤ). record { field = w.field.text; value = n; subtype = s }) o ≡ Some c → Parts ts s c
    by_value b p w q f r of u None v e = cc
    by_value b p w q f r of u (Some n) v e =
        let is : record { field = w.field.text; value = n; subtype = s } ≡ c = cc in
        record { from = b; based = p; written = w; heir = q; asked = f; at = r; of = of; typed = u; value = v ∙ ap (λ (z : Condition). Some z.value) is; named = sym (ap (λ (z : Condition). z.field) is) }

    by_type : (b : ℕ) → base ts.table.heads s ≡ Some b → (w : HeirCondition) → heir_condition ts.bodies s ≡ Some w → (f : Field) → field ts b w.field.text ≡ Some f → (o : Option ℕ) → field_type ts f ≡ o
        → option_and_then (λ (x : Form). option_map (λ (n : ℤ). record { field = w.field.text; value = n; subtype = s }) (condition_value x w.value)) (option_map (form ts.table.heads) o) ≡ Some c → Parts ts s c
    by_type b p w q f r None u e = cc
    by_type b p w q f r (Some of) u e = by_value b p w q f r of u (condition_value (form ts.table.heads of) w.value) refl e

    by_field : (b : ℕ) → base ts.table.heads s ≡ Some b → (w : HeirCondition) → heir_condition ts.bodies s ≡ Some w → (o : Option Field) → field ts b w.field.text ≡ o
        → option_and_then (λ (x : Form). option_map (λ (n : ℤ). record { field = w.field.text; value = n; subtype = s }) (condition_value x w.value)) (option_map (form ts.table.heads) (option_and_then (field_type ts) o)) ≡ Some c → Parts ts s c
    by_field b p w q None r e = cc
    by_field b p w q (Some f) r e = by_type b p w q f r (field_type ts f) refl e

    by_heir : (b : ℕ) → base ts.table.heads s ≡ Some b → (o : Option HeirCondition) → heir_condition ts.bodies s ≡ o → option_and_then (condition_on ts s b) o ≡ Some c → Parts ts s c
    by_heir b p None q e = cc
    by_heir b p (Some w) q e = by_field b p w q (field ts b w.field.text) refl e

    by_base : (o : Option ℕ) → base ts.table.heads s ≡ o → option_and_then (λ b. option_and_then (condition_on ts s b) (heir_condition ts.bodies s)) o ≡ Some c → Parts ts s c
    by_base None p e = cc
    by_base (Some b) p e = by_heir b p (heir_condition ts.bodies s) refl e

-- a field is declared by each member with its text
record Again (f : Field) (m n : Member) : Type 0 where
  again : Field
  inside : In again (fields_declared n n.written.member)
  name : again.name ≡ f.name
  tree : again.tree ≡ f.tree
  under : again.under ≡ n.under
  before : f.under ≡ m.under

declared_again : (f : Field) (m n : Member) → n.written ≡ m.written → In f (fields_declared m m.written.member) → Again f m n
declared_again f m n same i = by m.written.member (ap (λ (w : Written). w.member) same) i
  where
    by : (tree : MemberTree) → n.written.member ≡ tree → In f (fields_declared m tree) → Again f m n
    by (MemberTree.Field x) e j =
        let g = map_in (λ (i : Ident). record { name = i; tree = x; holder = m.holder; under = m.under }) x.names f j in
        record {
          again = record { name = g.0; tree = x; holder = n.holder; under = n.under };
          inside = subst (λ z. In (record { name = g.0; tree = x; holder = n.holder; under = n.under }) (fields_declared n z)) (sym e)
              (in_map (λ (i : Ident). record { name = i; tree = x; holder = n.holder; under = n.under }) x.names g.0 g.1);
          name = sym (ap (λ (z : Field). z.name) g.2);
          tree = sym (ap (λ (z : Field). z.tree) g.2);
          under = refl;
          before = ap (λ (z : Field). z.under) g.2;
        }
    by (MemberTree.Rule r) e j = absurd j
    by (MemberTree.Do place phase) e j = absurd j

module _ (ts : Types) (k : IsInherited ts) where
  abbrev Above : ℕ → ℕ → Type 0
  Above a t = Up ts.table.heads k.based k.unlooped a t

  abbrev Leads : ℕ → List ℕ → ℕ → Type 0
  Leads a cs h = Chain ts.table.heads k.based k.unlooped ts.bodies a cs h

  pub member_below : (t : ℕ) (m : Member) → In m (members ts t) → (t < length ts.table.heads) × In m (members_of ts.table.heads ts.bodies t)
  member_below t m i = two_ways (nat_lt t (length ts.table.heads))
      (λ e. let below = less t (length ts.table.heads) e in (below, subst (λ l. In m l) (k.listed t below) i))
      (λ e. absurd (subst (λ l. In m l) (k.counted t (more t (length ts.table.heads) e)) i))

  comes : (t : ℕ) (m : Member) → In m (members ts t) → Comes ts.table.heads k.based k.unlooped ts.bodies t m
  comes t m i = member_comes ts.table.heads k.based k.unlooped ts.bodies t m (member_below t m i).1

  -- what a member is under is of its chain
  under_in : (t : ℕ) (m : Member) (i : In m (members ts t)) (s : ℕ) → In s m.under → In s (comes t m i).chain
  under_in t m i s j = let c = comes t m i in (in_filter (λ x. not (has x (t ∷ bases ts.table.heads t))) c.chain s (subst (λ l. In s l) c.under j)).0

  -- what a member is under are conditional subtypes
  pub under_conditional : (t : ℕ) (m : Member) → In m (members ts t) → (s : ℕ) → In s m.under → (is_conditional ts.bodies s ≡ true) × (s < length ts.table.heads)
  under_conditional t m i s j =
      let c = comes t m i in
      let g = chain_in ts.table.heads k.based k.unlooped ts.bodies c.chain c.top m.holder s c.down (under_in t m i s j) in
      (g.1, g.2)

  pub member_field : (t : ℕ) (f : Field) → In f (fields ts t) → (m : Member) × In m (members ts t) × In f (fields_declared m m.written.member)
  member_field t f i = flat_map_in (λ (m : Member). fields_declared m m.written.member) (members ts t) f i

  pub field_member : (t : ℕ) (f : Field) → In f (fields ts t) → (m : Member) × In m (members ts t) × (f.under ≡ m.under)
  field_member t f i = let g = member_field t f i in let d = declared_again f g.0 g.0 refl g.2 in (g.0, g.1, d.before)

  -- the types above one are told apart by the last of them on a chain
  chain_to : (cs : List ℕ) (a h s : ℕ) → Leads a cs h → In s cs → (pre : List ℕ) × Leads a pre s
  chain_to cs a h s p i =
      let g = chain_before ts.table.heads k.based k.unlooped ts.bodies cs a h s p i in
      let f = chain_in ts.table.heads k.based k.unlooped ts.bodies cs a h s p i in
      (g.0 ++ s ∷ [], chain_append ts.table.heads k.based k.unlooped ts.bodies g.0 (s ∷ []) a g.1 s g.3 (g.2, f.1, f.2, refl))

  -- what is written below a type from which a chain leads to the base of a conditional subtype
  shared : (t a b x h : ℕ) (pre cs : List ℕ) → Above a t → Leads a pre b → Above x b → Leads x cs h → (y : ℕ) × (ds : List ℕ) × Above y t × Leads y ds h
  shared t a b x h pre cs up p q r = elim (chain_above ts.table.heads k.based k.unlooped ts.bodies pre a b x p q) as (λ _. (y : ℕ) × (ds : List ℕ) × Above y t × Leads y ds h) [
    | inl i ↦ let g = chain_to pre a b x p i in (a, g.0 ++ cs, up, chain_append ts.table.heads k.based k.unlooped ts.bodies g.0 cs a x h g.1 r)
    | inr i ↦ (x, cs, up_trans ts.table.heads k.based k.unlooped t a x up i, r)
  ]

  -- a conditional subtype on the way to a holder is one on which a condition on a field of the holder depends
  depended : (s b : ℕ) → base ts.table.heads s ≡ Some b → (f : Field) → condition_field ts s ≡ Some f → (n : Member) (i : In n (members ts b)) → f.under ≡ n.under → (x : ℕ) → is_conditional ts.bodies x ≡ true → Above x n.holder → In x (depends_on ts s)
  depended s b is f at n i under x cond up =
      let c = comes b n i in
      elim (chain_above ts.table.heads k.based k.unlooped ts.bodies c.chain c.top n.holder x c.down up) as (λ _. In x (depends_on ts s)) [
        | inr j ↦ above (up_trans ts.table.heads k.based k.unlooped b c.top x c.up j)
        | inl j ↦ two_ways (has x (b ∷ bases ts.table.heads b)) (λ e. above (has_in x (b ∷ bases ts.table.heads b) e))
            (λ e. in_left x (option_map_or (λ (f : Field). f.under) (condition_field ts s) []) (filter (is_conditional ts.bodies) (bases ts.table.heads s))
            (subst (λ o. In x (option_map_or (λ (f : Field). f.under) o [])) (sym at) (subst (In x) (sym (under ∙ c.under)) (filter_in (λ y. not (has y (b ∷ bases ts.table.heads b))) c.chain x j (not_so _ e)))))
      ]
    where
      above : Above x b → In x (depends_on ts s)
      above j = in_right x (option_map_or (λ (f : Field). f.under) (condition_field ts s) []) (filter (is_conditional ts.bodies) (bases ts.table.heads s))
          (filter_in (is_conditional ts.bodies) (bases ts.table.heads s) x (subst (In x) (sym (bases_step ts.table.heads k.based k.unlooped s b is)) j) cond)

  -- a field of a type is a field of each type below it, by the same text
  pub field_again : (t b : ℕ) → t < length ts.table.heads → Up ts.table.heads k.based k.unlooped b t → (f : Field) → In f (fields ts b) → (g : Field) × (field ts t f.name.text ≡ Some g) × (g.tree ≡ f.tree)
  field_again t b below up f i =
      let g = member_field b f i in
      let c = comes b g.0 g.1 in
      let at_base = member_below b g.0 g.1 in
      let here = chain_member ts.table.heads k.based k.unlooped ts.bodies t c.top c.chain g.0.holder g.0.written below (up_trans ts.table.heads k.based k.unlooped t b c.top up c.up) c.down (members_written ts.table.heads ts.bodies b g.0 at_base.1) in
      let again = declared_again f g.0 here.0 here.2 g.2 in
      let listed : In here.0 (members ts t) = subst (In here.0) (sym (k.listed t below)) here.1 in
      let inside : In again.again (fields ts t) = in_flat_map (λ (m : Member). fields_declared m m.written.member) (members ts t) here.0 again.again listed again.inside in
      (again.again, subst (λ z. field ts t z ≡ Some again.again) (ap (λ (z : Ident). z.text) again.name) (k.found t again.again inside), again.tree)

  same_name : (a b : List ℕ) → bytes_eq a b ≡ true → a ≡ b
  same_name a b e = (bytes_eq-Decides a b).0 e

  asked_is : (s : ℕ) (c : Condition) (p : Parts ts s c) → condition_field ts s ≡ Some p.asked
  asked_is s c p =
      ap (λ o. option_and_then (λ (c : HeirCondition). option_and_then (λ b. field ts b c.field.text) (base ts.table.heads s)) o) p.heir
      ∙ ap (λ o. option_and_then (λ b. field ts b p.written.field.text) o) p.based ∙ p.at

  -- a field of a condition is no list
  alone_is : (s : ℕ) → s < length ts.table.heads → (c : Condition) (p : Parts ts s c) → list_length p.asked.tree ≡ None
  alone_is s below c p = by (subst (λ o. any_holds (field_rows ts p.written o) ≡ false) (asked_is s c p) (k.decided s below p.written p.heir))
    where
      none : (f : FieldTree) → is_some f.list ≡ false → list_length f ≡ None
      none f e = by_list f.list refl e
        where
          by_list : (o : Option Place) → f.list ≡ o → is_some o ≡ false → list_length f ≡ None
          by_list None q g = ap (λ (o : Option Place). option_map (λ (place : Place). items_in f.initial) o) q
          by_list (Some x) q g = absurd (true≢false g)

      by : any_holds (option_map_or (decided_rows ts p.written p.asked) (field_type ts p.asked) []) ≡ false → list_length p.asked.tree ≡ None
      by h =
          let rows : any_holds (decided_rows ts p.written p.asked p.of) ≡ false = subst (λ o. any_holds (option_map_or (decided_rows ts p.written p.asked) o []) ≡ false) p.typed h in
          none p.asked.tree (no_right (not (can_decide (form ts.table.heads p.of))) (is_some p.asked.tree.list) (no_left (not (can_decide (form ts.table.heads p.of)) || is_some p.asked.tree.list) _ rows))

  -- the field of a condition stands in the type whose members are under it
  pub asked_field : (t : ℕ) (m : Member) → In m (members ts t) → (s : ℕ) → In s m.under → (c : Condition) → condition ts s ≡ Some c → Asked ts t s c
  asked_field t m i s j c e =
      let p = parts_of ts s c e in
      let own = comes t m i in
      let below = member_below t m i in
      let of_s = under_conditional t m i s j in
      let pre = chain_before ts.table.heads k.based k.unlooped ts.bodies own.chain own.top m.holder s own.down (under_in t m i s j) in
      let same : pre.1 ≡ p.from = some_same (sym pre.2 ∙ p.based) in
      let to_base : Leads own.top pre.0 p.from = subst (Leads own.top pre.0) same pre.3 in
      let hit = found_in (λ (f : Field). bytes_eq f.name.text p.written.field.text) (fields ts p.from) p.asked p.at in
      let g = member_field p.from p.asked hit.0 in
      let other = comes p.from g.0 g.1 in
      let way = shared t own.top p.from other.top g.0.holder pre.0 other.chain own.up to_base other.up other.down in
      let at_base = member_below p.from g.0 g.1 in
      let here = chain_member ts.table.heads k.based k.unlooped ts.bodies t way.0 way.1 g.0.holder g.0.written below.0 way.2 way.3 (members_written ts.table.heads ts.bodies p.from g.0 at_base.1) in
      let again = declared_again p.asked g.0 here.0 here.2 g.2 in
      let listed : In here.0 (members ts t) = subst (In here.0) (sym (k.listed t below.0)) here.1 in
      let inside : In again.again (fields ts t) = in_flat_map (λ (m : Member). fields_declared m m.written.member) (members ts t) here.0 again.again listed again.inside in
      let named : again.again.name.text ≡ c.field = ap (λ (z : Ident). z.text) again.name ∙ same_name p.asked.name.text p.written.field.text hit.1 ∙ sym p.named in
      record {
        asked = again.again;
        inside = inside;
        at = subst (λ z. field ts t z ≡ Some again.again) named (k.found t again.again inside);
        of = p.of;
        typed = ap (λ (z : FieldTree). declared_of z) again.tree ∙ p.typed;
        written = p.written;
        value = p.value;
        alone = ap list_length again.tree ∙ alone_is s of_s.1 c p;
        depends = λ x l.
            let u : In x here.0.under = subst (In x) again.under l in
            let up = chain_in ts.table.heads k.based k.unlooped ts.bodies (comes t here.0 listed).chain (comes t here.0 listed).top here.0.holder x (comes t here.0 listed).down (under_in t here.0 listed x u) in
            depended s p.from p.based p.asked (asked_is s c p) g.0 g.1 again.before x up.1 (subst (λ z. Above x z) here.3 up.0);
      }
    where
      some_same : {x y : ℕ} → Some x ≡ Some y → x ≡ y
      some_same f = cc

      declared_of : FieldTree → Option ℕ
      declared_of f = declared_type ts f
