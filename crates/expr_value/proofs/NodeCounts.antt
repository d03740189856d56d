-- The counts of nodes, of the counts of their parts.
use Rattle.std.proofs.Common.{◌≡◌, ◌∙◌, refl, sym, ap, ap₂, subst, ℕ, ◌+◌, ◌<◌, List, [], ◌∷◌, Bool, true, false, ◌&&◌, not, map, drop, length, get_or, ◌⊎◌, inl, inr}
use Rattle.std.specs.Prelude.{◌||◌, ◌≤◌, ℤ, pos, neg_ℤ, Option, unsigned_abs}
use Rattle.std.proofs.lemmas.List.{drop_more, drop_all}
use Rattle.expr_nodes.specs.osc_base.declared.path.Path.{Path}
use Rattle.expr_nodes.specs.osc_base.declared.fraction.Fraction.{Fraction}
use Rattle.expr_nodes.specs.osc_base.Fraction.{value}
use Rattle.expr_nodes.specs.declared.compare.Compare.{Compare}
use Rattle.expr_nodes.specs.declared.node.Join.{Join}
use Rattle.expr_nodes.specs.declared.node.Info.{Info}
use Rattle.expr_nodes.specs.declared.node.Earlier.{Earlier}
use Rattle.expr_nodes.specs.declared.node.Typed.{Typed}
use Rattle.expr_nodes.specs.declared.node.Typed.TheViews
use Rattle.expr_nodes.specs.Typed as Nodes
use Rattle.expr_nodes.specs.Typed.{row_of, scale}
use Rattle.expr_nodes.specs.Sizes.{Size, size, is_wide, unit_size, joined as joined_size}
use Rattle.expr_nodes.specs.Parts.{parts_of}
use Rattle.expr_nodes.specs.Seen.{Reached, seen, seen_info, seen_size, reached, joined, grouped}
use Rattle.expr_nodes.proofs.SeenNodes.{seen_joined, seen_listed, reached_is}
use Rattle.expr_value.specs.declared.count.Count.{Count}
use Rattle.expr_value.specs.Held.{known}
use Rattle.expr_value.specs.Counted.{counted, truth_count, is_full, compares_counts, counts_in, counts_item}
use Rattle.expr_value.specs.Rows.{IsCount, join_size, join_count}
use Rattle.expr_value.specs.Words.{Ready, ReadyItems, can_join_all, IsReady, IsCounted, IsReadyRow, IsCountedRow, CanJoinParts, IsFound, AreReady, IsFoundAmong}
use Rattle.expr_value.proofs.Shapes.{seen_constant, seen_read, seen_whole, seen_span, seen_minus, seen_not, seen_implies, seen_relation, seen_within}
use Rattle.expr_value.proofs.SoundParts
use Rattle.expr_value.proofs.SoundParts.{size_is, left_of, right_of, not_so, joined_size_is, joined_counted, joined_nowhere, constant_within, read_within, items_row}
use Rattle.expr_value.proofs.RowSteps.{InRow, ItemsLeft}

module _ (told : Path → Option ℤ) where
  -- ---- leaves

  pub constant_reach : (t : Typed) (info : Info) (n : Fraction) → t ≡ Typed.Constant info n → IsReady told t → unsigned_abs n.num ≤ info.size.reach
  unfolding IsReady
  constant_reach t info n is h = constant_within told (seen_info info) (value n) (subst (Ready told) (ap seen is ∙ seen_constant info n) h)

  pub constant_counted : (t : Typed) (info : Info) (n : Fraction) (d : Count) → t ≡ Typed.Constant info n → d.size ≡ info.size → d.count ≡ n.num → IsCounted told t d
  unfolding IsCounted
  constant_counted t info n d is sized same = subst (λ z. IsCount (known told) z d) (sym (ap seen is ∙ seen_constant info n)) (record { sized = ap seen_size sized; same = same })

  pub read_reach : (t : Typed) (info : Info) (p : Path) (per : ℕ) (n : ℤ) → t ≡ Typed.Read info p per → n ≡ known told p → IsReady told t → unsigned_abs n ≤ info.size.reach
  unfolding IsReady
  read_reach t info p per n is same h = subst (λ z. unsigned_abs z ≤ info.size.reach) (sym same) (read_within told (seen_info info) p per (subst (Ready told) (ap seen is ∙ seen_read info p per) h))

  pub read_counted : (t : Typed) (info : Info) (p : Path) (per : ℕ) (d : Count) → t ≡ Typed.Read info p per → d.size ≡ info.size → d.count ≡ known told p → IsCounted told t d
  unfolding IsCounted
  read_counted t info p per d is sized same = subst (λ z. IsCount (known told) z d) (sym (ap seen is ∙ seen_read info p per)) (record { sized = ap seen_size sized; same = same })

  pub whole_counted : (t : Typed) (info : Info) (p : Path) (d : Count) → t ≡ Typed.Whole info p → d.size ≡ info.size → d.count ≡ pos 0 → IsCounted told t d
  unfolding IsCounted
  whole_counted t info p d is sized same = subst (λ z. IsCount (known told) z d) (sym (ap seen is ∙ seen_whole info p)) (record { sized = ap seen_size sized; same = same })

  pub listed_counted : (t : Typed) (info : Info) (f : Bool) (items : List Typed) (d : Count) → t ≡ TheViews.Listed info f items → d.size ≡ info.size → d.count ≡ pos 0 → IsCounted told t d
  unfolding IsCounted
  listed_counted t info f items d is sized same = subst (λ z. IsCount (known told) z d) (sym (ap seen is ∙ seen_listed info f items)) (record { sized = ap seen_size sized; same = same })

  pub span_counted : (t : Typed) (info : Info) (low high : Typed) (d : Count) → t ≡ TheViews.Span info low high → d.size ≡ info.size → d.count ≡ pos 0 → IsCounted told t d
  unfolding IsCounted
  span_counted t info low high d is sized same = subst (λ z. IsCount (known told) z d) (sym (ap seen is ∙ seen_span info low high)) (record { sized = ap seen_size sized; same = same })

  -- ---- one part

  pub minus_part : (t p part : Typed) (info : Info) → IsReady told t → t ≡ TheViews.Minus info part → p ≡ part → IsReady told p
  unfolding IsReady
  minus_part t p part info h is same =
      subst (λ z. Ready told (seen z)) (sym same) (SoundParts.minus_ready told (seen_info info) (seen part) (subst (Ready told) (ap seen is ∙ seen_minus info part) h))

  pub not_part : (t p part : Typed) (info : Info) → IsReady told t → t ≡ TheViews.Not info part → p ≡ part → IsReady told p
  unfolding IsReady
  not_part t p part info h is same =
      subst (λ z. Ready told (seen z)) (sym same) (SoundParts.not_ready told (seen_info info) (seen part) (subst (Ready told) (ap seen is ∙ seen_not info part) h))

  pub minus_counted : (t p part : Typed) (info : Info) (c d : Count) → t ≡ TheViews.Minus info part → p ≡ part → IsReady told t → IsCounted told p c → d.size ≡ c.size → d.count ≡ neg_ℤ c.count → IsCounted told t d
  unfolding IsReady IsCounted
  minus_counted t p part info c d is same h known_part sized count_is =
      let e = ap seen is ∙ seen_minus info part in
      let k : IsCount (known told) (seen part) c = subst (λ z. IsCount (known told) (seen z) c) same known_part in
      subst (λ z. IsCount (known told) z d) (sym e) (record {
        sized = ap seen_size sized ∙ k.sized ∙ sym (SoundParts.minus_size told (seen_info info) (seen part) (subst (Ready told) e h));
        same = count_is ∙ ap neg_ℤ k.same;
      })

  full_is : (x : Nodes.Typed) (c : Count) → IsCount (known told) x c → is_full c.size.scale c.count ≡ is_full (scale x) (counted (known told) x)
  full_is x c k = ap₂ is_full (ap (λ (s : Size). s.scale) k.sized) k.same

  pub not_counted : (t p part : Typed) (info : Info) (c d : Count) → t ≡ TheViews.Not info part → p ≡ part → IsReady told t → IsCounted told p c
      → seen_size d.size ≡ unit_size → d.count ≡ truth_count (not (is_full c.size.scale c.count)) → IsCounted told t d
  unfolding IsReady IsCounted
  not_counted t p part info c d is same h known_part sized count_is =
      let e = ap seen is ∙ seen_not info part in
      let k : IsCount (known told) (seen part) c = subst (λ z. IsCount (known told) (seen z) c) same known_part in
      subst (λ z. IsCount (known told) z d) (sym e) (record {
        sized = sized ∙ sym (SoundParts.not_size told (seen_info info) (seen part) (subst (Ready told) e h));
        same = count_is ∙ ap (λ b. truth_count (not b)) (full_is (seen part) c k);
      })

  -- ---- two parts

  pub implies_first : (t p a b : Typed) (info : Info) → IsReady told t → t ≡ TheViews.Implies info a b → p ≡ a → IsReady told p
  unfolding IsReady
  implies_first t p a b info h is same =
      subst (λ z. Ready told (seen z)) (sym same) (SoundParts.implies_left told (seen_info info) (seen a) (seen b) (subst (Ready told) (ap seen is ∙ seen_implies info a b) h))

  pub implies_second : (t p a b : Typed) (info : Info) → IsReady told t → t ≡ TheViews.Implies info a b → p ≡ b → IsReady told p
  unfolding IsReady
  implies_second t p a b info h is same =
      subst (λ z. Ready told (seen z)) (sym same) (SoundParts.implies_right told (seen_info info) (seen a) (seen b) (subst (Ready told) (ap seen is ∙ seen_implies info a b) h))

  pub implies_counted : (t p q a b : Typed) (info : Info) (c f d : Count) → t ≡ TheViews.Implies info a b → p ≡ a → q ≡ b → IsReady told t → IsCounted told p c → IsCounted told q f
      → seen_size d.size ≡ unit_size → d.count ≡ truth_count (not (is_full c.size.scale c.count) || is_full f.size.scale f.count) → IsCounted told t d
  unfolding IsReady IsCounted
  implies_counted t p q a b info c f d is first second h left right sized count_is =
      let e = ap seen is ∙ seen_implies info a b in
      let k : IsCount (known told) (seen a) c = subst (λ z. IsCount (known told) (seen z) c) first left in
      let l : IsCount (known told) (seen b) f = subst (λ z. IsCount (known told) (seen z) f) second right in
      subst (λ z. IsCount (known told) z d) (sym e) (record {
        sized = sized ∙ sym (SoundParts.implies_size told (seen_info info) (seen a) (seen b) (subst (Ready told) e h));
        same = count_is ∙ ap₂ (λ x y. truth_count (not x || y)) (full_is (seen a) c k) (full_is (seen b) f l);
      })

  pub relation_first : (t p a b : Typed) (info : Info) (sign : Compare) → IsReady told t → t ≡ TheViews.Relation info sign a b → p ≡ a → IsReady told p
  unfolding IsReady
  relation_first t p a b info sign h is same =
      subst (λ z. Ready told (seen z)) (sym same) (SoundParts.relation_left told (seen_info info) sign (seen a) (seen b) (subst (Ready told) (ap seen is ∙ seen_relation info sign a b) h))

  pub relation_second : (t p a b : Typed) (info : Info) (sign : Compare) → IsReady told t → t ≡ TheViews.Relation info sign a b → p ≡ b → IsReady told p
  unfolding IsReady
  relation_second t p a b info sign h is same =
      subst (λ z. Ready told (seen z)) (sym same) (SoundParts.relation_right told (seen_info info) sign (seen a) (seen b) (subst (Ready told) (ap seen is ∙ seen_relation info sign a b) h))

  pub relation_fits : (t p q a b : Typed) (info : Info) (sign : Compare) (c f : Count) → t ≡ TheViews.Relation info sign a b → p ≡ a → q ≡ b → IsReady told t → IsCounted told p c → IsCounted told q f
      → is_wide (joined_size (seen_size c.size) (seen_size f.size)) ≡ false
  unfolding IsReady IsCounted
  relation_fits t p q a b info sign c f is first second h left right =
      ap₂ (λ x y. is_wide (joined_size x y)) (left.sized ∙ ap (λ z. size (seen z)) first) (right.sized ∙ ap (λ z. size (seen z)) second)
      ∙ SoundParts.relation_joins told (seen_info info) sign (seen a) (seen b) (subst (Ready told) (ap seen is ∙ seen_relation info sign a b) h)

  compared_is : (sign : Compare) (x y : Nodes.Typed) (c f : Count) → IsCount (known told) x c → IsCount (known told) y f
      → compares_counts sign c.size.scale c.count f.size.scale f.count ≡ compares_counts sign (scale x) (counted (known told) x) (scale y) (counted (known told) y)
  compared_is sign x y c f k l =
      ap₂ (λ s n. compares_counts sign s n f.size.scale f.count) (ap (λ (s : Size). s.scale) k.sized) k.same
      ∙ ap₂ (λ s n. compares_counts sign (scale x) (counted (known told) x) s n) (ap (λ (s : Size). s.scale) l.sized) l.same

  pub relation_counted : (t p q a b : Typed) (info : Info) (sign : Compare) (c f d : Count) (r : Bool) → t ≡ TheViews.Relation info sign a b → p ≡ a → q ≡ b → IsReady told t → IsCounted told p c → IsCounted told q f
      → r ≡ compares_counts sign c.size.scale c.count f.size.scale f.count → seen_size d.size ≡ unit_size → d.count ≡ truth_count r → IsCounted told t d
  unfolding IsReady IsCounted
  relation_counted t p q a b info sign c f d r is first second h left right answer sized count_is =
      let e = ap seen is ∙ seen_relation info sign a b in
      let k : IsCount (known told) (seen a) c = subst (λ z. IsCount (known told) (seen z) c) first left in
      let l : IsCount (known told) (seen b) f = subst (λ z. IsCount (known told) (seen z) f) second right in
      subst (λ z. IsCount (known told) z d) (sym e) (record {
        sized = sized ∙ sym (SoundParts.relation_size told (seen_info info) sign (seen a) (seen b) (subst (Ready told) e h));
        same = count_is ∙ ap truth_count (answer ∙ compared_is sign (seen a) (seen b) c f k l);
      })

  -- ---- `in`

  pub within_first : (t p a b : Typed) (info : Info) → IsReady told t → t ≡ TheViews.Within info a b → p ≡ a → IsReady told p
  unfolding IsReady
  within_first t p a b info h is same =
      subst (λ z. Ready told (seen z)) (sym same) (SoundParts.within_left told (seen_info info) (seen a) (seen b) (subst (Ready told) (ap seen is ∙ seen_within info a b) h))

  pub within_second : (t p a b : Typed) (info : Info) → IsReady told t → t ≡ TheViews.Within info a b → p ≡ b → IsReady told p
  unfolding IsReady
  within_second t p a b info h is same =
      subst (λ z. Ready told (seen z)) (sym same) (SoundParts.within_right told (seen_info info) (seen a) (seen b) (subst (Ready told) (ap seen is ∙ seen_within info a b) h))

  pub within_joins : (t p q a b : Typed) (info : Info) (c : Count) → IsReady told t → t ≡ TheViews.Within info a b → q ≡ b → IsCounted told p c → p ≡ a → CanJoinParts c q
  unfolding IsReady IsCounted CanJoinParts
  within_joins t p q a b info c h is second left first =
      ap₂ (λ s z. can_join_all s (parts_of (seen z))) (left.sized ∙ ap (λ z. size (seen z)) first) second
      ∙ SoundParts.within_joined told (seen_info info) (seen a) (seen b) (subst (Ready told) (ap seen is ∙ seen_within info a b) h)

  pub within_counted : (t p q a b : Typed) (info : Info) (c d : Count) (r : Bool) → t ≡ TheViews.Within info a b → p ≡ a → q ≡ b → IsReady told t → IsCounted told p c → IsFound told c q r
      → seen_size d.size ≡ unit_size → d.count ≡ truth_count r → IsCounted told t d
  unfolding IsReady IsCounted IsFound
  within_counted t p q a b info c d r is first second h left found sized count_is =
      let e = ap seen is ∙ seen_within info a b in
      let k : IsCount (known told) (seen a) c = subst (λ z. IsCount (known told) (seen z) c) first left in
      subst (λ z. IsCount (known told) z d) (sym e) (record {
        sized = sized ∙ sym (SoundParts.within_size told (seen_info info) (seen a) (seen b) (subst (Ready told) e h));
        same = count_is ∙ ap truth_count (found ∙ ap₂ (λ s n. counts_in (known told) s n (seen q)) (ap (λ (s : Size). s.scale) k.sized) k.same
            ∙ ap (λ z. counts_in (known told) (scale (seen a)) (counted (known told) (seen a)) (seen z)) second);
      })

  -- ---- rows

  joined_ready : (t : Typed) (info : Info) (join : Join) (first : Typed) (earlier : List Earlier) (last : Typed) → t ≡ TheViews.Joined info join first earlier last → Ready told (seen t)
      → Ready told (joined join (seen_info info) (grouped join (seen first) (map reached earlier)) (seen last))
  joined_ready t info join first earlier last is h = subst (Ready told) (ap seen is ∙ seen_joined info join first earlier last) h

  pub row_ready : (t p first last : Typed) (info : Info) (join : Join) (earlier shown : List Earlier) → IsReady told t → t ≡ TheViews.Joined info join first earlier last → p ≡ first → shown ≡ earlier → IsReadyRow told join p shown
  unfolding IsReady IsReadyRow
  row_ready t p first last info join earlier shown h is one two =
      subst (λ z. Ready told (grouped join (seen z) (map reached shown))) (sym one) (subst (λ z. Ready told (grouped join (seen first) (map reached z))) (sym two)
      (SoundParts.joined_left told join (seen_info info) _ (seen last) (joined_ready t info join first earlier last is h)))

  pub last_ready : (t q first last : Typed) (info : Info) (join : Join) (earlier : List Earlier) → IsReady told t → t ≡ TheViews.Joined info join first earlier last → q ≡ last → IsReady told q
  unfolding IsReady
  last_ready t q first last info join earlier h is same =
      subst (λ z. Ready told (seen z)) (sym same) (SoundParts.joined_right told join (seen_info info) (grouped join (seen first) (map reached earlier)) (seen last) (joined_ready t info join first earlier last is h))

  pub row_fits : (t p q first last : Typed) (info : Info) (join : Join) (earlier shown : List Earlier) (c f : Count) → t ≡ TheViews.Joined info join first earlier last → p ≡ first → shown ≡ earlier → q ≡ last
      → IsReady told t → IsCountedRow told join p shown c → IsCounted told q f → seen_size info.size ≡ join_size join (seen_size c.size) (seen_size f.size)
  unfolding IsReady IsCounted IsCountedRow
  row_fits t p q first last info join earlier shown c f is one two three h row part =
      SoundParts.joined_sized told join (seen_info info) (grouped join (seen first) (map reached earlier)) (seen last) (joined_ready t info join first earlier last is h)
      ∙ sym (ap₂ (join_size join) (row.sized ∙ ap₂ (λ z es. size (grouped join (seen z) (map reached es))) one two) (part.sized ∙ ap (λ z. size (seen z)) three))

  join_known : (join : Join) (i : Nodes.Info) (x y : Nodes.Typed) (c f d : Count) → IsCount (known told) x c → IsCount (known told) y f → seen_size d.size ≡ record { scale = i.scale; reach = i.reach }
      → d.count ≡ join_count join c.size.scale c.count f.size.scale f.count → IsCount (known told) (joined join i x y) d
  join_known join i x y c f d k l sized count_is = record {
    sized = sized ∙ sym (joined_size_is join i x y);
    same = count_is ∙ ap₂ (λ s n. join_count join s n f.size.scale f.count) (ap (λ (s : Size). s.scale) k.sized) k.same
        ∙ ap₂ (λ s n. join_count join (scale x) (counted (known told) x) s n) (ap (λ (s : Size). s.scale) l.sized) l.same ∙ sym (joined_counted (known told) join i x y);
  }

  pub row_counted : (t p q first last : Typed) (info : Info) (join : Join) (earlier shown : List Earlier) (c f d : Count) → t ≡ TheViews.Joined info join first earlier last → p ≡ first → shown ≡ earlier → q ≡ last
      → IsCountedRow told join p shown c → IsCounted told q f → seen_size d.size ≡ seen_size info.size → d.count ≡ join_count join c.size.scale c.count f.size.scale f.count → IsCounted told t d
  unfolding IsCounted IsCountedRow
  row_counted t p q first last info join earlier shown c f d is one two three row part sized count_is =
      subst (λ z. IsCount (known told) z d) (sym (ap seen is ∙ seen_joined info join first earlier last)) (join_known join (seen_info info) (grouped join (seen first) (map reached earlier)) (seen last) c f d
      (subst (λ z. IsCount (known told) (grouped join (seen z) (map reached earlier)) c) one (subst (λ z. IsCount (known told) (grouped join (seen p) (map reached z)) c) two row))
      (subst (λ z. IsCount (known told) (seen z) f) three part) sized count_is)

  -- ---- a row, part by part

  pub first_ready : (join : Join) (first : Typed) (earlier : List Earlier) → IsReadyRow told join first earlier → IsReady told first
  unfolding IsReady IsReadyRow
  first_ready join first earlier h = SoundParts.grouped_first told join (seen first) (map reached earlier) h

  pub row_begun : (join : Join) (first : Typed) (earlier : List Earlier) (c : Count) → IsCounted told first c → InRow told join (grouped join (seen first) (map reached earlier)) (map reached earlier) c
  unfolding IsCounted
  row_begun join first earlier c k = record { so_far = seen first; counts = k; goes_on = refl }

  left_next : (earlier : List Earlier) (i : ℕ) (next : Earlier) → i < length earlier → next ≡ get_or earlier i next
      → map reached (drop i earlier) ≡ record { info = seen_info next.info; part = seen next.part } ∷ map reached (drop (i + 1) earlier)
  left_next earlier i next less is =
      ap (map reached) (drop_more earlier i next less) ∙ ap (λ e. reached e ∷ map reached (drop (i + 1) earlier)) (sym is) ∙ ap (λ (r : Reached). r ∷ map reached (drop (i + 1) earlier)) (reached_is next)

  module _ (join : Join) (first : Typed) (earlier : List Earlier) (i : ℕ) (next : Earlier) (less : i < length earlier) (is : next ≡ get_or earlier i next) (c : Count)
      (row : InRow told join (grouped join (seen first) (map reached earlier)) (map reached (drop i earlier)) c) where
    goes : grouped join (joined join (seen_info next.info) row.so_far (seen next.part)) (map reached (drop (i + 1) earlier)) ≡ grouped join (seen first) (map reached earlier)
    goes = sym (ap (grouped join row.so_far) (left_next earlier i next less is)) ∙ row.goes_on

    step_ready : IsReadyRow told join first earlier → Ready told (joined join (seen_info next.info) row.so_far (seen next.part))
    unfolding IsReadyRow
    step_ready h = SoundParts.grouped_first told join (joined join (seen_info next.info) row.so_far (seen next.part)) (map reached (drop (i + 1) earlier)) (subst (Ready told) (sym goes) h)

    pub next_ready : IsReadyRow told join first earlier → IsReady told next.part
    unfolding IsReady
    next_ready h = SoundParts.joined_right told join (seen_info next.info) row.so_far (seen next.part) (step_ready h)

    pub next_fits : (f : Count) → IsReadyRow told join first earlier → IsCounted told next.part f → seen_size next.info.size ≡ join_size join (seen_size c.size) (seen_size f.size)
    unfolding IsCounted
    next_fits f h part =
        SoundParts.joined_sized told join (seen_info next.info) row.so_far (seen next.part) (step_ready h) ∙ sym (ap₂ (join_size join) row.counts.sized part.sized)

    pub row_more : (f d : Count) → IsCounted told next.part f → seen_size d.size ≡ seen_size next.info.size → d.count ≡ join_count join c.size.scale c.count f.size.scale f.count
        → InRow told join (grouped join (seen first) (map reached earlier)) (map reached (drop (i + 1) earlier)) d
    unfolding IsCounted
    row_more f d part sized count_is = record {
      so_far = joined join (seen_info next.info) row.so_far (seen next.part);
      counts = join_known join (seen_info next.info) row.so_far (seen next.part) c f d row.counts part sized count_is;
      goes_on = goes;
    }

  pub row_ended : (join : Join) (first : Typed) (earlier : List Earlier) (i : ℕ) (c : Count) → length earlier ≤ i → InRow told join (grouped join (seen first) (map reached earlier)) (map reached (drop i earlier)) c → IsCountedRow told join first earlier c
  unfolding IsCountedRow
  row_ended join first earlier i c all row =
      let none : map reached (drop i earlier) ≡ [] = ap (map reached) (drop_all i earlier all) in
      subst (λ z. IsCount (known told) z c) (sym (ap (grouped join row.so_far) none) ∙ row.goes_on) row.counts

  -- ---- ranges and lists

  pub low_ready : (t p low high : Typed) (info : Info) → IsReady told t → t ≡ TheViews.Span info low high → p ≡ low → IsReady told p
  unfolding IsReady
  low_ready t p low high info h is same =
      subst (λ z. Ready told (seen z)) (sym same) (SoundParts.span_low told (seen_info info) (seen low) (seen high) (subst (Ready told) (ap seen is ∙ seen_span info low high) h))

  pub high_ready : (t p low high : Typed) (info : Info) → IsReady told t → t ≡ TheViews.Span info low high → p ≡ high → IsReady told p
  unfolding IsReady
  high_ready t p low high info h is same =
      subst (λ z. Ready told (seen z)) (sym same) (SoundParts.span_high told (seen_info info) (seen low) (seen high) (subst (Ready told) (ap seen is ∙ seen_span info low high) h))

  span_joins : (v : Count) (t low high : Typed) (info : Info) → t ≡ TheViews.Span info low high → CanJoinParts v t → can_join_all (seen_size v.size) (seen low ∷ seen high ∷ []) ≡ true
  unfolding CanJoinParts
  span_joins v t low high info is h = subst (λ z. can_join_all (seen_size v.size) (parts_of z) ≡ true) (ap seen is ∙ seen_span info low high) h

  pub low_fits : (v : Count) (t p low high : Typed) (info : Info) (c : Count) → t ≡ TheViews.Span info low high → p ≡ low → CanJoinParts v t → IsCounted told p c → is_wide (joined_size (seen_size v.size) (seen_size c.size)) ≡ false
  unfolding IsCounted
  low_fits v t p low high info c is same h part =
      ap (λ s. is_wide (joined_size (seen_size v.size) s)) (part.sized ∙ ap (λ z. size (seen z)) same)
      ∙ not_so (is_wide (joined_size (seen_size v.size) (size (seen low)))) (left_of _ _ (span_joins v t low high info is h))

  pub high_fits : (v : Count) (t p low high : Typed) (info : Info) (c : Count) → t ≡ TheViews.Span info low high → p ≡ high → CanJoinParts v t → IsCounted told p c → is_wide (joined_size (seen_size v.size) (seen_size c.size)) ≡ false
  unfolding IsCounted
  high_fits v t p low high info c is same h part =
      ap (λ s. is_wide (joined_size (seen_size v.size) s)) (part.sized ∙ ap (λ z. size (seen z)) same)
      ∙ not_so (is_wide (joined_size (seen_size v.size) (size (seen high)))) (left_of _ _ (right_of _ _ (span_joins v t low high info is h)))

  pub span_found : (v : Count) (t p q low high : Typed) (info : Info) (c f : Count) (r : Bool) → t ≡ TheViews.Span info low high → p ≡ low → q ≡ high → IsCounted told p c → IsCounted told q f
      → r ≡ (compares_counts Compare.AtLeast v.size.scale v.count c.size.scale c.count && compares_counts Compare.AtMost v.size.scale v.count f.size.scale f.count) → IsFound told v t r
  unfolding IsCounted IsFound
  span_found v t p q low high info c f r is one two left right answer =
      let k : IsCount (known told) (seen low) c = subst (λ z. IsCount (known told) (seen z) c) one left in
      let l : IsCount (known told) (seen high) f = subst (λ z. IsCount (known told) (seen z) f) two right in
      answer
      ∙ ap₂ (λ s n. compares_counts Compare.AtLeast v.size.scale v.count s n && compares_counts Compare.AtMost v.size.scale v.count f.size.scale f.count) (ap (λ (s : Size). s.scale) k.sized) k.same
      ∙ ap₂ (λ s n. compares_counts Compare.AtLeast v.size.scale v.count (scale (seen low)) (counted (known told) (seen low)) && compares_counts Compare.AtMost v.size.scale v.count s n) (ap (λ (s : Size). s.scale) l.sized) l.same
      ∙ sym (ap (counts_in (known told) v.size.scale v.count) (ap seen is ∙ seen_span info low high))

  pub items_ready : (v : Count) (t : Typed) (info : Info) (f : Bool) (items shown : List Typed) → IsReady told t → CanJoinParts v t → t ≡ TheViews.Listed info f items → shown ≡ items → AreReady told v shown
  unfolding IsReady CanJoinParts AreReady
  items_ready v t info f items shown h joins is same =
      let e = ap seen is ∙ seen_listed info f items in
      let k : Ready told (Nodes.Listed (seen_info info) f (row_of (map seen items))) = subst (Ready told) e h in
      subst (λ z. ReadyItems told (seen_size v.size) (map seen z)) (sym same) (record {
        sound = right_of _ _ k.sound;
        within = k.within;
        joins = subst (λ z. can_join_all (seen_size v.size) z ≡ true) (items_row (map seen items)) (subst (λ z. can_join_all (seen_size v.size) (parts_of z) ≡ true) e joins);
      })

  pub items_found : (v : Count) (t : Typed) (info : Info) (f : Bool) (items shown : List Typed) (r : Bool) → t ≡ TheViews.Listed info f items → shown ≡ items → IsFoundAmong told v shown r → IsFound told v t r
  unfolding IsFound IsFoundAmong
  items_found v t info f items shown r is same found =
      found ∙ ap (λ z. counts_item (known told) v.size.scale v.count (row_of (map seen z))) same ∙ sym (ap (counts_in (known told) v.size.scale v.count) (ap seen is ∙ seen_listed info f items))

  pub items_begun : (v : Count) (items : List Typed) → AreReady told v items → ItemsLeft told v (map seen items) (map seen items)
  unfolding AreReady
  items_begun v items h = record { same = refl; ready = h }

  items_next : (items : List Typed) (i : ℕ) (next : Typed) → i < length items → next ≡ get_or items i next → map seen (drop i items) ≡ seen next ∷ map seen (drop (i + 1) items)
  items_next items i next less is = ap (map seen) (drop_more items i next less) ∙ ap (λ e. seen e ∷ map seen (drop (i + 1) items)) (sym is)

  module _ (v : Count) (items : List Typed) (i : ℕ) (next : Typed) (less : i < length items) (is : next ≡ get_or items i next) (left : ItemsLeft told v (map seen items) (map seen (drop i items))) where
    here : ReadyItems told (seen_size v.size) (seen next ∷ map seen (drop (i + 1) items))
    here = subst (ReadyItems told (seen_size v.size)) (items_next items i next less is) left.ready

    pub item_ready : IsReady told next
    unfolding IsReady
    item_ready = SoundParts.item_ready told (seen_size v.size) (seen next) (map seen (drop (i + 1) items)) here

    pub item_fits : (c : Count) → IsCounted told next c → is_wide (joined_size (seen_size v.size) (seen_size c.size)) ≡ false
    unfolding IsCounted
    item_fits c k = ap (λ s. is_wide (joined_size (seen_size v.size) s)) k.sized ∙ SoundParts.item_joins told (seen_size v.size) (seen next) (map seen (drop (i + 1) items)) here

    found_now : counts_item (known told) v.size.scale v.count (row_of (map seen items))
        ≡ (compares_counts Compare.Equal v.size.scale v.count (scale (seen next)) (counted (known told) (seen next)) || counts_item (known told) v.size.scale v.count (row_of (map seen (drop (i + 1) items))))
    found_now = left.same ∙ ap (λ z. counts_item (known told) v.size.scale v.count (row_of z)) (items_next items i next less is)

    test_is : (c : Count) (r : Bool) → IsCount (known told) (seen next) c → r ≡ compares_counts Compare.Equal v.size.scale v.count c.size.scale c.count
        → r ≡ compares_counts Compare.Equal v.size.scale v.count (scale (seen next)) (counted (known told) (seen next))
    test_is c r k answer = answer ∙ ap₂ (λ s n. compares_counts Compare.Equal v.size.scale v.count s n) (ap (λ (s : Size). s.scale) k.sized) k.same

    pub item_found : (c : Count) (r : Bool) → IsCounted told next c → r ≡ compares_counts Compare.Equal v.size.scale v.count c.size.scale c.count → r ≡ true → IsFoundAmong told v items true
    unfolding IsCounted IsFoundAmong
    item_found c r k answer so =
        let e : compares_counts Compare.Equal v.size.scale v.count (scale (seen next)) (counted (known told) (seen next)) ≡ true = sym (test_is c r k answer) ∙ so in
        sym (found_now ∙ ap (λ b. b || counts_item (known told) v.size.scale v.count (row_of (map seen (drop (i + 1) items)))) e)

    pub items_more : (c : Count) (r : Bool) → IsCounted told next c → r ≡ compares_counts Compare.Equal v.size.scale v.count c.size.scale c.count → r ≡ false → ItemsLeft told v (map seen items) (map seen (drop (i + 1) items))
    unfolding IsCounted
    items_more c r k answer other =
        let e : compares_counts Compare.Equal v.size.scale v.count (scale (seen next)) (counted (known told) (seen next)) ≡ false = sym (test_is c r k answer) ∙ other in
        record {
          same = found_now ∙ ap (λ b. b || counts_item (known told) v.size.scale v.count (row_of (map seen (drop (i + 1) items)))) e;
          ready = SoundParts.items_after told (seen_size v.size) (seen next) (map seen (drop (i + 1) items)) here;
        }

  pub items_ended : (v : Count) (items : List Typed) (i : ℕ) → length items ≤ i → ItemsLeft told v (map seen items) (map seen (drop i items)) → IsFoundAmong told v items false
  unfolding IsFoundAmong
  items_ended v items i all left = sym (left.same ∙ ap (λ z. counts_item (known told) v.size.scale v.count (row_of (map seen z))) (drop_all i items all))

  -- nothing stands in anything else
  constant_found : (v : Count) (t : Typed) (info : Info) (n : Fraction) → t ≡ Typed.Constant info n → IsFound told v t false
  unfolding IsFound
  constant_found v t info n is = sym (ap (counts_in (known told) v.size.scale v.count) (ap seen is ∙ seen_constant info n))

  read_found : (v : Count) (t : Typed) (info : Info) (p : Path) (per : ℕ) → t ≡ Typed.Read info p per → IsFound told v t false
  unfolding IsFound
  read_found v t info p per is = sym (ap (counts_in (known told) v.size.scale v.count) (ap seen is ∙ seen_read info p per))

  whole_found : (v : Count) (t : Typed) (info : Info) (p : Path) → t ≡ Typed.Whole info p → IsFound told v t false
  unfolding IsFound
  whole_found v t info p is = sym (ap (counts_in (known told) v.size.scale v.count) (ap seen is ∙ seen_whole info p))

  minus_found : (v : Count) (t : Typed) (info : Info) (part : Typed) → t ≡ TheViews.Minus info part → IsFound told v t false
  unfolding IsFound
  minus_found v t info part is = sym (ap (counts_in (known told) v.size.scale v.count) (ap seen is ∙ seen_minus info part))

  not_found : (v : Count) (t : Typed) (info : Info) (part : Typed) → t ≡ TheViews.Not info part → IsFound told v t false
  unfolding IsFound
  not_found v t info part is = sym (ap (counts_in (known told) v.size.scale v.count) (ap seen is ∙ seen_not info part))

  joined_found : (v : Count) (t : Typed) (info : Info) (join : Join) (first : Typed) (earlier : List Earlier) (last : Typed) → t ≡ TheViews.Joined info join first earlier last → IsFound told v t false
  unfolding IsFound
  joined_found v t info join first earlier last is = sym (ap (counts_in (known told) v.size.scale v.count) (ap seen is ∙ seen_joined info join first earlier last) ∙ joined_nowhere (known told) v.size.scale v.count join (seen_info info) (grouped join (seen first) (map reached earlier)) (seen last))

  implies_found : (v : Count) (t : Typed) (info : Info) (a b : Typed) → t ≡ TheViews.Implies info a b → IsFound told v t false
  unfolding IsFound
  implies_found v t info a b is = sym (ap (counts_in (known told) v.size.scale v.count) (ap seen is ∙ seen_implies info a b))

  relation_found : (v : Count) (t : Typed) (info : Info) (sign : Compare) (a b : Typed) → t ≡ TheViews.Relation info sign a b → IsFound told v t false
  unfolding IsFound
  relation_found v t info sign a b is = sym (ap (counts_in (known told) v.size.scale v.count) (ap seen is ∙ seen_relation info sign a b))

  within_found : (v : Count) (t : Typed) (info : Info) (a b : Typed) → t ≡ TheViews.Within info a b → IsFound told v t false
  unfolding IsFound
  within_found v t info a b is = sym (ap (counts_in (known told) v.size.scale v.count) (ap seen is ∙ seen_within info a b))

  -- what is no range and no list holds nothing
  pub nowhere : (v : Count) (t : Typed) → (((info : Info) × (n : Fraction) × t ≡ Typed.Constant info n) ⊎ (((info : Info) × (p : Path) × (per : ℕ) × t ≡ Typed.Read info p per) ⊎ (((info : Info) × (p : Path) × t ≡ Typed.Whole info p) ⊎ (((info : Info) × (part : Typed) × t ≡ TheViews.Minus info part) ⊎ (((info : Info) × (part : Typed) × t ≡ TheViews.Not info part) ⊎ (((info : Info) × (join : Join) × (first : Typed) × (earlier : List Earlier) × (last : Typed) × t ≡ TheViews.Joined info join first earlier last) ⊎ (((info : Info) × (a : Typed) × (b : Typed) × t ≡ TheViews.Implies info a b) ⊎ (((info : Info) × (sign : Compare) × (a : Typed) × (b : Typed) × t ≡ TheViews.Relation info sign a b) ⊎ ((info : Info) × (a : Typed) × (b : Typed) × t ≡ TheViews.Within info a b))))))))) → IsFound told v t false
  nowhere v t (inl (info, n, e)) = constant_found v t info n e
  nowhere v t (inr (inl (info, p, per, e))) = read_found v t info p per e
  nowhere v t (inr (inr (inl (info, p, e)))) = whole_found v t info p e
  nowhere v t (inr (inr (inr (inl (info, part, e))))) = minus_found v t info part e
  nowhere v t (inr (inr (inr (inr (inl (info, part, e)))))) = not_found v t info part e
  nowhere v t (inr (inr (inr (inr (inr (inl (info, join, first, earlier, last, e))))))) = joined_found v t info join first earlier last e
  nowhere v t (inr (inr (inr (inr (inr (inr (inl (info, a, b, e)))))))) = implies_found v t info a b e
  nowhere v t (inr (inr (inr (inr (inr (inr (inr (inl (info, sign, a, b, e))))))))) = relation_found v t info sign a b e
  nowhere v t (inr (inr (inr (inr (inr (inr (inr (inr (info, a, b, e))))))))) = within_found v t info a b e
