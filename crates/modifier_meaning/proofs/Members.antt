-- The members of types in which each `do` is unfolded.
use Rattle.std.proofs.Common.{◌≡◌, refl, sym, ap, ap₂, ◌∙◌, ℕ, zero, suc, List, [], ◌∷◌, ◌++◌, map, length, Bool, true, false, cond, not, Option, Some, None}
use Rattle.std.specs.Prelude.{◌&&◌, flat_map, filter, filter_map, option_map, option_and_then, option_to_list, slice_index_or, find, nat_eq, is_some}
use Rattle.std.specs.Option.{option_map_or}
use Rattle.std.specs.List.{cons_option}
use Rattle.std.proofs.lemmas.List.{map-append}
use Rattle.composition.specs.dsl_tree.FileTree.{MemberTree, ModifierDeclTree}
use Rattle.composition.specs.type_heads.Table.{TypeHead, base, bases, all_types}
use Rattle.composition.specs.type_heads.Types.{Written, TypeBody, Member, Do, Types}
use Rattle.composition.specs.type_heads.Members.{has, no_body, body, heir_condition, is_conditional, subtypes, Line, line_of, through, down_within, down, lines_within, member_of, members_of, fields_declared, fields_among, members, fields, do_declared, dos, the_do}
use Rattle.modifier_meaning.specs.Unfolded.{unfolded_member, unfolded_phase}
use Rattle.modifier_meaning.specs.UnfoldedTypes.{unfolded_written, unfolded_body, unfolded_line, unfolded_types}
use Rattle.modifier_meaning.proofs.Lists.{flat_alike, map_flat, flat_of_map, map_of_map}

-- ---- lists

-- item n of a list that is mapped
pub item_of_map : {X Y : Type 0} (f : X → Y) (xs : List X) (n : ℕ) (d : X) (e : Y) → f d ≡ e → slice_index_or (map f xs) n e ≡ f (slice_index_or xs n d)
item_of_map f [] n d e h = sym h
item_of_map f (x ∷ xs) zero d e h = refl
item_of_map f (x ∷ xs) (suc n) d e h = item_of_map f xs n d e h

-- a filter that a map doesn't see
kept_by : {X Y : Type 0} (f : X → Y) (b : Bool) (x : X) (xs : List X) (ys : List Y) → ys ≡ map f xs → cond b (f x ∷ ys) ys ≡ map f (cond b (x ∷ xs) xs)
kept_by f true x xs ys e = ap (λ zs. f x ∷ zs) e
kept_by f false x xs ys e = e

pub filter_of_map : {X Y : Type 0} (f : X → Y) (test : Y → Bool) (xs : List X) → filter test (map f xs) ≡ map f (filter (λ x. test (f x)) xs)
filter_of_map f test [] = refl
filter_of_map f test (x ∷ xs) = kept_by f (test (f x)) x (filter (λ y. test (f y)) xs) (filter test (map f xs)) (filter_of_map f test xs)

-- two tests that agree
pub filter_alike : {X : Type 0} (test test2 : X → Bool) → ((x : X) → test x ≡ test2 x) → (xs : List X) → filter test xs ≡ filter test2 xs
filter_alike test test2 same [] = refl
filter_alike test test2 same (x ∷ xs) = ap₂ (λ b ys. cond b (x ∷ ys) ys) (same x) (filter_alike test test2 same xs)

cons_of_map : {X Y : Type 0} (f : X → Y) (o : Option X) (xs : List X) → cons_option (option_map f o) (map f xs) ≡ map f (cons_option o xs)
cons_of_map f None xs = refl
cons_of_map f (Some x) xs = refl

-- what is there of each item of two lists
pub there_of_map : {W X Y Z : Type 0} (u : W → X) (g : X → Option Z) (v : Y → Z) (h : W → Option Y) → ((w : W) → g (u w) ≡ option_map v (h w)) →
    (ws : List W) → filter_map g (map u ws) ≡ map v (filter_map h ws)
there_of_map u g v h same [] = refl
there_of_map u g v h same (w ∷ ws) =
    ap₂ (λ o xs. cons_option o xs) (same w) (there_of_map u g v h same ws) ∙ cons_of_map v (h w) (filter_map h ws)

first_of_map : {X Y : Type 0} (f : X → Y) (xs : List X) → find (λ y. true) (map f xs) ≡ option_map f (find (λ x. true) xs)
first_of_map f [] = refl
first_of_map f (x ∷ xs) = refl

module _ (mods : List ModifierDeclTree) where
  -- ---- fields

  declared_same : (m : Member) (member : MemberTree) → fields_declared (unfolded_line mods m) (unfolded_member mods member) ≡ fields_declared m member
  declared_same m (MemberTree.Field f) = refl
  declared_same m (MemberTree.Rule r) = refl
  declared_same m (MemberTree.Do place phase) = refl

  pub fields_same : (ms : List Member) → fields_among (map (unfolded_line mods) ms) ≡ fields_among ms
  fields_same ms =
      flat_of_map (λ (m : Member). fields_declared m m.written.member) (unfolded_line mods) ms
      ∙ flat_alike (λ m. fields_declared (unfolded_line mods m) (unfolded_member mods m.written.member)) (λ m. fields_declared m m.written.member) (λ m. declared_same m m.written.member) ms

  pub members_mapped : (ts : Types) (t : ℕ) → members (unfolded_types mods ts) t ≡ map (unfolded_line mods) (members ts t)
  members_mapped ts t = item_of_map (map (unfolded_line mods)) ts.members t [] [] refl

  pub same_fields : (ts : Types) (t : ℕ) → fields (unfolded_types mods ts) t ≡ fields ts t
  same_fields ts t = ap fields_among (members_mapped ts t) ∙ fields_same (members ts t)

  -- ---- the `do`

  abbrev pub unfolded_do : Do → Do
  unfolded_do d = record d { phase = unfolded_phase mods d.phase }

  do_same : (m : Member) (member : MemberTree) → do_declared (unfolded_line mods m) (unfolded_member mods member) ≡ option_map unfolded_do (do_declared m member)
  do_same m (MemberTree.Field f) = refl
  do_same m (MemberTree.Rule r) = refl
  do_same m (MemberTree.Do place phase) = refl

  pub do_mapped : (ts : Types) (t : ℕ) → the_do (unfolded_types mods ts) t ≡ option_map unfolded_do (the_do ts t)
  do_mapped ts t =
      ap (λ ms. find (λ d. true) (filter_map (λ (m : Member). do_declared m m.written.member) ms)) (members_mapped ts t)
      ∙ ap (λ ds. find (λ d. true) ds)
      (there_of_map (unfolded_line mods) (λ (m : Member). do_declared m m.written.member) unfolded_do (λ (m : Member). do_declared m m.written.member) (λ m. do_same m m.written.member) (members ts t))
      ∙ first_of_map unfolded_do (dos ts t)

  -- ---- members by bodies

  module _ (heads : List TypeHead) (bodies : List TypeBody) where
    abbrev new : List TypeBody
    new = map (unfolded_body mods) bodies

    pub body_mapped : (t : ℕ) → body (map (unfolded_body mods) bodies) t ≡ unfolded_body mods (body bodies t)
    body_mapped t = item_of_map (unfolded_body mods) bodies t no_body no_body refl

    pub condition_same : (t : ℕ) → heir_condition (map (unfolded_body mods) bodies) t ≡ heir_condition bodies t
    condition_same t = ap (λ (b : TypeBody). option_and_then (λ h. h.condition) b.heir) (body_mapped t)

    subtypes_same : (t : ℕ) → subtypes heads (map (unfolded_body mods) bodies) t ≡ subtypes heads bodies t
    subtypes_same t =
        filter_alike (λ c. is_conditional (map (unfolded_body mods) bodies) c && option_map_or (nat_eq t) (base heads c) false) (λ c. is_conditional bodies c && option_map_or (nat_eq t) (base heads c) false)
        (λ c. ap (λ o. is_some o && option_map_or (nat_eq t) (base heads c) false) (condition_same c)) (all_types heads)

    abbrev line : Line → Line
    line l = record l { written = unfolded_written mods l.written }

    written_lines : (t : ℕ) (ws : List Written) → map (line_of t) (map (unfolded_written mods) ws) ≡ map line (map (line_of t) ws)
    written_lines t ws = map_of_map (line_of t) (unfolded_written mods) ws ∙ sym (map_of_map line (line_of t) ws)

    through_lines : (c : ℕ) (ls : List Line) → map (through c) (map line ls) ≡ map line (map (through c) ls)
    through_lines c ls = map_of_map (through c) line ls ∙ sym (map_of_map line (through c) ls)

    three : (a b c : List Line) → map line (a ++ b ++ c) ≡ map line a ++ map line b ++ map line c
    three a b c = map-append line (a ++ b) c ∙ ap (λ xs. xs ++ map line c) (map-append line a b)

    down_step : (steps t : ℕ) → ((c : ℕ) → down_within steps heads (map (unfolded_body mods) bodies) c ≡ map line (down_within steps heads bodies c)) →
        flat_map (λ c. map (through c) (down_within steps heads (map (unfolded_body mods) bodies) c)) (subtypes heads (map (unfolded_body mods) bodies) t)
        ≡ map line (flat_map (λ c. map (through c) (down_within steps heads bodies c)) (subtypes heads bodies t))
    down_step steps t rec =
        ap (λ cs. flat_map (λ c. map (through c) (down_within steps heads (map (unfolded_body mods) bodies) c)) cs) (subtypes_same t)
        ∙ flat_alike (λ c. map (through c) (down_within steps heads (map (unfolded_body mods) bodies) c)) (λ c. map line (map (through c) (down_within steps heads bodies c)))
        (λ c. ap (map (through c)) (rec c) ∙ through_lines c (down_within steps heads bodies c)) (subtypes heads bodies t)
        ∙ sym (map_flat line (λ c. map (through c) (down_within steps heads bodies c)) (subtypes heads bodies t))

    down_mapped : (steps t : ℕ) → down_within steps heads (map (unfolded_body mods) bodies) t ≡ map line (down_within steps heads bodies t)
    down_mapped zero t = refl
    down_mapped (suc steps) t =
        (λ i. own i ++ down_step steps t (down_mapped steps) i ++ more i)
        ∙ sym (three (map (line_of t) (body bodies t).own) (flat_map (λ c. map (through c) (down_within steps heads bodies c)) (subtypes heads bodies t)) (map (line_of t) (body bodies t).more))
      where
        own : map (line_of t) (body (map (unfolded_body mods) bodies) t).own ≡ map line (map (line_of t) (body bodies t).own)
        own = ap (λ (b : TypeBody). map (line_of t) b.own) (body_mapped t) ∙ written_lines t (body bodies t).own

        more : map (line_of t) (body (map (unfolded_body mods) bodies) t).more ≡ map line (map (line_of t) (body bodies t).more)
        more = ap (λ (b : TypeBody). map (line_of t) b.more) (body_mapped t) ∙ written_lines t (body bodies t).more

    from_base : (steps t : ℕ) → ((b : ℕ) → lines_within steps heads (map (unfolded_body mods) bodies) b ≡ map line (lines_within steps heads bodies b)) →
        flat_map (λ b. filter (λ l. not (has t l.through)) (lines_within steps heads (map (unfolded_body mods) bodies) b)) (option_to_list (base heads t))
        ≡ map line (flat_map (λ b. filter (λ l. not (has t l.through)) (lines_within steps heads bodies b)) (option_to_list (base heads t)))
    from_base steps t rec =
        flat_alike (λ b. filter (λ l. not (has t l.through)) (lines_within steps heads (map (unfolded_body mods) bodies) b)) (λ b. map line (filter (λ l. not (has t l.through)) (lines_within steps heads bodies b)))
        (λ b. ap (filter (λ (l : Line). not (has t l.through))) (rec b) ∙ filter_of_map line (λ l. not (has t l.through)) (lines_within steps heads bodies b)) (option_to_list (base heads t))
        ∙ sym (map_flat line (λ b. filter (λ l. not (has t l.through)) (lines_within steps heads bodies b)) (option_to_list (base heads t)))

    lines_mapped : (steps t : ℕ) → lines_within steps heads (map (unfolded_body mods) bodies) t ≡ map line (lines_within steps heads bodies t)
    lines_mapped zero t = refl
    lines_mapped (suc steps) t =
        ap₂ (λ a b. a ++ b) (from_base steps t (lines_mapped steps)) (down_mapped (length heads) t)
        ∙ sym (map-append line (flat_map (λ b. filter (λ l. not (has t l.through)) (lines_within steps heads bodies b)) (option_to_list (base heads t))) (down heads bodies t))

    pub members_of_mapped : (t : ℕ) → members_of heads (map (unfolded_body mods) bodies) t ≡ map (unfolded_line mods) (members_of heads bodies t)
    members_of_mapped t =
        ap (map (member_of (t ∷ bases heads t))) (lines_mapped (length heads) t)
        ∙ map_of_map (member_of (t ∷ bases heads t)) line (lines_within (length heads) heads bodies t)
        ∙ sym (map_of_map (unfolded_line mods) (member_of (t ∷ bases heads t)) (lines_within (length heads) heads bodies t))
