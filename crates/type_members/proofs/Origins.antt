-- Where rows start: what stands before them is what their types have of their bases, or all that they have.
use Rattle.std.proofs.Common.{◌≡◌, ◌∙◌, refl, sym, ap, subst, true≢false, ℕ, ◌+◌, ◌<◌, ◌≤◌, ◌⊎◌, inl, inr, Bool, true, false, List, [], ◌∷◌, ◌++◌, Option, Some, None, arith, map, length, ltb, take}
use Rattle.std.specs.Prelude.{drop}
use Rattle.std.specs.Option.{option_map_or}
use Rattle.std.proofs.lemmas.Bool.Decides.{nat_tests}
use Rattle.std.proofs.lemmas.List.{append_assoc, get_or_past}
use Rattle.type_heads.specs.Table.{TypeHead, base, int_head}
use Rattle.type_heads.specs.Types.{TypeBody, Member}
use Rattle.type_heads.specs.Members.{is_conditional, members_of}
use Rattle.type_members.specs.Cutting.{AreBare, IsCutFor, IsToldApart, IsWidened, begins, cut_out, ends, is_within}
use Rattle.type_members.specs.Listed.{AreSubtypes, seen_row}
use Rattle.type_members.specs.Origins.{IsConditionalStart, IsKnownAt, IsOrigin, IsStart, IsTold, before}
use Rattle.type_members.specs.RowEnds.{own_part}
use Rattle.type_members.specs.Shared.{fronts_in, is_cut, lies_in, members_at, members_in_part, members_in_parts, moved, place_parts}
use Rattle.type_members.specs.declared.fronts.Origin.{Origin}
use Rattle.type_members.specs.declared.places.Part.{Part}
use Rattle.type_members.specs.declared.places.Span.{Span}
use Rattle.type_members.specs.declared.places.Standing.{Standing}
use Rattle.type_members.specs.declared.rows.Cut.{Cut}
use Rattle.type_members.specs.declared.rows.MemberRow.{MemberRow}
use Rattle.type_members.specs.declared.rows.Start.{Start}
use Rattle.type_members.proofs.BareTypes.{none_down}
use Rattle.type_members.proofs.Blocks.{IsBlock, bare_block, block_of}
use Rattle.type_members.proofs.Cuts.{begins_join, ends_join, none_begin, none_end, same_first, same_inner}
use Rattle.type_members.proofs.Inheriting.{members_more}
use Rattle.type_members.proofs.Moves.{IsInPart, first_in, in_part_is, last_in, members_left, moved_is, place_is, whole_is, wide_is_cut, wide_moved}

-- what stands before a row that starts without a cut
before_is : (rows : List MemberRow) (at : Span) → before rows (record { at = at; cut = None }) ≡ members_at (fronts_in rows) (map seen_row rows) at
before_is rows at = members_left (map seen_row rows) (place_parts (fronts_in rows) at) ∙ place_is (fronts_in rows) (map seen_row rows) at

-- a type that inherits without a condition starts at the end of the members of its base
pub plain_start : (heads : List TypeHead) (bodies : List TypeBody) (rows : List MemberRow) (b t : ℕ) (s : Standing) → base heads t ≡ Some b → is_conditional bodies t ≡ false →
    IsKnownAt heads bodies rows b s → IsOrigin heads bodies rows t (Origin.Beside (record { at = s.span; cut = None }))
plain_start heads bodies rows b t s inherits unconditional known = (
  record { there = known.at.there; cut = refl },
  ap (λ ms. ms ++ own_part heads bodies t) (before_is rows s.span ∙ known.at.members)
      ∙ sym (members_more heads bodies b t s.depth inherits unconditional known.end known.below),
)

-- Conditional subtypes

-- a type that inherits is one of the table
in_table : (heads : List TypeHead) (t b : ℕ) → base heads t ≡ Some b → t < length heads
in_table heads t b inherits = by (ltb t (length heads)) refl
  where
    less : (a n : ℕ) → ltb a n ≡ true → a < n
    less a n e = grind (arith, nat_tests)

    past : (a n : ℕ) → ltb a n ≡ false → n ≤ a
    past a n e = grind (arith, nat_tests)

    by : (e : Bool) → ltb t (length heads) ≡ e → t < length heads
    by true e = less t (length heads) e
    by false e = let never : None ≡ Some b = ap (λ (h : TypeHead). h.base) (sym (get_or_past heads t int_head (past t (length heads) e))) ∙ inherits in absurd (cc never)

-- a cut that is told apart takes out what comes down through the subtype
told_cut : (heads : List TypeHead) (bodies : List TypeBody) (rows : List (List Member)) (parts : List Part) (b c : ℕ) (cut : Cut) → IsBlock heads bodies b c →
    members_in_parts rows parts ≡ members_of heads bodies b → IsToldApart rows parts c cut → members_in_parts rows (moved parts cut) ≡ members_of heads bodies c
told_cut heads bodies rows parts b c cut block all told =
    let within : IsInPart cut told.of = in_part_is cut told.of told.within in
    let first : List Member = first_in rows parts cut told.of in
    let inner : List Member = members_in_part rows (cut_out told.of cut) in
    let last : List Member = last_in rows parts cut told.of in
    let whole : first ++ (inner ++ last) ≡ block.first ++ (block.inner ++ block.last) =
    sym (append_assoc first inner last) ∙ sym (whole_is rows parts cut told.of told.there within) ∙ all ∙ block.whole ∙ append_assoc block.first block.inner block.last in
    let ends_before : ends (is_within c) first ≡ false =
    ends_join (is_within c) (members_in_parts rows (take cut.part parts)) (members_in_part rows (record told.of { to = cut.from }))
    (none_end (is_within c) (members_in_part rows) (take cut.part parts) told.before) told.just_before in
    let begins_after : begins (is_within c) last ≡ false =
    begins_join (is_within c) (members_in_part rows (record told.of { from = cut.to })) (members_in_parts rows (drop (cut.part + 1) parts))
    told.just_after (none_begin (is_within c) (members_in_part rows) (drop (cut.part + 1) parts) told.after) in
    let same : (first ≡ block.first) × (inner ++ last ≡ block.inner ++ block.last) =
    same_first (is_within c) first (inner ++ last) block.first block.inner block.last whole block.not_first block.each block.not_last ends_before (begins_more inner last told.first) in
    let rest : (inner ≡ block.inner) × (last ≡ block.last) =
    same_inner (is_within c) inner last block.inner block.last same.1 block.each block.not_last told.last begins_after in
    moved_is rows parts cut told.of told.there within
    ∙ cc
  where
    begins_more : (xs ys : List Member) → begins (is_within c) xs ≡ true → begins (is_within c) (xs ++ ys) ≡ true
    begins_more [] ys e = absurd (true≢false (sym e))
    begins_more (x ∷ xs) ys e = e

told_is_cut : (rows : List (List Member)) (parts : List Part) (c : ℕ) (cut : Cut) → IsToldApart rows parts c cut → is_cut parts (Some cut) ≡ true
told_is_cut rows parts c cut told = ap (λ (o : Option Part). option_map_or (lies_in cut) o false) told.there ∙ told.within

-- so does a wider one
right_cut : (heads : List TypeHead) (bodies : List TypeBody) (rows : List (List Member)) (parts : List Part) (b c : ℕ) (cut : Cut) → IsBlock heads bodies b c →
    members_in_parts rows parts ≡ members_of heads bodies b → IsCutFor rows parts c cut →
    (is_cut parts (Some cut) ≡ true) × (members_in_parts rows (moved parts cut) ≡ members_of heads bodies c)
right_cut heads bodies rows parts b c cut block all is = by is.same
  where
    right : members_in_parts rows (moved parts is.told) ≡ members_of heads bodies c
    right = told_cut heads bodies rows parts b c is.told block all is.apart

    by : (cut ≡ is.told) ⊎ IsWidened rows parts is.told cut → (is_cut parts (Some cut) ≡ true) × (members_in_parts rows (moved parts cut) ≡ members_of heads bodies c)
    by (inl same) = (ap (λ q. is_cut parts (Some q)) same ∙ told_is_cut rows parts c is.told is.apart, ap (λ q. members_in_parts rows (moved parts q)) same ∙ right)
    by (inr wide) =
        let one : Some is.apart.of ≡ Some wide.of = sym is.apart.there ∙ wide.there in
        let within : IsInPart is.told wide.of = in_part_is is.told wide.of (ap (λ (o : Option Part). option_map_or (lies_in is.told) o false) (sym one) ∙ is.apart.within) in
        (wide_is_cut rows parts is.told cut wide within, wide_moved rows parts is.told cut wide within ∙ right)

-- a conditional subtype has its members among those of its base
pub conditional_is : (heads : List TypeHead) (bodies : List TypeBody) (lists : List (List ℕ)) (bare : List Bool) (rows : List MemberRow) (b c : ℕ) (s : Standing) (start : Start) →
    base heads c ≡ Some b → is_conditional bodies c ≡ true → AreSubtypes heads bodies lists → AreBare bodies lists bare → IsKnownAt heads bodies rows b s →
    IsConditionalStart rows bare s.span c start → IsOrigin heads bodies rows c (Origin.Within start)
conditional_is heads bodies lists bare rows b c s start inherits conditional are flagged known is = by start.at start.cut is.same is.told
  where
    block : IsBlock heads bodies b c
    block = block_of heads bodies b c s.depth inherits conditional known.there (in_table heads c b inherits) known.end known.below

    by : (at : Span) (cut : Option Cut) → at ≡ s.span → IsTold rows bare s.span c cut →
        IsStart rows (record { at = at; cut = cut }) × (before rows (record { at = at; cut = cut }) ≡ members_of heads bodies c)
    by at None same told = (
      record { there = subst (λ (q : Span). q.row < length rows) (sym same) known.at.there; cut = refl },
      ap (λ q. before rows (record { at = q; cut = None })) same ∙ before_is rows s.span ∙ known.at.members
          ∙ sym (bare_block heads bodies b c block (none_down heads bodies lists bare are flagged (length heads) c told)),
    )
    by at (Some cut) same told =
        let right : (is_cut (place_parts (fronts_in rows) s.span) (Some cut) ≡ true)
        × (members_in_parts (map seen_row rows) (moved (place_parts (fronts_in rows) s.span) cut) ≡ members_of heads bodies c) =
        right_cut heads bodies (map seen_row rows) (place_parts (fronts_in rows) s.span) b c cut block (place_is (fronts_in rows) (map seen_row rows) s.span ∙ known.at.members) told in (
          record {
            there = subst (λ (q : Span). q.row < length rows) (sym same) known.at.there;
            cut = ap (λ q. is_cut (place_parts (fronts_in rows) q) (Some cut)) same ∙ right.0;
          },
          ap (λ q. before rows (record { at = q; cut = Some cut })) same
              ∙ members_left (map seen_row rows) (moved (place_parts (fronts_in rows) s.span) cut) ∙ right.1,
        )
