-- Tables of the members of enums, as functions from names.
use Rattle.std.proofs.Common.{◌≡◌, ◌∙◌, refl, sym, ap, ap₂, ℕ, zero, suc, ℤ, pos, ◌+◌, ◌<◌, List, [], ◌∷◌, ◌++◌, Bool, true, false, cond, ◌&&◌, Option, Some, None, bytes_eq, drop, filter, find, get_or, is_none, is_some, length, option_map, unwrap_or}
use Rattle.std.specs.Prelude.{⊤}
use Rattle.std.specs.Option.{option_or, option_map_or}
use Rattle.std.proofs.lemmas.Slice.Eq.{bytes_eq-Decides}
use Rattle.std.proofs.lemmas.List.{drop_more}
use Rattle.std.proofs.lemmas.Option.{get_or_from_slice_get, slice_get_read}
use Rattle.type_heads.specs.Form.{EnumMember}
use Rattle.type_heads.specs.Table.{TypeHead, int_head, enum_members, enum_number, number_of, numbers_from}
use Rattle.type_heads.specs.Shown.{hit_more}
use Rattle.type_heads.specs.EnumNames.{AreNumbers, hit_counted, number_at}
use Rattle.type_heads.specs.declared.kinds.EnumHit.{EnumHit}
use Rattle.type_heads.specs.declared.enum_index.NumberTable.{NumberTable}
use Rattle.type_heads.proofs.Hits.{hit_after}

-- One member more

-- the number of a name in one member more
pub number_more : (ms : List EnumMember) (m : EnumMember) (name : List ℕ) →
    number_of (ms ++ m ∷ []) name ≡ option_or (number_of ms name) (cond (bytes_eq m.name name) (Some m.number) None)
number_more [] m name = by (bytes_eq m.name name)
  where
    by : (b : Bool) → option_map (λ (m : EnumMember). m.number) (cond b (Some m) None) ≡ cond b (Some m.number) None
    by true = refl
    by false = refl
number_more (x ∷ xs) m name = by (bytes_eq x.name name) (number_more xs m name)
  where
    by : (b : Bool) → number_of (xs ++ m ∷ []) name ≡ option_or (number_of xs name) (cond (bytes_eq m.name name) (Some m.number) None) →
        option_map (λ (m : EnumMember). m.number) (cond b (Some x) (find (λ (m : EnumMember). bytes_eq m.name name) (xs ++ m ∷ [])))
        ≡ option_or (option_map (λ (m : EnumMember). m.number) (cond b (Some x) (find (λ (m : EnumMember). bytes_eq m.name name) xs))) (cond (bytes_eq m.name name) (Some m.number) None)
    by true h = refl
    by false h = h

shown_or : (o : Option ℕ) (b : Bool) (k : ℕ) → option_or (option_map pos o) (cond b (Some (pos k)) None) ≡ option_map pos (option_or o (cond b (Some k) None))
shown_or None true k = refl
shown_or None false k = refl
shown_or (Some n) b k = refl

-- a table with one member more
pub numbers_more : (ms : List EnumMember) (m : EnumMember) (name : List ℕ) (o o' : Option ℤ) → o ≡ option_map pos (number_of ms name) →
    o' ≡ option_or o (cond (bytes_eq m.name name) (Some (pos m.number)) None) → o' ≡ option_map pos (number_of (ms ++ m ∷ []) name)
numbers_more ms m name o o' was is =
    is ∙ ap (λ p. option_or p (cond (bytes_eq m.name name) (Some (pos m.number)) None)) was
    ∙ shown_or (number_of ms name) (bytes_eq m.name name) m.number
    ∙ ap (option_map pos) (sym (number_more ms m name))

counted : (o : Option ℕ) (b : Bool) (k : ℕ) (h : EnumHit) (t : ℕ) →
    cond (b && is_none (option_map pos o)) (hit_more (cond (is_some o) (hit_more h t) h) t) (cond (is_some o) (hit_more h t) h)
    ≡ cond (is_some (option_or o (cond b (Some k) None))) (hit_more h t) h
counted None true k h t = refl
counted None false k h t = refl
counted (Some n) true k h t = refl
counted (Some n) false k h t = refl

-- the hits after one member more
pub hits_more : (ms : List EnumMember) (m : EnumMember) (name : List ℕ) (o : Option ℤ) (first hit hit' : EnumHit) (t : ℕ) → o ≡ option_map pos (number_of ms name) →
    hit ≡ hit_counted ms first t name → hit' ≡ cond (bytes_eq m.name name && is_none o) (hit_more hit t) hit → hit' ≡ hit_counted (ms ++ m ∷ []) first t name
hits_more ms m name o first hit hit' t was h is =
    is ∙ ap₂ (λ p g. cond (bytes_eq m.name name && is_none p) (hit_more g t) g) was h
    ∙ counted (number_of ms name) (bytes_eq m.name name) m.number first t
    ∙ ap (λ p. cond (is_some p) (hit_more first t) first) (sym (number_more ms m name))

-- what is put into a map of hits
pub put_hit : (o o' : List ℕ → Option EnumHit) (name : List ℕ) (hit : EnumHit) (t : ℕ) → hit ≡ hit_more (unwrap_or (o name) EnumHit.Absent) t →
    ((other : List ℕ) → o' other ≡ cond (bytes_eq name other) (Some hit) (o other)) → (other : List ℕ) →
    unwrap_or (o' other) EnumHit.Absent ≡ cond (bytes_eq name other) (hit_more (unwrap_or (o other) EnumHit.Absent) t) (unwrap_or (o other) EnumHit.Absent)
put_hit o o' name hit t more is other = ap (λ p. unwrap_or p EnumHit.Absent) (is other) ∙ by (bytes_eq name other) refl
  where
    by : (b : Bool) → bytes_eq name other ≡ b → unwrap_or (cond b (Some hit) (o other)) EnumHit.Absent
        ≡ cond b (hit_more (unwrap_or (o other) EnumHit.Absent) t) (unwrap_or (o other) EnumHit.Absent)
    by true e = more ∙ ap (λ n. hit_more (unwrap_or (o n) EnumHit.Absent) t) ((bytes_eq-Decides name other).0 e)
    by false e = refl

-- The tables of all types

-- each table has the numbers of its type
abbrev pub AreTables : List NumberTable → List TypeHead → Type 0
AreTables [] [] = ⊤
AreTables [] (h ∷ hs) = ⊥
AreTables (x ∷ xs) [] = ⊥
AreTables (x ∷ xs) (h ∷ hs) = AreNumbers x (enum_members h.form) × AreTables xs hs

pub tables_more : (xs : List NumberTable) (x : NumberTable) (hs : List TypeHead) (h : TypeHead) → AreTables xs hs → AreNumbers x (enum_members h.form) → AreTables (xs ++ x ∷ []) (hs ++ h ∷ [])
tables_more [] x [] h all is = (is, tt)
tables_more [] x (g ∷ gs) h all is = absurd all
tables_more (y ∷ ys) x [] h all is = absurd all
tables_more (y ∷ ys) x (g ∷ gs) h all is = (all.0, tables_more ys x gs h all.1 is)

pub table_number : (xs : List NumberTable) (hs : List TypeHead) → AreTables xs hs → (t : ℕ) (name : List ℕ) → number_at xs t name ≡ option_map pos (enum_number hs t name)
table_number [] [] all t name = refl
table_number [] (g ∷ gs) all t name = absurd all
table_number (y ∷ ys) [] all t name = absurd all
table_number (y ∷ ys) (g ∷ gs) all zero name = all.0 name
table_number (y ∷ ys) (g ∷ gs) all (suc t) name = table_number ys gs all.1 t name

-- The hits of all types

-- the types from a number on that have a member of the name
abbrev pub enums_from : List TypeHead → List ℕ → ℕ → List TypeHead → List ℕ
enums_from heads name n hs = filter (λ t. option_map_or (λ n. true) (enum_number heads t name) false) (numbers_from n hs)

-- one type more is gone over
pub hits_next : (heads : List TypeHead) (i n : ℕ) (h : TypeHead) (name : List ℕ) (hit hit' : EnumHit) → i < length heads → n ≡ i → h ≡ get_or heads i h →
    hit' ≡ hit_counted (enum_members h.form) hit n name →
    hit_after hit (enums_from heads name n (drop i heads)) ≡ hit_after hit' (enums_from heads name (n + 1) (drop (i + 1) heads))
hits_next heads i n h name hit hit' less same is more =
    let split : drop i heads ≡ h ∷ drop (i + 1) heads = drop_more heads i h less ∙ ap (λ y. y ∷ drop (i + 1) heads) (sym is) in
    let here : enum_number heads n name ≡ number_of (enum_members h.form) name =
    ap (λ m. enum_number heads m name) same
    ∙ ap (λ (g : TypeHead). number_of (enum_members g.form) name) (get_or_from_slice_get heads i h int_head (slice_get_read heads (length heads) i h refl less is)) in
    ap (λ hs. hit_after hit (enums_from heads name n hs)) split
    ∙ by (enum_number heads n name) (number_of (enum_members h.form) name) here (enums_from heads name (n + 1) (drop (i + 1) heads))
    ∙ ap (λ g. hit_after g (enums_from heads name (n + 1) (drop (i + 1) heads))) (sym more)
  where
    by : (o p : Option ℕ) → o ≡ p → (ts : List ℕ) → hit_after hit (cond (option_map_or (λ n. true) o false) (n ∷ ts) ts) ≡ hit_after (cond (is_some p) (hit_more hit n) hit) ts
    by None None e ts = refl
    by None (Some q) e ts = cc
    by (Some q) None e ts = cc
    by (Some q) (Some r) e ts = refl
