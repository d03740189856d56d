-- What the answers of types say of fields and enums.
use Rattle.std.proofs.Common.{◌≡◌, ◌∙◌, refl, sym, ap, ap₂, ℕ, true, List, [], ◌∷◌, Option, Some, None}
use Rattle.std.specs.Prelude.{ℤ, pos, option_map}
use Rattle.dsl_tree.specs.declared.parts.Ident.{Ident}
use Rattle.dsl_tree.specs.osc_base.declared.fault.Place.{Place}
use Rattle.dsl_tree.specs.osc_base.declared.path.Path.{Path}
use Rattle.expr_nodes.specs.type_heads.Form.{Form}
use Rattle.expr_nodes.specs.type_heads.declared.kinds.EnumHit.{EnumHit}
use Rattle.expr_nodes.specs.type_heads.Shown.{bare, hit_of}
use Rattle.expr_nodes.specs.type_heads.Table.{Table, is_behaviour, is_enum, enum_number}
use Rattle.expr_nodes.specs.Kinds.{ValueKind, kind_of}
use Rattle.expr_nodes.specs.Typed.{Typed, TypedRow, Read, Listed}
use Rattle.expr_nodes.specs.Sizes.{Size, info_at, unit_size, field_size}
use Rattle.expr_nodes.specs.Names.{Nothing, Several, Something, member_meant, member_at, per_of, elements_from}
use Rattle.expr_nodes.specs.SeenNames.{single_in, list_in}

pub single_bare : (place : Place) (path : Path) (t : ℕ) (f : Form) → single_in place path t (bare f) ≡ single_in place path t f
single_bare place path t Form.Int = refl
single_bare place path t Form.Uint = refl
single_bare place path t Form.Float = refl
single_bare place path t Form.Truth = refl
single_bare place path t Form.Chars = refl
single_bare place path t (Form.Physical exponents) = refl
single_bare place path t (Form.Enum members) = refl
single_bare place path t (Form.Compound kind) = refl

pub list_bare : (place : Place) (path : Path) (t : ℕ) (f : Form) (count : ℕ) → list_in place path t (bare f) count ≡ list_in place path t f count
list_bare place path t Form.Int count = refl
list_bare place path t Form.Uint count = refl
list_bare place path t Form.Float count = refl
list_bare place path t Form.Truth count = refl
list_bare place path t Form.Chars count = refl
list_bare place path t (Form.Physical exponents) count = refl
list_bare place path t (Form.Enum members) count = refl
list_bare place path t (Form.Compound kind) count = refl

pub behaviour_bare : (f : Form) → is_behaviour (bare f) ≡ is_behaviour f
behaviour_bare Form.Int = refl
behaviour_bare Form.Uint = refl
behaviour_bare Form.Float = refl
behaviour_bare Form.Truth = refl
behaviour_bare Form.Chars = refl
behaviour_bare (Form.Physical exponents) = refl
behaviour_bare (Form.Enum members) = refl
behaviour_bare (Form.Compound kind) = refl

pub enum_bare : (f : Form) → is_enum (bare f) ≡ is_enum f
enum_bare Form.Int = refl
enum_bare Form.Uint = refl
enum_bare Form.Float = refl
enum_bare Form.Truth = refl
enum_bare Form.Chars = refl
enum_bare (Form.Physical exponents) = refl
enum_bare (Form.Enum members) = refl
enum_bare (Form.Compound kind) = refl

-- which enum is meant by a bare name of a member
module _ (table : Table) (i : Ident) where
  pub hit_absent : (ts : List ℕ) → hit_of ts ≡ EnumHit.Absent → Nothing ≡ member_meant table i ts
  hit_absent [] h = refl
  hit_absent (t ∷ []) h = absurd (cc)
  hit_absent (t ∷ u ∷ us) h = absurd (cc)

  pub hit_several : (ts : List ℕ) → hit_of ts ≡ EnumHit.Several → Several ≡ member_meant table i ts
  hit_several [] h = absurd (cc)
  hit_several (t ∷ []) h = absurd (cc)
  hit_several (t ∷ u ∷ us) h = refl

  pub hit_one : (ts : List ℕ) (t : ℕ) (m : Option Typed) → hit_of ts ≡ EnumHit.One t → m ≡ option_map (member_at i.place t) (enum_number table.heads t i.text) → Something m ≡ member_meant table i ts
  hit_one [] t m h same = absurd (cc)
  hit_one (u ∷ []) t m h same =
      let e : u ≡ t = cc in
      ap Something (same ∙ ap (λ v. option_map (member_at i.place v) (enum_number table.heads v i.text)) (sym e))
  hit_one (u ∷ v ∷ us) t m h same = absurd (cc)

-- the number of a member, as the program has it
pub member_some : {X : Type 0} (f : ℕ → X) (g : ℤ → X) (x : Option ℕ) (n : ℤ) → Some n ≡ option_map pos x → ((k : ℕ) → g (pos k) ≡ f k) → Some (g n) ≡ option_map f x
member_some f g None n h same = absurd (cc)
member_some f g (Some k) n h same =
    let e : n ≡ pos k = cc in
    ap Some (ap g e ∙ same k)

pub member_none : {X : Type 0} (f : ℕ → X) (x : Option ℕ) → None ≡ option_map pos x → None ≡ option_map f x
member_none f None h = refl
member_none f (Some k) h = absurd (cc)

-- a list field, by its parts
pub list_made : (place : Place) (path : Path) (t : ℕ) (f : Form) (count : ℕ) (k other : ValueKind) (s unit : Size) (per : ℕ) (rows : TypedRow)
    → Some k ≡ kind_of t f → Some other ≡ kind_of t f → s ≡ field_size per → unit ≡ unit_size → per ≡ per_of f
    → rows ≡ elements_from 0 count (λ p. Read (info_at place k s) p per) path
    → Some (Listed (info_at place other unit) true rows) ≡ list_in place path t f count
list_made place path t f count k other s unit per rows kind also sized plain counted same =
    let one : other ≡ k = cc in
    ap₂ (λ i r. Some (Listed i true r)) (ap₂ (info_at place) one plain)
    (same ∙ ap₂ (λ z n. elements_from 0 count (λ p. Read (info_at place k z) p n) path) (sized ∙ ap field_size counted) counted)
    ∙ ap (option_map (λ j. Listed (info_at place j unit_size) true (elements_from 0 count (λ p. Read (info_at place j (field_size (per_of f))) p (per_of f)) path))) kind
