-- What is gathered, from what its parts are.
use Rattle.std.proofs.Common.{◌≡◌, ◌∙◌, sym, ap, subst, ℕ, ◌<◌, ◌^◌, List, Option, length, map}
use Rattle.type_heads.specs.Table.{TypeHead, named}
use Rattle.type_heads.specs.DeclaredTypes.{Declared, all_declared}
use Rattle.type_heads.specs.Placing.{seen_placed, seen_type}
use Rattle.type_heads.specs.Names.{place_of}
use Rattle.type_heads.specs.Grouped.{AreGrouped, IsIndex}
use Rattle.type_heads.specs.Gathered.{AreGathered, heads_of}
use Rattle.type_heads.specs.declared.placed.PlacedDecl.{PlacedDecl}
use Rattle.type_heads.specs.declared.own_type.OwnType.{OwnType}
use Rattle.type_heads.specs.declared.declarations.Declarations.{Declarations}

pub heads_are : (d : Declarations) → map seen_type d.types.items ≡ all_declared (map seen_placed d.placed.items) →
    heads_of d ≡ map (λ (x : Declared). x.head) (map seen_type d.types.items)
unfolding heads_of
heads_are d same = ap (map (λ (x : Declared). x.head)) (sym same)

pub gathered : (d : Declarations) (placed : List PlacedDecl) (types : List OwnType) → placed ≡ d.placed.items → types ≡ d.types.items →
    map seen_type d.types.items ≡ all_declared (map seen_placed placed) →
    length types < 2 ^ 32 →
    ((owner : Option (List ℕ)) (name : List ℕ) → place_of d.names owner name ≡ named (map (λ (x : Declared). x.head) (map seen_type types)) owner name) →
    length d.added.items ≡ length types →
    ((heads : List TypeHead) → IsIndex d.names heads → AreGrouped heads (length types) placed d.added.items) → AreGathered d
gathered d placed types same_placed same_types are few first counted grouped =
    let all : map seen_type d.types.items ≡ all_declared (map seen_placed d.placed.items) = are ∙ ap (λ ps. all_declared (map seen_placed ps)) same_placed in
    let heads : map (λ (x : Declared). x.head) (map seen_type types) ≡ heads_of d = ap (λ ts. map (λ (x : Declared). x.head) (map seen_type ts)) same_types ∙ sym (heads_are d all) in
    let index : IsIndex d.names (heads_of d) = λ owner name. first owner name ∙ ap (λ hs. named hs owner name) heads in
    record {
      few = subst (λ ts. length ts < 2 ^ 32) same_types few;
      same_types = all;
      same_names = index;
      counted = counted ∙ ap length same_types;
      same_extensions = subst (λ ts. AreGrouped (heads_of d) (length ts) d.placed.items d.added.items) same_types
          (subst (λ ps. AreGrouped (heads_of d) (length types) ps d.added.items) same_placed (grouped (heads_of d) index));
    }
