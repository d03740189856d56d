-- Keys of declared names.
use Rattle.std.proofs.Common.{◌≡◌, ◌∙◌, refl, sym, ap, ℕ, Bool, true, false, ◌&&◌, List, Option, Some, None, Bor, option_copied, bytes_eq, true≢false}
use Rattle.std.specs.Bool.{beq}
use Rattle.std.specs.Option.{option_eq}
use Rattle.std.proofs.lemmas.Slice.Eq.{bytes_eq-Decides}
use Rattle.type_members.specs.name_scope.declared.ids.NameKind.{NameKind}
use Rattle.type_members.specs.name_scope.Declaring.{DeclaredName, same_owner}
use Rattle.type_members.specs.type_heads.HeadingFaults.{is_unit_name, same_space, shares_name}
use Rattle.heading_faults.specs.SeenNames.{seen_name, key_of, in_space, shares_key}
use Rattle.heading_faults.specs.declared.names.NameDeclared.{NameDeclared}
use Rattle.heading_faults.specs.declared.names.NameKey.{NameKey}

-- equality of keys
abbrev pub same_key : NameKey → NameKey → Bool
same_key a b = beq a.is_unit b.is_unit && (option_eq (λ (x y : Bor (List ℕ)). bytes_eq x.now y.now) a.owner b.owner && bytes_eq a.name.now b.name.now)

all_three : (a b c : Bool) → (a && (b && c)) ≡ true → (a ≡ true) × (b ≡ true) × (c ≡ true)
all_three true true true h = (refl, refl, refl)
all_three true true false h = absurd (true≢false (sym h))
all_three true false c h = absurd (true≢false (sym h))
all_three false b c h = absurd (true≢false (sym h))

same_unit : (a b : Bool) → beq a b ≡ true → a ≡ b
same_unit true true h = refl
same_unit true false h = absurd (true≢false (sym h))
same_unit false true h = absurd (true≢false (sym h))
same_unit false false h = refl

owner_is : (a b : Option (Bor (List ℕ))) → option_eq (λ (x y : Bor (List ℕ)). bytes_eq x.now y.now) a b ≡ true → option_copied a ≡ option_copied b
owner_is None None h = refl
owner_is None (Some y) h = absurd (true≢false (sym h))
owner_is (Some x) None h = absurd (true≢false (sym h))
owner_is (Some x) (Some y) h = ap Some ((bytes_eq-Decides x.now y.now).0 h)

-- equal keys are keys of the same names
pub alike : (other : DeclaredName) (a b : NameKey) → same_key a b ≡ true → shares_key other a ≡ shares_key other b
alike other a b h =
    let parts = all_three (beq a.is_unit b.is_unit) (option_eq (λ (x y : Bor (List ℕ)). bytes_eq x.now y.now) a.owner b.owner) (bytes_eq a.name.now b.name.now) h in
    ap (λ u. in_space other.kind u && (same_owner other.owner (option_copied a.owner) && bytes_eq other.name a.name.now)) (same_unit a.is_unit b.is_unit parts.0)
    ∙ ap (λ o. in_space other.kind b.is_unit && (same_owner other.owner o && bytes_eq other.name a.name.now)) (owner_is a.owner b.owner parts.1)
    ∙ ap (λ n. in_space other.kind b.is_unit && (same_owner other.owner (option_copied b.owner) && bytes_eq other.name n)) ((bytes_eq-Decides a.name.now b.name.now).0 parts.2)

spaces : (a b : NameKind) → in_space a (is_unit_name b) ≡ same_space a b
spaces NameKind.TypeName NameKind.TypeName = refl
spaces NameKind.TypeName NameKind.UnitName = refl
spaces NameKind.TypeName NameKind.BehaviourName = refl
spaces NameKind.UnitName NameKind.TypeName = refl
spaces NameKind.UnitName NameKind.UnitName = refl
spaces NameKind.UnitName NameKind.BehaviourName = refl
spaces NameKind.BehaviourName NameKind.TypeName = refl
spaces NameKind.BehaviourName NameKind.UnitName = refl
spaces NameKind.BehaviourName NameKind.BehaviourName = refl
spaces NameKind.TypeName NameKind.ModifierName = refl
spaces NameKind.UnitName NameKind.ModifierName = refl
spaces NameKind.BehaviourName NameKind.ModifierName = refl
spaces NameKind.ModifierName NameKind.TypeName = refl
spaces NameKind.ModifierName NameKind.UnitName = refl
spaces NameKind.ModifierName NameKind.BehaviourName = refl
spaces NameKind.ModifierName NameKind.ModifierName = refl

-- a name shares the name of a key
pub key_shares : (other : DeclaredName) (d : NameDeclared) (k : NameKey) → k ≡ key_of d → shares_key other k ≡ shares_name other (seen_name d)
key_shares other d k is = ap (shares_key other) is ∙ ap (λ b. b && (same_owner other.owner (option_copied d.owner) && bytes_eq other.name d.name.now)) (spaces other.kind d.kind)
