-- The names that declarations declare, and which declaration a name means.
use Rattle.std.specs.Prelude.{◌≡◌, ℕ, ◌+◌, ◌&&◌, Bool, true, false, cond, List, [], ◌∷◌, Option, Some, None, option_map, slice_get, bytes_eq}
use Rattle.std.specs.Option.{option_or}
use Rattle.dsl_tree.specs.osc_base.declared.fault.Place.{Place}
use Rattle.dsl_tree.specs.declared.parts.Ident.{Ident}
use Rattle.dsl_tree.specs.declared.parts.QName.{QName}
use Rattle.dsl_tree.specs.declared.compounds.CompoundKind.{CompoundKind}
use Rattle.dsl_tree.specs.declared.modifiers.ModifierDecl.{ModifierDecl}
use Rattle.dsl_tree.specs.declared.file.Declaration.{Declaration}
use Rattle.dsl_tree.specs.declared.file.File.{File}
use Rattle.name_scope.specs.declared.ids.DeclId.{DeclId}
use Rattle.name_scope.specs.declared.ids.NameKind.{NameKind}
use Rattle.name_scope.specs.FileNumbers.{AddedFile}

-- A declared name, and where it stands. Only a behaviour has an owner: that of `vehicle.drive` is `vehicle`, and its name `drive`.
pub record DeclaredName : Type 0 where
  pub kind : NameKind
  pub owner : Option (List ℕ)
  pub name : List ℕ
  pub place : Place

abbrev pub named : NameKind → Option (List ℕ) → Ident → DeclaredName
named kind owner i = record { kind = kind; owner = owner; name = i.text; place = i.place }

abbrev pub behaviour_name : Ident → Option Ident → DeclaredName
behaviour_name first None = named NameKind.BehaviourName None first
behaviour_name owner (Some name) = named NameKind.BehaviourName (Some owner.text) name

abbrev pub compound_name : CompoundKind → QName → DeclaredName
compound_name CompoundKind.Struct q = named NameKind.TypeName None q.first
compound_name CompoundKind.Actor q = named NameKind.TypeName None q.first
compound_name CompoundKind.Action q = behaviour_name q.first q.second
compound_name CompoundKind.Scenario q = behaviour_name q.first q.second

-- extensions declare no name
abbrev pub declared_name : Declaration → Option DeclaredName
declared_name (Declaration.Physical d) = Some (named NameKind.TypeName None d.name)
declared_name (Declaration.Unit d) = Some (named NameKind.UnitName None d.name)
declared_name (Declaration.Enum d) = Some (named NameKind.TypeName None d.name)
declared_name (Declaration.Compound d) = Some (compound_name d.kind d.name)
declared_name (Declaration.MemberExtension d) = None
declared_name (Declaration.EnumExtension d) = None

abbrev pub same_kind : NameKind → NameKind → Bool
same_kind NameKind.TypeName NameKind.TypeName = true
same_kind NameKind.UnitName NameKind.UnitName = true
same_kind NameKind.BehaviourName NameKind.BehaviourName = true
same_kind NameKind.ModifierName NameKind.ModifierName = true
same_kind _ _ = false

abbrev pub same_owner : Option (List ℕ) → Option (List ℕ) → Bool
same_owner None None = true
same_owner None (Some b) = false
same_owner (Some a) None = false
same_owner (Some a) (Some b) = bytes_eq a b

abbrev pub same_names : NameKind → Option (List ℕ) → List ℕ → NameKind → Option (List ℕ) → List ℕ → Bool
same_names kind owner name kind' owner' name' = same_kind kind kind' && (same_owner owner owner' && bytes_eq name name')

abbrev pub is_name : NameKind → Option (List ℕ) → List ℕ → Option DeclaredName → Bool
is_name kind owner name None = false
is_name kind owner name (Some d) = same_names d.kind d.owner d.name kind owner name

-- the declaration declares that name
abbrev pub declares : NameKind → Option (List ℕ) → List ℕ → Declaration → Bool
declares kind owner name d = is_name kind owner name (declared_name d)

-- the place of the first that passes, counted from n
abbrev pub first_place : {X : Type 0} → (X → Bool) → ℕ → List X → Option ℕ
first_place test n [] = None
first_place test n (x ∷ xs) = cond (test x) (Some n) (first_place test (n + 1) xs)

-- the modifier has that name
abbrev pub is_called : List ℕ → ModifierDecl → Bool
is_called name m = bytes_eq m.name.text name

-- The first place of the name in a file: that of a modifier among its modifiers, and any other among its declarations. No
-- modifier has an owner.
abbrev pub place_in_file : NameKind → Option (List ℕ) → List ℕ → File → Option ℕ
place_in_file NameKind.ModifierName None name f = first_place (is_called name) 0 f.modifiers
place_in_file NameKind.ModifierName (Some owner) name f = None
place_in_file NameKind.TypeName owner name f = first_place (declares NameKind.TypeName owner name) 0 f.decls
place_in_file NameKind.UnitName owner name f = first_place (declares NameKind.UnitName owner name) 0 f.decls
place_in_file NameKind.BehaviourName owner name f = first_place (declares NameKind.BehaviourName owner name) 0 f.decls

-- the first declaration of the name, in the order of files and, within a file, of its declarations
abbrev pub found_from : ℕ → NameKind → Option (List ℕ) → List ℕ → List AddedFile → Option DeclId
found_from number kind owner name [] = None
found_from number kind owner name (f ∷ fs) =
    option_or (option_map (λ i. record { file = number; index = i }) (place_in_file kind owner name f.file))
    (found_from (number + 1) kind owner name fs)

abbrev pub found : NameKind → Option (List ℕ) → List ℕ → List AddedFile → Option DeclId
found kind owner name files = found_from 0 kind owner name files

-- an item has that place, and it passes
pub record StandsAt {X : Type 0} (test : X → Bool) (xs : List X) (index : ℕ) : Type 0 where
  pub item : X
  pub stands : slice_get xs index ≡ Some item
  pub passes : test item ≡ true

-- what has that place in a file has the name
abbrev pub HasName : NameKind → Option (List ℕ) → List ℕ → File → ℕ → Type 0
HasName NameKind.ModifierName None name f index = StandsAt (is_called name) f.modifiers index
HasName NameKind.ModifierName (Some owner) name f index = ⊥
HasName NameKind.TypeName owner name f index = StandsAt (declares NameKind.TypeName owner name) f.decls index
HasName NameKind.UnitName owner name f index = StandsAt (declares NameKind.UnitName owner name) f.decls index
HasName NameKind.BehaviourName owner name f index = StandsAt (declares NameKind.BehaviourName owner name) f.decls index

-- the declaration is there, and declares the name
pub record IsDeclared (kind : NameKind) (owner : Option (List ℕ)) (name : List ℕ) (files : List AddedFile) (id : DeclId) : Type 0 where
  pub file : AddedFile
  pub file_stands : slice_get files id.file ≡ Some file
  pub has_name : HasName kind owner name file.file id.index
