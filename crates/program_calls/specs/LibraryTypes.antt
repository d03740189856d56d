-- The types of the library, by the heads of types and by whether the library is there.
use Rattle.std.specs.Prelude.{ℕ, ◌&&◌, Bool, false, List, Some, None, codes}
use Rattle.std.specs.Option.{option_map_or}
use Rattle.composition.specs.type_heads.Table.{TypeHead, is_kind_of, named}

-- the type is the library's `vehicle` or inherits from it
abbrev pub is_library_vehicle : List TypeHead → Bool → ℕ → Bool
is_library_vehicle heads has_library t = has_library && option_map_or (λ v. is_kind_of heads v t) (named heads None (codes "vehicle")) false

-- the type is the library's `vehicle.drive` or inherits from it
abbrev pub is_library_drive : List TypeHead → Bool → ℕ → Bool
is_library_drive heads has_library t = has_library && option_map_or (λ d. is_kind_of heads d t) (named heads (Some (codes "vehicle")) (codes "drive")) false
