-- Where the fields and the `do` stand among members.
use Rattle.std.specs.Prelude.{ℕ, ◌+◌, ◌&&◌, Bool, true, false, List, [], ◌∷◌, ◌++◌, Option, Some, None, cond, drop, length, map, bytes_eq, nat_le, nat_lt, option_and_then, slice_get, slice_index_or, take}
use Rattle.dsl_tree.specs.declared.parts.Ident.{Ident}
use Rattle.dsl_tree.specs.FileTree.{FieldTree, MemberTree}
use Rattle.type_heads.specs.Members.{do_declared, fields_declared}
use Rattle.type_heads.specs.Types.{Do, Field, Member}

-- a name, with the number of the member that declares it
abbrev pub with_number : ℕ → Ident → Ident × ℕ
with_number n i = (i, n)

-- the names of the fields that member n declares
abbrev pub spots_in : ℕ → MemberTree → List (Ident × ℕ)
spots_in n (MemberTree.Field f) = map (with_number n) f.names
spots_in n (MemberTree.Rule r) = []
spots_in n (MemberTree.Do place phase) = []

-- the names of all fields, where the first member has number n
abbrev pub spots_from : ℕ → List Member → List (Ident × ℕ)
spots_from n [] = []
spots_from n (m ∷ ms) = spots_in n m.written.member ++ spots_from (n + 1) ms

-- a name has that text
abbrev pub has_text : List ℕ → Ident × ℕ → Bool
has_text text s = bytes_eq s.0.text text

-- how many fields there are after each member, with n before the first
abbrev pub ends_from : ℕ → List Member → List ℕ
ends_from n [] = []
ends_from n (m ∷ ms) = (n + length (fields_declared m m.written.member)) ∷ ends_from (n + length (fields_declared m m.written.member)) ms

-- how many fields the first members declare: none of them, the first, the first two, and so on
abbrev pub all_ends : List Member → List ℕ
all_ends ms = 0 ∷ ends_from 0 ms

-- how many fields the first k members declare
abbrev pub end_of : ℕ → List Member → ℕ
end_of k ms = slice_index_or (all_ends ms) k (length (spots_from 0 ms))

-- the names of the fields that the members from one place to another declare
abbrev pub spots_between : ℕ → ℕ → List Member → List (Ident × ℕ)
spots_between from to ms = drop (end_of from ms) (take (end_of to ms) (spots_from 0 ms))

-- the `do` that a member is
abbrev pub the_do_in : Member → Option Do
the_do_in m = do_declared m m.written.member

abbrev pub do_tree : MemberTree → Bool
do_tree (MemberTree.Field f) = false
do_tree (MemberTree.Rule r) = false
do_tree (MemberTree.Do place phase) = true

-- a member is a `do`
abbrev pub is_do : Member → Bool
is_do m = do_tree m.written.member

-- the place of a member, if it is a `do`
abbrev pub dos_in : ℕ → Member → List ℕ
dos_in n m = cond (is_do m) (n ∷ []) []

-- the place of each `do`, where the first member has number n
abbrev pub dos_from : ℕ → List Member → List ℕ
dos_from n [] = []
dos_from n (m ∷ ms) = dos_in n m ++ dos_from (n + 1) ms

-- a place isn't before the first, and is before the second
abbrev pub is_between : ℕ → ℕ → ℕ → Bool
is_between from to place = nat_le from place && nat_lt place to

-- what is worked out of a row of members: the names of fields, how many fields there are after each member, and the place of each `do`
abbrev pub facts_of : List Member → List (Ident × ℕ) × List ℕ × List ℕ
facts_of ms = (spots_from 0 ms, all_ends ms, dos_from 0 ms)

-- the field of that name that a declaration of a member makes
abbrev pub one_field : Member → FieldTree → Ident → Field
one_field m f i = record { name = i; tree = f; holder = m.holder; under = m.under }

-- the field of that name, if the member declares fields
abbrev pub field_with : Ident → Member → MemberTree → Option Field
field_with i m (MemberTree.Field f) = Some (one_field m f i)
field_with i m (MemberTree.Rule r) = None
field_with i m (MemberTree.Do place phase) = None

-- the field of that name of the member of that number
abbrev pub field_at : List Member → Ident × ℕ → Option Field
field_at ms s = option_and_then (λ (m : Member). field_with s.0 m m.written.member) (slice_get ms s.1)
