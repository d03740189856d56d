-- In a program with the library's declarations, where no name is declared twice, `vehicle` has its limits.
use Rattle.std.proofs.Common.{◌≡◌, ◌∙◌, refl, sym, ap, ap₂, subst, ℕ, suc, ◌+◌, ◌&&◌, not, Bool, true, false, cond, List, [], ◌∷◌, ◌++◌, length, take, drop, Option, Some, None, arith, true≢false}
use Rattle.std.specs.Prelude.{slice_index_or, filter_map, bytes_eq, codes, is_some}
use Rattle.std.specs.Option.{option_map_or}
use Rattle.std.specs.List.{list_any, cons_option}
use Rattle.std.proofs.lemmas.List.{append_assoc}
use Rattle.std.proofs.lemmas.List.Elements.{filter_map-append}
use Rattle.std.proofs.lemmas.List.Folds.{list_any-append}
use Rattle.std.proofs.lemmas.Slice.Eq.{bytes_eq-Decides}
use Rattle.osc_base.specs.declared.fault.Place.{Place}
use Rattle.name_scope.specs.dsl_tree.declared.parts.Ident.{Ident}
use Rattle.name_scope.specs.dsl_tree.declared.parts.QName.{QName}
use Rattle.name_scope.specs.dsl_tree.declared.compounds.CompoundKind.{CompoundKind}
use Rattle.name_scope.specs.dsl_tree.FileTree.{DeclarationTree, FileTree}
use Rattle.name_scope.specs.declared.ids.NameKind.{NameKind}
use Rattle.name_scope.specs.Declaring.{DeclaredName, compound_name, behaviour_name, same_owner, first_place}
use Rattle.checkable_scenes.specs.type_heads.Table.{TypeHead, int_head, form, named}
use Rattle.checkable_scenes.specs.type_heads.Types.{Program, Written, TypeBody}
use Rattle.checkable_scenes.specs.type_heads.Members.{no_body, body}
use Rattle.checkable_scenes.specs.type_heads.HeadingFaults.{name_declared, shares_name, basic_names, twice_rows}
use Rattle.checkable_scenes.specs.type_heads.DeclaredTypes.{Placed, placed, placed_in, placed_from, Declared, basic_types, type_declared, all_declared, heads_from, bodies_from, declared_heads, types_of}
use Rattle.checkable_scenes.specs.expr_nodes.Parts.{any_holds}
use Rattle.checkable_scenes.specs.Premises.{holds_number, is_number_field, has_limits}
use Rattle.loaded_programs.proofs.Booleans.{both, either, or_else, neither, no_left, no_right}
use Rattle.loaded_programs.proofs.LibraryThere.{HasLibrary}
use Rattle.loaded_programs.proofs.LibraryTree.{library_declarations, library_tree}

-- ---- the first head of a name

abbrev has_name : List ℕ → TypeHead → Bool
has_name name h = same_owner h.owner None && bytes_eq h.name name

-- no type of these has the name
abbrev IsNew : List ℕ → List Declared → Type 0
IsNew name ds = list_any (λ (d : Declared). has_name name d.head) ds ≡ false

same_at : {A : Type 0} (f : ℕ → ℕ → A) (k l m n : ℕ) → k ≡ l → m ≡ n → f k m ≡ f l n
same_at f k l m n e e' = ap₂ f e e'

module _ (names : List TypeHead) (all : List Placed) where
  skip : (name : List ℕ) (n t : ℕ) (earlier following : List Declared) → IsNew name earlier
      → first_place (has_name name) n (heads_from names all t (earlier ++ following)) ≡ first_place (has_name name) (n + length earlier) (heads_from names all (t + length earlier) following)
  skip name n t [] following new = same_at (λ k u. first_place (has_name name) k (heads_from names all u following)) n (n + 0) t (t + 0) (omega arith) (omega arith)
  skip name n t (d ∷ earlier) following new =
      ap (λ b. cond b (Some n) (first_place (has_name name) (n + 1) (heads_from names all (t + 1) (earlier ++ following)))) (no_left (has_name name d.head) _ new)
      ∙ (skip name (n + 1) (t + 1) earlier following (no_right (has_name name d.head) _ new)
      ∙ same_at (λ k u. first_place (has_name name) k (heads_from names all u following)) (n + 1 + length earlier) (n + length (d ∷ earlier)) (t + 1 + length earlier) (t + length (d ∷ earlier)) (omega arith) (omega arith))

  head_at : (t i : ℕ) (earlier following : List Declared) → slice_index_or (heads_from names all t (earlier ++ following)) (length earlier + i) int_head ≡ slice_index_or (heads_from names all (t + length earlier) following) i int_head
  head_at t i [] following = same_at (λ u k. slice_index_or (heads_from names all u following) k int_head) t (t + 0) (0 + i) i (omega arith) (omega arith)
  head_at t i (d ∷ earlier) following =
      ap (λ k. slice_index_or (heads_from names all t (d ∷ earlier ++ following)) k int_head) {x = length (d ∷ earlier) + i} {y = suc (length earlier + i)} (omega arith)
      ∙ (head_at (t + 1) i earlier following
      ∙ ap (λ u. slice_index_or (heads_from names all u following) i int_head) {x = t + 1 + length earlier} {y = t + length (d ∷ earlier)} (omega arith))

  body_at : (t i : ℕ) (earlier following : List Declared) → slice_index_or (bodies_from names all t (earlier ++ following)) (length earlier + i) no_body ≡ slice_index_or (bodies_from names all (t + length earlier) following) i no_body
  body_at t i [] following = same_at (λ u k. slice_index_or (bodies_from names all u following) k no_body) t (t + 0) (0 + i) i (omega arith) (omega arith)
  body_at t i (d ∷ earlier) following =
      ap (λ k. slice_index_or (bodies_from names all t (d ∷ earlier ++ following)) k no_body) {x = length (d ∷ earlier) + i} {y = suc (length earlier + i)} (omega arith)
      ∙ (body_at (t + 1) i earlier following
      ∙ ap (λ u. slice_index_or (bodies_from names all u following) i no_body) {x = t + 1 + length earlier} {y = t + length (d ∷ earlier)} (omega arith))

-- ---- names that are declared once

abbrev own_declared : Placed → Option Declared
own_declared d = type_declared d.file d.index d.declaration

abbrev own_name : Placed → Option DeclaredName
own_name d = name_declared d.declaration

-- the name of a type without an owner
abbrev type_name : List ℕ → Place → DeclaredName
type_name name place = record { kind = NameKind.TypeName; owner = None; name = name; place = place }

turned : (a b : List ℕ) → bytes_eq a b ≡ false → bytes_eq b a ≡ false
turned a b h = by (bytes_eq b a) refl
  where
    by : (c : Bool) → bytes_eq b a ≡ c → c ≡ false
    by true e = absurd (true≢false (sym ((bytes_eq-Decides a b).1 (sym ((bytes_eq-Decides b a).0 e))) ∙ h))
    by false e = refl

module _ (name : List ℕ) (place : Place) where
  compound_new : (kind : CompoundKind) (q : QName) → shares_name (type_name name place) (compound_name kind q) ≡ false
      → same_owner (compound_name kind q).owner None && bytes_eq (compound_name kind q).name name ≡ false
  compound_new CompoundKind.Struct q h = turned name q.first.text h
  compound_new CompoundKind.Actor q h = turned name q.first.text h
  compound_new CompoundKind.Action q h = by q.second h
    where
      by : (o : Option Ident) → shares_name (type_name name place) (behaviour_name q.first o) ≡ false → same_owner (behaviour_name q.first o).owner None && bytes_eq (behaviour_name q.first o).name name ≡ false
      by None h = turned name q.first.text h
      by (Some second) h = refl
  compound_new CompoundKind.Scenario q h = by q.second h
    where
      by : (o : Option Ident) → shares_name (type_name name place) (behaviour_name q.first o) ≡ false → same_owner (behaviour_name q.first o).owner None && bytes_eq (behaviour_name q.first o).name name ≡ false
      by None h = turned name q.first.text h
      by (Some second) h = refl

  one_new : (file index : ℕ) (d : DeclarationTree) (xs : List Placed) → IsNew name (filter_map own_declared xs)
      → list_any (shares_name (type_name name place)) (cons_option (name_declared d) (filter_map own_name xs)) ≡ false → IsNew name (cons_option (type_declared file index d) (filter_map own_declared xs))
  one_new file index (DeclarationTree.TypeDeclaration d) xs later h = neither _ _ (turned name d.name.text (no_left (bytes_eq name d.name.text) _ h)) later
  one_new file index (DeclarationTree.UnitDeclaration d) xs later h = later
  one_new file index (DeclarationTree.EnumDeclaration d) xs later h = neither _ _ (turned name d.name.text (no_left (bytes_eq name d.name.text) _ h)) later
  one_new file index (DeclarationTree.CompoundDeclaration d) xs later h = neither _ _ (compound_new d.kind d.name (no_left (shares_name (type_name name place) (compound_name d.kind d.name)) _ h)) later
  one_new file index (DeclarationTree.MemberExtension d) xs later h = later
  one_new file index (DeclarationTree.EnumExtension d) xs later h = later

  later_names : (o : Option DeclaredName) (behind : List DeclaredName) → list_any (shares_name (type_name name place)) (cons_option o behind) ≡ false → list_any (shares_name (type_name name place)) behind ≡ false
  later_names None behind h = h
  later_names (Some n) behind h = no_right (shares_name (type_name name place) n) _ h

  all_new : (xs : List Placed) → list_any (shares_name (type_name name place)) (filter_map own_name xs) ≡ false → IsNew name (filter_map own_declared xs)
  all_new [] h = refl
  all_new (x ∷ xs) h = one_new x.file x.index x.declaration xs (all_new xs (later_names (own_name x) (filter_map own_name xs) h)) h

-- a name that is declared once isn't declared before
not_before : (earlier front pre : List DeclaredName) (v : DeclaredName) (bs : List DeclaredName) → any_holds (twice_rows earlier (front ++ (pre ++ v ∷ bs))) ≡ false
    → (list_any (shares_name v) front ≡ false) × (list_any (shares_name v) earlier ≡ false)
not_before earlier [] [] v bs h = (refl, no_left (list_any (shares_name v) earlier) _ h)
not_before earlier [] (p ∷ pre) v bs h =
    let rest = not_before (p ∷ earlier) [] pre v bs (no_right (list_any (shares_name p) earlier) _ h) in
    (refl, no_right (shares_name v p) _ rest.1)
not_before earlier (a ∷ front) pre v bs h =
    let rest = not_before (a ∷ earlier) front pre v bs (no_right (list_any (shares_name a) earlier) _ h) in
    (neither (shares_name v a) (list_any (shares_name v) front) (no_left (shares_name v a) (list_any (shares_name v) earlier) rest.1) rest.0, no_right (shares_name v a) _ rest.1)

-- ---- the library's declarations among those of a program

module _ (p : Program) (xs ys : List Placed) (file n : ℕ) (split : placed p ≡ xs ++ (placed_in file 0 (library_declarations n) ++ ys))
    (once : any_holds (twice_rows basic_names (filter_map own_name (placed p))) ≡ false) where
  abbrev own : List Placed
  own = placed_in file 0 (library_declarations n)

  abbrev earlier : List Declared
  earlier = basic_types ++ filter_map own_declared xs

  abbrev following : List Declared
  following = filter_map own_declared own ++ filter_map own_declared ys

  abbrev following_names : List DeclaredName
  following_names = filter_map own_name own ++ filter_map own_name ys

  declared_split : all_declared (placed p) ≡ earlier ++ following
  declared_split =
      ap (λ zs. basic_types ++ zs) (ap (filter_map own_declared) split ∙ (filter_map-append own_declared xs (own ++ ys) ∙ ap (λ zs. filter_map own_declared xs ++ zs) (filter_map-append own_declared own ys)))
      ∙ sym (append_assoc basic_types (filter_map own_declared xs) following)

  names_split : filter_map own_name (placed p) ≡ filter_map own_name xs ++ following_names
  names_split = ap (filter_map own_name) split ∙ (filter_map-append own_name xs (own ++ ys) ∙ ap (λ zs. filter_map own_name xs ++ zs) (filter_map-append own_name own ys))

  -- a name of the library is new there
  new : (pre : List DeclaredName) (name : List ℕ) (place : Place) (bs : List DeclaredName) → following_names ≡ pre ++ type_name name place ∷ bs → IsNew name basic_types → IsNew name earlier
  new pre name place bs e basic =
      let rows = subst (λ zs. any_holds (twice_rows basic_names zs) ≡ false) (names_split ∙ ap (λ zs. filter_map own_name xs ++ zs) e) once in
      let fresh = not_before basic_names (filter_map own_name xs) pre (type_name name place) bs rows in
      list_any-append (λ (d : Declared). has_name name d.head) basic_types (filter_map own_declared xs) ∙ neither _ _ basic (all_new name place xs fresh.0)

  abbrev names : List TypeHead
  names = declared_heads (placed p)

  abbrev heads : List TypeHead
  heads = heads_from names (placed p) 0 (all_declared (placed p))

  abbrev bodies : List TypeBody
  bodies = bodies_from names (placed p) 0 (all_declared (placed p))

  -- the library's types, by their numbers
  found : (name : List ℕ) (t : ℕ) → IsNew name earlier → first_place (has_name name) (0 + length earlier) (heads_from names (placed p) (0 + length earlier) following) ≡ Some t → named heads None name ≡ Some t
  found name t fresh there = ap (λ ds. first_place (has_name name) 0 (heads_from names (placed p) 0 ds)) declared_split ∙ (skip names (placed p) name 0 0 earlier following fresh ∙ there)

  head_there : (i : ℕ) → slice_index_or heads (length earlier + i) int_head ≡ slice_index_or (heads_from names (placed p) (0 + length earlier) following) i int_head
  head_there i = ap (λ ds. slice_index_or (heads_from names (placed p) 0 ds) (length earlier + i) int_head) declared_split ∙ head_at names (placed p) 0 i earlier following

  body_there : (i : ℕ) → slice_index_or bodies (length earlier + i) no_body ≡ slice_index_or (bodies_from names (placed p) (0 + length earlier) following) i no_body
  body_there i = ap (λ ds. slice_index_or (bodies_from names (placed p) 0 ds) (length earlier + i) no_body) declared_split ∙ body_at names (placed p) 0 i earlier following

  abbrev place_at : ℕ → ℕ → ℕ → ℕ → Place
  place_at n line column number = record { file = n; line = line; column = column; token = number }

  -- the names that the library declares before that of this number, and those behind it
  abbrev names_to : ℕ → List DeclaredName
  names_to k = take k (filter_map own_name own)

  abbrev names_from : ℕ → List DeclaredName
  names_from k = drop k (filter_map own_name own) ++ filter_map own_name ys

  speed_named : named heads None (codes "speed") ≡ Some (length earlier + 2)
  speed_named =
      found (codes "speed") (length earlier + 2) (new (names_to 2) (codes "speed") (place_at n 3 6 21) (names_from 3) refl refl)
      (ap (λ t. Some t) {x = 0 + length earlier + 1 + 1} {y = length earlier + 2} (omega arith))

  acceleration_named : named heads None (codes "acceleration") ≡ Some (length earlier + 3)
  acceleration_named =
      found (codes "acceleration") (length earlier + 3) (new (names_to 3) (codes "acceleration") (place_at n 4 6 36) (names_from 4) refl refl)
      (ap (λ t. Some t) {x = 0 + length earlier + 1 + 1 + 1} {y = length earlier + 3} (omega arith))

  vehicle_named : named heads None (codes "vehicle") ≡ Some (length earlier + 4)
  vehicle_named =
      found (codes "vehicle") (length earlier + 4) (new (names_to 12) (codes "vehicle") (place_at n 13 7 178) (names_from 13) refl refl)
      (ap (λ t. Some t) {x = 0 + length earlier + 1 + 1 + 1 + 1} {y = length earlier + 4} (omega arith))

  abbrev number_named : List ℕ → Bool
  number_named name = option_map_or (λ t. holds_number (form heads t)) (named heads None name) false

  speed_number : number_named (codes "speed") ≡ true
  speed_number = ap (λ o. option_map_or (λ t. holds_number (form heads t)) o false) speed_named ∙ ap (λ (h : TypeHead). holds_number h.form) (head_there 2)

  acceleration_number : number_named (codes "acceleration") ≡ true
  acceleration_number = ap (λ o. option_map_or (λ t. holds_number (form heads t)) o false) acceleration_named ∙ ap (λ (h : TypeHead). holds_number h.form) (head_there 3)

  abbrev has_field : List Written → List ℕ → Bool
  has_field own name = list_any (λ (w : Written). is_number_field heads name w.member) own

  speed_there : has_field (body bodies (length earlier + 4)).own (codes "max_speed") ≡ true
  speed_there = ap (λ (b : TypeBody). has_field b.own (codes "max_speed")) (body_there 4) ∙ either (number_named (codes "speed")) _ speed_number

  acceleration_there : has_field (body bodies (length earlier + 4)).own (codes "max_acceleration") ≡ true
  acceleration_there = ap (λ (b : TypeBody). has_field b.own (codes "max_acceleration")) (body_there 4) ∙ either (number_named (codes "acceleration")) _ acceleration_number

  pub vehicle_limits : option_map_or (λ v. has_field (body bodies v).own (codes "max_speed") && has_field (body bodies v).own (codes "max_acceleration")) (named heads None (codes "vehicle")) false ≡ true
  vehicle_limits = ap (λ o. option_map_or (λ v. has_field (body bodies v).own (codes "max_speed") && has_field (body bodies v).own (codes "max_acceleration")) o false) vehicle_named ∙ both _ _ speed_there acceleration_there

-- ---- programs

placed_append : (n : ℕ) (fs gs : List FileTree) → placed_from n (fs ++ gs) ≡ placed_from n fs ++ placed_from (n + length fs) gs
placed_append n [] gs = ap (λ k. placed_from k gs) {x = n} {y = n + 0} (omega arith)
placed_append n (f ∷ fs) gs =
    ap (λ zs. placed_in n 0 f.decls ++ zs) (placed_append (n + 1) fs gs ∙ ap (λ k. placed_from (n + 1) fs ++ placed_from k gs) {x = n + 1 + length fs} {y = n + length (f ∷ fs)} (omega arith))
    ∙ sym (append_assoc (placed_in n 0 f.decls) (placed_from (n + 1) fs) (placed_from (n + length (f ∷ fs)) gs))

-- a program with the library's tree, where no name is declared twice
pub limits_there : (p : Program) → HasLibrary p.files → any_holds (twice_rows basic_names (filter_map own_name (placed p))) ≡ false → has_limits (types_of p) ≡ true
unfolding types_of
limits_there p h once =
    let split = ap (placed_from 0) h.split ∙ placed_append 0 h.front (library_tree h.number ∷ h.back) in
    or_else (not (is_some p.library)) _ (vehicle_limits p (placed_from 0 h.front) (placed_from (0 + length h.front + 1) h.back) (0 + length h.front) h.number split once)
