-- The first type of an owner and a name is declared where the first action or scenario of that owner and name is, if it is a scenario.
use Rattle.std.proofs.Common.{◌≡◌, ◌∙◌, refl, sym, ap, subst, ℕ, zero, suc, ◌+◌, List, [], ◌∷◌, ◌++◌, Bool, true, false, cond, Option, Some, None, map, arith}
use Rattle.std.specs.Prelude.{◌&&◌, codes, slice_get, option_map, option_and_then, filter_map, find, bytes_eq}
use Rattle.std.specs.List.{cons_option}
use Rattle.std.specs.Option.{option_map_or, option_or}
use Rattle.dsl_tree.specs.declared.parts.Ident.{Ident}
use Rattle.dsl_tree.specs.declared.parts.QName.{QName}
use Rattle.dsl_tree.specs.declared.compounds.CompoundDecl.{CompoundDecl}
use Rattle.dsl_tree.specs.declared.compounds.CompoundKind.{CompoundKind}
use Rattle.dsl_tree.specs.declared.enums.EnumItem.{EnumItem}
use Rattle.dsl_tree.specs.declared.file.Declaration.{Declaration}
use Rattle.dsl_tree.specs.FileTree.{MemberTree, CompoundTree, FileTree}
use Rattle.dsl_tree.specs.Views.{compound_tree, declaration_tree, file_tree}
use Rattle.name_scope.specs.declared.ids.DeclId.{DeclId}
use Rattle.name_scope.specs.declared.ids.NameKind.{NameKind}
use Rattle.name_scope.specs.FileNumbers.{AddedFile}
use Rattle.name_scope.specs.Declaring.{DeclaredName, behaviour_name, compound_name, declares, is_name, first_place, found, found_from, same_owner}
use Rattle.program_uses.specs.type_heads.Form.{Form}
use Rattle.program_uses.specs.type_heads.Table.{TypeHead, head, form, is_scenario, named}
use Rattle.program_uses.specs.type_heads.Types.{Written, TypeBody, Types}
use Rattle.program_uses.specs.type_heads.Members.{body, nowhere}
use Rattle.program_uses.specs.type_heads.DeclaredTypes.{Placed, Declared, declared, basic_types, type_declared, all_declared, bodies_from, body_with, compound, declared_heads, form_with, head_with, heads_from, items_with, placed, placed_from, placed_in, program_of, types_from, types_of, written_from}
use Rattle.named_scenario.specs.Declarations.{IsDeclaredBy, as_scenario, if_scenario, declaration_at, scenario_declared}

none_some : {A : Type 0} (x : A) → None ≡ Some x → ⊥
none_some x same = cc

some_same : {A : Type 0} {x y : A} → Some x ≡ Some y → x ≡ y
some_same same = cc

false_true : false ≡ true → ⊥
false_true same = cc

-- ---- The type of a place

type_is : (names : List TypeHead) (all : List Placed) (n i : ℕ) (ds : List Declared) (d : Declared) → slice_get ds i ≡ Some d →
    head (heads_from names all n ds) i ≡ head_with names all (n + i) d
type_is names all n i [] d is = absurd (none_some d is)
type_is names all n zero (x ∷ ds) d is = let here : n ≡ n + 0 = omega arith in ap (λ k. head_with names all k x) here ∙ ap (head_with names all (n + 0)) (some_same is)
type_is names all n (suc i) (x ∷ ds) d is = let there : n + 1 + i ≡ n + suc i = omega arith in type_is names all (n + 1) i ds d is ∙ ap (λ k. head_with names all k d) there

body_is : (names : List TypeHead) (all : List Placed) (n i : ℕ) (ds : List Declared) (d : Declared) → slice_get ds i ≡ Some d →
    body (bodies_from names all n ds) i ≡ body_with names all (n + i) d
body_is names all n i [] d is = absurd (none_some d is)
body_is names all n zero (x ∷ ds) d is = let here : n ≡ n + 0 = omega arith in ap (λ k. body_with names all k x) here ∙ ap (body_with names all (n + 0)) (some_same is)
body_is names all n (suc i) (x ∷ ds) d is = let there : n + 1 + i ≡ n + suc i = omega arith in body_is names all (n + 1) i ds d is ∙ ap (λ k. body_with names all k d) there

module _ (owner : Option (List ℕ)) (name : List ℕ) where
  abbrev is_called : TypeHead → Bool
  is_called h = same_owner h.owner owner && bytes_eq h.name name

  abbrev is_type : Declared → Bool
  is_type d = is_called d.head

  -- a type that is found among heads, and the first declared of that name
  record AmongTypes (ds : List Declared) (k t : ℕ) : Type 0 where
    d : Declared
    i : ℕ
    number : t ≡ k + i
    there : slice_get ds i ≡ Some d
    first : find is_type ds ≡ Some d

  among_types : (names : List TypeHead) (all : List Placed) (n k t : ℕ) (ds : List Declared) → first_place is_called k (heads_from names all n ds) ≡ Some t → AmongTypes ds k t
  among_types names all n k t [] is = absurd (none_some t is)
  among_types names all n k t (x ∷ ds) is = by (among_types names all (n + 1) (k + 1) t ds) (is_type x) refl is
    where
      by : (first_place is_called (k + 1) (heads_from names all (n + 1) ds) ≡ Some t → AmongTypes ds (k + 1) t) → (b : Bool) → is_type x ≡ b →
          cond b (Some k) (first_place is_called (k + 1) (heads_from names all (n + 1) ds)) ≡ Some t → AmongTypes (x ∷ ds) k t
      by rec true holds is = record { d = x; i = 0; number = sym (some_same is) ∙ omega arith; there = refl; first = ap (λ b. cond b (Some x) (find is_type ds)) holds }
      by rec false fails is = let h = rec is in record {
        d = h.d;
        i = suc h.i;
        number = h.number ∙ omega arith;
        there = h.there;
        first = ap (λ b. cond b (Some x) (find is_type ds)) fails ∙ h.first;
      }

  -- ---- The declaration of a type

  -- the first of a list isn't what is looked for
  passed : (x d : Declared) (ds : List Declared) → is_scenario x.head.form ≡ false → is_scenario d.head.form ≡ true → find is_type (x ∷ ds) ≡ Some d → find is_type ds ≡ Some d
  passed x d ds other scenario is = by (is_type x) is
    where
      by : (b : Bool) → cond b (Some x) (find is_type ds) ≡ Some d → find is_type ds ≡ Some d
      by true is = absurd (false_true (sym other ∙ ap (λ (d : Declared). is_scenario d.head.form) (some_same is) ∙ scenario))
      by false is = is

  -- a scenario is none of the basic types
  past_basic : (ds : List Declared) (d : Declared) → is_scenario d.head.form ≡ true → find is_type (basic_types ++ ds) ≡ Some d → find is_type ds ≡ Some d
  past_basic ds d scenario is =
      let int = declared (codes "int") Form.Int nowhere in
      let uint = declared (codes "uint") Form.Uint nowhere in
      let float = declared (codes "float") Form.Float nowhere in
      let truth = declared (codes "bool") Form.Truth nowhere in
      let chars = declared (codes "string") Form.Chars nowhere in
      passed chars d ds refl scenario
      (passed truth d (chars ∷ ds) refl scenario
      (passed float d (truth ∷ chars ∷ ds) refl scenario
      (passed uint d (float ∷ truth ∷ chars ∷ ds) refl scenario
      (passed int d (uint ∷ float ∷ truth ∷ chars ∷ ds) refl scenario is))))

  abbrev of_placed : Placed → Option Declared
  of_placed d = type_declared d.file d.index d.declaration

  abbrev declares_type : Placed → Bool
  declares_type q = option_map_or is_type (of_placed q) false

  -- a declaration, and the type that it declares
  record FromPlaced (all : List Placed) (d : Declared) : Type 0 where
    q : Placed
    first : find declares_type all ≡ Some q
    declares : of_placed q ≡ Some d

  from_placed : (all : List Placed) (d : Declared) → find is_type (filter_map of_placed all) ≡ Some d → FromPlaced all d
  from_placed [] d is = absurd (none_some d is)
  from_placed (q ∷ all) d is = by (from_placed all d) (of_placed q) refl is
    where
      on : (find is_type (filter_map of_placed all) ≡ Some d → FromPlaced all d) → (x : Declared) → of_placed q ≡ Some x → (b : Bool) → is_type x ≡ b → cond b (Some x) (find is_type (filter_map of_placed all)) ≡ Some d → FromPlaced (q ∷ all) d
      on rec x its true holds is = record {
        q = q;
        declares = its ∙ is;
        first = ap (λ o. cond (option_map_or is_type o false) (Some q) (find declares_type all)) its ∙ ap (λ b. cond b (Some q) (find declares_type all)) holds;
      }
      on rec x its false fails is = let h = rec is in record {
        q = h.q;
        declares = h.declares;
        first = ap (λ o. cond (option_map_or is_type o false) (Some q) (find declares_type all)) its ∙ ap (λ b. cond b (Some q) (find declares_type all)) fails ∙ h.first;
      }

      by : (find is_type (filter_map of_placed all) ≡ Some d → FromPlaced all d) → (o : Option Declared) → of_placed q ≡ o → find is_type (cons_option o (filter_map of_placed all)) ≡ Some d → FromPlaced (q ∷ all) d
      by rec None its is = let h = rec is in record {
        q = h.q;
        declares = h.declares;
        first = ap (λ o. cond (option_map_or is_type o false) (Some q) (find declares_type all)) its ∙ h.first;
      }
      by rec (Some x) its is = on rec x its (is_type x) refl is

  -- ---- Declarations of files

  abbrev declares_it : Declaration → Bool
  declares_it d = declares NameKind.BehaviourName owner name d

  abbrev placed_at : ℕ → ℕ → Declaration → Placed
  placed_at file index d = record { file = file; index = index; declaration = declaration_tree d }

  abbrev is_named_so : DeclaredName → Bool
  is_named_so n = same_owner n.owner owner && bytes_eq n.name name

  behaviour_test : (first : Ident) (second : Option Ident) → is_name NameKind.BehaviourName owner name (Some (behaviour_name first second)) ≡ is_named_so (behaviour_name first second)
  behaviour_test first None = refl
  behaviour_test first (Some second) = refl

  no_name : (kind : CompoundKind) (q : QName) → is_named_so (compound_name kind q) ≡ false → is_name NameKind.BehaviourName owner name (Some (compound_name kind q)) ≡ false
  no_name CompoundKind.Struct q fails = refl
  no_name CompoundKind.Actor q fails = refl
  no_name CompoundKind.Action q fails = behaviour_test q.first q.second ∙ fails
  no_name CompoundKind.Scenario q fails = behaviour_test q.first q.second ∙ fails

  -- what isn't the type of that name isn't the behaviour of that name
  no_behaviour : (file index : ℕ) (d : Declaration) → declares_type (placed_at file index d) ≡ false → declares_it d ≡ false
  no_behaviour file index (Declaration.Physical d) fails = refl
  no_behaviour file index (Declaration.Unit d) fails = refl
  no_behaviour file index (Declaration.Enum d) fails = refl
  no_behaviour file index (Declaration.Compound d) fails = no_name d.kind d.name fails
  no_behaviour file index (Declaration.MemberExtension d) fails = refl
  no_behaviour file index (Declaration.EnumExtension d) fails = refl

  -- the declaration of the scenario of that name
  record IsIt (file index : ℕ) (d : Declaration) (x : Declared) : Type 0 where
    c : CompoundTree
    kind : c.kind ≡ CompoundKind.Scenario
    declares : declares_it d ≡ true
    scenario : as_scenario (declaration_tree d) ≡ Some c
    type_is : x ≡ compound file index c

  of_kind : (file index : ℕ) (d : CompoundDecl) (kind : CompoundKind) → d.kind ≡ kind → is_scenario (Form.Compound kind) ≡ true → is_named_so (compound_name d.kind d.name) ≡ true →
      IsIt file index (Declaration.Compound d) (compound file index (compound_tree d))
  of_kind file index d CompoundKind.Scenario is scenario holds = record {
    c = compound_tree d;
    kind = is;
    declares = ap (λ k. is_name NameKind.BehaviourName owner name (Some (compound_name k d.name))) is ∙ behaviour_test d.name.first d.name.second ∙ sym (ap (λ k. is_named_so (compound_name k d.name)) is) ∙ holds;
    scenario = ap (λ k. if_scenario k (compound_tree d)) is;
    type_is = refl;
  }
  of_kind file index d CompoundKind.Struct is scenario holds = absurd (false_true scenario)
  of_kind file index d CompoundKind.Actor is scenario holds = absurd (false_true scenario)
  of_kind file index d CompoundKind.Action is scenario holds = absurd (false_true scenario)

  is_it : (file index : ℕ) (d : Declaration) (x : Declared) → of_placed (placed_at file index d) ≡ Some x → is_scenario x.head.form ≡ true → is_type x ≡ true → IsIt file index d x
  is_it file index (Declaration.Physical d) x its scenario holds = absurd (false_true (ap (λ (x : Declared). is_scenario x.head.form) (some_same its) ∙ scenario))
  is_it file index (Declaration.Unit d) x its scenario holds = absurd (none_some x its)
  is_it file index (Declaration.Enum d) x its scenario holds = absurd (false_true (ap (λ (x : Declared). is_scenario x.head.form) (some_same its) ∙ scenario))
  is_it file index (Declaration.Compound d) x its scenario holds =
      subst (IsIt file index (Declaration.Compound d)) (some_same its)
      (of_kind file index d d.kind refl (ap (λ (x : Declared). is_scenario x.head.form) (some_same its) ∙ scenario) (ap is_type (some_same its) ∙ holds))
  is_it file index (Declaration.MemberExtension d) x its scenario holds = absurd (none_some x its)
  is_it file index (Declaration.EnumExtension d) x its scenario holds = absurd (none_some x its)

  -- ---- In a file

  record InFile (file index : ℕ) (decls : List Declaration) (q : Placed) : Type 0 where
    d : Declaration
    i : ℕ
    number : q.index ≡ index + i
    of_file : q.file ≡ file
    there : slice_get (map declaration_tree decls) i ≡ Some (declaration_tree d)
    tree : q.declaration ≡ declaration_tree d
    first : declares_it d ≡ true → first_place declares_it index decls ≡ Some (index + i)

  in_file : (file index : ℕ) (decls : List Declaration) (q : Placed) → find declares_type (placed_in file index (map declaration_tree decls)) ≡ Some q → InFile file index decls q
  in_file file index [] q is = absurd (none_some q is)
  in_file file index (d ∷ ds) q is = by (in_file file (index + 1) ds q) (declares_type (placed_at file index d)) refl is
    where
      by : (find declares_type (placed_in file (index + 1) (map declaration_tree ds)) ≡ Some q → InFile file (index + 1) ds q) → (b : Bool) → declares_type (placed_at file index d) ≡ b →
          cond b (Some (placed_at file index d)) (find declares_type (placed_in file (index + 1) (map declaration_tree ds))) ≡ Some q → InFile file index (d ∷ ds) q
      by rec true holds is = record {
        d = d;
        i = 0;
        there = refl;
        number = sym (ap (λ (q : Placed). q.index) (some_same is)) ∙ omega arith;
        of_file = sym (ap (λ (q : Placed). q.file) (some_same is));
        tree = sym (ap (λ (q : Placed). q.declaration) (some_same is));
        first = λ it. ap (λ b. cond b (Some index) (first_place declares_it (index + 1) ds)) it ∙ ap Some (omega arith);
      }
      by rec false fails is = let h = rec is in record {
        d = h.d;
        i = suc h.i;
        there = h.there;
        tree = h.tree;
        of_file = h.of_file;
        number = h.number ∙ omega arith;
        first = λ it. ap (λ b. cond b (Some index) (first_place declares_it (index + 1) ds)) (no_behaviour file index d fails) ∙ h.first it ∙ ap Some (omega arith);
      }

  not_in_file : (file index : ℕ) (decls : List Declaration) → find declares_type (placed_in file index (map declaration_tree decls)) ≡ None → first_place declares_it index decls ≡ None
  not_in_file file index [] is = refl
  not_in_file file index (d ∷ ds) is = by (not_in_file file (index + 1) ds) (declares_type (placed_at file index d)) refl is
    where
      by : (find declares_type (placed_in file (index + 1) (map declaration_tree ds)) ≡ None → first_place declares_it (index + 1) ds ≡ None) → (b : Bool) → declares_type (placed_at file index d) ≡ b →
          cond b (Some (placed_at file index d)) (find declares_type (placed_in file (index + 1) (map declaration_tree ds))) ≡ None → first_place declares_it index (d ∷ ds) ≡ None
      by rec true holds is = absurd (none_some _ (sym is))
      by rec false fails is = ap (λ b. cond b (Some index) (first_place declares_it (index + 1) ds)) (no_behaviour file index d fails) ∙ rec is

  -- ---- In files

  find_or : (xs ys : List Placed) → find declares_type (xs ++ ys) ≡ option_or (find declares_type xs) (find declares_type ys)
  find_or [] ys = refl
  find_or (x ∷ xs) ys = by (find_or xs ys) (declares_type x)
    where
      by : find declares_type (xs ++ ys) ≡ option_or (find declares_type xs) (find declares_type ys) → (b : Bool) → cond b (Some x) (find declares_type (xs ++ ys)) ≡ option_or (cond b (Some x) (find declares_type xs)) (find declares_type ys)
      by rec true = refl
      by rec false = rec

  abbrev trees : List AddedFile → List FileTree
  trees files = map (λ (f : AddedFile). file_tree f.file) files

  record InFiles (n : ℕ) (files : List AddedFile) (q : Placed) : Type 0 where
    d : Declaration
    k : ℕ
    file : AddedFile
    number : q.file ≡ n + k
    file_there : slice_get files k ≡ Some file
    there : slice_get (file_tree file.file).decls q.index ≡ Some (declaration_tree d)
    tree : q.declaration ≡ declaration_tree d
    first : declares_it d ≡ true → found_from n NameKind.BehaviourName owner name files ≡ Some (record { file = n + k; index = q.index })

  abbrev id_of : ℕ → ℕ → DeclId
  id_of file index = record { file = file; index = index }

  in_files : (n : ℕ) (files : List AddedFile) (q : Placed) → find declares_type (placed_from n (trees files)) ≡ Some q → InFiles n files q
  in_files n [] q is = absurd (none_some q is)
  in_files n (f ∷ fs) q is =
      by (in_files (n + 1) fs q) (find declares_type (placed_in n 0 (map declaration_tree f.file.decls))) refl (sym (find_or (placed_in n 0 (map declaration_tree f.file.decls)) (placed_from (n + 1) (trees fs))) ∙ is)
    where
      by : (find declares_type (placed_from (n + 1) (trees fs)) ≡ Some q → InFiles (n + 1) fs q) → (o : Option Placed) → find declares_type (placed_in n 0 (map declaration_tree f.file.decls)) ≡ o → option_or o (find declares_type (placed_from (n + 1) (trees fs))) ≡ Some q → InFiles n (f ∷ fs) q
      by rec None none later =
          let h = rec later in
          let next : n + 1 + h.k ≡ n + suc h.k = omega arith in
          record {
            d = h.d;
            k = suc h.k;
            file = h.file;
            file_there = h.file_there;
            there = h.there;
            tree = h.tree;
            number = h.number ∙ next;
            first = λ it. ap (λ o. option_or (option_map (id_of n) o) (found_from (n + 1) NameKind.BehaviourName owner name fs)) (not_in_file n 0 f.file.decls none)
                ∙ h.first it ∙ ap (λ m. Some (id_of m q.index)) next;
          }
      by rec (Some p) here is' =
          let h = in_file n 0 f.file.decls q (here ∙ is') in
          let number : 0 + h.i ≡ q.index = sym h.number in
          let own : h.i ≡ q.index = sym (h.number ∙ omega arith) in
          let file_own : n ≡ n + 0 = omega arith in
          record {
            d = h.d;
            k = 0;
            file = f;
            file_there = refl;
            tree = h.tree;
            there = sym (ap (slice_get (map declaration_tree f.file.decls)) own) ∙ h.there;
            number = h.of_file ∙ file_own;
            first = λ it. ap (λ o. option_or (option_map (id_of n) o) (found_from (n + 1) NameKind.BehaviourName owner name fs)) (h.first it)
                ∙ ap (λ i. Some (id_of n i)) number ∙ ap (λ m. Some (id_of m q.index)) file_own;
          }

-- ---- Types of a program

members_written : (file declaration n : ℕ) (ms : List MemberTree) → map (λ (w : Written). w.member) (written_from file declaration n ms) ≡ ms
members_written file declaration n [] = refl
members_written file declaration n (m ∷ ms) = ap (λ v. m ∷ v) (members_written file declaration (n + 1) ms)

-- the scenario that stands in the files, and declares the type
pub record StandsFor (files : List AddedFile) (owner : Option (List ℕ)) (name : List ℕ) (ts : Types) (t : ℕ) : Type 0 where
  pub c : CompoundTree
  pub stands : scenario_declared files owner name ≡ Some c
  pub by : IsDeclaredBy ts t c

found_true : {A : Type 0} (test : A → Bool) (xs : List A) (x : A) → find test xs ≡ Some x → test x ≡ true
found_true test [] x is = absurd (none_some x is)
found_true test (y ∷ ys) x is = by (found_true test ys x) (test y) refl is
  where
    by : (find test ys ≡ Some x → test x ≡ true) → (b : Bool) → test y ≡ b → cond b (Some y) (find test ys) ≡ Some x → test x ≡ true
    by rec true holds is = sym (ap test (some_same is)) ∙ holds
    by rec false fails is = rec is

form_kept : (items : List EnumItem) (f : Form) → is_scenario (form_with items f) ≡ is_scenario f
form_kept items (Form.Enum none) = refl
form_kept items Form.Int = refl
form_kept items Form.Uint = refl
form_kept items Form.Float = refl
form_kept items Form.Truth = refl
form_kept items Form.Chars = refl
form_kept items (Form.Physical e) = refl
form_kept items (Form.Compound k) = refl

module _ (files : List AddedFile) (owner : Option (List ℕ)) (name : List ℕ) (t : ℕ) where
  abbrev all : List Placed
  all = placed (program_of files)

  abbrev names : List TypeHead
  names = declared_heads all

  abbrev heads : List TypeHead
  heads = heads_from names all 0 (all_declared all)

  abbrev bodies : List TypeBody
  bodies = bodies_from names all 0 (all_declared all)

  abbrev types : Types
  types = types_from (program_of files) heads bodies

  stands_as : is_scenario (form heads t) ≡ true → AmongTypes owner name (all_declared all) 0 t → StandsFor files owner name types t
  stands_as scenario h =
      let number : 0 + h.i ≡ t = sym h.number in
      let t_is : t ≡ h.i = h.number ∙ omega arith in
      let head_t : head heads t ≡ head_with names all t h.d = ap (head heads) t_is ∙ type_is names all 0 h.i (all_declared all) h.d h.there ∙ ap (λ k. head_with names all k h.d) number in
      let body_t : body bodies t ≡ body_with names all t h.d = ap (body bodies) t_is ∙ body_is names all 0 h.i (all_declared all) h.d h.there ∙ ap (λ k. body_with names all k h.d) number in
      let own : is_scenario h.d.head.form ≡ true
      = sym (form_kept (items_with names all t h.d.items) h.d.head.form) ∙ sym (ap (λ (x : TypeHead). is_scenario x.form) head_t) ∙ scenario in
      let called : is_type owner name h.d ≡ true = found_true (is_type owner name) (all_declared all) h.d h.first in
      let p = from_placed owner name all h.d (past_basic owner name (filter_map (of_placed owner name) all) h.d own h.first) in
      let f = in_files owner name 0 files p.q p.first in
      let it = is_it owner name p.q.file p.q.index f.d h.d (ap (λ tree. type_declared p.q.file p.q.index tree) (sym f.tree) ∙ p.declares) own called in
      let file_is : 0 + f.k ≡ f.k = omega arith in
      let found_it : found NameKind.BehaviourName owner name files ≡ Some (record { file = f.k; index = p.q.index })
      = f.first it.declares ∙ ap (λ k. Some (id_of owner name k p.q.index)) file_is in
      let declaration : declaration_at files (record { file = f.k; index = p.q.index }) ≡ Some (declaration_tree f.d)
      = ap (option_and_then (λ (a : AddedFile). slice_get (file_tree a.file).decls p.q.index)) f.file_there ∙ f.there in
      record {
        c = it.c;
        stands = ap (λ o. option_and_then as_scenario (option_and_then (declaration_at files) o)) found_it ∙ ap (option_and_then as_scenario) declaration ∙ it.scenario;
        by = record {
          owner = ap (λ (x : TypeHead). x.owner) head_t ∙ ap (λ (x : Declared). x.head.owner) it.type_is
              ∙ ap (λ k. (compound_name k it.c.name).owner) it.kind;
          place = ap (λ (x : TypeBody). x.place) body_t ∙ ap (λ (x : Declared). x.body.place) it.type_is
              ∙ ap (λ k. (compound_name k it.c.name).place) it.kind;
          heir = ap (λ (x : TypeBody). x.heir) body_t ∙ ap (λ (x : Declared). x.body.heir) it.type_is;
          members = ap (λ (x : TypeBody). map (λ (w : Written). w.member) x.own) body_t
              ∙ ap (λ (x : Declared). map (λ (w : Written). w.member) x.body.own) it.type_is
              ∙ members_written p.q.file p.q.index 0 it.c.members;
        };
      }

  pub stands_for : named (types_of (program_of files)).table.heads owner name ≡ Some t → is_scenario (form (types_of (program_of files)).table.heads t) ≡ true →
      StandsFor files owner name (types_of (program_of files)) t
  unfolding types_of
  stands_for is scenario = stands_as scenario (among_types owner name names all 0 0 t (all_declared all) is)
