-- Each file of a program that is loaded is read from a source in its turn, and there are at most 64.
use Rattle.std.proofs.Common.{◌≡◌, ◌∙◌, refl, sym, subst, ℕ, ◌+◌, ◌*◌, ◌<◌, ◌≤◌, ◌||◌, Bool, true, false, cond, List, [], ◌∷◌, ◌++◌, map, length, Option, Some, None, arith, true≢false, length-append, nat_lt}
use Rattle.std.specs.Prelude.{fold, flat_map}
use Rattle.std.specs.Option.{is_some, option_or}
use Rattle.std.specs.List.{list_all}
use Rattle.std.specs.Ordering.{is_lt, is_eq, nat_cmp}
use Rattle.std.specs.Cmp.Lexicographic.{slice_cmp}
use Rattle.std.proofs.lemmas.Bool.{ltb-true, and_parts}
use Rattle.std.proofs.lemmas.List.Folds.{list_all-append}
use Rattle.osc_base.specs.declared.fault.Place.{Place}
use Rattle.osc_base.specs.declared.fault.FaultCode.{FaultCode}
use Rattle.osc_base.specs.declared.fault.Fault.{Fault}
use Rattle.name_scope.specs.dsl_tree.declared.file.Import.{Import}
use Rattle.name_scope.specs.dsl_tree.FileTree.{DeclarationTree, FileTree}
use Rattle.name_scope.specs.dsl_tree.Views.{file_tree}
use Rattle.outside_io.specs.declared.shelf.NamedBytes.{NamedBytes}
use Rattle.name_scope.specs.declared.names.FileName.{FileName}
use Rattle.name_scope.specs.FileNumbers.{AddedFile, meant_name, import_place, is_numbered, with_name, with_imports, numbered_names, names_before, fault_at, import_fault, first_import_fault, adding_fault}
use Rattle.name_scope.proofs.Numbering.{below, numbered_more}
use Rattle.name_scope.proofs.Mentions.{there}
use Rattle.program_load.specs.Loading.{IsTaken, AreTakenAfter, next_name}
use Rattle.checkable_scenes.specs.type_heads.Texts.{with_text, texts_of}
use Rattle.checkable_scenes.specs.type_heads.DeclaredTypes.{Placed, placed_in, placed_from}
use Rattle.checkable_scenes.specs.scene_laws.Premises.{is_spelled}
use Rattle.loaded_programs.specs.TreeLaws.{texts_among}
use Rattle.loaded_programs.proofs.Booleans.{both}
use Rattle.loaded_programs.proofs.SourceTokens.{numbers_are_short, names_are_no_words, strings_are_few}
use Rattle.loaded_programs.proofs.FormedTrees.{trees_are_formed, texts_are_few}

-- the trees of files
abbrev pub trees : List AddedFile → List FileTree
trees files = map (λ (f : AddedFile). file_tree f.file) files

-- ---- at most 64 names

first_none : (o p : Option Fault) → option_or o p ≡ None → o ≡ None
first_none None p h = refl
first_none (Some x) p h = h

rest_none : (o p : Option Fault) → option_or o p ≡ None → p ≡ None
rest_none None p h = h
rest_none (Some x) p h = absurd (let differ : Some x ≡ None = h in cc)

few_by : (names : List FileName) (name : FileName) (fault : Fault) (numbered room : Bool) → nat_lt (length names) 64 ≡ room → length names ≤ 64 →
    cond (numbered || room) None (Some fault) ≡ None → length (cond numbered names (names ++ name ∷ [])) ≤ 64
few_by names name fault true room is few h = few
few_by names name fault false true is few h =
    let less : length names < 64 = ltb-true (length names) 64 is in
    let more = length-append names (name ∷ []) in
    omega (arith, less, more)
few_by names name fault false false is few h = absurd (let differ : Some fault ≡ None = h in cc)

few_name : (names : List FileName) (at : Option Place) (name : Option FileName) → ((n : FileName) → name ≡ Some n → is_some at ≡ true) → length names ≤ 64 →
    fault_at names at name ≡ None → length (with_name names name) ≤ 64
few_name names at None placed few h = few
few_name names None (Some name) placed few h = absurd (true≢false (sym (placed name refl)))
few_name names (Some place) (Some name) placed few h =
    few_by names name (record { place = place; code = FaultCode.TooManyFiles }) (is_numbered name names) (nat_lt (length names) 64) refl few h

few_imports : (names : List FileName) (imports : List Import) → length names ≤ 64 → first_import_fault names imports ≡ None → length (with_imports names imports) ≤ 64
few_imports names [] few h = few
few_imports names (i ∷ is) few h =
    few_imports (with_name names (meant_name i)) is
    (few_name names (import_place i) (meant_name i) (there i) few (first_none (import_fault names i) (first_import_fault (with_name names (meant_name i)) is) h))
    (rest_none (import_fault names i) (first_import_fault (with_name names (meant_name i)) is) h)

few_before : (before : List AddedFile) (name : List ℕ) → length (numbered_names before) ≤ 64 → length (names_before before name) ≤ 64
few_before [] name few = omega arith
few_before (first ∷ others) name few = few

few_more : (before : List AddedFile) (added : AddedFile) → length (numbered_names before) ≤ 64 → adding_fault before added ≡ None → length (numbered_names (before ++ added ∷ [])) ≤ 64
few_more before added few sound =
    subst (λ names. length names ≤ 64) (sym (numbered_more before added))
    (few_imports (names_before before added.name) added.file.imports (few_before before added.name few) sound)

-- a file whose turn it is has room
room : (main : List ℕ) (before : List AddedFile) (name : FileName) → next_name main before ≡ Some name → length (numbered_names before) ≤ 64 → length before < 64
room main [] name next few = omega arith
room main (first ∷ others) name next few = let less = below (numbered_names (first ∷ others)) (length (first ∷ others)) name next in omega (arith, less, few)

placed_spelled : (file index : ℕ) (ds : List DeclarationTree) → list_all is_spelled ds ≡ true → list_all (λ (d : Placed). is_spelled d.declaration) (placed_in file index ds) ≡ true
placed_spelled file index [] h = refl
placed_spelled file index (d ∷ ds) h =
    let parts = and_parts (is_spelled d) (list_all is_spelled ds) h in
    both (is_spelled d) _ parts.0 (placed_spelled file (index + 1) ds parts.1)

module _ (files : List NamedBytes) (main : List ℕ) where
  few_files : (before later : List AddedFile) → AreTakenAfter files main before later → length (numbered_names before) ≤ 64 → length before ≤ 64 → length before + length later ≤ 64
  few_files before [] t names few = omega (arith, few)
  few_files before (added ∷ later) t names few =
      let less = room main before t.0.0 t.0.1 names in
      let more = length-append before (added ∷ []) in
      let rest = few_files (before ++ added ∷ []) later t.1 (few_more before added names t.0.2.imports) (omega (arith, less, more)) in
      omega (arith, rest, more)

  -- ---- trees

  pub all_spelled : (before later : List AddedFile) (n : ℕ) → AreTakenAfter files main before later → list_all (λ (d : Placed). is_spelled d.declaration) (placed_from n (trees later)) ≡ true
  all_spelled before [] n t = refl
  all_spelled before (added ∷ later) n t =
      let taken : IsTaken files before t.0.0 added = t.0.2 in
      let number = length before in
      let decls = (file_tree added.file).decls in
      let formed = trees_are_formed (file_tree added.file) taken.tokens taken.read.spelled (numbers_are_short number taken.source taken.tokens taken.read.cut) (names_are_no_words number taken.source taken.tokens taken.read.cut) in
      list_all-append (λ (d : Placed). is_spelled d.declaration) (placed_in n 0 decls) (placed_from (n + 1) (trees later))
      ∙ both _ _ (placed_spelled n 0 decls formed) (all_spelled (before ++ added ∷ []) later (n + 1) t.1)

  -- ---- texts

  all_texts : (before later : List AddedFile) → AreTakenAfter files main before later → length (flat_map (λ (f : FileTree). texts_among f.decls) (trees later)) ≤ 1048576 * length later
  all_texts before [] t = omega arith
  all_texts before (added ∷ later) t =
      let taken : IsTaken files before t.0.0 added = t.0.2 in
      let tree = file_tree added.file in
      let few = texts_are_few tree taken.tokens taken.read.spelled in
      let strings = strings_are_few (length before) taken.source taken.tokens taken.read.cut in
      let within = taken.within in
      let rest = all_texts (before ++ added ∷ []) later t.1 in
      let more = length-append (texts_among tree.decls) (flat_map (λ (f : FileTree). texts_among f.decls) (trees later)) in
      omega (arith, few, strings, within, rest, more)

  with_one : (texts : List (List ℕ)) (text : List ℕ) → length (with_text texts text) ≤ length texts + 1
  with_one [] text = omega arith
  with_one (first ∷ later) text =
      let rest = with_one later text in by (is_lt (slice_cmp nat_cmp text first)) (is_eq (slice_cmp nat_cmp text first)) rest
    where
      by : (less same : Bool) → length (with_text later text) ≤ length later + 1
          → length {A = List ℕ} (cond less (text ∷ first ∷ later) (cond same (first ∷ later) (first ∷ with_text later text))) ≤ length (first ∷ later) + 1
      by true same e = omega (arith, e)
      by false true e = omega (arith, e)
      by false false e = omega (arith, e)

  with_all : (texts more : List (List ℕ)) → length (fold with_text texts more) ≤ length texts + length more
  with_all texts [] = omega arith
  with_all texts (t ∷ ts) = let a = with_one texts t in let b = with_all (with_text texts t) ts in omega (arith, a, b)

  pub few_texts : (program : List AddedFile) → AreTakenAfter files main [] program → length (texts_of (trees program)) ≤ 1000000000
  few_texts program t =
      let all = flat_map (λ (f : FileTree). texts_among f.decls) (trees program) in
      let a = with_all ([] ∷ []) all in
      let b = all_texts [] program t in
      let c = few_files [] program t (omega arith) (omega arith) in
      omega (arith, a, b, c)
