-- What an invocation calls, by its names.
use Rattle.std.proofs.Common.{◌≡◌, ◌∙◌, refl, sym, ap, ℕ, ◌+◌, ◌-◌, ◌<◌, ◌≤◌, List, [], ◌∷◌, ◌++◌, Option, Some, None, filter_map, find, true, arith, get_or, length, take, take_all}
use Rattle.std.proofs.lemmas.List.{take_more}
use Rattle.std.specs.List.{cons_option}
use Rattle.dsl_tree.specs.declared.parts.Ident.{Ident}
use Rattle.dsl_tree.specs.declared.phases.InvokeHead.{InvokeHead}
use Rattle.dsl_tree.specs.ExprTree.{ExprTree}
use Rattle.composition.specs.type_heads.Table.{TypeHead, base, line_within}
use Rattle.composition.proofs.of_type_heads.LineSteps.{line_more}
use Rattle.composition.specs.Calls.{Callee, callee, last_of}
use Rattle.program_calls.specs.SeenCallees.{actor_tree, head_tree, owned_along, owned_at, with_names}

-- the last name is the behaviour's
pub last_is : (e : ExprTree) (n last : Ident) (before later : List Ident) → n ∷ later ≡ before ++ last ∷ [] → last_of e n later ≡ Callee.Owned (with_names e before) last
last_is e n last [] [] h = let same : n ≡ last = cc in ap (Callee.Owned e) same
last_is e n last [] (m ∷ more) h = absurd (cc)
last_is e n last (b ∷ []) [] h = absurd (cc)
last_is e n last (b ∷ c ∷ bs) [] h = absurd (cc)
last_is e n last (b ∷ bs) (m ∷ more) h =
    let rest : m ∷ more ≡ bs ++ last ∷ [] = cc in
    let same : n ≡ b = cc in
    last_is (ExprTree.Dot e n) m last bs more rest ∙ ap (λ x. Callee.Owned (with_names (ExprTree.Dot e x) bs) last) same

-- a list and its last item
split_last : (xs : List Ident) (last : Ident) → 1 ≤ length xs → last ≡ get_or xs (length xs - 1) last → xs ≡ take (length xs - 1) xs ++ last ∷ []
split_last xs last above is =
    let less : length xs - 1 < length xs = omega (arith, above) in
    let more : length xs - 1 + 1 ≡ length xs = omega (arith, above) in
    let all : length xs ≤ length xs = omega arith in
    sym (take_all (length xs) xs all) ∙ ap (λ k. take k xs) (sym more) ∙ take_more xs (length xs - 1) last less ∙ ap (λ x. take (length xs - 1) xs ++ x ∷ []) (sym is)

last_called : (head : InvokeHead) (names before : List Ident) (last : Ident) → names ≡ before ++ last ∷ [] → Callee.Owned (actor_tree head before) last ≡ callee head names
last_called head [] [] last h = absurd (cc)
last_called head [] (b ∷ bs) last h = absurd (cc)
last_called (InvokeHead.Name i) (n ∷ later) before last h = sym (last_is (ExprTree.Name i) n last before later h)
last_called (InvokeHead.Actor p) (n ∷ later) before last h = sym (last_is (ExprTree.Actor p) n last before later h)

pub owned_last : (head : InvokeHead) (names : List Ident) (last : Ident) → 1 ≤ length names → last ≡ get_or names (length names - 1) last →
    Callee.Owned (actor_tree head (take (length names - 1) names)) last ≡ callee head names
owned_last head names last above is = last_called head names (take (length names - 1) names) last (split_last names last above is)

module _ (heads : List TypeHead) (name : List ℕ) where
  -- a type owns no such behaviour
  pub owned_later : (whole : Option ℕ) (steps : ℕ) (at next : Option ℕ) (t : ℕ) → owned_along heads name (line_within steps heads at) ≡ whole → at ≡ Some t →
      None ≡ owned_at heads name t → next ≡ base heads t → 0 < steps → owned_along heads name (line_within (steps - 1) heads next) ≡ whole
  owned_later whole steps at next t is some none on above =
      ap (λ o. owned_along heads name (line_within (steps - 1) heads o)) on
      ∙ ap (λ o. find (λ b. true) (cons_option o (filter_map (owned_at heads name) (line_within (steps - 1) heads (base heads t))))) none
      ∙ ap (owned_along heads name) (sym (ap (line_within steps heads) some ∙ line_more steps heads t above)) ∙ is

  -- a type owns it
  pub owned_here : (whole : Option ℕ) (steps : ℕ) (at : Option ℕ) (t found : ℕ) → owned_along heads name (line_within steps heads at) ≡ whole → at ≡ Some t →
      Some found ≡ owned_at heads name t → 0 < steps → Some found ≡ whole
  owned_here whole steps at t found is some here above =
      ap (λ o. find (λ b. true) (cons_option o (filter_map (owned_at heads name) (line_within (steps - 1) heads (base heads t))))) here
      ∙ ap (owned_along heads name) (sym (ap (line_within steps heads) some ∙ line_more steps heads t above)) ∙ is

-- one name more
pub names_more : (e : ExprTree) (names : List Ident) (name : Ident) → with_names e (names ++ name ∷ []) ≡ ExprTree.Dot (with_names e names) name
names_more e [] name = refl
names_more e (n ∷ names) name = names_more (ExprTree.Dot e n) names name

pub next_name : (head : InvokeHead) (names : List Ident) (i : ℕ) (name : Ident) → i < length names → name ≡ get_or names i name →
    ExprTree.Dot (actor_tree head (take i names)) name ≡ actor_tree head (take (i + 1) names)
next_name head names i name less is =
    sym (ap (actor_tree head) (take_more names i name less ∙ ap (λ x. take i names ++ x ∷ []) (sym is)) ∙ names_more (head_tree head) (take i names) name)
