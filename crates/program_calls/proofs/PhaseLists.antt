-- The phases of a `do`, member by member.
use Rattle.std.proofs.Common.{◌≡◌, ◌∙◌, refl, sym, ap, ap₂, ℕ, ◌+◌, ◌<◌, ◌≤◌, List, [], ◌∷◌, ◌++◌, map, drop, length, append_assoc, append-nil, get_or, subst, Result, Ok, Err, OnOk}
use Rattle.std.proofs.lemmas.List.{drop_all, drop_more}
use Rattle.osc_base.specs.declared.path.Path.{Path}
use Rattle.osc_base.specs.Paths.{then_member}
use Rattle.dsl_tree.specs.declared.phases.CompKind.{CompKind}
use Rattle.dsl_tree.specs.declared.phases.CompNode.{CompNode}
use Rattle.dsl_tree.specs.declared.phases.InvokeNode.{InvokeNode}
use Rattle.dsl_tree.specs.declared.phases.WaitNode.{WaitNode}
use Rattle.dsl_tree.specs.declared.phases.Phase.{Phase}
use Rattle.dsl_tree.specs.declared.phases.Phase.TheViews
use Rattle.dsl_tree.specs.PhaseTree.{PhaseTree, row_of}
use Rattle.dsl_tree.specs.Views.{phase_tree}
use Rattle.dsl_tree.proofs.SeenPhases.{seen_comp, seen_invoke, seen_wait}
use Rattle.composition.specs.Calls.{Turn, PhaseHere, phases_at, phases_among, turns}
use Rattle.program_calls.specs.PlacedPhases.{members_placed, phases_from}

-- a phase in its place
abbrev pub here : Path → List Turn → PhaseTree → PhaseHere
here path way phase = record { path = path; way = way; phase = phase }

among_list : (kind : CompKind) (path : Path) (way : List Turn) (n : ℕ) (ps : List PhaseTree) → phases_among kind path way n (row_of ps) ≡ phases_from kind path way n ps
among_list kind path way n [] = refl
among_list kind path way n (p ∷ ps) = ap (λ xs. phases_at (then_member path n) (way ++ turns kind path n) p ++ xs) (among_list kind path way (n + 1) ps)

pub of_comp : (path : Path) (way : List Turn) (c : CompNode) → phases_at path way (phase_tree (TheViews.Comp c)) ≡ here path way (phase_tree (TheViews.Comp c)) ∷ members_placed path way c
of_comp path way c = ap (phases_at path way) (seen_comp c)
    ∙ ap₂ (λ p ps. here path way p ∷ ps) (sym (seen_comp c)) (among_list c.kind path way 0 (map phase_tree c.members))

pub of_invoke : (path : Path) (way : List Turn) (i : InvokeNode) → phases_at path way (phase_tree (Phase.Invoke i)) ≡ here path way (phase_tree (Phase.Invoke i)) ∷ []
of_invoke path way i = ap (phases_at path way) (seen_invoke i) ∙ ap (λ p. here path way p ∷ []) (sym (seen_invoke i))

pub of_wait : (path : Path) (way : List Turn) (w : WaitNode) → phases_at path way (phase_tree (Phase.Wait w)) ≡ here path way (phase_tree (Phase.Wait w)) ∷ []
of_wait path way w = ap (phases_at path way) (seen_wait w) ∙ ap (λ p. here path way p ∷ []) (sym (seen_wait w))

-- one phase, and then those after it
pub then_more : (before first all : List PhaseHere) (path : Path) (way : List Turn) (p : PhaseTree) (more : List PhaseHere) →
    first ≡ before ++ here path way p ∷ [] → all ≡ first ++ more → phases_at path way p ≡ here path way p ∷ more → all ≡ before ++ phases_at path way p
then_more before first all path way p more one rest is =
    rest ∙ ap (λ xs. xs ++ more) one ∙ append_assoc before (here path way p ∷ []) more ∙ ap (λ xs. before ++ xs) (sym is)

-- one member more
pub next_member : (kind : CompKind) (path path' : Path) (way way' : List Turn) (n n' i : ℕ) (ms items : List Phase) (m : Phase) (into into' whole : List PhaseHere) →
    items ≡ ms → i < length items → m ≡ get_or items i m → path' ≡ then_member path n → way' ≡ way ++ turns kind path n → n' ≡ n + 1 →
    into' ≡ into ++ phases_at path' way' (phase_tree m) → into ++ phases_from kind path way n (map phase_tree (drop i ms)) ≡ whole →
    into' ++ phases_from kind path way n' (map phase_tree (drop (i + 1) ms)) ≡ whole
next_member kind path path' way way' n n' i ms items m into into' whole same less is on along up more before =
    let less' : i < length ms = subst (λ xs. i < length xs) same less in
    let is' : m ≡ get_or ms i m = is ∙ ap (λ xs. get_or xs i m) same in
    let left : drop i ms ≡ m ∷ drop (i + 1) ms = drop_more ms i m less' ∙ ap (λ y. y ∷ drop (i + 1) ms) (sym is') in
    let later : ℕ → List PhaseHere = λ k. phases_from kind path way k (map phase_tree (drop (i + 1) ms)) in
    ap₂ (λ xs k. xs ++ later k) more up
    ∙ append_assoc into (phases_at path' way' (phase_tree m)) (later (n + 1))
    ∙ ap₂ (λ p w. into ++ (phases_at p w (phase_tree m) ++ later (n + 1))) on along
    ∙ ap (λ ps. into ++ phases_from kind path way n (map phase_tree ps)) (sym left) ∙ before

-- no member is left
pub last_member : (kind : CompKind) (path : Path) (way : List Turn) (n i : ℕ) (ms items : List Phase) (into whole : List PhaseHere) →
    items ≡ ms → length items ≤ i → into ++ phases_from kind path way n (map phase_tree (drop i ms)) ≡ whole → into ≡ whole
last_member kind path way n i ms items into whole same less before =
    let none : drop i ms ≡ [] = drop_all i ms (subst (λ xs. length xs ≤ i) same less) in
    sym (append-nil into) ∙ ap (λ ps. into ++ phases_from kind path way n (map phase_tree ps)) (sym none) ∙ before

-- one fact of a result follows from another
pub on_ok : {X E : Type 0} (P Q : Type 0) → (P → Q) → (r : Result X E) → OnOk r P → OnOk r Q
on_ok P Q more (Ok x) h = more h
on_ok P Q more (Err e) h = tt
