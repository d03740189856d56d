-- Arguments, one by one.
use Rattle.std.proofs.Common.{◌≡◌, ◌∙◌, refl, ap, ℕ, ◌+◌, ◌<◌, cond, List, [], ◌∷◌, ◌++◌, Option, Some, None, Result, Ok, Err, IfOk, drop, flat_map, get_or, is_some, length, map, option_and_then, option_map, option_to_list}
use Rattle.std.specs.Result.{OnOk}
use Rattle.std.proofs.lemmas.List.{map-append}
use Rattle.dsl_tree.specs.declared.parts.Ident.{Ident}
use Rattle.dsl_tree.specs.declared.phases.Argument.{Argument}
use Rattle.dsl_tree.specs.declared.phases.InvokePart.{InvokePart}
use Rattle.dsl_tree.specs.ExprTree.{ExprTree}
use Rattle.dsl_tree.specs.PhaseTree.{ArgumentTree, PartTree}
use Rattle.dsl_tree.specs.Views.{argument_tree, part_tree}
use Rattle.expr_nodes.specs.type_heads.Table.{Table}
use Rattle.expr_nodes.specs.type_heads.Types.{Field}
use Rattle.expr_nodes.specs.Scope.{It}
use Rattle.osc_base.specs.declared.fault.Place.{Place}
use Rattle.osc_base.specs.declared.path.Path.{Path}
use Rattle.expr_nodes.specs.Typed.{Typed, moved}
use Rattle.expr_nodes.specs.Typing.{first, typed}
use Rattle.text_constraints.specs.composition.Givens.{read_at}
use Rattle.text_constraints.specs.composition.Scenes.{Occurrence}
use Rattle.text_constraints.specs.Kept.{Holder}
use Rattle.text_constraints.specs.Sites.{Site, at_home}
use Rattle.text_constraints.proofs.ListSteps.{numbered_more, on_ok, put_two}
use Rattle.work_constraints.specs.CallTexts.{argument_kept, arguments_kept, invocation_kept, one_read, parameter_kept, part_kept, required_kept, with_it}

-- an argument further
pub arguments_more : (table : Table) (s : Site) (h : Holder) (of : ℕ) (fields : List Field) (items : List Argument) (i : ℕ) (a : Argument) (old new all : List Occurrence) → i < length items → a ≡ get_or items i a
    → new ≡ old ++ argument_kept table s h of fields i (argument_tree a)
    → old ++ arguments_kept table s h of fields i (map argument_tree (drop i items)) ≡ all
    → new ++ arguments_kept table s h of fields (i + 1) (map argument_tree (drop (i + 1) items)) ≡ all
arguments_more table s h of fields items i a old new all lt at is before =
    numbered_more (λ n bs. arguments_kept table s h of fields n bs) (λ n b. argument_kept table s h of fields n b) argument_tree (λ n b bs. refl)
    items i a old new all lt at is before

-- the parts of a `with:`, by the list that holds them
pub parts_same : {E : Type 0} (table : Table) (s : Site) (h : Holder) (of : ℕ) (mid new : List Occurrence) (held parts : List InvokePart) → held ≡ parts → (r : Result Unit E)
    → OnOk r (new ≡ mid ++ flat_map (part_kept table (with_it s (Some (It.Of of None))) h) (map part_tree held))
    → OnOk r (new ≡ mid ++ flat_map (part_kept table (with_it s (Some (It.Of of None))) h) (map part_tree parts))
parts_same table s h of mid new held parts same r told =
    on_ok (new ≡ mid ++ flat_map (part_kept table (with_it s (Some (It.Of of None))) h) (map part_tree held)) (new ≡ mid ++ flat_map (part_kept table (with_it s (Some (It.Of of None))) h) (map part_tree parts))
    (λ is. is ∙ ap (λ ps. mid ++ flat_map (part_kept table (with_it s (Some (It.Of of None))) h) (map part_tree ps)) same) r told

-- arguments, and a `with:` after them
pub invocation_of : {E : Type 0} (table : Table) (s : Site) (h : Holder) (of : ℕ) (fields : List Field) (arguments : List ArgumentTree) (parts : List PartTree)
    (old mid new : List Occurrence) (r : Result Unit E) → mid ≡ old ++ arguments_kept table s h of fields 0 arguments
    → OnOk r (new ≡ mid ++ flat_map (part_kept table (with_it s (Some (It.Of of None))) h) parts)
    → OnOk r (new ≡ old ++ invocation_kept table s h of fields arguments parts)
invocation_of table s h of fields arguments parts old mid new r given more =
    on_ok (new ≡ mid ++ flat_map (part_kept table (with_it s (Some (It.Of of None))) h) parts) (new ≡ old ++ invocation_kept table s h of fields arguments parts)
    (λ is. put_two old mid new (arguments_kept table s h of fields 0 arguments) (flat_map (part_kept table (with_it s (Some (It.Of of None))) h) parts) given is) r more

-- an expression that is one read
pub none_read : (o : Option Typed) → None ≡ option_and_then read_at o → None ≡ one_read o
none_read None h = refl
none_read (Some t) h = ap (λ r. cond (is_some r) (Some t) None) h

pub some_read : (o : Option Typed) (p : Path) → Some p ≡ option_and_then read_at o → o ≡ one_read o
some_read None p h = refl
some_read (Some t) p h = ap (λ r. cond (is_some r) (Some t) None) h

pub if_ok : {X E : Type 0} (P Q : X → Type 0) → ((x : X) → P x → Q x) → (r : Result X E) → IfOk r P → IfOk r Q
if_ok P Q more (Ok x) h = more x h
if_ok P Q more (Err e) h = h

-- a parameter that holds a value
module _ (f : Typed → Typed) (g : Typed → Occurrence) where
  one_made : (o : Option Typed) (l : Typed) → Some l ≡ option_map f o → g l ∷ [] ≡ map (λ (p : Typed). g (f p)) (option_to_list o)
  one_made None l h = absurd (cc)
  one_made (Some p) l h = let same : l ≡ f p = cc in ap (λ x. g x ∷ []) same

pub parameter_of : (table : Table) (s : Site) (h : Holder) (value : ExprTree) (name : Ident) (place : Place) (left : Typed) (known : Option Typed) (o : Occurrence) → place ≡ first value
    → known ≡ option_map (moved (at_home s)) (one_read (typed table s.scope (ExprTree.Dot (ExprTree.It place) name))) → Some left ≡ known → o ≡ required_kept table s h left value → o ∷ [] ≡ parameter_kept table s h value name
parameter_of table s h value name place left known o is told holds one =
    ap (λ x. x ∷ []) one
    ∙ one_made (moved (at_home s)) (λ (p : Typed). required_kept table s h p value) (one_read (typed table s.scope (ExprTree.Dot (ExprTree.It (first value)) name))) left
    (holds ∙ told ∙ ap (λ p. option_map (moved (at_home s)) (one_read (typed table s.scope (ExprTree.Dot (ExprTree.It p) name)))) is)

-- one thing is put at the end
pub pushed : {X Y : Type 0} (see : X → Y) (old new : List X) (x : X) (given : List Y) → new ≡ old ++ x ∷ [] → see x ∷ [] ≡ given → map see new ≡ map see old ++ given
pushed see old new x given is one = ap (map see) is ∙ map-append see old (x ∷ []) ∙ ap (λ os. map see old ++ os) one
