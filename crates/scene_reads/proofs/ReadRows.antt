-- What expressions read, by their parts.
use Rattle.std.proofs.Common.{◌≡◌, ◌∙◌, refl, sym, ap, List, [], ◌∷◌, ◌++◌, Bool, true, false, ◌&&◌, map}
use Rattle.std.specs.List.{list_all}
use Rattle.std.proofs.lemmas.List.Folds.{list_all-append}
use Rattle.osc_base.specs.declared.path.Path.{Path}
use Rattle.composition.specs.declared.scene.Scene.{Scene}
use Rattle.expr_nodes.specs.declared.node.Info.{Info}
use Rattle.expr_nodes.specs.declared.node.Join.{Join}
use Rattle.expr_nodes.specs.declared.node.Earlier.{Earlier}
use Rattle.expr_nodes.specs.declared.node.Typed.{Typed}
use Rattle.expr_nodes.specs.declared.node.Typed.TheViews
use Rattle.expr_nodes.specs.Typed as Nodes
use Rattle.expr_nodes.specs.Typed.{reads}
use Rattle.expr_nodes.specs.Seen.{Reached, seen, seen_info, reached, joined, grouped}
use Rattle.expr_nodes.proofs.SeenNodes.{seen_joined}
use Rattle.scene_reads.specs.Readable.{has, has_reads, has_part}

-- paths after others
pub has_both : (scene : Scene) (xs ys : List Path) → list_all (has scene) (xs ++ ys) ≡ (list_all (has scene) xs && list_all (has scene) ys)
has_both scene xs ys = list_all-append (has scene) xs ys

has_joined : (scene : Scene) (join : Join) (i : Nodes.Info) (a b : Nodes.Typed) → has_reads scene (joined join i a b) ≡ (has_reads scene a && has_reads scene b)
has_joined scene Join.Sum i a b = has_both scene (reads a) (reads b)
has_joined scene Join.Times i a b = has_both scene (reads a) (reads b)
has_joined scene Join.And i a b = has_both scene (reads a) (reads b)
has_joined scene Join.Or i a b = has_both scene (reads a) (reads b)

and_assoc : (a b c : Bool) → ((a && b) && c) ≡ (a && (b && c))
and_assoc true b c = refl
and_assoc false b c = refl

and_true : (a : Bool) → (a && true) ≡ a
and_true true = refl
and_true false = refl

has_grouped : (scene : Scene) (join : Join) (left : Nodes.Typed) (rest : List Reached) → has_reads scene (grouped join left rest) ≡ (has_reads scene left && list_all (has_part scene) rest)
has_grouped scene join left [] = sym (and_true (has_reads scene left))
has_grouped scene join left (r ∷ rest) =
    has_grouped scene join (joined join r.info left r.part) rest
    ∙ ap (λ b. b && list_all (has_part scene) rest) (has_joined scene join r.info left r.part)
    ∙ and_assoc (has_reads scene left) (has_reads scene r.part) (list_all (has_part scene) rest)

-- a row of parts
has_row_node : (scene : Scene) (t : Typed) (info : Info) (join : Join) (first : Typed) (earlier shown : List Earlier) (last : Typed) → t ≡ TheViews.Joined info join first earlier last → shown ≡ earlier
    → has_reads scene (seen t) ≡ (has_reads scene (seen first) && (list_all (has_part scene) (map reached shown) && has_reads scene (seen last)))
has_row_node scene t info join first earlier shown last is same =
    ap (has_reads scene) (ap seen is ∙ seen_joined info join first earlier last)
    ∙ has_joined scene join (seen_info info) (grouped join (seen first) (map reached earlier)) (seen last)
    ∙ ap (λ b. b && has_reads scene (seen last)) (has_grouped scene join (seen first) (map reached earlier))
    ∙ and_assoc (has_reads scene (seen first)) (list_all (has_part scene) (map reached earlier)) (has_reads scene (seen last))
    ∙ ap (λ es. has_reads scene (seen first) && (list_all (has_part scene) (map reached es) && has_reads scene (seen last))) (sym same)

all_chosen : (n a b c : Bool) → n ≡ (a && (b && c)) → a ≡ true → b ≡ true → c ≡ n
all_chosen n true true c h p q = sym h
all_chosen n true false c h p q = absurd (cc)
all_chosen n false b c h p q = absurd (cc)

second_chosen : (n a b c : Bool) → n ≡ (a && (b && c)) → a ≡ true → b ≡ false → false ≡ n
second_chosen n true false c h p q = sym h
second_chosen n true true c h p q = absurd (cc)
second_chosen n false b c h p q = absurd (cc)

first_chosen : (n a b c : Bool) → n ≡ (a && (b && c)) → a ≡ false → false ≡ n
first_chosen n false b c h p = sym h
first_chosen n true b c h p = absurd (cc)

module _ (scene : Scene) (t : Typed) (info : Info) (join : Join) (first : Typed) (earlier shown : List Earlier) (last : Typed) (is : t ≡ TheViews.Joined info join first earlier last) (same : shown ≡ earlier)
    (f p : Bool) (of_first : f ≡ has_reads scene (seen first)) (of_parts : p ≡ list_all (has_part scene) (map reached shown)) where
  node : has_reads scene (seen t) ≡ (has_reads scene (seen first) && (list_all (has_part scene) (map reached shown) && has_reads scene (seen last)))
  node = has_row_node scene t info join first earlier shown last is same

  pub row_last : (l : Bool) → f ≡ true → p ≡ true → l ≡ has_reads scene (seen last) → l ≡ has_reads scene (seen t)
  row_last l a b e = e ∙ all_chosen (has_reads scene (seen t)) (has_reads scene (seen first)) (list_all (has_part scene) (map reached shown)) (has_reads scene (seen last)) node (sym of_first ∙ a) (sym of_parts ∙ b)

  pub row_parts : f ≡ true → p ≡ false → p ≡ has_reads scene (seen t)
  row_parts a b = b ∙ second_chosen (has_reads scene (seen t)) (has_reads scene (seen first)) (list_all (has_part scene) (map reached shown)) (has_reads scene (seen last)) node (sym of_first ∙ a) (sym of_parts ∙ b)

  pub row_first : f ≡ false → f ≡ has_reads scene (seen t)
  row_first a = a ∙ first_chosen (has_reads scene (seen t)) (has_reads scene (seen first)) (list_all (has_part scene) (map reached shown)) (has_reads scene (seen last)) node (sym of_first ∙ a)
