use Rattle.std.proofs.Common.{◌∙◌, sym, ap, map, subst}
use Rattle.type_heads.specs.EnumNames.{IsEnumIndex}
use Rattle.type_heads.specs.Ancestors.{AreAncestors}
use Rattle.type_heads.specs.Table.{named}
use Rattle.type_heads.specs.DeclaredTypes.{Declared}
use Rattle.type_heads.specs.Placing.{seen_type}
use Rattle.type_heads.specs.Gathered.{heads_of}
use Rattle.type_heads.proofs.HeadLists.{named_same, gathered_heads}
use Rattle.type_heads.proofs.heads.Heads.of.Goals as goal

pub invariant_of-result : goal.invariant_of-result
invariant_of-result c =
    let types = c.args.declarations.now.types.items in (
      c.in_ok-entries.ensures.few,
      λ owner name. c.in_ok-names.ensures.first owner name
          ∙ ap (λ ts. named (map (λ (d : Declared). d.head) (map seen_type ts)) owner name) c.as_slice.ensures.value
          ∙ sym (ap (λ hs. named hs owner name) c.in_ok-entries.ensures.heads
          ∙ named_same (heads_of c.args.declarations.now) c.args.declarations.now.added.items 0 (map seen_type types) owner name 0),
      subst (IsEnumIndex c.in_ok-members.members) c.as_slice-2.ensures.value c.in_ok-members.ensures,
      subst (λ hs. AreAncestors hs c.in_ok-ancestors.ancestors) c.as_slice-3.ensures.value c.in_ok-ancestors.ensures,
    )

pub returns : goal.returns
returns c = c.in_ok-entries.ensures.heads ∙ gathered_heads c.args.declarations.now c.requires
