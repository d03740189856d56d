-- What the nodes of typed expressions are seen as.
use Rattle.std.proofs.Common.{◌≡◌, ℕ}
use Rattle.expr_nodes.specs.osc_base.declared.path.Path.{Path}
use Rattle.expr_nodes.specs.osc_base.declared.fraction.Fraction.{Fraction}
use Rattle.expr_nodes.specs.osc_base.Fraction.{value}
use Rattle.expr_nodes.specs.declared.compare.Compare.{Compare}
use Rattle.expr_nodes.specs.declared.node.Info.{Info}
use Rattle.expr_nodes.specs.declared.node.Typed.{Typed}
use Rattle.expr_nodes.specs.declared.node.Typed.TheOpen.{Typed-F}
use Rattle.expr_nodes.specs.declared.node.Typed.TheFolds.{fold-roll-Typed}
use Rattle.expr_nodes.specs.declared.node.Typed.TheViews
use Rattle.expr_nodes.specs.Typed as Nodes
use Rattle.expr_nodes.specs.Seen.{Reached, typed_step, earlier_step, seen, seen_info}

pub seen_constant : (info : Info) (number : Fraction) → seen (Typed.Constant info number) ≡ Nodes.Constant (seen_info info) (value number)
unfolding Rattle.expr_nodes.specs.declared.node.Typed.TheViews.roll-Typed denote.Hole.Carrier.roll
seen_constant info number = fold-roll-Typed Nodes.Typed Reached typed_step earlier_step (Typed-F.Constant info number)

pub seen_read : (info : Info) (path : Path) (per : ℕ) → seen (Typed.Read info path per) ≡ Nodes.Read (seen_info info) path per
unfolding Rattle.expr_nodes.specs.declared.node.Typed.TheViews.roll-Typed denote.Hole.Carrier.roll
seen_read info path per = fold-roll-Typed Nodes.Typed Reached typed_step earlier_step (Typed-F.Read info path per)

pub seen_whole : (info : Info) (path : Path) → seen (Typed.Whole info path) ≡ Nodes.Whole (seen_info info) path
unfolding Rattle.expr_nodes.specs.declared.node.Typed.TheViews.roll-Typed denote.Hole.Carrier.roll
seen_whole info path = fold-roll-Typed Nodes.Typed Reached typed_step earlier_step (Typed-F.Whole info path)

pub seen_span : (info : Info) (low high : Typed) → seen (TheViews.Span info low high) ≡ Nodes.Span (seen_info info) (seen low) (seen high)
unfolding Rattle.expr_nodes.specs.declared.node.Typed.TheViews.roll-Typed denote.Hole.Carrier.roll
seen_span info low high = fold-roll-Typed Nodes.Typed Reached typed_step earlier_step (Typed-F.Span info low high)

pub seen_minus : (info : Info) (part : Typed) → seen (TheViews.Minus info part) ≡ Nodes.Minus (seen_info info) (seen part)
unfolding Rattle.expr_nodes.specs.declared.node.Typed.TheViews.roll-Typed denote.Hole.Carrier.roll
seen_minus info part = fold-roll-Typed Nodes.Typed Reached typed_step earlier_step (Typed-F.Minus info part)

pub seen_not : (info : Info) (part : Typed) → seen (TheViews.Not info part) ≡ Nodes.Not (seen_info info) (seen part)
unfolding Rattle.expr_nodes.specs.declared.node.Typed.TheViews.roll-Typed denote.Hole.Carrier.roll
seen_not info part = fold-roll-Typed Nodes.Typed Reached typed_step earlier_step (Typed-F.Not info part)

pub seen_implies : (info : Info) (left right : Typed) → seen (TheViews.Implies info left right) ≡ Nodes.Implies (seen_info info) (seen left) (seen right)
unfolding Rattle.expr_nodes.specs.declared.node.Typed.TheViews.roll-Typed denote.Hole.Carrier.roll
seen_implies info left right = fold-roll-Typed Nodes.Typed Reached typed_step earlier_step (Typed-F.Implies info left right)

pub seen_relation : (info : Info) (sign : Compare) (left right : Typed) → seen (TheViews.Relation info sign left right) ≡ Nodes.Relation (seen_info info) sign (seen left) (seen right)
unfolding Rattle.expr_nodes.specs.declared.node.Typed.TheViews.roll-Typed denote.Hole.Carrier.roll
seen_relation info sign left right = fold-roll-Typed Nodes.Typed Reached typed_step earlier_step (Typed-F.Relation info sign left right)

pub seen_within : (info : Info) (left right : Typed) → seen (TheViews.Within info left right) ≡ Nodes.Within (seen_info info) (seen left) (seen right)
unfolding Rattle.expr_nodes.specs.declared.node.Typed.TheViews.roll-Typed denote.Hole.Carrier.roll
seen_within info left right = fold-roll-Typed Nodes.Typed Reached typed_step earlier_step (Typed-F.Within info left right)
