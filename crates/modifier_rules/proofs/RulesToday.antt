-- The relations that modifiers of single ticks have give the rules that the modifiers have.
use Rattle.std.proofs.Common.{◌≡◌, refl, ◌++◌, ℕ, List}
use Rattle.osc_base.specs.declared.modifier.Kind.{Kind}
use Rattle.osc_base.specs.declared.modifier.Moment.{Moment}
use Rattle.osc_base.specs.Relations.{relation_of}
use Rattle.box_eval.specs.FlatRules.{FlatTerm, FlatRule, under}
use Rattle.modifier_rules.specs.Relations.{relation_at, moment_at}
use Rattle.modifier_rules.specs.RelationRules.{SlotsAt, SlotSight, relation_rule, asks_rule}

pub today_rule :
    (length : ℕ) (kind : Kind) (s : SlotsAt) (low high : FlatTerm) (scale : ℕ)
    → relation_rule length (relation_of kind) s low high scale ≡ relation_at kind s.own s.other low high scale
today_rule length Kind.Speed s low high scale = refl
today_rule length Kind.FasterThan s low high scale = refl
today_rule length Kind.SlowerThan s low high scale = refl
today_rule length Kind.SameSpeed s low high scale = refl
today_rule length Kind.Lane s low high scale = refl
today_rule length Kind.SameLane s low high scale = refl
today_rule length Kind.LeftOf s low high scale = refl
today_rule length Kind.RightOf s low high scale = refl
today_rule length Kind.Position s low high scale = refl
today_rule length Kind.AheadOf s low high scale = refl
today_rule length Kind.Behind s low high scale = refl

-- the rule of a modifier at a tick is the rule that it has today, under its conditions and its moment
pub today_asks_rule :
    (conditions : List FlatRule) (kind : Kind) (moment : Moment) (s : SlotSight) (low high : FlatTerm) (scale tick : ℕ)
    → asks_rule conditions (relation_of kind) moment s low high scale tick
    ≡ under (conditions ++ moment_at moment s.start s.end tick) (relation_at kind (s.own tick) (s.other tick) low high scale)
today_asks_rule conditions Kind.Speed moment s low high scale tick = refl
today_asks_rule conditions Kind.FasterThan moment s low high scale tick = refl
today_asks_rule conditions Kind.SlowerThan moment s low high scale tick = refl
today_asks_rule conditions Kind.SameSpeed moment s low high scale tick = refl
today_asks_rule conditions Kind.Lane moment s low high scale tick = refl
today_asks_rule conditions Kind.SameLane moment s low high scale tick = refl
today_asks_rule conditions Kind.LeftOf moment s low high scale tick = refl
today_asks_rule conditions Kind.RightOf moment s low high scale tick = refl
today_asks_rule conditions Kind.Position moment s low high scale tick = refl
today_asks_rule conditions Kind.AheadOf moment s low high scale tick = refl
today_asks_rule conditions Kind.Behind moment s low high scale tick = refl
