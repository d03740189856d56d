-- Ways into a `do`, as the program has them.
use Rattle.std.specs.Prelude.{List, Bool, ◌&&◌, nat_eq}
use Rattle.std.specs.List.{list_all, list_any}
use Rattle.type_model.specs.osc_base.Paths.{same_path}
use Rattle.expr_nodes.specs.declared.ways.Turn.{Turn}

-- two turns take the same member of the same `one_of`
abbrev pub same_turn : Turn → Turn → Bool
same_turn a b = same_path a.phase b.phase && nat_eq a.member b.member

-- a way leads into each member of a `one_of` in which the other stands
abbrev pub leads_into : List Turn → List Turn → Bool
leads_into way other = list_all (λ turn. list_any (same_turn turn) way) other
