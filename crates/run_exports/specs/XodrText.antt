-- The road as an ASAM OpenDRIVE file: straight, from 50 m before position 0 to 50 m behind the last one.
use Rattle.std.specs.Prelude.{ℕ, zero, suc, ◌+◌, cond, nat_lt, List, [], ◌++◌, codes}
use Rattle.std.specs.Fmt.{decimal}
use Rattle.run_exports.specs.Decimals.{fixed}
use Rattle.run_exports.specs.declared.road.Road.{Road}
use Rattle.run_exports.specs.declared.xodr_parts.Stretch.{Stretch}
use Rattle.run_exports.specs.XodrParts.{stretch_text}

abbrev pub road_line : ℕ → List ℕ
road_line far = codes "  <road name=\"road\" length=\"" ++ decimal far ++ codes "\" id=\"1\" junction=\"-1\" rule=\"RHT\">\n"

abbrev pub geometry_line : ℕ → List ℕ
geometry_line far = codes "      <geometry s=\"0\" x=\"-50\" y=\"0\" hdg=\"0\" length=\"" ++ decimal far ++ codes "\"><line/></geometry>\n"

abbrev pub lane_line : ℕ → List ℕ
lane_line id = codes "          <lane id=\"-" ++ decimal id ++ codes "\" type=\"driving\" level=\"false\">\n"

abbrev pub width_line : ℕ → List ℕ
width_line width = codes "            <width sOffset=\"0\" a=\"" ++ fixed 3 width ++ codes "\" b=\"0\" c=\"0\" d=\"0\"/>\n"

-- a lane, with the mark on its right: the last one's isn't to be passed
unfoldable pub lane : Road → ℕ → List ℕ
lane road id = lane_line id ++ width_line road.lane_width ++ stretch_text (cond (nat_lt id road.lanes) Stretch.Inner Stretch.Outer)

-- so many lanes, from the left
abbrev pub lanes_to : Road → ℕ → List ℕ
lanes_to road zero = []
lanes_to road (suc before) = lanes_to road before ++ lane road (before + 1)

abbrev pub plan_part : ℕ → List ℕ
plan_part far = stretch_text Stretch.Head ++ road_line far ++ stretch_text Stretch.Plan ++ geometry_line far

-- the line of the road, and its lanes
abbrev pub xodr_text : Road → List ℕ
xodr_text road =
    plan_part (road.metres + 100) ++ (stretch_text Stretch.Left ++ lanes_to road road.lanes ++ stretch_text Stretch.Tail)
