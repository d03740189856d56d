-- The road of an OpenDRIVE file is the one that it was written of.
use Rattle.std.proofs.Common.{◌≡◌, ◌∙◌, refl, sym, ap, arith, ℕ, zero, suc, ◌+◌, ◌^◌, ◌<◌, Bool, true, false, not, cond, ◌&&◌, List, [], ◌∷◌, ◌++◌, codes, append_assoc, append-nil, ltb-true}
use Rattle.std.specs.Prelude.{nat_eq, nat_lt, replicate}
use Rattle.std.specs.List.{list_all}
use Rattle.std.specs.Fmt.{decimal}
use Rattle.run_exports.specs.Decimals.{fixed}
use Rattle.run_exports.specs.Plain.{is_plain, is_plain_road}
use Rattle.run_exports.specs.XodrParts.{stretch_text}
use Rattle.run_exports.specs.XodrText.{road_line, geometry_line, lane_line, width_line, lane, lanes_to, plan_part, xodr_text}
use Rattle.run_exports.specs.declared.road.Road.{Road}
use Rattle.run_exports.specs.declared.xodr_parts.Stretch.{Stretch}
use Rattle.run_exports.specs.Reading.{before, ended_by, scaled, unindented, attribute}
use Rattle.run_exports.specs.XodrReader.{Lanes, lanes_in, read_xodr}
use Rattle.run_exports.specs.RoundTrips.{lanes_of}
use Rattle.run_exports.proofs.Cuts.{both, joined, free, kind_free, before_mark, ended_mark}
use Rattle.run_exports.proofs.PlainTexts.{decimal_plain, fixed_plain}
use Rattle.run_exports.proofs.NumbersBack.{thousandths_back, whole_back}

abbrev read : List ℕ → Lanes
read text = lanes_in (ended_by 10 text)

abbrev Passes : List ℕ → Type 0
Passes text = (rest : List ℕ) → read (text ++ rest) ≡ read rest

stretch_passes : (stretch : Stretch) → Passes (stretch_text stretch)
unfolding stretch_text
stretch_passes Stretch.Head rest = refl
stretch_passes Stretch.Plan rest = refl
stretch_passes Stretch.Left rest = refl
stretch_passes Stretch.Inner rest = refl
stretch_passes Stretch.Outer rest = refl
stretch_passes Stretch.Tail rest = refl

-- a line with something plain in its midst is read whole
line_read : (front middle back : List ℕ) → free 10 front ≡ true → list_all is_plain middle ≡ true → free 10 back ≡ true → (rest : List ℕ)
    → read (((front ++ middle) ++ (back ++ 10 ∷ [])) ++ rest) ≡ lanes_in (((front ++ middle) ++ back) ∷ ended_by 10 rest)
line_read front middle back f g h rest =
    ap read (line_end front middle back rest)
    ∙ ap lanes_in (ended_mark 10 ((front ++ middle) ++ back) rest
    (joined (λ b. not (nat_eq b 10)) (front ++ middle) back (joined (λ b. not (nat_eq b 10)) front middle f (kind_free is_plain 10 refl middle g)) h))
  where
    line_end : (front middle back rest : List ℕ) → ((front ++ middle) ++ (back ++ 10 ∷ [])) ++ rest ≡ ((front ++ middle) ++ back) ++ 10 ∷ rest
    line_end front middle back rest = simp append_assoc

quoted_part : (xs rest : List ℕ) → list_all is_plain xs ≡ true → before 34 (xs ++ 34 ∷ rest) ≡ xs
quoted_part xs rest h = before_mark 34 xs rest (kind_free is_plain 34 refl xs h)

road_read : (far : ℕ) → far < 10 ^ 64 → (rest : List ℕ) → read (road_line far ++ rest) ≡ record { length = far; widths = (read rest).widths }
road_read far less rest =
    line_read (codes "  <road name=\"road\" length=\"") (decimal far) (codes "\" id=\"1\" junction=\"-1\" rule=\"RHT\">") refl (decimal_plain far less) refl rest
    ∙ (λ i. record {
      length = (ap (scaled 0) (quoted_part (decimal far) (codes " id=\"1\" junction=\"-1\" rule=\"RHT\">") (decimal_plain far less)) ∙ whole_back far less) i;
      widths = (read rest).widths;
    })

geometry_passes : (far : ℕ) → far < 10 ^ 64 → Passes (geometry_line far)
geometry_passes far less rest =
    line_read (codes "      <geometry s=\"0\" x=\"-50\" y=\"0\" hdg=\"0\" length=\"") (decimal far) (codes "\"><line/></geometry>") refl (decimal_plain far less) refl rest

lane_passes : (id : ℕ) → id < 10 ^ 64 → Passes (lane_line id)
lane_passes id less rest =
    line_read (codes "          <lane id=\"-") (decimal id) (codes "\" type=\"driving\" level=\"false\">") refl (decimal_plain id less) refl rest

width_read : (width : ℕ) → width < 10 ^ 64 → (rest : List ℕ) → read (width_line width ++ rest) ≡ record { length = (read rest).length; widths = width ∷ (read rest).widths }
width_read width less rest =
    let plain = fixed_plain 3 width (omega arith) (omega arith) in
    line_read (codes "            <width sOffset=\"0\" a=\"") (fixed 3 width) (codes "\" b=\"0\" c=\"0\" d=\"0\"/>") refl plain refl rest
    ∙ (λ i. record {
      length = (read rest).length;
      widths = (ap (scaled 3) (quoted_part (fixed 3 width) (codes " b=\"0\" c=\"0\" d=\"0\"/>") plain) ∙ thousandths_back width less) i ∷ (read rest).widths;
    })

lane_read : (road : Road) (id : ℕ) → id < 10 ^ 64 → road.lane_width < 10 ^ 64 → (rest : List ℕ)
    → read (lane road id ++ rest) ≡ record { length = (read rest).length; widths = road.lane_width ∷ (read rest).widths }
unfolding lane
lane_read road id less narrow rest =
    let mark = stretch_text (cond (nat_lt id road.lanes) Stretch.Inner Stretch.Outer) in
    ap read (three (lane_line id) (width_line road.lane_width) mark rest)
    ∙ lane_passes id less (width_line road.lane_width ++ (mark ++ rest))
    ∙ width_read road.lane_width narrow (mark ++ rest)
    ∙ ap (λ r. record { length = r.length; widths = road.lane_width ∷ r.widths }) (stretch_passes (cond (nat_lt id road.lanes) Stretch.Inner Stretch.Outer) rest)
  where
    three : (a b c d : List ℕ) → (a ++ b ++ c) ++ d ≡ a ++ (b ++ (c ++ d))
    three a b c d = simp append_assoc

one_more : (n w : ℕ) (ws : List ℕ) → replicate n w ++ w ∷ ws ≡ w ∷ (replicate n w ++ ws)
one_more zero w ws = refl
one_more (suc n) w ws = ap (λ l. w ∷ l) (one_more n w ws)

lanes_read : (road : Road) (count : ℕ) → count < 10 ^ 64 → road.lane_width < 10 ^ 64 → (rest : List ℕ)
    → read (lanes_to road count ++ rest) ≡ record { length = (read rest).length; widths = replicate count road.lane_width ++ (read rest).widths }
lanes_read road zero less narrow rest = refl
lanes_read road (suc before) less narrow rest =
    ap read (append_assoc (lanes_to road before) (lane road (before + 1)) rest)
    ∙ lanes_read road before (omega arith) narrow (lane road (before + 1) ++ rest)
    ∙ ap (λ r. record { length = r.length; widths = replicate before road.lane_width ++ r.widths }) (lane_read road (before + 1) (omega arith) narrow rest)
    ∙ (λ i. record { length = (read rest).length; widths = one_more before road.lane_width (read rest).widths i })

road_file : (road : Road) (far : ℕ) → road.lanes < 2 ^ 32 → road.lane_width < 2 ^ 32 → far < 10 ^ 64
    → read (plan_part far ++ (stretch_text Stretch.Left ++ lanes_to road road.lanes ++ stretch_text Stretch.Tail)) ≡ record { length = far; widths = replicate road.lanes road.lane_width }
road_file road far few narrow less =
    let lanes = lanes_to road road.lanes in
    let end = stretch_text Stretch.Tail in
    ap read (seven (stretch_text Stretch.Head) (road_line far) (stretch_text Stretch.Plan) (geometry_line far) (stretch_text Stretch.Left) lanes end)
    ∙ stretch_passes Stretch.Head _
    ∙ road_read far less _
    ∙ ap (λ r. record { length = far; widths = r.widths })
    (stretch_passes Stretch.Plan _
    ∙ geometry_passes far less _
    ∙ stretch_passes Stretch.Left _
    ∙ lanes_read road road.lanes (omega arith) (omega arith) end
    ∙ ap (λ r. record { length = r.length; widths = replicate road.lanes road.lane_width ++ r.widths }) (ap read (sym (append-nil end)) ∙ stretch_passes Stretch.Tail []))
    ∙ (λ i. record { length = far; widths = append-nil (replicate road.lanes road.lane_width) i })
  where
    seven : (a b c d e f g : List ℕ) → (a ++ b ++ c ++ d) ++ (e ++ f ++ g) ≡ a ++ (b ++ (c ++ (d ++ (e ++ (f ++ g)))))
    seven a b c d e f g = simp append_assoc

pub xodr_back : (road : Road) → is_plain_road road ≡ true → read_xodr (xodr_text road) ≡ lanes_of road
xodr_back road h =
    let parts = both (nat_lt road.lanes (2 ^ 32)) (nat_lt road.lane_width (2 ^ 32) && nat_lt road.metres (2 ^ 32)) h in
    let more = both (nat_lt road.lane_width (2 ^ 32)) (nat_lt road.metres (2 ^ 32)) parts.1 in
    road_file road (road.metres + 100) (ltb-true road.lanes (2 ^ 32) parts.0) (ltb-true road.lane_width (2 ^ 32) more.0)
    (omega (arith, ltb-true road.metres (2 ^ 32) more.1))
