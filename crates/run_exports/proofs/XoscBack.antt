-- The trajectories of an OpenSCENARIO XML file are those of the run that it was written of.
use Rattle.std.proofs.Common.{◌≡◌, ◌∙◌, refl, sym, ap, arith, ℕ, ◌+◌, ◌*◌, ◌^◌, ◌<◌, ◌≤◌, Bool, true, false, not, cond, ◌&&◌, List, [], ◌∷◌, ◌++◌, map, codes, length, append_assoc, append-nil, ltb-true}
use Rattle.std.specs.Prelude.{ℤ, pos, negsuc, nat_eq, nat_lt, unsigned_abs, flat_map}
use Rattle.std.specs.List.{list_all, concat, filter}
use Rattle.std.proofs.Math.Nat.{mul-le-mul_left}
use Rattle.osc_base.specs.Path.{path_text}
use Rattle.osc_base.specs.PathTexts.{is_written}
use Rattle.osc_base.specs.declared.sample.Sample.{Sample}
use Rattle.run_check.specs.composition.declared.run.Trace.{Trace}
use Rattle.run_check.specs.composition.declared.run.Run.{Run}
use Rattle.run_exports.specs.Decimals.{fixed, signed_fixed}
use Rattle.run_exports.specs.Timed.{timed}
use Rattle.run_exports.specs.Plain.{is_plain, is_i64, is_plain_sample, is_plain_trace, is_plain_run, is_plain_road}
use Rattle.run_exports.specs.World.{halves, across}
use Rattle.run_exports.specs.XoscParts.{part_text}
use Rattle.run_exports.specs.XoscText.{across_part, position_tag, object_line, vehicle_line, entity, private_line, place_line, speed_line, start_lines, start_of, start, group_line, actor_line, trajectory_line, vertex_line, group, is_left, driven_group, end_line, xosc_text}
use Rattle.run_exports.specs.declared.road.Road.{Road}
use Rattle.run_exports.specs.declared.xosc_parts.Part.{Part}
use Rattle.run_exports.specs.Reading.{before, ended_by, scaled, signed_scaled, unindented, attribute}
use Rattle.run_exports.specs.XoscReader.{Corner, Trajectory, Onward, with_line, with_corner, corner_of, from_lines, read_xosc}
use Rattle.run_exports.specs.RoundTrips.{corner, trajectory}
use Rattle.run_exports.proofs.Cuts.{both, joined, free, kind_free, before_mark, ended_mark}
use Rattle.run_exports.proofs.PlainTexts.{fixed_plain, signed_fixed_plain, path_plain}
use Rattle.run_exports.proofs.NumbersBack.{thousandths_back, signed_millionths_back}
use Rattle.run_exports.proofs.Attributes.{behind_spaceless}
use Rattle.run_exports.proofs.Across.{across_fits, across_back, across_plain}
use Rattle.run_exports.proofs.CsvBack.{i64_size, times_fit}

abbrev read : List ℕ → Onward
read text = from_lines (ended_by 10 text)

-- ---- what is passed over

abbrev Passes : List ℕ → Type 0
Passes text = (rest : List ℕ) → read (text ++ rest) ≡ read rest

both_pass : (a b : List ℕ) → Passes a → Passes b → Passes (a ++ b)
both_pass a b f g rest = ap read (append_assoc a b rest) ∙ f (b ++ rest) ∙ g rest

all_pass : {T : Type 0} (f : T → List ℕ) (test : T → Bool) → ((x : T) → test x ≡ true → Passes (f x)) → (xs : List T) → list_all test xs ≡ true → Passes (flat_map f xs)
all_pass f test each [] h rest = refl
all_pass f test each (x ∷ xs) h rest =
    let parts = both (test x) (list_all test xs) h in
    both_pass (f x) (flat_map f xs) (each x parts.0) (all_pass f test each xs parts.1) rest

part_passes : (part : Part) → Passes (part_text part)
unfolding part_text
part_passes Part.Head rest = refl
part_passes Part.Vehicle rest = refl
part_passes Part.Storyboard rest = refl
part_passes Part.Teleport rest = refl
part_passes Part.Speed rest = refl
part_passes Part.Started rest = refl
part_passes Part.Story rest = refl
part_passes Part.Event rest = refl
part_passes Part.Shape rest = refl
part_passes Part.Corner rest = refl
part_passes Part.Followed rest = refl
part_passes Part.Stop rest = refl
part_passes Part.End rest = refl

-- ---- lines with something in their midst

clear : (front middle back : List ℕ) → free 10 front ≡ true → free 10 middle ≡ true → free 10 back ≡ true → free 10 ((front ++ middle) ++ back) ≡ true
clear front middle back f g h = joined (λ b. not (nat_eq b 10)) (front ++ middle) back (joined (λ b. not (nat_eq b 10)) front middle f g) h

line_end : (front middle back rest : List ℕ) → ((front ++ middle) ++ (back ++ 10 ∷ [])) ++ rest ≡ ((front ++ middle) ++ back) ++ 10 ∷ rest
line_end front middle back rest = simp append_assoc

line_read : (front middle back : List ℕ) → free 10 front ≡ true → free 10 middle ≡ true → free 10 back ≡ true → (rest : List ℕ)
    → read (((front ++ middle) ++ (back ++ 10 ∷ [])) ++ rest) ≡ with_line (unindented ((front ++ middle) ++ back)) (read rest)
line_read front middle back f g h rest =
    ap read (line_end front middle back rest)
    ∙ ap from_lines (ended_mark 10 ((front ++ middle) ++ back) rest (clear front middle back f g h))

plain_line : (xs : List ℕ) → list_all is_plain xs ≡ true → free 10 xs ≡ true
plain_line xs h = kind_free is_plain 10 refl xs h

module _ (vehicle : List ℕ) (named : list_all is_plain vehicle ≡ true) where
  object_passes : Passes (object_line vehicle)
  object_passes rest = line_read (codes "    <ScenarioObject name=\"") vehicle (codes "\">") refl (plain_line vehicle named) refl rest

  vehicle_passes : Passes (vehicle_line vehicle)
  vehicle_passes rest = line_read (codes "      <Vehicle name=\"") vehicle (codes "\" vehicleCategory=\"car\">") refl (plain_line vehicle named) refl rest

  private_passes : Passes (private_line vehicle)
  private_passes rest = line_read (codes "        <Private entityRef=\"") vehicle (codes "\">") refl (plain_line vehicle named) refl rest

  group_passes : Passes (group_line vehicle)
  group_passes rest = line_read (codes "        <ManeuverGroup name=\"") vehicle (codes "\" maximumExecutionCount=\"1\">") refl (plain_line vehicle named) refl rest

  actor_passes : Passes (actor_line vehicle)
  actor_passes rest =
      line_read (codes "          <Actors selectTriggeringEntities=\"false\"><EntityRef entityRef=\"") vehicle (codes "\"/></Actors>") refl (plain_line vehicle named) refl rest

  -- a trajectory takes the corners below it
  trajectory_read : (rest : List ℕ)
      → read (trajectory_line vehicle ++ rest) ≡ record { corners = []; later = record { vehicle = vehicle; corners = (read rest).corners } ∷ (read rest).later }
  trajectory_read rest =
      line_read (codes "                <Trajectory name=\"") vehicle (codes "\" closed=\"false\">") refl (plain_line vehicle named) refl rest
      ∙ (λ i. record {
        corners = [];
        later = record { vehicle = before_mark 34 vehicle (codes " closed=\"false\">") (kind_free is_plain 34 refl vehicle named) i; corners = (read rest).corners } ∷ (read rest).later;
      })

-- ---- corners

abbrev vertex : List ℕ → List ℕ → List ℕ → List ℕ
vertex t x y =
    codes "<Vertex time=\"" ++ (t ++ (codes "\"><Position><WorldPosition x=\"" ++ (x ++ (codes "\" y=\"" ++ (y ++ codes "\" z=\"0\" h=\"0\" p=\"0\" r=\"0\"/></Position></Vertex>")))))

vertex_end : (a t b c x d y e f rest : List ℕ)
    → ((a ++ t) ++ ((b ++ ((c ++ x) ++ ((d ++ y) ++ e))) ++ (f ++ 10 ∷ []))) ++ rest
    ≡ (a ++ (t ++ ((b ++ c) ++ (x ++ (d ++ (y ++ (e ++ f))))))) ++ 10 ∷ rest
vertex_end a t b c x d y e f rest = simp append_assoc

vertex_clear : (a t b x d y e : List ℕ) → free 10 a ≡ true → free 10 t ≡ true → free 10 b ≡ true → free 10 x ≡ true → free 10 d ≡ true → free 10 y ≡ true → free 10 e ≡ true
    → free 10 (a ++ (t ++ (b ++ (x ++ (d ++ (y ++ e)))))) ≡ true
vertex_clear a t b x d y e ha ht hb hx hd hy he =
    let p = λ (n : ℕ). not (nat_eq n 10) in
    joined p a _ ha (joined p t _ ht (joined p b _ hb (joined p x _ hx (joined p d _ hd (joined p y e hy he)))))

module _ (t x y : List ℕ) (a : list_all is_plain t ≡ true) (b : list_all is_plain x ≡ true) (c : list_all is_plain y ≡ true) where
  vertex_read : (rest : List ℕ)
      → read (((codes "                  <Vertex time=\"" ++ t) ++ ((codes "\"><Position>" ++ ((codes "<WorldPosition x=\"" ++ x) ++ ((codes "\" y=\"" ++ y) ++ codes "\" z=\"0\" h=\"0\" p=\"0\" r=\"0\"/>")))
      ++ part_text Part.Corner)) ++ rest)
      ≡ with_corner true (vertex t x y) (read rest)
  unfolding part_text
  vertex_read rest =
      ap read (vertex_end (codes "                  <Vertex time=\"") t (codes "\"><Position>") (codes "<WorldPosition x=\"") x (codes "\" y=\"") y (codes "\" z=\"0\" h=\"0\" p=\"0\" r=\"0\"/>") (codes "</Position></Vertex>") rest)
      ∙ ap from_lines (ended_mark 10 (codes "                  " ++ vertex t x y) rest
      (vertex_clear (codes "                  <Vertex time=\"") t (codes "\"><Position><WorldPosition x=\"") x (codes "\" y=\"") y (codes "\" z=\"0\" h=\"0\" p=\"0\" r=\"0\"/></Position></Vertex>")
      refl (plain_line t a) refl (plain_line x b) refl (plain_line y c) refl))

  spaceless : (xs : List ℕ) → list_all is_plain xs ≡ true → free 32 xs ≡ true
  spaceless xs h = kind_free is_plain 32 refl xs h

  time_read : attribute (codes "time") (vertex t x y) ≡ t
  time_read = before_mark 34 t _ (kind_free is_plain 34 refl t a)

  x_read : attribute (codes "x") (vertex t x y) ≡ x
  x_read =
      ap (before 34) (behind_spaceless (codes "x=\"") t _ (spaceless t a))
      ∙ before_mark 34 x _ (kind_free is_plain 34 refl x b)

  y_read : attribute (codes "y") (vertex t x y) ≡ y
  y_read =
      ap (before 34) (behind_spaceless (codes "y=\"") t _ (spaceless t a))
      ∙ ap (before 34) (behind_spaceless (codes "y=\"") x _ (spaceless x b))
      ∙ before_mark 34 y _ (kind_free is_plain 34 refl y c)

-- ---- vehicles

lane_small : (z : ℤ) → is_i64 z ≡ true → unsigned_abs z < 10 ^ 32
lane_small (pos n) h = omega (arith, ltb-true n (2 ^ 63) h)
lane_small (negsuc n) h = omega (arith, ltb-true n (2 ^ 63) h)

ends_fit : (end tick : ℕ) → end < 2 ^ 32 → tick < 2 ^ 32 → end * tick < 10 ^ 64
ends_fit end tick h small =
    let most : tick ≤ 2 ^ 32 = omega arith in
    omega (arith, mul-le-mul_left end most)

module _ (road : Road) (few : road.lanes < 2 ^ 32) (narrow : road.lane_width < 2 ^ 32) where
  fits : (lane : ℤ) → is_i64 lane ≡ true → unsigned_abs (halves road.lanes lane) * (500 * road.lane_width) < 10 ^ 64
  fits lane h = across_fits road lane few narrow (lane_small lane h)

  corner_read : (time : ℕ) (s : Sample) → time < 10 ^ 64 → is_plain_sample s ≡ true → (rest : List ℕ)
      → read (vertex_line road time s ++ rest) ≡ record { corners = corner road time s ∷ (read rest).corners; later = (read rest).later }
  unfolding vertex_line position_tag
  corner_read time s less h rest =
      let parts = both (is_i64 s.lane) (is_i64 s.position && is_i64 s.speed) h in
      let more = both (is_i64 s.position) (is_i64 s.speed) parts.1 in
      let position : unsigned_abs s.position < 10 ^ 64 = i64_size s.position more.0 in
      let lane = fits s.lane parts.0 in
      let a = fixed_plain 3 time (omega arith) (omega arith) in
      let b = signed_fixed_plain 6 s.position (fixed_plain 6 (unsigned_abs s.position) (omega arith) (omega arith)) in
      let c = across_plain road s.lane lane in
      let t = fixed 3 time in
      let x = signed_fixed 6 s.position in
      let y = across road s.lane in
      vertex_read t x y a b c rest
      ∙ (λ i. record {
        corners = record {
          time = (ap (scaled 3) (time_read t x y a b c) ∙ thousandths_back time less) i;
          x = (ap (signed_scaled 6) (x_read t x y a b c) ∙ signed_millionths_back s.position position) i;
          y = (ap (signed_scaled 6) (y_read t x y a b c) ∙ across_back road s.lane lane) i;
        } ∷ (read rest).corners;
        later = (read rest).later;
      })

  corners_read : (tick time : ℕ) (samples : List Sample) → time + tick * length samples < 10 ^ 64 → list_all is_plain_sample samples ≡ true → (rest : List ℕ)
      → read (concat (timed (vertex_line road) tick time samples) ++ rest)
      ≡ record { corners = timed (corner road) tick time samples ++ (read rest).corners; later = (read rest).later }
  corners_read tick time [] less h rest = refl
  corners_read tick time (s ∷ later) less h rest =
      let parts = both (is_plain_sample s) (list_all is_plain_sample later) h in
      let lines = concat (timed (vertex_line road) tick (time + tick) later) in
      ap read (append_assoc (vertex_line road time s) lines rest)
      ∙ corner_read time s (omega arith) parts.0 (lines ++ rest)
      ∙ ap (λ r. record { corners = corner road time s ∷ r.corners; later = r.later }) (corners_read tick (time + tick) later (omega arith) parts.1 rest)

  place_clear : (s : Sample) → is_plain_sample s ≡ true → free 10 (position_tag road s) ≡ true
  unfolding position_tag
  place_clear s h =
      let parts = both (is_i64 s.lane) (is_i64 s.position && is_i64 s.speed) h in
      let more = both (is_i64 s.position) (is_i64 s.speed) parts.1 in
      let position : unsigned_abs s.position < 10 ^ 64 = i64_size s.position more.0 in
      let p = λ (n : ℕ). not (nat_eq n 10) in
      joined p (codes "<WorldPosition x=\"" ++ signed_fixed 6 s.position) (across_part road s)
      (joined p (codes "<WorldPosition x=\"") (signed_fixed 6 s.position) refl (plain_line (signed_fixed 6 s.position) (signed_fixed_plain 6 s.position (fixed_plain 6 (unsigned_abs s.position) (omega arith) (omega arith)))))
      (joined p (codes "\" y=\"" ++ across road s.lane) (codes "\" z=\"0\" h=\"0\" p=\"0\" r=\"0\"/>") (joined p (codes "\" y=\"") (across road s.lane) refl (plain_line (across road s.lane) (across_plain road s.lane (fits s.lane parts.0)))) refl)

  start_lines_pass : (s : Sample) → is_plain_sample s ≡ true → Passes (start_lines road s)
  unfolding start_lines
  start_lines_pass s h =
      let parts = both (is_i64 s.lane) (is_i64 s.position && is_i64 s.speed) h in
      let more = both (is_i64 s.position) (is_i64 s.speed) parts.1 in
      let speed : unsigned_abs s.speed < 10 ^ 64 = i64_size s.speed more.1 in
      both_pass (part_text Part.Teleport ++ place_line road s) (part_text Part.Speed ++ speed_line s ++ part_text Part.Started)
      (both_pass (part_text Part.Teleport) (place_line road s) (part_passes Part.Teleport)
      (λ rest. line_read (codes "              <Position>") (position_tag road s) (codes "</Position>") refl (place_clear s h) refl rest))
      (both_pass (part_text Part.Speed ++ speed_line s) (part_text Part.Started)
      (both_pass (part_text Part.Speed) (speed_line s) (part_passes Part.Speed)
      (λ rest. line_read (codes "                  <AbsoluteTargetSpeed value=\"") (signed_fixed 3 s.speed) (codes "\"/>") refl
      (plain_line (signed_fixed 3 s.speed) (signed_fixed_plain 3 s.speed (fixed_plain 3 (unsigned_abs s.speed) (omega arith) (omega arith)))) refl rest))
      (part_passes Part.Started))

  start_passes : (t : Trace) → is_plain_trace t ≡ true → Passes (start road t)
  unfolding start
  start_passes t h =
      let parts = both (is_written t.path.steps) (list_all is_plain_sample t.samples && nat_lt (length t.samples) (2 ^ 64)) h in
      let more = both (list_all is_plain_sample t.samples) (nat_lt (length t.samples) (2 ^ 64)) parts.1 in
      by (path_text t.path.steps) (path_plain t.path.steps parts.0) t.samples more.0
    where
      by : (vehicle : List ℕ) → list_all is_plain vehicle ≡ true → (samples : List Sample) → list_all is_plain_sample samples ≡ true → Passes (start_of road vehicle samples)
      by vehicle named [] h rest = refl
      by vehicle named (first ∷ later) h rest =
          both_pass (private_line vehicle) (start_lines road first) (private_passes vehicle named) (start_lines_pass first (both (is_plain_sample first) (list_all is_plain_sample later) h).0) rest

  group_read : (tick : ℕ) (t : Trace) → tick < 2 ^ 32 → is_plain_trace t ≡ true → (rest : List ℕ) → (read rest).corners ≡ []
      → read (group road tick t ++ rest) ≡ record { corners = []; later = trajectory road tick t ∷ (read rest).later }
  unfolding group
  group_read tick t small h rest none =
      let parts = both (is_written t.path.steps) (list_all is_plain_sample t.samples && nat_lt (length t.samples) (2 ^ 64)) h in
      let more = both (list_all is_plain_sample t.samples) (nat_lt (length t.samples) (2 ^ 64)) parts.1 in
      let vehicle = path_text t.path.steps in
      let named = path_plain t.path.steps parts.0 in
      let lines = concat (timed (vertex_line road) tick 0 t.samples) in
      let less = times_fit tick (length t.samples) small (ltb-true (length t.samples) (2 ^ 64) more.1) in
      ap read (append_assoc (group_line vehicle ++ actor_line vehicle ++ part_text Part.Event) (trajectory_line vehicle ++ part_text Part.Shape ++ lines ++ part_text Part.Followed) rest)
      ∙ both_pass (group_line vehicle ++ actor_line vehicle) (part_text Part.Event)
      (both_pass (group_line vehicle) (actor_line vehicle) (group_passes vehicle named) (actor_passes vehicle named)) (part_passes Part.Event)
      ((trajectory_line vehicle ++ part_text Part.Shape ++ lines ++ part_text Part.Followed) ++ rest)
      ∙ ap read (four (trajectory_line vehicle) (part_text Part.Shape) lines (part_text Part.Followed) rest)
      ∙ trajectory_read vehicle named (part_text Part.Shape ++ (lines ++ (part_text Part.Followed ++ rest)))
      ∙ ap (λ r. record { corners = []; later = record { vehicle = vehicle; corners = r.corners } ∷ r.later })
      (part_passes Part.Shape (lines ++ (part_text Part.Followed ++ rest))
      ∙ corners_read tick 0 t.samples less more.0 (part_text Part.Followed ++ rest)
      ∙ ap (λ r. record { corners = timed (corner road) tick 0 t.samples ++ r.corners; later = r.later }) (part_passes Part.Followed rest)
      ∙ (λ i. record { corners = timed (corner road) tick 0 t.samples ++ none i; later = (read rest).later })
      ∙ (λ i. record { corners = append-nil (timed (corner road) tick 0 t.samples) i; later = (read rest).later }))
    where
      four : (a b c d e : List ℕ) → (a ++ b ++ c ++ d) ++ e ≡ a ++ (b ++ (c ++ (d ++ e)))
      four a b c d e = simp append_assoc

  -- ---- files

  abbrev driven : List ℕ → Trace → Bool
  driven left t = not (is_left left t)

  groups_read : (tick : ℕ) (left : List ℕ) → tick < 2 ^ 32 → (traces : List Trace) → list_all is_plain_trace traces ≡ true → (rest : List ℕ) → (read rest).corners ≡ []
      → read (flat_map (driven_group road left tick) traces ++ rest)
      ≡ record { corners = []; later = map (trajectory road tick) (filter (driven left) traces) ++ (read rest).later }
  groups_read tick left small [] h rest none = λ i. record { corners = none i; later = (read rest).later }
  groups_read tick left small (t ∷ later) h rest none =
      let parts = both (is_plain_trace t) (list_all is_plain_trace later) h in
      let groups = flat_map (driven_group road left tick) later in
      ap read (append_assoc (driven_group road left tick t) groups rest)
      ∙ by (is_left left t) (groups ++ rest) (filter (driven left) later) (read rest).later (groups_read tick left small later parts.1 rest none) (group_read tick t small parts.0 (groups ++ rest))
    where
      by : (b : Bool) (onward : List ℕ) (kept : List Trace) (more : List Trajectory)
          → read onward ≡ record { corners = []; later = map (trajectory road tick) kept ++ more }
          → ((read onward).corners ≡ [] → read (group road tick t ++ onward) ≡ record { corners = []; later = trajectory road tick t ∷ (read onward).later })
          → read (cond b [] (group road tick t) ++ onward) ≡ record { corners = []; later = map (trajectory road tick) (cond (not b) (t ∷ kept) kept) ++ more }
      by true onward kept more same first = same
      by false onward kept more same first =
          first (ap (λ r. r.corners) same)
          ∙ ap (λ r. record { corners = []; later = trajectory road tick t ∷ r.later }) same

  entity_passes : (t : Trace) → is_plain_trace t ≡ true → Passes (entity t)
  unfolding entity
  entity_passes t h =
      let named = path_plain t.path.steps (both (is_written t.path.steps) (list_all is_plain_sample t.samples && nat_lt (length t.samples) (2 ^ 64)) h).0 in
      both_pass (object_line (path_text t.path.steps) ++ vehicle_line (path_text t.path.steps)) (part_text Part.Vehicle)
      (both_pass (object_line (path_text t.path.steps)) (vehicle_line (path_text t.path.steps)) (object_passes (path_text t.path.steps) named) (vehicle_passes (path_text t.path.steps) named))
      (part_passes Part.Vehicle)

  stop_read : (time : ℕ) → time < 10 ^ 64 → read (part_text Part.Stop ++ end_line time ++ part_text Part.End) ≡ record { corners = []; later = [] }
  stop_read time less =
      ap read (sym (append-nil (part_text Part.Stop ++ end_line time ++ part_text Part.End)))
      ∙ both_pass (part_text Part.Stop ++ end_line time) (part_text Part.End)
      (both_pass (part_text Part.Stop) (end_line time) (part_passes Part.Stop)
      (λ rest. line_read (codes "            <SimulationTimeCondition value=\"") (fixed 3 time) (codes "\" rule=\"greaterOrEqual\"/>") refl
      (plain_line (fixed 3 time) (fixed_plain 3 time (omega arith) (omega arith))) refl rest))
      (part_passes Part.End) []

  file_read : (left : List ℕ) (run : Run) → is_plain_run run ≡ true
      → read_xosc (xosc_text road left run) ≡ map (trajectory road run.tick) (filter (driven left) run.traces)
  file_read left run h =
      let parts = both (nat_lt run.tick (2 ^ 32) && nat_lt run.end (2 ^ 32)) (list_all is_plain_trace run.traces) h in
      let small = both (nat_lt run.tick (2 ^ 32)) (nat_lt run.end (2 ^ 32)) parts.0 in
      let tick = ltb-true run.tick (2 ^ 32) small.0 in
      let groups = flat_map (driven_group road left run.tick) run.traces in
      let stop = part_text Part.Stop ++ end_line (run.end * run.tick) ++ part_text Part.End in
      let stopped = stop_read (run.end * run.tick) (ends_fit run.end run.tick (ltb-true run.end (2 ^ 32) small.1) tick) in
      ap (λ r. r.later)
      (ap read (four (part_text Part.Head ++ flat_map entity run.traces) (part_text Part.Storyboard ++ flat_map (start road) run.traces) (part_text Part.Story) groups stop)
      ∙ both_pass (part_text Part.Head) (flat_map entity run.traces) (part_passes Part.Head) (all_pass entity is_plain_trace entity_passes run.traces parts.1) _
      ∙ both_pass (part_text Part.Storyboard) (flat_map (start road) run.traces) (part_passes Part.Storyboard) (all_pass (start road) is_plain_trace start_passes run.traces parts.1) _
      ∙ part_passes Part.Story (groups ++ stop)
      ∙ groups_read run.tick left tick run.traces parts.1 stop (ap (λ r. r.corners) stopped)
      ∙ (λ i. record { corners = []; later = map (trajectory road run.tick) (filter (driven left) run.traces) ++ (stopped i).later })
      ∙ (λ i. record { corners = []; later = append-nil (map (trajectory road run.tick) (filter (driven left) run.traces)) i }))
    where
      four : (a b c d e : List ℕ) → ((a ++ b) ++ (c ++ d)) ++ e ≡ a ++ (b ++ (c ++ (d ++ e)))
      four a b c d e = simp append_assoc

pub xosc_back : (road : Road) (left : List ℕ) (run : Run) → is_plain_road road ≡ true → is_plain_run run ≡ true
    → read_xosc (xosc_text road left run) ≡ map (trajectory road run.tick) (filter (λ t. not (is_left left t)) run.traces)
xosc_back road left run wide h =
    let parts = both (nat_lt road.lanes (2 ^ 32)) (nat_lt road.lane_width (2 ^ 32) && nat_lt road.metres (2 ^ 32)) wide in
    let more = both (nat_lt road.lane_width (2 ^ 32)) (nat_lt road.metres (2 ^ 32)) parts.1 in
    file_read road (ltb-true road.lanes (2 ^ 32) parts.0) (ltb-true road.lane_width (2 ^ 32) more.0) left run h
