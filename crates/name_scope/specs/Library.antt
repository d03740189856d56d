-- The text of the library.
use Rattle.std.specs.Prelude.{ℕ, List, [], ◌∷◌, ◌++◌, flat_map, codes}

abbrev pub library_lines : List (List ℕ)
library_lines =
    codes "type length is SI(m: 1)"
    ∷ codes "type time is SI(s: 1)"
    ∷ codes "type speed is SI(m: 1, s: -1)"
    ∷ codes "type acceleration is SI(m: 1, s: -2)"
    ∷ codes "unit m of length is SI(m: 1)"
    ∷ codes "unit km of length is SI(m: 1, factor: 1000)"
    ∷ codes "unit s of time is SI(s: 1)"
    ∷ codes "unit ms of time is SI(s: 1, factor: 0.001)"
    ∷ codes "unit min of time is SI(s: 1, factor: 60)"
    ∷ codes "unit mps of speed is SI(m: 1, s: -1)"
    ∷ codes "unit kph of speed is SI(m: 1, s: -1, factor: 0.277777778)"
    ∷ codes "unit mpsps of acceleration is SI(m: 1, s: -2)"
    ∷ codes "actor vehicle:"
    ∷ codes "    max_speed: speed = 50mps with:"
    ∷ codes "        keep(it in [0mps..100mps])"
    ∷ codes "    max_acceleration: acceleration = 10mpsps with:"
    ∷ codes "        keep(it in [0mpsps..20mpsps])"
    ∷ codes "action vehicle.drive"
    ∷ []

-- each line is ended by a line feed
abbrev pub library_source : List ℕ
library_source = flat_map (λ line. line ++ 10 ∷ []) library_lines
