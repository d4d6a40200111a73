-- Small scenarios of a drone or two and a station, by their lines.
use Rattle.std.specs.Prelude.{ℕ, Bool, true, List, [], ◌∷◌, ◌++◌, codes}
use Rattle.fleet_world.specs.Scenario.{played}
use Rattle.fleet_liveness.specs.Examples.{one_item, acknowledges}

-- the key of the bytes 0 to 31
abbrev pub the_key : List ℕ
the_key = 0 ∷ 1 ∷ 2 ∷ 3 ∷ 4 ∷ 5 ∷ 6 ∷ 7 ∷ 8 ∷ 9 ∷ 10 ∷ 11 ∷ 12 ∷ 13 ∷ 14 ∷ 15 ∷ 16 ∷ 17 ∷ 18 ∷ 19 ∷ 20 ∷ 21 ∷ 22 ∷ 23
    ∷ 24 ∷ 25 ∷ 26 ∷ 27 ∷ 28 ∷ 29 ∷ 30 ∷ 31 ∷ []

-- lines, each with its LF
abbrev pub text : List (List ℕ) → List ℕ
text [] = []
text (line ∷ lines) = line ++ 10 ∷ text lines

-- an upload of one item to the second of two drones ends installed within this flow line
abbrev pub is_installed_by : List ℕ → Bool
is_installed_by flow =
    acknowledges (played the_key true (text (codes "drone 1" ∷ codes "drone 2" ∷ codes "station 255 190" ∷ one_item
    ∷ codes "begin 255.190 2.1 mission" ∷ flow ∷ []))).events
