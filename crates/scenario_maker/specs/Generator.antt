-- The scenario that `make` generates from a number, line by line.
use Rattle.std.specs.Prelude.{ℕ, zero, suc, ◌+◌, ◌*◌, ◌/◌, ◌%◌, ◌^◌, ◌==◌, if◌then◌else◌, List, [], ◌∷◌, ◌++◌, codes}
use Rattle.std.specs.Fmt.{decimal}
use Rattle.scenario_maker.specs.declared.rounds.Course.{Course}
use Rattle.scenario_maker.specs.declared.rounds.Course.TheVariants.{Straight, Cancelled, Ticked, Repeated}
use Rattle.scenario_maker.specs.declared.rounds.Round.{Round}

-- ---- draws

-- the generator's state after one more draw, and what that draw gives: a number below 32,768
abbrev pub next : ℕ → ℕ
next s = (s * 1103515245 + 12345) % 2 ^ 31

abbrev pub drawn : ℕ → ℕ
drawn s = s / 65536

-- the state after so many draws
abbrev pub after : ℕ → ℕ → ℕ
after zero s = s
after (suc n) s = next (after n s)

-- what a round does after its `begin` line
abbrev pub course_of : ℕ → Course
course_of c = if c == 0 then Straight else if c == 1 then Cancelled else if c == 2 then Ticked else Repeated

-- a round by six draws, in this order: the station and the drone, each from 0; how many items; what it does; how many
-- frames its first flow gives; and the number of the frame that may be delivered once more
abbrev pub round_from : ℕ → Round
round_from s = record {
  station = drawn (after 1 s) % 4;
  drone = drawn (after 2 s) % 4;
  items = 1 + drawn (after 3 s) % 25;
  course = course_of (drawn (after 4 s) % 4);
  first = drawn (after 5 s) % 60;
  again = 1 + drawn (after 6 s) % 1000;
}

-- ---- lines

-- drones 1 to 4, and stations 251 to 254
abbrev pub first_lines : List (List ℕ)
first_lines =
    codes "drone 1" ∷ codes "drone 2" ∷ codes "drone 3" ∷ codes "drone 4"
    ∷ codes "station 251 190" ∷ codes "station 252 190" ∷ codes "station 253 190" ∷ codes "station 254 190" ∷ []

abbrev pub station_word : Round → List ℕ
station_word x = decimal (251 + x.station) ++ codes ".190"

abbrev pub drone_word : Round → List ℕ
drone_word x = decimal (1 + x.drone) ++ codes ".1"

-- the items of round `r`, whose places grow with its number
abbrev pub items_line : ℕ → Round → List ℕ
items_line r x =
    codes "items " ++ decimal x.items ++ codes " 6 16 " ++ decimal (1000 * r) ++ codes " " ++ decimal (2000 * r)

abbrev pub begin_line : Round → List ℕ
begin_line x = codes "begin " ++ station_word x ++ codes " " ++ drone_word x ++ codes " mission"

abbrev pub flow_line : ℕ → List ℕ
flow_line k = codes "flow " ++ decimal k

abbrev pub cancel_line : Round → List ℕ
cancel_line x = codes "cancel " ++ station_word x

abbrev pub tick_line : Round → List ℕ
tick_line x = codes "tick " ++ station_word x

abbrev pub deliver_line : Round → List ℕ
deliver_line x = codes "deliver " ++ decimal x.again ++ codes " " ++ drone_word x

-- what comes after its `begin` line
abbrev pub course_lines : Round → Course → List (List ℕ)
course_lines x Straight = flow_line 200 ∷ []
course_lines x Cancelled = flow_line x.first ∷ cancel_line x ∷ flow_line 200 ∷ []
course_lines x Ticked =
    flow_line x.first ∷ tick_line x ∷ tick_line x ∷ tick_line x ∷ tick_line x ∷ tick_line x ∷ flow_line 200 ∷ []
course_lines x Repeated = flow_line x.first ∷ deliver_line x ∷ flow_line 200 ∷ []

abbrev pub round_lines : ℕ → Round → List (List ℕ)
round_lines r x = codes "empty" ∷ items_line r x ∷ begin_line x ∷ course_lines x x.course

-- so many rounds from round `r` on, from this state of the generator
abbrev pub lines_from : ℕ → ℕ → ℕ → List (List ℕ)
lines_from zero r s = []
lines_from (suc more) r s = round_lines r (round_from s) ++ lines_from more (r + 1) (after 6 s)

unfoldable pub rounds : ℕ
rounds = 200

abbrev pub lines_of : ℕ → List (List ℕ)
lines_of number = first_lines ++ lines_from rounds 1 number

-- ---- bytes

-- each line with its LF
abbrev pub line_text : List ℕ → List ℕ
line_text line = line ++ 10 ∷ []

abbrev pub text_of : List (List ℕ) → List ℕ
text_of [] = []
text_of (line ∷ lines) = line_text line ++ text_of lines

abbrev pub scenario_text : ℕ → List ℕ
scenario_text number = text_of (lines_of number)
