-- Flights of a simulated drone: over a mission of 25 items, to the ends of 32 bits, and home.
use Rattle.std.specs.Prelude.{ℕ, ℤ, pos, negsuc, zero, suc, ◌≡◌, ◌+◌, ◌-◌, ◌^◌, List, [], ◌∷◌, ◌++◌, Option, Some}
use Rattle.plan_items.specs.declared.items.Item.{Item}
use Rattle.plan_items.specs.declared.actions.Action.TheVariants.{Arm, Start, Return}
use Rattle.drone_sim.specs.declared.courses.Course.TheVariants.{Resting, Returning}
use Rattle.drone_sim.specs.Moves.{towards}
use Rattle.drone_sim.specs.Sim.{SimState, new_sim, acts, changes, sim_tick}

abbrev pub item : ℕ → ℕ → ℤ → ℤ → Item
item frame command x y = record {
  frame = frame;
  command = command;
  current = 0;
  autocontinue = 1;
  p = 0 ∷ 0 ∷ 0 ∷ 0 ∷ [];
  x = x;
  y = y;
  z = 0;
}

-- so many items, whose x goes up by one
abbrev pub in_line : ℕ → ℕ → ℕ → ℕ → List Item
in_line zero frame command x = []
in_line (suc more) frame command x = item frame command (pos x) (pos 0) ∷ in_line more frame command (x + 1)

-- it takes off, flies by twelve points, takes eleven pictures, and lands at the last point
abbrev pub a_day : List Item
a_day = item 6 22 (pos 1000) (pos 0) ∷ (in_line 12 6 16 2000 ++ in_line 11 2 2000 0) ++ item 6 21 (pos 2011) (pos 0)
    ∷ []

abbrev pub home_at : ℤ → ℤ → SimState
home_at x y = new_sim (record { x = x; y = y })

-- armed and started
abbrev pub started : SimState → SimState
started s = acts (acts s Arm) Start

abbrev pub after : ℕ → SimState → List Item → ℕ → SimState
after zero s items step = s
after (suc n) s items step = (sim_tick (after n s items step) items step).sim

-- what each of some ticks reaches
abbrev pub reached : ℕ → SimState → List Item → ℕ → List (Option ℕ)
reached zero s items step = []
reached (suc n) s items step = (sim_tick s items step).reached ∷ reached n (sim_tick s items step).sim items step

-- the numbers from one on
abbrev pub numbers : ℕ → ℕ → List (Option ℕ)
numbers zero n = []
numbers (suc more) n = Some n ∷ numbers more (n + 1)

-- the least and the greatest number of 32 bits
abbrev pub least : ℤ
least = negsuc 2147483647

abbrev pub greatest : ℤ
greatest = pos 2147483647

-- a mission of one point
abbrev pub one_point : ℤ → ℤ → List Item
one_point x y = item 6 16 x y ∷ []

-- a picture, by a drone that has taken that many
abbrev pub pictured : ℕ → SimState
pictured count = (sim_tick (started (record (home_at (pos 0) (pos 0)) { captures = count }))
    (item 2 2000 (pos 0) (pos 0) ∷ []) 1000).sim

-- it has landed at the last point
abbrev pub on_the_ground : SimState
on_the_ground = record (home_at (pos 0) (pos 0)) { position = record { x = pos 2011; y = pos 0 }; captures = 11 }

-- an armed drone at a position away from home, which is asked to return
abbrev pub away : SimState
away = acts (record (acts (home_at (pos 0) (pos 0)) Arm) { position = record { x = pos 1500; y = negsuc 299 } }) Return

pub record WorkedFlights : Type 0 where
  -- a day's work: an item in each of 25 ticks, and then it rests on the ground
  pub day : reached 25 (started (home_at (pos 0) (pos 0))) a_day 1000 ≡ numbers 25 0
  pub landed : after 25 (started (home_at (pos 0) (pos 0))) a_day 1000 ≡ on_the_ground
  pub stays : after 26 (started (home_at (pos 0) (pos 0))) a_day 1000 ≡ on_the_ground
  -- from one end of 32 bits to the other, in one tick and in three
  pub up : towards (2 ^ 32 - 1) least greatest ≡ greatest
  pub down : towards (2 ^ 32 - 1) greatest least ≡ least
  pub nearly : towards (2 ^ 32 - 2) least greatest ≡ pos 2147483646
  pub nearly_down : towards (2 ^ 32 - 2) greatest least ≡ negsuc 2147483646
  pub across : (after 1 (started (home_at least greatest)) (one_point greatest least) (2 ^ 31)).position
      ≡ record { x = pos 0; y = negsuc 0 }
  pub whole : after 2 (started (home_at least greatest)) (one_point greatest least) (2 ^ 31)
      ≡ record {
        home = record { x = least; y = greatest };
        position = record { x = greatest; y = least };
        course = Resting;
        captures = 0;
      }
  pub stays_there : (after 3 (started (home_at greatest least)) (one_point greatest least) (2 ^ 32 - 1)).position
      ≡ record { x = greatest; y = least }
  -- a step of 0 acts as 1
  pub slow : (after 2 (started (home_at (pos 0) (pos 0))) (one_point (negsuc 4) (pos 5)) 0).position
      ≡ record { x = negsuc 1; y = pos 2 }
  -- the count of pictures stays at the maximum of its type
  pub full : (pictured (2 ^ 32 - 2)).captures ≡ 2 ^ 32 - 1
  pub stays_full : (pictured (2 ^ 32 - 1)).captures ≡ 2 ^ 32 - 1
  -- it returns, also if its mission changes, and disarms there; at home it disarms at the next tick
  pub home : after 2 (changes away) a_day 1000 ≡ home_at (pos 0) (pos 0)
  pub not_yet : (after 1 (changes away) a_day 1000).course ≡ Returning
  pub at_home : after 1 (acts (acts (home_at (pos 7) (pos 8)) Arm) Return) [] 1000 ≡ home_at (pos 7) (pos 8)
  -- a change of the mission stops it where it is, and it doesn't go on by itself
  pub stopped : after 3 (changes (after 2 (started (home_at (pos 0) (pos 0))) a_day 1000)) a_day 1000
      ≡ record (home_at (pos 0) (pos 0)) { position = record { x = pos 2000; y = pos 0 }; course = Resting }
