-- Small files, and what is written of them as a person would write it.
use Rattle.std.specs.Prelude.{ℕ, List, codes}

-- a square of 1000 by 1000 that a flight leaves to the north
abbrev pub square : List ℕ
square = codes "home 500 500\nstep 400\nticks 5\nfence\nitem 0 5001 0 0 00000000 40800000\nitem 0 5001 1000 0 00000000 40800000\nitem 0 5001 1000 1000 00000000 40800000\nitem 0 5001 0 1000 00000000 40800000\nmission\nitem 6 16 500 500\nitem 6 16 1500 500\n"

abbrev pub square_text : List ℕ
square_text = codes "0 ok\n1 outside 10\nleg 1 touches\nbreach 3 1300 500\nbreach 4 1500 500\nbreach 5 1500 500\noutside 1 legs 1 breaches 3\n"

-- an exclusion, with an item on its edge and one inside, and without its third corner
abbrev pub on_edge : List ℕ
on_edge = codes "home 2000 2000\nfence\nitem 0 5002 0 0 00000000 40400000\nitem 0 5002 1000 0 00000000 40400000\nitem 0 5002 0 1000 00000000 40400000\nmission\nitem 6 16 500 500\n"

abbrev pub on_edge_text : List ℕ
on_edge_text = codes "0 ok\nleg 0 touches\noutside 0 legs 1 breaches 0\n"

abbrev pub inside : List ℕ
inside = codes "home 2000 2000\nfence\nitem 0 5002 0 0 00000000 40400000\nitem 0 5002 1000 0 00000000 40400000\nitem 0 5002 0 1000 00000000 40400000\nmission\nitem 6 16 499 499\n"

abbrev pub inside_text : List ℕ
inside_text = codes "0 outside 11\nleg 0 touches\noutside 1 legs 1 breaches 0\n"

abbrev pub two_corners : List ℕ
two_corners = codes "home 2000 2000\nfence\nitem 0 5002 0 0 00000000 40400000\nitem 0 5002 1000 0 00000000 40400000\nmission\nitem 6 16 499 499\n"
