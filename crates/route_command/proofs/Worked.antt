-- Lines as a person would write them, computed from the definitions.
use Rattle.std.proofs.Common.{◌≡◌, ℕ, Bool, true, false, List, [], ◌∷◌, Option, Some, None, codes, refl}
use Rattle.std.specs.Fmt.{digits}
use Rattle.mav_frame.specs.Packet.{Packet, SignatureBlock}
use Rattle.mav_sign.specs.declared.admission.Admit.TheVariants.{Admitted, Unsigned, NotLater}
use Rattle.link_table.specs.Routing.{no_ways}
use Rattle.mav_router.specs.declared.entries.Entry.{Entry}
use Rattle.mav_router.specs.declared.ends.PortEnd.{PortEnd}
use Rattle.mav_router.specs.declared.ends.How.TheVariants.{Ended, Failed, Turns}
use Rattle.route_command.specs.Texts.{route_text}

abbrev signed : ℕ → Option SignatureBlock
signed stamp = Some (record { link = 0; stamp = stamp; sig = [] })

abbrev packet : (sys comp id : ℕ) → Option SignatureBlock → Packet
packet sys comp id block = record {
  old = false;
  compat = 0;
  seq = 0;
  from = record { sys = sys; comp = comp };
  id = id;
  payload = [];
  check = 0;
  block = block;
}

abbrev ways_to : (first second third : Bool) → List Bool
ways_to first second third = first ∷ second ∷ third ∷ false ∷ false ∷ false ∷ false ∷ false ∷ []

abbrev entries : List Entry
entries =
    record { port = 1; frame = packet 1 1 0 (signed 1); admit = Admitted; ways = ways_to false true true } ∷
    record { port = 2; frame = packet 255 190 44 (signed 1); admit = Admitted; ways = ways_to true false false } ∷
    record { port = 3; frame = packet 255 190 44 (signed 1); admit = NotLater 1; ways = no_ways } ∷
    record { port = 2; frame = packet 255 190 44 (signed 2); admit = Admitted; ways = no_ways } ∷
    record { port = 2; frame = packet 1 1 0 None; admit = Unsigned; ways = no_ways } ∷ []

abbrev ends : List PortEnd
ends =
    record { read = 120; skipped = 0; written = 30; how = Ended } ∷
    record { read = 0; skipped = 0; written = 0; how = Failed } ∷
    record { read = 68; skipped = 3; written = 34; how = Turns 5 } ∷ []

-- a broadcast, one for a node, a repeated one, one for nobody, an unsigned one; and three ports
pub lines : route_text entries ends ≡ codes
    "1 1.1/0 1 0 to 2,3\n2 255.190/0 1 44 to 1\n3 255.190/0 1 44 refused 3\n2 255.190/0 2 44 to -\n2 1.1/0 0 0 refused 1\nport 1 read 120 skipped 0 written 30 ended\nport 2 read 0 skipped 0 written 0 failed\nport 3 read 68 skipped 3 written 34 turns\n"
unfolding digits
lines = refl
