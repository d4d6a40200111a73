-- What `route` prints: a line for each frame that came in, and one for each port.
use Rattle.std.specs.Prelude.{ℕ, zero, suc, ◌+◌, Bool, true, false, if◌then◌else◌, List, [], ◌∷◌, ◌++◌, codes, Option}
use Rattle.std.specs.Prelude.{Some, None}
use Rattle.std.specs.List.{flat_map}
use Rattle.std.specs.Fmt.{decimal}
use Rattle.mav_names.specs.declared.names.Name.{Name}
use Rattle.mav_frame.specs.Packet.{Packet, SignatureBlock}
use Rattle.mav_sign.specs.declared.admission.Admit.{Admit}
use Rattle.mav_sign.specs.declared.admission.Admit.TheVariants.{Admitted, Unsigned, BadSignature, BelowFloor, NotLater}
use Rattle.mav_sign.specs.declared.admission.Admit.TheVariants.{TooOld, TooManyStreams}
use Rattle.link_table.specs.Routing.{has_port}
use Rattle.mav_router.specs.declared.entries.Entry.{Entry}
use Rattle.mav_router.specs.declared.ends.PortEnd.{PortEnd}
use Rattle.mav_router.specs.declared.ends.How.{How}
use Rattle.mav_router.specs.declared.ends.How.TheVariants.{Ended, Failed, Turns}

-- an unsigned frame is printed with link 0 and timestamp 0
abbrev pub link_of : Option SignatureBlock → ℕ
link_of None = 0
link_of (Some block) = block.link

abbrev pub stamp_of : Option SignatureBlock → ℕ
stamp_of None = 0
stamp_of (Some block) = block.stamp

-- so many ports from a number on, those that are in a set, parted by commas; `none` says that none was printed before
abbrev pub ports_from : Bool → List Bool → (port count : ℕ) → List ℕ
ports_from none ways port zero = if none then codes "-" else []
ports_from none ways port (suc count) =
    if has_port ways port then (if none then [] else codes ",") ++ decimal port
    ++ ports_from false ways (port + 1) count
    else ports_from none ways (port + 1) count

-- the ports of a set in their order, or a dash
abbrev pub ports_text : List Bool → List ℕ
ports_text ways = ports_from true ways 1 8

-- what became of a frame: where it went, or the code of its refusal
abbrev pub fate_text : Admit → List Bool → List ℕ
fate_text Admitted ways = codes "to " ++ ports_text ways
fate_text Unsigned ways = codes "refused 1"
fate_text BadSignature ways = codes "refused 2"
fate_text (NotLater last) ways = codes "refused 3"
fate_text (TooOld local) ways = codes "refused 4"
fate_text TooManyStreams ways = codes "refused 5"
fate_text (BelowFloor floor) ways = codes "refused 6"

-- `SYS.COMP/LINK STAMP ID`
abbrev pub source_text : Name → (link stamp id : ℕ) → List ℕ
source_text from link stamp id =
    decimal from.sys ++ (codes "." ++ (decimal from.comp
    ++ (codes "/" ++ (decimal link ++ (codes " " ++ (decimal stamp ++ (codes " " ++ decimal id)))))))

abbrev pub frame_text : Packet → List ℕ
frame_text packet = source_text packet.from (link_of packet.block) (stamp_of packet.block) packet.id

-- `PORT SYS.COMP/LINK STAMP ID to PORTS`, or `refused CODE` after the id
abbrev pub entry_line : Entry → List ℕ
entry_line entry = decimal entry.port ++ (codes " "
    ++ (frame_text entry.frame ++ (codes " " ++ (fate_text entry.admit entry.ways ++ codes "\n"))))

abbrev pub how_word : How → List ℕ
how_word Ended = codes "ended"
how_word Failed = codes "failed"
how_word (Turns turns) = codes "turns"

-- `port P read BYTES skipped N written BYTES HOW`
abbrev pub port_line : ℕ → PortEnd → List ℕ
port_line port end =
    codes "port " ++ (decimal port ++ (codes " read "
    ++ (decimal end.read ++ (codes " skipped "
    ++ (decimal end.skipped ++ (codes " written "
    ++ (decimal end.written ++ (codes " " ++ (how_word end.how ++ codes "\n")))))))))

-- the lines of ports, of which the first has a number
abbrev pub port_lines : ℕ → List PortEnd → List ℕ
port_lines port [] = []
port_lines port (end ∷ ends) = port_line port end ++ port_lines (port + 1) ends

abbrev pub entry_lines : List Entry → List ℕ
entry_lines journal = flat_map entry_line journal

-- all that is printed of a run
abbrev pub route_text : List Entry → List PortEnd → List ℕ
route_text journal ends = entry_lines journal ++ port_lines 1 ends
