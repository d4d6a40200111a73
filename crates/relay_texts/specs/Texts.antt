-- What a relay prints of its links and ports.
use Rattle.std.specs.Prelude.{ℕ, List, ◌++◌, codes}
use Rattle.std.specs.Fmt.{decimal}
use Rattle.relay_hub.specs.declared.news.Why.{Why}
use Rattle.relay_hub.specs.declared.news.Why.TheVariants.{Ended, Fault, Silent}
use Rattle.relay_texts.specs.declared.counts.PortCounts.{PortCounts}

-- why a link closed: its other end closed it, a read or a write failed, or its peer was silent for too long
abbrev pub why_word : Why → List ℕ
why_word Ended = codes "ended"
why_word Fault = codes "fault"
why_word Silent = codes "silent"

-- `link L port P`
abbrev pub link_text : (link port : ℕ) → List ℕ
link_text link port = codes "link " ++ (decimal link ++ (codes " port " ++ decimal port))

-- `link L port P open`
abbrev pub opened_line : (link port : ℕ) → List ℕ
opened_line link port = link_text link port ++ codes " open\n"

-- `link L port P closed WHY`
abbrev pub closed_line : (link port : ℕ) → Why → List ℕ
closed_line link port why = link_text link port ++ (codes " closed " ++ (why_word why ++ codes "\n"))

-- `link refused port P`
abbrev pub refused_line : ℕ → List ℕ
refused_line port = codes "link refused port " ++ (decimal port ++ codes "\n")

-- `port P waits`
abbrev pub waits_line : ℕ → List ℕ
waits_line port = codes "port " ++ (decimal port ++ codes " waits\n")

-- `port P links N read BYTES skipped N`
abbrev pub read_text : ℕ → PortCounts → List ℕ
read_text port counts =
    codes "port " ++ (decimal port ++ (codes " links "
    ++ (decimal counts.links ++ (codes " read " ++ (decimal counts.read
    ++ (codes " skipped " ++ decimal counts.skipped))))))

-- ` admitted N refused N written BYTES dropped N`
abbrev pub frames_text : PortCounts → List ℕ
frames_text counts =
    codes " admitted " ++ (decimal counts.admitted ++ (codes " refused " ++ (decimal counts.refused
    ++ (codes " written " ++ (decimal counts.written ++ (codes " dropped " ++ decimal counts.dropped))))))

abbrev pub counts_line : ℕ → PortCounts → List ℕ
counts_line port counts = read_text port counts ++ (frames_text counts ++ codes "\n")

abbrev pub journal_fault : List ℕ
journal_fault = codes "journal fault\n"

abbrev pub log_fault : List ℕ
log_fault = codes "log fault\n"

-- `turns spent N`
abbrev pub turns_line : ℕ → List ℕ
turns_line turns = codes "turns spent " ++ (decimal turns ++ codes "\n")
