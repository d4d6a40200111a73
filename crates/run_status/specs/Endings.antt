-- How a run ends: its status, and the text of the status.
use Rattle.std.specs.Prelude.{ℕ, List, [], ◌++◌, codes, Option, Some, None}
use Rattle.std.specs.Fmt.{decimal}
use Rattle.scenario_lines.specs.declared.faults.Reason.{Reason as LineReason}
use Rattle.scenario_lines.specs.declared.faults.Reason.TheVariants.{Long, Word, Later, Count, Number, Node, Kind, Hex}
use Rattle.scenario_lines.specs.declared.faults.Reason.TheVariants.{Twice, Range, Draft, Clock}
use Rattle.run_status.specs.declared.input_errors.Place.{Place}
use Rattle.run_status.specs.declared.input_errors.Place.TheVariants.{Line as AtLine, Key as KeyPlace, Definitions}
use Rattle.run_status.specs.declared.input_errors.Place.TheVariants.{Operation, Store, Fence, Mission}
use Rattle.run_status.specs.declared.input_errors.Reason.{Reason}
use Rattle.run_status.specs.declared.input_errors.Reason.TheVariants.{Line as OfLine, Key, Json, Shape, FieldType}
use Rattle.run_status.specs.declared.input_errors.Reason.TheVariants.{Name, TwiceId, TwiceName, Layout, TooMany}
use Rattle.run_status.specs.declared.input_errors.Reason.TheVariants.{Refused, Kept, Plan}
use Rattle.run_status.specs.declared.input_errors.Bound.{Bound}
use Rattle.run_status.specs.declared.input_errors.Bound.TheVariants.{Lines, Frames, Drones, Stations, Restarts}
use Rattle.run_status.specs.declared.input_errors.Bound.TheVariants.{DefinitionBytes, InputBytes, Entries}
use Rattle.run_status.specs.declared.input_errors.InputError.{InputError}
use Rattle.run_status.specs.declared.input_errors.InputError.TheVariants.{Bad, AtLimit, StampsSpent}
use Rattle.run_status.specs.declared.live_ends.LiveEnd.{LiveEnd}
use Rattle.run_status.specs.declared.live_ends.LiveEnd.TheVariants.{RefusedWith, NoAnswer, StoreFault, PortTurns}
use Rattle.run_status.specs.declared.live_ends.LiveEnd.TheVariants.{PortFault}
use Rattle.run_status.specs.declared.run_ends.RunEnd.{RunEnd}
use Rattle.run_status.specs.declared.run_ends.RunEnd.TheVariants.{Usage, Stopped, ReadFault, WriteFault, NoMemory}
use Rattle.run_status.specs.declared.run_ends.RunEnd.TheVariants.{TurnsSpent, Live}

abbrev pub line_word : LineReason → List ℕ
line_word Long = codes "long"
line_word Word = codes "word"
line_word Later = codes "later"
line_word Count = codes "count"
line_word Number = codes "number"
line_word Node = codes "node"
line_word Kind = codes "kind"
line_word Hex = codes "hex"
line_word Twice = codes "twice"
line_word Range = codes "range"
line_word Draft = codes "draft"
line_word Clock = codes "clock"

abbrev pub reason_word : Reason → List ℕ
reason_word (OfLine reason) = line_word reason
reason_word Key = codes "key"
reason_word Json = codes "json"
reason_word Shape = codes "shape"
reason_word FieldType = codes "type"
reason_word Name = codes "name"
reason_word TwiceId = codes "twice id"
reason_word TwiceName = codes "twice name"
reason_word Layout = codes "layout"
reason_word TooMany = codes "too many"
reason_word Refused = codes "refused"
reason_word Kept = codes "kept"
reason_word Plan = codes "plan"

-- a bound as it is printed, with its number
abbrev pub bound_words : Bound → List ℕ
bound_words Lines = codes "lines 100000"
bound_words Frames = codes "frames 100000"
bound_words Drones = codes "drones 16"
bound_words Stations = codes "stations 16"
bound_words Restarts = codes "restarts 1000"
bound_words DefinitionBytes = codes "bytes 16777216"
bound_words InputBytes = codes "bytes 268435456"
bound_words Entries = codes "entries 1000000"

abbrev pub place_text : Place → List ℕ
place_text (AtLine line) = codes "line " ++ decimal line
place_text KeyPlace = codes "key"
place_text Definitions = codes "definitions"
place_text Operation = codes "operation"
place_text Store = codes "store"
place_text Fence = codes "fence"
place_text Mission = codes "mission"

abbrev pub error_text : InputError → List ℕ
error_text (Bad place reason) = codes "bad "
    ++ (place_text place ++ (codes ": " ++ (reason_word reason ++ codes "\n")))
error_text (AtLimit limit) = codes "limit " ++ (bound_words limit ++ codes "\n")
error_text StampsSpent = codes "stamps spent\n"

abbrev pub error_code : InputError → ℕ
error_code (Bad place reason) = 3
error_code (AtLimit limit) = 6
error_code StampsSpent = 13

-- the ends of runs over ports
abbrev pub live_code : LiveEnd → ℕ
live_code (RefusedWith code) = 8
live_code (NoAnswer ticks) = 9
live_code StoreFault = 10
live_code (PortTurns turns) = 11
live_code PortFault = 12

abbrev pub live_text : LiveEnd → List ℕ
live_text (RefusedWith code) = codes "refused " ++ (decimal code ++ codes "\n")
live_text (NoAnswer ticks) = codes "no answer " ++ (decimal ticks ++ codes "\n")
live_text StoreFault = codes "store fault\n"
live_text (PortTurns turns) = codes "turns spent " ++ (decimal turns ++ codes "\n")
live_text PortFault = codes "port fault\n"

-- the status of a run that was done, or that halted
abbrev pub code_of : Option RunEnd → ℕ
code_of None = 0
code_of (Some Usage) = 2
code_of (Some (Stopped stop)) = error_code stop
code_of (Some ReadFault) = 4
code_of (Some WriteFault) = 5
code_of (Some NoMemory) = 7
code_of (Some TurnsSpent) = 11
code_of (Some (Live end)) = live_code end

-- what is printed after the report
abbrev pub text_of : RunEnd → List ℕ
text_of Usage = codes "usage\n"
text_of (Stopped stop) = error_text stop
text_of ReadFault = codes "read fault\n"
text_of WriteFault = []
text_of NoMemory = []
text_of TurnsSpent = codes "turns spent 1000000\n"
text_of (Live end) = live_text end
