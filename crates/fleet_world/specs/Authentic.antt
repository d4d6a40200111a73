-- Scenarios whose foreign bytes bring nothing that a node hadn't signed: each frame in a `noise` line that verifies
-- under the key had been sent before that line, with the same bytes. That is what signatures are trusted for.
use Rattle.std.specs.Prelude.{ℕ, ◌≡◌, ◌+◌, ◌⊎◌, nat_lt, Bool, true, false, if◌then◌else◌, List, [], ◌∷◌, length}
use Rattle.std.specs.Prelude.{slice_get, Option, Some, None}
use Rattle.mav_profile.specs.Messages.{extras_of}
use Rattle.mav_profile.specs.Profile.{profile_definitions}
use Rattle.mav_frame.specs.Packet.{Packet}
use Rattle.mav_frame.specs.Encoding.{encoding}
use Rattle.mav_frame.specs.FinalParse.{final_parse}
use Rattle.mav_sign.specs.Signing.{Verifies}
use Rattle.mav_sign.specs.Endpoints.{frames_of}
use Rattle.scenario_lines.specs.declared.faults.Reason.{Reason}
use Rattle.scenario_lines.specs.declared.lines.Line.{Line}
use Rattle.scenario_lines.specs.declared.lines.Line.TheVariants.{Noise}
use Rattle.scenario_lines.specs.Grammar.{line_of, most_line_bytes}
use Rattle.scenario_lines.specs.Reasons.{reason_against}
use Rattle.fleet_world.specs.WorldState.{WorldState, context_of}
use Rattle.fleet_world.specs.Scenario.{ScenarioError, Played, at_start, line_played, lines_played}
use Rattle.scenario_lines.specs.FileLines.{most_lines, whole_lines, unfinished, without_cr}

-- one of these frames has the same bytes
abbrev pub WasSent : List Packet → Packet → Type 0
WasSent [] p = ⊥
WasSent (q ∷ qs) p = (encoding q ≡ encoding p) ⊎ WasSent qs p

-- each frame of the bytes that verifies was sent before
abbrev pub AuthenticBytes : WorldState → List ℕ → Type 0
AuthenticBytes s bytes =
    (index : ℕ) (p : Packet) → slice_get (frames_of (final_parse (extras_of profile_definitions) false bytes)) index
    ≡ Some p
    → Verifies s.key p p.block → WasSent s.sent p

abbrev pub AuthenticLine : WorldState → Line → Type 0
AuthenticLine s (Noise node bytes) = AuthenticBytes s bytes
AuthenticLine s _ = Unit {0}

-- what a text says, if there is no reason against it
abbrev pub line_read : List ℕ → Option Reason → Option Line
line_read text None = Some (line_of text)
line_read text (Some reason) = None

-- the line that is done at line `number`, if any: its bytes with the CR, and what they say
abbrev pub line_done : WorldState → ℕ → List ℕ → List ℕ → Option Line
line_done s number raw text =
    if nat_lt most_lines number then None
    else if nat_lt most_line_bytes (length raw) then None
    else line_read text (reason_against (context_of s) text)

abbrev pub UnlessStopped : Option ScenarioError → Type 0 → Type 0
UnlessStopped None T = T
UnlessStopped (Some stop) T = Unit {0}

-- this holds of each line, from line `number` on, with the state before it and what is done there
abbrev pub HoldsOfLines : (WorldState → Option Line → Type 0) → Played → ℕ → List (List ℕ) → Type 0
HoldsOfLines P p number [] = Unit {0}
HoldsOfLines P p number (raw ∷ more) =
    UnlessStopped p.stop (P p.state (line_done p.state number raw (without_cr raw))
    × HoldsOfLines P (line_played p number raw) (number + 1) more)

-- and of a last line without LF
abbrev pub HoldsOfLast : (WorldState → Option Line → Type 0) → Bool → Played → ℕ → List ℕ → Type 0
HoldsOfLast P false p number rest = Unit {0}
HoldsOfLast P true p number [] = Unit {0}
HoldsOfLast P true p number (b ∷ bs) = UnlessStopped p.stop (P p.state (line_done p.state number (b ∷ bs) (b ∷ bs)))

-- of the whole scenario, played under a key
pub record HoldsOfEach (P : WorldState → Option Line → Type 0) (key : List ℕ) (ended : Bool)
    (bytes : List ℕ) : Type 0 where
  pub lines : HoldsOfLines P (at_start key) 1 (whole_lines bytes)
  pub last : HoldsOfLast P ended (lines_played (at_start key) 1 (whole_lines bytes)) (length (whole_lines bytes) + 1)
      (unfinished bytes)

abbrev pub AuthenticDone : WorldState → Option Line → Type 0
AuthenticDone s None = Unit {0}
AuthenticDone s (Some line) = AuthenticLine s line

abbrev pub Authentic : (key : List ℕ) (ended : Bool) (bytes : List ℕ) → Type 0
Authentic key ended bytes = HoldsOfEach AuthenticDone key ended bytes
