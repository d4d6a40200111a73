-- What a message carries whose values fit its fields is in range.
use Rattle.std.proofs.Common.{◌≡◌, ℕ, ℤ, ◌^◌, ◌<◌, [], ◌∷◌, length, IfSome, refl, subst, arith}
use Rattle.std.specs.Prelude.{All, FitsSigned}
use Rattle.std.specs.Int.{w32, cast_signed, cast_unsigned}
use Rattle.std.proofs.lemmas.Int.{ints}
use Rattle.std.proofs.lemmas.List.Elements.{All-nil, All-cons, All-head}
use Rattle.field_layout.specs.Payload.{FitsLayout}
use Rattle.mav_messages.specs.declared.messages.Message.{Message}
use Rattle.mav_messages.specs.declared.messages.Message.TheVariants.{Heartbeat, Ping, ParamRequestRead, ParamRequestList, ParamValue, ParamSet, GlobalPositionInt, MissionCurrent, MissionRequestList, MissionCount, MissionClearAll, MissionItemReached, MissionAck, MissionRequestInt, MissionItemInt, CommandLong, CommandAck, FileTransferProtocol, Statustext}
use Rattle.mav_messages.specs.Messages.{definition_of, values_of}
use Rattle.mav_messages.specs.Plans.{plan_of}
use Rattle.plan_ranges.specs.Ranges.{Is8, Is32, NameInRange, InRange, SignsFit}

-- the word of a field of one value
word : (bound n : ℕ) → (length (n ∷ []) ≡ 1) × All (λ w. w < bound) (n ∷ []) → n < bound
word bound n h = All-head (λ w. w < bound) n [] h.1

node : (sys comp : ℕ) → Is8 sys → Is8 comp → NameInRange (record { sys = sys; comp = comp })
node sys comp s c = record { sys = s; comp = c }

-- a number that comes back from the word of its bits
signed_number : (n : ℕ) → n < 2 ^ 32 → FitsSigned w32 (cast_signed w32 n)
signed_number n h = search (arith, ints)

comes_back : (x : ℤ) → cast_unsigned w32 x < 2 ^ 32 → cast_signed w32 (cast_unsigned w32 x) ≡ x → FitsSigned w32 x
comes_back x h back = subst (FitsSigned w32) back (signed_number (cast_unsigned w32 x) h)

four_words : (a b c d : ℕ) → Is32 a → Is32 b → Is32 c → Is32 d → All Is32 (a ∷ b ∷ c ∷ d ∷ [])
four_words a b c d ha hb hc hd =
    All-cons Is32 a (b ∷ c ∷ d ∷ []) ha (All-cons Is32 b (c ∷ d ∷ []) hb (All-cons Is32 c (d ∷ []) hc (All-cons Is32 d [] hd (All-nil Is32))))

pub readings : (message : Message) → FitsLayout (definition_of message) (values_of message) → IfSome (plan_of message) SignsFit → IfSome (plan_of message) InRange
readings (Heartbeat m) h signs = tt
readings (Ping m) h signs = (
  node m.target_system m.target_component (word 256 m.target_system h.1.1.0) (word 256 m.target_component h.1.1.1.0),
  word (2 ^ 64) m.time_usec h.0,
  word (2 ^ 32) m.seq h.1.0,
)
readings (ParamRequestRead m) h signs = tt
readings (ParamRequestList m) h signs = tt
readings (ParamValue m) h signs = tt
readings (ParamSet m) h signs = tt
readings (GlobalPositionInt m) h signs = tt
readings (MissionCurrent m) h signs = tt
readings (MissionRequestList m) h signs = (
  node m.target_system m.target_component (word 256 m.target_system h.0) (word 256 m.target_component h.1.0),
  word 256 m.mission_type h.1.1.0,
)
readings (MissionCount m) h signs = (
  node m.target_system m.target_component (word 256 m.target_system h.0) (word 256 m.target_component h.1.0),
  word 65536 m.count h.1.1.0,
  word 256 m.mission_type h.1.1.1.0,
)
readings (MissionClearAll m) h signs = (
  node m.target_system m.target_component (word 256 m.target_system h.0) (word 256 m.target_component h.1.0),
  word 256 m.mission_type h.1.1.0,
)
readings (MissionItemReached m) h signs = tt
readings (MissionAck m) h signs = (
  node m.target_system m.target_component (word 256 m.target_system h.0) (word 256 m.target_component h.1.0),
  word 256 m.ty h.1.1.0,
  word 256 m.mission_type h.1.1.1.0,
)
readings (MissionRequestInt m) h signs = (
  node m.target_system m.target_component (word 256 m.target_system h.0) (word 256 m.target_component h.1.0),
  word 65536 m.seq h.1.1.0,
  word 256 m.mission_type h.1.1.1.0,
)
readings (MissionItemInt m) h signs = (
  node m.target_system m.target_component (word 256 m.target_system h.0) (word 256 m.target_component h.1.0),
  word 65536 m.seq h.1.1.0,
  word 256 m.mission_type h.1.1.1.1.1.1.1.1.1.1.1.1.1.1.0,
  record {
    frame = word 256 m.frame h.1.1.1.0;
    command = word 65536 m.command h.1.1.1.1.0;
    current = word 256 m.current h.1.1.1.1.1.0;
    autocontinue = word 256 m.autocontinue h.1.1.1.1.1.1.0;
    four = refl;
    words = four_words m.param1 m.param2 m.param3 m.param4 (word (2 ^ 32) m.param1 h.1.1.1.1.1.1.1.0) (word (2 ^ 32) m.param2 h.1.1.1.1.1.1.1.1.0) (word (2 ^ 32) m.param3 h.1.1.1.1.1.1.1.1.1.0) (word (2 ^ 32) m.param4 h.1.1.1.1.1.1.1.1.1.1.0);
    x = comes_back m.x (word (2 ^ 32) (cast_unsigned w32 m.x) h.1.1.1.1.1.1.1.1.1.1.1.0) signs.0;
    y = comes_back m.y (word (2 ^ 32) (cast_unsigned w32 m.y) h.1.1.1.1.1.1.1.1.1.1.1.1.0) signs.1;
    z = word (2 ^ 32) m.z h.1.1.1.1.1.1.1.1.1.1.1.1.1.0;
  },
)
readings (CommandLong m) h signs = tt
readings (CommandAck m) h signs = tt
readings (FileTransferProtocol m) h signs = tt
readings (Statustext m) h signs = tt
