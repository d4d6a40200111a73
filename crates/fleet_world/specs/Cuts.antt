-- Parts of one list of bytes, each with the name of its sender.
use Rattle.std.specs.Prelude.{ℕ, Bool, IsTrue, ◌+◌, ◌-◌, ◌≤◌, List, [], ◌∷◌, length, take, drop}
use Rattle.fleet_world.specs.declared.sent.Span.{Span}
use Rattle.mav_names.specs.declared.names.Name.{Name}
use Rattle.mav_sign.specs.Signing.{BytesVerify}
use Rattle.fleet_world.specs.WorldView.{Kept}

abbrev pub cut : List ℕ → Span → Kept
cut bytes span = (span.from, take (span.end - span.start) (drop span.start bytes))

abbrev pub cuts : List ℕ → List Span → List Kept
cuts bytes [] = []
cuts bytes (span ∷ spans) = cut bytes span ∷ cuts bytes spans

-- each lies within the bytes
abbrev pub AreWithin : List ℕ → List Span → Type 0
AreWithin bytes [] = Unit {0}
AreWithin bytes (span ∷ spans) = (span.start ≤ span.end) × (span.end ≤ length bytes) × AreWithin bytes spans

-- those that are said to be signed are frames that verify under the key
abbrev pub AreSigned : List ℕ → List ℕ → List Span → Type 0
AreSigned key bytes [] = Unit {0}
AreSigned key bytes (span ∷ spans) = (IsTrue span.signed → BytesVerify key (cut bytes span).1)
    × AreSigned key bytes spans

-- the part that a frame takes after all bytes
abbrev pub span_after : Name → Bool → List ℕ → List ℕ → Span
span_after from signed bytes frame = record {
  from = from;
  start = length bytes;
  end = length bytes + length frame;
  signed = signed;
}
