-- The lines of more events.
use Rattle.std.proofs.Common.{◌≡◌, ◌≤◌, ℕ, ◌+◌, Bool, true, false, List, [], ◌∷◌, ◌++◌, length, take, map, refl, ap, ◌∙◌, arith, length-take}
use Rattle.std.proofs.lemmas.List.Sums.{sum_by-cons}
use Rattle.decode_command.specs.declared.context.DecodeContext.{DecodeContext}
use Rattle.mav_profile.specs.Messages.{definition_with}
use Rattle.mav_frame.specs.Looks.{id_at, packet_at}
use Rattle.mav_frame.specs.declared.looks.Why.{Why}
use Rattle.mav_frame.specs.declared.events.Event.{Event}
use Rattle.mav_frame.specs.declared.events.Event.TheVariants.{Frame}
use Rattle.mav_stream.specs.Spans.{skipped_for}
use Rattle.mav_text.specs.FrameText.{skip_line, skip_lines}
use Rattle.decode_command.specs.DecodeText.{event_size, frames_of, skips_of, frame_line, event_line, lines_from, bytes_in, frames_in, skips_in}
use Rattle.decode_command.specs.TellingLaws.{lines_append}

-- the line of the frame of that version at the start of some bytes
pub line_at : (known : DecodeContext) (offset : ℕ) (is_old : Bool) (b : List ℕ) → frame_line (definition_with (id_at is_old b) known.dialect) known.key offset (packet_at is_old b) ≡ event_line known offset (Frame (packet_at is_old b))
line_at known offset true b = refl
line_at known offset false b = refl

-- more lines after the first
pub lines_more : (known : DecodeContext) (given more : List Event) → lines_from known 0 (given ++ more) ≡ lines_from known 0 given ++ lines_from known (bytes_in given) more
lines_more known given more =
    let there : 0 + bytes_in given ≡ bytes_in given = omega arith in
    lines_append (event_line known) event_size 0 given more ∙ ap (λ (n : ℕ). lines_from known 0 given ++ lines_from known n more) there

-- the lines of bytes that are skipped for one reason
pub run_lines : (known : DecodeContext) (why : Why) (offset : ℕ) (bytes : List ℕ) → skip_lines offset bytes why ≡ lines_from known offset (map (skipped_for why) bytes)
run_lines known why offset [] = refl
run_lines known why offset (b ∷ bs) = ap (λ (text : List ℕ). skip_line offset b why ++ text) (run_lines known why (offset + 1) bs)

-- how many they are
pub run_length : (count : ℕ) (bytes : List ℕ) → count ≤ length bytes → count ≡ length (take count bytes)
run_length count bytes within = omega (arith, within, length-take count bytes)

-- sums over bytes that are skipped so
pub run_bytes : (why : Why) (bytes : List ℕ) → bytes_in (map (skipped_for why) bytes) ≡ length bytes
run_bytes why [] = refl
run_bytes why (b ∷ bs) = omega (arith, sum_by-cons event_size (skipped_for why b) (map (skipped_for why) bs), run_bytes why bs)

pub run_frames : (why : Why) (bytes : List ℕ) → frames_in (map (skipped_for why) bytes) ≡ 0
run_frames why [] = refl
run_frames why (b ∷ bs) = omega (arith, sum_by-cons frames_of (skipped_for why b) (map (skipped_for why) bs), run_frames why bs)

pub run_skips : (why : Why) (bytes : List ℕ) → skips_in (map (skipped_for why) bytes) ≡ length bytes
run_skips why [] = refl
run_skips why (b ∷ bs) = omega (arith, sum_by-cons skips_of (skipped_for why b) (map (skipped_for why) bs), run_skips why bs)
