use Rattle.std.proofs.Common.{◌≡◌, ◌∙◌, ◌≤◌, ◌+◌, ◌-◌, ◌++◌, refl, sym, ap, subst, ℕ, List, length, take, drop, slice_range, arith, length-take}
use Rattle.mav_stream.specs.Held.{Held}
use Rattle.mav_router.specs.Runs.{Reading}
use Rattle.mav_router.proofs.Readings.{first_and_after, bytes_fed}
use Rattle.mav_router.proofs.PortSteps.{stopped_read, stopped_ended, input_read, input_idle, input_ended, scanner_ended}
use Rattle.mav_router.proofs.lanes.read_lane.Goals as goal

pub returns-in-Bytes-clause-some : goal.returns-in-Bytes-clause-some
returns-in-Bytes-clause-some g c = λ rules journal port first i.
    let lane = c.args.lane.now in
    let now = g.L.Link.state c.args.link.now in
    let new = g.L.Link.state c.read_after.new.link in
    let first_bytes = c.put_first-held.result in
    let count = c.in-Bytes.count in
    let buf = c.read_after.new.self in
    let part : List ℕ = slice_range buf first_bytes (first_bytes + 4096) in
    let got : List ℕ = take count part in
    let within : count ≤ 4096 = omega (arith, c.in-Bytes.ensures.within.1, length-take (first_bytes + 4096 - first_bytes) (drop first_bytes buf)) in
    let long : length got ≡ count = omega (arith, length-take count part, c.in-Bytes.ensures.within.1) in
    let live = i.ended ∙ c.requires.live in
    let held : take first_bytes buf ≡ lane.scanner.bytes = c.in-Bytes.ensures.first ∙ (c.put_first-held.ensures.first ∙ c.held.ensures.list) in
    let text : take (first_bytes + count) buf ≡ lane.scanner.bytes ++ got = first_and_after first_bytes count 4096 buf within ∙ ap (λ (l : List ℕ). l ++ got) held in
    record {
      bytes = i.bytes ++ got;
      reading = subst (λ (l : List ℕ). Reading rules port (i.bytes ++ got) (record lane.scanner { bytes = l }) lane.skipped journal) (sym text) (bytes_fed rules port i.bytes got lane.scanner lane.skipped journal live i.parsed.reading);
      heard = λ after held skips ended all.
          input_read rules journal after port first now new lane _ got c.requires.live i (omega (arith, long, c.in-Bytes.ensures.within.0)) (omega (arith, long, within)) (omega (arith, c.saturating_add-lane.ensures)) c.in-Bytes.ensures.idles c.in-Bytes.ensures.bytes c.in-Bytes.ensures.faults refl refl ended (omega (arith, c.saturating_add-lane-in-Bytes.ensures, long)) all;
      stops = λ after stop.
          stopped_read rules journal after port _ first now new lane got _ live i (omega (arith, long, c.in-Bytes.ensures.within.0)) (omega (arith, long, within)) (omega (arith, c.saturating_add-lane.ensures)) c.in-Bytes.ensures.idles c.in-Bytes.ensures.bytes c.in-Bytes.ensures.faults stop;
    }

pub returns-in-Idle-clause-none : goal.returns-in-Idle-clause-none
returns-in-Idle-clause-none g c = λ rules journal port first i.
    input_idle rules journal port first (g.L.Link.state c.args.link.now) (g.L.Link.state c.read_after.new.link) c.args.lane.now c.saturating_add-lane-in-Idle.result c.requires.live i (omega (arith, c.saturating_add-lane-in-Idle.ensures)) c.in-Idle.ensures.idles c.in-Idle.ensures.bytes c.in-Idle.ensures.faults

pub returns-in-End-clause-some : goal.returns-in-End-clause-some
returns-in-End-clause-some g c = λ rules journal port first i.
    let lane = c.args.lane.now in
    let now = g.L.Link.state c.args.link.now in
    let new = g.L.Link.state c.read_after.new.link in
    let first_bytes = c.put_first-held.result in
    let buf = c.read_after.new.self in
    let over = c.end.new.self in
    let held : take first_bytes buf ≡ lane.scanner.bytes = c.in-End.ensures.first ∙ (c.put_first-held.ensures.first ∙ c.held.ensures.list) in
    let text : over.bytes ≡ take first_bytes buf = ap (λ (h : Held). h.bytes) c.end.ensures.held ∙ sym held in
    let spent = c.in-End.ensures.end refl in
    record {
      bytes = i.bytes;
      reading = subst (λ (l : List ℕ). Reading rules port i.bytes (record over { bytes = l }) lane.skipped journal) text
          (scanner_ended rules port i.bytes lane.scanner over lane.skipped journal i.parsed.reading (c.end.ensures.progress _ _ i.bytes i.parsed.reading.events i.parsed.reading.progress));
      heard = λ after held skips ended all.
          input_ended rules journal after port first now new lane _ i refl c.in-End.ensures.idles c.in-End.ensures.bytes spent (c.in-End.ensures.ended refl) c.in-End.ensures.faults refl refl (ended ∙ ap (λ (h : Held). h.ended) c.end.ensures.held) refl all;
      stops = λ after stop.
          stopped_ended rules journal after port first now new lane over.ended i c.in-End.ensures.idles c.in-End.ensures.bytes spent c.in-End.ensures.faults stop;
    }
