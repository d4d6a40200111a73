-- What bytes that a link gives or takes leave of a run.
use Rattle.std.proofs.Common.{◌≡◌, ◌∙◌, ◌<◌, ◌≤◌, inl, inr, ℕ, ◌-◌, List, [], ◌∷◌, length, get_or, set, take, min, false, slice_get, Some, refl, sym, ap, subst, arith, length-set}
use Rattle.std.proofs.lemmas.Option.{get_or_from_slice_get, slice_get_within, slice_get-get_or}
use Rattle.mav_sign.specs.Kept.{Kept}
use Rattle.mav_stream.specs.Held.{Held, nothing_held}
use Rattle.mav_stream.specs.Progress.{Feeds}
use Rattle.mav_router.specs.Journal.{Rules}
use Rattle.relay_queue.specs.Queues.{next_bytes}
use Rattle.relay_rules.specs.Kept.{LinksKept, Represents}
use Rattle.relay_rules.specs.States.{LinkState, link_at}
use Rattle.relay_core.specs.Calls.{HasHeard, RunIs}
use Rattle.relay_core.specs.Flows.{Flow, no_flow}
use Rattle.relay_core.specs.Moves.{Moves, OthersKept, Stopped, Stops, gave, gave_run, held_at, no_tape, tape_at, tape_place, took, took_run, with_tape}
use Rattle.relay_core.specs.RelayRuns.{HasClosed, Hearing, Holds, HoldsSoFar, IsOpenAt, IsResting, IsRun, RelayKept, RelayRun, Sending, Tape}
use Rattle.relay_core.specs.Scans.{FeedsAt}
use Rattle.relay_core.specs.Waitings.{WaitingState, wrote}
use Rattle.relay_core.proofs.FrameSteps.{as_many, there_is}
use Rattle.relay_core.proofs.Halves.{hearing_fed, hearing_took, sending_gave, sending_wrote}
use Rattle.relay_core.proofs.Numbers.{Rising, one_place, run_rises}
use Rattle.relay_core.proofs.Places.{is_same_or, same_some, set_elsewhere, set_there}
use Rattle.relay_core.specs.Said.{Said}

-- the tape of the link itself, which has changed
own_tape : (run : RelayRun) (index : ℕ) (own link : LinkState) (flow : Flow) (tape new : Tape) → slice_get run.course.state.links index ≡ Some own → link_at run.course.state.links index ≡ own → own.number - 1 < length run.tapes → IsOpenAt (with_tape (tape_place run index) new run) index link flow tape → (new ≡ tape) × IsOpenAt run index link flow (tape_at run index)
own_tape run index own link flow tape new here at within o =
    let link_is : link ≡ own = same_some (sym o.link_is ∙ here) in
    let place : link.number - 1 ≡ tape_place run index = ap (λ (l : LinkState). l.number - 1) (link_is ∙ sym at) in
    let inside : tape_place run index < length run.tapes = subst (λ (l : LinkState). l.number - 1 < length run.tapes) (sym at) within in (
      same_some (sym (set_there run.tapes (tape_place run index) new inside) ∙ subst (λ (p : ℕ). slice_get (set run.tapes (tape_place run index) new) p ≡ Some tape) place o.tape_is),
      record {
        link_is = o.link_is;
        flow_is = o.flow_is;
        tape_is = ap (slice_get run.tapes) place ∙ slice_get-get_or run.tapes (tape_place run index) no_tape inside;
      },
    )

-- that of another one
other_tape : (run : RelayRun) (index k : ℕ) (own link : LinkState) (flow : Flow) (tape new : Tape) → Rising run.course.state.given run.course.state.links → slice_get run.course.state.links index ≡ Some own → link_at run.course.state.links index ≡ own → (k ≡ index → ⊥) → IsOpenAt (with_tape (tape_place run index) new run) k link flow tape → IsOpenAt run k link flow tape
other_tape run index k own link flow tape new r here at apart o =
    let first = r.some k link o.link_is in
    let second = r.some index own here in
    let number : own.number ≡ (link_at run.course.state.links index).number = ap (λ (l : LinkState). l.number) (sym at) in
    let other : link.number - 1 ≡ tape_place run index → ⊥ = λ e. apart (one_place run.course.state.given run.course.state.links r k index link own o.link_is here (omega (arith, e, first, second, number))) in
    record {
      link_is = o.link_is;
      flow_is = o.flow_is;
      tape_is = sym (set_elsewhere run.tapes (tape_place run index) (link.number - 1) new other) ∙ o.tape_is;
    }

closed_tape : (run : RelayRun) (index n : ℕ) (own : LinkState) (tape new : Tape) → Rising run.course.state.given run.course.state.links → slice_get run.course.state.links index ≡ Some own → link_at run.course.state.links index ≡ own → HasClosed run n → slice_get (set run.tapes (tape_place run index) new) n ≡ Some tape → slice_get run.tapes n ≡ Some tape
closed_tape run index n own tape new r here at closed there =
    let some = r.some index own here in
    let number : own.number ≡ (link_at run.course.state.links index).number = ap (λ (l : LinkState). l.number) (sym at) in
    let other : n ≡ tape_place run index → ⊥ = λ e. closed index own here (omega (arith, e, some, number)) in
    sym (set_elsewhere run.tapes (tape_place run index) n new other) ∙ there

-- a link took bytes
pub takes_run : (rules : Rules) (start : Kept) (run : RelayRun) (index count : ℕ) (old new : RelayKept) (waiting : WaitingState) → index < length old.links.links → new.links ≡ old.links → new.scanners ≡ old.scanners → slice_get old.queues index ≡ Some waiting → new.queues ≡ set old.queues index (wrote count waiting) → IsRun rules start run → Holds rules run old → RunIs rules start (took_run index (take count (next_bytes waiting.queue)) run) new
takes_run rules start run index count old new waiting within links scanners there queues is holds =
    let h = holds.so_far in
    let state = run.course.state in
    let bytes = take count (next_bytes waiting.queue) in
    let number = as_many old.links state h.links in
    let own = link_at state.links index in
    let here = there_is state.links index (omega (arith, within, number)) in
    let rises = run_rises rules start run is in
    let some = rises.some index own here in
    let most = rises.most index own here in
    let inside : own.number - 1 < length run.tapes = omega (arith, some, most, h.tapes) in
    let tape_now = took bytes (tape_at run index) in
    let queue_in = slice_get_within old.queues index waiting there in
    record {
      is_run = is;
      holds = record {
        so_far = record {
          links = subst (λ (l : LinksKept). Represents l state) (sym links) h.links;
          flows = h.flows;
          tapes = length-set run.tapes (tape_place run index) tape_now ∙ h.tapes;
          hearing = λ k link flow tape x o at.
              let at_before = subst (λ (l : List Held). slice_get l k ≡ Some x) scanners at in
              elim (is_same_or k index) [
                | inl same ↦
                    let t = own_tape run index own link flow tape tape_now here refl inside (subst (λ (j : ℕ). IsOpenAt (took_run index bytes run) j link flow tape) same o) in
                    subst (λ (y : Tape). Hearing rules flow y x) t.0 (hearing_took rules flow (tape_at run index) x bytes (h.hearing index link flow (tape_at run index) x t.1 (subst (λ (j : ℕ). slice_get old.scanners j ≡ Some x) same at_before)))
                | inr apart ↦ h.hearing k link flow tape x (other_tape run index k own link flow tape tape_now rises here refl apart o) at_before
              ];
          sending = λ k link flow tape w o at.
              let at_now = subst (λ (l : List WaitingState). slice_get l k ≡ Some w) queues at in
              elim (is_same_or k index) [
                | inl same ↦
                    let t = own_tape run index own link flow tape tape_now here refl inside (subst (λ (j : ℕ). IsOpenAt (took_run index bytes run) j link flow tape) same o) in
                    let w_is : wrote count waiting ≡ w = same_some (sym (set_there old.queues index (wrote count waiting) queue_in) ∙ subst (λ (j : ℕ). slice_get (set old.queues index (wrote count waiting)) j ≡ Some w) same at_now) in
                    subst (λ (v : WaitingState). Sending flow tape v) w_is
                    (subst (λ (y : Tape). Sending flow y (wrote count waiting)) t.0 (sending_wrote flow (tape_at run index) waiting count (h.sending index link flow (tape_at run index) waiting t.1 there)))
                | inr apart ↦ h.sending k link flow tape w (other_tape run index k own link flow tape tape_now rises here refl apart o) (sym (set_elsewhere old.queues index k (wrote count waiting) apart) ∙ at_now)
              ];
          heard = λ n flow tape closed flow_is tape_is. h.heard n flow tape closed flow_is (closed_tape run index n own tape tape_now rises here refl closed tape_is);
          sent = λ n flow tape closed flow_is tape_is. h.sent n flow tape closed flow_is (closed_tape run index n own tape tape_now rises here refl closed tape_is);
        };
        resting = λ k x at. holds.resting k x (subst (λ (l : List Held). slice_get l k ≡ Some x) scanners at);
      };
    }

-- a link gave bytes, which its scanner took
gives_run : (rules : Rules) (start : Kept) (run : RelayRun) (index count : ℕ) (old : RelayKept) (held now : Held) (bytes : List ℕ) → index < length old.links.links → slice_get old.scanners index ≡ Some held → Feeds 65824 held bytes count now → take count bytes ≡ bytes → IsRun rules start run → HoldsSoFar rules run old → HoldsSoFar rules (gave_run index bytes run) (record { links = old.links; scanners = set old.scanners index now; queues = old.queues })
gives_run rules start run index count old held now bytes within there feeds all is h =
    let state = run.course.state in
    let number = as_many old.links state h.links in
    let own = link_at state.links index in
    let here = there_is state.links index (omega (arith, within, number)) in
    let rises = run_rises rules start run is in
    let some = rises.some index own here in
    let most = rises.most index own here in
    let inside : own.number - 1 < length run.tapes = omega (arith, some, most, h.tapes) in
    let tape_now = gave bytes (tape_at run index) in
    let scanner_in = slice_get_within old.scanners index held there in
    record {
      links = h.links;
      flows = h.flows;
      tapes = length-set run.tapes (tape_place run index) tape_now ∙ h.tapes;
      hearing = λ k link flow tape x o at. elim (is_same_or k index) [
        | inl same ↦
            let t = own_tape run index own link flow tape tape_now here refl inside (subst (λ (j : ℕ). IsOpenAt (gave_run index bytes run) j link flow tape) same o) in
            let x_is : now ≡ x = same_some (sym (set_there old.scanners index now scanner_in) ∙ subst (λ (j : ℕ). slice_get (set old.scanners index now) j ≡ Some x) same at) in
            subst (λ (v : Held). Hearing rules flow tape v) x_is
            (subst (λ (y : Tape). Hearing rules flow y now) t.0 (hearing_fed rules flow (tape_at run index) held now bytes count feeds all (h.hearing index link flow (tape_at run index) held t.1 there)))
        | inr apart ↦ h.hearing k link flow tape x (other_tape run index k own link flow tape tape_now rises here refl apart o) (sym (set_elsewhere old.scanners index k now apart) ∙ at)
      ];
      sending = λ k link flow tape w o at. elim (is_same_or k index) [
        | inl same ↦
            let t = own_tape run index own link flow tape tape_now here refl inside (subst (λ (j : ℕ). IsOpenAt (gave_run index bytes run) j link flow tape) same o) in
            subst (λ (y : Tape). Sending flow y w) t.0 (sending_gave flow (tape_at run index) w bytes (h.sending index link flow (tape_at run index) w t.1 (subst (λ (j : ℕ). slice_get old.queues j ≡ Some w) same at)))
        | inr apart ↦ h.sending k link flow tape w (other_tape run index k own link flow tape tape_now rises here refl apart o) at
      ];
      heard = λ n flow tape closed flow_is tape_is. h.heard n flow tape closed flow_is (closed_tape run index n own tape tape_now rises here refl closed tape_is);
      sent = λ n flow tape closed flow_is tape_is. h.sent n flow tape closed flow_is (closed_tape run index n own tape tape_now rises here refl closed tape_is);
    }

pub all_fit : (bytes : List ℕ) (count held : ℕ) → length bytes ≤ 65536 → held < 280 → count ≡ min (length bytes) (65824 - held) → take count bytes ≡ bytes
all_fit bytes count held short less e = ap (λ (n : ℕ). take n bytes) fits ∙ whole bytes
  where
    fits : count ≡ length bytes
    fits = omega (arith, short, less, e)

    whole : (xs : List ℕ) → take (length xs) xs ≡ xs
    whole [] = refl
    whole (x ∷ xs) = ap (λ (l : List ℕ). x ∷ l) (whole xs)

-- no scanner of an open link has ended
is_live : (rules : Rules) (start : Kept) (run : RelayRun) (index : ℕ) (view : RelayKept) (held : Held) → index < length view.links.links → IsRun rules start run → HoldsSoFar rules run view → slice_get view.scanners index ≡ Some held → held.ended ≡ false
is_live rules start run index view held within is h at =
    let links = run.course.state.links in
    let number = as_many view.links run.course.state h.links in
    let own = link_at links index in
    let here = there_is links index (omega (arith, within, number)) in
    let rises = run_rises rules start run is in
    let some = rises.some index own here in
    let most = rises.most index own here in
    let flow = get_or run.course.flows (own.number - 1) (no_flow 0) in
    let tape = get_or run.tapes (own.number - 1) no_tape in
    let opened_at : IsOpenAt run index own flow tape = record {
      link_is = here;
      flow_is = slice_get-get_or run.course.flows (own.number - 1) (no_flow 0) (omega (arith, some, most, h.flows));
      tape_is = slice_get-get_or run.tapes (own.number - 1) no_tape (omega (arith, some, most, h.tapes));
    } in
    (h.hearing index own flow tape held opened_at at).live

-- a link gave bytes, and all that they end was heard
pub hears_run : (rules : Rules) (start : Kept) (run : RelayRun) (index count : ℕ) (bytes : List ℕ) (old new : RelayKept) (fed : List Held) {Watcher : Type 0} (told : Watcher → List Said → Type 0) (watcher telling : Watcher) → index < length old.links.links → new.links.links ≡ old.links.links → length old.scanners ≡ length old.links.links → length bytes ≤ 65536 → ((held : Held) → slice_get old.scanners index ≡ Some held → FeedsAt index held bytes count old.scanners fed) → Moves rules (record { links = old.links; scanners = fed; queues = old.queues }) new told watcher telling → OthersKept index fed new.scanners → ((held_at new.scanners index).ended ≡ false → IsResting (held_at new.scanners index)) → IsRun rules start run → Holds rules run old → HasHeard rules start index bytes run new told watcher telling
hears_run rules start run index count bytes old new fed told watcher telling within same_links as_scanners short feeds moves others rests is holds =
    let held = held_at old.scanners index in
    let there = slice_get-get_or old.scanners index (nothing_held [] false) (omega (arith, within, as_scanners)) in
    let f = feeds held there in
    let rest = holds.resting index held there in
    let all = all_fit bytes count (length held.bytes) short rest.short f.feeds.count in
    let given = subst (λ (l : List Held). HoldsSoFar rules (gave_run index bytes run) (record { links = old.links; scanners = l; queues = old.queues })) (sym f.set) (gives_run rules start run index count old held f.now bytes within there f.feeds all is holds.so_far) in
    let m = moves start (gave_run index bytes run) is given in
    let inside : index < length new.links.links = (let e = ap length same_links in omega (arith, within, e)) in
    record {
      now = m.now;
      goes_on = record {
        is_run = m.is_run;
        holds = record {
          so_far = m.holds;
          resting = λ k x at. elim (is_same_or k index) [
            | inl same ↦
                let here = subst (λ (j : ℕ). slice_get new.scanners j ≡ Some x) same at in
                let x_is : held_at new.scanners index ≡ x = get_or_from_slice_get new.scanners index x (nothing_held [] false) here in
                let live = is_live rules start m.now index new x inside m.is_run m.holds here in
                subst IsResting x_is (rests (ap (λ (v : Held). v.ended) x_is ∙ live))
            | inr apart ↦ holds.resting k x (sym (set_elsewhere old.scanners index k f.now apart) ∙ (ap (λ (l : List Held). slice_get l k) (sym f.set) ∙ (sym (others.1 k apart) ∙ at)))
          ];
        };
      };
      tapes = m.tapes;
      since = m.since;
      events = m.events;
      frames = m.frames;
      more = m.more;
      course = m.course;
      tells_it = m.tells_it;
    }

-- a link gave bytes, and there was no memory before all that they end was heard
pub hears_in_part : (rules : Rules) (start : Kept) (run : RelayRun) (index count : ℕ) (bytes : List ℕ) (old : RelayKept) (fed : List Held) {Watcher : Type 0} (told : Watcher → List Said → Type 0) (watcher telling : Watcher) → index < length old.links.links → length old.scanners ≡ length old.links.links → length bytes ≤ 65536 → ((held : Held) → slice_get old.scanners index ≡ Some held → FeedsAt index held bytes count old.scanners fed) → Stops rules (record { links = old.links; scanners = fed; queues = old.queues }) told watcher telling → IsRun rules start run → Holds rules run old → Stopped rules start (gave_run index bytes run) told watcher telling
hears_in_part rules start run index count bytes old fed told watcher telling within as_scanners short feeds stops is holds =
    let held = held_at old.scanners index in
    let there = slice_get-get_or old.scanners index (nothing_held [] false) (omega (arith, within, as_scanners)) in
    let f = feeds held there in
    let rest = holds.resting index held there in
    let all = all_fit bytes count (length held.bytes) short rest.short f.feeds.count in
    stops start (gave_run index bytes run) is
    (subst (λ (l : List Held). HoldsSoFar rules (gave_run index bytes run) (record { links = old.links; scanners = l; queues = old.queues })) (sym f.set) (gives_run rules start run index count old held f.now bytes within there f.feeds all is holds.so_far))
