-- What each call leaves of a run.
use Rattle.std.proofs.Common.{◌≡◌, ◌∙◌, ◌<◌, ◌≤◌, ◌⊎◌, inl, inr, ℕ, suc, ◌+◌, ◌-◌, Bool, true, false, List, [], ◌∷◌, ◌++◌, length, get_or, slice_get, Some, refl, sym, ap, subst, arith, length-append}
use Rattle.std.specs.List.{remove}
use Rattle.std.proofs.lemmas.List.{append-nil}
use Rattle.std.proofs.lemmas.Option.{slice_get_within, slice_get-get_or}
use Rattle.mav_profile.specs.Messages.{extras_of}
use Rattle.mav_sign.specs.Kept.{Kept, Represents as OfHistory}
use Rattle.mav_stream.specs.Held.{Held, nothing_held}
use Rattle.link_table.specs.Routing.{has_port}
use Rattle.mav_router.specs.Journal.{Rules}
use Rattle.relay_rules.specs.Kept.{Represents}
use Rattle.relay_rules.specs.Laws.{nothing_opened}
use Rattle.relay_rules.specs.States.{LinkState, RelayState, closed, link_at, opened, opened_link}
use Rattle.relay_rules.specs.Steps.{closes, opens}
use Rattle.relay_rules.proofs.Numbering.{got_less, got_more}
use Rattle.relay_core.specs.Calls.{HasClosedWith, IsNew, RunIs}
use Rattle.relay_core.specs.Flows.{Flow, Goes, no_flow, nothing_yet}
use Rattle.relay_core.specs.Moves.{closed_run, no_tape, opened_run}
use Rattle.relay_core.specs.RelayRuns.{HasClosed, Hearing, Holds, IsOpenAt, IsResting, IsRun, RelayKept, RelayRun, Sending, Tape}
use Rattle.relay_core.specs.Waitings.{WaitingState, lost, nothing_waits}
use Rattle.relay_core.proofs.FrameSteps.{as_many, there_is}
use Rattle.relay_core.proofs.Halves.{sending_new, was_heard, was_sent}
use Rattle.relay_core.proofs.Numbers.{Rising, one_more, run_rises}
use Rattle.relay_core.proofs.Places.{is_same_or, less_place, more_first, more_last, nothing_there, same_some, still_there}

-- ---- before any event

pub is_new : (view : RelayKept) → Represents view.links (nothing_opened view.links.kept) → OfHistory view.links.kept [] → view.scanners ≡ [] → view.queues ≡ [] → IsNew view
is_new view links kept scanners queues = record {
  kept = kept;
  is_run = λ rules. refl;
  holds = λ rules. record {
    so_far = record {
      links = links;
      flows = refl;
      tapes = refl;
      hearing = λ k link flow tape held o at. absurd (nothing_there k o.link_is);
      sending = λ k link flow tape w o at. absurd (nothing_there k o.link_is);
      heard = λ n flow tape closed flow_is tape_is. absurd (nothing_there n flow_is);
      sent = λ n flow tape closed flow_is tape_is. absurd (nothing_there n flow_is);
    };
    resting = λ k held at. absurd (nothing_there k (subst (λ (l : List Held). slice_get l k ≡ Some held) scanners at));
  };
}

-- ---- a link opens

nothing_rests : (extras : List (ℕ × ℕ)) (old : Bool) → IsResting (nothing_held extras old)
nothing_rests extras true = record {
  incomplete = record {
    stx = λ l. absurd (omega (arith, l));
    flag = λ e l. absurd (omega (arith, l));
    known = λ l. absurd (omega (arith, l));
    short = λ l. absurd (omega (arith, l));
  };
  short = omega arith;
}
nothing_rests extras false = record {
  incomplete = record {
    stx = λ l. absurd (omega (arith, l));
    flag = λ e l. absurd (omega (arith, l));
    known = λ l. absurd (omega (arith, l));
    short = λ l. absurd (omega (arith, l));
  };
  short = omega arith;
}

-- a link that was open before another one opened
opened_before : (run : RelayRun) (port k : ℕ) (link : LinkState) (flow : Flow) (tape : Tape) → Rising run.course.state.given run.course.state.links → length run.course.flows ≡ run.course.state.given → length run.tapes ≡ run.course.state.given → slice_get run.course.state.links k ≡ Some link → IsOpenAt (opened_run port run) k link flow tape → IsOpenAt run k link flow tape
opened_before run port k link flow tape r flows tapes there o =
    let some = r.some k link there in
    let most = r.most k link there in
    record {
      link_is = there;
      flow_is = sym (more_first run.course.flows (no_flow port) (link.number - 1) (omega (arith, some, most, flows))) ∙ o.flow_is;
      tape_is = sym (more_first run.tapes no_tape (link.number - 1) (omega (arith, some, most, tapes))) ∙ o.tape_is;
    }

-- the link that opened
opened_last : (run : RelayRun) (port k : ℕ) (link : LinkState) (flow : Flow) (tape : Tape) → length run.course.flows ≡ run.course.state.given → length run.tapes ≡ run.course.state.given → link ≡ opened_link (run.course.state.given + 1) port → IsOpenAt (opened_run port run) k link flow tape → (no_flow port ≡ flow) × (no_tape ≡ tape)
opened_last run port k link flow tape flows tapes is o =
    let number = ap (λ (l : LinkState). l.number) is in (
      same_some (sym (more_last run.course.flows (no_flow port) (link.number - 1) (omega (arith, number, flows))) ∙ o.flow_is),
      same_some (sym (more_last run.tapes no_tape (link.number - 1) (omega (arith, number, tapes))) ∙ o.tape_is),
    )

closed_then : (run : RelayRun) (port n : ℕ) → HasClosed (opened_run port run) n → HasClosed run n
closed_then run port n closed = λ j link there e.
    closed j link (more_first run.course.state.links (opened_link (run.course.state.given + 1) port) j (slice_get_within run.course.state.links j link there) ∙ there) e

pub opens_run : (rules : Rules) (start : Kept) (run : RelayRun) (port : ℕ) (old new : RelayKept) → 1 ≤ port → port ≤ rules.ports → length old.links.links < 32 → length old.scanners ≡ length old.links.links → length old.queues ≡ length old.links.links → ((state : RelayState) → Represents old.links state → Represents new.links (opened port state)) → new.scanners ≡ old.scanners ++ nothing_held (extras_of rules.known) (has_port rules.plain port) ∷ [] → new.queues ≡ old.queues ++ nothing_waits ∷ [] → IsRun rules start run → Holds rules run old → RunIs rules start (opened_run port run) new
opens_run rules start run port old new from to few as_scanners as_queues opens_links scanners queues is holds =
    let h = holds.so_far in
    let state = run.course.state in
    let number = state.given + 1 in
    let count = as_many old.links state h.links in
    let rises = run_rises rules start run is in
    let first = nothing_held (extras_of rules.known) (has_port rules.plain port) in
    let now = opened_run port run in
    let went : Goes rules (opens number port) run.course now.course = record {
      step = record { at = (from, to); few = omega (arith, few, count); next = refl; state = refl };
      flows = refl;
      told = sym (append-nil run.course.told);
    } in
    let flow_count = length-append run.course.flows (no_flow port ∷ []) in
    let tape_count = length-append run.tapes (no_tape ∷ []) in
    record {
      is_run = one_more rules run.events (opens number port) (nothing_yet start) run.course now.course is went;
      holds = record {
        so_far = record {
          links = opens_links state h.links;
          flows = omega (arith, flow_count, h.flows);
          tapes = omega (arith, tape_count, h.tapes);
          hearing = λ k link flow tape held o at.
              let there = subst (λ (l : List Held). slice_get l k ≡ Some held) scanners at in
              elim (got_more state.links (opened_link number port) k link o.link_is) [
                | inl was ↦
                    let within = slice_get_within state.links k link was in
                    h.hearing k link flow tape held (opened_before run port k link flow tape rises h.flows h.tapes was o) (sym (more_first old.scanners first k (omega (arith, within, count, as_scanners))) ∙ there)
                | inr last ↦
                    let e = opened_last run port k link flow tape h.flows h.tapes last.0 o in
                    let held_is : first ≡ held = same_some (sym (more_last old.scanners first k (omega (arith, last.1, count, as_scanners))) ∙ there) in
                    subst (λ (x : Held). Hearing rules flow tape x) held_is
                    (subst (λ (t : Tape). Hearing rules flow t first) e.1
                    (subst (λ (f : Flow). Hearing rules f no_tape first) e.0
                    (record {
                      found = [];
                      parsed = record { same = refl; version = refl; incremental = λ live. refl; final = refl };
                      heard = refl;
                      live = refl;
                    })))
              ];
          sending = λ k link flow tape w o at.
              let there = subst (λ (l : List WaitingState). slice_get l k ≡ Some w) queues at in
              elim (got_more state.links (opened_link number port) k link o.link_is) [
                | inl was ↦
                    let within = slice_get_within state.links k link was in
                    h.sending k link flow tape w (opened_before run port k link flow tape rises h.flows h.tapes was o) (sym (more_first old.queues nothing_waits k (omega (arith, within, count, as_queues))) ∙ there)
                | inr last ↦
                    let e = opened_last run port k link flow tape h.flows h.tapes last.0 o in
                    let w_is : nothing_waits ≡ w = same_some (sym (more_last old.queues nothing_waits k (omega (arith, last.1, count, as_queues))) ∙ there) in
                    subst (λ (x : WaitingState). Sending flow tape x) w_is
                    (subst (λ (t : Tape). Sending flow t nothing_waits) e.1
                    (subst (λ (f : Flow). Sending f no_tape nothing_waits) e.0 (sending_new port)))
              ];
          heard = λ n flow tape closed flow_is tape_is. elim (got_more run.course.flows (no_flow port) n flow flow_is) [
            | inl was ↦
                let within = slice_get_within run.course.flows n flow was in
                h.heard n flow tape (closed_then run port n closed) was (sym (more_first run.tapes no_tape n (omega (arith, within, h.flows, h.tapes))) ∙ tape_is)
            | inr last ↦ absurd (closed (length state.links) (opened_link number port) (more_last state.links (opened_link number port) (length state.links) refl) (omega (arith, last.1, h.flows)))
          ];
          sent = λ n flow tape closed flow_is tape_is. elim (got_more run.course.flows (no_flow port) n flow flow_is) [
            | inl was ↦
                let within = slice_get_within run.course.flows n flow was in
                h.sent n flow tape (closed_then run port n closed) was (sym (more_first run.tapes no_tape n (omega (arith, within, h.flows, h.tapes))) ∙ tape_is)
            | inr last ↦ absurd (closed (length state.links) (opened_link number port) (more_last state.links (opened_link number port) (length state.links) refl) (omega (arith, last.1, h.flows)))
          ];
        };
        resting = λ k held at. elim (got_more old.scanners first k held (subst (λ (l : List Held). slice_get l k ≡ Some held) scanners at)) [
          | inl was ↦ holds.resting k held was
          | inr last ↦ subst IsResting (sym last.0) (nothing_rests (extras_of rules.known) (has_port rules.plain port))
        ];
      };
    }

-- ---- a link closes

-- a link that is open then is open before, with its item of another list at the same place
open_still : {A : Type 0} (run : RelayRun) (index k : ℕ) (link : LinkState) (flow : Flow) (tape : Tape) (xs : List A) (x : A) → IsOpenAt (closed_run index run) k link flow tape → slice_get (remove xs index) k ≡ Some x → (j : ℕ) × IsOpenAt run j link flow tape × (slice_get xs j ≡ Some x)
open_still run index k link flow tape xs x o at =
    let p = less_place run.course.state.links xs index k link x o.link_is at in
    (p.0, record { link_is = p.1; flow_is = o.flow_is; tape_is = o.tape_is }, p.2)

-- one that has closed is this one, or had closed before
closed_or : (run : RelayRun) (index n : ℕ) (own : LinkState) → slice_get run.course.state.links index ≡ Some own → HasClosed (closed_run index run) n → (own.number ≡ n + 1) ⊎ HasClosed run n
closed_or run index n own here closed = elim (is_same_or own.number (n + 1)) [
  | inl same ↦ inl same
  | inr apart ↦ inr (λ j link there e. elim (is_same_or j index) [
    | inl same ↦ apart (ap (λ (l : LinkState). l.number) (same_some (sym here ∙ subst (λ (i : ℕ). slice_get run.course.state.links i ≡ Some link) same there)) ∙ e)
    | inr other ↦ let s = still_there run.course.state.links index j link other there in closed s.0 link s.1 e
  ])
]

own_open : (run : RelayRun) (index n : ℕ) (own : LinkState) (flow : Flow) (tape : Tape) → slice_get run.course.state.links index ≡ Some own → own.number ≡ n + 1 → slice_get run.course.flows n ≡ Some flow → slice_get run.tapes n ≡ Some tape → IsOpenAt run index own flow tape
own_open run index n own flow tape here e flow_is tape_is =
    let place : n ≡ own.number - 1 = omega (arith, e) in
    record {
      link_is = here;
      flow_is = subst (λ (p : ℕ). slice_get run.course.flows p ≡ Some flow) place flow_is;
      tape_is = subst (λ (p : ℕ). slice_get run.tapes p ≡ Some tape) place tape_is;
    }

pub closes_run : (rules : Rules) (start : Kept) (run : RelayRun) (index dropped : ℕ) (old new : RelayKept) → index < length old.links.links → length old.scanners ≡ length old.links.links → length old.queues ≡ length old.links.links → ((state : RelayState) → Represents old.links state → Represents new.links (closed index state)) → new.scanners ≡ remove old.scanners index → new.queues ≡ remove old.queues index → ((waiting : WaitingState) → slice_get old.queues index ≡ Some waiting → dropped ≡ lost waiting) → IsRun rules start run → Holds rules run old → HasClosedWith rules start index dropped run new
closes_run rules start run index dropped old new within as_scanners as_queues closes_links scanners queues dropped_is is holds =
    let h = holds.so_far in
    let state = run.course.state in
    let count = as_many old.links state h.links in
    let own = link_at state.links index in
    let here = there_is state.links index (omega (arith, within, count)) in
    let now = closed_run index run in
    let held = get_or old.scanners index (nothing_held [] false) in
    let held_there = slice_get-get_or old.scanners index (nothing_held [] false) (omega (arith, within, as_scanners)) in
    let waiting = get_or old.queues index nothing_waits in
    let waiting_there = slice_get-get_or old.queues index nothing_waits (omega (arith, within, as_queues)) in
    let went : Goes rules (closes own.number) run.course now.course = record {
      step = record { index = index; link = own; there = here; same = refl; state = refl };
      flows = refl;
      told = sym (append-nil run.course.told);
    } in
    record {
      goes_on = record {
        is_run = one_more rules run.events (closes own.number) (nothing_yet start) run.course now.course is went;
        holds = record {
          so_far = record {
            links = closes_links state h.links;
            flows = h.flows;
            tapes = h.tapes;
            hearing = λ k link flow tape x o at.
                let p = open_still run index k link flow tape old.scanners x o (subst (λ (l : List Held). slice_get l k ≡ Some x) scanners at) in
                h.hearing p.0 link flow tape x p.1 p.2;
            sending = λ k link flow tape w o at.
                let p = open_still run index k link flow tape old.queues w o (subst (λ (l : List WaitingState). slice_get l k ≡ Some w) queues at) in
                h.sending p.0 link flow tape w p.1 p.2;
            heard = λ n flow tape closed flow_is tape_is. elim (closed_or run index n own here closed) [
              | inl e ↦ was_heard rules flow tape held (holds.resting index held held_there) (h.hearing index own flow tape held (own_open run index n own flow tape here e flow_is tape_is) held_there)
              | inr before ↦ h.heard n flow tape before flow_is tape_is
            ];
            sent = λ n flow tape closed flow_is tape_is. elim (closed_or run index n own here closed) [
              | inl e ↦ let w = was_sent flow tape waiting (h.sending index own flow tape waiting (own_open run index n own flow tape here e flow_is tape_is) waiting_there) in (w.0, w.1)
              | inr before ↦ h.sent n flow tape before flow_is tape_is
            ];
          };
          resting = λ k x at. elim (got_less old.scanners index k x (subst (λ (l : List Held). slice_get l k ≡ Some x) scanners at)) [
            | inl g ↦ holds.resting k x g.1
            | inr g ↦ holds.resting (suc k) x g.1
          ];
        };
      };
      lost = λ link flow tape o.
          let w = was_sent flow tape waiting (h.sending index link flow tape waiting o waiting_there) in
          (w.0, w.1, dropped_is waiting waiting_there ∙ w.2);
    }
