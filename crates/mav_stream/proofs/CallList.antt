-- Any list of calls, by its steps.
use Rattle.std.proofs.Common.{ℕ, Bool, List, [], ◌∷◌, ◌++◌, take, sym, subst, append_assoc, append-nil}
use Rattle.std.specs.Prelude.{flat_map}
use Rattle.mav_frame.specs.declared.events.Event.{Event}
use Rattle.mav_stream.specs.Held.{Held, nothing_held}
use Rattle.mav_stream.specs.Nexts.{given_by}
use Rattle.mav_stream.specs.Progress.{Progress}
use Rattle.mav_stream.specs.Calls.{Call, fed, closed, asked, CallIs, CallsAre, taken_by, events_of, AnyCalls, AnyCallsToNeed}
use Rattle.mav_stream.proofs.Steps.{begun, fed_on, closed_on, next_on, whole_at}

module _ (extras : List (ℕ × ℕ)) (reads_old : Bool) where
  one_call : (taken : List ℕ) (given : List Event) (old : Held) → Progress extras reads_old taken given old → (call : Call) (new : Held) → CallIs old call new → Progress extras reads_old (taken ++ taken_by call) (given ++ events_of call) new
  one_call taken given old h (fed piece count) new is =
      subst (λ (z : List Event × Held). Progress extras reads_old (taken ++ take count piece) z.0 z.1) (λ i. (sym (append-nil given) i, sym is.2 i)) (fed_on extras reads_old taken given old h (take count piece) is.0)
  one_call taken given old h closed new is =
      subst (λ (z : List ℕ × List Event × Held). Progress extras reads_old z.0 z.1 z.2) (λ i. (sym (append-nil taken) i, sym (append-nil given) i, sym is i)) (closed_on extras reads_old taken given old h)
  one_call taken given old h (asked answer) new is =
      subst (λ (z : List ℕ). Progress extras reads_old z (given ++ given_by answer) new) (sym (append-nil taken)) (next_on extras reads_old taken given old h answer new is)

  calls_on : (calls : List Call) (taken : List ℕ) (given : List Event) (old new : Held) → Progress extras reads_old taken given old → CallsAre old calls new → Progress extras reads_old (taken ++ flat_map taken_by calls) (given ++ flat_map events_of calls) new
  calls_on [] taken given old new h is =
      subst (λ (z : List ℕ × List Event × Held). Progress extras reads_old z.0 z.1 z.2) (λ i. (sym (append-nil taken) i, sym (append-nil given) i, sym is i)) h
  calls_on (call ∷ calls) taken given old new h is =
      let between = is.0 in
      let after = calls_on calls (taken ++ taken_by call) (given ++ events_of call) between new (one_call taken given old h call between is.1) is.2 in
      subst (λ (z : List ℕ × List Event). Progress extras reads_old z.0 z.1 new) (λ i. (append_assoc taken (taken_by call) (flat_map taken_by calls) i, append_assoc given (events_of call) (flat_map events_of calls) i)) after

pub any_calls : AnyCalls
any_calls extras reads_old calls held is = calls_on extras reads_old calls [] [] (nothing_held extras reads_old) held (begun extras reads_old) is

pub any_calls_to_need : AnyCallsToNeed
any_calls_to_need extras reads_old calls held new is need =
    whole_at extras reads_old (flat_map taken_by calls) (flat_map events_of calls) held (any_calls extras reads_old calls held is) new need
