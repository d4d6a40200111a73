-- Each call of a reader continues the parse of the bytes taken.
use Rattle.std.proofs.Common.{◌≡◌, ◌-◌, ℕ, Bool, true, false, List, [], ◌∷◌, ◌++◌, length, take, min, refl, sym, ap, ◌∙◌, subst, append-nil}
use Rattle.mav_frame.specs.Parse.{IsIncomplete, EventAt, BeginsFinal}
use Rattle.mav_frame.specs.declared.events.Event.{Event}
use Rattle.mav_frame.specs.declared.events.Event.TheVariants.{Frame as FrameEvent, Skipped as SkippedEvent}
use Rattle.mav_frame.proofs.LongerParse.{more_bytes_keep, incremental_goes_on, incremental_ends, final_goes_on, final_ends, incremental_begins_final}
use Rattle.mav_stream.specs.Held.{Held, nothing_held}
use Rattle.mav_stream.specs.Nexts.{Gives, Needs, NextIs, given_by}
use Rattle.mav_stream.specs.Progress.{Progress, IsWhole, WholeAtNeed, Feeds, Ends}
use Rattle.mav_stream.specs.declared.Next.{Next}
use Rattle.mav_stream.specs.declared.Next.TheVariants.{Frame, Skipped, Need}

not_ended : true ≡ false → ⊥
not_ended e = cc

module _ (extras : List (ℕ × ℕ)) (reads_old : Bool) where
  -- before the first call
  pub begun : Progress extras reads_old [] [] (nothing_held extras reads_old)
  begun = record { same = refl; version = refl; incremental = λ _. refl; final = refl }

module _ (extras : List (ℕ × ℕ)) (reads_old : Bool) (taken : List ℕ) (given : List Event) where
  module _ (old : Held) (h : Progress extras reads_old taken given old) where
    -- more bytes are taken
    pub fed_on : (bytes : List ℕ) → old.ended ≡ false → Progress extras reads_old (taken ++ bytes) given (record old { bytes = old.bytes ++ bytes })
    fed_on bytes open_yet =
        let longer = more_bytes_keep extras reads_old given old.bytes taken bytes (h.incremental open_yet) in
        record { same = h.same; version = h.version; incremental = λ _. longer; final = incremental_begins_final extras reads_old given (old.bytes ++ bytes) (taken ++ bytes) longer }

    -- the input has ended
    pub closed_on : Progress extras reads_old taken given (record old { ended = true })
    closed_on = record { same = h.same; version = h.version; incremental = λ e. absurd (not_ended e); final = h.final }

    -- an event was given
    event_on : (event : Event) (new : Held) → Gives old event new → Progress extras reads_old taken (given ++ event ∷ []) new
    event_on event new g =
        let there : EventAt extras reads_old event old.bytes new.bytes = subst (λ (z : List (ℕ × ℕ) × Bool). EventAt z.0 z.1 event old.bytes new.bytes) (λ i. (h.same i, h.version i)) g.stands in
        record {
          same = ap (λ (z : Held). z.extras) g.same ∙ h.same;
          version = ap (λ (z : Held). z.reads_old) g.same ∙ h.version;
          incremental = λ e.
              let still : old.ended ≡ false = sym (ap (λ (z : Held). z.ended) g.same) ∙ e in
              incremental_goes_on extras reads_old given event old.bytes new.bytes taken (h.incremental still) (λ x. g.decided still (subst (λ (z : List (ℕ × ℕ) × Bool). IsIncomplete z.0 z.1 old.bytes) (λ i. (sym h.same i, sym h.version i)) x)) there;
          final = final_goes_on extras reads_old given event old.bytes new.bytes taken h.final there;
        }

    pub next_on : (answer : Next) (new : Held) → NextIs old answer new → Progress extras reads_old taken (given ++ given_by answer) new
    next_on (Frame packet) new g = event_on (FrameEvent packet) new g
    next_on (Skipped byte why) new g = event_on (SkippedEvent byte why) new g
    next_on Need new n = subst (λ (z : List Event × Held). Progress extras reads_old taken z.0 z.1) (λ i. (sym (append-nil given) i, sym n.same i)) h

    -- at Need all events were given
    pub whole_at : (new : Held) → Needs old new → IsWhole extras reads_old taken given old
    whole_at new n = record {
      incremental = λ e. incremental_ends extras reads_old given old.bytes taken (h.incremental e) (subst (λ (z : List (ℕ × ℕ) × Bool). IsIncomplete z.0 z.1 old.bytes) (λ i. (h.same i, h.version i)) n.incomplete);
      final = λ e. final_ends extras reads_old given taken (subst (λ (z : List ℕ). BeginsFinal extras reads_old given z taken) (n.empty e) h.final);
    }

    pub whole_at_need : (answer : Next) (new : Held) → NextIs old answer new → WholeAtNeed extras reads_old taken given answer new
    whole_at_need (Frame packet) new g = tt
    whole_at_need (Skipped byte why) new g = tt
    whole_at_need Need new n = subst (λ (z : Held). IsWhole extras reads_old taken given z) (sym n.same) (whole_at new n)

-- a call that takes the bytes that fit, and one that ends the input
pub fed : (room : ℕ) (old : Held) (piece : List ℕ) (count : ℕ) (bytes : List ℕ) → count ≡ min (length piece) (room - length old.bytes)
    → bytes ≡ old.bytes ++ take count piece → Feeds room old piece count (record old { bytes = bytes })
fed room old piece count bytes is longer =
    record {
      count = is;
      held = ap (λ (b : List ℕ). record old { bytes = b }) longer;
      progress = λ extras reads_old taken given still h.
          subst (λ (b : List ℕ). Progress extras reads_old (taken ++ take count piece) given (record old { bytes = b })) (sym longer)
          (fed_on extras reads_old taken given old h (take count piece) still);
    }

pub ended : (old : Held) → Ends old (record old { ended = true })
ended old = record { held = refl; progress = λ extras reads_old taken given h. closed_on extras reads_old taken given old h }
