-- What a read of a replay gives, one read of its link after another.
use Rattle.std.proofs.Common.{◌≡◌, ℕ, ◌+◌, ◌-◌, ◌<◌, ◌≤◌, ◌^◌, ◌&&◌, ◌==◌, ◌⊎◌, inl, inr, Bool, true, false, List, [], ◌∷◌, ◌++◌, length, take, Option, Some, None, refl, sym, ap, ◌∙◌, subst, arith, length-append, length-take, append-nil}
use Rattle.std.proofs.lemmas.Bool.Decides.{nat_tests}
use Rattle.std.specs.Io.KnownBytes.{prepend_known}
use Rattle.mav_links.specs.Links.{LinkState}
use Rattle.mav_ports.proofs.Known.{prepend_known_nil, prepend_known_twice}
use Rattle.mav_ports.specs.Gets.{given, GivesWithin, CountsFault, IsSpent, idles_after}
use Rattle.mav_ports.specs.declared.sources.Got.{Got}
use Rattle.mav_ports.specs.declared.sources.Got.TheVariants.{Bytes, Idle, End, Failed}
use Rattle.log_rows.specs.Frames.{RowsHeld, Gives, NoRowHeld, frames_left, log_frames, is_over}
use Rattle.log_rows.specs.Replays.{known_frames, Asked, IsNoneLeft}

-- ---- results

-- one that isn't Failed counts no fault
not_failed : (got : Got) (before now : ℕ) → (got ≡ Failed → ⊥) → CountsFault got before now → now ≡ before
not_failed (Bytes n) before now never counts = counts
not_failed Idle before now never counts = counts
not_failed End before now never counts = counts
not_failed Failed before now never counts = absurd (never refl)

pub counts_none : (got : Got) (before now : ℕ) → (got ≡ Failed → ⊥) → now ≡ before → CountsFault got before now
counts_none (Bytes n) before now never same = same
counts_none Idle before now never same = same
counts_none End before now never same = same
counts_none Failed before now never same = absurd (never refl)

-- one that isn't Idle counts no Idle answer
pub idles_stay : (got : Got) (n : ℕ) → (got ≡ Idle → ⊥) → n ≡ idles_after got n
idles_stay (Bytes n) before never = refl
idles_stay Idle before never = absurd (never refl)
idles_stay End before never = refl
idles_stay Failed before never = refl

pub is_failed : (got : Got) → (got ≡ Failed) ⊎ (got ≡ Failed → ⊥)
is_failed (Bytes n) = inr (λ e. cc)
is_failed Idle = inr (λ e. cc)
is_failed End = inr (λ e. cc)
is_failed Failed = inl refl

-- only an end of the log says that it has ended
pub ended_by : (got : Got) (ended : Bool) → ((got ≡ End → ⊥) → ended ≡ false) → ended ≡ true → got ≡ End
ended_by (Bytes n) ended never e = let bad : true ≡ false = sym e ∙ never (λ is. cc) in absurd cc
ended_by Idle ended never e = let bad : true ≡ false = sym e ∙ never (λ is. cc) in absurd cc
ended_by End ended never e = refl
ended_by Failed ended never e = let bad : true ≡ false = sym e ∙ never (λ is. cc) in absurd cc

some_given : (n : ℕ) (buf : List ℕ) → 0 < n → n ≤ length buf → take n buf ≡ [] → ⊥
some_given n buf some within none = let long = ap length none in omega (arith, some, within, long, length-take n buf)

front_none : (xs ys : List ℕ) → xs ++ ys ≡ [] → xs ≡ []
front_none [] ys e = refl
front_none (x ∷ xs) ys e = absurd cc

length_none : (xs : List ℕ) → length xs ≡ 0 → xs ≡ []
length_none [] e = refl
length_none (x ∷ xs) e = absurd (omega (arith, e))

both : (a b : Bool) → (a && b) ≡ true → (a ≡ true) × (b ≡ true)
both true b e = (refl, e)
both false b e = absurd cc

sum_none : (m n : ℕ) → (m + n == 0) ≡ true → (m ≡ 0) × (n ≡ 0)
sum_none m n e = let zero : m + n ≡ 0 = grind (arith, nat_tests) in (omega (arith, zero), omega (arith, zero))

-- nothing is held of a log that is over
pub over_parts : (held : RowsHeld) → is_over held ≡ true → (held.ended ≡ true) × (held.frame ≡ []) × (held.bytes ≡ [])
over_parts held over =
    let parts = both held.ended (length held.frame + length held.bytes == 0) over in
    let sizes = sum_none (length held.frame) (length held.bytes) parts.1 in
    (parts.0, length_none held.frame sizes.0, length_none held.bytes sizes.1)

pub over_of : (held : RowsHeld) → NoRowHeld held → held.ended ≡ true → is_over held ≡ true
over_of held none ended =
    λ i. ended i && (length (none.frame i) + length (none.over ended i) == 0)

pub nothing_left : (held : RowsHeld) → is_over held ≡ true → frames_left held [] ≡ []
nothing_left held over = let parts = over_parts held over in (λ i. parts.1 i ++ log_frames held.extras (parts.2 i ++ []))

-- nor is anything left of it
pub known_over : (held : RowsHeld) (log : Option (List ℕ)) → is_over held ≡ true → (held.ended ≡ true → IsNoneLeft log) → IsSpent (known_frames held log)
known_over held None over spent = tt
known_over held (Some rest) over spent =
    let parts = over_parts held over in
    ap (frames_left held) (spent parts.0 rest refl) ∙ nothing_left held over

pub spent_none : (log : Option (List ℕ)) → IsSpent log → IsNoneLeft log
spent_none None spent bytes e = absurd cc
spent_none (Some rest) spent bytes e = let same : rest ≡ bytes = cc in sym same ∙ spent

-- ---- what was handed out

module _ (closed : Type 0) (part : List ℕ) (old new : RowsHeld) (got : Got) (buf : List ℕ) (gives : Gives closed part old new got buf) where
  -- at no frames it waits, fails or ends
  pub ends_by : (g : Got) → g ≡ got → GivesWithin g buf → given g buf ≡ [] → (g ≡ Idle → ⊥) → (g ≡ Failed → ⊥) → g ≡ End
  ends_by (Bytes n) e within none idle failed = absurd (some_given n buf within.0 within.1 none)
  ends_by Idle e within none idle failed = absurd (idle refl)
  ends_by End e within none idle failed = refl
  ends_by Failed e within none idle failed = absurd (failed refl)

  pub ends : frames_left old part ≡ [] → (got ≡ Idle → ⊥) → (got ≡ Failed → ⊥) → got ≡ End
  ends none idle failed =
      let all : given got buf ++ frames_left new [] ≡ [] = sym (gives.left [] (λ _. refl)) ∙ ap (frames_left old) (append-nil part) ∙ none in
      ends_by got refl gives.within (front_none (given got buf) (frames_left new []) all) idle failed

  -- of the frames that are left, if they are known
  pub known_step : (log : Option (List ℕ)) → (closed → IsNoneLeft log) → known_frames old (prepend_known part log) ≡ prepend_known (given got buf) (known_frames new log)
  known_step None spent = refl
  known_step (Some rest) spent = ap Some (gives.left rest (λ e. spent e rest refl))

-- ---- a read that goes on

-- after so many reads of the link no row was at hand
pub record Waiting (reads : ℕ) (first now : RowsHeld) (before after : LinkState) : Type 0 where
  pub known : known_frames first before.left ≡ known_frames now after.left
  pub asked : Asked reads before after
  pub held : NoRowHeld now
  pub goes_on : now.ended ≡ false
  pub sent : after.sent ≡ before.sent
  -- a link that ended and no frame end it at the next read
  pub over : before.ended ≡ true → frames_left first [] ≡ [] → (reads ≡ 0) × (after.ended ≡ true) × (frames_left now [] ≡ [])

-- before the first
pub begun : (first now : RowsHeld) (link : LinkState) (buf : List ℕ) → Gives (first.ended ≡ true) [] first now Idle buf → (first.ended ≡ true → IsNoneLeft link.left) → Waiting 0 first now link link
begun first now link buf gives spent = record {
  known = sym (ap (known_frames first) (prepend_known_nil link.left)) ∙ known_step (first.ended ≡ true) [] first now Idle buf gives link.left spent ∙ prepend_known_nil (known_frames now link.left);
  asked = record { taken = []; left = sym (prepend_known_nil link.left); fruitless = λ _. omega arith; most = omega arith; faults = refl };
  held = (gives.waits refl).0;
  goes_on = (gives.waits refl).1;
  sent = refl;
  over = λ ended none. (refl, ended, sym (gives.left [] (λ _. refl)) ∙ none);
}

-- one read of a link
pub record LinkRead (read : Got) (piece : List ℕ) (old new : LinkState) : Type 0 where
  pub within : GivesWithin read piece
  pub bytes : old.left ≡ prepend_known (given read piece) new.left
  pub faults : CountsFault read old.faults new.faults
  pub idles : new.idles ≡ idles_after read old.idles
  pub end : read ≡ End → IsSpent new.left
  pub ended : read ≡ End → new.ended ≡ true
  pub stays : old.ended ≡ true → read ≡ End
  pub sent : new.sent ≡ old.sent

-- each read gave a byte or idled
fruit : (read : Got) (piece : List ℕ) (old new reads first taken : ℕ) → (read ≡ Failed → ⊥) → (read ≡ End → ⊥) → GivesWithin read piece → new ≡ idles_after read old → (old < 2 ^ 64 - 1 → reads + first ≤ taken + old) → new < 2 ^ 64 - 1 → reads + 1 + first ≤ taken + length (given read piece) + new
fruit (Bytes n) piece old new reads first taken failed end within e so small = let rest = so (omega (arith, e, small)) in omega (arith, e, rest, within.0, within.1, length-take n piece)
fruit Idle piece old new reads first taken failed end within e so small = let rest = so (omega (arith, e, small)) in omega (arith, e, rest, small)
fruit End piece old new reads first taken failed end within e so small = absurd (end refl)
fruit Failed piece old new reads first taken failed end within e so small = absurd (failed refl)

idles_most : (read : Got) (old new : ℕ) → new ≡ idles_after read old → new ≤ old + 1
idles_most (Bytes n) old new e = omega (arith, e)
idles_most Idle old new e = omega (arith, e)
idles_most End old new e = omega (arith, e)
idles_most Failed old new e = omega (arith, e)

module _ (reads : ℕ) (first now : RowsHeld) (before link : LinkState) (w : Waiting reads first now before link) (read : Got) (piece : List ℕ) (after : LinkState) (r : LinkRead read piece link after) where
  pub most_on : after.idles ≤ before.idles + (reads + 1)
  most_on = omega (arith, idles_most read link.idles after.idles r.idles, w.asked.most)

  asked_on : (read ≡ Failed → ⊥) → (read ≡ End → ⊥) → Asked (reads + 1) before after
  asked_on failed end = record {
    taken = w.asked.taken ++ given read piece;
    left = w.asked.left ∙ ap (prepend_known w.asked.taken) r.bytes ∙ prepend_known_twice after.left w.asked.taken (given read piece);
    fruitless = λ small.
        let more = fruit read piece link.idles after.idles reads before.idles (length w.asked.taken) failed end r.within r.idles w.asked.fruitless small in
        omega (arith, more, length-append w.asked.taken (given read piece));
    most = most_on;
    faults = not_failed read link.faults after.faults failed r.faults ∙ w.asked.faults;
  }

  module _ (new : RowsHeld) (got : Got) (buf : List ℕ) (failed : read ≡ Failed → ⊥) (gives : Gives (read ≡ End) (given read piece) now new got buf) where
    -- what it gave
    pub turn_known : known_frames first before.left ≡ prepend_known (given got buf) (known_frames new after.left)
    turn_known = w.known ∙ ap (known_frames now) r.bytes ∙ known_step (read ≡ End) (given read piece) now new got buf gives after.left (λ e. spent_none after.left (r.end e))

    pub turn_faults : (got ≡ Failed → ⊥) → CountsFault got before.faults after.faults
    turn_faults works = counts_none got before.faults after.faults works (not_failed read link.faults after.faults failed r.faults ∙ w.asked.faults)

    given_none : (g : Got) → g ≡ End → given g piece ≡ []
    given_none g e = ap (λ (z : Got). given z piece) e

    -- a link that ended and no frame
    pub turn_over : before.ended ≡ true → frames_left first [] ≡ [] → (got ≡ Idle → ⊥) → (got ≡ Failed → ⊥) → got ≡ End
    turn_over ended none idle works =
        let last = w.over ended none in
        ends (read ≡ End) (given read piece) now new got buf gives (ap (frames_left now) (given_none read (r.stays last.1)) ∙ last.2) idle works

  -- no row was at hand
  pub waits_on : (new : RowsHeld) (buf : List ℕ) → (read ≡ Failed → ⊥) → Gives (read ≡ End) (given read piece) now new Idle buf → (read ≡ End → new.ended ≡ true) → Waiting (reads + 1) first new before after
  waits_on new buf failed gives ends =
      let still = gives.waits refl in
      let end : read ≡ End → ⊥ = (λ e. let bad : true ≡ false = sym (ends e) ∙ still.1 in cc) in record {
        known = turn_known new Idle buf failed gives ∙ prepend_known_nil (known_frames new after.left);
        asked = asked_on failed end;
        held = still.0;
        goes_on = still.1;
        sent = r.sent ∙ w.sent;
        over = λ ended none. absurd (end (r.stays (w.over ended none).1));
      }

  -- the link's read failed
  pub failed_known : (new : RowsHeld) → read ≡ Failed → new ≡ now → known_frames first before.left ≡ prepend_known [] (known_frames new after.left)
  failed_known new is same =
      w.known ∙ ap (known_frames now) (r.bytes ∙ ap (λ (g : Got). prepend_known (given g piece) after.left) is ∙ prepend_known_nil after.left)
      ∙ (λ i. known_frames (sym same i) after.left) ∙ sym (prepend_known_nil (known_frames new after.left))

  pub failed_faults : read ≡ Failed → CountsFault Failed before.faults after.faults
  failed_faults is = subst (λ (n : ℕ). CountsFault Failed n after.faults) w.asked.faults (subst (λ (g : Got). CountsFault g link.faults after.faults) is r.faults)

  pub failed_over : read ≡ Failed → before.ended ≡ true → frames_left first [] ≡ [] → ⊥
  failed_over is ended none = let bad : Failed ≡ End = sym is ∙ r.stays (w.over ended none).1 in cc
