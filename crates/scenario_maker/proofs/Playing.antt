-- The lines of a generated scenario, one after another: none stops it, unless a node has no timestamp left.
use Rattle.std.proofs.Common.{◌≡◌, ◌∙◌, ◌⊎◌, inl, inr, ℕ, zero, suc, ◌+◌, ◌-◌, ◌*◌, ◌<◌, ◌≤◌, true, false, ◌==◌, nat_lt, List, [], ◌∷◌, ◌++◌, codes, length, slice_get, slice_index, Some, None, Ok, Err, IfOk, refl, sym, ap, subst, arith}
use Rattle.std.specs.declared.result.Result.{Result}
use Rattle.std.specs.List.{list_all}
use Rattle.std.proofs.lemmas.Bool.{cond-false, le-ltb}
use Rattle.std.proofs.lemmas.List.Elements.{All-nil}
use Rattle.plan_items.specs.declared.items.Item.{Item}
use Rattle.plan_items.specs.declared.kinds.PlanKind.TheVariants.{Mission}
use Rattle.scenario_lines.specs.declared.lines.Line.{Line}
use Rattle.scenario_lines.specs.declared.lines.Line.TheVariants.{Items, Empty, Begin, Cancel, Deliver, Flow, Tick}
use Rattle.scenario_lines.specs.declared.naming.Named.{Named}
use Rattle.scenario_lines.specs.Grammar.{most_line_bytes}
use Rattle.scenario_lines.specs.Permits.{IsPermitted}
use Rattle.scenario_lines.specs.Reasons.{reason_against}
use Rattle.fleet_world.specs.WorldState.{WorldState, context_of}
use Rattle.fleet_world.specs.Steps.{Step, StepError, At_limit, Stamps_spent, after_line}
use Rattle.fleet_world.specs.Scenario.{Not_done, Played, goes_on, judged, line_played, unless_stopped, lines_played}
use Rattle.scenario_lines.specs.FileLines.{most_lines, without_cr}
use Rattle.fleet_invariants.specs.Kept.{LineFits}
use Rattle.fleet_invariants.proofs.Tests.{both_true}
use Rattle.fleet_invariants.proofs.Restated.{sound_restated}
use Rattle.fleet_invariants.proofs.Lines.{sound_line}
use Rattle.fleet_invariants.proofs.Readings.{read_fits}
use Rattle.scenario_maker.specs.declared.rounds.Course.{Course}
use Rattle.scenario_maker.specs.declared.rounds.Course.TheVariants.{Straight, Cancelled, Ticked, Repeated}
use Rattle.scenario_maker.specs.declared.rounds.Round.{Round}
use Rattle.scenario_maker.specs.Generator.{after, round_from, items_line, begin_line, flow_line, cancel_line, tick_line, deliver_line, course_lines, round_lines, lines_from}
use Rattle.scenario_maker.proofs.NumberWords.{is_printable}
use Rattle.scenario_maker.proofs.ReadLines.{Says, station_name, drone_at, item_of, empty_says, items_say, begin_says, flow_says, cancel_says, tick_says, deliver_says}
use Rattle.scenario_maker.proofs.Goings.{Calm, size, Went, Goes}
use Rattle.scenario_maker.proofs.Givings.{flow_calm, tick_calm, deliver_calm, cancel_calm, begin_calm}

-- ---- one line

-- a line that can be printed has no CR at its end
no_cr_at : (xs : List ℕ) (i : ℕ) → list_all is_printable xs ≡ true → (slice_index xs i == 13) ≡ false
no_cr_at [] zero h = refl
no_cr_at [] (suc i) h = refl
no_cr_at (x ∷ xs) zero h = above x (both_true _ _ h).0
  where
    above : (x : ℕ) → is_printable x ≡ true → (x == 13) ≡ false
    above x e = grind arith
no_cr_at (x ∷ xs) (suc i) h = no_cr_at xs i (both_true (is_printable x) (list_all is_printable xs) h).1

pub no_cr : (raw : List ℕ) → list_all is_printable raw ≡ true → without_cr raw ≡ raw
no_cr raw h = cond-false (slice_index raw (length raw - 1) == 13) _ _ (no_cr_at raw (length raw - 1) h)

-- a scenario that goes on, in a state of this size at most
pub record On (B : ℕ) (p : Played) : Type 0 where
  pub going : p.stop ≡ None
  pub calm : Calm p.state
  pub small : size p.state ≤ B

-- one that stopped, since a node has no timestamp left
abbrev pub Spent : Played → Type 0
Spent p = p.stop ≡ Some (Not_done Stamps_spent)

abbrev pub Ready : ℕ → (WorldState → Type 0) → Played → Type 0
Ready B Q p = (On B p × Q p.state) ⊎ Spent p

abbrev Any : WorldState → Type 0
Any s = Unit {0}

-- what is known of the state after a step
abbrev Then : (WorldState → Type 0) → Result Step StepError → Type 0
Then Q r = IfOk r (λ t. Q t.state)

any_then : (r : Result Step StepError) → Then Any r
any_then (Ok t) = tt
any_then (Err error) = tt

went_on : (B c : ℕ) (Q : WorldState → Type 0) (p : Played) (r : Result Step StepError) → size p.state ≤ B → Goes p.state c r → Then Q r → Ready (B + c) Q (goes_on p r)
went_on B c Q p (Ok t) small w q = let grown = w.grown in inl (record { going = refl; calm = w.calm; small = omega (arith, small, grown) }, q)
went_on B c Q p (Err Stamps_spent) small h q = inr refl
went_on B c Q p (Err (At_limit limit)) small h q = absurd h

-- what the laws ask of a line
abbrev Asks : WorldState → Line → Type 0
Asks s line = IsPermitted (context_of s) line × LineFits line

line_ready : (B c : ℕ) (Q : WorldState → Type 0) (p : Played) (number : ℕ) (raw : List ℕ) (line : Line) → On B p → number ≤ 100000 → Says (length p.state.draft) p.state.clock raw line
    → (Asks p.state line → Goes p.state c (after_line p.state line)) → Then Q (after_line p.state line) → Ready (B + c) Q (line_played p number raw)
line_ready B c Q p number raw line on few says goes q =
    let text : without_cr raw ≡ raw = no_cr raw says.printable in
    let reason : reason_against (context_of p.state) raw ≡ None =
    ap (λ (names : List Named). reason_against (record { nodes = names; drafted = length p.state.draft; clock = p.state.clock }) raw) on.calm.names ∙ says.reason in
    let asks : Asks p.state line = subst (Asks p.state) says.says (read_fits (context_of p.state) raw reason) in
    let is : line_played p number raw ≡ goes_on p (after_line p.state line) =
    cond-false (nat_lt most_lines number) _ _ (le-ltb most_lines number few)
    ∙ cond-false (nat_lt most_line_bytes (length raw)) _ _ (le-ltb most_line_bytes (length raw) says.short)
    ∙ ap (λ t. judged p number t (reason_against (context_of p.state) t)) text
    ∙ ap (judged p number raw) reason
    ∙ ap (λ l. goes_on p (after_line p.state l)) says.says in
    subst (Ready (B + c) Q) (sym is) (went_on B c Q p (after_line p.state line) on.small (goes asks) q)

-- ---- lines

-- the scenario goes on to the end
abbrev pub Final : Played → Type 0
Final q = (q.stop ≡ None) ⊎ Spent q

pub ready_final : (B : ℕ) (Q : WorldState → Type 0) (p : Played) → Ready B Q p → Final p
ready_final B Q p (inl on) = inl on.0.going
ready_final B Q p (inr spent) = inr spent

next_line : (B c : ℕ) (Q P : WorldState → Type 0) (p : Played) (number : ℕ) (raw : List ℕ) (more : List (List ℕ)) → Ready B Q p
    → (On B p → Q p.state → Ready (B + c) P (line_played p number raw))
    → (Ready (B + c) P (line_played p number raw) → Final (lines_played (line_played p number raw) (number + 1) more)) → Final (lines_played p number (raw ∷ more))
next_line B c Q P p number raw more (inl on) step rest =
    subst (λ o. Final (unless_stopped o p (lines_played (line_played p number raw) (number + 1) more))) (sym on.0.going) (rest (step on.0 on.1))
next_line B c Q P p number raw more (inr spent) step rest =
    subst (λ o. Final (unless_stopped o p (lines_played (line_played p number raw) (number + 1) more))) (sym spent) (inr spent)

-- ---- each line of a round

-- the numbers of a round
pub record Fair (x : Round) : Type 0 where
  pub station : x.station < 4
  pub drone : x.drone < 4
  pub some : 1 ≤ x.items
  pub few : x.items ≤ 25
  pub first : x.first ≤ 59
  pub again : 1 ≤ x.again
  pub known : x.again ≤ 1000

pub fair : (s : ℕ) → Fair (round_from s)
fair s = record { station = omega arith; drone = omega arith; some = omega arith; few = omega arith; first = omega arith; again = omega arith; known = omega arith }

abbrev Undrafted : WorldState → Type 0
Undrafted s = s.draft ≡ []

emptied : (s : WorldState) → Calm s → Went s 0 (record s { draft = [] })
emptied s g = record {
  calm = record { sound = sound_restated s s.given [] s.clock g.sound g.sound.given (All-nil _) (omega arith) g.sound.clock; carry = g.carry; idle = g.idle; names = g.names };
  grown = omega arith;
  sent = λ i p e. e;
}

drafted : (s : WorldState) → Calm s → (n : ℕ) (first : Item) → Asks s (Items n first) → Goes s 0 (after_line s (Items n first))
drafted s g n first asks =
    let law = sound_line s g.sound (Items n first) asks.0 asks.1 tt in
    record {
      calm = record { sound = law.sound; carry = g.carry; idle = g.idle; names = g.names };
      grown = omega arith;
      sent = λ i p e. e;
    }

-- from every state of this size, at a line up to this number, these lines go on to the end
abbrev pub Goal : ℕ → ℕ → List (List ℕ) → Type 0
Goal N B more = (p : Played) (number : ℕ) → Ready B Any p → number ≤ N → Final (lines_played p number more)

ready_more : (B C : ℕ) (Q : WorldState → Type 0) (p : Played) → B ≤ C → Ready B Q p → Ready C Q p
ready_more B C Q p le (inl on) = let small = on.0.small in inl (record { going = on.0.going; calm = on.0.calm; small = omega (arith, small, le) }, on.1)
ready_more B C Q p le (inr spent) = inr spent

goal_more : (N M B C : ℕ) (more : List (List ℕ)) → N ≤ M → B ≤ C → Goal M C more → Goal N B more
goal_more N M B C more n b goal p number ready few = goal p number (ready_more B C Any p b ready) (omega (arith, n, few))

-- one line, whose step counts for `c`
one_then : (N B c : ℕ) (raw : List ℕ) (line : Line) (more : List (List ℕ)) → N ≤ 100000 → ((d k : ℕ) → Says d k raw line)
    → ((s : WorldState) → Calm s → size s + c ≤ 100000 → Goes s c (after_line s line)) → B + c ≤ 100000 → Goal (N + 1) (B + c) more → Goal N B (raw ∷ more)
one_then N B c raw line more short says goes room rest p number ready few =
    next_line B c Any Any p number raw more ready
    (λ on _.
    let small = on.small in
    line_ready B c Any p number raw line on (omega (arith, short, few)) (says (length p.state.draft) p.state.clock)
    (λ asks. goes p.state on.calm (omega (arith, small, room))) (any_then (after_line p.state line)))
    (λ r. rest (line_played p number raw) (number + 1) r (omega (arith, few)))

flow_then : (N B k : ℕ) (more : List (List ℕ)) → N ≤ 100000 → k ≤ 200 → B + k ≤ 100000 → Goal (N + 1) (B + k) more → Goal N B (flow_line k ∷ more)
flow_then N B k more short few room =
    one_then N B k (flow_line k) (Flow k) more short (λ d c. flow_says d c k (omega (arith, few))) (λ s g small. flow_calm k s g small) room

module _ (x : Round) (f : Fair x) where
  cancel_then : (N B : ℕ) (more : List (List ℕ)) → N ≤ 100000 → B + 8 ≤ 100000 → Goal (N + 1) (B + 8) more → Goal N B (cancel_line x ∷ more)
  cancel_then N B more short room =
      one_then N B 8 (cancel_line x) (Cancel (station_name x.station)) more short (λ d c. cancel_says d c x.station f.station) (λ s g small. cancel_calm s g small (station_name x.station)) room

  tick_then : (N B : ℕ) (more : List (List ℕ)) → N ≤ 100000 → B + 8 ≤ 100000 → Goal (N + 1) (B + 8) more → Goal N B (tick_line x ∷ more)
  tick_then N B more short room =
      one_then N B 8 (tick_line x) (Tick (station_name x.station)) more short (λ d c. tick_says d c x.station f.station) (λ s g small. tick_calm s g small (station_name x.station)) room

  deliver_then : (N B : ℕ) (more : List (List ℕ)) → N ≤ 100000 → B + 1 ≤ 100000 → Goal (N + 1) (B + 1) more → Goal N B (deliver_line x ∷ more)
  deliver_then N B more short room =
      let known = f.known in
      one_then N B 1 (deliver_line x) (Deliver x.again (drone_at x.drone)) more short (λ d c. deliver_says d c x.again f.again (omega (arith, known)) x.drone f.drone)
      (λ s g small. deliver_calm s g small x.again (drone_at x.drone) (slice_get s.sent (x.again - 1)) refl) room

  begin_then : (N B : ℕ) (more : List (List ℕ)) → N ≤ 100000 → B + 8 ≤ 100000 → Goal (N + 1) (B + 8) more → Goal N B (begin_line x ∷ more)
  begin_then N B more short room =
      let drone = f.drone in
      one_then N B 8 (begin_line x) (Begin (station_name x.station) (drone_at x.drone) Mission) more short (λ d c. begin_says d c x.station f.station x.drone f.drone)
      (λ s g small. begin_calm s g small (station_name x.station) (drone_at x.drone) (record { sys = omega (arith, drone); comp = omega arith }) 0 (omega arith)) room

  -- the draft becomes empty, and is filled
  items_then : (N B r : ℕ) (more : List (List ℕ)) → N + 1 ≤ 100000 → r ≤ 200 → Goal (N + 2) B more → Goal N B (codes "empty" ∷ items_line r x ∷ more)
  items_then N B r more short few_rounds rest p number ready few =
      let most = f.few in
      next_line B 0 Any Undrafted p number (codes "empty") (items_line r x ∷ more) ready
      (λ on _. line_ready B 0 Undrafted p number (codes "empty") Empty on (omega (arith, short, few)) (empty_says (length p.state.draft) p.state.clock) (λ asks. emptied p.state on.calm) refl)
      (λ again.
      let q = line_played p number (codes "empty") in
      next_line (B + 0) 0 Undrafted Any q (number + 1) (items_line r x) more again
      (λ on e.
      let none : length q.state.draft ≡ 0 = ap (λ (items : List Item). length items) e in
      line_ready (B + 0) 0 Any q (number + 1) (items_line r x) (Items x.items (item_of (1000 * r) (2000 * r))) on (omega (arith, short, few))
      (items_say (length q.state.draft) q.state.clock x.items (1000 * r) (2000 * r) f.some (omega (arith, most)) (omega (arith, few_rounds)) (omega (arith, few_rounds)) (omega (arith, none, most)))
      (drafted q.state on.calm x.items (item_of (1000 * r) (2000 * r))) (any_then (after_line q.state (Items x.items (item_of (1000 * r) (2000 * r))))))
      (λ last. rest (line_played q (number + 1) (items_line r x)) (number + 1 + 1) (ready_more (B + 0 + 0) B Any _ (omega arith) last) (omega (arith, few))))

  course_then : (course : Course) (N B : ℕ) (more : List (List ℕ)) → N + 7 ≤ 100000 → B + 299 ≤ 100000 → Goal (N + 7) (B + 299) more → Goal N B (course_lines x course ++ more)
  course_then Straight N B more short room rest =
      flow_then N B 200 more (omega (arith, short)) (omega arith) (omega (arith, room))
      (goal_more (N + 1) (N + 7) (B + 200) (B + 299) more (omega arith) (omega arith) rest)
  course_then Cancelled N B more short room rest =
      let first = f.first in
      let a = B + x.first in
      flow_then N B x.first (cancel_line x ∷ flow_line 200 ∷ more) (omega (arith, short)) (omega (arith, first)) (omega (arith, room, first))
      (cancel_then (N + 1) a (flow_line 200 ∷ more) (omega (arith, short)) (omega (arith, room, first))
      (flow_then (N + 1 + 1) (a + 8) 200 more (omega (arith, short)) (omega arith) (omega (arith, room, first))
      (goal_more (N + 1 + 1 + 1) (N + 7) (a + 8 + 200) (B + 299) more (omega arith) (omega (arith, first)) rest)))
  course_then Ticked N B more short room rest =
      let first = f.first in
      let a = B + x.first in
      let t = tick_line x in
      let last = flow_line 200 ∷ more in
      flow_then N B x.first (t ∷ t ∷ t ∷ t ∷ t ∷ last) (omega (arith, short)) (omega (arith, first)) (omega (arith, room, first))
      (tick_then (N + 1) a (t ∷ t ∷ t ∷ t ∷ last) (omega (arith, short)) (omega (arith, room, first))
      (tick_then (N + 1 + 1) (a + 8) (t ∷ t ∷ t ∷ last) (omega (arith, short)) (omega (arith, room, first))
      (tick_then (N + 1 + 1 + 1) (a + 8 + 8) (t ∷ t ∷ last) (omega (arith, short)) (omega (arith, room, first))
      (tick_then (N + 1 + 1 + 1 + 1) (a + 8 + 8 + 8) (t ∷ last) (omega (arith, short)) (omega (arith, room, first))
      (tick_then (N + 1 + 1 + 1 + 1 + 1) (a + 8 + 8 + 8 + 8) last (omega (arith, short)) (omega (arith, room, first))
      (flow_then (N + 1 + 1 + 1 + 1 + 1 + 1) (a + 8 + 8 + 8 + 8 + 8) 200 more (omega (arith, short)) (omega arith) (omega (arith, room, first))
      (goal_more (N + 1 + 1 + 1 + 1 + 1 + 1 + 1) (N + 7) (a + 8 + 8 + 8 + 8 + 8 + 200) (B + 299) more (omega arith) (omega (arith, first)) rest)))))))
  course_then Repeated N B more short room rest =
      let first = f.first in
      let a = B + x.first in
      flow_then N B x.first (deliver_line x ∷ flow_line 200 ∷ more) (omega (arith, short)) (omega (arith, first)) (omega (arith, room, first))
      (deliver_then (N + 1) a (flow_line 200 ∷ more) (omega (arith, short)) (omega (arith, room, first))
      (flow_then (N + 1 + 1) (a + 1) 200 more (omega (arith, short)) (omega arith) (omega (arith, room, first))
      (goal_more (N + 1 + 1 + 1) (N + 7) (a + 1 + 200) (B + 299) more (omega arith) (omega (arith, first)) rest)))

  round_then : (N B r : ℕ) (more : List (List ℕ)) → N + 10 ≤ 100000 → B + 307 ≤ 100000 → r ≤ 200 → Goal (N + 10) (B + 307) more → Goal N B (round_lines r x ++ more)
  round_then N B r more short room few rest =
      items_then N B r (begin_line x ∷ (course_lines x x.course ++ more)) (omega (arith, short)) few
      (begin_then (N + 2) B (course_lines x x.course ++ more) (omega (arith, short)) (omega (arith, room))
      (course_then x.course (N + 2 + 1) (B + 8) more (omega (arith, short)) (omega (arith, room))
      (goal_more (N + 2 + 1 + 7) (N + 10) (B + 8 + 299) (B + 307) more (omega arith) (omega arith) rest)))

-- so many rounds, each of which counts for 307 at most: a begin, 59 frames, five ticks and 200 frames
pub rounds_then : (left r s N B : ℕ) → N + 10 * left ≤ 100000 → B + 307 * left ≤ 100000 → r + left ≤ 201 → Goal N B (lines_from left r s)
rounds_then zero r s N B short room few = λ p number ready inside. ready_final B Any p ready
rounds_then (suc left) r s N B short room few =
    round_then (round_from s) (fair s) N B r (lines_from left (r + 1) (after 6 s)) (omega (arith, short)) (omega (arith, room)) (omega (arith, few))
    (rounds_then left (r + 1) (after 6 s) (N + 10) (B + 307) (omega (arith, short)) (omega (arith, room)) (omega (arith, few)))
