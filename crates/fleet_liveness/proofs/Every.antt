-- Every uncontended upload ends installed and acknowledged within its flow line.
use Rattle.std.proofs.Common.{◌≡◌, ◌∙◌, ℕ, ◌+◌, ◌*◌, ◌≤◌, Bool, false, List, [], ◌∷◌, ◌++◌, length, Option, Some, None, sym, ap, subst, arith, length-append, append_assoc}
use Rattle.std.specs.Prelude.{IfOk}
use Rattle.mav_names.specs.declared.names.Name.{Name}
use Rattle.plan_items.specs.declared.items.Item.{Item}
use Rattle.plan_items.specs.Kinds.{number_of}
use Rattle.plan_items.specs.Validation.{IsValid}
use Rattle.plan_upload.specs.Drone.{is_other}
use Rattle.plan_upload.specs.Refusals.{upload_refusal}
use Rattle.mav_sign.specs.History.{low_of, last_of}
use Rattle.scenario_lines.specs.declared.lines.Line.TheVariants.{Begin, Flow}
use Rattle.scenario_lines.specs.Grammar.{line_of}
use Rattle.mav_names.specs.Addresses.{drone_name}
use Rattle.node_reports.specs.Nodes.{Drone, Station, node_name}
use Rattle.fleet_world.specs.WorldState.{stream_of, drones_in}
use Rattle.fleet_world.specs.Steps.{Step, flows, after_line}
use Rattle.fleet_world.specs.Scenario.{ScenarioError, Played, at_start, goes_on, line_played, last_played, rest_played, unless_stopped, lines_played, played}
use Rattle.scenario_lines.specs.FileLines.{whole_lines, unfinished}
use Rattle.fleet_world.specs.Authentic.{AuthenticDone, UnlessStopped, HoldsOfLines, Authentic}
use Rattle.fleet_invariants.specs.Sound.{Sound}
use Rattle.fleet_invariants.proofs.Tests.{name_is}
use Rattle.fleet_invariants.proofs.Plays.{sound_start, sound_lines}
use Rattle.fleet_liveness.specs.Uncontended.{Upload, NextLine, Whole, Last, text_of, Lines, HaveLines, before, begun, next_played, flowed, HasHeard, IsUncontended, Installs, IsInstalled}
use Rattle.fleet_liveness.proofs.Begun.{begin_leads}
use Rattle.fleet_liveness.proofs.Onward.{line_done, last_done, Done, goes_done, Grows, grows_same, grows_then, lines_grow, end_grows, unless_none, one_line, front_and}

-- the prefix of authentic lines is authentic
unless_so : (stop : Option ScenarioError) (A B : Type 0) → (A → B) → UnlessStopped stop A → UnlessStopped stop B
unless_so None A B f h = f h
unless_so (Some stop) A B f h = tt

front_authentic : (front more : List (List ℕ)) (p : Played) (number : ℕ) → HoldsOfLines AuthenticDone p number (front ++ more) → HoldsOfLines AuthenticDone p number front
front_authentic [] more p number h = tt
front_authentic (raw ∷ front) more p number h = unless_so p.stop _ _ (λ x. (x.0, front_authentic front more (line_played p number raw) (number + 1) x.1)) h

front_is : (ended : Bool) (bytes : List ℕ) (front : List (List ℕ)) (begin : List ℕ) (flow : NextLine) → HaveLines ended bytes front begin flow → (more : List (List ℕ)) × (whole_lines bytes ≡ front ++ more)
front_is ended bytes front begin (Whole raw more) h = (begin ∷ raw ∷ more, h)
front_is ended bytes front begin (Last raw) h = (begin ∷ [], h.1.0)

-- an upload by its parts
upload_is : (u : Upload) (station drone : Name) (plan : List Item) → station ≡ u.station → drone ≡ u.drone → plan ≡ u.plan → record { station = station; drone = drone; kind = u.kind; plan = plan } ≡ u
upload_is u station drone plan a b c =
    ap (λ x. record { station = x; drone = drone; kind = u.kind; plan = plan }) a
    ∙ ap (λ x. record { station = u.station; drone = x; kind = u.kind; plan = plan }) b
    ∙ ap (λ x. record { station = u.station; drone = u.drone; kind = u.kind; plan = x }) c

-- the flow line was done
flow_goes : (p : Played) (number : ℕ) (flow : NextLine) (frames : ℕ) → line_of (text_of flow) ≡ Flow frames → (next_played p number flow).stop ≡ None → next_played p number flow ≡ goes_on p (flows frames p.state)
flow_goes p number (Whole raw more) frames says e = line_done p number raw e ∙ ap (λ l. goes_on p (after_line p.state l)) says
flow_goes p number (Last []) frames says e = absurd (cc)
flow_goes p number (Last (b ∷ bs)) frames says e = last_done p number b bs e ∙ ap (λ l. goes_on p (after_line p.state l)) says

-- what comes after the flow line only adds events
later : (key : List ℕ) (ended : Bool) (bytes : List ℕ) (front : List (List ℕ)) (begin : List ℕ) (flow : NextLine) → HaveLines ended bytes front begin flow
    → (let p = lines_played (at_start key) 1 front in p.stop ≡ None → (let b = line_played p (length front + 1) begin in b.stop ≡ None → Grows (next_played b (length front + 2) flow) (played key ended bytes)))
later key ended bytes front begin (Whole raw more) lines going_on begins =
    let p = lines_played (at_start key) 1 front in
    let b = line_played p (length front + 1) begin in
    let f = line_played b (length front + 2) raw in
    let all = lines_played (at_start key) 1 (whole_lines bytes) in
    let is : all ≡ lines_played f (length front + 2 + 1) more =
    ap (lines_played (at_start key) 1) lines ∙ front_and front (begin ∷ (raw ∷ more)) (at_start key) 1
    ∙ ap (λ n. lines_played p n (begin ∷ (raw ∷ more))) (let z : 1 + length front ≡ length front + 1 = omega arith in z)
    ∙ one_line p (length front + 1) begin (raw ∷ more) going_on
    ∙ ap (λ n. lines_played b n (raw ∷ more)) (let z : length front + 1 + 1 ≡ length front + 2 = omega arith in z)
    ∙ one_line b (length front + 2) raw more begins in
    grows_then f all (played key ended bytes) (subst (Grows f) (sym is) (lines_grow more f (length front + 2 + 1)))
    (end_grows ended all (length (whole_lines bytes) + 1) (unfinished bytes))
later key ended bytes front begin (Last raw) lines going_on begins =
    let p = lines_played (at_start key) 1 front in
    let b = line_played p (length front + 1) begin in
    let all = lines_played (at_start key) 1 (whole_lines bytes) in
    let is : all ≡ b =
    ap (lines_played (at_start key) 1) lines.1.0 ∙ front_and front (begin ∷ []) (at_start key) 1
    ∙ ap (λ n. lines_played p n (begin ∷ [])) (let z : 1 + length front ≡ length front + 1 = omega arith in z)
    ∙ one_line p (length front + 1) begin [] going_on in
    let count : length (whole_lines bytes) + 1 ≡ length front + 2 = (let z : length (whole_lines bytes) ≡ length front + 1 = ap length lines.1.0 ∙ length-append front (begin ∷ []) in omega arith) in
    let rest : played key ended bytes ≡ last_played b (length front + 2) raw =
    ap (λ (q : Played). unless_stopped q.stop q (rest_played ended q (length (whole_lines bytes) + 1) (unfinished bytes))) is
    ∙ unless_none b.stop b (rest_played ended b (length (whole_lines bytes) + 1) (unfinished bytes)) begins
    ∙ ap (λ e. rest_played e b (length (whole_lines bytes) + 1) (unfinished bytes)) lines.0
    ∙ ap (λ n. last_played b n (unfinished bytes)) count
    ∙ ap (last_played b (length front + 2)) lines.1.1 in
    subst (Grows (last_played b (length front + 2) raw)) (sym rest) (grows_same (last_played b (length front + 2) raw))

-- from this step on, a flow that is long enough ends the upload
abbrev LeadsOn : ℕ → Upload → Step → Type 0
LeadsOn drones u t = (k : ℕ) → 2 * length u.plan + 6 + drones ≤ k → IfOk (flows k t.state) (λ v. Installs u v.events)

module _ (key : List ℕ) (ended : Bool) (bytes : List ℕ) (authentic : Authentic key ended bytes) (l : Lines) (u : Upload) (h : IsUncontended key ended bytes l u) where
  -- the state before the begin line
  abbrev first : Played
  first = before key l

  sound : Sound first.state
  sound =
      let f = front_is ended bytes l.front l.begin l.flow h.lines in
      sound_lines (at_start key) (sound_start key) 1 l.front (front_authentic l.front f.0 (at_start key) 1 (subst (HoldsOfLines AuthenticDone (at_start key) 1) f.1 authentic.lines))

  -- the begin line was done
  begin_goes : begun key l ≡ goes_on first (after_line first.state (Begin u.station u.drone u.kind))
  begin_goes = line_done first (length l.front + 1) l.begin h.begin_done ∙ ap (λ x. goes_on first (after_line first.state x)) h.begins

  begin_on : IfOk (after_line first.state (Begin u.station u.drone u.kind)) (LeadsOn (drones_in first.state.nodes) u)
  begin_on =
      let s = first.state in
      let t = h.accepts.station in
      let d = h.is_free.drone in
      let drones = drones_in s.nodes in
      let d_core = sound.cores h.is_free.index (Drone d) h.is_free.found in
      let t_core = sound.cores h.accepts.index (Station t) h.accepts.found in
      let station_is : t.core.me ≡ u.station = t_core.me ∙ h.accepts.named in
      let drone_is : drone_name d.core.sys ≡ u.drone = name_is (drone_name d.core.sys) (node_name (Drone d)) d_core.sys (sym d_core.comp) ∙ h.is_free.named in
      let valid : IsValid (number_of u.kind) s.draft = subst (IsValid (number_of u.kind)) (sym h.plan_is) h.valid in
      let accepted : upload_refusal t.core (number_of u.kind) s.draft ≡ None = subst (λ x. upload_refusal t.core (number_of u.kind) x ≡ None) (sym h.plan_is) h.accepts.accepted in
      let free : is_other d.core.upload (stream_of t.core.me) ≡ false = subst (λ x. is_other d.core.upload (stream_of x) ≡ false) (sym station_is) h.is_free.free in
      let heard : HasHeard (low_of d.link.history) (last_of (stream_of (drone_name d.core.sys)) t.link.history) = subst (λ x. HasHeard (low_of d.link.history) (last_of (stream_of x) t.link.history)) (sym drone_is) h.heard in
      subst (λ v. IfOk (after_line s (Begin v.station v.drone v.kind)) (LeadsOn drones v)) (upload_is u t.core.me (drone_name d.core.sys) s.draft station_is drone_is h.plan_is)
      (begin_leads s sound h.is_free.index h.accepts.index d t h.is_free.found h.accepts.found u.kind valid accepted free heard)

  begin_line : Done (LeadsOn (drones_in first.state.nodes) u) first (after_line first.state (Begin u.station u.drone u.kind))
  begin_line = goes_done (LeadsOn (drones_in first.state.nodes) u) first (after_line first.state (Begin u.station u.drone u.kind)) (ap (λ (q : Played). q.stop) (sym begin_goes) ∙ h.begin_done) begin_on

  -- and the flow line
  flow_line : Done (λ v. Installs u v.events) (begun key l) (flows h.frames (begun key l).state)
  flow_line =
      let goes = flow_goes (begun key l) (length l.front + 2) l.flow h.frames h.flows h.flow_done in
      goes_done (λ v. Installs u v.events) (begun key l) (flows h.frames (begun key l).state) (ap (λ (q : Played). q.stop) (sym goes) ∙ h.flow_done)
      (subst (λ (q : Played). IfOk (flows h.frames q.state) (λ v. Installs u v.events)) (sym (begin_goes ∙ begin_line.is)) (begin_line.holds h.frames h.enough))

  pub uploads : IsInstalled key ended bytes l u
  uploads =
      let goes = flow_goes (begun key l) (length l.front + 2) l.flow h.frames h.flows h.flow_done in
      let within : (flowed key l).events ≡ (begun key l).events ++ flow_line.step.events = ap (λ (q : Played). q.events) (goes ∙ flow_line.is) in
      let more = later key ended bytes l.front l.begin l.flow h.lines h.front_done h.begin_done in
      record {
        events = flow_line.step.events;
        within = within;
        installs = flow_line.holds;
        later = more.more;
        whole = more.is ∙ ap (λ z. z ++ more.more) within ∙ append_assoc (begun key l).events flow_line.step.events more.more;
      }
