-- Steps of a whole state, in both worlds.
use Rattle.std.proofs.Common.{false, ◌≡◌, ℕ, zero, suc, ◌+◌, ◌≤◌, List, [], ◌∷◌, ◌++◌, length, position, slice_get, slice_set, Option, Some, None, Ok, Err, refl, sym, ap, subst, arith, ◌∙◌}
use Rattle.std.specs.Prelude.{nat_le}
use Rattle.std.specs.declared.result.Result.{Result}
use Rattle.std.proofs.lemmas.List.{append-nil}
use Rattle.mav_frame.specs.FinalParse.{final_parse}
use Rattle.mav_profile.specs.Messages.{extras_of}
use Rattle.mav_profile.specs.Profile.{profile_definitions}
use Rattle.mav_sign.specs.Endpoints.{frames_of}
use Rattle.mav_nodes.proofs.Sendings.{same_bytes_same_frame}
use Rattle.mav_names.specs.declared.names.Name.{Name}
use Rattle.mav_frame.specs.Packet.{Packet}
use Rattle.mav_frame.specs.Encoding.{encoding}
use Rattle.plan_upload.specs.Addresses.{same_name}
use Rattle.plan_safety.specs.World as world
use Rattle.plan_safety.specs.World.{Nodes, Distinct, World}
use Rattle.plan_safety.specs.History.{final}
use Rattle.plan_safety.proofs.Keys.{by_test}
use Rattle.mav_sign.specs.Signing.{Verifies}
use Rattle.mav_nodes.specs.Links.{Outcome}
use Rattle.node_reports.specs.Nodes.{Node, Drone, node_name}
use Rattle.node_reports.specs.Calls.{node_receives}
use Rattle.node_reports.specs.Reporting.{reported_by}
use Rattle.fleet_world.specs.WorldState.{WorldState, is_named}
use Rattle.fleet_world.specs.declared.locations.Location.{Location}
use Rattle.fleet_world.specs.Steps.{Step, StepError, rests, after_events, and_then, most_frames, packets_in, node_does, calls_at, calls_found, calls, given_to, given_from, given_to_all, flow_next, flows, delivers, locates_as}
use Rattle.fleet_invariants.proofs.Restated.{sound_restated}
use Rattle.fleet_invariants.proofs.Heard.{reads_alone}
use Rattle.fleet_invariants.specs.Sound.{link_of, Sound}
use Rattle.fleet_invariants.specs.Kept.{IsAmong, Known, OutcomeReads, Keeps}
use Rattle.fleet_invariants.specs.Laws.{EveryCallKeeps, SentKnown}
use Rattle.fleet_safety.specs.Actions.{Action, Order, acts, datagram_heard, at_index, if_found, at_node, and_next, frame_given, row_given, flown, flow_actions, delivered}
use Rattle.fleet_safety.specs.Safe.{events_of, report_of}
use Rattle.fleet_safety.proofs.Lists.{by_both}
use Rattle.fleet_safety.proofs.Names.{Kept, kept, kept_on, set_kept}
use Rattle.fleet_safety.proofs.Frames.{IsFirst, sent_first}
use Rattle.fleet_safety.proofs.Own.{own_nothing}
use Rattle.fleet_safety.proofs.Follows.{Follows, report_on, final_after, follows_on}
use Rattle.fleet_safety.proofs.Fits.{Fits, Led, Leads}
use Rattle.fleet_safety.proofs.Datagrams.{EachKnown, each_known, receives_is, HeardAll, HearsAll, frames_hear}

-- a step of the state, in these actions; what holds then of the state and the world
pub record StateLed (n : Nodes) (w : World) (P : WorldState → World → Type 0) (t : Step) (actions : List Action) : Type 0 where
  pub follows : Follows n w actions
  pub report : report_of actions ≡ t.events
  pub holds : P t.state (final n w (events_of actions))

abbrev pub StateLeads : Nodes → World → (WorldState → World → Type 0) → Result Step StepError → List Action → Type 0
StateLeads n w P (Ok t) actions = StateLed n w P t actions
StateLeads n w P (Err error) actions = Unit {0}

pub state_maps : (n : Nodes) (w : World) (P Q : WorldState → World → Type 0) (r : Result Step StepError) (actions : List Action) → StateLeads n w P r actions → ((t : WorldState) (v : World) → P t v → Q t v) → StateLeads n w Q r actions
state_maps n w P Q (Ok t) actions h k = record { follows = h.follows; report = h.report; holds = k _ _ h.holds }
state_maps n w P Q (Err error) actions h k = tt

pub state_rests : (n : Nodes) (w : World) (P : WorldState → World → Type 0) (s : WorldState) → P s w → StateLeads n w P (rests s) []
state_rests n w P s h = record { follows = tt; report = refl; holds = h }

-- one step and then another
pub state_then : (n : Nodes) (w : World) (P Q : WorldState → World → Type 0) (r : Result Step StepError) (actions : List Action) (next : WorldState → Result Step StepError) (nexts : WorldState → List Action) → StateLeads n w P r actions → ((t : WorldState) (v : World) → P t v → StateLeads n v Q (next t) (nexts t)) → StateLeads n w Q (and_then r next) (and_next r actions nexts)
state_then n w P Q (Err error) actions next nexts h k = tt
state_then n w P Q (Ok t) actions next nexts h k = after (next t.state) (k t.state (final n w (events_of actions)) h.holds)
  where
    after : (u : Result Step StepError) → StateLeads n (final n w (events_of actions)) Q u (nexts t.state) → StateLeads n w Q (after_events t.events u) (actions ++ nexts t.state)
    after (Err error) l = tt
    after (Ok u) l = record {
      follows = follows_on n w actions (nexts t.state) h.follows l.follows;
      report = report_on actions (nexts t.state) ∙ ap (λ es. es ++ report_of (nexts t.state)) h.report ∙ ap (λ es. t.events ++ es) l.report;
      holds = subst (Q u.state) (sym (final_after n w actions (nexts t.state))) l.holds;
    }

-- a sound state that fits a world, with the nodes and the frames of an earlier one
pub record Goes (n : Nodes) (s t : WorldState) (v : World) : Type 0 where
  pub sound : Sound t
  pub fits : Fits n t.clock t.nodes t.sent v
  pub kept : Kept s.nodes t.nodes
  pub sent : (i : ℕ) (p : Packet) → slice_get s.sent i ≡ Some p → slice_get t.sent i ≡ Some p

pub goes_still : (n : Nodes) (s : WorldState) (w : World) → Sound s → Fits n s.clock s.nodes s.sent w → Goes n s s w
goes_still n s w sound fits = record { sound = sound; fits = fits; kept = kept s.nodes; sent = λ i p e. e }

pub goes_on : (n : Nodes) (s t u : WorldState) (v z : World) → Goes n s t v → Goes n t u z → Goes n s u z
goes_on n s t u v z a b = record { sound = b.sound; fits = b.fits; kept = kept_on s.nodes t.nodes u.nodes a.kept b.kept; sent = λ i p e. b.sent i p (a.sent i p e) }

-- what the node at index `k` does, in one action; the draft may be another than in the state before
pub does_leads : (number : ℕ) (n : Nodes) (s from : WorldState) (w : World) (k : ℕ) (old : Node) → slice_get from.nodes k ≡ Some old → ((i : ℕ) (p : Packet) → slice_get from.sent i ≡ Some p → slice_get s.sent i ≡ Some p) → (o : Outcome Node) (es : List world.Event) (os : List Order) → Leads n from.clock from.nodes from.sent w k old (λ x. x) o es os → OutcomeReads o → Keeps s (node_does from k (node_name old) o) → StateLeads n w (Goes n from) (node_does from k (node_name old) o) (acts number es os (node_does from k (node_name old) o))
does_leads number n s from w k old there same None es os leads reads keeps = tt
does_leads number n s from w k old there same (Some d) es os leads reads keeps =
    by_test (λ r. Keeps s r → StateLeads n w (Goes n from) r (acts number es os r)) (nat_le (length from.sent + length (packets_in d.events)) most_frames) _ _
    (λ _ keeps. record {
      follows = (record { report = led.report; own = led.own; drones = λ index b e. (led.fits.stands index (Drone b) e).0 }, tt);
      report = append-nil (reported_by (node_name old) (length from.sent) d.events);
      holds = record {
        sound = keeps.sound;
        fits = subst (λ events. Fits n from.clock (slice_set from.nodes k d.node) (from.sent ++ packets_in d.events) (final n w events)) (sym (append-nil es)) led.fits;
        kept = set_kept from.nodes k old d.node there led.alike.role;
        sent = λ i p e. keeps.kept.sent i p (same i p e);
      };
    })
    (λ _ _. tt) keeps
  where
    led : Led n from.clock from.nodes from.sent w k old d es os
    led = leads reads

-- a datagram comes to the node at index `k`
hears_lead : (n : Nodes) (s : WorldState) (w : World) (k : ℕ) (old : Node) (actions : List Action) → slice_get s.nodes k ≡ Some old → (o : Outcome Node) → HearsAll n s w k old actions o → OutcomeReads o → Keeps s (node_does s k (node_name old) o) → StateLeads n w (Goes n s) (node_does s k (node_name old) o) actions
hears_lead n s w k old actions there None hears reads keeps = tt
hears_lead n s w k old actions there (Some d) hears reads keeps =
    by_test (λ r. Keeps s r → StateLeads n w (Goes n s) r actions) (nat_le (length s.sent + length (packets_in d.events)) most_frames) _ _
    (λ _ keeps. record {
      follows = all.follows;
      report = all.report;
      holds = record { sound = keeps.sound; fits = all.fits; kept = set_kept s.nodes k old d.node there all.alike.role; sent = keeps.kept.sent };
    })
    (λ _ _. tt) keeps
  where
    all : HeardAll n s w k old actions d
    all = hears reads

-- a frame that was sent is the first with its bytes
first_sent : (s : WorldState) → Sound s → (p : Packet) → IsAmong s.sent p → IsFirst s.sent p
first_sent s sound p h =
    sent_first s.sent p h.index h.found
    (λ j q e same. same_bytes_same_frame (extras_of profile_definitions) q p (reads_alone s sound q (sound.sent j q e)) (reads_alone s sound p (sound.sent h.index p h.found)) same)

module _ (number : ℕ) (n : Nodes) (distinct : Distinct n) (every_call : EveryCallKeeps) (sent_known : SentKnown) where
  -- bytes of which each frame that verifies was sent come to the node at index `k`
  pub bytes_lead : (s : WorldState) (w : World) → Sound s → Fits n s.clock s.nodes s.sent w → (bytes : List ℕ) → Known s bytes → (k : ℕ) (a : Node) → slice_get s.nodes k ≡ Some a → StateLeads n w (Goes n s) (node_does s k (node_name a) (node_receives s.clock bytes a)) (datagram_heard number bytes s k a)
  bytes_lead s w sound fits bytes known k a there =
      let link = sound.links k a there in
      let keeps = (every_call s sound).receives bytes known k a (node_name a) there in
      hears_lead n s w k a (datagram_heard number bytes s k a) there (node_receives s.clock bytes a)
      (subst (HearsAll n s w k a (datagram_heard number bytes s k a)) (sym (receives_is s.clock bytes a))
      (frames_hear number n distinct k (frames_of (final_parse (link_of a).extras false bytes)) s w a fits there (each_of link.key link.extras)))
      keeps.1 keeps.0
    where
      each_of : (link_of a).key ≡ s.key → (link_of a).extras ≡ extras_of profile_definitions → EachKnown (link_of a).key s.sent (frames_of (final_parse (link_of a).extras false bytes))
      each_of key extras =
          subst (λ x. EachKnown (link_of a).key s.sent (frames_of (final_parse x false bytes))) (sym extras)
          (each_known (link_of a).key s.sent (frames_of (final_parse (extras_of profile_definitions) false bytes))
          (λ index p e v. first_sent s sound p (known index p e (subst (λ key. Verifies key p p.block) key v))))

  -- a call of the node of a name
  module _ (s : WorldState) (w : World) (sound : Sound s) (fits : Fits n s.clock s.nodes s.sent w) where
    placed_leads : (call : Node → Outcome Node) (does : WorldState → ℕ → Node → List Action) → ((k : ℕ) (a : Node) → slice_get s.nodes k ≡ Some a → StateLeads n w (Goes n s) (node_does s k (node_name a) (call a)) (does s k a)) → (k : ℕ) (o : Option Node) → slice_get s.nodes k ≡ o → StateLeads n w (Goes n s) (calls_at s k o call) (at_index s k o does)
    placed_leads call does lead k None e = state_rests n w (Goes n s) s (goes_still n s w sound fits)
    placed_leads call does lead k (Some a) e = lead k a e

    pub calls_lead : (name : Name) (call : Node → Outcome Node) (does : WorldState → ℕ → Node → List Action) → ((k : ℕ) (a : Node) → slice_get s.nodes k ≡ Some a → StateLeads n w (Goes n s) (node_does s k (node_name a) (call a)) (does s k a)) → StateLeads n w (Goes n s) (calls s name call) (at_node s name does)
    calls_lead name call does lead = by_place (position (is_named name) s.nodes)
      where
        by_place : (o : Option ℕ) → StateLeads n w (Goes n s) (calls_found s o call) (if_found s o does)
        by_place None = state_rests n w (Goes n s) s (goes_still n s w sound fits)
        by_place (Some k) = placed_leads call does lead k (slice_get s.nodes k) refl

    -- a sent frame that is given once more
    pub delivers_lead : (which : ℕ) (name : Name) (i : ℕ) (o : Option Packet) → slice_get s.sent i ≡ o → StateLeads n w (Goes n s) (delivers s which name o) (delivered number s which name o)
    delivers_lead which name i None e = record {
      follows = (record { report = refl; own = own_nothing n w; drones = λ index d e. (fits.stands index (Drone d) e).0 }, tt);
      report = refl;
      holds = goes_still n s w sound fits;
    }
    delivers_lead which name i (Some p) e = calls_lead name (node_receives s.clock (encoding p)) (datagram_heard number (encoding p)) (bytes_lead s w sound fits (encoding p) (sent_known s sound i p e))

    -- where a drone is
    pub locates_lead : (drone : Name) (at : Option Location) → StateLeads n w (Goes n s) (locates_as s drone at) (acts number [] [] (locates_as s drone at))
    locates_lead drone None = record {
      follows = (record { report = refl; own = own_nothing n w; drones = λ index d e. (fits.stands index (Drone d) e).0 }, tt);
      report = refl;
      holds = goes_still n s w sound fits;
    }
    locates_lead drone (Some at) = record {
      follows = (record { report = refl; own = own_nothing n w; drones = λ index d e. (fits.stands index (Drone d) e).0 }, tt);
      report = refl;
      holds = goes_still n s w sound fits;
    }

    given_leads : (p : Packet) (i : ℕ) → slice_get s.sent i ≡ Some p → (k : ℕ) (o : Option Node) → slice_get s.nodes k ≡ o → StateLeads n w (Goes n s) (given_to s k p o) (frame_given number s k p o)
    given_leads p i sent_p k None e = state_rests n w (Goes n s) s (goes_still n s w sound fits)
    given_leads p i sent_p k (Some a) e =
        by_both (StateLeads n w (Goes n s)) (same_name (node_name a) p.from) _ _ _ _
        (state_rests n w (Goes n s) s (goes_still n s w sound fits))
        (bytes_lead s w sound fits (encoding p) (sent_known s sound i p sent_p) k a e)

  -- one frame to nodes in a row
  row_leads : (p : Packet) (i : ℕ) (count k : ℕ) (s : WorldState) (w : World) → Sound s → Fits n s.clock s.nodes s.sent w → slice_get s.sent i ≡ Some p → StateLeads n w (Goes n s) (given_from s k count p) (row_given number s k count p)
  row_leads p i zero k s w sound fits e = state_rests n w (Goes n s) s (goes_still n s w sound fits)
  row_leads p i (suc count) k s w sound fits e =
      state_then n w (Goes n s) (Goes n s) (given_to s k p (slice_get s.nodes k)) (frame_given number s k p (slice_get s.nodes k)) (λ t. given_from t (k + 1) count p) (λ t. row_given number t (k + 1) count p) (given_leads s w sound fits p i e k (slice_get s.nodes k) refl)
      (λ t v a. state_maps n v (Goes n t) (Goes n s) (given_from t (k + 1) count p) (row_given number t (k + 1) count p) (row_leads p i count (k + 1) t v a.sound a.fits (a.sent i p e))
      (λ u z b. goes_on n s t u v z a b))

  -- the next frames of a flow
  next_leads : (then_on : WorldState → Result Step StepError) (then_act : WorldState → List Action) → ((t : WorldState) (v : World) → Sound t → Fits n t.clock t.nodes t.sent v → StateLeads n v (Goes n t) (then_on t) (then_act t)) → (s : WorldState) (w : World) → Sound s → Fits n s.clock s.nodes s.sent w → (o : Option Packet) → slice_get s.sent s.given ≡ o → StateLeads n w (Goes n s) (flow_next s o then_on) (flown number s o then_act)
  next_leads then_on then_act rest s w sound fits None e = state_rests n w (Goes n s) s (goes_still n s w sound fits)
  next_leads then_on then_act rest s w sound fits (Some p) e =
      let s1 : WorldState = record s { given = s.given + 1 } in
      let sound1 : Sound s1 = sound_restated s (s.given + 1) s.draft s.clock sound (within s.sent s.given p e) sound.draft (omega arith) sound.clock in
      state_then n w (Goes n s1) (Goes n s) (given_to_all s1 p) (row_given number s1 0 (length s.nodes) p) then_on then_act (row_leads p s.given (length s.nodes) 0 s1 w sound1 fits e)
      (λ t v a. state_maps n v (Goes n t) (Goes n s) (then_on t) (then_act t) (rest t v a.sound a.fits)
      (λ u z b. record { sound = b.sound; fits = b.fits; kept = kept_on s.nodes t.nodes u.nodes a.kept b.kept; sent = λ i q h. b.sent i q (a.sent i q h) }))
    where
      within : (xs : List Packet) (i : ℕ) (p : Packet) → slice_get xs i ≡ Some p → i + 1 ≤ length xs
      within [] zero p e = absurd (cc)
      within [] (suc i) p e = absurd (cc)
      within (x ∷ xs) zero p e = omega arith
      within (x ∷ xs) (suc i) p e = let z = within xs i p e in omega arith

  pub flows_lead : (k : ℕ) (s : WorldState) (w : World) → Sound s → Fits n s.clock s.nodes s.sent w → StateLeads n w (Goes n s) (flows k s) (flow_actions number k s)
  flows_lead zero s w sound fits = state_rests n w (Goes n s) s (goes_still n s w sound fits)
  flows_lead (suc k) s w sound fits = next_leads (flows k) (flow_actions number k) (λ t v h f. flows_lead k t v h f) s w sound fits (slice_get s.sent s.given) refl
