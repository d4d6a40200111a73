-- Messages of other services that a node sends: each is an event of its own, and nothing of them is reported of the mission
-- protocol.
use Rattle.std.proofs.Common.{◌≡◌, ℕ, ◌+◌, inr, nat_lt, List, [], ◌∷◌, ◌++◌, length, slice_get, slice_set, Option, Some, None, refl, sym, ap, subst, ◌∙◌, length-append}
use Rattle.std.proofs.lemmas.List.{append_assoc, append-nil}
use Rattle.mav_names.specs.declared.names.Stream.{Stream}
use Rattle.mav_frame.specs.Packet.{Packet}
use Rattle.plan_items.specs.declared.messages.PlanMsg.{PlanMsg}
use Rattle.plan_items.specs.declared.messages.PlanMsg.TheVariants.{Count, Request, Item, Ack, List as Lists, Clear, Ping}
use Rattle.plan_safety.specs.World as world
use Rattle.plan_safety.specs.World.{Nodes, World, Speaks}
use Rattle.plan_safety.specs.History.{Step, final, history}
use Rattle.plan_safety.proofs.Keys.{by_test}
use Rattle.mav_messages.specs.declared.messages.Message.{Message}
use Rattle.mav_messages.specs.Plans.{plan_of, message_of_plan}
use Rattle.mav_sign.specs.History.{next_in, greatest_stamp}
use Rattle.mav_nodes.specs.News.{NodeEvent, Sends, Installs, Empties, Drops, Ends, Ends_command, Gives_param, Ends_params, Reaches, Captures, Ends_file}
use Rattle.mav_nodes.specs.Links.{Link, Done, Outcome, done, after_events, and_then, sends_all, sent_at}
use Rattle.mav_nodes.specs.Steps.{Side, with_core, answers}
use Rattle.node_reports.specs.Nodes.{Node, node_name}
use Rattle.fleet_world.specs.Steps.{packets_in}
use Rattle.fleet_invariants.specs.Kept.{Reads, AllRead}
use Rattle.fleet_safety.specs.Reporting.{reported}
use Rattle.fleet_safety.specs.Actions.{Order, speaks, speaks_all}
use Rattle.fleet_safety.specs.Safe.{orders_in}
use Rattle.fleet_safety.proofs.Lists.{set_there, set_twice, set_same}
use Rattle.fleet_safety.proofs.Names.{role_name, role_on}
use Rattle.fleet_safety.proofs.Reports.{seen_by, seen_by_on, final_on, reported_on, packets_on}
use Rattle.fleet_safety.proofs.Own.{FewSteps}
use Rattle.fleet_safety.proofs.Follows.{history_on}
use Rattle.fleet_safety.proofs.Fits.{Fits, Alike, Led, Leads}
use Rattle.fleet_safety.proofs.Sendings.{packet_of, read_first, read_second}
use Rattle.fleet_safety.proofs.Services.{IsOther, AllOther, IsAside}

-- ---- what is said in some events

pub spoken_on : (wait : ℕ → world.Event) (me : Stream) (es fs : List NodeEvent) → speaks_all wait me (es ++ fs) ≡ speaks_all wait me es ++ speaks_all wait me fs
spoken_on wait me [] fs = refl
spoken_on wait me (Sends packet message ∷ es) fs =
    ap (λ r. speaks wait me packet (plan_of message) ++ r) (spoken_on wait me es fs)
    ∙ sym (append_assoc (speaks wait me packet (plan_of message)) (speaks_all wait me es) (speaks_all wait me fs))
spoken_on wait me (Installs kind items by ∷ es) fs = spoken_on wait me es fs
spoken_on wait me (Empties kind ∷ es) fs = spoken_on wait me es fs
spoken_on wait me (Drops answer ∷ es) fs = spoken_on wait me es fs
spoken_on wait me (Ends told ∷ es) fs = spoken_on wait me es fs
spoken_on wait me (Ends_command result ∷ es) fs = spoken_on wait me es fs
spoken_on wait me (Gives_param param ∷ es) fs = spoken_on wait me es fs
spoken_on wait me (Ends_params values ∷ es) fs = spoken_on wait me es fs
spoken_on wait me (Reaches number ∷ es) fs = spoken_on wait me es fs
spoken_on wait me (Captures total ∷ es) fs = spoken_on wait me es fs
spoken_on wait me (Ends_file end ∷ es) fs = spoken_on wait me es fs

-- a message of the mission protocol isn't
pub plan_unspoken : (wait : ℕ → world.Event) (me : Stream) (packet : Packet) (m : PlanMsg) → speaks wait me packet (plan_of (message_of_plan m)) ≡ []
plan_unspoken wait me packet (Count to count kind) = refl
plan_unspoken wait me packet (Request to seq kind) = refl
plan_unspoken wait me packet (Item to seq kind item) = refl
plan_unspoken wait me packet (Ack to code kind) = refl
plan_unspoken wait me packet (Lists to kind) = refl
plan_unspoken wait me packet (Clear to kind) = refl
plan_unspoken wait me packet (Ping to usec seq) = refl

-- ---- what a node says

-- these events of the world are what a node says
pub record Spoke (n : Nodes) (clock : ℕ) (nodes : List Node) (sent : List Packet) (w : World) (k : ℕ) (old : Node) (d : Done Node) (events : List world.Event) : Type 0 where
  pub unseen : seen_by (node_name old) (length sent) d.events ≡ []
  pub unreported : reported n w events ≡ []
  pub idle : (h : List Step) → history n w h events ≡ h
  pub alike : Alike old d.node
  pub fits : Fits n clock (slice_set nodes k d.node) (sent ++ packets_in d.events) (final n w events)

pub spoke_led : (n : Nodes) (clock : ℕ) (nodes : List Node) (sent : List Packet) (w : World) (k : ℕ) (old : Node) (d : Done Node) (events : List world.Event) → Spoke n clock nodes sent w k old d events → Led n clock nodes sent w k old d events []
spoke_led n clock nodes sent w k old d events s = record {
  report = s.unseen ∙ sym s.unreported;
  own = record { orders_are = ap orders_in (s.idle []); few = subst FewSteps (sym (s.idle [])) (inr tt) };
  alike = s.alike;
  fits = s.fits;
}

-- one call after another
module _ (n : Nodes) (clock : ℕ) (nodes : List Node) (sent : List Packet) (w : World) (k : ℕ) (old : Node) (d e : Done Node) (es fs : List world.Event) where
  abbrev pub both : Done Node
  both = record { node = e.node; events = d.events ++ e.events }

  abbrev After : Type 0
  After = Spoke n clock (slice_set nodes k d.node) (sent ++ packets_in d.events) (final n w es) k d.node e fs

  both_alike : Alike old d.node → Alike d.node e.node → Alike old e.node
  both_alike a b = record { role = role_on old d.node e.node a.role b.role; key = a.key ∙ b.key }

  both_fit : After → Fits n clock (slice_set nodes k both.node) (sent ++ packets_in both.events) (final n w (es ++ fs))
  both_fit s =
      subst (λ ns. Fits n clock ns (sent ++ packets_in (d.events ++ e.events)) (final n w (es ++ fs))) (set_twice nodes k d.node e.node)
      (subst (λ ps. Fits n clock (slice_set (slice_set nodes k d.node) k e.node) ps (final n w (es ++ fs))) (append_assoc sent (packets_in d.events) (packets_in e.events) ∙ ap (λ ps. sent ++ ps) (sym (packets_on d.events e.events)))
      (subst (Fits n clock (slice_set (slice_set nodes k d.node) k e.node) ((sent ++ packets_in d.events) ++ packets_in e.events)) (sym (final_on n w es fs)) s.fits))

  -- nothing more is seen, and nothing more happens to the store
  more_unseen : Alike old d.node → After → seen_by (node_name old) (length sent) both.events ≡ seen_by (node_name old) (length sent) d.events
  more_unseen a s =
      seen_by_on (node_name old) (length sent) d.events e.events
      ∙ ap (λ name. seen_by (node_name old) (length sent) d.events ++ seen_by name (length sent + length (packets_in d.events)) e.events) (role_name old d.node a.role)
      ∙ ap (λ i. seen_by (node_name old) (length sent) d.events ++ seen_by (node_name d.node) i e.events) (sym (length-append sent (packets_in d.events)))
      ∙ ap (λ r. seen_by (node_name old) (length sent) d.events ++ r) s.unseen
      ∙ append-nil (seen_by (node_name old) (length sent) d.events)

  more_unreported : After → reported n w (es ++ fs) ≡ reported n w es
  more_unreported s = reported_on n w es fs ∙ ap (λ r. reported n w es ++ r) s.unreported ∙ append-nil (reported n w es)

  more_idle : After → (h : List Step) → history n w h (es ++ fs) ≡ history n w h es
  more_idle s h = history_on n w h es fs ∙ s.idle (history n w h es)

  pub spoke_on : Spoke n clock nodes sent w k old d es → After → Spoke n clock nodes sent w k old both (es ++ fs)
  spoke_on r s = record {
    unseen = more_unseen r.alike s ∙ r.unseen;
    unreported = more_unreported s ∙ r.unreported;
    idle = λ h. more_idle s h ∙ r.idle h;
    alike = both_alike r.alike s.alike;
    fits = both_fit s;
  }

  pub led_on : (os : List Order) → Led n clock nodes sent w k old d es os → After → Led n clock nodes sent w k old both (es ++ fs) os
  led_on os r s = record {
    report = more_unseen r.alike s ∙ r.report ∙ sym (more_unreported s);
    own = record {
      orders_are = ap orders_in (more_idle s []) ∙ r.own.orders_are;
      few = subst FewSteps (sym (more_idle s [])) r.own.few;
    };
    alike = both_alike r.alike s.alike;
    fits = both_fit s;
  }

-- ---- one message after another

-- how one message is sent, for either role
pub record Speaker (n : Nodes) (clock k : ℕ) {Core Services : Type 0} (wrap : Side Core Services → Node) (wait : Stream → ℕ → world.Event) : Type 0 where
  pub one : (nodes : List Node) (sent : List Packet) (w : World) → Fits n clock nodes sent w → (a : Side Core Services) → slice_get nodes k ≡ Some (wrap a) → (m : Message) → IsOther m → Reads (Sends (packet_of a.link clock m) m)
      → Spoke n clock nodes sent w k (wrap a) (record { node = wrap (record a { link = sent_at (next_in a.link.history clock) a.link }); events = Sends (packet_of a.link clock m) m ∷ [] }) (wait a.link.me (next_in a.link.history clock) ∷ Speaks a.link.me ∷ [])
  pub alike : (a : Side Core Services) → Alike (wrap a) (wrap a)

-- in a call that is done
abbrev pub Says : {Core Services : Type 0} → Nodes → ℕ → List Node → List Packet → World → ℕ → (Side Core Services → Node) → (Stream → ℕ → world.Event) → Side Core Services → Outcome (Side Core Services) → Type 0
Says n clock nodes sent w k wrap wait a None = Unit {0}
Says n clock nodes sent w k wrap wait a (Some d) =
    AllRead d.events → Spoke n clock nodes sent w k (wrap a) (record { node = wrap d.node; events = d.events }) (speaks_all (wait a.link.me) a.link.me d.events)

module _ (n : Nodes) (clock k : ℕ) {Core Services : Type 0} (wrap : Side Core Services → Node) (wait : Stream → ℕ → world.Event) (speaker : Speaker n clock k wrap wait) (last : List NodeEvent) (aside : IsAside last) where
  -- no message: only what is reported at the end
  says_last : (nodes : List Node) (sent : List Packet) (w : World) → Fits n clock nodes sent w → (a : Side Core Services) → slice_get nodes k ≡ Some (wrap a) → Says n clock nodes sent w k wrap wait a (done a last)
  says_last nodes sent w fits a there _ =
      subst (Spoke n clock nodes sent w k (wrap a) (record { node = wrap a; events = last })) (sym (aside.unspoken (wait a.link.me) a.link.me)) (record {
        unseen = aside.unseen (node_name (wrap a)) (length sent);
        unreported = refl;
        idle = λ h. refl;
        alike = speaker.alike a;
        fits =
            subst (λ ns. Fits n clock ns (sent ++ packets_in last) w) (sym (set_same nodes k (wrap a) there))
            (subst (λ ps. Fits n clock nodes ps w) (sym (ap (λ ps. sent ++ ps) aside.none ∙ append-nil sent)) fits);
      })

  abbrev ends : Side Core Services → Outcome Link → Outcome (Side Core Services)
  ends a o = with_core a.core a.services last o

  -- one message, and then others
  module _ (nodes : List Node) (sent : List Packet) (w : World) (fits : Fits n clock nodes sent w) (a : Side Core Services) (there : slice_get nodes k ≡ Some (wrap a)) (m : Message) (other : IsOther m) where
    abbrev now : ℕ
    now = next_in a.link.history clock

    abbrev q : Packet
    q = packet_of a.link clock m

    abbrev b : Side Core Services
    b = record a { link = sent_at now a.link }

    abbrev events : List world.Event
    events = wait a.link.me now ∷ Speaks a.link.me ∷ []

    first : Reads (Sends q m) → Spoke n clock nodes sent w k (wrap a) (record { node = wrap b; events = Sends q m ∷ [] }) events
    first reads = speaker.one nodes sent w fits a there m other reads

    said_is : speaks (wait a.link.me) a.link.me q (plan_of m) ≡ events
    said_is = ap (speaks (wait a.link.me) a.link.me q) other

    more : (o : Outcome Link) → (Reads (Sends q m) → Says n clock (slice_set nodes k (wrap b)) (sent ++ q ∷ []) (final n w events) k wrap wait b (ends b o)) → Says n clock nodes sent w k wrap wait a (ends a (after_events (Sends q m ∷ []) o))
    more None rest = tt
    more (Some d) rest = λ reads.
        let e : Done Node = record { node = wrap (record { link = d.node; core = a.core; services = a.services }); events = d.events ++ last } in
        subst (λ es. Spoke n clock nodes sent w k (wrap a) (record { node = e.node; events = Sends q m ∷ e.events }) (es ++ speaks_all (wait a.link.me) a.link.me e.events)) (sym said_is)
        (spoke_on n clock nodes sent w k (wrap a) (record { node = wrap b; events = Sends q m ∷ [] }) e events (speaks_all (wait a.link.me) a.link.me e.events)
        (first reads.0) (rest reads.0 reads.1))

  pub says_all : (messages : List Message) → AllOther messages → (nodes : List Node) (sent : List Packet) (w : World) → Fits n clock nodes sent w → (a : Side Core Services) → slice_get nodes k ≡ Some (wrap a) → Says n clock nodes sent w k wrap wait a (ends a (sends_all clock messages a.link))
  says_all [] h nodes sent w fits a there = says_last nodes sent w fits a there
  says_all (m ∷ ms) h nodes sent w fits a there =
      by_test (λ o. Says n clock nodes sent w k wrap wait a (ends a (and_then o (sends_all clock ms)))) (nat_lt greatest_stamp (next_in a.link.history clock)) _ _ (λ _. tt)
      (λ _. more nodes sent w fits a there m h.0 (sends_all clock ms (sent_at (next_in a.link.history clock) a.link))
      (λ reads.
      let next : Side Core Services = record a { link = sent_at (next_in a.link.history clock) a.link } in
      says_all ms h.1 (slice_set nodes k (wrap next)) (sent ++ packet_of a.link clock m ∷ []) _ (first nodes sent w fits a there m h.0 reads).fits next (set_there nodes k (wrap a) (wrap next) there)))

-- ---- a call and what is said in it

abbrev pub said : {A : Type 0} → (ℕ → world.Event) → Stream → Outcome A → List world.Event
said wait me None = []
said wait me (Some d) = speaks_all wait me d.events

-- nothing is said in what is done
abbrev pub Unsaid : {A : Type 0} → (ℕ → world.Event) → Stream → Outcome A → Type 0
Unsaid wait me None = Unit {0}
Unsaid wait me (Some d) = speaks_all wait me d.events ≡ []

pub answers_unsaid : {Core Services : Type 0} (wait : ℕ → world.Event) (me : Stream) (clock : ℕ) (first last : List NodeEvent) (core : Core) (services : Services) (o : Option PlanMsg) (link : Link)
    → speaks_all wait me first ≡ [] → speaks_all wait me last ≡ [] → Unsaid wait me (after_events first (with_core core services last (answers clock o link)))
answers_unsaid wait me clock first last core services None link a b = spoken_on wait me first last ∙ ap (λ r. r ++ speaks_all wait me last) a ∙ b
answers_unsaid wait me clock first last core services (Some m) link a b =
    by_test (λ o. Unsaid wait me (after_events first (with_core core services last o))) (nat_lt greatest_stamp (next_in link.history clock)) _ _ (λ _. tt)
    (λ _.
    let q : Packet = packet_of link clock (message_of_plan m) in
    spoken_on wait me first (Sends q (message_of_plan m) ∷ last)
    ∙ ap (λ r. r ++ speaks_all wait me (Sends q (message_of_plan m) ∷ last)) a
    ∙ ap (λ r. r ++ speaks_all wait me last) (plan_unspoken wait me q m)
    ∙ b)

module _ (n : Nodes) (clock : ℕ) (nodes : List Node) (sent : List Packet) (w : World) (k : ℕ) where
  pub unsaid_leads : {A : Type 0} (old : Node) (wrap : A → Node) (wait : ℕ → world.Event) (me : Stream) (o : Outcome A) (es : List world.Event) (os : List Order) → Leads n clock nodes sent w k old wrap o es os → Unsaid wait me o
      → Leads n clock nodes sent w k old wrap o (es ++ said wait me o) os
  unsaid_leads old wrap wait me None es os h u = tt
  unsaid_leads old wrap wait me (Some d) es os h u = λ reads.
      subst (λ fs. Led n clock nodes sent w k old (record { node = wrap d.node; events = d.events }) fs os) (sym (ap (λ r. es ++ r) u ∙ append-nil es)) (h reads)

  pub says_leads : {Core Services : Type 0} (wrap : Side Core Services → Node) (wait : Stream → ℕ → world.Event) (a : Side Core Services) (o : Outcome (Side Core Services)) → Says n clock nodes sent w k wrap wait a o
      → Leads n clock nodes sent w k (wrap a) wrap o (said (wait a.link.me) a.link.me o) []
  says_leads wrap wait a None h = tt
  says_leads wrap wait a (Some d) h = λ reads. spoke_led n clock nodes sent w k (wrap a) (record { node = wrap d.node; events = d.events }) (speaks_all (wait a.link.me) a.link.me d.events) (h reads)

  -- a node that is another first, of the same stream
  pub then_says : {Core Services : Type 0} (wrap : Side Core Services → Node) (wait : Stream → ℕ → world.Event) (a b : Side Core Services) → a.link.me ≡ b.link.me → Spoke n clock nodes sent w k (wrap a) (record { node = wrap b; events = [] }) []
      → (o : Outcome (Side Core Services)) → Says n clock (slice_set nodes k (wrap b)) (sent ++ []) w k wrap wait b o → Says n clock nodes sent w k wrap wait a o
  then_says wrap wait a b same still None h = tt
  then_says wrap wait a b same still (Some d) h = λ reads.
      subst (λ me. Spoke n clock nodes sent w k (wrap a) (record { node = wrap d.node; events = d.events }) (speaks_all (wait me) me d.events)) (sym same)
      (spoke_on n clock nodes sent w k (wrap a) (record { node = wrap b; events = [] }) (record { node = wrap d.node; events = d.events }) [] (speaks_all (wait b.link.me) b.link.me d.events) still (h reads))

  -- a call in which nothing is said, and then another in which messages are
  pub led_says : {Core Services : Type 0} (wrap : Side Core Services → Node) (wait : Stream → ℕ → world.Event) (a : Side Core Services) (d : Done (Side Core Services)) (es : List world.Event) (os : List Order) → speaks_all (wait a.link.me) a.link.me d.events ≡ []
      → (Led n clock nodes sent w k (wrap a) (record { node = wrap d.node; events = d.events }) es os → a.link.me ≡ d.node.link.me)
      → (AllRead d.events → Led n clock nodes sent w k (wrap a) (record { node = wrap d.node; events = d.events }) es os) → (o : Outcome (Side Core Services))
      → (Led n clock nodes sent w k (wrap a) (record { node = wrap d.node; events = d.events }) es os → Says n clock (slice_set nodes k (wrap d.node)) (sent ++ packets_in d.events) (final n w es) k wrap wait d.node o)
      → Leads n clock nodes sent w k (wrap a) wrap (after_events d.events o) (es ++ said (wait a.link.me) a.link.me (after_events d.events o)) os
  led_says wrap wait a d es os unsaid same h None s = tt
  led_says wrap wait a d es os unsaid same h (Some e) s = λ reads.
      let first = h (read_first d.events e.events reads) in
      let me = same first in
      subst (λ fs. Led n clock nodes sent w k (wrap a) (record { node = wrap e.node; events = d.events ++ e.events }) (es ++ fs) os)
      (ap (λ m. speaks_all (wait m) m e.events) (sym me)
      ∙ sym (spoken_on (wait a.link.me) a.link.me d.events e.events ∙ ap (λ r. r ++ speaks_all (wait a.link.me) a.link.me e.events) unsaid))
      (led_on n clock nodes sent w k (wrap a) (record { node = wrap d.node; events = d.events }) (record { node = wrap e.node; events = e.events }) es (speaks_all (wait d.node.link.me) d.node.link.me e.events) os first
      (s first (read_second d.events e.events reads)))
