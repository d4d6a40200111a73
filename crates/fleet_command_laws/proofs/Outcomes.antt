-- What holds of a node and of the frames that it has sent since a call began, step by step of the call.
use Rattle.std.proofs.Common.{◌≡◌, ℕ, nat_lt, List, [], ◌∷◌, ◌++◌, Option, Some, None, sym, ap, subst, append_assoc, ◌∙◌}
use Rattle.std.proofs.lemmas.List.{append-nil}
use Rattle.plan_items.specs.declared.messages.PlanMsg.{PlanMsg}
use Rattle.mav_frame.specs.Packet.{Packet}
use Rattle.mav_messages.specs.declared.messages.Message.{Message}
use Rattle.mav_messages.specs.Plans.{message_of_plan}
use Rattle.mav_sign.specs.History.{next_in, greatest_stamp}
use Rattle.mav_nodes.specs.News.{NodeEvent}
use Rattle.mav_nodes.specs.Links.{Link, Outcome, done, after_events, and_then, sent_at, sends, sends_all}
use Rattle.mav_nodes.specs.Signed.{signed_packet}
use Rattle.mav_nodes.specs.Steps.{Side, answers, with_core}
use Rattle.fleet_world.specs.Steps.{packets_in}
use Rattle.fleet_invariants.proofs.Tests.{by_test}
use Rattle.fleet_invariants.proofs.Nodes.{Silent, packets_more, silent_none}

-- after a call, if it is done, when these frames were sent before it
abbrev pub Goes : {A : Type 0} → (A → List Packet → Type 0) → List Packet → Outcome A → Type 0
Goes P ps None = Unit {0}
Goes P ps (Some d) = P d.node (ps ++ packets_in d.events)

pub goes_behind : {A : Type 0} (P : A → List Packet → Type 0) (ps : List Packet) (es : List NodeEvent) (o : Outcome A) → Goes P (ps ++ packets_in es) o → Goes P ps (after_events es o)
goes_behind P ps es None h = tt
goes_behind P ps es (Some d) h =
    subst (P d.node) (append_assoc ps (packets_in es) (packets_in d.events) ∙ ap (λ qs. ps ++ qs) (sym (packets_more es d.events))) h

pub goes_quietly : {A : Type 0} (P : A → List Packet → Type 0) (ps : List Packet) (es : List NodeEvent) (o : Outcome A) → Silent es → Goes P ps o → Goes P ps (after_events es o)
goes_quietly P ps es o silent h =
    goes_behind P ps es o (subst (λ qs. Goes P qs o) (sym (ap (λ qs. ps ++ qs) (silent_none es silent) ∙ append-nil ps)) h)

pub goes_then : {A B : Type 0} (P : A → List Packet → Type 0) (R : B → List Packet → Type 0) (ps : List Packet) (o : Outcome A) (next : A → Outcome B) → Goes P ps o → ((a : A) (qs : List Packet) → P a qs → Goes R qs (next a)) → Goes R ps (and_then o next)
goes_then P R ps None next h each = tt
goes_then P R ps (Some d) next h each = goes_behind R ps d.events (next d.node) (each d.node (ps ++ packets_in d.events) h)

pub goes_still : {A : Type 0} (P : A → List Packet → Type 0) (ps : List Packet) (a : A) (es : List NodeEvent) → Silent es → P a ps → Goes P ps (done a es)
goes_still P ps a es silent h = subst (P a) (sym (ap (λ qs. ps ++ qs) (silent_none es silent) ∙ append-nil ps)) h

pub goes_weaker : {A : Type 0} (P R : A → List Packet → Type 0) (ps : List Packet) (o : Outcome A) → ((a : A) (qs : List Packet) → P a qs → R a qs) → Goes P ps o → Goes R ps o
goes_weaker P R ps None each h = tt
goes_weaker P R ps (Some d) each h = each d.node (ps ++ packets_in d.events) h

-- ---- frames that a link sends

-- the frame of a message, and the link after it
abbrev pub frame_at : ℕ → Message → Link → Packet
frame_at clock m link = signed_packet link.key link.extras link.me link.seq (next_in link.history clock) m

abbrev pub link_at : ℕ → Link → Link
link_at clock link = sent_at (next_in link.history clock) link

pub goes_sends : (R : Link → List Packet → Type 0) (clock : ℕ) (m : Message) (link : Link) (ps : List Packet) → R (link_at clock link) (ps ++ frame_at clock m link ∷ []) → Goes R ps (sends clock m link)
goes_sends R clock m link ps h =
    by_test (Goes R ps) (nat_lt greatest_stamp (next_in link.history clock)) None _ (λ _. tt) (λ _. h)

-- what is kept by the sending of any message of a kind
abbrev pub IsSteady : (Link → List Packet → Type 0) → (Message → Type 0) → ℕ → Type 0
IsSteady P Kind clock = (m : Message) (link : Link) (ps : List Packet) → Kind m → P link ps → P (link_at clock link) (ps ++ frame_at clock m link ∷ [])

abbrev pub AllOf : (Message → Type 0) → List Message → Type 0
AllOf Kind [] = Unit {0}
AllOf Kind (m ∷ ms) = Kind m × AllOf Kind ms

pub all_of_both : (Kind : Message → Type 0) (ms ns : List Message) → AllOf Kind ms → AllOf Kind ns → AllOf Kind (ms ++ ns)
all_of_both Kind [] ns h k = k
all_of_both Kind (m ∷ ms) ns h k = (h.0, all_of_both Kind ms ns h.1 k)

module _ (P : Link → List Packet → Type 0) (Kind : Message → Type 0) (clock : ℕ) (steady : IsSteady P Kind clock) where
  pub goes_all : (ms : List Message) (link : Link) (ps : List Packet) → AllOf Kind ms → P link ps → Goes P ps (sends_all clock ms link)
  goes_all [] link ps kinds h = goes_still P ps link [] tt h
  goes_all (m ∷ ms) link ps kinds h =
      goes_then P P ps (sends clock m link) (sends_all clock ms) (goes_sends P clock m link ps (steady m link ps kinds.0 h)) (λ l qs k. goes_all ms l qs kinds.1 k)

  pub goes_answers : ((m : PlanMsg) → Kind (message_of_plan m)) → (answer : Option PlanMsg) (link : Link) (ps : List Packet) → P link ps → Goes P ps (answers clock answer link)
  goes_answers plans None link ps h = goes_still P ps link [] tt h
  goes_answers plans (Some m) link ps h = goes_sends P clock (message_of_plan m) link ps (steady (message_of_plan m) link ps (plans m) h)

-- ---- a core and services beside the link

module _ {Core Services : Type 0} (R : Side Core Services → List Packet → Type 0) (core : Core) (services : Services) where
  abbrev beside : Link → Side Core Services
  beside link = record { link = link; core = core; services = services }

  with_silent : (ps : List Packet) (es last : List NodeEvent) → Silent last → ps ++ packets_in es ≡ ps ++ packets_in (es ++ last)
  with_silent ps es last silent =
      ap (λ qs. ps ++ qs) (sym (packets_more es last ∙ ap (λ qs. packets_in es ++ qs) (silent_none last silent) ∙ append-nil (packets_in es)))

  pub goes_core : (P : Link → List Packet → Type 0) (last : List NodeEvent) (ps : List Packet) (o : Outcome Link) → ((link : Link) (qs : List Packet) → P link qs → R (record { link = link; core = core; services = services }) qs) → Silent last → Goes P ps o → Goes R ps (with_core core services last o)
  goes_core P last ps None each silent h = tt
  goes_core P last ps (Some d) each silent h =
      subst (R (beside d.node)) (with_silent ps d.events last silent) (each d.node (ps ++ packets_in d.events) h)
