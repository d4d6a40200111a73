-- What is still to be reported, by the message that is on its way: the installation and the outcome, or the outcome alone.
use Rattle.std.proofs.Common.{◌≡◌, ◌∙◌, ℕ, ◌+◌, Bool, true, false, List, [], ◌∷◌, ◌++◌, Option, Some, refl, sym, ap, subst, append_assoc}
use Rattle.mav_names.specs.declared.names.Name.{Name}
use Rattle.plan_items.specs.declared.items.Item.{Item}
use Rattle.plan_items.specs.declared.kinds.PlanKind.{PlanKind}
use Rattle.plan_items.specs.Kinds.{number_of}
use Rattle.plan_items.specs.Validation.{IsValid}
use Rattle.plan_upload.specs.Station.{Told, Told_installed}
use Rattle.mav_frame.specs.Packet.{Packet}
use Rattle.mav_messages.specs.declared.messages.Message.{Message}
use Rattle.mav_nodes.specs.News.{NodeEvent, Sends}
use Rattle.mav_nodes.specs.Nodes.{told_events}
use Rattle.mav_names.specs.Addresses.{drone_name}
use Rattle.fleet_report.specs.Events.{Event, Sent, Installed, Ended}
use Rattle.node_reports.specs.Reporting.{reported_by}
use Rattle.fleet_world.specs.Steps.{packets_in}
use Rattle.fleet_liveness.specs.Uncontended.{Upload, Installs}
use Rattle.fleet_liveness.proofs.Stages.{Stage, Pings, Replies, Cancels, Settles, Counts, Asks, Gives, Acks, is_up, is_last, changes}

-- the station reports that the upload is installed
pub record ReportsInstalled (me : Name) (events : List Event) : Type 0 where
  pub first : List Event
  pub rest : List Event
  pub is : events ≡ first ++ Ended me Told_installed ∷ rest

abbrev pub goal_of : Upload → Bool → List Event → Type 0
goal_of u true events = ReportsInstalled u.station events
goal_of u false events = Installs u events

installs_behind : (u : Upload) (es events : List Event) → Installs u events → Installs u (es ++ events)
installs_behind u es events i = record {
  earlier = es ++ i.earlier;
  between = i.between;
  later = i.later;
  is = ap (λ z. es ++ z) i.is ∙ sym (append_assoc es i.earlier (Installed u.drone (number_of u.kind) u.plan u.station ∷ (i.between ++ Ended u.station Told_installed ∷ i.later)));
}

pub goal_behind : (u : Upload) (b : Bool) (es events : List Event) → goal_of u b events → goal_of u b (es ++ events)
goal_behind u true es events t = record { first = es ++ t.first; rest = t.rest; is = ap (λ z. es ++ z) t.is ∙ sym (append_assoc es t.first (Ended u.station Told_installed ∷ t.rest)) }
goal_behind u false es events i = installs_behind u es events i

-- the outcome's own event
pub reports_at : (u : Upload) (name : Name) → name ≡ u.station → (n : ℕ) (outcome : Option Told) → outcome ≡ Some Told_installed → (events : List Event) → events ≡ reported_by name n ((told_events outcome) ++ []) → (es : List Event) → goal_of u true (events ++ es)
reports_at u name named n outcome told events is es = record {
  first = [];
  rest = es;
  is = ap (λ z. z ++ es) (is ∙ ap (λ o. reported_by name n (told_events o ++ [])) told ∙ ap (λ x. Ended x Told_installed ∷ []) named);
}

pub up_not_last : {plan : List Item} (p : Stage plan) → is_up p ≡ true → is_last p ≡ false
up_not_last (Pings boot n) e = refl
up_not_last (Replies boot n) e = refl
up_not_last Cancels e = refl
up_not_last (Settles code known) e = refl
up_not_last Counts e = refl
up_not_last (Asks items x rest whole) e = refl
up_not_last (Gives items x rest whole) e = refl
up_not_last Acks e = absurd (cc)

module _ (sys : ℕ) (me : Name) (kind : PlanKind) (plan : List Item) (valid : IsValid (number_of kind) plan) where
  abbrev pub upload_of : Upload
  upload_of = record { station = me; drone = drone_name sys; kind = kind; plan = plan }

  abbrev pub Goal : Stage plan → List Event → Type 0
  Goal p events = goal_of upload_of (is_last p) events

  abbrev changes_to : Stage plan → List NodeEvent
  changes_to = changes sys me kind plan valid

  pub no_frames : (next : Stage plan) → packets_in (changes_to next) ≡ []
  no_frames (Pings boot n) = refl
  no_frames (Replies boot n) = refl
  no_frames Cancels = refl
  no_frames (Settles code known) = refl
  no_frames Counts = refl
  no_frames (Asks items x rest whole) = refl
  no_frames (Gives items x rest whole) = refl
  no_frames Acks = refl

  module _ (name : Name) (n : ℕ) (packet : Packet) (message : Message) (es : List Event) where
    abbrev told : List NodeEvent → List Event
    told first = reported_by name n (first ++ Sends packet message ∷ [])

    -- the drone's events, as the next message is
    drone_reports : name ≡ drone_name sys → (next : Stage plan) → Goal next es → Installs upload_of (told (changes_to next) ++ es)
    drone_reports named (Pings boot n) g = installs_behind upload_of (told []) es g
    drone_reports named (Replies boot n) g = installs_behind upload_of (told []) es g
    drone_reports named Cancels g = installs_behind upload_of (told []) es g
    drone_reports named (Settles code known) g = installs_behind upload_of (told []) es g
    drone_reports named Counts g = installs_behind upload_of (told []) es g
    drone_reports named (Asks items x rest whole) g = installs_behind upload_of (told []) es g
    drone_reports named (Gives items x rest whole) g = installs_behind upload_of (told []) es g
    drone_reports named Acks g =
        let sent : Event = Sent (n + 1) packet message in
        record {
          earlier = [];
          between = sent ∷ g.first;
          later = g.rest;
          is = ap (λ x. Installed x (number_of kind) plan me ∷ (sent ∷ es)) named ∙ ap (λ z. Installed (drone_name sys) (number_of kind) plan me ∷ (sent ∷ z)) g.is;
        }

    pub drone_goal : name ≡ drone_name sys → (p next : Stage plan) → is_up p ≡ true → (first : List NodeEvent) → first ≡ changes_to next → (events : List Event) → events ≡ told first → Goal next es → Goal p (events ++ es)
    drone_goal named p next up first is events all g =
        subst (λ b. goal_of upload_of b (events ++ es)) (sym (up_not_last p up))
        (subst (λ z. Installs upload_of (z ++ es)) (sym (all ∙ ap told is)) (drone_reports named next g))
