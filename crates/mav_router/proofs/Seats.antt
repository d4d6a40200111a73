-- How a seat goes on in its turn.
use Rattle.std.proofs.Common.{◌≡◌, ◌∙◌, ℕ, ◌==◌, ◌≤◌, arith, Bool, false, true, List, [], ◌∷◌, ◌++◌, length, map, take, drop, Option, Some, None, if◌then◌else◌, refl, ap, sym, subst, append_assoc, append-nil}
use Rattle.std.proofs.lemmas.List.{map-append}
use Rattle.std.proofs.lemmas.List.Elements.{filter_map-append}
use mathlib.Core.List.{IsPrefix}
use Rattle.turnstile.specs.Labels.{EachPasses}
use Rattle.turnstile.specs.Participants.{Lock, Participant, HasItsOwn, entered, left}
use Rattle.turnstile.proofs.Preservation.{drop_all}
use Rattle.mav_frame.specs.Packet.{Packet}
use Rattle.mav_router.specs.declared.entries.Entry.{Entry}
use Rattle.mav_router.specs.declared.history.SwitchEvent.{SwitchEvent}
use Rattle.mav_router.specs.declared.history.SwitchEvent.TheVariants.{Opened, Admitted}
use Rattle.mav_router.specs.Journal.{Rules, SwitchState, frame_from, frames_from}
use Rattle.mav_router.specs.History.{history_of, entry_in, entries_in, label_of}
use Rattle.mav_router.specs.Parts.{IsSeated}
use Rattle.mav_router.specs.Found.{Keeps}
use Rattle.std.proofs.lemmas.Grind.{common_steps}

-- the entries of a history
entries_of : (journal : List Entry) → entries_in (map Admitted journal) ≡ journal
entries_of [] = refl
entries_of (entry ∷ journal) = ap (λ (l : List Entry). entry ∷ l) (entries_of journal)

pub entries_in_history : (rules : Rules) (journal : List Entry) → entries_in (history_of rules journal) ≡ journal
entries_in_history rules journal = entries_of journal

abbrev rules_in : Rules → List SwitchEvent → Rules
rules_in d [] = d
rules_in d (Opened rules ∷ events) = rules
rules_in d (Admitted entry ∷ events) = d

-- a switch whose history begins with what a seat has seen
pub begins_with : (rules : Rules) (seen : List SwitchEvent) (v : SwitchState) → seen ≡ history_of rules (entries_in seen) → IsPrefix seen (history_of v.rules v.journal) → (v.rules ≡ rules) × IsPrefix (entries_in seen) v.journal
begins_with rules seen v is p = (
  ap (rules_in rules) (sym p.1 ∙ ap (λ (s : List SwitchEvent). s ++ p.0) is),
  (entries_in p.0, sym (filter_map-append entry_in seen p.0) ∙ (ap entries_in p.1 ∙ entries_in_history v.rules v.journal)),
)

-- what holds of a seat after its turn
pub record Turned (lock : Lock SwitchEvent) (rules : Rules) (port : ℕ) (own : List SwitchEvent) (journal : List Entry) (seat last : Participant SwitchEvent) : Type 0 where
  pub seated : IsSeated lock rules port last
  pub added : last.own ≡ own
  pub entries : entries_in last.seen ≡ journal
  pub begins : IsPrefix (entries_in seat.seen) (entries_in last.seen)

turned : (lock : Lock SwitchEvent) (rules : Rules) (port : ℕ) (seat last : Participant SwitchEvent) (v n : SwitchState) (own : List SwitchEvent) (more : List Entry) → IsSeated lock rules port seat → IsPrefix seat.seen (history_of v.rules v.journal) → last ≡ left (entered seat (history_of v.rules v.journal)) (history_of n.rules n.journal) → HasItsOwn last → n.rules ≡ v.rules → n.journal ≡ v.journal ++ more → last.own ≡ own → EachPasses (λ e. label_of e == port) own → Turned lock rules port own n.journal seat last
turned lock rules port seat last v n own more s prefix is stands by goes own_is passes =
    let b = begins_with rules seat.seen v s.history prefix in
    let seen : last.seen ≡ history_of n.rules n.journal = ap (λ (p : Participant SwitchEvent). p.seen) is in
    let entries : entries_in last.seen ≡ n.journal = ap entries_in seen ∙ entries_in_history n.rules n.journal in
    record {
      seated = record {
        enters = record { of = ap (λ (p : Participant SwitchEvent). p.lock) is ∙ s.enters.of; outside = ap (λ (p : Participant SwitchEvent). p.has_turn) is };
        own = stands;
        history = seen ∙ (ap (λ (r : Rules). history_of r n.journal) (by ∙ b.0) ∙ ap (history_of rules) (sym entries));
        labels = subst (EachPasses (λ e. label_of e == port)) (sym own_is) passes;
      };
      added = own_is;
      entries = entries;
      begins = (b.1.0 ++ more, sym (append_assoc (entries_in seat.seen) b.1.0 more) ∙ (ap (λ (l : List Entry). l ++ more) b.1.1 ∙ (sym goes ∙ sym entries)));
    }

-- nothing was added
pub looked : (lock : Lock SwitchEvent) (rules : Rules) (port : ℕ) (seat middle last : Participant SwitchEvent) (v n : SwitchState) → IsSeated lock rules port seat → IsPrefix seat.seen (history_of v.rules v.journal) → middle ≡ entered seat (history_of v.rules v.journal) → last ≡ left middle (history_of n.rules n.journal) → HasItsOwn last → n.rules ≡ v.rules → n.journal ≡ v.journal → Turned lock rules port seat.own n.journal seat last
looked lock rules port seat middle last v n s prefix enters leaves stands by same =
    let before = history_of v.rules v.journal in
    let is = leaves ∙ ap (λ (m : Participant SwitchEvent). left m (history_of n.rules n.journal)) enters in
    let after : history_of n.rules n.journal ≡ before ++ [] = ap (λ (r : Rules). history_of r n.journal) by ∙ (ap (history_of v.rules) same ∙ sym (append-nil before)) in
    let own = ap (λ (p : Participant SwitchEvent). p.own) is ∙ (ap (λ (h : List SwitchEvent). seat.own ++ drop (length before) h) after ∙ (ap (λ (d : List SwitchEvent). seat.own ++ d) (drop_all before []) ∙ append-nil seat.own)) in
    turned lock rules port seat last v n seat.own [] s prefix is stands by (same ∙ sym (append-nil v.journal)) own s.labels

pub passes_both : {E : Type 0} (p : E → Bool) (xs ys : List E) → EachPasses p xs → EachPasses p ys → EachPasses p (xs ++ ys)
passes_both p [] ys a b = b
passes_both p (x ∷ xs) ys a b = (a.0, passes_both p xs ys a.1 b)

-- entries of the port are events with its label
passes_admitted : (port : ℕ) (entries : List Entry) → EachPasses (λ (entry : Entry). entry.port == port) entries → EachPasses (λ e. label_of e == port) (map Admitted entries)
passes_admitted port [] all = tt
passes_admitted port (entry ∷ entries) all = (all.0, passes_admitted port entries all.1)

events_more : (v n : SwitchState) (more : List Entry) → n.rules ≡ v.rules → n.journal ≡ v.journal ++ more → history_of n.rules n.journal ≡ history_of v.rules v.journal ++ map Admitted more
events_more v n more by goes = ap (λ (r : Rules). history_of r n.journal) by ∙ (ap (history_of v.rules) goes ∙ ap (λ (l : List SwitchEvent). Opened v.rules ∷ l) (map-append Admitted v.journal more))

-- entries of the port were added
pub added : (lock : Lock SwitchEvent) (rules : Rules) (port : ℕ) (seat middle last : Participant SwitchEvent) (v n : SwitchState) (frames : List Packet) → IsSeated lock rules port seat → IsPrefix seat.seen (history_of v.rules v.journal) → middle ≡ entered seat (history_of v.rules v.journal) → last ≡ left middle (history_of n.rules n.journal) → HasItsOwn last → n.rules ≡ v.rules → (k : Keeps port v.journal n.journal frames)
    → Turned lock rules port (seat.own ++ map Admitted k.more) n.journal seat last
added lock rules port seat middle last v n frames s prefix enters leaves stands by k =
    let before = history_of v.rules v.journal in
    let is = leaves ∙ ap (λ (m : Participant SwitchEvent). left m (history_of n.rules n.journal)) enters in
    let own = ap (λ (p : Participant SwitchEvent). p.own) is ∙ (ap (λ (h : List SwitchEvent). seat.own ++ drop (length before) h) (events_more v n k.more by k.goes) ∙ ap (λ (d : List SwitchEvent). seat.own ++ d) (drop_all before (map Admitted k.more))) in
    turned lock rules port seat last v n (seat.own ++ map Admitted k.more) k.more s prefix is stands by k.goes own (passes_both (λ e. label_of e == port) seat.own (map Admitted k.more) s.labels (passes_admitted port k.more k.ports))

abbrev pub with_first : Option Packet → List Packet → List Packet
with_first None frames = frames
with_first (Some frame) frames = frame ∷ frames

-- the frames of entries that are all of the port
frames_of_all : (port : ℕ) (entries : List Entry) → EachPasses (λ (entry : Entry). entry.port == port) entries → frames_from port entries ≡ map (λ (entry : Entry). entry.frame) entries
frames_of_all port [] all = refl
frames_of_all port (entry ∷ entries) all =
    ap (λ (b : Bool). with_first (if b then Some entry.frame else None) (frames_from port entries)) all.0 ∙ ap (λ (l : List Packet). entry.frame ∷ l) (frames_of_all port entries all.1)

-- the frames of a port after more of its entries, and of another port
pub kept_own : (port : ℕ) (before after : List Entry) (frames : List Packet) → Keeps port before after frames → frames_from port after ≡ frames_from port before ++ frames
kept_own port before after frames k =
    ap (frames_from port) k.goes
    ∙ (filter_map-append (frame_from port) before k.more ∙ ap (λ (l : List Packet). frames_from port before ++ l) (frames_of_all port k.more k.ports ∙ k.took))

differs : (m port other : ℕ) → (m == port) ≡ true → (other ≡ port → ⊥) → (m == other) ≡ false
differs m port other e apart = grind (arith, common_steps)

none_of_other : (port other : ℕ) (entries : List Entry) → (other ≡ port → ⊥) → EachPasses (λ (entry : Entry). entry.port == port) entries → frames_from other entries ≡ []
none_of_other port other [] apart all = refl
none_of_other port other (entry ∷ entries) apart all =
    ap (λ (b : Bool). with_first (if b then Some entry.frame else None) (frames_from other entries)) (differs entry.port port other all.0 apart) ∙ none_of_other port other entries apart all.1

pub kept_other : (port other : ℕ) (before after : List Entry) (frames : List Packet) → (other ≡ port → ⊥) → Keeps port before after frames → frames_from other after ≡ frames_from other before
kept_other port other before after frames apart k =
    ap (frames_from other) k.goes
    ∙ (filter_map-append (frame_from other) before k.more
    ∙ (ap (λ (l : List Packet). frames_from other before ++ l) (none_of_other port other k.more apart k.ports) ∙ append-nil (frames_from other before)))

-- the frames that a seat's entries have, after more
pub more_own : (port : ℕ) (own : List SwitchEvent) (before after : List Entry) (frames : List Packet) → (k : Keeps port before after frames) → frames_from port (entries_in (own ++ map Admitted k.more)) ≡ frames_from port (entries_in own) ++ frames
more_own port own before after frames k =
    ap (frames_from port) (filter_map-append entry_in own (map Admitted k.more) ∙ ap (λ (l : List Entry). entries_in own ++ l) (entries_of k.more))
    ∙ (filter_map-append (frame_from port) (entries_in own) k.more
    ∙ ap (λ (l : List Packet). frames_from port (entries_in own) ++ l) (frames_of_all port k.more k.ports ∙ k.took))

-- the history after a try
pub tried : (v n : SwitchState) (port : ℕ) (frames : List Packet) (seen : List SwitchEvent) → seen ≡ history_of v.rules v.journal → n.rules ≡ v.rules → Keeps port v.journal n.journal frames → IsPrefix seen (history_of n.rules n.journal)
tried v n port frames seen is by k = (map Admitted k.more, ap (λ (l : List SwitchEvent). l ++ map Admitted k.more) is ∙ sym (events_more v n k.more by k.goes))

pub prefix_then : {E : Type 0} (xs ys zs : List E) → IsPrefix xs ys → IsPrefix ys zs → IsPrefix xs zs
prefix_then xs ys zs p q = (p.0 ++ q.0, sym (append_assoc xs p.0 q.0) ∙ (ap (λ l. l ++ q.0) p.1 ∙ q.1))

-- what begins a list is the same of a longer one
pub take_prefix : {E : Type 0} (n : ℕ) (xs ys : List E) → n ≤ length xs → IsPrefix xs ys → take n ys ≡ take n xs
take_prefix n xs ys l p = ap (take n) (sym p.1) ∙ take_front n xs p.0 l
  where
    take_front : {E : Type 0} (n : ℕ) (xs more : List E) → n ≤ length xs → take n (xs ++ more) ≡ take n xs
    take_front n xs more l = grind (arith, common_steps)
