-- What each call leads to, from any run.
use Rattle.std.proofs.Common.{◌≡◌, ◌≢◌, ◌∙◌, ◌≤◌, ◌^◌, ℕ, ◌+◌, List, [], ◌∷◌, ◌++◌, length, map, slice_get, Option, Some, None, refl, sym, ap, subst}
use Rattle.std.specs.Prelude.{IfSome}
use Rattle.std.specs.Option.{option_map}
use Rattle.std.proofs.lemmas.Grind.{flat_map-append}
use Rattle.std.proofs.lemmas.List.{append-nil, map-append}
use Rattle.mav_sign.specs.Kept.{Kept}
use Rattle.mav_router.specs.Journal.{Rules}
use Rattle.relay_hub.specs.Hubs.{HubState, Tape as HubTape, blank, closes, gives, opens, takes}
use Rattle.relay_hub.specs.declared.news.Why.{Why}
use Rattle.relay_rules.specs.Steps.{opens as opens_at, closes as closes_at}
use Rattle.relay_rules.specs.States.{link_at}
use Rattle.relay_core.specs.declared.notes.Note.{Note}
use Rattle.relay_core.specs.declared.notes.Note.TheVariants.{Opened, Closed, Gave, Took, Asked}
use Rattle.relay_core.specs.Calls.{Hears, HearsInPart, IsWhole, Opens, RunIs}
use Rattle.relay_core.specs.Moves.{closed_run, opened_run, took_run}
use Rattle.relay_core.specs.RelayRuns.{RelayKept, RelayRun, Tape}
use Rattle.relay_core.specs.Said.{Notes, Said}
use Rattle.relay_core.specs.Strangers.{Judges, JudgesInPart}
use Rattle.relay_core.proofs.Stopping.{in_part}
use Rattle.relay_run.specs.declared.stops.Stop.{Stop}
use Rattle.relay_run.specs.declared.stops.Stop.TheVariants.{NumbersSpent}
use Rattle.relay_run.specs.Closing.{HasClosed}
use Rattle.relay_run.specs.Rounds.{Agrees, Goes, GoesInPart, bytes_of}
use Rattle.relay_run.specs.Saying.{Mark, marks_by, marks_noted, marks_of}
use Rattle.relay_run.specs.Taking.{joins}
use Rattle.relay_run.proofs.Agreeing.{agrees_closed, as_many, joined_tapes, agrees_gave, agrees_opened, agrees_took, gave_tapes, if_mapped, number_at, same_numbers}
use Rattle.relay_run.proofs.Marks.{heard_marks, refused_marks, told_more, told_note}

module _ {Watcher : Type 0} (rules : Rules) (told : Watcher → List Said → Type 0) where
  -- nothing happens in a run
  pub goes_noted : (was is : Watcher) (hub : Option HubState) (f : HubState → HubState) (view : RelayKept) (note : Note) → marks_noted note ≡ [] → ((s : HubState) → ((f s).tapes ≡ s.tapes) × ((f s).links ≡ s.links)) → Notes told was is note → Goes rules told was is hub (option_map f hub) view view
  goes_noted was is hub f view note none same notes start first r = record {
    run = r.run;
    goes_on = r.goes_on;
    telling = told_note told first was is r.run r.run note refl (sym (append-nil (marks_of r.run.events)) ∙ ap (λ (l : List Mark). marks_of r.run.events ++ l) (sym none)) r.telling notes;
    bytes = if_mapped hub f (Agrees r.run) (Agrees r.run) (λ s a. record { tapes = ap (map bytes_of) (same s).0 ∙ a.tapes; links = (same s).1 ∙ a.links }) r.bytes;
  }

  -- a link opens
  pub goes_opened : (was is : Watcher) (hub : Option HubState) (old new : RelayKept) (port : ℕ) → Opens rules port old new → Notes told was is (Opened (old.links.given + 1) port) → Goes rules told was is hub (option_map (opens (blank port)) hub) old new
  goes_opened was is hub old new port opening notes start first r =
      let run = r.run in
      let given = r.goes_on.holds.so_far.links.given in
      let now = opened_run port run in
      record {
        run = now;
        goes_on = opening start run r.goes_on.is_run r.goes_on.holds;
        telling = told_note told first was is run now (Opened (old.links.given + 1) port) refl
            (flat_map-append marks_by run.events (opens_at (run.course.state.given + 1) port ∷ []) ∙ ap (λ (n : ℕ). marks_of run.events ++ marks_noted (Opened (n + 1) port)) (sym given))
            r.telling notes;
        bytes = if_mapped hub (opens (blank port)) (Agrees run) (Agrees now) (λ s a. agrees_opened rules start run old port s r.goes_on a) r.bytes;
      }

  -- one closes
  pub goes_closed : (was is : Watcher) (hub : Option HubState) (old new : RelayKept) (index : ℕ) (why : Why) → HasClosed index why old new told was is → Goes rules told was is hub (option_map (closes index) hub) old new
  goes_closed was is hub old new index why c start first r =
      let run = r.run in
      let now = closed_run index run in
      let links = run.course.state.links in
      let number = number_at links index c.link (sym (ap (λ l. slice_get l index) r.goes_on.holds.so_far.links.links) ∙ c.there) in
      record {
        run = now;
        goes_on = (c.closes rules start run r.goes_on.is_run r.goes_on.holds).goes_on;
        telling = told_note told first was is run now (Closed c.link.number c.link.port why c.dropped) refl
            (flat_map-append marks_by run.events (closes_at (link_at links index).number ∷ []) ∙ ap (λ (n : ℕ). marks_of run.events ++ marks_by (closes_at n)) number)
            r.telling c.notes;
        bytes = if_mapped hub (closes index) (Agrees run) (Agrees now) (λ s a. agrees_closed run index s a) r.bytes;
      }

  -- an open link gives bytes
  pub goes_heard : (was noted is : Watcher) (hub : Option HubState) (old new : RelayKept) (index number port count : ℕ) (bytes : List ℕ) → new.links.links ≡ old.links.links → Notes told was noted (Gave number port count) → Hears rules index bytes old new told noted is → Goes rules told was is hub (option_map (gives index bytes) hub) old new
  goes_heard was noted is hub old new index number port count bytes same notes hears start first r =
      let run = r.run in
      let h = hears start run r.goes_on.is_run r.goes_on.holds in
      let numbers = same_numbers old.links new.links run.course.state h.now.course.state r.goes_on.holds.so_far.links h.goes_on.holds.so_far.links same in
      let gave = told_note told first was noted run run (Gave number port count) refl (sym (append-nil (marks_of run.events))) r.telling notes in
      record {
        run = h.now;
        goes_on = h.goes_on;
        telling = told_more told first noted is run h.now h.more h.course (heard_marks rules start run h.now h.since h.more r.goes_on.is_run h.goes_on.is_run h.events h.course h.frames) gave h.tells_it;
        bytes = if_mapped hub (gives index bytes) (Agrees run) (Agrees h.now) (λ s a. agrees_gave run h.now index bytes s h.tapes numbers a) r.bytes;
      }

  -- it takes some
  pub goes_took : (was is : Watcher) (hub : Option HubState) (old new : RelayKept) (index number port count : ℕ) (bytes : List ℕ) → ((start : Kept) (run : RelayRun) → RunIs rules start run old → RunIs rules start (took_run index bytes run) new) → Notes told was is (Took number port count) → Goes rules told was is hub (option_map (takes index bytes) hub) old new
  goes_took was is hub old new index number port count bytes goes notes start first r =
      let run = r.run in
      let now = took_run index bytes run in
      record {
        run = now;
        goes_on = goes start run r.goes_on;
        telling = told_note told first was is run now (Took number port count) refl (sym (append-nil (marks_of run.events))) r.telling notes;
        bytes = if_mapped hub (takes index bytes) (Agrees run) (Agrees now) (λ s a. agrees_took run index bytes s a) r.bytes;
      }

  -- what changes neither links nor their bytes
  pub goes_same : (was : Watcher) (hub : Option HubState) (f : HubState → HubState) (view : RelayKept) → ((s : HubState) → ((f s).tapes ≡ s.tapes) × ((f s).links ≡ s.links)) → Goes rules told was was hub (option_map f hub) view view
  goes_same was hub f view same start first r = record {
    run = r.run;
    goes_on = r.goes_on;
    telling = r.telling;
    bytes = if_mapped hub f (Agrees r.run) (Agrees r.run) (λ s a. record { tapes = ap (map bytes_of) (same s).0 ∙ a.tapes; links = (same s).1 ∙ a.links }) r.bytes;
  }

  -- somebody who has no link sends bytes
  pub goes_asked : (was noted is : Watcher) (hub : Option HubState) (f : HubState → HubState) (old new : RelayKept) (port count : ℕ) (bytes : List ℕ) (from : Option ℕ) → ((s : HubState) → ((f s).tapes ≡ s.tapes) × ((f s).links ≡ s.links)) → new.links.links ≡ old.links.links → Notes told was noted (Asked port count) → Judges rules port bytes old new told noted is from → Goes rules told was is hub (option_map f hub) old new
  goes_asked was noted is hub f old new port count bytes from unchanged same notes judges start first r =
      let run = r.run in
      let j = (judges start run r.goes_on).judged in
      let numbers = same_numbers old.links new.links run.course.state j.now.course.state r.goes_on.holds.so_far.links j.goes_on.holds.so_far.links same in
      let asked = told_note told first was noted run run (Asked port count) refl (sym (append-nil (marks_of run.events))) r.telling notes in
      record {
        run = j.now;
        goes_on = j.goes_on;
        telling = told_more told first noted is run j.now j.more j.course (refused_marks rules start run j.now port j.since j.more r.goes_on.is_run j.goes_on.is_run j.events j.course j.refused) asked j.tells_it;
        bytes = if_mapped hub f (Agrees run) (Agrees j.now) (λ s a. record { tapes = ap (map bytes_of) (unchanged s).0 ∙ (a.tapes ∙ sym j.tapes); links = (unchanged s).1 ∙ (a.links ∙ sym numbers) }) r.bytes;
      }

  pub stops_asking : (stop : Stop) (was noted is : Watcher) (hub : Option HubState) (f : HubState → HubState) (old new : RelayKept) (port count : ℕ) (bytes : List ℕ) → stop ≢ NumbersSpent → IsWhole new → ((s : HubState) → (f s).tapes ≡ s.tapes) → Notes told was noted (Asked port count) → JudgesInPart rules port bytes old new told noted is → GoesInPart stop rules told was is hub (option_map f hub) old
  stops_asking stop was noted is hub f old new port count bytes starved whole unchanged notes judges start first r =
      let run = r.run in
      let j = (judges start run r.goes_on).judged in
      let asked = told_note told first was noted run run (Asked port count) refl (sym (append-nil (marks_of run.events))) r.telling notes in
      record {
        run = j.now;
        is_run = j.goes_on.is_run;
        holds = in_part rules j.now new whole.0 whole.1 j.goes_on.holds.so_far;
        telling = told_more told first noted is run j.now j.more j.course (refused_marks rules start run j.now port j.since j.more r.goes_on.is_run j.goes_on.is_run j.events j.course j.refused) asked j.tells_it;
        spent = λ e. absurd (starved e);
        bytes = if_mapped hub f (Agrees run) _ (λ s a. ([], ap (map bytes_of) (unchanged s) ∙ (a.tapes ∙ (sym j.tapes ∙ sym (append-nil j.now.tapes))))) r.bytes;
      }

  -- ---- where there is no memory

  pub stops_opening : (stop : Stop) (was : Watcher) (hub : Option HubState) (f : HubState → HubState) (view : RelayKept) (tape : HubTape) → ((s : HubState) → (f s).tapes ≡ s.tapes ++ tape ∷ []) → IsWhole view → (stop ≡ NumbersSpent → 2 ^ 64 ≤ view.links.given + 1) → GoesInPart stop rules told was was hub (option_map f hub) view
  stops_opening stop was hub f view tape longer whole spent start first r = record {
    run = r.run;
    is_run = r.goes_on.is_run;
    holds = in_part rules r.run view whole.0 whole.1 r.goes_on.holds.so_far;
    telling = r.telling;
    spent = λ e. subst (λ (n : ℕ). 2 ^ 64 ≤ n + 1) r.goes_on.holds.so_far.links.given (spent e);
    bytes = if_mapped hub f (Agrees r.run) _ (λ s a. (bytes_of tape ∷ [], ap (map bytes_of) (longer s) ∙ (map-append bytes_of s.tapes (tape ∷ []) ∙ ap (λ (l : List Tape). l ++ bytes_of tape ∷ []) a.tapes))) r.bytes;
  }

  pub stops_hearing : (stop : Stop) (was noted is : Watcher) (hub : Option HubState) (old : RelayKept) (index number port count : ℕ) (bytes : List ℕ) → stop ≢ NumbersSpent → Notes told was noted (Gave number port count) → HearsInPart rules index bytes old told noted is → GoesInPart stop rules told was is hub (option_map (gives index bytes) hub) old
  stops_hearing stop was noted is hub old index number port count bytes starved notes stops start first r =
      let run = r.run in
      let h = stops start run r.goes_on.is_run r.goes_on.holds in
      let gave = told_note told first was noted run run (Gave number port count) refl (sym (append-nil (marks_of run.events))) r.telling notes in
      record {
        run = h.now;
        is_run = h.is_run;
        holds = h.holds;
        telling = told_more told first noted is run h.now h.more h.course (heard_marks rules start run h.now h.since h.more r.goes_on.is_run h.is_run h.events h.course h.frames) gave h.tells_it;
        spent = λ e. absurd (starved e);
        bytes = if_mapped hub (gives index bytes) (Agrees run) _ (λ s a. ([], gave_tapes run index bytes s a ∙ (sym h.tapes ∙ sym (append-nil h.now.tapes)))) r.bytes;
      }

  -- ---- a stranger becomes a link

  pub goes_joining : (was opened noted is : Watcher) (hub : Option HubState) (old middle new : RelayKept) (port number count : ℕ) (bytes : List ℕ) → Opens rules port old middle → Notes told was opened (Opened (old.links.given + 1) port) → new.links.links ≡ middle.links.links → Notes told opened noted (Gave number port count) → Hears rules (length old.links.links) bytes middle new told noted is → Goes rules told was is hub (option_map (joins port bytes) hub) old new
  goes_joining was opened noted is hub old middle new port number count bytes opening notes same gave hears start first r =
      let index = length old.links.links in
      let mid = option_map (opens (blank port)) hub in
      let there = goes_heard opened noted is mid middle new index number port count bytes same gave hears start first (goes_opened was opened hub old middle port opening notes start first r) in
      record { run = there.run; goes_on = there.goes_on; telling = there.telling; bytes = joined hub there.run r.run r.goes_on r.bytes there.bytes }
    where
      joined : (h : Option HubState) (now run : RelayRun) → RunIs rules start run old → IfSome h (Agrees run) → IfSome (option_map (gives (length old.links.links) bytes) (option_map (opens (blank port)) h)) (Agrees now) → IfSome (option_map (joins port bytes) h) (Agrees now)
      joined None now run goes a b = tt
      joined (Some s) now run goes a b = record { tapes = ap (map bytes_of) (sym (joined_tapes port (length old.links.links) bytes s (as_many rules start run old s goes a))) ∙ b.tapes; links = b.links }

  pub stops_joining : (stop : Stop) (was opened noted is : Watcher) (hub : Option HubState) (old middle : RelayKept) (port number count : ℕ) (bytes : List ℕ) → stop ≢ NumbersSpent → Opens rules port old middle → Notes told was opened (Opened (old.links.given + 1) port) → Notes told opened noted (Gave number port count) → HearsInPart rules (length old.links.links) bytes middle told noted is → GoesInPart stop rules told was is hub (option_map (joins port bytes) hub) old
  stops_joining stop was opened noted is hub old middle port number count bytes starved opening notes gave stops start first r =
      let index = length old.links.links in
      let mid = option_map (opens (blank port)) hub in
      let there = stops_hearing stop opened noted is mid middle index number port count bytes starved gave stops start first (goes_opened was opened hub old middle port opening notes start first r) in
      record { run = there.run; is_run = there.is_run; holds = there.holds; telling = there.telling; spent = there.spent; bytes = joined hub there.run r.run r.goes_on r.bytes there.bytes }
    where
      joined : (h : Option HubState) (now run : RelayRun) → RunIs rules start run old → IfSome h (Agrees run) → IfSome (option_map (gives (length old.links.links) bytes) (option_map (opens (blank port)) h)) (λ s. (rest : List Tape) × (map bytes_of s.tapes ≡ now.tapes ++ rest)) → IfSome (option_map (joins port bytes) h) (λ s. (rest : List Tape) × (map bytes_of s.tapes ≡ now.tapes ++ rest))
      joined None now run goes a b = tt
      joined (Some s) now run goes a b = (b.0, ap (map bytes_of) (sym (joined_tapes port (length old.links.links) bytes s (as_many rules start run old s goes a))) ∙ b.1)
