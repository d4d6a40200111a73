-- A step of one station keeps what holds of the whole world, and is one that the store allows.
use Rattle.std.proofs.Common.{◌≡◌, ◌≢◌, ℕ, ◌+◌, ◌<◌, ◌≤◌, ◌⊎◌, inl, inr, Bool, true, false, if◌then◌else◌, List, [], ◌∷◌, length, Option, Some, None, refl, sym, ap, subst, arith, ◌∙◌}
use Rattle.std.specs.Prelude.{slice_get}
use Rattle.mav_names.specs.declared.names.Stream.{Stream}
use Rattle.plan_items.specs.declared.items.Item.{Item}
use Rattle.plan_items.specs.declared.messages.PlanMsg.{PlanMsg}
use Rattle.plan_items.specs.declared.messages.PlanMsg.TheVariants.{Item as Give, Ack}
use Rattle.plan_upload.specs.Addresses.{same_stream, node_of}
use Rattle.plan_upload.specs.Station.{StationState, Operation, Told, Told_installed, Told_not_installed, Told_unknown, Told_cleared, Told_got, Told_ended}
use Rattle.plan_safety.specs.Frames.{Frame, Said, SaidAfter}
use Rattle.plan_safety.specs.World.{Nodes, Distinct, World, station_sends}
use Rattle.plan_safety.specs.Store.{Store, StoreEvent, Upload_begun, Clear_begun, Get_begun, Cancelled, Ended, Job, A_clear, A_get, Transaction, Opening, Stage, Fresh, In_place, Closed, Acked, RefusedWith, FinalSent, CancelSent, EndCause, AnsweredLast, HasCleared, HasGot, is_emptied, at, begun, opened, staged, unless_placed, given_up, Meets, follows, does}
use Rattle.plan_safety.proofs.Keys.{by_test, same, apart, stream_eq, at_same, at_apart}
use Rattle.plan_safety.proofs.Pair.{Pair, Facts}
use Rattle.plan_safety.proofs.Part.{Seen, pair_of, stage_number, job_number, work_number, number_in}
use Rattle.plan_safety.proofs.StationNews.{StationNews, Silent, Reports, Begins_upload, Begins_clear, Begins_get, Cancels, SeesCleared, SeesPlan, SeesEnd, Reportable, reportable_more, Acted, with_station, OfDrone, station_transaction, station_opening, station_cancelled}
use Rattle.plan_safety.proofs.Fleet.{hidden, All, part, view_transaction, view_opening, view_operation, seen_of, AtDrone, view_fresh}
use Rattle.plan_safety.proofs.FleetMoves.{Goes}
use Rattle.plan_safety.proofs.FleetStation.{Views, steps}

-- views of a transaction
view_placed : (d : Stream) (o : Transaction) → (view_transaction d o).stage ≡ In_place → o.stage ≡ In_place
view_placed d o = by_test (λ v. v.stage ≡ In_place → o.stage ≡ In_place) (same_stream o.drone d) o (hidden o) (λ _ h. h) (λ _ h. absurd (cc))

-- one that is closed
view_staged : (d : Stream) (o : Transaction) → view_transaction d (staged o Closed) ≡ staged (view_transaction d o) Closed
view_staged d o = by_both (same_stream o.drone d)
  where
    by_both : (b : Bool) → (if b then staged o Closed else hidden (staged o Closed)) ≡ staged (if b then o else hidden o) Closed
    by_both true = refl
    by_both false = refl

closed_not_fresh : (d : Stream) (o : Transaction) → stage_number (view_transaction d (staged o Closed)).stage ≢ 1
closed_not_fresh d o = by_test (λ v. stage_number v.stage ≢ 1) (same_stream o.drone d) (staged o Closed) (hidden (staged o Closed)) (λ _ e. absurd (omega arith)) (λ _ e. absurd (omega arith))

-- one that isn't closed is seen as it is
view_open : (d : Stream) (o : Transaction) → ((view_transaction d o).stage ≡ Closed → ⊥) → (view_transaction d o ≡ o) × (o.drone ≡ d)
view_open d o = by_test (λ v. (v.stage ≡ Closed → ⊥) → (v ≡ o) × (o.drone ≡ d)) (same_stream o.drone d) o (hidden o) (λ e _. (refl, stream_eq _ _ e)) (λ _ h. absurd (h refl))

-- one that is given up
view_given : (d : Stream) (o : Transaction) → view_transaction d (given_up o) ≡ given_up (view_transaction d o)
view_given d o = by_both (same_stream o.drone d)
  where
    by_both : (b : Bool) → (if b then given_up o else hidden (given_up o)) ≡ given_up (if b then o else hidden o)
    by_both true = refl
    by_both false = refl

given_not_fresh : (s : Stage) → unless_placed s ≡ Fresh → ⊥
given_not_fresh Fresh e = absurd (cc)
given_not_fresh In_place e = absurd (cc)
given_not_fresh Closed e = absurd (cc)

-- is fresh for nobody
not_fresh_given : (d : Stream) (o : Transaction) → stage_number (view_transaction d (given_up o)).stage ≢ 1
not_fresh_given d o = by_test (λ v. stage_number v.stage ≢ 1) (same_stream o.drone d) (given_up o) (hidden (given_up o)) (λ _. not_one o.stage) (λ _ e. absurd (omega arith))
  where
    not_one : (s : Stage) → stage_number (unless_placed s) ≢ 1
    not_one Fresh = λ e. absurd (omega arith)
    not_one In_place = λ e. absurd (omega arith)
    not_one Closed = λ e. absurd (omega arith)

-- seen at its drone, and hidden from others
view_here : (d : Stream) (o : Transaction) → o.drone ≡ d → view_transaction d o ≡ o
view_here d o h = rw (test o.drone h) refl
  where
    test : (e : Stream) → e ≡ d → same_stream e d ≡ true
    test e h = rw h (same d)

view_far : (d : Stream) (o : Transaction) → (o.drone ≡ d → ⊥) → view_transaction d o ≡ hidden o
view_far d o h = rw (apart o.drone d h) refl

-- views of what is open
opening_here : (c : Opening) → view_opening c.drone (Some c) ≡ Some (seen_of c)
opening_here c = rw (same c.drone) refl

-- and is hidden from others
opening_far : (d : Stream) (c : Opening) → (c.drone ≡ d → ⊥) → view_opening d (Some c) ≡ None
opening_far d c h = rw (apart c.drone d h) refl

-- what e sees open is at e
opening_else : (e d : Stream) (c : Option Opening) → (view_opening e c ≡ None → ⊥) → d ≢ e → view_opening d c ≡ None
opening_else e d None h far = refl
opening_else e d (Some c) h far =
    by_test (λ v. (v ≡ None → ⊥) → view_opening d (Some c) ≡ None) (same_stream c.drone e) (Some (seen_of c)) None
    (λ t _. opening_far d c (λ z. far (sym z ∙ stream_eq _ _ t))) (λ _ g. absurd (g refl)) h

-- what an outcome needs, in the store's words
view_has_cleared : (e : Stream) (c : Option Opening) → SeesCleared (view_opening e c) → HasCleared c × (view_opening e c ≡ None → ⊥)
view_has_cleared e None h = absurd h
view_has_cleared e (Some c) h =
    by_test (λ (v : Option Seen). SeesCleared v → ((c.job ≡ A_clear) × (is_emptied c.kind c.emptied ≡ true)) × (v ≡ None → ⊥)) (same_stream c.drone e) (Some (seen_of c)) None
    (λ _ h. (h, λ z. absurd (cc))) (λ _ h. absurd h) h

view_got : (e : Stream) (c : Option Opening) (p : List Item) → SeesPlan (view_opening e c) p → HasGot c p × (view_opening e c ≡ None → ⊥)
view_got e None p h = absurd h
view_got e (Some c) p h =
    by_test (λ (v : Option Seen). SeesPlan v p → (c.job ≡ A_get (Some p)) × (v ≡ None → ⊥)) (same_stream c.drone e) (Some (seen_of c)) None
    (λ _ h. (h, λ z. absurd (cc))) (λ _ h. absurd h) h

view_end : (sent : List Frame) (e s : Stream) (cancelled : Bool) (c : Option Opening) (code : ℕ) → SeesEnd sent e s cancelled (view_opening e c) code → EndCause sent s cancelled c code × (view_opening e c ≡ None → ⊥)
view_end sent e s cancelled None code h = absurd h
view_end sent e s cancelled (Some c) code h =
    by_test (λ (v : Option Seen). SeesEnd sent e s cancelled v code → EndCause sent s cancelled (Some c) code × (v ≡ None → ⊥)) (same_stream c.drone e) (Some (seen_of c)) None
    (λ t h. (subst (λ d. SeesEnd sent d s cancelled (Some (seen_of c)) code) (sym (stream_eq _ _ t)) h, λ z. absurd (cc))) (λ _ h. absurd h) h

-- nothing is open without an operation
shut_pieces : (job work : ℕ) → job ≤ 2 → (job ≡ 1 → work ≡ 2) → (job ≡ 2 → work ≡ 3) → work ≡ 0 → 0 < job → ⊥
shut_pieces job work a b c d e = grind arith

-- only a call begins
abbrev pub IsBegin : StationNews → Type 0
IsBegin Silent = ⊥
IsBegin (Reports told) = ⊥
IsBegin (Begins_upload kind plan) = Unit {0}
IsBegin (Begins_clear kind) = Unit {0}
IsBegin (Begins_get kind) = Unit {0}
IsBegin Cancels = ⊥

-- the news, for the store: of the station s with the drone e
abbrev pub store_news : Stream → Stream → ℕ → ℕ → StationNews → List StoreEvent
store_news s e now later Silent = []
store_news s e now later (Reports told) = Ended s told ∷ []
store_news s e now later (Begins_upload kind plan) = Upload_begun s e kind plan now later ∷ []
store_news s e now later (Begins_clear kind) = Clear_begun s e kind later ∷ []
store_news s e now later (Begins_get kind) = Get_begun s e kind later ∷ []
store_news s e now later Cancels = Cancelled s ∷ []

module _ (nodes : Nodes) (sound : Distinct nodes) (w : World) (m : Store) (s e : Stream) (next : ℕ) (last : Stream → ℕ) (t : StationState) (b : Option PlanMsg) (told : Option Told) (all : All nodes w m) (station : nodes.is_station s ≡ true) (drone : nodes.is_drone e ≡ true) (same_last : (d : Stream) → d ≢ e → last d ≡ (w.station s).last d) (later : (w.station s).next ≤ next) (before : OfDrone e (w.station s).state.operation) where
  abbrev pub Done : StationNews → Type 0
  Done x = Acted e s (w.station s).state (with_station e (record (part w m e s) { station_last = last e; station_next = next }) (w.station s).state) (record { station = t; answer = b; told = told }) x

  abbrev pub after : List StoreEvent → World
  after news = station_sends (record w { news = news }) s (record { state = t; last = last; next = next }) b

  -- the world keeps the news
  news_is : (news : List StoreEvent) (a : Option PlanMsg) → (station_sends (record w { news = news }) s (record { state = t; last = last; next = next }) a).news ≡ news
  news_is news None = refl
  news_is news (Some a) = refl

  -- needs and what holds, for the news that the world keeps
  as_reported : (news : List StoreEvent) → Meets (after news).sent m news → All nodes (after news) (follows m news) → Goes nodes (after news) m
  as_reported news x y = record { needs = subst (Meets (after news).sent m) (sym (news_is news b)) x; all = subst (λ z. All nodes (after news) (follows m z)) (sym (news_is news b)) y }

  -- more is sent, or no less
  sent_more : (news : List StoreEvent) (a : Option PlanMsg) (told : Told) → (let p = part w m e s in Reportable e s w.sent p.transaction p.opening p.cancelled told → Reportable e s (station_sends (record w { news = news }) s (record { state = t; last = last; next = next }) a).sent p.transaction p.opening p.cancelled told)
  sent_more news None told h = h
  sent_more news (Some a) told h = reportable_more e s w.sent _ (view_transaction e (m.transaction s)) (view_opening e (m.opening s)) (m.cancelled s) told h

  -- what holds, by the views
  keeps : (x : StationNews) (news : List StoreEvent) (m' : Store) → Done x → Views nodes m m' s e next (w.drone e).next x → All nodes (after news) m'
  keeps x news m' h v = steps nodes sound w m m' s e next last t b told x news all station drone same_last later before h v

  -- with no operation no transaction is fresh, and nothing else is open
  no_fresh : (w.station s).state.operation ≡ None → (m.transaction s).stage ≡ Fresh → ⊥
  no_fresh none fresh =
      let d = (m.transaction s).drone in
      let p = all.pairs d s (all.transactions s station fresh) station in
      idle (pair_of s (part w m d s) p.0) p.1.facts (on_none (view_operation d (w.station s).state.operation) (ap (view_operation d) none)) (ap stage_number (ap (λ (o : Transaction). o.stage) (view_here d (m.transaction s) refl) ∙ fresh))
    where
      on_none : (o : Option Operation) → o ≡ None → number_in o (λ (y : Operation). work_number y.work) ≡ 0
      on_none None h = refl
      on_none (Some o) h = absurd (cc)

      idle : (q : Pair) → Facts q → q.work ≡ 0 → q.stage ≡ 1 → ⊥
      idle q f work stage = grind arith

  no_opening : (w.station s).state.operation ≡ None → m.opening s ≡ None
  no_opening none = go (m.opening s) refl (all.openings s station)
    where
      on_none : (o : Option Operation) → o ≡ None → number_in o (λ (y : Operation). work_number y.work) ≡ 0
      on_none None h = refl
      on_none (Some o) h = absurd (cc)

      shut : (q : Pair) → Facts q → q.work ≡ 0 → 0 < q.job → ⊥
      shut q f work job = shut_pieces q.job q.work f.job_range f.clear_work f.get_work work job

      some : (x : Job) → 0 < job_number x
      some A_clear = omega arith
      some (A_get x) = omega arith

      go : (c : Option Opening) → m.opening s ≡ c → AtDrone nodes c → m.opening s ≡ None
      go None e h = e
      go (Some c) e h =
          let p = all.pairs c.drone s h station in
          absurd (shut (pair_of s (part w m c.drone s) p.0) p.1.facts (on_none (view_operation c.drone (w.station s).state.operation) (ap (view_operation c.drone) none)) (subst (λ n. 0 < n) (sym (ap (λ (z : Option Seen). number_in z (λ (y : Seen). job_number y.job)) (ap (view_opening c.drone) e ∙ opening_here c))) (some c.job)))

  -- nothing but the cancel mark changes
  same_views : (x : StationNews) (m' : Store) → m'.transaction ≡ m.transaction → m'.opening ≡ m.opening → m'.plan ≡ m.plan → ((o : Transaction) → station_transaction e next (w.drone e).next o x ≡ o) → ((c : Option Seen) → station_opening (w.drone e).next c x ≡ c) → m'.cancelled s ≡ station_cancelled (m.cancelled s) x → ((u : Stream) → u ≢ s → m'.cancelled u ≡ m.cancelled u) → Views nodes m m' s e next (w.drone e).next x
  same_views x m' et eo ep a c k far_k = record {
    transaction = ap (λ f. view_transaction e (f s)) et ∙ sym (a _);
    opening = ap (λ f. view_opening e (f s)) eo ∙ sym (c _);
    cancelled = k;
    quiet = λ d far h. subst (λ f. stage_number (view_transaction d (f s)).stage ≢ 1) (sym et) h;
    since = λ h. subst (λ f. (f s).since ≤ next) (sym et) h;
    far_opening = λ d far. ap (λ f. view_opening d (f s)) eo;
    else_transaction = λ u far. ap (λ f. f u) et;
    else_opening = λ u far. ap (λ f. f u) eo;
    else_cancelled = far_k;
    fresh = subst (λ f. (f s).stage ≡ Fresh → nodes.is_drone (f s).drone ≡ true) (sym et) (all.transactions s station);
    at_drone = subst (λ f. AtDrone nodes (f s)) (sym eo) (all.openings s station);
    plans = λ d k. ap (λ f. f d k) ep;
  }

  -- the latest transaction is o afterwards
  transaction_views : (x : StationNews) (o : Transaction) (cancelled : Stream → Bool) → view_transaction e o ≡ station_transaction e next (w.drone e).next (view_transaction e (m.transaction s)) x → ((c : Option Seen) → station_opening (w.drone e).next c x ≡ c) → ((d : Stream) → d ≢ e → stage_number (view_transaction d o).stage ≢ 1) → ((m.transaction s).since ≤ next → o.since ≤ next) → (o.stage ≡ Fresh → nodes.is_drone o.drone ≡ true) → cancelled s ≡ station_cancelled (m.cancelled s) x → ((u : Stream) → u ≢ s → cancelled u ≡ m.cancelled u) → Views nodes m (record m { transaction = at m.transaction s o; cancelled = cancelled }) s e next (w.drone e).next x
  transaction_views x o cancelled own c quiet since fresh k far_k =
      let here : at m.transaction s o s ≡ o = at_same m.transaction s o in
      record {
        transaction = ap (view_transaction e) here ∙ own;
        opening = sym (c _);
        cancelled = k;
        quiet = λ d far _. subst (λ (y : Transaction). stage_number (view_transaction d y).stage ≢ 1) (sym here) (quiet d far);
        since = λ l. subst (λ (y : Transaction). y.since ≤ next) (sym here) (since l);
        far_opening = λ d far. refl;
        else_transaction = λ u far. at_apart m.transaction s u o far;
        else_opening = λ u far. refl;
        else_cancelled = far_k;
        fresh = subst (λ (y : Transaction). y.stage ≡ Fresh → nodes.is_drone y.drone ≡ true) (sym here) fresh;
        at_drone = all.openings s station;
        plans = λ d k. refl;
      }

  -- what is open is c afterwards
  opening_views : (x : StationNews) (c : Option Opening) (cancelled : Stream → Bool) → ((o : Transaction) → station_transaction e next (w.drone e).next o x ≡ o) → view_opening e c ≡ station_opening (w.drone e).next (view_opening e (m.opening s)) x → ((d : Stream) → d ≢ e → view_opening d c ≡ view_opening d (m.opening s)) → AtDrone nodes c → cancelled s ≡ station_cancelled (m.cancelled s) x → ((u : Stream) → u ≢ s → cancelled u ≡ m.cancelled u) → Views nodes m (record m { opening = at m.opening s c; cancelled = cancelled }) s e next (w.drone e).next x
  opening_views x c cancelled a own far_c at_drone k far_k =
      let here : at m.opening s c s ≡ c = at_same m.opening s c in
      record {
        transaction = sym (a _);
        opening = ap (view_opening e) here ∙ own;
        cancelled = k;
        quiet = λ d far z. z;
        since = λ l. l;
        far_opening = λ d far. ap (view_opening d) here ∙ far_c d far;
        else_transaction = λ u far. refl;
        else_opening = λ u far. at_apart m.opening s u c far;
        else_cancelled = far_k;
        fresh = all.transactions s station;
        at_drone = subst (AtDrone nodes) (sym here) at_drone;
        plans = λ d k. refl;
      }

  -- an end of a clear or a download
  over_views : (x : StationNews) → ((o : Transaction) → station_transaction e next (w.drone e).next o x ≡ o) → ((c : Option Seen) → station_opening (w.drone e).next c x ≡ None) → station_cancelled (m.cancelled s) x ≡ m.cancelled s → (view_opening e (m.opening s) ≡ None → ⊥) → Views nodes m (record m { opening = at m.opening s None }) s e next (w.drone e).next x
  over_views x a c k some = opening_views x None m.cancelled a (sym (c _)) (λ d far. sym (opening_else e d (m.opening s) some far)) tt (sym k) (λ u far. refl)

  -- each outcome
  reported_goes : (told : Told) → Done (Reports told) → Goes nodes (after (Ended s told ∷ [])) m
  reported_goes Told_installed h =
      let x : StationNews = Reports Told_installed in
      let news : List StoreEvent = Ended s Told_installed ∷ [] in
      as_reported news (view_placed e (m.transaction s) h.needs, tt) (keeps x news m h (same_views x m refl refl refl (λ o. refl) (λ c. refl) refl (λ u far. refl)))
  reported_goes (Told_not_installed code) h =
      let o : Transaction = m.transaction s in
      let x : StationNews = Reports (Told_not_installed code) in
      let news : List StoreEvent = Ended s (Told_not_installed code) ∷ [] in
      let view = view_fresh e o h.needs.0 in
      let more = sent_more news b (Told_not_installed code) h.needs in
      as_reported news (subst (λ (y : Transaction). (y.stage ≡ Fresh) × ((code ≡ 15) ⊎ RefusedWith (after news).sent y.drone s y code)) view.0 (more.0, to_drone (after news).sent (view_transaction e o) code (ap (λ (y : Transaction). y.drone) view.0 ∙ view.1) more.1), tt)
      (keeps x news (record m { transaction = at m.transaction s (staged o Closed) }) h
      (transaction_views x (staged o Closed) m.cancelled (view_staged e o) (λ c. refl) (λ d far. closed_not_fresh d o) (λ l. l) (λ f. absurd (cc)) refl (λ u far. refl)))
    where
      to_drone : (sent : List Frame) (v : Transaction) (code : ℕ) → v.drone ≡ e → (code ≡ 15) ⊎ RefusedWith sent e s v code → (code ≡ 15) ⊎ RefusedWith sent v.drone s v code
      to_drone sent v code is (inl h) = inl h
      to_drone sent v code is (inr h) = inr (subst (λ d. RefusedWith sent d s v code) (sym is) h)
  reported_goes Told_unknown h =
      let o : Transaction = m.transaction s in
      let x : StationNews = Reports Told_unknown in
      let news : List StoreEvent = Ended s Told_unknown ∷ [] in
      let view = view_open e o h.needs.0 in
      let more = sent_more news b Told_unknown h.needs in
      let is : (view_transaction e o).drone ≡ e = ap (λ (y : Transaction). y.drone) view.0 ∙ view.1 in
      let sent = (after news).sent in
      let v = view_transaction e o in
      as_reported news (
        subst (λ (y : Transaction). (y.stage ≡ Closed → ⊥) × (y.lost ≡ true) × Acked sent y.drone s y.drone_since 1 × FinalSent sent s y × CancelSent sent s y × AnsweredLast sent s y 1) view.0
            (more.0, more.1, subst (λ d. Acked sent d s v.drone_since 1) (sym is) more.2, subst (λ d. (seq : ℕ) × (item : Item) × (seq + 1 ≡ length v.plan) × (slice_get v.plan seq ≡ Some item) × Said sent s v.since (Give (node_of d) seq v.kind item)) (sym is) more.3, subst (λ d. Said sent s v.since (Ack (node_of d) 15 v.kind)) (sym is) more.4, subst (λ d. (kind : ℕ) × SaidAfter (λ earlier. SaidAfter (λ first. (seq : ℕ) × (item : Item) × (seq + 1 ≡ length v.plan) × (slice_get v.plan seq ≡ Some item) × Said first s v.since (Give (node_of d) seq v.kind item)) earlier s (Ack (node_of d) 15 v.kind)) sent d (Ack (node_of s) 1 kind)) (sym is) more.5),
        tt,
      )
      (keeps x news (record m { transaction = at m.transaction s (given_up o) }) h
      (transaction_views x (given_up o) m.cancelled (view_given e o) (λ c. refl) (λ d far. not_fresh_given d o) (λ l. l) (λ f. absurd (given_not_fresh o.stage f)) refl (λ u far. refl)))
  reported_goes Told_cleared h =
      let x : StationNews = Reports Told_cleared in
      let news : List StoreEvent = Ended s Told_cleared ∷ [] in
      let view = view_has_cleared e (m.opening s) h.needs in
      as_reported news (view.0, tt) (keeps x news (record m { opening = at m.opening s None }) h (over_views x (λ o. refl) (λ c. refl) refl view.1))
  reported_goes (Told_got plan) h =
      let x : StationNews = Reports (Told_got plan) in
      let news : List StoreEvent = Ended s (Told_got plan) ∷ [] in
      let view = view_got e (m.opening s) plan h.needs in
      as_reported news (view.0, tt) (keeps x news (record m { opening = at m.opening s None }) h (over_views x (λ o. refl) (λ c. refl) refl view.1))
  reported_goes (Told_ended code) h =
      let x : StationNews = Reports (Told_ended code) in
      let news : List StoreEvent = Ended s (Told_ended code) ∷ [] in
      let more = sent_more news b (Told_ended code) h.needs in
      let view = view_end (after news).sent e s (m.cancelled s) (m.opening s) code more in
      as_reported news (view.0, tt) (keeps x news (record m { opening = at m.opening s None }) h (over_views x (λ o. refl) (λ c. refl) refl view.1))

  -- each operation that begins
  begun_upload : (k : ℕ) (p : List Item) → Done (Begins_upload k p) → (w.station s).state.operation ≡ None → Goes nodes (after (Upload_begun s e k p next (w.drone e).next ∷ [])) m
  begun_upload k p h none =
      let x : StationNews = Begins_upload k p in
      let o : Transaction = begun e k p next (w.drone e).next in
      let event : StoreEvent = Upload_begun s e k p next (w.drone e).next in
      as_reported (event ∷ []) (no_fresh none, tt)
      (keeps x (event ∷ []) (does m event) h
      (transaction_views x o (at m.cancelled s false) (view_here e o refl) (λ c. refl)
      (λ d far. subst (λ (y : Transaction). stage_number y.stage ≢ 1) (sym (view_far d o (λ z. far (sym z)))) (λ z. absurd (omega arith)))
      (λ _. omega arith) (λ _. drone) (at_same m.cancelled s false) (λ u far. at_apart m.cancelled s u false far)))

  begun_clear : (k : ℕ) → Done (Begins_clear k) → (w.station s).state.operation ≡ None → Goes nodes (after (Clear_begun s e k (w.drone e).next ∷ [])) m
  begun_clear k h none =
      let x : StationNews = Begins_clear k in
      let c : Opening = opened e k A_clear (w.drone e).next in
      let event : StoreEvent = Clear_begun s e k (w.drone e).next in
      as_reported (event ∷ []) (no_opening none, tt)
      (keeps x (event ∷ []) (does m event) h
      (opening_views x (Some c) (at m.cancelled s false) (λ o. refl) (opening_here c)
      (λ d far. opening_far d c (λ z. far (sym z)) ∙ sym (ap (view_opening d) (no_opening none))) drone (at_same m.cancelled s false) (λ u far. at_apart m.cancelled s u false far)))

  begun_get : (k : ℕ) → Done (Begins_get k) → (w.station s).state.operation ≡ None → Goes nodes (after (Get_begun s e k (w.drone e).next ∷ [])) m
  begun_get k h none =
      let x : StationNews = Begins_get k in
      let c : Opening = opened e k (A_get None) (w.drone e).next in
      let event : StoreEvent = Get_begun s e k (w.drone e).next in
      as_reported (event ∷ []) (no_opening none, tt)
      (keeps x (event ∷ []) (does m event) h
      (opening_views x (Some c) (at m.cancelled s false) (λ o. refl) (opening_here c)
      (λ d far. opening_far d c (λ z. far (sym z)) ∙ sym (ap (view_opening d) (no_opening none))) drone (at_same m.cancelled s false) (λ u far. at_apart m.cancelled s u false far)))

  -- each of these
  pub goes : (x : StationNews) → Done x → (IsBegin x → (w.station s).state.operation ≡ None) → Goes nodes (after (store_news s e next (w.drone e).next x)) m
  goes Silent h free = as_reported [] tt (keeps Silent [] m h (same_views Silent m refl refl refl (λ o. refl) (λ c. refl) refl (λ u far. refl)))
  goes (Reports told) h free = reported_goes told h
  goes (Begins_upload k p) h free = begun_upload k p h (free tt)
  goes (Begins_clear k) h free = begun_clear k h (free tt)
  goes (Begins_get k) h free = begun_get k h (free tt)
  goes Cancels h free =
      let event : StoreEvent = Cancelled s in
      as_reported (event ∷ []) (tt, tt)
      (keeps Cancels (event ∷ []) (does m event) h (same_views Cancels (does m event) refl refl refl (λ o. refl) (λ c. refl) (at_same m.cancelled s true) (λ u far. at_apart m.cancelled s u true far)))
