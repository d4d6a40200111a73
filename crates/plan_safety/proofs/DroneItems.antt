-- The drone, at an item of the station that it has admitted.
use Rattle.std.proofs.Common.{◌≡◌, ◌≢◌, ℕ, ◌+◌, ◌<◌, ◌≤◌, ◌⊎◌, inl, inr, Bool, true, ◌==◌, ◌&&◌, nat_lt, List, [], ◌∷◌, ◌++◌, length, Option, Some, None, refl, sym, ap, subst, arith, ◌∙◌, length-append}
use Rattle.std.specs.Prelude.{slice_get, not, is_some}
use Rattle.mav_names.specs.declared.names.Stream.{Stream}
use Rattle.plan_items.specs.declared.items.Item.{Item}
use Rattle.plan_items.specs.declared.messages.PlanMsg.TheVariants.{Count, Item as Give}
use Rattle.plan_items.specs.declared.faults.PlanFault.{PlanFault}
use Rattle.plan_items.specs.declared.faults.PlanFault.TheVariants.{UnsupportedFrame, Unsupported, InvalidX, InvalidY, InvalidParam1, Invalid}
use Rattle.plan_items.specs.Validation.{item_fault, plan_fault, code_of}
use Rattle.plan_upload.specs.Addresses.{same_stream, node_of}
use Rattle.std.proofs.lemmas.List.{take_all}
use Rattle.plan_upload.specs.Drone.{DroneState, Upload, DroneStep, Installs, answers, ack, ask, is_own, installed, last_item, item_fits, item_comes}
use Rattle.plan_safety.specs.Frames.{Frame, Said}
use Rattle.plan_safety.specs.Store.{RefusesUpload, Transaction, In_place}
use Rattle.plan_safety.proofs.Keys.{by_test, eq_true, stream_eq, less, not_less, both_true, not_is_false, flag_true}
use Rattle.plan_safety.proofs.Lists.{in_range, next_front}
use Rattle.plan_safety.proofs.Pair.{Pair, Facts, SentByDrone, asks, installs, an_ack, a_request}
use Rattle.plan_safety.proofs.DroneSide as side
use Rattle.plan_safety.proofs.Part.{Part, Moments, pair_of, Truths, subject, Answers, Gathers, Gathering, Inv, Keeps, keeps_truth, truths_keep, again_same, operates_more, operates_else, fresh}
use Rattle.plan_safety.proofs.Acknowledgements.{answered_else}
use Rattle.plan_safety.proofs.Leaf.{Own, own_part, drone_said}
use Rattle.plan_safety.proofs.DroneCases.{IsRefusal, CanRefuse, acked, on_refusal, result_same, refuses_only}

-- the code of each fault is a refusal
fault_refused : (fault : PlanFault) → IsRefusal (code_of fault)
fault_refused UnsupportedFrame = (λ e. absurd (omega arith), λ e. absurd (omega arith))
fault_refused Unsupported = (λ e. absurd (omega arith), λ e. absurd (omega arith))
fault_refused InvalidX = (λ e. absurd (omega arith), λ e. absurd (omega arith))
fault_refused InvalidY = (λ e. absurd (omega arith), λ e. absurd (omega arith))
fault_refused InvalidParam1 = (λ e. absurd (omega arith), λ e. absurd (omega arith))
fault_refused Invalid = (λ e. absurd (omega arith), λ e. absurd (omega arith))

-- a plan with a fault
five : IsRefusal 5
five = (λ e. absurd (omega arith), λ e. absurd (omega arith))

-- the store kept the old plan
unkept : IsRefusal 1
unkept = (λ e. absurd (omega arith), λ e. absurd (omega arith))

-- what is true of a Request, and of the Ack of an installation
pub asks_new : (p : Pair) (k i : ℕ) → Facts p → 0 < p.has_open → SentByDrone (asks p) p.drone_next (a_request i k)
asks_new p k i f h = grind arith

installs_new : (p : Pair) (k : ℕ) → Facts p → 0 < p.has_open → (0 < p.first_ping → p.drone_last < p.first_ping) → SentByDrone (installs p) p.drone_next (an_ack 0 k)
installs_new p k f h q = grind arith

-- in a clear no upload is open
open_clearing : (p : Pair) → Facts p → 0 < p.has_open → p.phase ≡ 4 → ⊥
open_clearing p f h ph = grind arith

-- an item may be refused
item_refuses : (p : Pair) → Facts p → 0 < p.has_open → (0 < p.first_ping → p.drone_last < p.first_ping) → CanRefuse p
item_refuses p f h q = grind arith

-- what was true of each message is true after a Request
pub keeps_asks : (p : Pair) → Facts p → 0 < p.has_open → Keeps p (asks p)
keeps_asks p f h = record { drone_next = omega arith; station_next = omega arith; shows = λ a b. (a, refl); again = again_same _ _ refl refl refl (omega arith); drone = λ u x. side.asks_drone p u x f h; station = λ ck k t l u x. side.asks_station p ck k t l u x f h }

-- an index up to the last
upto : (n i : ℕ) → i < n + 1 → (i < n) ⊎ (i ≡ n)
upto n i h = grind arith

-- what a delivered item of the transaction is
pub record Delivered (d s : Stream) (p : Part) (q : Pair) (kind index : ℕ) (item : Item) : Type 0 where
  pub late : q.last_count < q.drone_last
  pub attempt : 0 < q.first_ping → q.drone_last < q.first_ping
  pub counted : 0 < q.first_count
  pub kind_is : kind ≡ p.transaction.kind
  pub within : index < length p.transaction.plan
  pub item_is : slice_get p.transaction.plan index ≡ Some item
  pub last : index + 1 ≡ length p.transaction.plan → q.final_sent ≡ 1
  pub said : Said p.sent s p.transaction.since (Give (node_of d) index kind item)

abbrev pub with_upload : Part → Option Upload → Part
with_upload p u = record p { drone = record p.drone { upload = u } }

module _ (d s : Stream) (ne : d ≢ s) where
  -- one item more is a prefix of the plan, all sent
  more : (sent : List Frame) (o : Transaction) (u : Upload) (x : Item) → Gathering d s sent o u → slice_get o.plan (length u.items) ≡ Some x → Said sent s o.since (Give (node_of d) (length u.items) o.kind x) → length (u.items ++ x ∷ []) < length o.plan → Gathering d s sent o (record u { items = u.items ++ x ∷ []; idle = 0 })
  more sent o u x g e t l =
      let len : length (u.items ++ x ∷ []) ≡ length u.items + 1 = length-append u.items (x ∷ []) in
      record {
        kind = g.kind;
        total = g.total;
        short = l;
        same = next_front o.plan u.items x g.same e;
        said = λ i y h is. elim (upto (length u.items) i (omega arith)) [
          | inl b ↦ g.said i y b is
          | inr b ↦ last_one sent o u x e t i y b is
        ];
      }
    where
      last_one : (sent : List Frame) (o : Transaction) (u : Upload) (x : Item) → slice_get o.plan (length u.items) ≡ Some x → Said sent s o.since (Give (node_of d) (length u.items) o.kind x) → (i : ℕ) (y : Item) → i ≡ length u.items → slice_get o.plan i ≡ Some y → Said sent s o.since (Give (node_of d) i o.kind y)
      last_one sent o u x e t i y b is =
          let z : Some x ≡ Some y = sym e ∙ ap (slice_get o.plan) (sym b) ∙ is in
          let w : x ≡ y = cc in
          subst (λ n. Said sent s o.since (Give (node_of d) n o.kind y)) (sym b) (subst (λ v. Said sent s o.since (Give (node_of d) (length u.items) o.kind v)) w t)

  -- the last item makes the plan whole, and all was sent
  whole_plan : (sent : List Frame) (o : Transaction) (u : Upload) (x : Item) → Gathering d s sent o u → slice_get o.plan (length u.items) ≡ Some x → length o.plan ≤ length (u.items ++ x ∷ []) → u.items ++ x ∷ [] ≡ o.plan
  whole_plan sent o u x g e l = next_front o.plan u.items x g.same e ∙ take_all (length (u.items ++ x ∷ [])) o.plan l

  all_said : (sent : List Frame) (o : Transaction) (u : Upload) (x : Item) → Gathering d s sent o u → slice_get o.plan (length u.items) ≡ Some x → Said sent s o.since (Give (node_of d) (length u.items) o.kind x) → length o.plan ≤ length u.items + 1 → (i : ℕ) (y : Item) → slice_get o.plan i ≡ Some y → Said sent s o.since (Give (node_of d) i o.kind y)
  all_said sent o u x g e t l i y is =
      let h = in_range o.plan i y is in
      elim (upto (length u.items) i (omega arith)) [
        | inl b ↦ g.said i y b is
        | inr b ↦
            let z : Some x ≡ Some y = sym e ∙ ap (slice_get o.plan) (sym b) ∙ is in
            let w : x ≡ y = cc in
            subst (λ n. Said sent s o.since (Give (node_of d) n o.kind y)) (sym b) (subst (λ v. Said sent s o.since (Give (node_of d) (length u.items) o.kind v)) w t)
      ]

  -- an own upload goes on with what was gathered, and asks
  on_ask : (p : Part) (g : Moments) (u : Upload) (k i : ℕ) → Inv d s p g → 0 < (pair_of s p g).has_open → is_own p.drone.upload s ≡ (same_stream u.stream s) → Gathers d s p.sent p.transaction (Some u) → Own d s p (answers (record p.drone { upload = Some u }) (ask s k i))
  on_ask p g u k i inv h e gathers =
      let q : Pair = pair_of s p g in
      record {
        needs = tt;
        moments = record g { last_request = p.drone_next };
        inv =
            drone_said d s ne p g (record g { last_request = p.drone_next }) (record p.drone { upload = Some u }) (ask s k i) (asks q) inv (rw (← e) refl)
            (side.asks_facts q inv.facts h) (keeps_asks q inv.facts h) (λ _. asks_new q k i inv.facts h) (omega arith) gathers refl (λ _. tt) (λ k l z. z)
            (λ x. ((inv.asked x).0, inr (inv.asked x).1)) inv.answers (λ _ _. tt) (λ _. (tt, tt));
      }

  -- the installation
  on_install : (p : Part) (g : Moments) (u : Upload) (items : List Item) → Inv d s p g → 0 < (pair_of s p g).has_open → (let q = pair_of s p g in (q.last_count < q.drone_last) × (q.final_sent ≡ 1) × (0 < q.first_ping → q.drone_last < q.first_ping)) → u.kind ≡ p.transaction.kind → items ≡ p.transaction.plan → Said p.sent s p.transaction.since (Count (node_of d) (length p.transaction.plan) p.transaction.kind) → ((i : ℕ) (x : Item) → slice_get p.transaction.plan i ≡ Some x → Said p.sent s p.transaction.since (Give (node_of d) i p.transaction.kind x)) → Own d s p (record { drone = installed p.drone s u.kind items; answer = Some (ack s 0 u.kind); event = Installs s u.kind items })
  on_install p g u items i h b ek ep count all =
      let q : Pair = pair_of s p g in
      let e : DroneState = installed p.drone s u.kind items in
      let v : Part = own_part d p (record { drone = e; answer = Some (ack s 0 u.kind); event = Installs s u.kind items }) in
      let is : pair_of s v (acked g p.drone_next p.drone_next) ≡ installs q = rw (result_same p.drone.results s true) refl in
      record {
        needs = (refl, record { fresh = fresh _ (i.facts.open_stage h); drone = i.for_drone (i.facts.open_stage h); kind_is = sym ek; plan_is = sym ep; count = count; items = all });
        moments = acked g p.drone_next p.drone_next;
        inv = record {
          facts = subst Facts (sym is) (side.installs_facts q i.facts h b.0 b.1 b.2);
          truths = subst (λ x. Truths d s x (subject p.transaction p.opening) v.sent) (sym is) (
            record { drone = λ _ _. installs_new q u.kind i.facts h b.2; shows = λ _ _. tt; last = λ _ _. λ _ _ _ e. absurd (omega arith); accepts = λ _ _. λ ph _ _. absurd (open_clearing q i.facts h ph); station = λ x _. absurd (ne x); named = λ x _. absurd (ne x); by_drone = λ _. omega arith; by_station = λ x. absurd (ne x) },
            truths_keep d s q (installs q) (subject p.transaction p.opening) (subject p.transaction p.opening) (keeps_truth d s q (installs q) (subject p.transaction p.opening) (record { drone_next = omega arith; station_next = omega arith; shows = λ a b. (a, refl); again = again_same _ _ refl refl refl (omega arith); drone = λ w x. side.installs_drone q w x i.facts h b.0 b.1 b.2; station = λ ck k t l w x. side.installs_station q ck k t l w x i.facts h b.0 b.1 b.2 })) p.sent i.truths,
          );
          upload = tt;
          operation = operates_else d s v.sent p.transaction In_place p.transaction.lost p.opening p.cancelled p.pings p.operation (operates_more d s p.sent _ p.transaction p.opening p.cancelled p.pings p.operation i.operation);
          for_drone = λ x. absurd (cc);
          since = i.since;
          since_count = i.since_count;
          count = λ x. inr (i.count x);
          download = i.download;
          asked = λ x. ((i.asked x).0, inr (i.asked x).1);
          answers = λ ph. (λ _ _. (λ _ r. absurd ((refuses_only 0 r).0 refl), λ _ _ z. absurd (z refl)), answered_else d s p.transaction In_place p.transaction.lost g.counted g.first_open p.sent (i.answers ph));
        };
      }

  -- what is true of an acknowledgement that refuses an item
  item_answers : (p : Part) (g : Moments) (u : Upload) (c : ℕ) → Inv d s (with_upload p (Some u)) g → Gathering d s p.sent p.transaction u → 0 < g.first_count → RefusesUpload c → Answers d s p.transaction g.counted g.first_open p.drone_next p.sent (Some (ack s c u.kind))
  item_answers p g u c i gat counted r = (λ _ _. (gat.kind, i.count counted), λ some _ _. (gat.kind, i.asked some, r))

  on_last : (keeps : Bool) (p : Part) (g : Moments) (u : Upload) (item : Item) → Inv d s (with_upload p (Some u)) g → 0 < (pair_of s (with_upload p (Some u)) g).has_open → Gathering d s p.sent p.transaction u → Delivered d s (with_upload p (Some u)) (pair_of s (with_upload p (Some u)) g) u.kind (length u.items) item → Said p.sent s p.transaction.since (Give (node_of d) (length u.items) p.transaction.kind item) → u.total ≤ length u.items + 1 → Own d s (with_upload p (Some u)) (last_item keeps (with_upload p (Some u)).drone s u.kind (u.items ++ item ∷ []))
  on_last keeps p g u item i h gat x said long =
      let v = with_upload p (Some u) in
      let q : Pair = pair_of s v g in
      let P : DroneStep → Type 0 = Own d s v in
      let items = u.items ++ item ∷ [] in
      let len : length items ≡ length u.items + 1 = length-append u.items (item ∷ []) in
      let can = item_refuses q i.facts h x.attempt in
      let t = gat.total in
      by_test P (is_some (plan_fault u.kind items)) _ _ (λ _. on_refusal d s ne v g 5 u.kind i five can (λ _. item_answers p g u 5 i gat x.counted (inr (inl (Invalid, refl))))) (λ _.
      by_test P keeps _ _
      (λ _. on_install v g u items i h (x.late, x.last (omega (arith, x.within)), x.attempt) gat.kind
      (whole_plan p.sent p.transaction u item gat x.item_is (omega arith)) (i.count x.counted)
      (all_said p.sent p.transaction u item gat x.item_is said (omega arith)))
      (λ _. on_refusal d s ne v g 1 u.kind i unkept can (λ _. item_answers p g u 1 i gat x.counted (inr (inr (inl refl))))))

  -- an item of the kind and number that was asked for
  on_fit : (keeps : Bool) (p : Part) (g : Moments) (u : Upload) (item : Item) (fault : Option PlanFault) → Inv d s (with_upload p (Some u)) g → 0 < (pair_of s (with_upload p (Some u)) g).has_open → Gathering d s p.sent p.transaction u → Delivered d s (with_upload p (Some u)) (pair_of s (with_upload p (Some u)) g) u.kind (length u.items) item → Own d s (with_upload p (Some u)) (item_fits keeps (with_upload p (Some u)).drone s u item fault)
  on_fit keeps p g u item (Some fault) i h gat x =
      let v = with_upload p (Some u) in
      on_refusal d s ne v g (code_of fault) u.kind i (fault_refused fault) (item_refuses (pair_of s v g) i.facts h x.attempt) (λ _. item_answers p g u (code_of fault) i gat x.counted (inr (inl (fault, refl))))
  on_fit keeps p g u item None i h gat x =
      let v = with_upload p (Some u) in
      let items = u.items ++ item ∷ [] in
      let len : length items ≡ length u.items + 1 = length-append u.items (item ∷ []) in
      let said : Said p.sent s p.transaction.since (Give (node_of d) (length u.items) p.transaction.kind item) = subst (λ k. Said p.sent s p.transaction.since (Give (node_of d) (length u.items) k item)) x.kind_is x.said in
      by_test (Own d s v) (nat_lt (length u.items + 1) u.total) _ _
      (λ short. on_ask v g (record u { items = items; idle = 0 }) u.kind (length u.items + 1) i h refl
      (λ _. more p.sent p.transaction u item gat x.item_is said (let l = less _ _ short in let t = gat.total in omega arith)))
      (λ long. on_last keeps p g u item i h gat x said (not_less _ _ long))

  -- an item for which the truth is known if an upload of the station is open
  pub on_item : (keeps : Bool) (p : Part) (g : Moments) (u : Option Upload) (seq kind : ℕ) (item : Item) → Inv d s (with_upload p u) g → (0 < (pair_of s (with_upload p u) g).has_open → Delivered d s (with_upload p u) (pair_of s (with_upload p u) g) kind seq item) → Own d s (with_upload p u) (item_comes keeps (with_upload p u).drone s u seq kind item)
  on_item keeps p g None seq kind item i x = record { needs = tt; moments = g; inv = i }
  on_item keeps p g (Some u) seq kind item i x =
      let v = with_upload p (Some u) in
      let P : DroneStep → Type 0 = Own d s v in
      by_test P (not (same_stream u.stream s)) _ _
      (λ other. record { needs = tt; moments = g; inv = i })
      (λ mine.
      let own = not_is_false _ mine in
      let h : 0 < (pair_of s v g).has_open = (let z = flag_true _ own in omega arith) in
      let gat : Gathering d s p.sent p.transaction u = i.upload (stream_eq _ _ own) in
      by_test P (not ((kind == u.kind) && (seq == length u.items))) _ _
      (λ _. on_ask v g u u.kind (length u.items) i h refl (λ _. gat))
      (λ fits.
      let b = both_true _ _ (not_is_false _ fits) in
      let ek : kind ≡ u.kind = eq_true _ _ b.0 in
      let ep : seq ≡ length u.items = eq_true _ _ b.1 in
      on_fit keeps p g u item (item_fault u.kind item) i h gat (subst (λ n. Delivered d s v (pair_of s v g) u.kind n item) ep (subst (λ n. Delivered d s v (pair_of s v g) n seq item) ek (x h)))))
