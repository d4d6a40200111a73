-- A drone has results of streams that it has heard alone, so there is room for each of them.
use Rattle.std.proofs.Common.{◌≡◌, ℕ, ◌+◌, ◌≤◌, ◌⊎◌, inl, inr, Bool, true, false, ◌==◌, ◌&&◌, ◌||◌, not, nat_lt, List, [], ◌∷◌, ◌++◌, length, map, Option, Some, None, refl, sym, ap, subst, arith, ◌∙◌}
use Rattle.std.specs.Prelude.{slice_get, is_some, option_map, IfSome, All}
use Rattle.std.specs.List.{list_any, IsDistinct}
use Rattle.std.proofs.lemmas.List.{length-map}
use Rattle.std.proofs.lemmas.List.Folds.{list_any-append}
use Rattle.std.proofs.lemmas.List.Elements.{All-head, All-tail}
use Rattle.std.proofs.lemmas.Map.Keys.{IsDistinct-push}
use Rattle.std.proofs.lemmas.Map.Made.{length-le_from_is_member}
use Rattle.mav_names.specs.declared.names.Stream.{Stream}
use Rattle.mav_frame.specs.Packet.{Packet, SignatureBlock}
use Rattle.plan_items.specs.declared.items.Item.{Item}
use Rattle.plan_items.specs.declared.faults.PlanFault.{PlanFault}
use Rattle.plan_items.specs.declared.messages.PlanMsg.{PlanMsg}
use Rattle.plan_items.specs.declared.messages.PlanMsg.TheVariants.{Count, Request, Item as Give, Ack, List as Listing, Clear, Ping}
use Rattle.plan_items.specs.Kinds.{limit_of}
use Rattle.plan_items.specs.Validation.{item_fault, plan_fault}
use Rattle.plan_upload.specs.Addresses.{same_stream as is_stream, same_name, everyone, is_for_drone}
use Rattle.plan_upload.specs.Plans.{Plans, every_kind}
use Rattle.plan_upload.specs.Drone.{DroneState, DroneStep, Upload, Download, UploadResult, DroneTick, is_own, is_other, with_result, closed, has_no_room, count_comes, item_comes, item_fits, last_item, undownloaded, ack_comes, clear_comes, is_downloading, list_comes, give_item, request_comes, drone_step, fresh_drone, idle_limit, upload_waits, waited, drone_tick}
use Rattle.mav_sign.specs.declared.admission.Admit.TheVariants.{Admitted}
use Rattle.mav_sign.specs.History.{Entry, tried, Stamped, stream_of, stamped, admitted_by, admitted_in, same_stream, stamps_of, greatest_of, last_of, streams_of}
use Rattle.mav_sign.proofs.Histories.{admitted_more, admitted_same, has_last, same_self, same_is, is_kept}
use Rattle.command_proto.specs.declared.commands.LastCommand.{LastCommand}
use Rattle.command_proto.specs.Executor.{ExecutorState}
use Rattle.command_proto.specs.Laws.{streams_in, ExecutorInRange}
use Rattle.fleet_invariants.specs.Sound.{Roomy}
use Rattle.fleet_invariants.proofs.Tests.{by_test, eq_true, both_true, differ}
use Rattle.fleet_invariants.proofs.Streams.{laws}

abbrev keys : List UploadResult → List Stream
keys rs = map (λ (r : UploadResult). r.stream) rs

is_one : (a b : Stream) → is_stream a b ≡ true → a ≡ b
is_one a b same =
    let first = both_true _ _ same in
    let rest = both_true _ _ first.1 in
    let sys = eq_true _ _ first.0 in
    let comp = eq_true _ _ rest.0 in
    let link = eq_true _ _ rest.1 in
    λ i. record { sys = sys i; comp = comp i; link = link i }

-- two tests for one stream agree on other streams
streams_differ : (a b : Stream) → is_stream a b ≡ false → same_stream b a ≡ false
streams_differ a b e = elim (same_stream b a) as (λ t. same_stream b a ≡ t → t ≡ false) [
  | true ↦ λ same. absurd (differ _ (subst (λ x. is_stream x b ≡ true) (same_is b a same) (self b)) e)
  | false ↦ λ same. refl
] refl
  where
    self : (x : Stream) → is_stream x x ≡ true
    self x = rw (number_same x.sys, number_same x.comp) (number_same x.link)
      where
        number_same : (n : ℕ) → (n == n) ≡ true
        number_same n = grind arith

-- the streams with a result, with one more: it is one of them, or after them
data More (s : Stream) (before after : List Stream) : Type 0 where
  Known : after ≡ before → More s before after
  New : list_any (same_stream s) before ≡ false → after ≡ before ++ s ∷ [] → More s before after

keys_more : (rs : List UploadResult) (s : Stream) (b : Bool) → More s (keys rs) (keys (with_result rs s b))
keys_more [] s b = New refl refl
keys_more (r ∷ rs) s b = by_test (λ qs. More s (keys (r ∷ rs)) (keys qs)) (is_stream r.stream s) _ _ (λ _. Known refl) (λ e. other (streams_differ r.stream s e) (keys_more rs s b))
  where
    other : same_stream s r.stream ≡ false → More s (keys rs) (keys (with_result rs s b)) → More s (r.stream ∷ keys rs) (r.stream ∷ keys (with_result rs s b))
    other e (Known same) = Known (ap (λ ks. r.stream ∷ ks) same)
    other e (New none more) = New (rw e none) (ap (λ ks. r.stream ∷ ks) more)

no_streams : IsDistinct same_stream []
unfolding IsDistinct
no_streams = tt

module _ (known : Stream → Bool) where
  -- results of known streams, one of each
  record Few (ks : List Stream) : Type 0 where
    apart : IsDistinct same_stream ks
    all : (stream : Stream) → list_any (same_stream stream) ks ≡ true → known stream ≡ true

  few_more : (s : Stream) (before after : List Stream) → known s ≡ true → Few before → More s before after → Few after
  few_more s before after is f (Known same) = subst Few (sym same) f
  few_more s before after is f (New none more) = subst Few (sym more) (record {
    apart = IsDistinct-push laws before s f.apart none;
    all = λ q e. elim (or_true _ _ (sym (list_any-append (same_stream q) before (s ∷ [])) ∙ e)) [
      | inl old ↦ f.all q old
      | inr new ↦ subst (λ x. known x ≡ true) (sym (same_is q s (only _ new))) is
    ];
  })
    where
      or_true : (a b : Bool) → (a || b) ≡ true → (a ≡ true) ⊎ (b ≡ true)
      or_true true b e = inl refl
      or_true false b e = inr e

      only : (b : Bool) → (b || false) ≡ true → b ≡ true
      only true e = refl
      only false e = e

  few_with : (rs : List UploadResult) (s : Stream) (b : Bool) → known s ≡ true → Few (keys rs) → Few (keys (with_result rs s b))
  few_with rs s b is f = few_more s (keys rs) (keys (with_result rs s b)) is f (keys_more rs s b)

  module _ (s : Stream) (is : known s ≡ true) where
    abbrev R : DroneStep → Type 0
    R r = Roomy known r.drone

    few_of : (d : DroneState) → Roomy known d → Few (keys d.results)
    few_of d h = record { apart = h.apart; all = h.results }

    roomy_of : (d : DroneState) → Few (keys d.results) → IfSome d.upload (λ u. known u.stream ≡ true) → Roomy known d
    roomy_of d f u = record { apart = f.apart; results = f.all; upload = u }

    -- with a result more, and this upload
    with_one : (d : DroneState) (b : Bool) (e : DroneState) → Roomy known d → e.results ≡ with_result d.results s b → IfSome e.upload (λ u. known u.stream ≡ true) → Roomy known e
    with_one d b e h same u = roomy_of e (subst (λ rs. Few (keys rs)) (sym same) (few_with d.results s b is (few_of d h))) u

    shuts : (d : DroneState) → Roomy known d → Roomy known (closed d s)
    shuts d h = by_test (Roomy known) (is_own d.upload s) _ d (λ _. with_one d false _ h refl tt) (λ _. h)

    counts : (d : DroneState) → Roomy known d → (n kind : ℕ) → R (count_comes d s n kind)
    counts d h n kind =
        by_test R (nat_lt 2 kind) _ _ (λ _. shuts d h) (λ _.
        by_test R (is_other d.upload s) _ _ (λ _. h) (λ _.
        by_test R (n == 0) _ _ (λ _. shuts d h) (λ _.
        by_test R (nat_lt (limit_of kind) n) _ _ (λ _. shuts d h) (λ _.
        by_test R (has_no_room d s) _ _ (λ _. h) (λ _. with_one d false _ h refl is)))))

    last : (d : DroneState) → Roomy known d → (kind : ℕ) (items : List Item) → R (last_item true d s kind items)
    last d h kind items = by_test R (is_some (plan_fault kind items)) _ _ (λ _. shuts d h) (λ _. with_one d true _ h refl tt)

    fits : (d : DroneState) → Roomy known d → (u : Upload) → known u.stream ≡ true → (item : Item) (fault : Option PlanFault) → R (item_fits true d s u item fault)
    fits d h u own item (Some fault) = shuts d h
    fits d h u own item None = by_test R (nat_lt (length u.items + 1) u.total) _ _ (λ _. roomy_of _ (few_of d h) own) (λ _. last d h u.kind (u.items ++ item ∷ []))

    gets_item : (d : DroneState) → Roomy known d → (u : Option Upload) → IfSome u (λ u. known u.stream ≡ true) → (seq kind : ℕ) (item : Item) → R (item_comes true d s u seq kind item)
    gets_item d h None own seq kind item = h
    gets_item d h (Some u) own seq kind item =
        by_test R (not (is_stream u.stream s)) _ _ (λ _. h) (λ _.
        by_test R (not ((kind == u.kind) && (seq == length u.items))) _ _ (λ _. h) (λ _. fits d h u own item (item_fault u.kind item)))

    undone : (d : DroneState) → Roomy known d → Roomy known (undownloaded d s)
    undone d h = roomy_of _ (few_of d h) h.upload

    gets_ack : (d : DroneState) → Roomy known d → (code kind : ℕ) → R (ack_comes d s code kind)
    gets_ack d h code kind = by_test R (code == 15) _ _ (λ _. shuts _ (undone d h)) (λ _. undone d h)

    clears : (d : DroneState) → Roomy known d → (kind : ℕ) → R (clear_comes true d s kind)
    clears d h kind =
        by_test R (nat_lt 2 kind && not (kind == every_kind)) _ _ (λ _. h) (λ _.
        by_test R (is_other d.upload s) _ _ (λ _. h) (λ _. let z = shuts d h in record { apart = z.apart; results = z.results; upload = z.upload }))

    lists : (d : DroneState) → Roomy known d → (kind : ℕ) → R (list_comes d s kind)
    lists d h kind =
        by_test R (nat_lt 2 kind) _ _ (λ _. h) (λ _.
        by_test R (is_downloading d.download s) _ _ (λ _. h) (λ _. roomy_of _ (few_of d h) h.upload))

    gives : (d : DroneState) → Roomy known d → (t : Download) (seq kind : ℕ) (item : Option Item) → R (give_item d s t seq kind item)
    gives d h t seq kind None = h
    gives d h t seq kind (Some item) = roomy_of _ (few_of d h) h.upload

    requests : (d : DroneState) → Roomy known d → (t : Option Download) (seq kind : ℕ) → R (request_comes d s t seq kind)
    requests d h None seq kind = h
    requests d h (Some t) seq kind = by_test R (is_stream t.stream s && (t.kind == kind)) _ _ (λ _. gives d h t seq kind (slice_get t.items seq)) (λ _. h)

    pub roomy_step : (d : DroneState) → Roomy known d → (m : PlanMsg) → R (drone_step true d s m)
    roomy_step d h (Ping to usec seq) = by_test R (same_name to everyone) _ _ (λ _. h) (λ _. h)
    roomy_step d h (Count to n kind) = by_test R (is_for_drone d.sys to) _ _ (λ _. counts d h n kind) (λ _. h)
    roomy_step d h (Give to seq kind item) = by_test R (is_for_drone d.sys to) _ _ (λ _. gets_item d h d.upload h.upload seq kind item) (λ _. h)
    roomy_step d h (Ack to code kind) = by_test R (is_for_drone d.sys to) _ _ (λ _. gets_ack d h code kind) (λ _. h)
    roomy_step d h (Clear to kind) = by_test R (is_for_drone d.sys to) _ _ (λ _. clears d h kind) (λ _. h)
    roomy_step d h (Listing to kind) = by_test R (is_for_drone d.sys to) _ _ (λ _. lists d h kind) (λ _. h)
    roomy_step d h (Request to seq kind) = by_test R (is_for_drone d.sys to) _ _ (λ _. requests d h d.download seq kind) (λ _. h)

  -- time passes
  waits : (d : DroneState) → Roomy known d → (u : Option Upload) → IfSome u (λ u. known u.stream ≡ true) → Roomy known (upload_waits d u).drone
  waits d h None own = h
  waits d h (Some u) own =
      by_test (λ (t : DroneTick). Roomy known t.drone) (nat_lt (u.idle + 1) idle_limit) _ _ (λ _. record { apart = h.apart; results = h.results; upload = own }) (λ _. shuts u.stream own d h)

  pub roomy_tick : (d : DroneState) → Roomy known d → Roomy known (drone_tick d).drone
  roomy_tick d h = waits (record d { download = waited d.download }) (record { apart = h.apart; results = h.results; upload = h.upload }) d.upload h.upload

  pub roomy_fresh : (sys : ℕ) (plans : Plans) → Roomy known (fresh_drone sys plans)
  roomy_fresh sys plans = record { apart = no_streams; results = λ q e. absurd (cc); upload = tt }

pub roomy_more : (known more : Stream → Bool) → ((q : Stream) → known q ≡ true → more q ≡ true) → (d : DroneState) → Roomy known d → Roomy more d
roomy_more known more h d r = record { apart = r.apart; results = λ q e. h q (r.results q e); upload = on d.upload r.upload }
  where
    on : (u : Option Upload) → IfSome u (λ u. known u.stream ≡ true) → IfSome u (λ u. more u.stream ≡ true)
    on None e = tt
    on (Some u) e = h u.stream e

-- ---- the streams that were heard

pub heard_more : (history : List Entry) (entry : Entry) (q : Stream) → is_some (last_of q history) ≡ true → is_some (last_of q (history ++ entry ∷ [])) ≡ true
heard_more history entry q e = by_entry (admitted_by entry) refl
  where
    either : (a b : Bool) → a ≡ true → (a || b) ≡ true
    either true b e = refl
    either false b e = absurd (cc)

    by_entry : (o : Option Stamped) → admitted_by entry ≡ o → is_some (last_of q (history ++ entry ∷ [])) ≡ true
    by_entry None is = ap (λ l. is_some (greatest_of (stamps_of q l))) (admitted_same history entry is) ∙ e
    by_entry (Some s) is =
        ap (λ l. is_some (greatest_of (stamps_of q l))) (admitted_more history entry s is)
        ∙ has_last q (admitted_in history ++ s ∷ [])
        ∙ list_any-append (λ (t : Stamped). same_stream q t.stream) (admitted_in history) (s ∷ [])
        ∙ either _ _ (sym (has_last q (admitted_in history)) ∙ e)

pub heard_it : (history : List Entry) (packet : Packet) (block : SignatureBlock) → packet.block ≡ Some block → is_some (last_of (stream_of packet block) (history ++ tried packet Admitted ∷ [])) ≡ true
heard_it history packet block is =
    let s = stamped packet block in
    let q = stream_of packet block in
    ap (λ l. is_some (greatest_of (stamps_of q l))) (admitted_more history (tried packet Admitted) s (ap (λ (o : Option SignatureBlock). option_map (stamped packet) o) is))
    ∙ has_last q (admitted_in history ++ s ∷ [])
    ∙ list_any-append (λ (t : Stamped). same_stream q t.stream) (admitted_in history) (s ∷ [])
    ∙ either (list_any (λ (t : Stamped). same_stream q t.stream) (admitted_in history)) _ (rw (same_self q) refl)
  where
    either : (a b : Bool) → b ≡ true → (a || b) ≡ true
    either true b e = refl
    either false b e = e

-- no more results than streams that were heard
pub room_for : (history : List Entry) (d : DroneState) → Roomy (λ q. is_some (last_of q history)) d → length d.results ≤ length (streams_of history)
room_for history d h =
    subst (λ n. n ≤ length (streams_of history)) (length-map d.results (λ (r : UploadResult). r.stream))
    (length-le_from_is_member laws (keys d.results) (streams_of history) h.apart (λ q e. is_kept q history ∙ h.results q e))

-- ---- nor more last commands

-- both tests for one stream are the same
grouped : (a b c : Bool) → (a && (b && c)) ≡ ((a && b) && c)
grouped true b c = refl
grouped false b c = refl

tests_agree : is_stream ≡ same_stream
tests_agree = λ i a b. grouped (a.sys == b.sys) (a.comp == b.comp) (a.link == b.link) i

abbrev is_known : List Entry → Stream → Type 0
is_known history q = is_some (last_of q history) ≡ true

one_known : (history : List Entry) (stream q : Stream) (b c : Bool) → same_stream q stream ≡ b → is_known history stream → (c ≡ true → is_known history q) → (b || c) ≡ true → is_known history q
one_known history stream q true c same h on e = subst (is_known history) (sym (same_is q stream same)) h
one_known history stream q false c same h on e = on e

known_of : (history : List Entry) (ls : List LastCommand) → All (λ (l : LastCommand). is_known history l.stream) ls → (q : Stream) → list_any (same_stream q) (streams_in ls) ≡ true → is_known history q
known_of history [] h q e = absurd (cc)
known_of history (l ∷ ls) h q e =
    one_known history l.stream q (same_stream q l.stream) (list_any (same_stream q) (streams_in ls)) refl (All-head (λ (l : LastCommand). is_known history l.stream) l ls h)
    (known_of history ls (All-tail (λ (l : LastCommand). is_known history l.stream) l ls h) q) e

pub commands_few : (history : List Entry) (e : ExecutorState) → ExecutorInRange e → All (λ (l : LastCommand). is_some (last_of l.stream history) ≡ true) e.last → length e.last ≤ length (streams_of history)
commands_few history e h known =
    subst (λ n. n ≤ length (streams_of history)) (length-map e.last (λ (l : LastCommand). l.stream))
    (length-le_from_is_member laws (streams_in e.last) (streams_of history) (subst (λ (test : Stream → Stream → Bool). IsDistinct test (streams_in e.last)) tests_agree h.apart)
    (λ q f. is_kept q history ∙ known_of history e.last known q f))
