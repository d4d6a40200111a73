-- What a drone's calls come to, by the tests that they make.
use Rattle.std.proofs.Common.{◌≡◌, ℕ, ◌+◌, ◌==◌, ◌<◌, ◌≤◌, Bool, true, false, ◌&&◌, ◌||◌, not, nat_lt, if◌then◌else◌, length, ◌++◌, ◌∷◌, [], List, Option, Some, None, refl, sym, ap, ◌∙◌, arith}
use Rattle.std.specs.Prelude.{is_some}
use Rattle.std.proofs.lemmas.List.{length_push}
use Rattle.std.proofs.lemmas.Bool.Decides.{nat_tests}
use Rattle.mav_names.specs.declared.names.Stream.{Stream}
use Rattle.plan_items.specs.Kinds.{number_of, limit_of, kind_of}
use Rattle.plan_items.specs.Validation.{plan_fault, item_fault}
use Rattle.plan_items.specs.declared.faults.PlanFault.{PlanFault}
use Rattle.plan_items.specs.declared.items.Item.{Item}
use Rattle.plan_items.specs.declared.kinds.PlanKind.{PlanKind}
use Rattle.plan_items.specs.declared.kinds.PlanKind.TheVariants.{Mission, Fence, Rally}
use Rattle.plan_items.specs.declared.messages.PlanMsg.{PlanMsg}
use Rattle.plan_items.specs.declared.messages.PlanMsg.TheVariants.{Count, Request, Item as Give, Ack, List as Listing, Clear, Ping}
use Rattle.plan_items.proofs.KindNumbers.{kind_of-none, number_of-kind_of}
use Rattle.plan_upload.specs.Addresses.{same_stream, node_of}
use Rattle.plan_upload.specs.Drone.{Download, DroneState, DroneStep, PlanEvent, Quiet, Installs, Upload, closed, opened, answers, rests, heard, gathered, ack, ask, is_other, has_no_room, result_of, most_results, count_comes, item_comes, item_fits, is_downloading, copy_of, Shows, ack_comes, clear_comes, list_comes, request_comes, drone_step}
use Rattle.plan_upload.specs.Changes.{install_of, change_by}
use Rattle.plan_upload.specs.Gathering.{verdict_of, item_verdict, last_verdict, asked_of, acked_of, with_item, installed_by, kind_in}
use Rattle.plan_upload.specs.Heard.{is_heard}
use Rattle.plan_upload.specs.Plans.{plan_at}
use Rattle.plan_upload.specs.Room.{has_place}
use Rattle.plan_upload.specs.declared.verdicts.Verdict.{Verdict}
use Rattle.plan_upload.specs.declared.verdicts.Verdict.TheVariants.{NotOwn, AskAgain, Refuse, Gather, Install}

-- ---- an item, by its verdict

abbrev installs_by : Option Upload → Stream → Item → PlanEvent
installs_by None s item = Quiet
installs_by (Some u) s item = Installs s u.kind (u.items ++ item ∷ [])

-- the change of an install
pub installs_kind : (u : Option Upload) (s : Stream) (item : Item) → install_of (kind_in u) ≡ change_by (installs_by u s item)
installs_kind None s item = refl
installs_kind (Some u) s item = refl

abbrev pub step_by : Bool → DroneState → Stream → Option Upload → Item → Verdict → DroneStep
step_by keeps d s u item NotOwn = rests d
step_by keeps d s u item AskAgain = record { drone = d; answer = asked_of u s; event = Quiet }
step_by keeps d s u item (Refuse code) = record { drone = closed d s; answer = acked_of u s code; event = Quiet }
step_by keeps d s u item Gather = record { drone = record d { upload = with_item u item }; answer = asked_of (with_item u item) s; event = Quiet }
step_by keeps d s u item Install =
    if keeps then record { drone = installed_by d s u item; answer = acked_of u s 0; event = installs_by u s item }
    else record { drone = closed d s; answer = acked_of u s 1; event = Quiet }

whole_fits : (keeps : Bool) (d : DroneState) (s : Stream) (u : Upload) (item : Item) (more : Bool) (f : Option PlanFault) → (if more then answers (gathered d u item) (ask s u.kind (length u.items + 1)) else if is_some f then answers (closed d s) (ack s 5 u.kind) else step_by keeps d s (Some u) item Install) ≡ step_by keeps d s (Some u) item (if more then Gather else last_verdict f)
whole_fits keeps d s u item true f = ap (λ (n : ℕ). answers (gathered d u item) (ask s u.kind n)) (sym (length_push u.items item))
whole_fits keeps d s u item false (Some fault) = refl
whole_fits keeps d s u item false None = refl

item_fits_by : (keeps : Bool) (d : DroneState) (s : Stream) (u : Upload) (item : Item) (f : Option PlanFault) → item_fits keeps d s u item f ≡ step_by keeps d s (Some u) item (item_verdict u item f)
item_fits_by keeps d s u item (Some fault) = refl
item_fits_by keeps d s u item None = whole_fits keeps d s u item (nat_lt (length u.items + 1) u.total) (plan_fault u.kind (u.items ++ item ∷ []))

item_tests : (keeps : Bool) (d : DroneState) (s : Stream) (u : Upload) (item : Item) (own asked : Bool) (f : Option PlanFault) → (if not own then rests d else if not asked then answers d (ask s u.kind (length u.items)) else item_fits keeps d s u item f) ≡ step_by keeps d s (Some u) item (if not own then NotOwn else if not asked then AskAgain else item_verdict u item f)
item_tests keeps d s u item false asked f = refl
item_tests keeps d s u item true false f = refl
item_tests keeps d s u item true true f = item_fits_by keeps d s u item f

item_comes_by : (keeps : Bool) (d : DroneState) (s : Stream) (u : Option Upload) (seq kind : ℕ) (item : Item) → item_comes keeps d s u seq kind item ≡ step_by keeps d s u item (verdict_of u s seq kind item)
item_comes_by keeps d s None seq kind item = refl
item_comes_by keeps d s (Some u) seq kind item = item_tests keeps d s u item (same_stream u.stream s) ((kind == u.kind) && (seq == length u.items)) (item_fault u.kind item)

-- `k` is what is known of `keeps`
pub judged : (keeps k : Bool) (v d : DroneState) (s : Stream) (seq kind : ℕ) (item : Item) (a b : Verdict) → keeps ≡ k → v ≡ d → a ≡ verdict_of v.upload s seq kind item → a ≡ b → step_by k v s v.upload item b ≡ item_comes keeps d s d.upload seq kind item
judged keeps k v d s seq kind item a b known view is at =
    sym ((λ i. item_comes (known i) (sym view i) s (sym view i).upload seq kind item) ∙ (item_comes_by k v s v.upload seq kind item ∙ ap (step_by k v s v.upload item) (sym is ∙ at)))

-- ---- a count, by its tests

abbrev pub known_count : (d : DroneState) (s : Stream) (count kind : ℕ) (other none many full : Bool) → DroneStep
known_count d s count kind other none many full =
    if other then answers d (ack s 14 kind)
    else if none then answers (closed d s) (ack s 5 kind)
    else if many then answers (closed d s) (ack s 4 kind)
    else if full then answers d (ack s 14 kind)
    else answers (opened d s kind count) (ask s kind 0)

known_low : (kind : ℕ) (known : PlanKind) → kind_of kind ≡ Some known → nat_lt 2 kind ≡ false
known_low kind Mission is = let e : 0 ≡ kind = number_of-kind_of kind Mission is in grind (arith, nat_tests)
known_low kind Fence is = let e : 1 ≡ kind = number_of-kind_of kind Fence is in grind (arith, nat_tests)
known_low kind Rally is = let e : 2 ≡ kind = number_of-kind_of kind Rally is in grind (arith, nat_tests)

unknown_high : (kind : ℕ) → kind_of kind ≡ None → nat_lt 2 kind ≡ true
unknown_high kind is = let h : 2 < kind = kind_of-none kind is in grind (arith, nat_tests)

pub unknown_count : (d : DroneState) (s : Stream) (count kind : ℕ) (a : Option PlanKind) → a ≡ kind_of kind → a ≡ None → answers (closed d s) (ack s 3 kind) ≡ count_comes d s count kind
unknown_count d s count kind a is none = sym (rw (unknown_high kind (sym is ∙ none)) refl)

-- the tests after that of the kind
count_tests : (v d : DroneState) (s : Stream) (count kind : ℕ) (a : Option PlanKind) (known : PlanKind) (other none many full : Bool) → v ≡ d → a ≡ kind_of kind → a ≡ Some known → is_other v.upload s ≡ other → (count == 0) ≡ none → nat_lt (limit_of (number_of known)) count ≡ many → has_no_room v s ≡ full → known_count d s count kind other none many full ≡ count_comes d s count kind
count_tests v d s count kind a known other none many full view is at e1 e2 e3 e4 =
    let some = sym is ∙ at in
    let number : number_of known ≡ kind = number_of-kind_of kind known some in
    let low : nat_lt 2 kind ≡ false = known_low kind known some in
    let e1' : is_other d.upload s ≡ other = ap (λ (d : DroneState). is_other d.upload s) (sym view) ∙ e1 in
    let e3' : nat_lt (limit_of kind) count ≡ many = ap (λ (n : ℕ). nat_lt (limit_of n) count) (sym number) ∙ e3 in
    let e4' : has_no_room d s ≡ full = ap (λ (d : DroneState). has_no_room d s) (sym view) ∙ e4 in
    sym (λ k. if low k then answers (closed d s) (ack s 3 kind) else known_count d s count kind (e1' k) (e2 k) (e3' k) (e4' k))

pub denied_count : (v d : DroneState) (s : Stream) (count kind : ℕ) (a : Option PlanKind) (known : PlanKind) (other : Bool) → v ≡ d → a ≡ kind_of kind → a ≡ Some known → other ≡ is_other v.upload s → other ≡ true → answers d (ack s 14 kind) ≡ count_comes d s count kind
denied_count v d s count kind a known other view is at e1 holds = count_tests v d s count kind a known true _ _ _ view is at (sym e1 ∙ holds) refl refl refl

pub empty_count : (v d : DroneState) (s : Stream) (count kind : ℕ) (a : Option PlanKind) (known : PlanKind) (other : Bool) → v ≡ d → a ≡ kind_of kind → a ≡ Some known → other ≡ is_other v.upload s → other ≡ false → count ≡ 0 → answers (closed d s) (ack s 5 kind) ≡ count_comes d s count kind
empty_count v d s count kind a known other view is at e1 holds zero = count_tests v d s count kind a known false true _ _ view is at (sym e1 ∙ holds) (ap (λ (n : ℕ). n == 0) zero) refl refl

some_left : (count : ℕ) → 0 < count → (count == 0) ≡ false
some_left count some = grind (arith, nat_tests)

above : (limit count : ℕ) → limit < count → nat_lt limit count ≡ true
above limit count h = grind (arith, nat_tests)

below : (limit count : ℕ) → count ≤ limit → nat_lt limit count ≡ false
below limit count h = grind (arith, nat_tests)

pub long_count : (v d : DroneState) (s : Stream) (count kind : ℕ) (a : Option PlanKind) (known : PlanKind) (other : Bool) (limit : ℕ) → v ≡ d → a ≡ kind_of kind → a ≡ Some known → other ≡ is_other v.upload s → other ≡ false → 0 < count → limit ≡ limit_of (number_of known) → limit < count → answers (closed d s) (ack s 4 kind) ≡ count_comes d s count kind
long_count v d s count kind a known other limit view is at e1 holds some limit_is many = count_tests v d s count kind a known false false true _ view is at (sym e1 ∙ holds) (some_left count some) (above _ count (rw limit_is at many)) refl

has_no_room_is : (d : DroneState) (s : Stream) (place : Bool) → place ≡ has_place d.results s → has_no_room d s ≡ not place
has_no_room_is d s place is = turned (is_some (result_of d.results s)) (nat_lt (length d.results) most_results) ∙ ap not (sym is)
  where
    turned : (a b : Bool) → (not a && not b) ≡ not (a || b)
    turned true b = refl
    turned false b = refl

pub full_count : (v d : DroneState) (s : Stream) (count kind : ℕ) (a : Option PlanKind) (known : PlanKind) (other : Bool) (limit : ℕ) (place : Bool) → v ≡ d → a ≡ kind_of kind → a ≡ Some known → other ≡ is_other v.upload s → other ≡ false → 0 < count → limit ≡ limit_of (number_of known) → count ≤ limit → place ≡ has_place v.results s → known_count d s count kind false false false (not place) ≡ count_comes d s count kind
full_count v d s count kind a known other limit place view is at e1 holds some limit_is few room = count_tests v d s count kind a known false false false (not place) view is at (sym e1 ∙ holds) (some_left count some) (below _ count (rw limit_is at few)) (has_no_room_is v s place room)

-- ---- a list, by its tests

pub unknown_list : (d : DroneState) (s : Stream) (kind : ℕ) (a : Option PlanKind) → a ≡ kind_of kind → a ≡ None → answers d (ack s 3 kind) ≡ list_comes d s kind
unknown_list d s kind a is none = sym (rw (unknown_high kind (sym is ∙ none)) refl)

abbrev pub shows_at : DroneState → Stream → ℕ → Option Download → List Item → DroneStep
shows_at d s kind copy items = record { drone = record d { download = copy }; answer = Some (Count (node_of s) (length items) kind); event = Shows s kind items }

list_tests : (v d : DroneState) (s : Stream) (kind : ℕ) (a : Option PlanKind) (known : PlanKind) (o other : Bool) → v ≡ d → a ≡ kind_of kind → a ≡ Some known → o ≡ is_downloading v.download s → o ≡ other
    → (if other then answers d (ack s 14 kind) else shows_at d s kind (copy_of s kind (plan_at d.plans kind)) (plan_at d.plans kind)) ≡ list_comes d s kind
list_tests v d s kind a known o other view is at test yes_or_no =
    let low : nat_lt 2 kind ≡ false = known_low kind known (sym is ∙ at) in
    let tested : is_downloading d.download s ≡ other = ap (λ (d : DroneState). is_downloading d.download s) (sym view) ∙ (sym test ∙ yes_or_no) in
    sym (λ k. if low k then answers d (ack s 3 kind) else if tested k then answers d (ack s 14 kind) else shows_at d s kind (copy_of s kind (plan_at d.plans kind)) (plan_at d.plans kind))

pub denied_list : (v d : DroneState) (s : Stream) (kind : ℕ) (a : Option PlanKind) (known : PlanKind) (o : Bool) → v ≡ d → a ≡ kind_of kind → a ≡ Some known → o ≡ is_downloading v.download s → o ≡ true → answers d (ack s 14 kind) ≡ list_comes d s kind
denied_list v d s kind a known o view is at test other = list_tests v d s kind a known o true view is at test other

pub shown_list : (v d : DroneState) (s : Stream) (kind : ℕ) (a : Option PlanKind) (known : PlanKind) (o : Bool) (items : List Item) (copy : Option Download) → v ≡ d → a ≡ kind_of kind → a ≡ Some known → o ≡ is_downloading v.download s → o ≡ false
    → items ≡ plan_at v.plans (number_of known) → copy ≡ copy_of s (number_of known) items → shows_at v s kind copy items ≡ list_comes d s kind
shown_list v d s kind a known o items copy view is at test own there copied =
    let number : number_of known ≡ kind = number_of-kind_of kind known (sym is ∙ at) in
    let plan : items ≡ plan_at d.plans kind = there ∙ (λ k. plan_at (view k).plans (number k)) in
    let made : copy ≡ copy_of s kind (plan_at d.plans kind) = copied ∙ (λ k. copy_of s (number k) (plan k)) in
    (λ k. shows_at (view k) s kind (made k) (plan k)) ∙ list_tests v d s kind a known o false view is at test own

-- ---- a message that is heard, and one that isn't

abbrev pub call_of : Bool → DroneState → Stream → PlanMsg → DroneStep
call_of keeps d s (Ping to usec seq) = answers d (Ping (node_of s) usec seq)
call_of keeps d s (Count to count kind) = count_comes d s count kind
call_of keeps d s (Give to seq kind item) = item_comes keeps d s d.upload seq kind item
call_of keeps d s (Ack to code kind) = ack_comes d s code kind
call_of keeps d s (Clear to kind) = clear_comes keeps d s kind
call_of keeps d s (Listing to kind) = list_comes d s kind
call_of keeps d s (Request to seq kind) = request_comes d s d.download seq kind

by_heard : (keeps : Bool) (d : DroneState) (s : Stream) (m : PlanMsg) → drone_step keeps d s m ≡ heard d (is_heard d.sys m) (call_of keeps d s m)
by_heard keeps d s (Ping to usec seq) = refl
by_heard keeps d s (Count to count kind) = refl
by_heard keeps d s (Give to seq kind item) = refl
by_heard keeps d s (Ack to code kind) = refl
by_heard keeps d s (Clear to kind) = refl
by_heard keeps d s (Listing to kind) = refl
by_heard keeps d s (Request to seq kind) = refl

pub called : (keeps : Bool) (d : DroneState) (s : Stream) (m at : PlanMsg) (hears : Bool) → hears ≡ is_heard d.sys m → hears ≡ true → m ≡ at → call_of keeps d s at ≡ drone_step keeps d s m
called keeps d s m at hears is holds message = sym (by_heard keeps d s m ∙ (ap (λ (b : Bool). heard d b (call_of keeps d s m)) (sym is ∙ holds) ∙ ap (call_of keeps d s) message))

pub unheard : (keeps : Bool) (d : DroneState) (s : Stream) (m : PlanMsg) (hears : Bool) → hears ≡ is_heard d.sys m → hears ≡ false → rests d ≡ drone_step keeps d s m
unheard keeps d s m hears is other = sym (by_heard keeps d s m ∙ ap (λ (b : Bool). heard d b (call_of keeps d s m)) (sym is ∙ other))
