-- Steps whose new plans are kept, and steps whose aren't: what is the same, and what the plans are.
use Rattle.std.proofs.Common.{◌≡◌, ℕ, zero, suc, ◌+◌, ◌<◌, ◌≤◌, ◌==◌, ◌&&◌, not, nat_lt, Bool, true, false, if◌then◌else◌, is_some, IsTrue, List, [], ◌∷◌, ◌++◌, length, slice_get, Result, inr, refl, sym, subst, ap, ◌∙◌, arith}
use Rattle.std.specs.Prelude.{Option, Some, None, IfOk}
use Rattle.std.proofs.lemmas.Bool.Decides.{nat_tests}
use Rattle.mav_names.specs.declared.names.Name.{Name}
use Rattle.mav_names.specs.declared.names.Stream.{Stream}
use Rattle.plan_items.specs.declared.items.Item.{Item}
use Rattle.plan_items.specs.declared.kinds.PlanKind.{PlanKind}
use Rattle.plan_items.specs.declared.faults.PlanFault.{PlanFault}
use Rattle.plan_items.specs.declared.messages.PlanMsg.{PlanMsg}
use Rattle.plan_items.specs.declared.messages.PlanMsg.TheVariants.{Count, Request, Item as Give, Ack, List as Listing, Clear, Ping}
use Rattle.plan_items.specs.Kinds.{number_of, kind_of, limit_of}
use Rattle.plan_items.specs.Validation.{item_fault, plan_fault, IsValid}
use Rattle.plan_items.proofs.KindNumbers.{number_of-kind_of, kind_of-none}
use Rattle.plan_upload.specs.Addresses.{same_stream, same_name, node_of, everyone, is_for_drone}
use Rattle.plan_upload.specs.Plans.{Plans, IsHoldable, with_plan, without_plan, every_kind}
use Rattle.plan_upload.specs.Kinds.{clear_number}
use Rattle.plan_upload.specs.Drone.{DroneState, DroneStep, Upload, Download, drone_step, heard, rests, answers, closed, undownloaded, is_own, is_other, has_no_room, is_downloading, count_comes, item_comes, item_fits, ack_comes, clear_comes, list_comes, request_comes, give_item}
use Rattle.plan_upload.specs.Gathering.{is_sound_with, kind_in}
use Rattle.plan_upload.specs.Changes.{install_of, change_by, change_of}
use Rattle.plan_upload.specs.Keeping.{HasKind, gathered_in, carried, IsValidIn}
use Rattle.plan_image.specs.Image.{IsImageOf}
use Rattle.plan_upload.specs.declared.changes.Change.TheVariants.{Same, Install, Empty}

-- what holds of either branch holds of the choice
by_test : {A : Type 0} (P : A → Type 0) (b : Bool) (x y : A) → (b ≡ true → P x) → (b ≡ false → P y) → P (if b then x else y)
by_test P true x y f g = f refl
by_test P false x y f g = g refl

-- the same of two choices by one test
both : {A : Type 0} (R : A → A → Type 0) (b : Bool) (x y p q : A) → (b ≡ true → R x p) → (b ≡ false → R y q) → R (if b then x else y) (if b then p else q)
both R true x y p q f g = f refl
both R false x y p q f g = g refl

closed-plans : (d : DroneState) (s : Stream) → (closed d s).plans ≡ d.plans
closed-plans d s = by_test (λ (e : DroneState). e.plans ≡ d.plans) (is_own d.upload s) _ d (λ own. refl) (λ other. refl)

-- a step that leaves the plans as they are
abbrev Leaves : DroneState → DroneStep → Type 0
Leaves d step = step.drone.plans ≡ d.plans

count_leaves : (d : DroneState) (s : Stream) (count kind : ℕ) → Leaves d (count_comes d s count kind)
count_leaves d s count kind =
    by_test (Leaves d) (nat_lt 2 kind) _ _ (λ t. closed-plans d s) (λ t. by_test (Leaves d) (is_other d.upload s) _ _ (λ t. refl)
    (λ t. by_test (Leaves d) (count == 0) _ _ (λ t. closed-plans d s) (λ t. by_test (Leaves d) (nat_lt (limit_of kind) count) _ _ (λ t. closed-plans d s)
    (λ t. by_test (Leaves d) (has_no_room d s) _ _ (λ t. refl) (λ t. refl)))))

fits_leaves : (d : DroneState) (s : Stream) (u : Upload) (item : Item) (fault : Option PlanFault) → Leaves d (item_fits false d s u item fault)
fits_leaves d s u item (Some fault) = closed-plans d s
fits_leaves d s u item None =
    by_test (Leaves d) (nat_lt (length u.items + 1) u.total) _ _ (λ t. refl)
    (λ t. by_test (Leaves d) (is_some (plan_fault u.kind (u.items ++ item ∷ []))) _ _ (λ t. closed-plans d s) (λ t. closed-plans d s))

item_leaves : (d : DroneState) (s : Stream) (o : Option Upload) (seq kind : ℕ) (item : Item) → Leaves d (item_comes false d s o seq kind item)
item_leaves d s None seq kind item = refl
item_leaves d s (Some u) seq kind item =
    by_test (Leaves d) (not (same_stream u.stream s)) _ _ (λ t. refl)
    (λ t. by_test (Leaves d) (not ((kind == u.kind) && (seq == length u.items))) _ _ (λ t. refl) (λ t. fits_leaves d s u item (item_fault u.kind item)))

give_leaves : (d : DroneState) (s : Stream) (t : Download) (seq kind : ℕ) (item : Option Item) → Leaves d (give_item d s t seq kind item)
give_leaves d s t seq kind None = refl
give_leaves d s t seq kind (Some item) = refl

request_leaves : (d : DroneState) (s : Stream) (o : Option Download) (seq kind : ℕ) → Leaves d (request_comes d s o seq kind)
request_leaves d s None seq kind = refl
request_leaves d s (Some t) seq kind =
    by_test (Leaves d) (same_stream t.stream s && (t.kind == kind)) _ _ (λ e. give_leaves d s t seq kind (slice_get t.items seq)) (λ e. refl)

ack_leaves : (d : DroneState) (s : Stream) (code kind : ℕ) → Leaves d (ack_comes d s code kind)
ack_leaves d s code kind = by_test (Leaves d) (code == 15) _ _ (λ t. closed-plans (undownloaded d s) s) (λ t. refl)

list_leaves : (d : DroneState) (s : Stream) (kind : ℕ) → Leaves d (list_comes d s kind)
list_leaves d s kind =
    by_test (Leaves d) (nat_lt 2 kind) _ _ (λ t. refl) (λ t. by_test (Leaves d) (is_downloading d.download s) _ _ (λ t. refl) (λ t. refl))

clear_leaves : (d : DroneState) (s : Stream) (kind : ℕ) → Leaves d (clear_comes false d s kind)
clear_leaves d s kind =
    by_test (Leaves d) (nat_lt 2 kind && not (kind == every_kind)) _ _ (λ t. refl) (λ t. by_test (Leaves d) (is_other d.upload s) _ _ (λ t. refl) (λ t. refl))

heard_leaves : (d : DroneState) (is_for : Bool) (step : DroneStep) → Leaves d step → Leaves d (heard d is_for step)
heard_leaves d is_for step leaves = by_test (Leaves d) is_for step (rests d) (λ t. leaves) (λ t. refl)

-- if the store doesn't keep new plans they stay as they were
pub unkept_plans : (d : DroneState) (s : Stream) (m : PlanMsg) → (drone_step false d s m).drone.plans ≡ d.plans
unkept_plans d s (Ping to usec seq) = heard_leaves d (same_name to everyone) _ refl
unkept_plans d s (Count to count kind) = heard_leaves d (is_for_drone d.sys to) _ (count_leaves d s count kind)
unkept_plans d s (Give to seq kind item) = heard_leaves d (is_for_drone d.sys to) _ (item_leaves d s d.upload seq kind item)
unkept_plans d s (Ack to code kind) = heard_leaves d (is_for_drone d.sys to) _ (ack_leaves d s code kind)
unkept_plans d s (Clear to kind) = heard_leaves d (is_for_drone d.sys to) _ (clear_leaves d s kind)
unkept_plans d s (Listing to kind) = heard_leaves d (is_for_drone d.sys to) _ (list_leaves d s kind)
unkept_plans d s (Request to seq kind) = heard_leaves d (is_for_drone d.sys to) _ (request_leaves d s d.download seq kind)

-- a step whose change is told as Same is the same whether or not the store keeps
abbrev Agree : DroneStep → DroneStep → Type 0
Agree a b = change_by a.event ≡ Same → a ≡ b

installs_some : (kind : ℕ) → kind ≤ 2 → install_of (kind_of kind) ≡ Same → ⊥
installs_some zero h e = absurd (cc)
installs_some (suc zero) h e = absurd (cc)
installs_some (suc (suc zero)) h e = absurd (cc)
installs_some (suc (suc (suc n))) h e = absurd (omega (arith, h))

fits_agree : (d : DroneState) (s : Stream) (u : Upload) (item : Item) (fault : Option PlanFault) → u.kind ≤ 2 → Agree (item_fits true d s u item fault) (item_fits false d s u item fault)
fits_agree d s u item (Some fault) known = λ e. refl
fits_agree d s u item None known =
    both Agree (nat_lt (length u.items + 1) u.total) _ _ _ _ (λ t e. refl)
    (λ t. both Agree (is_some (plan_fault u.kind (u.items ++ item ∷ []))) _ _ _ _ (λ t e. refl) (λ t e. absurd (installs_some u.kind known e)))

item_agree : (d : DroneState) (s : Stream) (o : Option Upload) (seq kind : ℕ) (item : Item) → HasKind o → Agree (item_comes true d s o seq kind item) (item_comes false d s o seq kind item)
item_agree d s None seq kind item known = λ e. refl
item_agree d s (Some u) seq kind item known =
    both Agree (not (same_stream u.stream s)) _ _ _ _ (λ t e. refl)
    (λ t. both Agree (not ((kind == u.kind) && (seq == length u.items))) _ _ _ _ (λ t e. refl) (λ t. fits_agree d s u item (item_fault u.kind item) known))

clear_agree : (d : DroneState) (s : Stream) (kind : ℕ) → Agree (clear_comes true d s kind) (clear_comes false d s kind)
clear_agree d s kind =
    both Agree (nat_lt 2 kind && not (kind == every_kind)) _ _ _ _ (λ t e. refl) (λ t. both Agree (is_other d.upload s) _ _ _ _ (λ t e. refl) (λ t e. absurd (cc)))

pub same_step : (d : DroneState) (s : Stream) (m : PlanMsg) → HasKind d.upload → change_of d s m ≡ Same → drone_step true d s m ≡ drone_step false d s m
same_step d s (Ping to usec seq) known e = refl
same_step d s (Count to count kind) known e = refl
same_step d s (Give to seq kind item) known e = both Agree (is_for_drone d.sys to) _ _ _ _ (λ t. item_agree d s d.upload seq kind item known) (λ t e. refl) e
same_step d s (Ack to code kind) known e = refl
same_step d s (Clear to kind) known e = both Agree (is_for_drone d.sys to) _ _ _ _ (λ t. clear_agree d s kind) (λ t e. refl) e
same_step d s (Listing to kind) known e = refl
same_step d s (Request to seq kind) known e = refl

-- and it leaves the plans as they are
pub same_plans : (d : DroneState) (s : Stream) (m : PlanMsg) → HasKind d.upload → change_of d s m ≡ Same → (drone_step true d s m).drone.plans ≡ d.plans
same_plans d s m known e = ap (λ (step : DroneStep). step.drone.plans) (same_step d s m known e) ∙ unkept_plans d s m

-- the messages that change no plan
abbrev IsQuiet : DroneStep → Type 0
IsQuiet step = change_by step.event ≡ Same

heard_quiet : (d : DroneState) (is_for : Bool) (step : DroneStep) → IsQuiet step → IsQuiet (heard d is_for step)
heard_quiet d is_for step quiet = by_test IsQuiet is_for step (rests d) (λ t. quiet) (λ t. refl)

pub count_quiet : (d : DroneState) (s : Stream) (count kind : ℕ) → IsQuiet (count_comes d s count kind)
count_quiet d s count kind =
    by_test IsQuiet (nat_lt 2 kind) _ _ (λ t. refl) (λ t. by_test IsQuiet (is_other d.upload s) _ _ (λ t. refl)
    (λ t. by_test IsQuiet (count == 0) _ _ (λ t. refl) (λ t. by_test IsQuiet (nat_lt (limit_of kind) count) _ _ (λ t. refl)
    (λ t. by_test IsQuiet (has_no_room d s) _ _ (λ t. refl) (λ t. refl)))))

give_quiet : (d : DroneState) (s : Stream) (t : Download) (seq kind : ℕ) (item : Option Item) → IsQuiet (give_item d s t seq kind item)
give_quiet d s t seq kind None = refl
give_quiet d s t seq kind (Some item) = refl

pub request_quiet : (d : DroneState) (s : Stream) (o : Option Download) (seq kind : ℕ) → IsQuiet (request_comes d s o seq kind)
request_quiet d s None seq kind = refl
request_quiet d s (Some t) seq kind =
    by_test IsQuiet (same_stream t.stream s && (t.kind == kind)) _ _ (λ e. give_quiet d s t seq kind (slice_get t.items seq)) (λ e. refl)

pub ack_quiet : (d : DroneState) (s : Stream) (code kind : ℕ) → IsQuiet (ack_comes d s code kind)
ack_quiet d s code kind = by_test IsQuiet (code == 15) _ _ (λ t. refl) (λ t. refl)

pub list_quiet : (d : DroneState) (s : Stream) (kind : ℕ) → IsQuiet (list_comes d s kind)
list_quiet d s kind =
    by_test IsQuiet (nat_lt 2 kind) _ _ (λ t. refl) (λ t. by_test IsQuiet (is_downloading d.download s) _ _ (λ t. refl) (λ t. refl))

pub ping_changes_none : (d : DroneState) (s : Stream) (to : Name) (usec seq : ℕ) → change_of d s (Ping to usec seq) ≡ Same
ping_changes_none d s to usec seq = heard_quiet d (same_name to everyone) (answers d (Ping (node_of s) usec seq)) refl

pub count_changes_none : (d : DroneState) (s : Stream) (to : Name) (count kind : ℕ) → change_of d s (Count to count kind) ≡ Same
count_changes_none d s to count kind = heard_quiet d (is_for_drone d.sys to) (count_comes d s count kind) (count_quiet d s count kind)

pub ack_changes_none : (d : DroneState) (s : Stream) (to : Name) (code kind : ℕ) → change_of d s (Ack to code kind) ≡ Same
ack_changes_none d s to code kind = heard_quiet d (is_for_drone d.sys to) (ack_comes d s code kind) (ack_quiet d s code kind)

pub list_changes_none : (d : DroneState) (s : Stream) (to : Name) (kind : ℕ) → change_of d s (Listing to kind) ≡ Same
list_changes_none d s to kind = heard_quiet d (is_for_drone d.sys to) (list_comes d s kind) (list_quiet d s kind)

pub request_changes_none : (d : DroneState) (s : Stream) (to : Name) (seq kind : ℕ) → change_of d s (Request to seq kind) ≡ Same
request_changes_none d s to seq kind = heard_quiet d (is_for_drone d.sys to) (request_comes d s d.download seq kind) (request_quiet d s d.download seq kind)

-- what is installed: the plan of the upload with the message's item, which has no fault
pub record Installing (d : DroneState) (m : PlanMsg) (kind : PlanKind) (plans : Plans) : Type 0 where
  pub item : Item
  pub is_carried : carried m ≡ Some item
  pub sound : IsTrue (is_sound_with d.upload item)
  pub known : kind_in d.upload ≡ Some kind
  pub after : plans ≡ with_plan d.plans (number_of kind) (gathered_in d.upload ++ item ∷ [])

abbrev IfInstalls : DroneState → PlanMsg → PlanKind → DroneStep → Type 0
IfInstalls d m kind step = change_by step.event ≡ Install kind → Installing d m kind step.drone.plans

install_of-is : (o : Option PlanKind) (kind : PlanKind) → install_of o ≡ Install kind → o ≡ Some kind
install_of-is None kind e = absurd (cc)
install_of-is (Some other) kind e = let same : other ≡ kind = cc in ap (λ k. Some k) same

fits_install : (d : DroneState) (s : Stream) (u : Upload) (to_seq : PlanMsg) (item : Item) (k : PlanKind) (fault : Option PlanFault) → d.upload ≡ Some u → carried to_seq ≡ Some item
    → IfInstalls d to_seq k (item_fits true d s u item fault)
fits_install d s u m item k (Some fault) is has = λ e. absurd (cc)
fits_install d s u m item k None is has =
    by_test (IfInstalls d m k) (nat_lt (length u.items + 1) u.total) _ _ (λ t e. absurd (cc))
    (λ t. by_test (IfInstalls d m k) (is_some (plan_fault u.kind (u.items ++ item ∷ []))) _ _ (λ t e. absurd (cc))
    (λ t e.
    let kind : kind_of u.kind ≡ Some k = install_of-is (kind_of u.kind) k e in
    record {
      item = item;
      is_carried = has;
      sound = rw is (ap not t);
      known = rw is kind;
      after = rw (is, number_of-kind_of u.kind k kind) refl;
    }))

item_install : (d : DroneState) (s : Stream) (o : Option Upload) (seq kind : ℕ) (m : PlanMsg) (item : Item) (k : PlanKind) → d.upload ≡ o → carried m ≡ Some item
    → IfInstalls d m k (item_comes true d s o seq kind item)
item_install d s None seq kind m item k is has = λ e. absurd (cc)
item_install d s (Some u) seq kind m item k is has =
    by_test (IfInstalls d m k) (not (same_stream u.stream s)) _ _ (λ t e. absurd (cc))
    (λ t. by_test (IfInstalls d m k) (not ((kind == u.kind) && (seq == length u.items))) _ _ (λ t e. absurd (cc))
    (λ t. fits_install d s u m item k (item_fault u.kind item) is has))

clear_installs : (d : DroneState) (s : Stream) (kind : ℕ) (m : PlanMsg) (k : PlanKind) → IfInstalls d m k (clear_comes true d s kind)
clear_installs d s kind m k =
    by_test (IfInstalls d m k) (nat_lt 2 kind && not (kind == every_kind)) _ _ (λ t e. absurd (cc))
    (λ t. by_test (IfInstalls d m k) (is_other d.upload s) _ _ (λ t e. absurd (cc)) (λ t e. absurd (cc)))

heard_installs : (d : DroneState) (m : PlanMsg) (k : PlanKind) (is_for : Bool) (step : DroneStep) → IfInstalls d m k step → IfInstalls d m k (heard d is_for step)
heard_installs d m k is_for step installs = by_test (IfInstalls d m k) is_for step (rests d) (λ t. installs) (λ t e. absurd (cc))

pub install_step : (d : DroneState) (s : Stream) (m : PlanMsg) (k : PlanKind) → change_of d s m ≡ Install k → Installing d m k (drone_step true d s m).drone.plans
install_step d s (Ping to usec seq) k e = let no : Same ≡ Install k = sym (ping_changes_none d s to usec seq) ∙ e in absurd (cc)
install_step d s (Count to count kind) k e = let no : Same ≡ Install k = sym (count_changes_none d s to count kind) ∙ e in absurd (cc)
install_step d s (Give to seq kind item) k e = heard_installs d (Give to seq kind item) k (is_for_drone d.sys to) _ (item_install d s d.upload seq kind (Give to seq kind item) item k refl refl) e
install_step d s (Ack to code kind) k e = let no : Same ≡ Install k = sym (ack_changes_none d s to code kind) ∙ e in absurd (cc)
install_step d s (Clear to kind) k e = heard_installs d (Clear to kind) k (is_for_drone d.sys to) _ (clear_installs d s kind (Clear to kind) k) e
install_step d s (Listing to kind) k e = let no : Same ≡ Install k = sym (list_changes_none d s to kind) ∙ e in absurd (cc)
install_step d s (Request to seq kind) k e = let no : Same ≡ Install k = sym (request_changes_none d s to seq kind) ∙ e in absurd (cc)

-- what is emptied
abbrev IfEmpties : DroneState → Option PlanKind → DroneStep → Type 0
IfEmpties d k step = change_by step.event ≡ Empty k → step.drone.plans ≡ without_plan d.plans (clear_number k)

install_of-not : (o : Option PlanKind) (k : Option PlanKind) → install_of o ≡ Empty k → ⊥
install_of-not None k e = absurd (cc)
install_of-not (Some kind) k e = absurd (cc)

-- the number of the kind that a clear empties
cleared : (kind : ℕ) (o : Option PlanKind) → kind_of kind ≡ o → (nat_lt 2 kind && not (kind == every_kind)) ≡ false → clear_number o ≡ kind
cleared kind None none t = let above : 2 < kind = kind_of-none kind none in grind (arith, nat_tests)
cleared kind (Some k) some t = number_of-kind_of kind k some

fits_empty : (d : DroneState) (s : Stream) (u : Upload) (item : Item) (k : Option PlanKind) (fault : Option PlanFault) → IfEmpties d k (item_fits true d s u item fault)
fits_empty d s u item k (Some fault) = λ e. absurd (cc)
fits_empty d s u item k None =
    by_test (IfEmpties d k) (nat_lt (length u.items + 1) u.total) _ _ (λ t e. absurd (cc))
    (λ t. by_test (IfEmpties d k) (is_some (plan_fault u.kind (u.items ++ item ∷ []))) _ _ (λ t e. absurd (cc))
    (λ t e. absurd (install_of-not (kind_of u.kind) k e)))

item_empties : (d : DroneState) (s : Stream) (o : Option Upload) (seq kind : ℕ) (item : Item) (k : Option PlanKind) → IfEmpties d k (item_comes true d s o seq kind item)
item_empties d s None seq kind item k = λ e. absurd (cc)
item_empties d s (Some u) seq kind item k =
    by_test (IfEmpties d k) (not (same_stream u.stream s)) _ _ (λ t e. absurd (cc))
    (λ t. by_test (IfEmpties d k) (not ((kind == u.kind) && (seq == length u.items))) _ _ (λ t e. absurd (cc))
    (λ t. fits_empty d s u item k (item_fault u.kind item)))

clear_empties : (d : DroneState) (s : Stream) (kind : ℕ) (k : Option PlanKind) → IfEmpties d k (clear_comes true d s kind)
clear_empties d s kind k =
    by_test (IfEmpties d k) (nat_lt 2 kind && not (kind == every_kind)) _ _ (λ t e. absurd (cc))
    (λ t. by_test (IfEmpties d k) (is_other d.upload s) _ _ (λ o e. absurd (cc))
    (λ o e. let same : kind_of kind ≡ k = cc in ap (λ n. without_plan d.plans n) (sym (cleared kind k same t))))

heard_empties : (d : DroneState) (k : Option PlanKind) (is_for : Bool) (step : DroneStep) → IfEmpties d k step → IfEmpties d k (heard d is_for step)
heard_empties d k is_for step empties = by_test (IfEmpties d k) is_for step (rests d) (λ t. empties) (λ t e. absurd (cc))

pub empty_step : (d : DroneState) (s : Stream) (m : PlanMsg) (k : Option PlanKind) → change_of d s m ≡ Empty k → (drone_step true d s m).drone.plans ≡ without_plan d.plans (clear_number k)
empty_step d s (Ping to usec seq) k e = let no : Same ≡ Empty k = sym (ping_changes_none d s to usec seq) ∙ e in absurd (cc)
empty_step d s (Count to count kind) k e = let no : Same ≡ Empty k = sym (count_changes_none d s to count kind) ∙ e in absurd (cc)
empty_step d s (Give to seq kind item) k e = heard_empties d k (is_for_drone d.sys to) _ (item_empties d s d.upload seq kind item k) e
empty_step d s (Ack to code kind) k e = let no : Same ≡ Empty k = sym (ack_changes_none d s to code kind) ∙ e in absurd (cc)
empty_step d s (Clear to kind) k e = heard_empties d k (is_for_drone d.sys to) _ (clear_empties d s kind k) e
empty_step d s (Listing to kind) k e = let no : Same ≡ Empty k = sym (list_changes_none d s to kind) ∙ e in absurd (cc)
empty_step d s (Request to seq kind) k e = let no : Same ≡ Empty k = sym (request_changes_none d s to seq kind) ∙ e in absurd (cc)

-- what is installed may be held
pub installing_holdable : (d : DroneState) (m : PlanMsg) (k : PlanKind) (plans : Plans) (i : Installing d m k plans) (up : Option Upload) (items : List Item) → up ≡ d.upload
    → ((item : Item) → carried m ≡ Some item → IsTrue (is_sound_with up item) → IsValidIn up items) → IsHoldable (number_of k) items
installing_holdable d m k plans i up items same valid =
    let sound : IsTrue (is_sound_with up i.item) = rw same i.sound in
    let known : kind_in up ≡ Some k = rw same i.known in
    inr (of_kind up known (valid i.item i.is_carried sound))
  where
    of_kind : (o : Option Upload) → kind_in o ≡ Some k → IsValidIn o items → IsValid (number_of k) items
    of_kind None e v = absurd (cc)
    of_kind (Some u) e v = rw (number_of-kind_of u.kind k e) v

-- the same image, of plans and a system id that are told otherwise
pub image_moved : {B E : Type 0} (r : Result B E) (bytes : B → List ℕ) (s t low : ℕ) (p q : Plans) → s ≡ t → p ≡ q
    → IfOk r (λ b. IsImageOf s low p (bytes b)) → IfOk r (λ b. IsImageOf t low q (bytes b))
image_moved r bytes s t low p q same_sys same image =
    subst (λ (v : ℕ). IfOk r (λ b. IsImageOf v low q (bytes b))) same_sys (subst (λ (v : Plans). IfOk r (λ b. IsImageOf s low v (bytes b))) same image)
