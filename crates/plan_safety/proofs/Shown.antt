-- The executions of the examples, by computation.
use Rattle.std.proofs.Common.{◌≡◌, [], ◌∷◌, ◌++◌, ◌⊎◌, inl, inr, ◌||◌, None, true, false, refl, sym, ap, subst, arith, ◌∙◌}
use Rattle.mav_names.specs.declared.names.Name.{Name}
use Rattle.mav_names.specs.declared.names.Stream.{Stream}
use Rattle.plan_items.specs.Validation.{item_fault, plan_fault, whole_fault}
use Rattle.plan_items.specs.declared.kinds.PlanKind.TheVariants.{Mission}
use Rattle.plan_upload.specs.Addresses.{same_stream, node_of, is_for_drone}
use Rattle.plan_upload.specs.Plans.{plan_at}
use Rattle.plan_upload.specs.Station.{Told_installed, Told_not_installed, Told_unknown, Told_cleared, Told_got, Told_ended}
use Rattle.plan_safety.specs.Store.{Installed, Cleared, Ended}
use Rattle.plan_safety.specs.World.{Distinct, Clears, Gets, Cancels, To_drone, To_station}
use Rattle.plan_safety.specs.History.{final}
use Rattle.plan_safety.proofs.Keys.{either_true, stream_eq}
use Rattle.plan_safety.specs.Examples.{drone_7, station_a, station_b, small_fleet, small_start, one_waypoint, two_waypoints, exchange, resynchronisation, upload_of_two, upload_nearly, upload_reported, restart_and_cancel, download_of_two, upload_of_one, two_stations}

-- the two stations
either_station : (s : Stream) → (same_stream s station_a || same_stream s station_b) ≡ true → (s ≡ station_a) ⊎ (s ≡ station_b)
either_station s h = elim (either_true _ _ h) [ inl a ↦ inl (stream_eq s station_a a) | inr b ↦ inr (stream_eq s station_b b) ]

same_names : (s t : Stream) → (s ≡ station_a) ⊎ (s ≡ station_b) → (t ≡ station_a) ⊎ (t ≡ station_b) → node_of s ≡ node_of t → s ≡ t
same_names s t (inl a) (inl b) e = a ∙ sym b
same_names s t (inr a) (inr b) e = a ∙ sym b
same_names s t (inl a) (inr b) e = absurd (let z : 255 ≡ 254 = sym (ap (λ (x : Stream). x.sys) a) ∙ ap (λ (n : Name). n.sys) e ∙ ap (λ (x : Stream). x.sys) b in omega arith)
same_names s t (inr a) (inl b) e = absurd (let z : 254 ≡ 255 = sym (ap (λ (x : Stream). x.sys) a) ∙ ap (λ (n : Name). n.sys) e ∙ ap (λ (x : Stream). x.sys) b in omega arith)

not_for_drone : (s : Stream) → (s ≡ station_a) ⊎ (s ≡ station_b) → is_for_drone 7 (node_of s) ≡ false
not_for_drone s (inl a) = subst (λ x. is_for_drone 7 (node_of x) ≡ false) (sym a) refl
not_for_drone s (inr b) = subst (λ x. is_for_drone 7 (node_of x) ≡ false) (sym b) refl

-- the names of the three nodes are distinct
pub distinct : Distinct small_fleet
distinct = record {
  component = λ d h. ap (λ (x : Stream). x.comp) (stream_eq d drone_7 h);
  drones = λ d e hd he _. stream_eq d drone_7 hd ∙ sym (stream_eq e drone_7 he);
  stations = λ s t hs ht e. same_names s t (either_station s hs) (either_station t ht) e;
  apart = λ d s hd hs. subst (λ x. is_for_drone x.sys (node_of s) ≡ false) (sym (stream_eq d drone_7 hd)) (not_for_drone s (either_station s hs));
}

pub installs : (final small_fleet small_start (upload_of_two station_a)).news ≡ Installed drone_7 0 two_waypoints station_a ∷ []
unfolding item_fault plan_fault whole_fault
installs = refl

pub reports : (final small_fleet small_start (upload_reported station_a)).news ≡ Ended station_a Told_installed ∷ []
unfolding item_fault plan_fault whole_fault
reports = refl

pub clears : (final small_fleet small_start (upload_reported station_a ++ Clears station_a drone_7 None ∷ To_drone 0 drone_7 true ∷ [])).news ≡ Cleared drone_7 0 station_a ∷ Cleared drone_7 1 station_a ∷ Cleared drone_7 2 station_a ∷ []
unfolding item_fault plan_fault whole_fault
clears = refl

pub reports_cleared : (final small_fleet small_start (upload_reported station_a ++ Clears station_a drone_7 None ∷ exchange station_a)).news ≡ Ended station_a Told_cleared ∷ []
unfolding item_fault plan_fault whole_fault
reports_cleared = refl

pub downloads : (final small_fleet small_start (download_of_two station_a)).news ≡ Ended station_a (Told_got two_waypoints) ∷ []
unfolding item_fault plan_fault whole_fault
downloads = refl

-- the drone's store did not keep the plan
pub refuses : (final small_fleet small_start (upload_nearly station_a ++ To_drone 0 drone_7 false ∷ To_station 0 station_a ∷ resynchronisation station_a)).news ≡ Ended station_a (Told_not_installed 1) ∷ []
unfolding item_fault plan_fault whole_fault
refuses = refl

pub unknown_installed : (final small_fleet small_start (upload_of_two station_a ++ restart_and_cancel station_a)).news ≡ Ended station_a Told_unknown ∷ []
unfolding item_fault plan_fault whole_fault
unknown_installed = refl

pub unknown_lost : (final small_fleet small_start (upload_nearly station_a ++ restart_and_cancel station_a)).news ≡ Ended station_a Told_unknown ∷ []
unfolding item_fault plan_fault whole_fault
unknown_lost = refl

-- a cancelled download
pub ends : (final small_fleet small_start (upload_reported station_a ++ Gets station_a drone_7 Mission ∷ Cancels station_a ∷ resynchronisation station_a)).news ≡ Ended station_a (Told_ended 15) ∷ []
unfolding item_fault plan_fault whole_fault
ends = refl

pub alternates : (plan_at ((final small_fleet small_start (upload_reported station_a)).drone drone_7).state.plans 0 ≡ two_waypoints) × (plan_at ((final small_fleet small_start (upload_reported station_a ++ upload_of_one station_b)).drone drone_7).state.plans 0 ≡ one_waypoint) × (plan_at ((final small_fleet small_start two_stations).drone drone_7).state.plans 0 ≡ two_waypoints)
unfolding item_fault plan_fault whole_fault
alternates = (refl, refl, refl)

pub second_reports : (final small_fleet small_start (upload_reported station_a ++ upload_of_one station_b)).news ≡ Ended station_b Told_installed ∷ []
unfolding item_fault plan_fault whole_fault
second_reports = refl
