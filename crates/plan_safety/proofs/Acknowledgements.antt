-- What is true of the drone's acknowledgements, over all the frames that were sent: what refused the upload, what answered the
-- cancel, and what belongs to an earlier operation.
use Rattle.std.proofs.Common.{◌≡◌, ◌≢◌, ℕ, suc, zero, ◌<◌, ◌≤◌, ◌⊎◌, inl, inr, Bool, List, [], ◌∷◌, Option, Some, None, refl, sym, ap, subst, arith, ◌∙◌}
use Rattle.std.specs.Prelude.{slice_get}
use Rattle.mav_names.specs.declared.names.Stream.{Stream}
use Rattle.plan_items.specs.declared.messages.PlanMsg.{PlanMsg}
use Rattle.plan_items.specs.declared.messages.PlanMsg.TheVariants.{Count, Request, Item as Give, Ack, List as Listing, Clear, Ping}
use Rattle.plan_upload.specs.Addresses.{node_of}
use Rattle.plan_upload.specs.Station.{Operation, Work, Uploads, Clears, Gets, Phase, Pinging, Cancelling, Sending, Clearing, Listing_items, Getting, phase_number}
use Rattle.plan_safety.specs.Frames.{Frame, SaidAfter}
use Rattle.plan_safety.specs.Store.{Transaction, Stage, RefusesCount, RefusedWith}
use Rattle.plan_safety.proofs.Keys.{flag, is_flagged}
use Rattle.plan_safety.proofs.Pair.{Pair, SentByDrone}
use Rattle.plan_safety.proofs.Part.{Seen, work_number, number_in, Means, Final, CancelSaid, Operates, Subject, subject, LastCancelled, Settled, Settles, Accepts, IsTo, Truth, Truths, Answers, Answered, zero_verdict}

-- in phase 2, once the last item was sent, the cancel was sent after it
pub cancelled_last : (d s : Stream) (sent : List Frame) (t : Transaction) (c : Option Seen) (cancelled : Bool) (pings : ℕ) (o : Option Operation) → number_in o (λ (z : Operation). phase_number z.phase) ≡ 2 → number_in o (λ (z : Operation). work_number z.work) ≡ 1 → number_in o (λ (z : Operation). flag z.final_sent) ≡ 1 → Operates d s sent t c cancelled pings o → LastCancelled d s (subject t c) sent
cancelled_last d s sent t c cancelled pings None ph w l h = absurd (omega arith)
cancelled_last d s sent t c cancelled pings (Some o) ph w l h =
    subst (λ k. SaidAfter (λ earlier. Final earlier d s t) sent s (Ack (node_of d) 15 k)) (of_upload o.work w h.means) (by_phase o.phase ph h.cancel)
  where
    of_upload : (x : Work) → work_number x ≡ 1 → Means t c x o.kind o.plan → o.kind ≡ t.kind
    of_upload Uploads e m = m.0
    of_upload Clears e m = absurd (omega arith)
    of_upload Gets e m = absurd (omega arith)

    by_phase : (f : Phase) → phase_number f ≡ 2 → CancelSaid sent d s t.since (λ earlier. Final earlier d s t) o.final_sent o.kind f → SaidAfter (λ earlier. Final earlier d s t) sent s (Ack (node_of d) 15 o.kind)
    by_phase Cancelling e m = m.1 (is_flagged o.final_sent l)
    by_phase Pinging e m = absurd (omega arith)
    by_phase Sending e m = absurd (omega arith)
    by_phase Clearing e m = absurd (omega arith)
    by_phase Listing_items e m = absurd (omega arith)
    by_phase Getting e m = absurd (omega arith)

-- without a reply to a PING no acknowledgement settles anything
pub settles_none : (d s : Stream) (p : Pair) (j : Subject) (t : ℕ) (earlier : List Frame) (m : Option PlanMsg) → p.first_reply ≡ 0 → Settles d s p j t earlier m
settles_none d s p j t earlier (Some (Ping to usec n)) z = tt
settles_none d s p j t earlier (Some (Count to n k)) z = tt
settles_none d s p j t earlier (Some (Give to i k x)) z = tt
settles_none d s p j t earlier (Some (Request to i k)) z = tt
settles_none d s p j t earlier (Some (Ack to c k)) z = λ some _ _ _. absurd (omega arith)
settles_none d s p j t earlier (Some (Clear to k)) z = tt
settles_none d s p j t earlier (Some (Listing to k)) z = tt
settles_none d s p j t earlier None z = tt

-- no acknowledgement of an earlier operation is taken for one of the clear
pub accepts_new : (p q : Pair) (e : Bool) (t : ℕ) (m : Option PlanMsg) → (q.phase ≡ 4 → p.last_verdict ≤ q.station_last) → SentByDrone p t m → Accepts q e t m
accepts_new p q e t (Some (Ping to usec n)) late by = tt
accepts_new p q e t (Some (Count to n k)) late by = tt
accepts_new p q e t (Some (Give to i k x)) late by = tt
accepts_new p q e t (Some (Request to i k)) late by = tt
accepts_new p q e t (Some (Ack to c k)) late by = λ ph after none. absurd (let y : t ≤ p.last_verdict = by.9 (zero_verdict c none) in let x = late ph in omega arith)
accepts_new p q e t (Some (Clear to k)) late by = tt
accepts_new p q e t (Some (Listing to k)) late by = tt
accepts_new p q e t None late by = tt

-- an acknowledgement from before the upload was opened, and from before its first Count
opened_later : (d s : Stream) (t : Transaction) (counted old opened time : ℕ) (earlier : List Frame) (m : Option PlanMsg) → time < opened → Answers d s t counted old time earlier m → Answers d s t counted opened time earlier m
opened_later d s t counted old opened time earlier (Some (Ping to usec n)) l h = tt
opened_later d s t counted old opened time earlier (Some (Count to n k)) l h = tt
opened_later d s t counted old opened time earlier (Some (Give to i k x)) l h = tt
opened_later d s t counted old opened time earlier (Some (Request to i k)) l h = tt
opened_later d s t counted old opened time earlier (Some (Ack to c k)) l h = (h.0, λ _ late _. absurd (omega arith))
opened_later d s t counted old opened time earlier (Some (Clear to k)) l h = tt
opened_later d s t counted old opened time earlier (Some (Listing to k)) l h = tt
opened_later d s t counted old opened time earlier None l h = tt

counted_later : (d s : Stream) (t : Transaction) (counted opened time : ℕ) (earlier : List Frame) (m : Option PlanMsg) → opened ≡ 0 → time < counted → Answers d s t counted opened time earlier m
counted_later d s t counted opened time earlier (Some (Ping to usec n)) z l = tt
counted_later d s t counted opened time earlier (Some (Count to n k)) z l = tt
counted_later d s t counted opened time earlier (Some (Give to i k x)) z l = tt
counted_later d s t counted opened time earlier (Some (Request to i k)) z l = tt
counted_later d s t counted opened time earlier (Some (Ack to c k)) z l = (λ late _. absurd (omega arith), λ some _ _. absurd (omega arith))
counted_later d s t counted opened time earlier (Some (Clear to k)) z l = tt
counted_later d s t counted opened time earlier (Some (Listing to k)) z l = tt
counted_later d s t counted opened time earlier None z l = tt

-- the same of all that the drone has sent
pub answered_opened : (d s : Stream) (t : Transaction) (counted old opened : ℕ) (p : Pair) (j : Subject) (fs : List Frame) → p.drone_next ≤ opened → Truths d s p j fs → Answered d s t counted old fs → Answered d s t counted opened fs
answered_opened d s t counted old opened p j [] l h a = tt
answered_opened d s t counted old opened p j (f ∷ fs) l h a =
    (λ e to. opened_later d s t counted old opened f.timestamp fs f.message (let z = h.0.by_drone e in omega arith) (a.0 e to), answered_opened d s t counted old opened p j fs l h.1 a.1)

pub answered_counted : (d s : Stream) (t : Transaction) (counted opened : ℕ) (p : Pair) (j : Subject) (fs : List Frame) → opened ≡ 0 → p.drone_next ≤ counted → Truths d s p j fs → Answered d s t counted opened fs
answered_counted d s t counted opened p j [] z l h = tt
answered_counted d s t counted opened p j (f ∷ fs) z l h =
    (λ e _. counted_later d s t counted opened f.timestamp fs f.message z (let y = h.0.by_drone e in omega arith), answered_counted d s t counted opened p j fs z l h.1)

-- it does not speak of the transaction's stage, nor of whether it is lost
answers_else : (d s : Stream) (t : Transaction) (stage : Stage) (lost : Bool) (counted opened time : ℕ) (earlier : List Frame) (m : Option PlanMsg) → Answers d s t counted opened time earlier m → Answers d s (record t { stage = stage; lost = lost }) counted opened time earlier m
answers_else d s t stage lost counted opened time earlier (Some (Ping to usec n)) h = tt
answers_else d s t stage lost counted opened time earlier (Some (Count to n k)) h = tt
answers_else d s t stage lost counted opened time earlier (Some (Give to i k x)) h = tt
answers_else d s t stage lost counted opened time earlier (Some (Request to i k)) h = tt
answers_else d s t stage lost counted opened time earlier (Some (Ack to c k)) h = h
answers_else d s t stage lost counted opened time earlier (Some (Clear to k)) h = tt
answers_else d s t stage lost counted opened time earlier (Some (Listing to k)) h = tt
answers_else d s t stage lost counted opened time earlier None h = tt

pub answered_else : (d s : Stream) (t : Transaction) (stage : Stage) (lost : Bool) (counted opened : ℕ) (fs : List Frame) → Answered d s t counted opened fs → Answered d s (record t { stage = stage; lost = lost }) counted opened fs
answered_else d s t stage lost counted opened [] a = tt
answered_else d s t stage lost counted opened (f ∷ fs) a =
    (λ e to. answers_else d s t stage lost counted opened f.timestamp fs f.message (a.0 e to), answered_else d s t stage lost counted opened fs a.1)

-- when an acknowledgement with this code at this time is about the upload
abbrev pub IsAbout : ℕ → ℕ → ℕ → ℕ → Type 0
IsAbout counted opened time c = ((counted ≤ time) × RefusesCount c) ⊎ ((0 < opened) × (opened ≤ time) × (c ≢ 0))

answered_here : (d s : Stream) (t : Transaction) (counted opened : ℕ) (f : Frame) (fs : List Frame) (c k : ℕ) → f.from ≡ d → f.message ≡ Some (Ack (node_of s) c k) → IsAbout counted opened f.timestamp c → (f.from ≡ d → IsTo (node_of s) f.message → Answers d s t counted opened f.timestamp fs f.message) → RefusedWith (f ∷ fs) d s t c
answered_here d s t counted opened f fs c k from is about h =
    let a : Answers d s t counted opened f.timestamp fs (Some (Ack (node_of s) c k)) = subst (Answers d s t counted opened f.timestamp fs) is (h from (subst (IsTo (node_of s)) (sym is) refl)) in
    elim about [
      | inl b ↦ let x = a.0 b.0 b.1 in inl (from, is ∙ ap (λ n. Some (Ack (node_of s) c n)) x.0, inl (x.1, b.1))
      | inr b ↦ let x = a.1 b.0 b.1 b.2 in inl (from, is ∙ ap (λ n. Some (Ack (node_of s) c n)) x.0, inr (x.1, x.2))
    ]

-- such an acknowledgement of the drone, in its place, refused the upload
pub answered_at : (d s : Stream) (t : Transaction) (counted opened : ℕ) (fs : List Frame) (index : ℕ) (f : Frame) (c k : ℕ) → slice_get fs index ≡ Some f → f.from ≡ d → f.message ≡ Some (Ack (node_of s) c k) → IsAbout counted opened f.timestamp c → Answered d s t counted opened fs → RefusedWith fs d s t c
answered_at d s t counted opened [] index f c k e from is about a = absurd (cc)
answered_at d s t counted opened (g ∷ fs) zero f c k e from is about a =
    let same : f ≡ g = cc in
    answered_here d s t counted opened g fs c k (subst (λ (x : Frame). x.from ≡ d) same from) (subst (λ (x : Frame). x.message ≡ Some (Ack (node_of s) c k)) same is) (subst (λ (x : Frame). IsAbout counted opened x.timestamp c) same about) a.0
answered_at d s t counted opened (g ∷ fs) (suc index) f c k e from is about a = inr (answered_at d s t counted opened fs index f c k e from is about a.1)

-- an acknowledgement of the drone with code 1, in its place, answered the cancel that was sent after the last item
pub settled_at : (d s : Stream) (p : Pair) (t : Transaction) (c : Option Seen) (fs : List Frame) (index : ℕ) (f : Frame) (k : ℕ) → slice_get fs index ≡ Some f → f.from ≡ d → f.message ≡ Some (Ack (node_of s) 1 k) → 0 < p.first_reply → p.first_reply < f.timestamp → p.final_sent ≡ 1 → Truths d s p (subject t c) fs → Settled fs d s t
settled_at d s p t c [] index f k e from is some late last h = absurd (cc)
settled_at d s p t c (g ∷ fs) zero f k e from is some late last h =
    let same : g ≡ f = cc in
    let x : Truth d s p (subject t c) f fs = subst (λ x. Truth d s p (subject t c) x fs) same h.0 in
    let y = subst (Settles d s p (subject t c) f.timestamp fs) is (x.last from (subst (IsTo (node_of s)) (sym is) refl)) in
    (k, inl (ap (λ (x : Frame). x.from) same ∙ from, ap (λ (x : Frame). x.message) same ∙ is, y some late last refl))
settled_at d s p t c (g ∷ fs) (suc index) f k e from is some late last h = let r = settled_at d s p t c fs index f k e from is some late last h.1 in (r.0, inr r.1)
