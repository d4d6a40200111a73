-- What one end of the links does with a frame that it tries or sends.
use Rattle.std.proofs.Common.{◌≡◌, ℕ, zero, suc, ◌+◌, ◌<◌, ◌≤◌, ◌^◌, inl, inr, nat_lt, List, [], ◌∷◌, ◌++◌, slice_get, Option, Some, None, refl, sym, ap, subst, arith, ◌∙◌}
use Rattle.std.specs.Prelude.{IfSome}
use Rattle.std.specs.Str.{bytes_eq}
use Rattle.std.proofs.lemmas.Slice.Eq.{bytes_eq-Decides}
use Rattle.mav_names.specs.declared.names.Stream.{Stream}
use Rattle.plan_items.specs.declared.messages.PlanMsg.{PlanMsg}
use Rattle.mav_frame.specs.Packet.{Packet, SignatureBlock}
use Rattle.mav_messages.specs.declared.messages.Message.{Message}
use Rattle.mav_messages.specs.Plans.{message_of_plan}
use Rattle.mav_sign.specs.declared.admission.Admit.{Admit}
use Rattle.mav_sign.specs.declared.admission.Admit.TheVariants.{Admitted, Unsigned}
use Rattle.mav_sign.specs.History.{Entry, tried, sent, last_of, local_of, next_in, block_answer, answer_to, stamp_answer, greatest_stamp}
use Rattle.mav_sign.specs.Signing.{Verifies, signature_of}
use Rattle.mav_sign.proofs.Histories.{low_same}
use Rattle.mav_nodes.specs.LowBounds.{stored_low}
use Rattle.mav_nodes.specs.Links.{Link, Done, Outcome, tries, sent_at, sends}
use Rattle.mav_nodes.specs.Steps.{answers}
use Rattle.mav_nodes.specs.Signed.{signed_packet}
use Rattle.mav_nodes.specs.Laws.{FitsMessage}
use Rattle.mav_nodes.proofs.Bounds.{payload_small}
use Rattle.mav_nodes.proofs.Sendings.{plan_reads_back}
use Rattle.plan_ranges.specs.Ranges.{InRange}
use Rattle.fleet_world.specs.WorldState.{WorldState}
use Rattle.fleet_world.specs.Steps.{packets_in}
use Rattle.fleet_invariants.specs.Sound.{ahead, IsSent, WasStamped, SoundLink}
use Rattle.fleet_invariants.specs.Kept.{IsAmong, AllRead}
use Rattle.fleet_invariants.proofs.Lists.{some_is, nowhere}
use Rattle.fleet_invariants.proofs.Tests.{by_test, not_less}
use Rattle.fleet_invariants.proofs.LowBounds.{stored_stays, Bounds, bounds_same}
use Rattle.fleet_invariants.proofs.Histories.{sending_admits, sending_is, sending_near, sending_bounds, next_later, trying_sends, trying_previous, Leaves, Nothing, Stamp, leaves, admitting_near, admitting_bounds, nothing_near}
use Rattle.fleet_invariants.proofs.Growth.{at_most_on}
use Rattle.fleet_invariants.proofs.Messages.{plan_fits}
use Rattle.fleet_invariants.proofs.Rooms.{heard_more}
use Rattle.fleet_invariants.proofs.Moves.{Steady, Sending, LinkGrows}

-- ---- a frame is tried

-- an admitted frame verifies
right_block : (key : List ℕ) (answer : Stream → ℕ → Admit) (packet : Packet) (block : Option SignatureBlock) → block_answer key answer packet block ≡ Admitted → Verifies key packet block
right_block key answer packet None e = absurd (let wrong : ◌≡◌ {A = Admit} Unsigned Admitted = e in cc)
right_block key answer packet (Some block) e =
    by_test (λ (x : Admit). x ≡ Admitted → block.sig ≡ signature_of key packet block.link block.stamp) (bytes_eq block.sig (signature_of key packet block.link block.stamp)) _ _
    (λ same _. (bytes_eq-Decides block.sig (signature_of key packet block.link block.stamp)).0 same)
    (λ _ wrong. absurd (cc)) e

pub admitted_verifies : (key : List ℕ) (history : List Entry) (packet : Packet) → answer_to key history packet ≡ Admitted → Verifies key packet packet.block
admitted_verifies key history packet e = right_block key (λ stream stamp. stamp_answer stream stamp history) packet packet.block e

abbrev stream_at : ℕ → ℕ → ℕ → Stream
stream_at a b c = record { sys = a; comp = b; link = c }

-- what a sent frame's block says
pub record BlockIs (block : SignatureBlock) (stamp : ℕ) : Type 0 where
  pub link : block.link ≡ 0
  pub stamp_is : block.stamp ≡ stamp

pub block_is : (s : WorldState) (p : Packet) (q : IsSent s p) (block : SignatureBlock) → p.block ≡ Some block → BlockIs block q.stamp
block_is s p q block e =
    let both = sym e ∙ ap (λ (x : Packet). x.block) q.is in
    record { link = ap (λ (b : SignatureBlock). b.link) (some_is both); stamp_is = ap (λ (b : SignatureBlock). b.stamp) (some_is both) }

pub stamp_near : (s : WorldState) → Steady s → (p : Packet) (q : IsSent s p) → q.stamp ≤ s.clock + ahead s
stamp_near s g p q =
    let l = g.links q.from.index q.from.node q.from.found in
    at_most_on _ _ _ q.by_latest (at_most_on _ _ _ l.previous l.local)

bounds_of : (s : WorldState) (link : Link) → SoundLink s link → Bounds (stored_low link.history) (local_of link.history)
bounds_of s link l = record { within = l.within; near = l.near }

six_bytes : (stamp : ℕ) → stamp < 2 ^ 48 → stamp ≤ greatest_stamp
six_bytes stamp fits = omega arith

module _ (s : WorldState) (g : Steady s) (link : Link) (l : SoundLink s link) (packet : Packet) where
  abbrev with_answer : Admit → Link
  with_answer answer = record link { history = link.history ++ tried packet answer ∷ [] }

  moves : (answer : Admit) → local_of (link.history ++ tried packet answer ∷ []) ≤ s.clock + ahead s
      → Bounds (stored_low (link.history ++ tried packet answer ∷ [])) (local_of (link.history ++ tried packet answer ∷ []))
      → ((stream : Stream) (stamp : ℕ) → last_of stream (link.history ++ tried packet answer ∷ []) ≡ Some stamp → WasStamped s stream stamp)
      → LinkGrows s link (with_answer answer) []
  moves answer near bounds lasts = record {
    moves = record {
      me = refl;
      key = l.key;
      extras = l.extras;
      seq = l.seq;
      local = omega (arith, near);
      rises = (let e = trying_previous link.history packet answer in omega arith);
      lasts = lasts;
      within = bounds.within;
      near = bounds.near;
      sends = λ p e. absurd (nowhere e.index p e.found);
    };
    unstored = stored_stays link.history (tried packet answer);
    low = low_same link.history (tried packet answer) refl;
    heard = λ q e. heard_more link.history (tried packet answer) q e;
  }

  by_answer : (answer : Admit) → (answer ≡ Admitted → IsAmong s.sent packet) → Leaves link.history (link.history ++ tried packet answer ∷ []) packet answer → LinkGrows s link (with_answer answer) []
  by_answer answer known (Nothing none stores) =
      let same = nothing_near link.history (link.history ++ tried packet answer ∷ []) (trying_sends link.history packet answer) none in
      moves answer (subst (λ n. n ≤ s.clock + ahead s) (sym same) l.local) (bounds_same _ _ _ _ stores same (bounds_of s link l)) (λ stream stamp e. l.lasts stream stamp (sym (none.lasts stream) ∙ e))
  by_answer answer known (Stamp block is signed last accepted stores) =
      let at = known is in
      let q = g.sent at.index packet at.found in
      let b = block_is s packet q block signed in
      moves answer
      (admitting_near link.history (link.history ++ tried packet answer ∷ []) block.stamp (s.clock + ahead s) (trying_sends link.history packet answer) accepted l.local (subst (λ n. n ≤ s.clock + ahead s) (sym b.stamp_is) (stamp_near s g packet q)))
      (admitting_bounds link.history (link.history ++ tried packet answer ∷ []) block.stamp (trying_sends link.history packet answer) accepted stores (subst (λ n. n ≤ greatest_stamp) (sym b.stamp_is) (six_bytes q.stamp q.stamp_fits)) (bounds_of s link l))
      (λ stream stamp e. elim (last stream stamp e) [
        | inl old ↦ l.lasts stream stamp old
        | inr new ↦ record {
          index = at.index;
          packet = packet;
          found = at.found;
          sent = q;
          stream_is = ap (stream_at packet.from.sys packet.from.comp) (sym b.link) ∙ sym new.0;
          stamp_is = sym b.stamp_is ∙ sym new.1;
        }
      ])

  pub link_tries : (Verifies s.key packet packet.block → IsAmong s.sent packet) → LinkGrows s link (tries packet link) []
  link_tries known =
      by_answer (answer_to link.key link.history packet)
      (λ is. known (subst (λ key. Verifies key packet packet.block) l.key (admitted_verifies link.key link.history packet is)))
      (leaves link.history packet (answer_to link.key link.history packet) packet.block refl)

-- ---- a message is sent

pub record LinkGoes (s : WorldState) (a : Link) (d : Done Link) : Type 0 where
  pub link : LinkGrows s a d.node (packets_in d.events)
  pub reads : AllRead d.events

abbrev pub LinkDoes : WorldState → Link → Outcome Link → Type 0
LinkDoes s a None = Unit {0}
LinkDoes s a (Some d) = LinkGoes s a d

below : (a b : ℕ) → b ≤ a → a ≡ 281474976710655 → b < 2 ^ 48
below a b h e = omega arith

one_of : (p q : Packet) (i : ℕ) → slice_get (p ∷ []) i ≡ Some q → p ≡ q
one_of p q zero e = some_is e
one_of p q (suc i) e = absurd (nowhere i q e)

module _ (s : WorldState) (link : Link) (l : SoundLink s link) where
  sending : (message : Message) → FitsMessage message → next_in link.history s.clock ≤ greatest_stamp → Sending s (sent_at (next_in link.history s.clock) link) (signed_packet link.key link.extras link.me link.seq (next_in link.history s.clock) message)
  sending message fits small =
      let stamp = next_in link.history s.clock in
      let later = next_later link.history s.clock in
      let is = sending_is link.history stamp in
      record {
        seq = link.seq;
        stamp = stamp;
        message = message;
        is = ap (λ key. signed_packet key link.extras link.me link.seq stamp message) l.key ∙ ap (λ extras. signed_packet s.key extras link.me link.seq stamp message) l.extras;
        seq_fits = l.seq;
        some = omega (arith, later);
        by_latest = omega (arith, is);
        stamp_fits = below greatest_stamp stamp small refl;
        fits = fits.values;
        item_fits = fits.item;
        service_fits = fits.service;
      }

  pub link_sends : (message : Message) → FitsMessage message → LinkDoes s link (sends s.clock message link)
  link_sends message fits =
      let stamp = next_in link.history s.clock in
      let packet = signed_packet link.key link.extras link.me link.seq stamp message in
      by_test (LinkDoes s link) (nat_lt greatest_stamp stamp) None _ (λ _. tt) (λ e.
      let bounds = sending_bounds link.history stamp (not_less _ _ e) (bounds_of s link l) in
      record {
        link = record {
          moves = record {
            me = refl;
            key = l.key;
            extras = l.extras;
            seq = omega arith;
            local = sending_near link.history s.clock (ahead s) l.local;
            rises = (let later = next_later link.history s.clock in let is = sending_is link.history stamp in omega (arith, later, is));
            lasts = λ stream t h. l.lasts stream t (sym ((sending_admits link.history stamp).lasts stream) ∙ h);
            within = bounds.within;
            near = bounds.near;
            sends = λ p h. subst (Sending s (sent_at stamp link)) (one_of packet p h.index h.found) (sending message fits (not_less _ _ e));
          };
          unstored = stored_stays link.history (sent stamp);
          low = low_same link.history (sent stamp) refl;
          heard = λ q h. heard_more link.history (sent stamp) q h;
        };
        reads = (plan_reads_back message fits.values fits.item (payload_small message), tt);
      })

  -- nothing is done
  pub link_stays : LinkGrows s link link []
  link_stays = record {
    moves = record {
      me = refl;
      key = l.key;
      extras = l.extras;
      seq = l.seq;
      local = (let h = l.local in omega arith);
      rises = omega arith;
      lasts = l.lasts;
      within = l.within;
      near = l.near;
      sends = λ p e. absurd (nowhere e.index p e.found);
    };
    unstored = λ none. none;
    low = refl;
    heard = λ q h. h;
  }

  pub link_answers : (answer : Option PlanMsg) → IfSome answer InRange → LinkDoes s link (answers s.clock answer link)
  link_answers None h = record { link = link_stays; reads = tt }
  link_answers (Some m) h = link_sends (message_of_plan m) (plan_fits m h)
