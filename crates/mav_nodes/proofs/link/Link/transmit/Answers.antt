use Rattle.std.proofs.Common.{◌≡◌, ◌≤◌, ◌<◌, ◌+◌, ◌%◌, ◌∷◌, ◌++◌, [], ℕ, List, None, refl, sym, subst, arith, ap, ◌∙◌, rules}
use Rattle.std.proofs.lemmas.List.{map-append}
use Rattle.std.proofs.lemmas.Bool.{lt-ltb, le-ltb}
use Rattle.std.proofs.lemmas.Result.{err_from_is_err_and}
use Rattle.mav_messages.specs.declared.messages.Message.{Message}
use Rattle.mav_names.specs.declared.names.Stream.{Stream}
use Rattle.mav_frame.specs.Packet.{Packet}
use Rattle.mav_sign.specs.History.{next_in, greatest_stamp, sent}
use Rattle.mav_sign.specs.Kept.{Represents}
use Rattle.mav_sign.specs.Endpoints.{EndpointState, SentFrame}
use Rattle.mav_nodes.specs.Signed.{signed_packet}
use Rattle.mav_nodes.specs.News.{events_of, said_by, Shows_sent}
use Rattle.mav_nodes.specs.Promises.{Did, Fails}
use Rattle.mav_nodes.specs.declared.faults.NodeFault.{NodeFault}
use Rattle.mav_nodes.specs.declared.news.News.{News}
use Rattle.mav_nodes.specs.declared.news.News.TheVariants.{Sent}
use Rattle.mav_nodes.specs.Links.{Link, LinkView, IsEnd, sends}
use Rattle.mav_nodes.proofs.Cores.{if_ok, if_err, fails_for_memory}
use Rattle.mav_nodes.proofs.link.Link.transmit.Goals as goal

none_left : (clock kept : ℕ) (message : Message) (link : Link) → greatest_stamp < kept → kept ≡ next_in link.history clock → sends clock message link ≡ None
none_left clock kept message link spent is = rw (lt-ltb greatest_stamp (next_in link.history clock) (omega (arith, is))) refl

packet_is : (key : List ℕ) (me : Stream) (extras : List (ℕ × ℕ)) (seq stamp : ℕ) (message : Message) (packet : Packet) → SentFrame key me extras seq stamp message packet → packet ≡ signed_packet key extras me seq stamp message
packet_is key me extras seq stamp message packet frame = search rules

sent_did : (clock kept : ℕ) (message : Message) (link : Link) (old new : EndpointState) (packet : Packet) (before after : List News) → IsEnd link old → SentFrame old.key old.me old.extras old.seq kept message packet → kept ≤ greatest_stamp → kept ≡ next_in link.history clock → Represents new.stamps (link.history ++ sent (next_in link.history clock) ∷ []) → new ≡ record old { stamps = new.stamps; seq = (old.seq + 1) % 256 } → after ≡ before ++ Sent packet message ∷ [] → Did (sends clock message link) (λ end. IsEnd end new) before after
sent_did clock kept message link old new packet before after is frame left stamp history same told =
    let packet_same = packet_is old.key old.me old.extras old.seq kept message packet frame in
    let whole : packet ≡ signed_packet link.key link.extras link.me link.seq (next_in link.history clock) message = packet_same ∙ rw (is.key, is.me, is.extras, is.seq, stamp) refl in
    rw (le-ltb greatest_stamp (next_in link.history clock) (omega (arith, left, stamp))) (
      record {
        key = ap (λ (e : EndpointState). e.key) same ∙ is.key;
        me = ap (λ (e : EndpointState). e.me) same ∙ is.me;
        extras = ap (λ (e : EndpointState). e.extras) same ∙ is.extras;
        seq = ap (λ (e : EndpointState). e.seq) same ∙ ap (λ (n : ℕ). (n + 1) % 256) is.seq;
        history = history;
      },
      ap events_of told ∙ map-append said_by before (Sent packet message ∷ []) ∙ ap (λ (p : Packet). events_of before ++ Shows_sent p message ∷ []) whole,
    )

pub returns-in_err-send_bytes-clause-fault : goal.returns-in_err-send_bytes-clause-fault
returns-in_err-send_bytes-clause-fault c =
    let e = err_from_is_err_and c.from_residual.result c.from_residual.ensures.1 in
    let inside = ap (λ (v : LinkView). v.endpoint) c.self.view_is in
    rw e.1 (subst (λ (f : NodeFault). Fails f (λ (link : Link). IsEnd link c.args.self.now.endpoint) (λ (link : Link). sends c.args.clock c.args.message.now link) ⊥) (sym e.2) (λ link is.
    let is_inside = subst (IsEnd link) (sym inside) is in
    none_left c.args.clock _ c.args.message.now link c.in_err-send_bytes.ensures.sends.spent (c.in_err-send_bytes.ensures.sends.stamp link.history is_inside.history)))

pub returns-clause-sent : goal.returns-clause-sent
returns-clause-sent c = if_ok c.tell_sent.result (λ done told link is.
    let inside = subst (IsEnd link) (sym (ap (λ (v : LinkView). v.endpoint) c.self.view_is)) is in
    let sent = c.in_ok-send_bytes.ensures.sends in
    sent_did c.args.clock _ c.args.message.now link c.self.inside.endpoint c.send_bytes.new.self c.send_bytes.new.frame c.args.news.now.items c.tell_sent.new.news.items inside sent.frame sent.left (sent.stamp link.history inside.history) (sent.history link.history inside.history) sent.same told) c.tell_sent.ensures.told

pub returns-clause-fault : goal.returns-clause-fault
returns-clause-fault c = if_err c.tell_sent.result (λ fault is. fails_for_memory fault _ _ _ is) c.tell_sent.ensures.fault
