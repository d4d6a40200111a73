-- The law: each command once.
use Rattle.std.proofs.Common.{◌≡◌, ℕ, ◌<◌, ◌⊎◌, inl, inr, Bool, true, if◌then◌else◌, List, [], Some, None, refl, sym, ap, subst, arith, ◌∙◌}
use Rattle.mav_names.specs.declared.names.Name.{Name}
use Rattle.mav_names.specs.Addresses.{same_name, node_of}
use Rattle.mav_frame.specs.Packet.{Packet}
use Rattle.command_proto.specs.Executor.{new_executor}
use Rattle.fleet_world.specs.WorldState.{WorldState}
use Rattle.fleet_invariants.proofs.Tests.{name_same}
use Rattle.mav_nodes.specs.Payloads.{service_in}
use Rattle.fleet_command_laws.specs.Lines.{command_in, commanded, line_at}
use Rattle.fleet_command_laws.specs.Done.{done_since}
use Rattle.fleet_command_laws.specs.Once.{IsFrame, EachDoesOnce, EveryCommandOnce}
use Rattle.fleet_command_laws.proofs.Lists.{of_line}
use Rattle.fleet_command_laws.proofs.Histories.{AreFit, Rises, rises, ordered, all_among}
use Rattle.fleet_command_laws.proofs.Targets.{all_for}
use Rattle.fleet_command_laws.proofs.Stations.{Voice}
use Rattle.fleet_command_laws.proofs.Drones.{Tells}
use Rattle.fleet_command_laws.proofs.Worlds.{Commanded}
use Rattle.fleet_command_laws.proofs.Plays.{holds_last, holds_between}

compare : (a b : ℕ) → (a < b) ⊎ ((a ≡ b) ⊎ (b < a))
compare a b = grind arith

by_name : (a b : Name) → a ≡ b → same_name a b ≡ true
by_name a b same = subst (λ x. same_name a x ≡ true) same (name_same a)

module _ (frames done : List Packet) (name : Name) (each : (i j a b : ℕ) → IsFrame frames done name i a → IsFrame frames done name j b → i < j → line_at name frames a < line_at name frames b) where
  one_line : (i j a b : ℕ) → IsFrame frames done name i a → IsFrame frames done name j b → line_at name frames a ≡ line_at name frames b → i ≡ j
  one_line i j a b p q same = elim (compare i j) [
    | inl x ↦ absurd (let less = each i j a b p q x in omega arith)
    | inr y ↦ elim y [ inl z ↦ z | inr z ↦ absurd (let less = each j i b a q p z in omega arith) ]
  ]

does_once : (s : WorldState) → Commanded s → EachDoesOnce s
does_once s c k d found =
    let t : Tells s.sent (node_of d.link.me) d.link.history d.services.executor = c.drones k d found in
    record {
      moments = t.moments;
      are = record { history = t.entries; executor = t.executor };
      sent = λ moments is i p there. all_among s.sent moments [] (new_executor (node_of d.link.me)) (subst (AreFit s.sent []) (sym is) t.fit) i p there;
      lines = λ moments is i n there.
          let v : Voice s.sent (node_of n.link.me) n.link.history n.services.commander.issue = c.stations i n there in
          let name : Name = node_of n.link.me in
          let done : List Packet = done_since d moments in
          let rise : Rises s.sent name v.rising v.runs 0 done = rises s.sent name v.rising v.runs moments [] (new_executor (node_of d.link.me)) 0 refl (subst (AreFit s.sent []) (sym is) t.fit) in
          let order : (i j a b : ℕ) → IsFrame s.sent done name i a → IsFrame s.sent done name j b → i < j → line_at name s.sent a < line_at name s.sent b =
          λ i j a b p q less. ordered s.sent name v.rising v.runs 0 done rise i j p.packet q.packet p.done_there q.done_there (by_name p.packet.from name p.from) (by_name q.packet.from name q.from) a b p.sent_there q.sent_there less in
          record {
            once = one_line s.sent done name order;
            in_order = order;
            ordered = λ i a f.
                let for_it = all_for (node_of d.link.me) moments (new_executor (node_of d.link.me)) refl i f.packet f.done_there in
                let is : commanded name f.packet ≡ Some for_it.0 = ap (λ (t : Bool). if t then command_in (service_in f.packet.id f.packet.payload) else None) (by_name f.packet.from name f.from) ∙ ap command_in for_it.1 in
                let l = of_line name s.sent a f.packet for_it.0 v.runs f.sent_there is in
                record { message = for_it.0; is = is; for_me = for_it.2; line = l.line; line_is = l.line_is; order = l.order };
          };
    }

pub every_once : EveryCommandOnce
every_once key ended bytes authentic = record {
  last = does_once _ (holds_last key ended bytes authentic).commanded;
  each = λ before after is. does_once _ (holds_between key ended bytes authentic before after is).commanded;
}
