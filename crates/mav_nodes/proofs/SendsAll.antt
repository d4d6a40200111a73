-- Messages that a link sends one after another: what was done so far, and what the others lead to.
use Rattle.std.proofs.Common.{◌≡◌, ℕ, List, [], ◌∷◌, ◌++◌, Option, inl, Some, None, refl, sym, ap, ◌∙◌, subst, append_assoc}
use Rattle.std.specs.Prelude.{map}
use Rattle.std.proofs.lemmas.List.{append-nil, map-append}
use Rattle.mav_messages.specs.declared.messages.Message.{Message}
use Rattle.mav_nodes.specs.declared.faults.NodeFault.{NodeFault}
use Rattle.mav_nodes.specs.declared.faults.NodeFault.TheVariants.{StampsSpent, Store, NoMemory}
use Rattle.mav_nodes.specs.declared.news.News.{News}
use Rattle.mav_nodes.specs.News.{NodeEvent, Shown, shown, events_of}
use Rattle.mav_nodes.specs.Links.{LinkView, Link, IsLink, Outcome, done, after_events, and_then, sends, sends_all}
use Rattle.mav_nodes.specs.Stores.{Holds, HoldsNearly}
use Rattle.mav_nodes.specs.Promises.{Fails, LinkDid}

-- the messages before `left` were sent, and `total` is what all of them lead to
pub record SentSoFar (clock : ℕ) (total : Outcome Link) (left : List Message) (view : LinkView) (before now : List News) : Type 0 where
  pub link : Link
  pub is : IsLink link view
  pub events : List NodeEvent
  pub said : events_of now ≡ events_of before ++ map shown events
  pub leads : total ≡ after_events events (sends_all clock left link)

behind_none : (outcome : Outcome Link) → after_events [] outcome ≡ outcome
behind_none None = refl
behind_none (Some d) = refl

behind_twice : (first next : List NodeEvent) (outcome : Outcome Link) → after_events first (after_events next outcome) ≡ after_events (first ++ next) outcome
behind_twice first next None = refl
behind_twice first next (Some d) = ap (λ (l : List NodeEvent). done d.node l) (sym (append_assoc first next d.events))

-- a store that has what is stored has it nearly
pub held_nearly : (contents : Option (List ℕ)) (stored : ℕ → List ℕ → Type 0) (low : Option ℕ) → Holds contents stored low → HoldsNearly contents stored low
held_nearly None stored None h = tt
held_nearly (Some bytes) stored None h = inl h
held_nearly contents stored (Some low) h = h

module _ (clock : ℕ) where
  pub at_first : (messages : List Message) (link : Link) (view : LinkView) (news : List News) → IsLink link view → SentSoFar clock (sends_all clock messages link) messages view news news
  at_first messages link view news is = record {
    link = link;
    is = is;
    events = [];
    said = sym (append-nil (events_of news));
    leads = sym (behind_none (sends_all clock messages link));
  }

  pub one_more : (total : Outcome Link) (message : Message) (left : List Message) (old view : LinkView) (before news now : List News) → SentSoFar clock total (message ∷ left) old before news
      → ((link : Link) → IsLink link old → LinkDid (sends clock message link) view news now) → SentSoFar clock total left view before now
  one_more total message left old view before news now so did = after (sends clock message so.link) (did so.link so.is) so.leads
    where
      after : (outcome : Outcome Link) → LinkDid outcome view news now → total ≡ after_events so.events (and_then outcome (sends_all clock left)) → SentSoFar clock total left view before now
      after None h e = absurd h
      after (Some d) h e = record {
        link = d.node;
        is = h.0;
        events = so.events ++ d.events;
        said =
            h.1
            ∙ (ap (λ (l : List Shown). l ++ map shown d.events) so.said
            ∙ (append_assoc (events_of before) (map shown so.events) (map shown d.events)
            ∙ ap (λ (l : List Shown). events_of before ++ l) (sym (map-append shown so.events d.events))));
        leads = e ∙ behind_twice so.events d.events (sends_all clock left d.node);
      }

  pub all_sent : (total : Outcome Link) (left : List Message) (view : LinkView) (before now : List News) → left ≡ [] → SentSoFar clock total left view before now → LinkDid total view before now
  all_sent total left view before now none so =
      subst (λ (o : Outcome Link). LinkDid o view before now)
      (sym (so.leads ∙ ap (λ (ms : List Message). after_events so.events (sends_all clock ms so.link)) none))
      (so.is, so.said ∙ ap (λ (l : List NodeEvent). events_of before ++ map shown l) (sym (append-nil so.events)))

  -- one of them has no timestamp left
  pub none_sent : (messages : List Message) (message : Message) (left : List Message) (end old : LinkView) (before news : List News) (F G : Type 0) (fault : NodeFault) → (F → G)
      → ((link : Link) → IsLink link end → SentSoFar clock (sends_all clock messages link) (message ∷ left) old before news)
      → Fails fault (λ (link : Link). IsLink link old) (λ (link : Link). sends clock message link) F → Fails fault (λ (link : Link). IsLink link end) (λ (link : Link). sends_all clock messages link) G
  none_sent messages message left end old before news F G StampsSpent f so h = λ link is.
      let s = so link is in
      s.leads ∙ ap (λ (o : Outcome Link). after_events s.events (and_then o (sends_all clock left))) (h s.link s.is)
  none_sent messages message left end old before news F G Store f so h = f h
  none_sent messages message left end old before news F G NoMemory f so h = tt
