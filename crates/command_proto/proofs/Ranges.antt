-- What both sides keep stays in range, and what they send fits its payload.
use Rattle.std.proofs.Common.{◌≡◌, ℕ, ◌+◌, ◌<◌, ◌≤◌, ◌^◌, Bool, true, false, min, nat_lt, ◌==◌, ◌&&◌, if◌then◌else◌, List, [], ◌∷◌, length, Option, Some, None, IfSome, get_or, refl, subst, arith}
use Rattle.std.specs.Prelude.{All}
use Rattle.std.specs.List.{IsDistinct, AllByRecursion}
use Rattle.std.proofs.lemmas.List.Elements.{All-nil, All-cons, All-head, All-tail, All-get_or}
use Rattle.field_layout.specs.Definition.{all_fields}
use Rattle.field_layout.specs.Payload.{FitsLayout}
use Rattle.mav_profile.specs.Profile.{command_long_definition, command_ack_definition}
use Rattle.mav_names.specs.declared.names.Stream.{Stream}
use Rattle.mav_names.specs.Addresses.{same_stream, is_for_node}
use Rattle.plan_items.specs.declared.actions.Action.TheVariants.{Arm, Disarm, Start, Return}
use Rattle.mav_messages.specs.declared.commands.CommandLong.{CommandLong}
use Rattle.mav_messages.specs.declared.commands.CommandAck.{CommandAck}
use Rattle.mav_messages.specs.declared.messages.Message.{Message}
use Rattle.mav_messages.specs.declared.messages.Message.TheVariants.{CommandLong as Commands, CommandAck as Acknowledges}
use Rattle.mav_messages.specs.Messages.{definition_of, values_of}
use Rattle.mav_messages.proofs.Decoded.{fits_layout}
use Rattle.command_proto.specs.declared.executor.Ready.{Ready}
use Rattle.command_proto.specs.Executor.{Command, LastCommand, Verdict, ExecutorState, new_executor, executor_step, command_comes, ignores, does, verdict_on, arms, accepts, refuses, acknowledges, command_in, repeats, kept_result, has_no_room, last_in, with_last}
use Rattle.command_proto.specs.Commander.{Issue, CommanderState, first_issue, command_message, commands, counts, acknowledged, ack_comes, commander_step, waits_on, given_again, issue_ticks, commander_tick}
use Rattle.command_proto.specs.Laws.{IsSendable, IssueInRange, CommanderInRange, CommanderStepInRange, streams_in, ExecutorInRange, ExecutorStepInRange}

-- what holds of either branch holds of the choice
pub by_test : {A : Type 0} (P : A → Type 0) (b : Bool) (x y : A) → (b ≡ true → P x) → (b ≡ false → P y) → P (if b then x else y)
by_test P true x y f g = f refl
by_test P false x y f g = g refl

-- the commander

parameter : (i : Issue) (k : ℕ) → IssueInRange i → k < 7 → get_or i.command.params k 0 < 2 ^ 32
parameter i k h inside = All-get_or (λ word. word < 2 ^ 32) i.command.params k 0 (omega (arith, h.seven)) h.words

pub sendable_command : (i : Issue) → IssueInRange i → IsSendable (command_message i)
sendable_command i h = record {
  fits =
      fits_layout (all_fields command_long_definition) (values_of (command_message i))
      ((refl, h.sys), ((refl, h.comp), ((refl, h.number), ((refl, h.confirmation), ((refl, parameter i 0 h (omega arith)), ((refl, parameter i 1 h (omega arith)), ((refl, parameter i 2 h (omega arith)), ((refl, parameter i 3 h (omega arith)), ((refl, parameter i 4 h (omega arith)), ((refl, parameter i 5 h (omega arith)), ((refl, parameter i 6 h (omega arith)), tt)))))))))));
  no_plan = refl;
}

-- it sends an issue
gives : (c : CommanderState) (i : Issue) → IssueInRange i → CommanderStepInRange (record { commander = record c { issue = Some i }; answer = Some (command_message i); end = None })
gives c i h = record { commander = h; answer = sendable_command i h }

pub issued : (c : CommanderState) (drone : Stream) (command : Command) → IssueInRange (first_issue drone command) → CommanderStepInRange (commands c drone command)
issued c drone command h = gives c (first_issue drone command) h

rests : (c : CommanderState) → CommanderInRange c → CommanderStepInRange (waits_on c)
rests c h = record { commander = h; answer = tt }

is_acknowledged : (c : CommanderState) (i : Issue) (result : ℕ) → IssueInRange i → CommanderStepInRange (acknowledged c i result)
is_acknowledged c i result h =
    by_test CommanderStepInRange (result == 5) _ _
    (λ _. rests (record c { issue = Some (record i { idle = 0 }) })
    (record { sys = h.sys; comp = h.comp; number = h.number; seven = h.seven; words = h.words; confirmation = h.confirmation; idle = omega arith }))
    (λ _. record { commander = tt; answer = tt })

ack : (c : CommanderState) (issue : Option Issue) (from : Stream) (m : CommandAck) → CommanderInRange c → IfSome issue IssueInRange → CommanderStepInRange (ack_comes c issue from m)
ack c None from m h i = rests c h
ack c (Some issue) from m h i =
    by_test CommanderStepInRange (counts c.me issue from m) (acknowledged c issue m.result) (waits_on c)
    (λ _. is_acknowledged c issue m.result i) (λ _. rests c h)

pub stepped : (c : CommanderState) (from : Stream) (m : Message) → CommanderInRange c → CommanderStepInRange (commander_step c from m)
stepped c from (Acknowledges m) h = ack c c.issue from m h h
stepped c from _ h = rests c h

-- a tick
higher : (n : ℕ) → min (n + 1) 255 < 256
higher n = grind arith

shorter : (a b : ℕ) → nat_lt a b ≡ true → a < b
shorter a b e = grind arith

ticks : (c : CommanderState) (issue : Option Issue) → CommanderInRange c → IfSome issue IssueInRange → CommanderStepInRange (issue_ticks c issue)
ticks c None h i = rests c h
ticks c (Some issue) h i =
    by_test CommanderStepInRange (nat_lt (issue.idle + 1) 5) _ _
    (λ e. gives c (given_again issue)
    (record { sys = i.sys; comp = i.comp; number = i.number; seven = i.seven; words = i.words; confirmation = higher issue.confirmation; idle = shorter (issue.idle + 1) 5 e }))
    (λ _. record { commander = tt; answer = tt })

pub ticked : (c : CommanderState) → CommanderInRange c → CommanderStepInRange (commander_tick c)
ticked c h = ticks c c.issue h h

-- the table of last commands

pub same_is : (a b : Stream) → same_stream a b ≡ true → a ≡ b
same_is a b e = grind arith

-- a stream that none of the others is, with one more that it isn't either
none_more : (s : Stream) (ls : List LastCommand) (new : LastCommand) → same_stream s new.stream ≡ false → AllByRecursion (λ t. same_stream s t ≡ false) (streams_in ls)
    → AllByRecursion (λ t. same_stream s t ≡ false) (streams_in (with_last ls new))
none_more s [] new other none = (other, tt)
none_more s (l ∷ ls) new other none =
    by_test (λ xs. AllByRecursion (λ t. same_stream s t ≡ false) (streams_in xs)) (same_stream l.stream new.stream) (new ∷ ls) (l ∷ with_last ls new)
    (λ _. (other, none.1)) (λ _. (none.0, none_more s ls new other none.1))

pub apart : (ls : List LastCommand) (new : LastCommand) → IsDistinct same_stream (streams_in ls) → IsDistinct same_stream (streams_in (with_last ls new))
unfolding IsDistinct
apart [] new h = (tt, tt)
apart (l ∷ ls) new h =
    by_test (λ xs. IsDistinct same_stream (streams_in xs)) (same_stream l.stream new.stream) (new ∷ ls) (l ∷ with_last ls new)
    (λ e. (subst (λ s. AllByRecursion (λ t. same_stream s t ≡ false) (streams_in ls)) (same_is l.stream new.stream e) h.0, h.1))
    (λ e. (none_more l.stream ls new e h.0, apart ls new h.1))

none_twice : IsDistinct same_stream []
unfolding IsDistinct
none_twice = tt

pub grows : (ls : List LastCommand) (new : LastCommand) → length (with_last ls new) ≤ length ls + 1
grows [] new = omega arith
grows (l ∷ ls) new =
    let rest : length (with_last ls new) ≤ length ls + 1 = grows ls new in
    by_test (λ xs. length xs ≤ length (l ∷ ls) + 1) (same_stream l.stream new.stream) (new ∷ ls) (l ∷ with_last ls new)
    (λ _. omega arith) (λ _. omega arith)

-- one that is kept is replaced
stays_as_long : (ls : List LastCommand) (new : LastCommand) (l : LastCommand) → last_in ls new.stream ≡ Some l → length (with_last ls new) ≡ length ls
stays_as_long [] new l some = absurd (cc)
stays_as_long (x ∷ ls) new l some =
    elim (same_stream x.stream new.stream) as (λ t. (if t then Some x else last_in ls new.stream) ≡ Some l → length (if t then new ∷ ls else x ∷ with_last ls new) ≡ length (x ∷ ls)) [
      | true ↦ λ e. refl
      | false ↦ λ e. omega (arith, stays_as_long ls new l e)
    ] some

all_with : (ls : List LastCommand) (new : LastCommand) → new.result < 256 → All (λ (l : LastCommand). l.result < 256) ls → All (λ (l : LastCommand). l.result < 256) (with_last ls new)
all_with [] new small h = All-cons (λ (l : LastCommand). l.result < 256) new [] small h
all_with (l ∷ ls) new small h =
    let rest : All (λ (l : LastCommand). l.result < 256) ls = All-tail (λ (l : LastCommand). l.result < 256) l ls h in
    by_test (All (λ (l : LastCommand). l.result < 256)) (same_stream l.stream new.stream) (new ∷ ls) (l ∷ with_last ls new)
    (λ _. All-cons (λ (l : LastCommand). l.result < 256) new ls small rest)
    (λ _. All-cons (λ (l : LastCommand). l.result < 256) l (with_last ls new) (All-head (λ (l : LastCommand). l.result < 256) l ls h) (all_with ls new small rest))

pub fresh : (me : _) → ExecutorInRange (new_executor me)
fresh me = record { streams = omega arith; apart = none_twice; results = All-nil (λ (l : LastCommand). l.result < 256) }

-- the executor

small_arming : (word : ℕ) → (arms word).result < 256
small_arming word =
    by_test (λ (v : Verdict). v.result < 256) (word == 0x3F800000) (accepts Arm) _ (λ _. omega arith) (λ _.
    by_test (λ (v : Verdict). v.result < 256) (word == 0) (accepts Disarm) (refuses 2) (λ _. omega arith) (λ _. omega arith))

small_verdict : (m : CommandLong) (ready : Ready) → (verdict_on m ready).result < 256
small_verdict m ready =
    by_test (λ (v : Verdict). v.result < 256) (m.command == 400) (arms m.param1) _ (λ _. small_arming m.param1) (λ _.
    by_test (λ (v : Verdict). v.result < 256) (m.command == 300) _ _ (λ _. by_test (λ (v : Verdict). v.result < 256) (ready.armed && ready.planned) (accepts Start) (refuses 2) (λ _. omega arith) (λ _. omega arith)) (λ _.
    by_test (λ (v : Verdict). v.result < 256) (m.command == 20) _ (refuses 3) (λ _. by_test (λ (v : Verdict). v.result < 256) ready.armed (accepts Return) (refuses 2) (λ _. omega arith) (λ _. omega arith)) (λ _. omega arith)))

small_kept : (ls : List LastCommand) (s : Stream) → All (λ (l : LastCommand). l.result < 256) ls → kept_result (last_in ls s) < 256
small_kept [] s h = omega arith
small_kept (l ∷ ls) s h =
    by_test (λ (found : Option LastCommand). kept_result found < 256) (same_stream l.stream s) (Some l) (last_in ls s)
    (λ _. All-head (λ (l : LastCommand). l.result < 256) l ls h) (λ _. small_kept ls s (All-tail (λ (l : LastCommand). l.result < 256) l ls h))

pub sendable_ack : (to : Stream) (number result : ℕ) → to.sys < 256 → to.comp < 256 → number < 65536 → result < 256 → IsSendable (acknowledges to number result)
sendable_ack to number result sys comp small short = record {
  fits =
      fits_layout (all_fields command_ack_definition) (values_of (acknowledges to number result))
      ((refl, small), ((refl, short), ((refl, omega arith), ((refl, omega arith), ((refl, sys), ((refl, comp), tt))))));
  no_plan = refl;
}

-- room for the last command of a stream
within : (found : Option LastCommand) (ls : List LastCommand) (new : LastCommand) → last_in ls new.stream ≡ found → has_no_room found ls ≡ false → length ls ≤ 256 → length (with_last ls new) ≤ 256
within None ls new is room short =
    let more : length (with_last ls new) ≤ length ls + 1 = grows ls new in
    grind arith
within (Some l) ls new is room short =
    let same : length (with_last ls new) ≡ length ls = stays_as_long ls new l is in
    omega arith

module _ (e : ExecutorState) (h : ExecutorInRange e) (from : Stream) (sys : from.sys < 256) (comp : from.comp < 256) (ready : Ready) where
  quiet : ExecutorStepInRange (ignores e)
  quiet = record { executor = h; answer = tt }

  done : (m : CommandLong) → m.command < 65536 → has_no_room (last_in e.last from) e.last ≡ false → (v : Verdict) → v.result < 256 → ExecutorStepInRange (does e from m v)
  done m small room v short = record {
    executor = record {
      streams = within (last_in e.last from) e.last (record { stream = from; command = command_in m; result = v.result }) refl room h.streams;
      apart = apart e.last (record { stream = from; command = command_in m; result = v.result }) h.apart;
      results = all_with e.last (record { stream = from; command = command_in m; result = v.result }) short h.results;
    };
    answer = sendable_ack from m.command v.result sys comp small short;
  }

  comes : (m : CommandLong) → m.command < 65536 → ExecutorStepInRange (command_comes e from m ready)
  comes m small =
      by_test ExecutorStepInRange (repeats m (last_in e.last from)) _ _
      (λ _. record { executor = h; answer = sendable_ack from m.command (kept_result (last_in e.last from)) sys comp small (small_kept e.last from h.results) }) (λ _.
      by_test ExecutorStepInRange (has_no_room (last_in e.last from) e.last) _ _
      (λ _. record { executor = h; answer = sendable_ack from m.command 1 sys comp small (omega arith) }) (λ room.
      done m small room (verdict_on m ready) (small_verdict m ready)))

  pub executed : (m : Message) → FitsLayout (definition_of m) (values_of m) → ExecutorStepInRange (executor_step e from m ready)
  executed (Commands m) fits =
      by_test ExecutorStepInRange (is_for_node e.me (record { sys = m.target_system; comp = m.target_component })) (command_comes e from m ready) (ignores e)
      (λ _. comes m (All-head (λ w. w < 65536) m.command [] fits.1.1.0.1)) (λ _. quiet)
  executed _ fits = quiet
