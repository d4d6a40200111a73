-- A command that is given again is done once.
use Rattle.std.proofs.Common.{◌≡◌, ◌≢◌, ◌⊎◌, inl, inr, ℕ, ◌<◌, Bool, true, false, ◌&&◌, ◌==◌, nat_lt, if◌then◌else◌, List, [], ◌∷◌, Option, Some, None, refl, sym, ap, ◌∙◌, arith, subst}
use Rattle.std.specs.Option.{option_map}
use Rattle.std.specs.Str.{bytes_eq}
use Rattle.std.specs.Cmp.Lexicographic.{bytes_decides}
use Rattle.mav_names.specs.declared.names.Name.{Name}
use Rattle.mav_names.specs.declared.names.Stream.{Stream}
use Rattle.mav_names.specs.Addresses.{same_stream, is_for_node}
use Rattle.mav_messages.specs.declared.commands.CommandLong.{CommandLong}
use Rattle.mav_messages.specs.declared.messages.Message.{Message}
use Rattle.mav_messages.specs.declared.messages.Message.TheVariants.{CommandLong as Commands}
use Rattle.command_proto.specs.declared.executor.Ready.{Ready}
use Rattle.command_proto.specs.Executor.{Command, LastCommand, Verdict, ExecutorState, ExecutorStep, new_executor, executor_step, command_comes, ignores, does, verdict_on, command_in, acknowledges, same_command, repeats, has_no_room, last_in, with_last}
use Rattle.command_proto.specs.Laws.{command_target, Received, step_at, executor_after, or_before, latest_done}
use Rattle.command_proto.proofs.Ranges.{by_test, same_is}

-- the table

same_self : (s : Stream) → same_stream s s ≡ true
same_self s = grind arith

-- a new entry is found
new_is_last : (ls : List LastCommand) (new : LastCommand) → last_in (with_last ls new) new.stream ≡ Some new
new_is_last [] new = rw (same_self new.stream) refl
new_is_last (l ∷ ls) new =
    elim (same_stream l.stream new.stream) as (λ t. same_stream l.stream new.stream ≡ t → last_in (if t then new ∷ ls else l ∷ with_last ls new) new.stream ≡ Some new) [
      | true ↦ λ e. rw (same_self new.stream) refl
      | false ↦ λ e. rw e (new_is_last ls new)
    ] refl

-- and the entries of other streams stay
moved : (a b other : Stream) → same_stream a b ≡ true → same_stream b other ≡ false → same_stream a other ≡ false
moved a b other e f = grind arith

others_kept : (ls : List LastCommand) (new : LastCommand) (other : Stream) → same_stream new.stream other ≡ false → last_in (with_last ls new) other ≡ last_in ls other
others_kept [] new other apart = rw apart refl
others_kept (l ∷ ls) new other apart =
    elim (same_stream l.stream new.stream) as (λ t. same_stream l.stream new.stream ≡ t → last_in (if t then new ∷ ls else l ∷ with_last ls new) other ≡ last_in (l ∷ ls) other) [
      | true ↦ λ e. rw (apart, moved l.stream new.stream other e apart) refl
      | false ↦ λ e. ap (λ (found : Option LastCommand). if same_stream l.stream other then Some l else found) (others_kept ls new other apart)
    ] refl

-- a step

-- what becomes of a step: nothing is done and nothing changes, or a command is done
data Outcome (e : ExecutorState) (from : Stream) (s : ExecutorStep) : Type 0 where
  Rests : s.executor ≡ e → s.done ≡ None → s.action ≡ None → Outcome e from s
  Does : (m : CommandLong) (v : Verdict) → s ≡ does e from m v → Outcome e from s

comes : (e : ExecutorState) (from : Stream) (m : CommandLong) (ready : Ready) → Outcome e from (command_comes e from m ready)
comes e from m ready =
    by_test (Outcome e from) (repeats m (last_in e.last from)) _ _ (λ _. Rests refl refl refl) (λ _.
    by_test (Outcome e from) (has_no_room (last_in e.last from) e.last) _ _ (λ _. Rests refl refl refl) (λ _.
    Does m (verdict_on m ready) refl))

outcome : (e : ExecutorState) (from : Stream) (m : Message) (ready : Ready) → Outcome e from (executor_step e from m ready)
outcome e from (Commands m) ready =
    by_test (Outcome e from) (is_for_node e.me (record { sys = m.target_system; comp = m.target_component })) (command_comes e from m ready) (ignores e)
    (λ _. comes e from m ready) (λ _. Rests refl refl refl)
outcome e from _ ready = Rests refl refl refl

some_is : {A : Type 0} {x y : A} → Some x ≡ Some y → x ≡ y
some_is e = cc

pub done_is_last : (e : ExecutorState) (from : Stream) (m : Message) (ready : Ready) (c : Command) → (executor_step e from m ready).done ≡ Some c
    → option_map (λ (l : LastCommand). l.command) (last_in (executor_step e from m ready).executor.last from) ≡ Some c
done_is_last e from m ready c some =
    elim (outcome e from m ready) [
      | Rests kept none still ↦ absurd (let no : None ≡ Some c = sym none ∙ some in cc)
      | Does n v is ↦
          ap (λ (s : ExecutorStep). option_map (λ (l : LastCommand). l.command) (last_in s.executor.last from)) is
          ∙ ap (λ found. option_map (λ (l : LastCommand). l.command) found) (new_is_last e.last (record { stream = from; command = command_in n; result = v.result }))
          ∙ (sym (ap (λ (s : ExecutorStep). s.done) is) ∙ some)
    ]

pub undone : (e : ExecutorState) (from : Stream) (m : Message) (ready : Ready) → (executor_step e from m ready).done ≡ None → (executor_step e from m ready).executor ≡ e
undone e from m ready none =
    elim (outcome e from m ready) [
      | Rests kept none still ↦ kept
      | Does n v is ↦ absurd (let no : None ≡ Some (command_in n) = sym none ∙ ap (λ (s : ExecutorStep). s.done) is in cc)
    ]

pub idle : (e : ExecutorState) (from : Stream) (m : Message) (ready : Ready) → (executor_step e from m ready).done ≡ None → (executor_step e from m ready).action ≡ None
idle e from m ready none =
    elim (outcome e from m ready) [
      | Rests kept none still ↦ still
      | Does n v is ↦ absurd (let no : None ≡ Some (command_in n) = sym none ∙ ap (λ (s : ExecutorStep). s.done) is in cc)
    ]

pub others_stay : (e : ExecutorState) (from : Stream) (m : Message) (ready : Ready) (other : Stream) → same_stream from other ≡ false
    → last_in (executor_step e from m ready).executor.last other ≡ last_in e.last other
others_stay e from m ready other apart =
    elim (outcome e from m ready) [
      | Rests kept none still ↦ ap (λ (x : ExecutorState). last_in x.last other) kept
      | Does n v is ↦
          ap (λ (s : ExecutorStep). last_in s.executor.last other) is
          ∙ others_kept e.last (record { stream = from; command = command_in n; result = v.result }) other apart
    ]

-- a repetition

second : (a b : Bool) → (a && b) ≡ true → b ≡ true
second true b e = e
second false b e = absurd (cc)

same_from : (a b : Command) → same_command a b ≡ true → a ≡ b
same_from a b e =
    let words : a.params ≡ b.params = (bytes_decides a.params b.params).0 (second (a.number == b.number) (bytes_eq a.params b.params) e) in
    grind (arith, words)

same_words : (words : List ℕ) → bytes_eq words words ≡ true
same_words [] = refl
same_words (w ∷ ws) = grind (arith, same_words ws)

same_command_self : (c : Command) → same_command c c ≡ true
same_command_self c = rw (same_words c.params) (grind arith)

same_by : (a b : Command) → b ≡ a → same_command a b ≡ true
same_by a b e = subst (λ x. same_command a x ≡ true) (sym e) (same_command_self a)

more : (n : ℕ) → 0 < n → nat_lt 0 n ≡ true
more n h = grind arith

pub done_once : (e : ExecutorState) (from : Stream) (m : CommandLong) (ready : Ready) (l : LastCommand) → last_in e.last from ≡ Some l → 0 < m.confirmation → command_in m ≡ l.command
    → (executor_step e from (Commands m) ready).done ≡ None
done_once e from m ready l is confirmed same =
    let again : repeats m (last_in e.last from) ≡ true = rw (is, more m.confirmation confirmed) (same_by l.command (command_in m) same) in
    by_test (λ (s : ExecutorStep). s.done ≡ None) (is_for_node e.me (record { sys = m.target_system; comp = m.target_component })) (command_comes e from m ready) (ignores e)
    (λ _. rw again refl) (λ _. refl)

pub answered : (e : ExecutorState) (from : Stream) (m : CommandLong) (ready : Ready) (l : LastCommand) → last_in e.last from ≡ Some l → 0 < m.confirmation → command_in m ≡ l.command
    → is_for_node e.me (command_target m) ≡ true → (executor_step e from (Commands m) ready).answer ≡ Some (acknowledges from m.command l.result)
answered e from m ready l is confirmed same own =
    let again : repeats m (Some l) ≡ true = rw (more m.confirmation confirmed) (same_by l.command (command_in m) same) in
    rw (own, is, again) refl

-- a command that isn't a repetition
different : (m : CommandLong) (found : Option LastCommand) → (m.confirmation ≡ 0) ⊎ (option_map (λ (l : LastCommand). l.command) found ≢ Some (command_in m)) → repeats m found ≡ false
different m None h = refl
different m (Some l) (inl zero) = rw zero refl
different m (Some l) (inr other) =
    elim (repeats m (Some l)) as (λ t. repeats m (Some l) ≡ t → t ≡ false) [
      | true ↦ λ e. absurd (other (ap (λ c. Some c) (same_from l.command (command_in m) (second (nat_lt 0 m.confirmation) (same_command l.command (command_in m)) e))))
      | false ↦ λ e. refl
    ] refl

other_command : (e : ExecutorState) (from : Stream) (m : CommandLong) (ready : Ready) → is_for_node e.me (command_target m) ≡ true → repeats m (last_in e.last from) ≡ false
    → ((executor_step e from (Commands m) ready).done ≡ Some (command_in m)) ⊎ ((executor_step e from (Commands m) ready).answer ≡ Some (acknowledges from m.command 1))
other_command e from m ready own first =
    rw (own, first)
    (by_test (λ (s : ExecutorStep). (s.done ≡ Some (command_in m)) ⊎ (s.answer ≡ Some (acknowledges from m.command 1))) (has_no_room (last_in e.last from) e.last) _ _ (λ _. inr refl) (λ _. inl refl))

-- a whole run

-- the command of the last that is kept of a stream
abbrev kept : ExecutorState → Stream → Option Command
kept e s = option_map (λ (l : LastCommand). l.command) (last_in e.last s)

own : (e : ExecutorState) (from : Stream) (m : Message) (ready : Ready) (before : Option Command) → kept e from ≡ before
    → kept (executor_step e from m ready).executor from ≡ or_before (executor_step e from m ready).done before
own e from m ready before h =
    elim (executor_step e from m ready).done as (λ done. (executor_step e from m ready).done ≡ done → kept (executor_step e from m ready).executor from ≡ or_before done before) [
      | None ↦ λ none. ap (λ (x : ExecutorState). kept x from) (undone e from m ready none) ∙ h
      | Some c ↦ λ some. done_is_last e from m ready c some
    ] refl

any : (e : ExecutorState) (r : Received) (s : Stream) (before : Option Command) → kept e s ≡ before
    → kept (step_at e r).executor s ≡ (if same_stream r.from s then or_before (step_at e r).done before else before)
any e r s before h =
    elim (same_stream r.from s) as (λ t. same_stream r.from s ≡ t → kept (step_at e r).executor s ≡ (if t then or_before (step_at e r).done before else before)) [
      | true ↦ λ same. subst (λ x. kept e x ≡ before → kept (step_at e r).executor x ≡ or_before (step_at e r).done before) (same_is r.from s same) (own e r.from r.message r.ready before) h
      | false ↦ λ other. ap (λ found. option_map (λ (l : LastCommand). l.command) found) (others_stay e r.from r.message r.ready s other) ∙ h
    ] refl

follows : (e : ExecutorState) (rs : List Received) (s : Stream) (before : Option Command) → kept e s ≡ before → kept (executor_after e rs) s ≡ latest_done e rs s before
follows e [] s before h = h
follows e (r ∷ rs) s before h =
    follows (step_at e r).executor rs s (if same_stream r.from s then or_before (step_at e r).done before else before) (any e r s before h)

pub is_latest : (me : Name) (rs : List Received) (s : Stream) → kept (executor_after (new_executor me) rs) s ≡ latest_done (new_executor me) rs s None
is_latest me rs s = follows (new_executor me) rs s None refl

-- what is kept, by its command
repeated : (found : Option LastCommand) (e : ExecutorState) (from : Stream) (m : CommandLong) (ready : Ready) → last_in e.last from ≡ found → option_map (λ (l : LastCommand). l.command) found ≡ Some (command_in m) → 0 < m.confirmation
    → (executor_step e from (Commands m) ready).done ≡ None
repeated None e from m ready is same confirmed = absurd (cc)
repeated (Some l) e from m ready is same confirmed = done_once e from m ready l is confirmed (sym (some_is same))

pub never_twice : (me : Name) (rs : List Received) (from : Stream) (m : CommandLong) (ready : Ready) → latest_done (new_executor me) rs from None ≡ Some (command_in m) → 0 < m.confirmation
    → (executor_step (executor_after (new_executor me) rs) from (Commands m) ready).done ≡ None
never_twice me rs from m ready latest confirmed =
    repeated (last_in (executor_after (new_executor me) rs).last from) (executor_after (new_executor me) rs) from m ready refl (is_latest me rs from ∙ latest) confirmed

same_node : (e : ExecutorState) (rs : List Received) → (executor_after e rs).me ≡ e.me
same_node e [] = refl
same_node e (r ∷ rs) = same_node (step_at e r).executor rs ∙ elim (outcome e r.from r.message r.ready) [
  | Rests same none still ↦ ap (λ (x : ExecutorState). x.me) same
  | Does n v is ↦ ap (λ (s : ExecutorStep). s.executor.me) is
]

pub each_other : (me : Name) (rs : List Received) (from : Stream) (m : CommandLong) (ready : Ready) → is_for_node me (command_target m) ≡ true
    → (m.confirmation ≡ 0) ⊎ (latest_done (new_executor me) rs from None ≢ Some (command_in m))
    → ((executor_step (executor_after (new_executor me) rs) from (Commands m) ready).done ≡ Some (command_in m))
    ⊎ ((executor_step (executor_after (new_executor me) rs) from (Commands m) ready).answer ≡ Some (acknowledges from m.command 1))
each_other me rs from m ready own h =
    other_command (executor_after (new_executor me) rs) from m ready (ap (λ x. is_for_node x (command_target m)) (same_node (new_executor me) rs) ∙ own)
    (different m (last_in (executor_after (new_executor me) rs).last from) (rw (is_latest me rs from) h))
