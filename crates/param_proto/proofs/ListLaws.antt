-- The values of a list: the last one taken for each index.
use Rattle.std.proofs.Common.{◌≡◌, ℕ, suc, zero, ◌+◌, ◌==◌, ◌<◌, ◌≤◌, Bool, true, false, nat_eq, nat_lt, nat_le, if◌then◌else◌, is_some, IsTrue, List, [], ◌∷◌, ◌++◌, length, take, slice_get, Option, Some, None, ◌⊎◌, inl, inr, refl, ap, sym, subst, ◌∙◌, arith}
use Rattle.std.proofs.lemmas.Bool.Decides.{nat_tests}
use Rattle.std.proofs.Math.ListN.{length-take}
use Rattle.mav_names.specs.declared.names.Stream.{Stream}
use Rattle.mav_names.specs.Addresses.{same_stream}
use Rattle.mav_messages.specs.declared.params.ParamValue.{ParamValue}
use Rattle.mav_messages.specs.declared.messages.Message.{Message}
use Rattle.mav_messages.specs.declared.messages.Message.TheVariants.{ParamValue as Tells}
use Rattle.param_proto.specs.declared.params.Param.{Param}
use Rattle.param_proto.specs.Params.{same_id}
use Rattle.param_proto.specs.Client.{Task, Reads, Sets_to, All_listed, Operation, ClientState, ClientStep, One_value, All_values, No_answer, known_values, with_value, was_taken, rests, lists, param_in, one_comes, listed, heard_at, value_comes, answered, told, client_step, idle_limit, request_of, operation_ticks, client_tick}
use Rattle.param_proto.specs.Laws.{ListEvent, Hears, Ticks, after, after_all, newer, latest, value_at}

-- ---- values by their index

zero_apart : (k : ℕ) → nat_eq 0 (suc k) ≡ false
zero_apart k = grind (arith, nat_tests)

more_apart : (i : ℕ) → nat_eq (suc i) 0 ≡ false
more_apart i = grind (arith, nat_tests)

both_more : (i k : ℕ) → nat_eq (suc i) (suc k) ≡ nat_eq i k
both_more i k = grind (arith, nat_tests)

value_put : (vs : List (Option Param)) (i : ℕ) (p : Param) (k : ℕ) → value_at (with_value vs i p) k ≡ (if i == k then Some p else value_at vs k)
value_put [] zero p zero = refl
value_put [] zero p (suc k) = rw (zero_apart k) refl
value_put [] (suc i) p zero = rw (more_apart i) refl
value_put [] (suc i) p (suc k) = rw (both_more i k) (value_put [] i p k)
value_put (v ∷ vs) zero p zero = refl
value_put (v ∷ vs) zero p (suc k) = rw (zero_apart k) refl
value_put (v ∷ vs) (suc i) p zero = rw (more_apart i) refl
value_put (v ∷ vs) (suc i) p (suc k) = rw (both_more i k) (value_put vs i p k)

-- the first of them, all of which are known
value_known : (vs : List (Option Param)) (n k : ℕ) → n ≤ length (known_values vs) → k < n → slice_get (take n (known_values vs)) k ≡ value_at vs k
value_known vs zero k within inside = absurd (omega arith)
value_known [] (suc n) k within inside = absurd (omega arith)
value_known (None ∷ vs) (suc n) k within inside = absurd (omega arith)
value_known (Some p ∷ vs) (suc n) zero within inside = refl
value_known (Some p ∷ vs) (suc n) (suc k) within inside = value_known vs n k (omega arith) (omega arith)

-- what is known of the first of them is the first of what is known
known_front : (vs : List (Option Param)) (n : ℕ) → n ≤ length (known_values vs) → known_values (take n vs) ≡ take n (known_values vs)
known_front vs zero within = refl
known_front [] (suc n) within = absurd (omega arith)
known_front (None ∷ vs) (suc n) within = absurd (omega arith)
known_front (Some p ∷ vs) (suc n) within = ap (λ l. p ∷ l) (known_front vs n (omega arith))

latest_more : (drone : Stream) (k : ℕ) (o : Option Param) (es : List ListEvent) (e : ListEvent) → latest drone k o (es ++ e ∷ []) ≡ newer drone k (latest drone k o es) e
latest_more drone k o [] e = refl
latest_more drone k o (d ∷ es) e = latest_more drone k (newer drone k o d) es e

-- ---- no open operation

pub idle_message : (c : ClientState) → c.operation ≡ None → (from : Stream) (m : Message) → client_step c from m ≡ rests c
idle_message c idle from (Tells m) = rw idle refl
idle_message c idle from _ = refl

pub idle_tick : (c : ClientState) → c.operation ≡ None → client_tick c ≡ rests c
idle_tick c idle = rw idle refl

idle_after : (c : ClientState) (e : ListEvent) → c.operation ≡ None → (after c e).operation ≡ None
idle_after c (Hears from m) idle = ap (λ (r : ClientStep). r.client.operation) (idle_message c idle from m) ∙ idle
idle_after c Ticks idle = ap (λ (r : ClientStep). r.client.operation) (idle_tick c idle) ∙ idle

idle_after_all : (c : ClientState) (es : List ListEvent) → c.operation ≡ None → (after_all c es).operation ≡ None
idle_after_all c [] idle = idle
idle_after_all c (e ∷ es) idle = idle_after_all (after c e) es (idle_after c e idle)

-- ---- an open list

abbrev open_list : Stream → ℕ → Operation
open_list drone n = record { drone = drone; task = All_listed; idle = n }

-- it ended, or it is still open and each value is the last one taken
abbrev LedOn : Stream → ClientState → ListEvent → ClientState → Type 0
LedOn drone c e d =
    (d.operation ≡ None) ⊎ ((n : ℕ) × (d.operation ≡ Some (open_list drone n)) × ((k : ℕ) → value_at d.values k ≡ newer drone k (value_at c.values k) e))

-- at a value that isn't for the list
unled : (drone : Stream) (c : ClientState) (n : ℕ) (e : ListEvent) → c.operation ≡ Some (open_list drone n) → ((k : ℕ) → newer drone k (value_at c.values k) e ≡ value_at c.values k) → LedOn drone c e c
unled drone c n e listing same = inr (n, listing, λ k. sym (same k))

never_below : (i n : ℕ) → nat_eq n 0 ≡ true → nat_lt i n ≡ false
never_below i n none = grind (arith, nat_tests)

led_listed : (drone : Stream) (c : ClientState) (n m : ℕ) (e : ListEvent) (vs : List (Option Param)) → ((k : ℕ) → value_at vs k ≡ newer drone k (value_at c.values k) e) → LedOn drone c e (listed c (open_list drone n) m vs).client
led_listed drone c n m e vs values =
    elim (nat_le m (length (known_values vs))) as (λ t. LedOn drone c e (if t then record {
      client = record c { values = take m vs; operation = None };
      answer = None;
      end = Some (All_values (take m (known_values vs)));
    } else rests (record c { values = vs; operation = Some (open_list drone n) })).client) [
      | true ↦ inl refl
      | false ↦ inr (n, refl, values)
    ]

-- the ticks of the list once a value came
abbrev heard_ticks : ℕ → Bool → ℕ
heard_ticks n true = n
heard_ticks n false = 0

heard_list : (drone : Stream) (n : ℕ) (taken : Bool) → heard_at (open_list drone n) taken ≡ open_list drone (heard_ticks n taken)
heard_list drone n true = refl
heard_list drone n false = refl

led_value : (drone : Stream) (c : ClientState) (n : ℕ) (from : Stream) (m : ParamValue) → c.operation ≡ Some (open_list drone n) → same_stream drone from ≡ true → LedOn drone c (Hears from (Tells m)) (value_comes c (open_list drone n) m).client
led_value drone c n from m listing same =
    let e = Hears from (Tells m) in
    let vs = with_value c.values m.param_index (param_in m) in
    let next = heard_at (open_list drone n) (was_taken c.values m.param_index) in
    elim (m.param_count == 0) as (λ t. nat_eq m.param_count 0 ≡ t → LedOn drone c e (if t then listed c (open_list drone n) 0 c.values else if nat_lt m.param_index m.param_count then listed c next m.param_count vs else rests c).client) [
      | true ↦ λ none. led_listed drone c n 0 e c.values (λ k. rw (same, never_below m.param_index m.param_count none) refl)
      | false ↦ λ some.
          elim (nat_lt m.param_index m.param_count) as (λ t. nat_lt m.param_index m.param_count ≡ t → LedOn drone c e (if t then listed c next m.param_count vs else rests c).client) [
            | true ↦ λ below.
                rw (heard_list drone n (was_taken c.values m.param_index)) (led_listed drone c (heard_ticks n (was_taken c.values m.param_index)) m.param_count e vs (λ k. rw (same, below) (value_put c.values m.param_index (param_in m) k)))
            | false ↦ λ past. unled drone c n e listing (λ k. rw (same, past) refl)
          ] refl
    ] refl

led_told : (drone : Stream) (c : ClientState) (n : ℕ) (from : Stream) (m : ParamValue) → c.operation ≡ Some (open_list drone n) → LedOn drone c (Hears from (Tells m)) (told c (Some (open_list drone n)) from m).client
led_told drone c n from m listing =
    let e = Hears from (Tells m) in
    elim (same_stream drone from) as (λ t. same_stream drone from ≡ t → LedOn drone c e (if t then value_comes c (open_list drone n) m else rests c).client) [
      | true ↦ λ same. led_value drone c n from m listing same
      | false ↦ λ other. unled drone c n e listing (λ k. rw other refl)
    ] refl

led_ticked : (drone : Stream) (c : ClientState) (n : ℕ) → LedOn drone c Ticks (operation_ticks c (Some (open_list drone n))).client
led_ticked drone c n =
    let more : ClientStep = record {
      client = record c { operation = Some (open_list drone (n + 1)) };
      answer = Some (request_of drone All_listed c.values);
      end = None;
    } in
    let last : ClientStep = record { client = record c { operation = None }; answer = None; end = Some No_answer } in
    elim (nat_lt (n + 1) idle_limit) as (λ t. LedOn drone c Ticks (if t then more else last).client) [
      | true ↦ inr (n + 1, refl, λ k. refl)
      | false ↦ inl refl
    ]

led : (drone : Stream) (c : ClientState) (n : ℕ) (e : ListEvent) → c.operation ≡ Some (open_list drone n) → LedOn drone c e (after c e)
led drone c n (Hears from (Tells m)) listing =
    subst (λ (d : ClientState). LedOn drone c (Hears from (Tells m)) d) (ap (λ (o : Option Operation). (told c o from m).client) (sym listing)) (led_told drone c n from m listing)
led drone c n (Hears from _) listing = inr (n, listing, λ k. refl)
led drone c n Ticks listing =
    subst (λ (d : ClientState). LedOn drone c Ticks d) (ap (λ (o : Option Operation). (operation_ticks c o).client) (sym listing)) (led_ticked drone c n)

never_open : (o : Option Operation) → o ≡ None → IsTrue (is_some o) → ⊥
never_open None e opened = let wrong : false ≡ true = opened in absurd (cc)
never_open (Some o) e opened = absurd (let wrong : Some o ≡ None = e in cc)

values_led : (drone : Stream) (es : List ListEvent) (c : ClientState) (n : ℕ) → c.operation ≡ Some (open_list drone n) → IsTrue (is_some (after_all c es).operation) → (k : ℕ) → value_at (after_all c es).values k ≡ latest drone k (value_at c.values k) es
values_led drone [] c n listing opened k = refl
values_led drone (e ∷ es) c n listing opened k =
    elim (led drone c n e listing) as (λ w. value_at (after_all (after c e) es).values k ≡ latest drone k (newer drone k (value_at c.values k) e) es) [
      | inl ended ↦ absurd (never_open (after_all (after c e) es).operation (idle_after_all (after c e) es ended) opened)
      | inr w ↦ values_led drone es (after c e) w.0 w.1 opened k ∙ ap (λ (o : Option Param). latest drone k o es) (w.2 k)
    ]

pub every_value : (c : ClientState) (drone : Stream) (es : List ListEvent) → IsTrue (is_some (after_all (lists c drone).client es).operation) → (k : ℕ) → value_at (after_all (lists c drone).client es).values k ≡ latest drone k None es
every_value c drone es opened k = values_led drone es (lists c drone).client 0 refl opened k

-- it is that list as long as one is open
still_listed : (drone : Stream) (es : List ListEvent) (c : ClientState) (n : ℕ) → c.operation ≡ Some (open_list drone n) → ((after_all c es).operation ≡ None) ⊎ ((m : ℕ) × ((after_all c es).operation ≡ Some (open_list drone m)))
still_listed drone [] c n listing = inr (n, listing)
still_listed drone (e ∷ es) c n listing =
    elim (led drone c n e listing) as (λ w. ((after_all (after c e) es).operation ≡ None) ⊎ ((m : ℕ) × ((after_all (after c e) es).operation ≡ Some (open_list drone m)))) [
      | inl ended ↦ inl (idle_after_all (after c e) es ended)
      | inr w ↦ still_listed drone es (after c e) w.0 w.1
    ]

-- ---- the end of a list

-- it ends with the first of these values, which are all known
record EndsWith (c : ClientState) (drone from : Stream) (m : ParamValue) (values : List Param) (r : ClientStep) : Type 0 where
  vs : List (Option Param)
  is : values ≡ take m.param_count (known_values vs)
  within : m.param_count ≤ length (known_values vs)
  left : r.client.values ≡ take m.param_count vs
  new : (k : ℕ) → k < m.param_count → value_at vs k ≡ newer drone k (value_at c.values k) (Hears from (Tells m))

all_of : (xs ys : List Param) → Some (All_values xs) ≡ Some (All_values ys) → ys ≡ xs
all_of xs ys e = cc

list_ends : (c : ClientState) (o : Operation) (drone from : Stream) (m : ParamValue) (n : ℕ) (vs : List (Option Param)) (values : List Param) → n ≡ m.param_count
    → ((k : ℕ) → k < m.param_count → value_at vs k ≡ newer drone k (value_at c.values k) (Hears from (Tells m)))
    → (listed c o n vs).end ≡ Some (All_values values) → EndsWith c drone from m values (listed c o n vs)
list_ends c o drone from m n vs values count new =
    elim (nat_le n (length (known_values vs))) as (λ t. nat_le n (length (known_values vs)) ≡ t → (if t then record {
      client = record c { values = take n vs; operation = None };
      answer = None;
      end = Some (All_values (take n (known_values vs)));
    } else rests (record c { values = vs; operation = Some o })).end ≡ Some (All_values values) → EndsWith c drone from m values (if t then record {
      client = record c { values = take n vs; operation = None };
      answer = None;
      end = Some (All_values (take n (known_values vs)));
    } else rests (record c { values = vs; operation = Some o }))) [
      | true ↦ λ known ended.
          let within : n ≤ length (known_values vs) = grind (arith, nat_tests) in
          record {
            vs = vs;
            is = all_of (take n (known_values vs)) values ended ∙ ap (λ k. take k (known_values vs)) count;
            within = omega (arith, within, count);
            left = ap (λ k. take k vs) count;
            new = new;
          }
      | false ↦ λ known ended. absurd (let wrong : None ≡ Some (All_values values) = ended in cc)
    ] refl

one_never_ends : (c : ClientState) (id : List ℕ) (m : ParamValue) (values : List Param) → (one_comes c id m).end ≡ Some (All_values values) → ⊥
one_never_ends c id m values =
    elim (same_id m.param_id id) as (λ t. (if t then record { client = record c { operation = None }; answer = None; end = Some (One_value (param_in m)) } else rests c).end ≡ Some (All_values values) → ⊥) [
      | true ↦ λ ended. let wrong : Some (One_value (param_in m)) ≡ Some (All_values values) = ended in absurd (cc)
      | false ↦ λ ended. let wrong : None ≡ Some (All_values values) = ended in absurd (cc)
    ]

zero_count : (n : ℕ) → nat_eq n 0 ≡ true → 0 ≡ n
zero_count n e = grind (arith, nat_tests)

value_ends : (c : ClientState) (o : Operation) (drone from : Stream) (m : ParamValue) (values : List Param) → same_stream drone from ≡ true → (value_comes c o m).end ≡ Some (All_values values) → EndsWith c drone from m values (value_comes c o m)
value_ends c o drone from m values same =
    let vs = with_value c.values m.param_index (param_in m) in
    let next = heard_at o (was_taken c.values m.param_index) in
    elim (m.param_count == 0) as (λ t. nat_eq m.param_count 0 ≡ t → (if t then listed c o 0 c.values else if nat_lt m.param_index m.param_count then listed c next m.param_count vs else rests c).end ≡ Some (All_values values)
    → EndsWith c drone from m values (if t then listed c o 0 c.values else if nat_lt m.param_index m.param_count then listed c next m.param_count vs else rests c)) [
      | true ↦ λ none.
          let count : 0 ≡ m.param_count = zero_count m.param_count none in
          list_ends c o drone from m 0 c.values values count (λ k below. absurd (omega (arith, count, below)))
      | false ↦ λ some.
          elim (nat_lt m.param_index m.param_count) as (λ t. nat_lt m.param_index m.param_count ≡ t → (if t then listed c next m.param_count vs else rests c).end ≡ Some (All_values values)
          → EndsWith c drone from m values (if t then listed c next m.param_count vs else rests c)) [
            | true ↦ λ below. list_ends c next drone from m m.param_count vs values refl (λ k inside. rw (same, below) (value_put c.values m.param_index (param_in m) k))
            | false ↦ λ past ended. absurd (let wrong : None ≡ Some (All_values values) = ended in cc)
          ] refl
    ] refl

answer_ends : (c : ClientState) (o : Operation) (task : Task) (from : Stream) (m : ParamValue) (values : List Param) → same_stream o.drone from ≡ true → (answered c o task m).end ≡ Some (All_values values) → EndsWith c o.drone from m values (answered c o task m)
answer_ends c o (Reads id) from m values same ended = absurd (one_never_ends c id m values ended)
answer_ends c o (Sets_to p) from m values same ended = absurd (one_never_ends c p.id m values ended)
answer_ends c o All_listed from m values same ended = value_ends c o o.drone from m values same ended

told_ends : (c : ClientState) (o : Operation) (from : Stream) (m : ParamValue) (values : List Param) → (told c (Some o) from m).end ≡ Some (All_values values) → EndsWith c o.drone from m values (told c (Some o) from m)
told_ends c o from m values =
    elim (same_stream o.drone from) as (λ t. same_stream o.drone from ≡ t → (if t then answered c o o.task m else rests c).end ≡ Some (All_values values) → EndsWith c o.drone from m values (if t then answered c o o.task m else rests c)) [
      | true ↦ λ same. answer_ends c o o.task from m values same
      | false ↦ λ other ended. absurd (let wrong : None ≡ Some (All_values values) = ended in cc)
    ] refl

-- what the client knows then
told_known : (c : ClientState) (o : Option Operation) (from : Stream) (m : ParamValue) (values : List Param) → (told c o from m).end ≡ Some (All_values values) → known_values (told c o from m).client.values ≡ values
told_known c None from m values ended = absurd (let wrong : None ≡ Some (All_values values) = ended in cc)
told_known c (Some o) from m values ended =
    let w = told_ends c o from m values ended in
    ap known_values w.left ∙ (known_front w.vs m.param_count w.within ∙ sym w.is)

pub every_end : (c : ClientState) (from : Stream) (m : Message) (values : List Param) → (client_step c from m).end ≡ Some (All_values values) → known_values (client_step c from m).client.values ≡ values
every_end c from (Tells m) values ended = told_known c c.operation from m values ended
every_end c from _ values ended = absurd (let wrong : None ≡ Some (All_values values) = ended in cc)

-- and how many they are
told_count : (c : ClientState) (o : Option Operation) (from : Stream) (m : ParamValue) (values : List Param) → (told c o from m).end ≡ Some (All_values values) → length values ≡ m.param_count
told_count c None from m values ended = absurd (let wrong : None ≡ Some (All_values values) = ended in cc)
told_count c (Some o) from m values ended =
    let w = told_ends c o from m values ended in
    ap length w.is ∙ (let within = w.within in omega (arith, length-take m.param_count (known_values w.vs)))

pub every_count : (c : ClientState) (from : Stream) (m : ParamValue) (values : List Param) → (client_step c from (Tells m)).end ≡ Some (All_values values) → length values ≡ m.param_count
every_count c from m values ended = told_count c c.operation from m values ended

-- each is the last one taken
whole_listed : (c : ClientState) (drone : Stream) (n : ℕ) (es : List ListEvent) (from : Stream) (m : ParamValue) (values : List Param) → c.operation ≡ Some (open_list drone n) → ((k : ℕ) → value_at c.values k ≡ latest drone k None es)
    → (told c (Some (open_list drone n)) from m).end ≡ Some (All_values values) → (k : ℕ) → k < length values → slice_get values k ≡ latest drone k None (es ++ Hears from (Tells m) ∷ [])
whole_listed c drone n es from m values listing led_so ended k inside =
    let w = told_ends c (open_list drone n) from m values ended in
    let e = Hears from (Tells m) in
    let count : length values ≡ m.param_count = told_count c (Some (open_list drone n)) from m values ended in
    ap (λ (l : List Param). slice_get l k) w.is
    ∙ (value_known w.vs m.param_count k w.within (omega (arith, count, inside))
    ∙ (w.new k (omega (arith, count, inside)) ∙ (ap (λ (o : Option Param). newer drone k o e) (led_so k) ∙ sym (latest_more drone k None es e))))

pub every_whole : (c : ClientState) (drone : Stream) (es : List ListEvent) (from : Stream) (m : Message) (values : List Param) → (client_step (after_all (lists c drone).client es) from m).end ≡ Some (All_values values)
    → (k : ℕ) → k < length values → slice_get values k ≡ latest drone k None (es ++ Hears from m ∷ [])
every_whole c drone es from (Tells m) values ended k inside =
    let d = after_all (lists c drone).client es in
    elim (still_listed drone es (lists c drone).client 0 refl) as (λ w. slice_get values k ≡ latest drone k None (es ++ Hears from (Tells m) ∷ [])) [
      | inl idle ↦ absurd (let wrong : None ≡ Some (All_values values) = sym (ap (λ (o : Option Operation). (told d o from m).end) idle) ∙ ended in cc)
      | inr w ↦
          let opened : IsTrue (is_some d.operation) = ap (λ (o : Option Operation). is_some o) w.1 in
          let here : (told d (Some (open_list drone w.0)) from m).end ≡ Some (All_values values) = ap (λ (o : Option Operation). (told d o from m).end) (sym w.1) ∙ ended in
          whole_listed d drone w.0 es from m values w.1 (every_value c drone es opened) here k inside
    ]
every_whole c drone es from _ values ended k inside = absurd (let wrong : None ≡ Some (All_values values) = ended in cc)
