-- Which events each line of a scenario is in the world of messages, and that its calls are no others.
use Rattle.std.specs.Prelude.{ℕ, ◌≡◌, ◌≤◌, ◌⊎◌, true, List, [], ◌∷◌, length, ◌*◌}
use Rattle.mav_names.specs.declared.names.Name.{Name}
use Rattle.mav_names.specs.declared.names.Stream.{Stream}
use Rattle.plan_upload.specs.Addresses.{node_of}
use Rattle.plan_safety.specs.World.{Event, Begins, Clears, Gets, Cancels, Hands_out, Drone_ticks, Station_ticks}
use Rattle.plan_safety.specs.World.{To_drone, To_station, Speaks, Drone_waits, Station_waits, Restarts}
use Rattle.scenario_lines.specs.declared.lines.Line.{Line}
use Rattle.scenario_lines.specs.declared.lines.Line.TheVariants as line
use Rattle.fleet_world.specs.WorldState.{WorldState, stream_of}

-- events without those that go with each call: a node waits until its next timestamp, a station hands out its outcome
abbrev pub without_waits : List Event → List Event
without_waits [] = []
without_waits (Begins s d kind plan ∷ es) = Begins s d kind plan ∷ without_waits es
without_waits (Clears s d kind ∷ es) = Clears s d kind ∷ without_waits es
without_waits (Gets s d kind ∷ es) = Gets s d kind ∷ without_waits es
without_waits (Cancels s ∷ es) = Cancels s ∷ without_waits es
without_waits (Hands_out s ∷ es) = without_waits es
without_waits (Drone_ticks d ∷ es) = Drone_ticks d ∷ without_waits es
without_waits (Station_ticks s ∷ es) = Station_ticks s ∷ without_waits es
without_waits (To_drone index d keeps ∷ es) = To_drone index d keeps ∷ without_waits es
without_waits (To_station index s ∷ es) = To_station index s ∷ without_waits es
without_waits (Speaks node ∷ es) = Speaks node ∷ without_waits es
without_waits (Drone_waits d t ∷ es) = without_waits es
without_waits (Station_waits s t ∷ es) = without_waits es
without_waits (Restarts d low ∷ es) = Restarts d low ∷ without_waits es

-- one event, or none
abbrev pub AtMostOne : (Event → Type 0) → List Event → Type 0
AtMostOne P es = (es ≡ []) ⊎ ((e : Event) × (es ≡ e ∷ []) × P e)

-- each event
abbrev pub EachEvent : (Event → Type 0) → List Event → Type 0
EachEvent P [] = Unit {0}
EachEvent P (e ∷ es) = P e × EachEvent P es

-- of a node with this name
pub record Of (name : Name) (P : Stream → Event → Type 0) (e : Event) : Type 0 where
  pub stream : Stream
  pub name_is : node_of stream ≡ name
  pub is : P stream e

-- a sent frame comes to the node that signs this stream; a drone keeps what it installs
abbrev pub Gives : Stream → Event → Type 0
Gives me e = (index : ℕ) × ((e ≡ To_drone index me true) ⊎ (e ≡ To_station index me))

-- the node that signs this stream sends a message of another service
abbrev pub Talks : Stream → Event → Type 0
Talks me e = e ≡ Speaks me

-- a sent frame comes to it, or it sends a message of another service in reply
abbrev pub Hears : Stream → Event → Type 0
Hears me e = Gives me e ⊎ Talks me e

-- a sent frame comes to a node of this name, once; or, if the frame isn't of the mission protocol, the node sends
-- messages of other services in reply
abbrev pub HearsOne : Name → List Event → Type 0
HearsOne name es = AtMostOne (Of name Gives) es ⊎ EachEvent (Of name Talks) es

-- a drone of this name ticks; or a station ticks, and then sends at most so many messages of other services
pub record TicksOnce (most : ℕ) (name : Name) (es : List Event) : Type 0 where
  pub stream : Stream
  pub name_is : node_of stream ≡ name
  pub later : List Event
  pub is : (es ≡ Drone_ticks stream ∷ []) ⊎ (es ≡ Station_ticks stream ∷ later)
  pub talks : EachEvent (Talks stream) later
  pub few : length later ≤ most

-- a tick, or nothing if no node has this name
abbrev pub TicksAtMost : ℕ → Name → List Event → Type 0
TicksAtMost most name es = (es ≡ []) ⊎ TicksOnce most name es

-- a drone of this name starts again, and the new node sends HEARTBEAT
pub record StartsAgain (name : Name) (es : List Event) : Type 0 where
  pub stream : Stream
  pub name_is : node_of stream ≡ name
  pub low : ℕ
  pub later : List Event
  pub is : es ≡ Restarts stream low ∷ later
  pub beats : AtMostOne (λ e. (me : Stream) × (e ≡ Speaks me)) later

-- in so many ticks of its simulator a drone of this name sends at most two messages of other services each
pub record Flies (name : Name) (ticks : ℕ) (es : List Event) : Type 0 where
  pub talks : EachEvent (Of name Talks) es
  pub few : length es ≤ 2 * ticks

-- the events of a line in a state
abbrev pub Causes : WorldState → Line → List Event → Type 0
-- an order: that one, once, and for an upload of the draft
Causes s (line.Begin station drone kind) es =
    AtMostOne (Of station (λ me e. e ≡ Begins me (stream_of drone) kind s.draft)) es
Causes s (line.Cancel station) es = AtMostOne (Of station (λ me e. e ≡ Cancels me)) es
Causes s (line.Clear station drone kind) es = AtMostOne (Of station (λ me e. e ≡ Clears me (stream_of drone) kind)) es
Causes s (line.Get station drone kind) es = AtMostOne (Of station (λ me e. e ≡ Gets me (stream_of drone) kind)) es
-- an order to its services: one message of theirs
Causes s (line.Command station drone number word) es = AtMostOne (Of station Talks) es
Causes s (line.Params station drone) es = AtMostOne (Of station Talks) es
-- one tick, at which each service of a station sends one message at most, and one HEARTBEAT
Causes s (line.Tick node) es = TicksAtMost 3 node es
Causes s (line.Heartbeat node) es = AtMostOne (Of node Talks) es
-- sent frames come to the node, and in a flow to any nodes, and their services reply
Causes s (line.Deliver number node) es = EachEvent (Of node Hears) es
Causes s (line.Noise node bytes) es = EachEvent (Of node Hears) es
Causes s (line.Flow k) es = EachEvent (λ e. (me : Stream) × Hears me e) es
-- the drone starts again, once, and sends one HEARTBEAT
Causes s (line.Restart drone) es = (es ≡ []) ⊎ StartsAgain drone es
-- where the drone is and what it has reached
Causes s (line.Sim drone n) es = Flies drone n es
-- nothing
Causes s (line.WhereIs drone) es = es ≡ []
Causes s line.Blank es = es ≡ []
Causes s (line.Drone sys x y) es = es ≡ []
Causes s (line.Station sys comp) es = es ≡ []
Causes s (line.Item item) es = es ≡ []
Causes s (line.Items n first) es = es ≡ []
Causes s line.Empty es = es ≡ []
Causes s (line.Clock n) es = es ≡ []
