-- Each execution of the world is one of the abstract mission store.
use Rattle.std.specs.Prelude.{ℕ, ◌≡◌, ◌<◌, List, [], ◌∷◌}
use Rattle.mav_names.specs.declared.names.Stream.{Stream}
use Rattle.plan_upload.specs.Plans.{plan_at}
use Rattle.plan_safety.specs.Store.{Store, Meets, follows}
use Rattle.plan_safety.specs.World.{Nodes, World, Event, happens}

-- each drone's plan of each of the three kinds is the store's
abbrev pub SamePlans : World → Store → Type 0
SamePlans w m = (drone : Stream) (kind : ℕ) → kind < 3 → plan_at (w.drone drone).state.plans kind ≡ m.plan drone kind

-- after each event the plans are the store's again, and the event met what the store needs
abbrev pub IsExecution : Nodes → World → Store → List Event → Type 0
IsExecution n w m [] = Unit {0}
IsExecution n w m (e ∷ es) =
    let v = happens n w e in
    let next = follows m v.news in
    Meets v.sent m v.news × SamePlans v next × IsExecution n v next es
