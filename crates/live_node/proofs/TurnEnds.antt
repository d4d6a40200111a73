-- Turns by what their reads and calls promise.
use Rattle.std.proofs.Common.{◌≡◌, ◌≤◌, ℕ, List, [], ◌++◌, Option, refl, sym, ◌∙◌, subst, arith, length-take}
use Rattle.std.specs.Prelude.{length, take}
use Rattle.std.specs.List.{flat_map}
use Rattle.std.specs.Option.{option_map}
use Rattle.std.proofs.lemmas.List.{append-nil}
use Rattle.std.specs.Io.KnownBytes.{prepend_known}
use Rattle.mav_ports.specs.declared.sources.Got.TheVariants.{Bytes, Idle}
use Rattle.mav_ports.specs.Counts.{next_count}
use Rattle.mav_links.specs.Links.{LinkState, pauses_after}
use Rattle.mav_frame.specs.declared.events.Event.{Event}
use Rattle.mav_sign.specs.Streams.{reader_of}
use Rattle.node_reports.specs.Nodes.{Node}
use Rattle.run_status.specs.declared.run_ends.RunEnd.{RunEnd}
use Rattle.live_node.specs.declared.nodes.LiveNode.{LiveNode}
use Rattle.live_node.specs.declared.run_log.RunLog.{RunLog}
use Rattle.live_node.specs.Nodes.{HasHeard, end_of}
use Rattle.live_node.specs.Calls.{LiveCall, extras_at, AreTimed}
use Rattle.live_node.specs.Turns.{Turn, Reads, Waits, IsPieceLength, turn_bytes, turn_events, calls_of}
use Rattle.live_node.specs.Ports.{SameRead}
use Rattle.live_node.specs.Runs.{Outside, outside, Stores}
use Rattle.live_node.specs.Progress.{Output, Opened, Between, TurnTaken, TurnCut, HeardPiece, PieceStopped, WaitDone, WaitStopped}
use Rattle.live_node.proofs.Readers.{heard_same, extras_same}
use Rattle.live_node.proofs.Runs.{between_start}
use Rattle.live_node.proofs.Turning.{turn_done, turn_stopped, wait_turn, came_piece, came_wait}

piece_length : (size : ℕ) (buf : List ℕ) → size ≤ length buf → length (take size buf) ≡ size
piece_length size buf within = omega (arith, length-take size buf, within)

-- a read gives at least one byte, and at most as many as it asks for
fits : (size : ℕ) (buf : List ℕ) → 1 ≤ size → size ≤ length buf → length buf ≤ 4096 → IsPieceLength (length (take size buf))
fits size buf least within most = record {
  least = omega (arith, piece_length size buf within, least);
  most = omega (arith, piece_length size buf within, within, most);
}

-- a piece was heard
pub piece_done : {S : Type 0} {stores : Stores S} {before old now : S} {start : Node} {opening : List LiveCall} {turns : List Turn} {was live : LiveNode} {t u : RunLog} {first : Outside} {o m n : LinkState} {x y : Option (List ℕ)} {p q : Option ℕ} (size : ℕ) (buf : List ℕ) → Between stores before old start opening turns [] was t first (outside o x p) → 1 ≤ size → size ≤ length buf → length buf ≤ 4096 → o.left ≡ prepend_known (take size buf) m.left → m.idles ≡ o.idles → m.pauses ≡ option_map (pauses_after (Bytes size)) o.pauses → SameRead m n → HeardPiece stores before now (extras_at start) start (calls_of opening turns []) (flat_map turn_bytes turns ++ take size buf) (flat_map turn_events turns) live u first (outside n y q) → TurnTaken stores before now start opening turns live u first (outside n y q)
piece_done {S} {stores} {before} {old} {now} {start} {opening} {turns} {was} {live} {t} {u} {first} {o} {m} {n} {x} {y} {p} {q} size buf b least within most left idles pauses same h =
    let piece = take size buf in
    let turn = Reads piece h.events h.keeps h.clock in
    turn_done stores before old now start opening turns turn was live t u first (outside o x p) (outside n y q) b
    (came_piece piece turn size buf o m n (record { bytes = refl; idles = λ k. refl; pauses = λ v. refl }) refl (piece_length size buf within) left idles pauses same) h.timed (fits size buf least within most) h.grows h.heard h.same h.output

pub piece_cut : {S : Type 0} {stores : Stores S} {before old now : S} {end : RunEnd} {start : Node} {opening : List LiveCall} {turns : List Turn} {was : LiveNode} {t : RunLog} {first : Outside} {o m n : LinkState} {x y : Option (List ℕ)} {p q : Option ℕ} (size : ℕ) (buf : List ℕ) → Between stores before old start opening turns [] was t first (outside o x p) → 1 ≤ size → size ≤ length buf → length buf ≤ 4096 → o.left ≡ prepend_known (take size buf) m.left → m.idles ≡ o.idles → m.pauses ≡ option_map (pauses_after (Bytes size)) o.pauses → SameRead m n → PieceStopped stores before now end (extras_at start) (flat_map turn_bytes turns) (flat_map turn_events turns) (take size buf) start (calls_of opening turns []) first (outside n y q) → TurnCut stores before now end start opening turns first (outside n y q)
piece_cut {S} {stores} {before} {old} {now} {end} {start} {opening} {turns} {was} {t} {first} {o} {m} {n} {x} {y} {p} {q} size buf b least within most left idles pauses same h = record {
  turn = h.turn;
  stopped = turn_stopped stores before old now end start opening turns h.turn was t first (outside o x p) (outside n y q) b
      (came_piece (take size buf) h.turn size buf o m n h.piece_is refl (piece_length size buf within) left idles pauses same) h.timed (h.heard (fits size buf least within most)) h.reads h.stopped;
}

-- the port was idle
pub wait_done : {S : Type 0} {stores : Stores S} {before old now : S} {start : Node} {opening : List LiveCall} {turns : List Turn} {was live : LiveNode} {t u : RunLog} {first : Outside} {o m n : LinkState} {x y : Option (List ℕ)} {p q : Option ℕ} → Between stores before old start opening turns [] was t first (outside o x p) → o.left ≡ prepend_known [] m.left → m.idles ≡ next_count o.idles → m.pauses ≡ option_map (pauses_after Idle) o.pauses → SameRead m n → reader_of (end_of live).endpoint ≡ reader_of (end_of was).endpoint → WaitDone stores before now start (calls_of opening turns []) live u first (outside n y q) → TurnTaken stores before now start opening turns live u first (outside n y q)
wait_done {S} {stores} {before} {old} {now} {start} {opening} {turns} {was} {live} {t} {u} {first} {o} {m} {n} {x} {y} {p} {q} b left idles pauses same reader w =
    let bytes = flat_map turn_bytes turns in
    let events = flat_map turn_events turns in
    let heard = heard_same bytes events was live reader b.input.heard in
    let on = subst (λ (l : List ℕ). HasHeard l (events ++ []) live) (sym (append-nil bytes)) (subst (λ (e : List Event). HasHeard bytes e live) (sym (append-nil events)) heard) in
    turn_done stores before old now start opening turns (Waits w.tick w.beat w.sim) was live t u first (outside o x p) (outside n y q) b (came_wait w.tick w.beat w.sim o m n left idles pauses same) w.timed tt tt on (extras_same was live reader ∙ b.input.same) w.output

pub wait_cut : {S : Type 0} {stores : Stores S} {before old now : S} {end : RunEnd} {start : Node} {opening : List LiveCall} {turns : List Turn} {was : LiveNode} {t : RunLog} {first : Outside} {o m n : LinkState} {x y : Option (List ℕ)} {p q : Option ℕ} → Between stores before old start opening turns [] was t first (outside o x p) → o.left ≡ prepend_known [] m.left → m.idles ≡ next_count o.idles → m.pauses ≡ option_map (pauses_after Idle) o.pauses → SameRead m n → WaitStopped stores before now end start (calls_of opening turns []) first (outside n y q) → TurnCut stores before now end start opening turns first (outside n y q)
wait_cut {S} {stores} {before} {old} {now} {end} {start} {opening} {turns} {was} {t} {first} {o} {m} {n} {x} {y} {p} {q} b left idles pauses same w = record {
  turn = Waits w.tick w.beat w.sim;
  stopped = turn_stopped stores before old now end start opening turns (Waits w.tick w.beat w.sim) was t first (outside o x p) (outside n y q) b (came_wait w.tick w.beat w.sim o m n left idles pauses same) w.timed tt tt
      (wait_turn stores before now end (extras_at start) (flat_map turn_bytes turns) (flat_map turn_events turns) start (calls_of opening turns []) w.tick w.beat w.sim first (outside n y q) w.stopped);
}

-- the opening's calls were made, and the turns begin
pub started : {S : Type 0} {stores : Stores S} {before old now : S} {start : Node} {opening : List LiveCall} {was live : LiveNode} {t u : RunLog} {first : Outside} {n : LinkState} {y : Option (List ℕ)} {q : Option ℕ} → reader_of (end_of live).endpoint ≡ reader_of (end_of was).endpoint → Opened stores before old start was t first → SameRead first.link n → AreTimed first.time opening → Output stores before now start opening live u first (outside n y q) → Between stores before now start opening [] [] live u first (outside n y q)
started {S} {stores} {before} {old} {now} {start} {opening} {was} {live} {t} {u} {first} {n} {y} {q} reader o read timed output =
    between_start stores before now start opening live u first (outside n y q) (heard_same [] [] was live reader o.heard) (extras_same was live reader ∙ o.same) read timed output
