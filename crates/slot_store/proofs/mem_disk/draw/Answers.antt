use Rattle.std.proofs.Common.{◌≡◌, ◌++◌, ◌∷◌, [], ◌<◌, ◌%◌, List, ℕ, length, get_or, if◌then◌else◌, sym, ap, ◌∙◌, arith}
use Rattle.slot_store.specs.MemDisks.{drawn, drawn_byte, is_covered, next_state}
use Rattle.slot_store.specs.declared.unsynced.Range.{Range}
use Rattle.std.proofs.lemmas.List.{get_or_read}
use Rattle.slot_store.proofs.Draws.{drawn_step, all_drawn}
use Rattle.slot_store.proofs.mem_disk.draw.Goals as goal

pub loop-offset-preserved : goal.loop-offset-preserved
loop-offset-preserved c =
    let bytes = c.args.bytes.now.items in let i = c.loop-offset.offset in let state = c.loop-offset.state in
    let more : i < length bytes = omega (arith, c.args.bytes.now.ok.0) in
    let image : c.draw_one.new.image.items ≡ c.loop-offset.image.items ++ (if c.is_covered-is_drawn.result then drawn_byte (next_state state) else get_or bytes i 0) ∷ [] =
    c.in_ok-state.ensures.image ∙ ap (λ (b : ℕ). c.loop-offset.image.items ++ (if c.is_covered-is_drawn.result then drawn_byte (next_state state) else b) ∷ []) (get_or_read bytes i _ more c.index.ensures 0) in (
      drawn_step _ c.loop-offset.image.items c.draw_one.new.image.items state c.in_ok-state.state c.is_covered-is_drawn.result c.args.ranges.now.items i bytes more
          (c.is_covered-is_drawn.ensures ∙ ap (λ (rs : List Range). is_covered rs i) c.deref.ensures.value) c.loop-offset.invariant.0 image c.in_ok-state.ensures.state,
      c.in_ok-state.ensures.small,
    )

pub returns : goal.returns
returns c =
    all_drawn _ c.loop-offset.image.items c.loop-offset.state c.args.ranges.now.items c.loop-offset.offset c.args.bytes.now.items (omega (arith, c.args.bytes.now.ok.0)) c.loop-offset.invariant.0

pub loop-offset-init : goal.loop-offset-init
loop-offset-init c =
    (sym (ap (λ (l : List ℕ). l ++ drawn (c.args.pick % 2147483648) c.args.ranges.now.items 0 c.args.bytes.now.items) c.new-image.ensures.items), omega arith)
