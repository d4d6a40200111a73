use Rattle.std.proofs.Common.{◌≡◌, ◌-◌, length, false, arith, sym}
use Rattle.param_proto.proofs.ValueLists.{padded, seen_length, seen_padded, marks_padded, length_padded}
use Rattle.param_proto.proofs.values.Values.pad.Goals as goal

pub invariant_of-self : goal.invariant_of-self
invariant_of-self c =
    let s = c.self.inside in
    let vs = c.args.self.now in
    let n = c.args.index in
    let len : length vs ≡ length s.params.items = seen_length s.taken.items s.params.items vs c.self.invariant.0 c.self.view_is in
    let marks = padded c.resize-2.result c.unwrap-2.result s.taken.items c.resize-2.new.self.items n s.taken.len (length vs) false c.unwrap-2.ensures s.taken.ok.0 (omega (arith, c.self.invariant.0, len)) c.requires.past c.resize-2.ensures.items in
    let params = padded c.resize.result c.unwrap.result s.params.items c.resize.new.self.items n s.params.len (length vs) _ c.unwrap.ensures s.params.ok.0 (sym len) c.requires.past c.resize.ensures.items in (
      length_padded s.taken.items c.resize-2.new.self.items s.params.items c.resize.new.self.items (n - length vs) false _ c.self.invariant.0 marks params,
      marks_padded s.taken.items c.resize-2.new.self.items s.known (n - length vs) c.self.invariant.1 marks,
      omega (arith, c.resize.ensures.capacity, c.self.invariant.2),
      omega (arith, c.resize-2.ensures.capacity, c.self.invariant.3),
    )

pub returns : goal.returns
returns c =
    let s = c.self.inside in
    let vs = c.args.self.now in
    let n = c.args.index in
    let len : length vs ≡ length s.params.items = seen_length s.taken.items s.params.items vs c.self.invariant.0 c.self.view_is in
    let marks = padded c.resize-2.result c.unwrap-2.result s.taken.items c.resize-2.new.self.items n s.taken.len (length vs) false c.unwrap-2.ensures s.taken.ok.0 (omega (arith, c.self.invariant.0, len)) c.requires.past c.resize-2.ensures.items in
    let params = padded c.resize.result c.unwrap.result s.params.items c.resize.new.self.items n s.params.len (length vs) _ c.unwrap.ensures s.params.ok.0 (sym len) c.requires.past c.resize.ensures.items in
    seen_padded s.taken.items c.resize-2.new.self.items s.params.items c.resize.new.self.items vs (n - length vs) _ c.self.invariant.0 c.self.view_is marks params
