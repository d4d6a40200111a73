use Rattle.std.proofs.Common.{◌≡◌, ℕ, ◌<◌, ◌≤◌, Bool, true, false, not, nat_lt, if◌then◌else◌, List, sym, ap, ◌∙◌, subst, arith}
use Rattle.std.specs.Prelude.{IfOk}
use Rattle.std.proofs.lemmas.Bool.Decides.{nat_tests}
use Rattle.mav_names.specs.declared.names.Stream.{Stream}
use Rattle.mav_ftp.specs.Payload.{most_data, invalid_data_size, unknown_command}
use Rattle.mav_ftp.specs.declared.payload.FtpFields.{FtpFields}
use Rattle.mav_ftp.specs.Steps.{Storage, Served, refuses, serves, is_known, storage_step}
use Rattle.mav_ftp.proofs.storage.Storage.step.Goals as goal

abbrev tests : Storage → Stream → FtpFields → List ℕ → Bool → Bool → Served
tests st from r bytes known long = if not known then refuses st r unknown_command else if long then refuses st r invalid_data_size else serves st from r bytes

above : (n m : ℕ) → n < m → nat_lt n m ≡ true
above n m h = grind (arith, nat_tests)

below : (n m : ℕ) → m ≤ n → nat_lt n m ≡ false
below n m h = grind (arith, nat_tests)

unknown : (st : Storage) (from : Stream) (r : FtpFields) (bytes : List ℕ) (a : Bool) → a ≡ is_known r.opcode → a ≡ false → refuses st r unknown_command ≡ storage_step st from r bytes
unknown st from r bytes a is no_opcode = sym (ap (λ (b : Bool). tests st from r bytes b (nat_lt most_data r.size)) (sym is ∙ no_opcode))

long : (st : Storage) (from : Stream) (r : FtpFields) (bytes : List ℕ) (a : Bool) → a ≡ is_known r.opcode → a ≡ true → most_data < r.size → refuses st r invalid_data_size ≡ storage_step st from r bytes
long st from r bytes a is known more = let first = sym is ∙ known in let second = above most_data r.size more in sym (λ k. tests st from r bytes (first k) (second k))

served : (st : Storage) (from : Stream) (r : FtpFields) (bytes : List ℕ) (a : Bool) → a ≡ is_known r.opcode → a ≡ true → r.size ≤ most_data → serves st from r bytes ≡ storage_step st from r bytes
served st from r bytes a is known few = let first = sym is ∙ known in let second = below most_data r.size few in sym (λ k. tests st from r bytes (first k) (second k))

pub returns-then-not-is_known-clause-storage : goal.returns-then-not-is_known-clause-storage
returns-then-not-is_known-clause-storage c = ap (λ (t : Served). t.storage) (unknown c.args.self.now c.args.from c.args.request.now c.args.bytes.now c.is_known.result c.is_known.ensures c.if-not-is_known.true)

pub returns-then-not-is_known-clause-reply : goal.returns-then-not-is_known-clause-reply
returns-then-not-is_known-clause-reply c = c.nak.ensures ∙ ap (λ (t : Served). t.reply) (unknown c.args.self.now c.args.from c.args.request.now c.args.bytes.now c.is_known.result c.is_known.ensures c.if-not-is_known.true)

pub returns-then-from-gt-MAX_DATA_BYTES-clause-storage : goal.returns-then-from-gt-MAX_DATA_BYTES-clause-storage
returns-then-from-gt-MAX_DATA_BYTES-clause-storage c = ap (λ (t : Served). t.storage) (long c.args.self.now c.args.from c.args.request.now c.args.bytes.now c.is_known.result c.is_known.ensures c.if-not-is_known.false (omega (arith, c.from.ensures, c.if-from-gt-MAX_DATA_BYTES.true)))

pub returns-then-from-gt-MAX_DATA_BYTES-clause-reply : goal.returns-then-from-gt-MAX_DATA_BYTES-clause-reply
returns-then-from-gt-MAX_DATA_BYTES-clause-reply c = c.nak-then-from-gt-MAX_DATA_BYTES.ensures ∙ ap (λ (t : Served). t.reply) (long c.args.self.now c.args.from c.args.request.now c.args.bytes.now c.is_known.result c.is_known.ensures c.if-not-is_known.false (omega (arith, c.from.ensures, c.if-from-gt-MAX_DATA_BYTES.true)))

pub returns-clause-reply : goal.returns-clause-reply
returns-clause-reply c = subst (λ (t : Served). IfOk c.serve.result (λ r. r ≡ t.reply)) (served c.args.self.now c.args.from c.args.request.now c.args.bytes.now c.is_known.result c.is_known.ensures c.if-not-is_known.false (omega (arith, c.from.ensures, c.if-from-gt-MAX_DATA_BYTES.false))) c.serve.ensures.reply

pub returns-clause-err : goal.returns-clause-err
returns-clause-err c = c.serve.ensures.err
