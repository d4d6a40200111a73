use Rattle.std.proofs.Common.{refl}
use Rattle.decode_command.proofs.Loads.{same_load, none_told}
use Rattle.decode_command.proofs.running.tell_span.Goals as goal

pub returns-in-Need : goal.returns-in-Need
returns-in-Need g c =
    rw c.in-Need.is (record {
      same = refl;
      load = same_load _ _ refl;
      told = λ ended taken told h. none_told (g.T.Teller.has_told c.args.teller.now ended taken) c.args.text.now.items told h;
      fewer = tt;
    })
