use Rattle.field_layout.proofs.Unique.{one_list}
use Rattle.field_layout.proofs.laws.payload_has_one_meaning.Goals as goal

pub returns : goal.returns
returns c = one_list
