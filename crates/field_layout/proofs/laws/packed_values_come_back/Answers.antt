use Rattle.field_layout.specs.Payload.{serialised, truncated}
use Rattle.field_layout.proofs.Unique.{one_list, truncated_represents}
use Rattle.field_layout.proofs.laws.packed_values_come_back.Goals as goal

pub returns-clause-represents : goal.returns-clause-represents
returns-clause-represents c = truncated_represents

pub returns-clause-alone : goal.returns-clause-alone
returns-clause-alone c = λ def v w fits of_w. one_list def (truncated (serialised def v)) w v of_w (truncated_represents def v fits)
