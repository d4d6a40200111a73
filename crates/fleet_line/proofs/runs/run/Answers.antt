use Rattle.fleet_line.proofs.Told.{promises}
use Rattle.fleet_line.proofs.runs.run.Goals as goal

pub returns : goal.returns
returns g c =
    let ended = c.run_words-ended in
    rw c.code_of.ensures
    (record {
      promises = promises _ _ _ _ _ _ _ _ ended.result c.write_status.result ended.ensures.sound c.write_status.ensures.writes (λ spent. spent.1) (λ spent. spent.1) _ ended.ensures.fleet ended.ensures.unread_key ended.ensures.usage
          ended.ensures.usage_only ended.ensures.untouched ended.ensures.unsent;
    })
