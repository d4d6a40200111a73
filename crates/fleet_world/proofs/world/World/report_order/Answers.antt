use Rattle.fleet_world.proofs.Ordering.{followed_done, followed_error, refused_done, refused_error}
use Rattle.fleet_world.proofs.world.World.report_order.Goals as goal

pub returns-in-Ok-clause-done : goal.returns-in-Ok-clause-done
returns-in-Ok-clause-done c = followed_done _ _ _ _ _ _ _ _ _ _ c.in-Ok.is c.as_slice.ensures.value c.report_news.ensures.done

pub returns-in-Ok-clause-error : goal.returns-in-Ok-clause-error
returns-in-Ok-clause-error c = followed_error _ _ _ _ _ _ _ c.in-Ok.is c.as_slice.ensures.value c.report_news.ensures.error

pub returns-in-Err-clause-done : goal.returns-in-Err-clause-done
returns-in-Err-clause-done c = refused_done _ _ _ _ _ _ _ _ _ c.in-Err.is c.refuse.ensures.done

pub returns-in-Err-clause-error : goal.returns-in-Err-clause-error
returns-in-Err-clause-error c = refused_error _ _ _ _ _ _ c.in-Err.is c.refuse.ensures.error
