use Rattle.fleet_world.proofs.CutBytes.{sender_found}
use Rattle.fleet_world.proofs.sent.SentFrames.sender.Goals as goal

pub returns-in-Some : goal.returns-in-Some
returns-in-Some c = sender_found _ _ _ _ _ _ c.self.view_is c.deref.ensures.value c.in-Some.ensures

pub returns-in-None : goal.returns-in-None
returns-in-None c = sender_found _ _ _ _ _ _ c.self.view_is c.deref.ensures.value c.in-None.ensures
