use Rattle.mav_router.proofs.resting.join_rest.Goals as goal

pub returns-in_default-clause-kept : goal.returns-in_default-clause-kept
returns-in_default-clause-kept g c = λ switch lanes rules first run. run
