use Rattle.std.proofs.Common.{refl}
use Rattle.std.specs.Prelude.{codes}
use Rattle.coll_diagnosis.proofs.text_form.headline.Goals as goal

pub returns-in-Never-default : goal.returns-in-Never-default
returns-in-Never-default c = rw c.in-Never-default.is-0 (codes ", in any run, with any MPI library (proved)", refl)

pub returns-in-NeverHere-Some-Best : goal.returns-in-NeverHere-Some-Best
returns-in-NeverHere-Some-Best c =
    rw c.in-NeverHere-Some-Best.is-0 (codes " (proved), but with a library whose collectives wait for all their members the job stalls", refl)

pub returns-in-NeverHere-default : goal.returns-in-NeverHere-default
returns-in-NeverHere-default c =
    rw c.in-NeverHere-default.is-0 (codes " (proved), but with a library whose collectives wait for all their members the job may stall", refl)

pub returns-in-Perhaps-Some-Last : goal.returns-in-Perhaps-Some-Last
returns-in-Perhaps-Some-Last c =
    rw c.in-Perhaps-Some-Last.is-0
    (codes ", neither proved to end nor proved to stall: it does where a waitany takes a later one of several that are done", refl)

pub returns-in-Perhaps-default : goal.returns-in-Perhaps-default
returns-in-Perhaps-default c =
    rw c.in-Perhaps-default.is-0 (codes ", neither proved to end nor proved to stall: which request a waitany, waitsome or test takes depends on time", refl)

pub returns-in-AlwaysHere-default : goal.returns-in-AlwaysHere-default
returns-in-AlwaysHere-default c = rw c.in-AlwaysHere-default.is-0 (codes " (proved)", refl)

pub returns-in-Always-default : goal.returns-in-Always-default
returns-in-Always-default c = rw c.in-Always-default.is-0 (codes " (proved)", refl)
