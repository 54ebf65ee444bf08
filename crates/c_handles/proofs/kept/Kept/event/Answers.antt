-- What the watch answers holds of what the handle shows, which is the watch.
use Rattle.c_handles.proofs.kept.Kept.event.Goals as goal

pub returns-clause-few : goal.returns-clause-few
returns-clause-few g c = rw (← c.self.view_is) c.event.ensures.few
