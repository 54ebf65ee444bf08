use Rattle.trace_judge.proofs.Zoning.{shown_conflict}
use Rattle.trace_judge.proofs.zoned.seen_by_zones.Goals as goal

pub returns-in-Conflict : goal.returns-in-Conflict
returns-in-Conflict g c = (
  λ yes. shown_conflict c.args.opening.now c.args.events.now c.in_ok-seen.seen c.in-Conflict._word c.in-Conflict._why
      c.requires c.in-Conflict.is c.in_ok-seen.ensures,
  tt,
)
