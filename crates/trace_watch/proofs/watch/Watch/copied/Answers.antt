use Rattle.std.proofs.Common.{rules}
use Rattle.trace_watch.proofs.Copies.{same_follow}
use Rattle.trace_watch.proofs.watch.Watch.copied.Goals as goal

pub returns-clause-follows : goal.returns-clause-follows
returns-clause-follows g c =
    same_follow c.args.self.now
    (record { words = c.in_ok-words_copied.field-0; pending = c.in_ok-from_slice.field-0; last = c.args.self.now.last })
    (search rules)
