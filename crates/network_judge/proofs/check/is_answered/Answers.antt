use Rattle.std.proofs.Common.{◌∙◌, ap, arith}
use Rattle.network_judge.specs.Marks.{is_marked_at}
use Rattle.network_judge.proofs.check.is_answered.Goals as goal

pub returns-clause-no : goal.returns-clause-no
returns-clause-no c = λ no y r marked. (let low = r.here in
    let end = c.loop-place-test.false in
    c.loop-place.invariant r.place (omega arith) r.from (ap (is_marked_at c.args.marks.now) r.to ∙ marked))
