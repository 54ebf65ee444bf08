use Rattle.std.proofs.Common.{◌≡◌, ◌∙◌, Some, None, ap, arith}
use Rattle.report_check.specs.Lists.{first_from}
use Rattle.report_check.specs.Broken.{place_unanswered}
use Rattle.report_check.proofs.Firsts.{first_from-hit, first_from-miss, first_from-start}
use Rattle.report_check.proofs.checker.Checker.unanswered_at.Goals as goal

pub loop-place-init : goal.loop-place-init
loop-place-init g c s shows =
    first_from-start (place_unanswered s c.args.bank) c.count_at-count.result
    ∙ ap (λ n. first_from (place_unanswered s c.args.bank) 0 n) (c.count_at-count.ensures ∙ shows.entries.sized c.args.bank)

pub returns-in-Some : goal.returns-in-Some
returns-in-Some g c s shows =
    let hit : place_unanswered s c.args.bank c.loop-place.place ≡ Some c.in-Some.rule = cc (c.place_unanswered.ensures s shows) in
    first_from-hit (place_unanswered s c.args.bank) c.loop-place.place c.count_at-count.result _ _ (omega arith) hit (c.loop-place.invariant s shows)

pub loop-place-preserved : goal.loop-place-preserved
loop-place-preserved g c s shows =
    let miss : place_unanswered s c.args.bank c.loop-place.place ≡ None = cc (c.place_unanswered.ensures s shows) in
    first_from-miss (place_unanswered s c.args.bank) c.loop-place.place c.count_at-count.result _ (omega arith) miss (c.loop-place.invariant s shows)
