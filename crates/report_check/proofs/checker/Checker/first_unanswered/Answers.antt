use Rattle.std.proofs.Common.{◌≡◌, ◌∙◌, Some, None, ap, sym, arith}
use Rattle.report_check.specs.Broken.{unanswered_at, first_unanswered}
use Rattle.report_check.specs.Lists.{first_from}
use Rattle.report_check.proofs.Firsts.{first_from-hit, first_from-miss, first_from-start}
use Rattle.report_check.proofs.checker.Checker.first_unanswered.Goals as goal

pub loop-bank-init : goal.loop-bank-init
loop-bank-init g c s shows =
    first_from-start (unanswered_at s) c.args.self.now.tiles
    ∙ ap (λ n. first_from (unanswered_at s) 0 n) shows.tiles
    ∙ ap (λ complete. first_unanswered s complete) (sym c.if-not-complete.false)

pub returns-in-Some : goal.returns-in-Some
returns-in-Some g c s shows =
    let hit : unanswered_at s c.loop-bank.bank ≡ Some c.in-Some.rule = cc (c.unanswered_at.ensures s shows) in
    first_from-hit (unanswered_at s) c.loop-bank.bank c.args.self.now.tiles _ _ (omega arith) hit (c.loop-bank.invariant s shows)

pub loop-bank-preserved : goal.loop-bank-preserved
loop-bank-preserved g c s shows =
    let miss : unanswered_at s c.loop-bank.bank ≡ None = cc (c.unanswered_at.ensures s shows) in
    first_from-miss (unanswered_at s) c.loop-bank.bank c.args.self.now.tiles _ (omega arith) miss (c.loop-bank.invariant s shows)
