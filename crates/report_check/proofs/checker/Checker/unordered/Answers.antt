use Rattle.std.proofs.Common.{◌≡◌, ◌∙◌, Some, None, ap, arith}
use Rattle.report_check.specs.Broken.{bank_unordered}
use Rattle.report_check.specs.Lists.{first_from}
use Rattle.report_check.proofs.Firsts.{first_from-hit, first_from-miss, first_from-start}
use Rattle.report_check.proofs.checker.Checker.unordered.Goals as goal

pub loop-bank-init : goal.loop-bank-init
loop-bank-init g c s shows = first_from-start (bank_unordered s) c.args.self.now.tiles ∙ ap (λ n. first_from (bank_unordered s) 0 n) shows.tiles

pub returns-in-Some : goal.returns-in-Some
returns-in-Some g c s shows =
    let hit : bank_unordered s c.loop-bank.bank ≡ Some c.in-Some.rule = cc (c.bank_unordered.ensures s shows) in
    first_from-hit (bank_unordered s) c.loop-bank.bank c.args.self.now.tiles _ _ (omega arith) hit (c.loop-bank.invariant s shows)

pub loop-bank-preserved : goal.loop-bank-preserved
loop-bank-preserved g c s shows =
    let miss : bank_unordered s c.loop-bank.bank ≡ None = cc (c.bank_unordered.ensures s shows) in
    first_from-miss (bank_unordered s) c.loop-bank.bank c.args.self.now.tiles _ (omega arith) miss (c.loop-bank.invariant s shows)
