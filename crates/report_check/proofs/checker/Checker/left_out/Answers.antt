use Rattle.std.proofs.Common.{◌≡◌, Some, None, arith}
use Rattle.report_check.specs.Broken.{word_left}
use Rattle.report_check.proofs.Firsts.{first_from-hit, first_from-miss}
use Rattle.report_check.proofs.checker.Checker.left_out.Goals as goal

pub returns-in-Some : goal.returns-in-Some
returns-in-Some g c =
    let hit : word_left c.args.self.now.memory.items c.loop-address.address ≡ Some c.in-Some.rule = cc in
    first_from-hit (word_left c.args.self.now.memory.items) c.loop-address.address c.args.end _ _ (omega arith) hit c.loop-address.invariant

pub loop-address-preserved : goal.loop-address-preserved
loop-address-preserved g c =
    let miss : word_left c.args.self.now.memory.items c.loop-address.address ≡ None = cc in
    first_from-miss (word_left c.args.self.now.memory.items) c.loop-address.address c.args.end _ (omega arith) miss c.loop-address.invariant
