use Rattle.std.proofs.Common.{◌<◌, length, arith}
use Rattle.report_check.proofs.Banks.{bank_of_set_other, bank_pushed}
use Rattle.report_check.proofs.taking.push_served.Goals as goal

pub returns-in_ok-push-clause-here : goal.returns-in_ok-push-clause-here
returns-in_ok-push-clause-here g c low =
    let inside : c.args.bank < length c.args.banks.now.items = omega (arith, low, c.args.banks.now.ok) in
    bank_pushed c.args.banks.now.items c.args.bank c.index_mut.result.now c.push.new.self c.args.served inside c.index_mut.ensures.value
    c.in_ok-push.ensures.items

pub returns-in_ok-push-clause-others : goal.returns-in_ok-push-clause-others
returns-in_ok-push-clause-others g c other apart = bank_of_set_other c.args.banks.now.items c.args.bank other c.push.new.self apart
