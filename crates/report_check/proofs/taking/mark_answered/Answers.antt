use Rattle.std.proofs.Common.{refl}
use Rattle.report_check.proofs.Banks.{bank_marked, bank_of_set_other}
use Rattle.report_check.proofs.taking.mark_answered.Goals as goal

pub returns-then-place-len-clause-here : goal.returns-then-place-len-clause-here
returns-then-place-len-clause-here g c inside =
    bank_marked c.args.banks.now.items c.args.bank c.args.place c.index_mut.result.now _ c.index_mut-then-place-len.result.now inside c.index_mut.ensures.value
    c.index_mut-then-place-len.ensures.value refl

pub returns-then-place-len-clause-others : goal.returns-then-place-len-clause-others
returns-then-place-len-clause-others g c other apart = bank_of_set_other c.args.banks.now.items c.args.bank other _ apart
