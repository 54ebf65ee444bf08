use Rattle.trace_answer.specs.Contents.{entries_of_bank}
use Rattle.trace_answer.proofs.Growing.{rows_more}
use Rattle.trace_answer.proofs.contents.entries_of.Goals as goal

pub loop-bank-preserved : goal.loop-bank-preserved
loop-bank-preserved g c =
    rows_more (entries_of_bank c.args.services.now) c.loop-bank.banks.items c.push.new.self.items c.loop-bank.bank c.in_ok-entries_of_bank.field-0
    c.in_ok-entries_of_bank.ensures
    c.in_ok-push.ensures.items c.loop-bank.invariant
