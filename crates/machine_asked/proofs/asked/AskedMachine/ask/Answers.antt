-- Where the index is known, it is that of the line.
use Rattle.std.proofs.Common.{sym, ◌∙◌}
use Rattle.machine_asked.proofs.Standing.{if_known, index_numbered}
use Rattle.machine_asked.proofs.asked.AskedMachine.ask.Goals as goal

pub returns-clause-numbered : goal.returns-clause-numbered
returns-clause-numbered g c = if_known c.index_asked-index.result _ (λ index known. λ l steps after spins.
    index_numbered c.args.self.now c.args.processor c.args.line l steps c.brings_words.ensures c.in_ok-append.ensures.taken.0 after spins index
    (sym c.index_asked-index.ensures ∙ known))
