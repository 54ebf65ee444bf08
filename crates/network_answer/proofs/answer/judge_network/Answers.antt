-- The tables that are judged are those of the network.
use Rattle.network_judge.specs.Table.{table_of}
use Rattle.network_text.proofs.Refused.{moved}
use Rattle.network_answer.proofs.answer.judge_network.Goals as goal

pub judge-requires-clause-replies : goal.judge-requires-clause-replies
judge-requires-clause-replies g c =
    moved c.args.network.now.table (table_of c.kinds.result.now c.joins.result.now c.choices.result.now)
    c.args.network.now.replies c.replies.result.now c.kinds.ensures.value c.replies.ensures c.kinds.ensures.replies
