use Rattle.model_values.proofs.Ordered.{ordered}
use Rattle.model_values.proofs.Replies.{replies}
use Rattle.model_values.proofs.laws.replies_follow.Goals as goal

pub returns-clause-follow : goal.returns-clause-follow
returns-clause-follow c rules v placed writes i turn order = replies rules v placed writes turn i order

pub returns-clause-explain : goal.returns-clause-explain
returns-clause-explain c rules v groups turn order = ordered rules v turn groups order

pub returns-clause-none : goal.returns-clause-none
returns-clause-none c rules v groups breaks turn order =
    let e = ordered rules v turn groups order in breaks e.0 e.1 turn e.2 e.3
