use Rattle.trace_why.proofs.why.may_tell.Goals as goal

pub returns-in-Ok-clause-yes : goal.returns-in-Ok-clause-yes
returns-in-Ok-clause-yes g c = c.in-Ok.ensures.yes

pub returns-in-Ok-clause-no : goal.returns-in-Ok-clause-no
returns-in-Ok-clause-no g c = c.in-Ok.ensures.no

pub returns-in-Err-clause-untold : goal.returns-in-Err-clause-untold
returns-in-Err-clause-untold g c = λ tries. record {
  id = c.args.id;
  reply = c.requires.0;
  answer = c.requires.1;
  value = c.args.value;
  unfound = c.in-Err.ensures.unfound;
}
