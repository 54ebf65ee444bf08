use Rattle.trace_text.proofs.issue_numbers.IssueNumbers.add.Goals as goal

pub returns-clause-value : goal.returns-clause-value
returns-clause-value g c = rw (← c.self.view_is) c.push_number.ensures.value
