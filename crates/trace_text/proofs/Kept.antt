-- What each line of a trace text keeps true.
use Rattle.std.proofs.Common.{◌≡◌, ◌==◌, ◌^◌, length, ℕ, List, subst}
use Rattle.std.specs.Prelude.{not, Ok}
use Rattle.trace_text.specs.declared.line.TraceLine.{TraceLine}
use Rattle.trace_text.specs.declared.line.TraceLine.TheVariants.{Nothing, Issue, Answer}
use Rattle.trace_text.specs.Kept.{IsKeptIssue}
use Rattle.trace_text.specs.Lines.{line_given}
use Rattle.trace_text.specs.Traced.{TraceReading, with_given, after_line_words}
use Rattle.trace_text.proofs.KeptAnswers.{answer_of_index_kept}
use Rattle.trace_text.proofs.KeptIssues.{add_issue_kept}
use Rattle.trace_text.proofs.KeptLines.{IsInside, line_fits}
use Rattle.trace_text.proofs.Outcomes.{one_ok, bind_ok}

-- what a line gives keeps it, where it is an event of this memory
pub given_kept : (r next : TraceReading) → IsKeptIssue r → (line : ℕ) (event : TraceLine) → IsInside r.head.words event
    → with_given r line event ≡ Ok next → IsKeptIssue next
given_kept r next k line Nothing inside h = subst IsKeptIssue (one_ok r next h) k
given_kept r next k line (Issue p o) inside h = add_issue_kept r next k line p o inside.0 inside.1 h
given_kept r next k line (Answer p index told) inside h = answer_of_index_kept r next k line p index told h

-- each line keeps it
pub words_kept : (r next : TraceReading) → IsKeptIssue r → (line : ℕ) (words : List (List ℕ)) → after_line_words r line words ≡ Ok next → IsKeptIssue next
words_kept r next k line words h =
    let read = bind_ok (line_given (2 ^ 32) (not (length r.issued == 0)) r.head words) _ next h in
    let fits = line_fits r k (2 ^ 32) (not (length r.issued == 0)) words read.0 read.1 in
    given_kept (record r { head = read.0.0 }) next fits.kept line read.0.1 fits.event read.2
