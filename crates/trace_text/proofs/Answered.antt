-- What an answer comes to once its checks are passed.
use Rattle.std.proofs.Common.{◌≡◌, ℕ, Some, refl}
use Rattle.std.specs.Prelude.{slice_get, Option}
use Rattle.trace_text.specs.declared.issued.Issued.{Issued}
use Rattle.trace_text.specs.IssueNumbers.{numbers_of}
use Rattle.trace_text.specs.Traced.{TraceReading, answer_of_index, add_answer}

pub answer_reaches : (r : TraceReading) (line p index n : ℕ) (i : Issued) (told : Option ℕ)
    → slice_get (numbers_of r.numbers p) index ≡ Some n → slice_get r.issued n ≡ Some i → answer_of_index r line p index told ≡ add_answer r line n i told
answer_reaches r line p index n i told number there = rw (number, there) refl
