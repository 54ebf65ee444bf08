-- No two operations of a trace text have one processor and one index.
use Rattle.std.proofs.Common.{◌≡◌, ℕ, ◌≤◌, ◌==◌, false, List, sym, ◌∙◌, ap, subst, arith, slice_get}
use Rattle.std.specs.Prelude.{Ok}
use Rattle.std.proofs.lemmas.Bool.Decides.{nat_tests}
use Rattle.std.proofs.lemmas.Option.{same_Some}
use Rattle.trace_text.specs.Findings.{trace_read}
use Rattle.trace_text.specs.IssueNumbers.{numbers_of}
use Rattle.trace_text.specs.Kept.{IsKeptIssue}
use Rattle.trace_text.specs.Traced.{TraceReading, TraceSpec, trace_of}
use Rattle.trace_text.proofs.Read.{text_read}
use Rattle.trace_answer.specs.Whole.{IsWholeTrace}

not_zero : (n : ℕ) → (n == 0) ≡ false → 1 ≤ n
not_zero n h = grind (arith, nat_tests, h)

read_whole : (r : TraceReading) → IsKeptIssue r → (r.head.words == 0) ≡ false → IsWholeTrace (trace_read r)
read_whole r k some = record {
  words = not_zero r.head.words some;
  trace = k.trace;
  known = k.known;
  apart = λ n m i j hi hj processor index.
      same_Some n m (sym (k.indexed n i hi)
      ∙ (ap (λ p. slice_get (numbers_of r.numbers p) i.index) processor
      ∙ (ap (slice_get (numbers_of r.numbers j.processor)) index ∙ k.indexed m j hj)));
}

pub text_whole : (lines : List (List ℕ)) (t : TraceSpec) → trace_of lines ≡ Ok t → IsWholeTrace t
text_whole lines t h =
    let read = text_read lines t h in
    subst IsWholeTrace read.is (read_whole read.reading read.kept read.some)
