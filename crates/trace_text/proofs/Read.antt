-- What is read of a whole text.
use Rattle.std.proofs.Common.{◌≡◌, ℕ, ◌==◌, ◌+◌, false, List, [], ◌∷◌, refl, ◌∙◌}
use Rattle.std.specs.Prelude.{not, option_map, Result, Ok, Err}
use Rattle.lexer.specs.Words.{words_of}
use Rattle.lexer.specs.Outcome.{then_lines}
use Rattle.lexer.specs.declared.refusal.Refusal.{Refusal}
use Rattle.trace_lines.specs.Head.{head_missing}
use Rattle.trace_text.specs.declared.reason.TraceReason.TheVariants as reason
use Rattle.trace_text.specs.Findings.{trace_read}
use Rattle.trace_text.specs.Kept.{IsKeptIssue}
use Rattle.trace_text.specs.Traced.{TraceReading, TraceSpec, no_trace_read, after_line_words, trace_with, trace_from, trace_or_why, trace_of}
use Rattle.trace_text.proofs.Kept.{words_kept}
use Rattle.trace_text.proofs.KeptSettings.{kept_none}
use Rattle.trace_text.proofs.Outcomes.{one_ok, unless_ok, none_mapped, passed}
use Rattle.trace_text.proofs.Told.{read_by_fault}

fine : {A B R : Type 0} (number : ℕ) (m : Result A R) (f : A → Result B (Refusal R)) (y : B) → then_lines number m f ≡ Ok y
    → (x : A) × (m ≡ Ok x) × (f x ≡ Ok y)
fine number (Ok x) f y h = (x, refl, h)
fine number (Err e) f y h = absurd (cc)

-- a trace is what its lines gave, and they keep it
pub record IsRead (t : TraceSpec) : Type 0 where
  pub reading : TraceReading
  pub kept : IsKeptIssue reading
  pub some : (reading.head.words == 0) ≡ false
  pub is : trace_read reading ≡ t

lines_read : (r : TraceReading) → IsKeptIssue r → (number : ℕ) (lines : List (List ℕ)) (t : TraceSpec) → trace_from r number lines ≡ Ok t → IsRead t
lines_read r k number [] t h =
    let w = fine number (trace_with r) Ok t h in
    let whole = unless_ok (option_map reason.Line (head_missing r.head)) (Ok (trace_read r)) w.0 w.1 in
    let begun = passed (not r.head.begun) _ _ (none_mapped reason.Line (head_missing r.head) whole.0) in
    let given = passed (r.head.words == 0) _ _ begun.1 in
    let same : w.0 ≡ t = let e : Ok w.0 ≡ Ok t = w.2 in cc in
    record { reading = r; kept = k; some = given.0; is = one_ok (trace_read r) w.0 whole.1 ∙ same }
lines_read r k number (line ∷ lines) t h =
    let w = fine number (after_line_words r number (words_of line)) _ t h in
    lines_read w.0 (words_kept r w.0 k number (words_of line) w.1) (number + 1) lines t w.2

pub text_read : (lines : List (List ℕ)) (t : TraceSpec) → trace_of lines ≡ Ok t → IsRead t
text_read lines t h = lines_read no_trace_read kept_none 1 lines t (read_by_fault (trace_or_why lines) t h)
