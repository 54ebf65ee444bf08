-- A report is read in one way.
use Rattle.std.proofs.Common.{◌≡◌, ℕ, ◌+◌, List, [], ◌∷◌, ◌++◌, length, None, sym, refl, ap, ◌∙◌, arith, append_assoc}
use Rattle.std.specs.List.{AllByRecursion}
use Rattle.std.proofs.lemmas.List.{append-nil}
use Rattle.std.proofs.lemmas.List.Sums.{fold_push}
use Rattle.std.proofs.lemmas.List.Concat.{flat_map-append, flat_map-cons}
use Rattle.std.proofs.lemmas.Option.{none-some, same_Some}
use Rattle.report_lines.specs.Fits.{FitsLine}
use Rattle.report_lines.specs.Line.{line_text, text_of}
use Rattle.report_lines.specs.Reading.{report_line_at}
use Rattle.report_lines.specs.declared.line.ReportLine.{ReportLine}
use Rattle.report_lines.specs.declared.line.ReportLine.TheVariants.{Header, Shape, Init, Entry, Answer, Word, Order, End}
use Rattle.report_lines.proofs.Joined.{line_some}
use Rattle.report_lines.proofs.LinesFound.{read_of}
use Rattle.report_check.specs.Good.{AllStand}
use Rattle.report_check.specs.Seen.{Seen, seen_after}
use Rattle.report_model.specs.Run.{ModelledRun, nothing_run, run_after, report_run_of}

-- the lines that were read fit, and the rest is left
pub record ReadTo (text rest : List ℕ) (r : ModelledRun) : Type 0 where
  pub lines : List ReportLine
  pub printed : text ≡ text_of lines ++ rest
  pub fits : AllByRecursion FitsLine lines
  pub run : r ≡ report_run_of lines

pub read_start : (text : List ℕ) (r : ModelledRun) → r ≡ nothing_run → ReadTo text text r
read_start text r none = record { lines = []; printed = refl; fits = tt; run = none }

fits_push : (lines : List ReportLine) (line : ReportLine) → AllByRecursion FitsLine lines → FitsLine line → AllByRecursion FitsLine (lines ++ line ∷ [])
fits_push [] line all fits = (fits, tt)
fits_push (l ∷ lines) line all fits = (all.0, fits_push lines line all.1 fits)

text_of_push : (lines : List ReportLine) (line : ReportLine) (rest : List ℕ) → text_of (lines ++ line ∷ []) ++ rest ≡ text_of lines ++ (line_text line ++ rest)
text_of_push lines line rest =
    ap (λ (t : List ℕ). t ++ rest) (flat_map-append line_text lines (line ∷ []) ∙ ap (λ (t : List ℕ). text_of lines ++ t) (append-nil (line_text line)))
    ∙ append_assoc (text_of lines) (line_text line) rest

-- one line more
pub read_more : (text rest more : List ℕ) (r new : ModelledRun) (line : ReportLine) → ReadTo text rest r → rest ≡ line_text line ++ more → FitsLine line
    → new ≡ run_after r line → ReadTo text more new
read_more text rest more r new line p cut fits taken = record {
  lines = p.lines ++ line ∷ [];
  printed = p.printed ∙ ap (λ (t : List ℕ). text_of p.lines ++ t) cut ∙ sym (text_of_push p.lines line more);
  fits = fits_push p.lines line p.fits fits;
  run = taken ∙ ap (λ (z : ModelledRun). run_after z line) p.run ∙ sym (fold_push run_after nothing_run p.lines line);
}

-- a line is counted
pub one_line_more : (r : ModelledRun) (line : ReportLine) → (run_after r line).count ≡ r.count + 1
one_line_more r (Header version) = refl
one_line_more r (Shape radices words) = refl
one_line_more r (Init address word) = refl
one_line_more r (Entry e) = refl
one_line_more r (Answer a) = refl
one_line_more r (Word address word) = refl
one_line_more r (Order o) = refl
one_line_more r (End complete) = refl

-- the front of lines
front : (line : ReportLine) (lines : List ReportLine) → text_of (line ∷ lines) ≡ line_text line ++ text_of lines
front line lines = flat_map-cons line_text line lines

-- lines that fit are those that are read, where nothing more is read of the rest
pub one_reading : (lines read : List ReportLine) (rest : List ℕ) → AllByRecursion FitsLine lines → AllByRecursion FitsLine read
    → report_line_at rest ≡ None → text_of lines ≡ text_of read ++ rest → lines ≡ read
one_reading [] [] rest fits all none is = refl
one_reading [] (m ∷ read) rest fits all none is =
    let cut : [] ≡ line_text m ++ (text_of read ++ rest) =
    is ∙ ap (λ (t : List ℕ). t ++ rest) (front m read) ∙ append_assoc (line_text m) (text_of read) rest in
    absurd (omega (arith, line_some m (text_of read ++ rest), ap length cut))
one_reading (l ∷ lines) [] rest fits all none is =
    let cut : rest ≡ line_text l ++ text_of lines = sym is ∙ front l lines in
    absurd (none-some (l, text_of lines) (sym none ∙ read_of l (text_of lines) rest fits.0 cut))
one_reading (l ∷ lines) (m ∷ read) rest fits all none is =
    let whole : List ℕ = text_of (l ∷ lines) in
    let cut : whole ≡ line_text m ++ (text_of read ++ rest) =
    is ∙ ap (λ (t : List ℕ). t ++ rest) (front m read) ∙ append_assoc (line_text m) (text_of read) rest in
    let one : (l, text_of lines) ≡ (m, text_of read ++ rest) =
    same_Some (l, text_of lines) (m, text_of read ++ rest)
    (sym (read_of l (text_of lines) whole fits.0 (front l lines)) ∙ read_of m (text_of read ++ rest) whole all.0 cut) in
    let same : l ≡ m = ap (λ (x : ReportLine × List ℕ). x.0) one in
    let left : text_of lines ≡ text_of read ++ rest = ap (λ (x : ReportLine × List ℕ). x.1) one in
    ap (λ (x : ReportLine). x ∷ lines) same ∙ ap (λ (x : List ReportLine). m ∷ x) (one_reading lines read rest fits.1 all.1 none left)

pub all_read : (text rest : List ℕ) (r : ModelledRun) → ReadTo text rest r → report_line_at rest ≡ None → (lines : List ReportLine)
    → AllByRecursion FitsLine lines → text ≡ text_of lines → r ≡ report_run_of lines
all_read text rest r p none lines fits is =
    p.run ∙ ap report_run_of (sym (one_reading lines p.lines rest fits p.fits none (sym is ∙ p.printed)))

-- lines that may stand fit
pub standing_fit : (s : Seen) (lines : List ReportLine) → AllStand s lines → AllByRecursion FitsLine lines
standing_fit s [] each = tt
standing_fit s (l ∷ lines) each = (each.0.fits, standing_fit (seen_after s l) lines each.1)
