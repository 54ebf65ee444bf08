-- How far a report is checked.
use Rattle.std.proofs.Common.{◌≡◌, ◌≢◌, ℕ, ◌+◌, List, [], ◌∷◌, ◌++◌, length, fold, Some, None, sym, refl, ap, subst, ◌∙◌, arith, append_assoc}
use Rattle.std.proofs.lemmas.List.{append-nil, length_push}
use Rattle.std.proofs.lemmas.List.Sums.{fold_push}
use Rattle.std.proofs.lemmas.List.Concat.{flat_map-append}
use Rattle.std.proofs.lemmas.Option.{none-some, same_Some}
use Rattle.report_lines.specs.Line.{line_text, text_of}
use Rattle.report_lines.specs.declared.line.ReportLine.{ReportLine}
use Rattle.report_check.specs.declared.checker.Checker.{Checker}
use Rattle.report_lines.specs.Fits.{FitsLine}
use Rattle.report_lines.specs.Reading.{report_line_at}
use Rattle.report_check.specs.Seen.{Seen, nothing_seen, seen_after, seen_of}
use Rattle.report_check.specs.Good.{Allowed, MayStand, AllStand, GoodReport, FirstBad, IsStuck}
use Rattle.report_check.specs.Shows.{KeepsSeen}
use Rattle.report_lines.proofs.LinesFound.{read_of}
use Rattle.report_lines.proofs.Joined.{line_some}

-- the lines that were read stand, and the rest is left
pub record Progress {A : Type 0} (text rest : List ℕ) (number : ℕ) (c : Checker A) : Type 0 where
  pub lines : List ReportLine
  pub printed : text ≡ text_of lines ++ rest
  pub each : AllStand nothing_seen lines
  pub counted : number ≡ length lines + 1
  pub shows : KeepsSeen (seen_of lines) c

pub progress_start : {A : Type 0} (text : List ℕ) (c : Checker A) → KeepsSeen nothing_seen c → Progress text text 1 c
progress_start text c shows = record { lines = []; printed = refl; each = tt; counted = refl; shows = shows }

pub all_stand_push : (s : Seen) (lines : List ReportLine) (line : ReportLine) → AllStand s lines → MayStand (fold seen_after s lines) line
    → AllStand s (lines ++ line ∷ [])
all_stand_push s [] line each may = (may, tt)
all_stand_push s (l ∷ lines) line each may = (each.0, all_stand_push (seen_after s l) lines line each.1 may)

text_of_push : (lines : List ReportLine) (line : ReportLine) (rest : List ℕ) → text_of (lines ++ line ∷ []) ++ rest ≡ text_of lines ++ (line_text line ++ rest)
text_of_push lines line rest =
    ap (λ (t : List ℕ). t ++ rest) (flat_map-append line_text lines (line ∷ []) ∙ ap (λ (t : List ℕ). text_of lines ++ t) (append-nil (line_text line)))
    ∙ append_assoc (text_of lines) (line_text line) rest

-- a line that may stand
pub progress_more : {A : Type 0} (text rest more : List ℕ) (number : ℕ) (c new : Checker A) (line : ReportLine) (p : Progress text rest number c)
    → rest ≡ line_text line ++ more → FitsLine line → Allowed (seen_of p.lines) line × KeepsSeen (seen_after (seen_of p.lines) line) new
    → Progress text more (number + 1) new
progress_more text rest more number c new line p cut fits taken =
    let now : seen_of (p.lines ++ line ∷ []) ≡ seen_after (seen_of p.lines) line = fold_push seen_after nothing_seen p.lines line in
    let P : Seen → Type 0 = λ s. KeepsSeen s new in
    let may : MayStand (seen_of p.lines) line = record { fits = fits; allowed = taken.0 } in
    record {
      lines = p.lines ++ line ∷ [];
      printed = p.printed ∙ ap (λ (t : List ℕ). text_of p.lines ++ t) cut ∙ sym (text_of_push p.lines line more);
      each = all_stand_push nothing_seen p.lines line p.each may;
      counted = omega (arith, p.counted, length_push p.lines line);
      shows = subst P (sym now) taken.1;
    }

-- where no line is read, or where it may not stand, the check ends
pub stuck_unread : (s : Seen) (rest : List ℕ) → report_line_at rest ≡ None → (s.section ≡ 8 → rest ≢ []) → IsStuck s rest
stuck_unread s rest unread left = record {
  none = λ line more may is. none-some (line, more) (sym unread ∙ read_of line more rest may.fits is);
  not_good = left;
}

pub stuck_refused : (s : Seen) (rest more : List ℕ) (line : ReportLine) → report_line_at rest ≡ Some (line, more) → rest ≡ line_text line ++ more
    → (Allowed s line → ⊥)
    → IsStuck s rest
stuck_refused s rest more line read is refused = record {
  none = λ other behind may same.
      let one : (line, more) ≡ (other, behind) = same_Some (line, more) (other, behind) (sym read ∙ read_of other behind rest may.fits same) in
      let P : ReportLine → Type 0 = λ l. Allowed s l → ⊥ in
      subst P (ap (λ (x : ReportLine × List ℕ). x.0) one) refused may.allowed;
  not_good = λ ended empty. absurd (omega (arith, line_some line more, ap length (sym empty ∙ is)));
}

pub first_bad : {A : Type 0} (text rest : List ℕ) (number : ℕ) (c : Checker A) (p : Progress text rest number c) → IsStuck (seen_of p.lines) rest
    → FirstBad text number
first_bad text rest number c p stuck = record { lines = p.lines; rest = rest; printed = p.printed; each = p.each; counted = p.counted; stuck = stuck }

pub good_report : {A : Type 0} (text rest : List ℕ) (number : ℕ) (c : Checker A) → Progress text rest number c → c.section ≡ 8 → rest ≡ [] → GoodReport text
good_report text rest number c p ended empty = record {
  lines = p.lines;
  printed = p.printed ∙ ap (λ (t : List ℕ). text_of p.lines ++ t) empty ∙ append-nil (text_of p.lines);
  good = record { each = p.each; ended = sym p.shows.section ∙ ended };
}
