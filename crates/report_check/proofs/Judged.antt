-- What the loop of the checker answers.
use Rattle.std.proofs.Common.{◌≡◌, ◌≢◌, ◌↔◌, ℕ, ◌==◌, Bool, true, false, List, [], ◌∷◌, ◌++◌, length, Option, Some, None, IfSome, IsNone}
use Rattle.std.proofs.Common.{if◌then◌else◌, sym, refl, ap, ◌∙◌, arith}
use Rattle.std.proofs.lemmas.Bool.{eqb-true, eq-eqb}
use Rattle.std.proofs.lemmas.Option.{none-some}
use Rattle.report_lines.specs.Line.{line_text}
use Rattle.report_lines.specs.declared.line.ReportLine.{ReportLine}
use Rattle.report_lines.specs.Reading.{report_line_at}
use Rattle.report_check.specs.declared.checker.Checker.{Checker}
use Rattle.report_check.specs.declared.rule.Rule.{Rule}
use Rattle.report_check.specs.declared.rule.Rule.TheVariants as rule
use Rattle.report_check.specs.declared.rule.BadReport.{BadReport}
use Rattle.report_check.specs.Seen.{seen_of}
use Rattle.report_check.specs.Good.{FirstBad, GoodReport, IsStuck}
use Rattle.report_check.specs.Broken.{line_broken, unread_broken, read_broken, broken, misspelled}
use Rattle.report_check.specs.Reason.{HasReason, Judges}
use Rattle.report_check.proofs.Progress.{Progress, good_report, stuck_refused, stuck_unread}
use Rattle.report_check.proofs.Unbroken.{line_none}
use Rattle.report_check.proofs.Verdict.{good_or_bad}

bad_at : {A : Type 0} (text rest : List ℕ) (number : ℕ) (c : Checker A) (p : Progress text rest number c) (r : Rule) → IsStuck (seen_of p.lines) rest
    → broken (seen_of p.lines) rest ≡ Some r → HasReason text (record { line = number; rule = r })
bad_at text rest number c p r stuck is =
    record { lines = p.lines; rest = rest; printed = p.printed; each = p.each; counted = p.counted; stuck = stuck; rule = is }

-- a line that breaks a rule
pub line_is_bad : {A : Type 0} (text rest more : List ℕ) (number : ℕ) (c : Checker A) (p : Progress text rest number c) (line : ReportLine) (r : Rule)
    → report_line_at rest ≡ Some (line, more) → rest ≡ line_text line ++ more → line_broken (seen_of p.lines) line ≡ Some r
    → HasReason text (record { line = number; rule = r })
line_is_bad text rest more number c p line r read is broke =
    bad_at text rest number c p r
    (stuck_refused (seen_of p.lines) rest more line read is
    (λ allowed. none-some r (sym (line_none (seen_of p.lines) line allowed) ∙ broke)))
    (ap (read_broken (seen_of p.lines) rest) read ∙ broke)

-- where no line is read: the text is at its end, behind the line of the end, or a rule is broken
none_left : (rest : List ℕ) → (length rest == 0) ≡ true → rest ≡ []
none_left [] h = refl
none_left (b ∷ rest) h = absurd (omega (arith, eqb-true (length (b ∷ rest)) 0 h))

both_ends : (a b : Bool) (x y z : Rule) → (if a then (if b then None else Some x) else (if b then Some y else Some z)) ≡ None → (a ≡ true) × (b ≡ true)
both_ends true true x y z h = (refl, refl)
both_ends true false x y z h = absurd (none-some x (sym h))
both_ends false true x y z h = absurd (none-some y (sym h))
both_ends false false x y z h = absurd (none-some z (sym h))

not_both : (a b : Bool) (x y z r : Rule) → (if a then (if b then None else Some x) else (if b then Some y else Some z)) ≡ Some r → a ≡ true → b ≡ true → ⊥
not_both true true x y z r h is all = none-some r h
not_both true false x y z r h is all = absurd (cc (all))
not_both false b x y z r h is all = absurd (cc (is))

pub text_is_good : {A : Type 0} (text rest : List ℕ) (number : ℕ) (c : Checker A) → Progress text rest number c → unread_broken c.section rest ≡ None
    → GoodReport text
text_is_good text rest number c p h =
    let both = both_ends (c.section == 8) (length rest == 0) rule.BehindEnd rule.NoEnd (misspelled c.section rest) h in
    good_report text rest number c p (eqb-true c.section 8 both.0) (none_left rest both.1)

pub rest_is_bad : {A : Type 0} (text rest : List ℕ) (number : ℕ) (c : Checker A) (p : Progress text rest number c) (r : Rule) → report_line_at rest ≡ None
    → unread_broken c.section rest ≡ Some r → HasReason text (record { line = number; rule = r })
rest_is_bad text rest number c p r unread broke =
    let left : (seen_of p.lines).section ≡ 8 → rest ≢ [] =
    λ ended empty. not_both (c.section == 8) (length rest == 0) rule.BehindEnd rule.NoEnd (misspelled c.section rest) r broke
    (eq-eqb c.section 8 (p.shows.section ∙ ended)) (ap (λ (t : List ℕ). length t == 0) empty) in
    bad_at text rest number c p r (stuck_unread (seen_of p.lines) rest unread left)
    (ap (read_broken (seen_of p.lines) rest) unread ∙ ap (λ n. unread_broken n rest) (sym p.shows.section) ∙ broke)

-- what this says of good reports, and of the first bad line
first_of : (text : List ℕ) (bad : BadReport) → HasReason text bad → FirstBad text bad.line
first_of text bad h = record { lines = h.lines; rest = h.rest; printed = h.printed; each = h.each; counted = h.counted; stuck = h.stuck }

pub judges_good : (text : List ℕ) (found : Option BadReport) → Judges text found → IsNone found ↔ GoodReport text
judges_good text None h = (λ _. h, λ _. refl)
judges_good text (Some bad) h = (λ none. absurd (cc (none)), λ good. absurd (good_or_bad text bad.line good (first_of text bad h)))

pub judges_line : (text : List ℕ) (found : Option BadReport) → Judges text found → IfSome found (λ bad. FirstBad text bad.line)
judges_line text None h = tt
judges_line text (Some bad) h = first_of text bad h

pub judges_reason : (text : List ℕ) (found : Option BadReport) → Judges text found → IfSome found (HasReason text)
judges_reason text None h = tt
judges_reason text (Some bad) h = h
