-- A text has one verdict.
use Rattle.std.proofs.Common.{◌≡◌, ℕ, List, [], ◌∷◌, ◌++◌, Result, IfErr, length, suc, fold, sym, refl, ap, subst, ◌∙◌, arith}
use Rattle.std.proofs.Common.{append_assoc}
use Rattle.std.proofs.lemmas.List.{append-nil}
use Rattle.std.proofs.lemmas.Option.{same_Some}
use Rattle.std.proofs.lemmas.Result.{IfErr-weaker}
use Rattle.report_lines.specs.Line.{line_text, text_of}
use Rattle.report_lines.specs.declared.line.ReportLine.{ReportLine}
use Rattle.report_lines.specs.Fits.{FitsLine}
use Rattle.report_check.specs.Seen.{Seen, nothing_seen, seen_after}
use Rattle.report_check.specs.Good.{AllStand, GoodReport, FirstBad, IsStuck, HasFault}
use Rattle.report_check.specs.declared.fault.CheckFault.{CheckFault}
use Rattle.report_check.specs.declared.fault.CheckFault.TheVariants.{BadReport, Memory}
use Rattle.report_lines.proofs.Joined.{line_some}
use Rattle.report_lines.proofs.LinesFound.{read_of}

-- two lines that a text begins with are one, and so are the bytes behind them
pub same_first : (l o : ReportLine) (x y : List ℕ) → FitsLine l → FitsLine o → line_text l ++ x ≡ line_text o ++ y → (l ≡ o) × (x ≡ y)
same_first l o x y fits other is =
    let one : (l, x) ≡ (o, y) = same_Some (l, x) (o, y) (sym (read_of l x (line_text l ++ x) fits refl) ∙ read_of o y (line_text l ++ x) other is) in
    (ap (λ (p : ReportLine × List ℕ). p.0) one, ap (λ (p : ReportLine × List ℕ). p.1) one)

shift : (l : ReportLine) (ls : List ReportLine) (x : List ℕ) → text_of (l ∷ ls) ++ x ≡ line_text l ++ (text_of ls ++ x)
shift l ls x = append_assoc (line_text l) (text_of ls) x

pub same_count : (s : Seen) (lines others : List ReportLine) (x y : List ℕ) → AllStand s lines → AllStand s others → IsStuck (fold seen_after s lines) x
    → IsStuck (fold seen_after s others) y → text_of lines ++ x ≡ text_of others ++ y → length lines ≡ length others
same_count s [] [] x y a b h k e = refl
same_count s [] (o ∷ os) x y a b h k e = absurd (h.none o (text_of os ++ y) b.0 (e ∙ shift o os y))
same_count s (l ∷ ls) [] x y a b h k e = absurd (k.none l (text_of ls ++ x) a.0 (sym e ∙ shift l ls x))
same_count s (l ∷ ls) (o ∷ os) x y a b h k e =
    let first = same_first l o (text_of ls ++ x) (text_of os ++ y) a.0.fits b.0.fits (sym (shift l ls x) ∙ e ∙ shift o os y) in
    let P : ReportLine → Type 0 = λ z. AllStand (seen_after s z) os in
    let Q : ReportLine → Type 0 = λ z. IsStuck (fold seen_after (seen_after s z) os) y in
    ap suc (same_count (seen_after s l) ls os x y a.1 (subst P (sym first.0) b.1) h (subst Q (sym first.0) k) first.1)

pub not_both : (s : Seen) (lines others : List ReportLine) (y : List ℕ) → AllStand s lines → AllStand s others → (fold seen_after s lines).section ≡ 8
    → IsStuck (fold seen_after s others) y → text_of lines ++ [] ≡ text_of others ++ y → ⊥
not_both s [] [] y a b ended k e = k.not_good ended (sym e)
not_both s [] (o ∷ os) y a b ended k e = absurd (omega (arith, line_some o (text_of os ++ y), ap length (e ∙ shift o os y)))
not_both s (l ∷ ls) [] y a b ended k e = k.none l (text_of ls ++ []) a.0 (sym e ∙ shift l ls [])
not_both s (l ∷ ls) (o ∷ os) y a b ended k e =
    let first = same_first l o (text_of ls ++ []) (text_of os ++ y) a.0.fits b.0.fits (sym (shift l ls []) ∙ e ∙ shift o os y) in
    let P : ReportLine → Type 0 = λ z. AllStand (seen_after s z) os in
    let Q : ReportLine → Type 0 = λ z. IsStuck (fold seen_after (seen_after s z) os) y in
    not_both (seen_after s l) ls os y a.1 (subst P (sym first.0) b.1) ended (subst Q (sym first.0) k) first.1

pub one_number : (text : List ℕ) (m n : ℕ) → FirstBad text m → FirstBad text n → m ≡ n
one_number text m n p q =
    omega (arith, p.counted, q.counted, same_count nothing_seen p.lines q.lines p.rest q.rest p.each q.each p.stuck q.stuck (sym p.printed ∙ q.printed))

pub good_or_bad : (text : List ℕ) (n : ℕ) → GoodReport text → FirstBad text n → ⊥
good_or_bad text n p q =
    not_both nothing_seen p.lines q.lines q.rest p.good.each q.each p.good.ended q.stuck (append-nil (text_of p.lines) ∙ sym p.printed ∙ q.printed)

-- a good report has no fault but a refusal of memory
only_fault : (text : List ℕ) (fault : CheckFault) → GoodReport text → HasFault text fault → fault ≡ Memory
only_fault text (BadReport n) good has = absurd (good_or_bad text n good has)
only_fault text Memory good has = refl

pub only_memory : {T : Type 0} (text : List ℕ) (r : Result T CheckFault) → GoodReport text → IfErr r (λ fault. HasFault text fault)
    → IfErr r (λ fault. fault ≡ Memory)
only_memory text r good has = IfErr-weaker r (λ fault. HasFault text fault) (λ fault. fault ≡ Memory) (λ fault h. only_fault text fault good h) has
