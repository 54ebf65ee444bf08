use Rattle.std.proofs.Common.{◌≡◌, ◌<◌, Option, None, length, ap, subst, arith}
use Rattle.report_lines.proofs.Joined.{line_some}
use Rattle.report_check.specs.declared.rule.Rule.{Rule}
use Rattle.report_check.specs.Seen.{seen_of}
use Rattle.report_check.specs.Shows.{Checks}
use Rattle.report_check.proofs.Banked.{banked}
use Rattle.report_check.proofs.RulesKept.{line_kept}
use Rattle.report_check.proofs.Progress.{progress_more}
use Rattle.report_check.proofs.Judged.{line_is_bad}
use Rattle.report_check.proofs.check.judged.Goals as goal

pub loop-line-preserved : goal.loop-line-preserved
loop-line-preserved g c =
    let p = c.loop-line.invariant.progress in
    let B : Option Rule → Type 0 = λ r. Checks (seen_of p.lines) c.in-Some.line r c.take_line.new.checker in
    let none : c.in_ok-rule.field-0 ≡ None = cc in
    let taken = subst B none (c.in_ok-rule.ensures (seen_of p.lines) p.shows) in
    let longer : length c.in-Some.after.now < length c.loop-line.rest.now =
    omega (
      arith,
      line_some c.in-Some.line c.in-Some.after.now,
      ap length c.in-Some.ensures.found.1,
    ) in
    record {
      progress = progress_more _ _ c.in-Some.after.now _ _ _ c.in-Some.line p c.in-Some.ensures.found.1 c.in-Some.ensures.found.0
          (line_kept (seen_of p.lines) c.in-Some.line (banked p.lines p.each) taken.0, taken.1);
      bound = omega (arith, longer);
    }

pub loop-line-smaller : goal.loop-line-smaller
loop-line-smaller g c =
    omega (arith, line_some c.in-Some.line c.in-Some.after.now, ap length c.in-Some.ensures.found.1)

pub returns-in-Some-2 : goal.returns-in-Some-2
returns-in-Some-2 g c =
    let p = c.loop-line.invariant.progress in
    let B : Option Rule → Type 0 = λ r. Checks (seen_of p.lines) c.in-Some.line r c.take_line.new.checker in
    line_is_bad _ _ c.in-Some.after.now _ _ p c.in-Some.line c.in-Some-2.rule c.in-Some.ensures.reads c.in-Some.ensures.found.1
    (subst B c.in-Some-2.is (c.in_ok-rule.ensures (seen_of p.lines) p.shows))
