use Rattle.std.proofs.Common.{◌-◌, drop, arith}
use Rattle.std.proofs.Math.Seq.{take_all}
use Rattle.std.proofs.lemmas.List.{length-drop}
use Rattle.std.proofs.lemmas.Str.{IsUtf8-had}
use Rattle.report_lines.proofs.tail.Tail.text.Goals as goal

pub returns-in-Err-clause-text : goal.returns-in-Err-clause-text
returns-in-Err-clause-text c =
    let rest = drop c.self.inside.start c.self.inside.bytes in
    let whole = take_all (128 - c.self.inside.start) rest (omega (arith, length-drop c.self.inside.start c.self.inside.bytes)) in
    absurd (c.in-Err.ensures.cases.0 (rw whole (IsUtf8-had _ c.self.invariant.1)))
