use Rattle.std.proofs.Common.{◌++◌, length, drop, arith, ap, decimal}
use Rattle.std.proofs.lemmas.List.{length-drop}
use Rattle.std.proofs.lemmas.Fmt.{IsAscii-decimal}
use Rattle.std.proofs.lemmas.Str.{IsUtf8-had, IsUtf8-append, IsUtf8-from_ascii}
use Rattle.std.specs.Str.{IsUtf8}
use Rattle.report_lines.proofs.tail.Tail.put_digits.Goals as goal

pub write_digits-self-inside-requires : goal.write_digits-self-inside-requires
write_digits-self-inside-requires c =
    (omega (arith, c.requires, ap length c.self.view_is, length-drop c.self.inside.start c.self.inside.bytes), omega arith)

pub invariant_of-self : goal.invariant_of-self
invariant_of-self c =
    let front : IsUtf8 (decimal c.args.n ++ drop c.self.inside.start c.self.inside.bytes) =
    IsUtf8-append _ _ (IsUtf8-from_ascii _ (IsAscii-decimal c.args.n c.ranges.n.fits)) (IsUtf8-had _ c.self.invariant.1) in
    (omega arith, ∣ rw c.write_digits-self-inside.ensures.written front ∣₁)
