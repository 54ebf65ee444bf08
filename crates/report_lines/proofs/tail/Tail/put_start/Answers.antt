use Rattle.std.proofs.Common.{◌-◌, ◌++◌, List, ℕ, length, drop, arith, ap}
use Rattle.std.proofs.lemmas.List.{length-drop}
use Rattle.std.proofs.lemmas.Str.{IsUtf8-had, IsUtf8-append}
use Rattle.std.specs.Str.{IsUtf8}
use Rattle.report_lines.proofs.Put.{put_before}
use Rattle.report_lines.proofs.tail.Tail.put_start.Goals as goal

pub invariant_of-self : goal.invariant_of-self
invariant_of-self c =
    let bytes : List ℕ = c.self.inside.bytes in
    let start : ℕ = c.self.inside.start in
    let word : List ℕ = c.args.word.now in
    let whole : IsUtf8 (word ++ drop start bytes) = IsUtf8-append word (drop start bytes) c.utf8.word (IsUtf8-had _ c.self.invariant.1) in
    let long = length-drop start bytes in
    let view = ap length c.self.view_is in (
      omega arith,
      ∣ rw (put_before (start - length word) start bytes c.copy_from_slice.new.self (omega arith) (omega arith), c.copy_from_slice.ensures.after, c.as_bytes.ensures.value) whole ∣₁,
    )
