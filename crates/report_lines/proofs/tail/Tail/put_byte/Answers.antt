use Rattle.std.proofs.Common.{◌≡◌, ◌∷◌, ◌-◌, ◌+◌, ◌<◌, [], List, ℕ, length, drop, arith, ap}
use Rattle.std.proofs.lemmas.List.{drop-set, length-drop}
use Rattle.std.proofs.lemmas.Str.{IsUtf8-had, IsUtf8-append, IsUtf8-from_ascii}
use Rattle.std.proofs.lemmas.Str.Ascii.{IsAscii-cons, IsAscii-nil}
use Rattle.std.specs.Str.{IsUtf8}
use Rattle.report_lines.proofs.tail.Tail.put_byte.Goals as goal

pub invariant_of-self : goal.invariant_of-self
invariant_of-self c =
    let bytes : List ℕ = c.self.inside.bytes in
    let start : ℕ = c.self.inside.start in
    let byte : ℕ = c.args.byte in
    let some : 0 < start = omega (arith, c.requires.room, ap length c.self.view_is, length-drop start bytes) in
    let back : start - 1 + 1 ≡ start = omega arith in
    let one : IsUtf8 (byte ∷ []) = IsUtf8-from_ascii (byte ∷ []) (IsAscii-cons byte [] c.requires.ascii IsAscii-nil) in
    let front : IsUtf8 (byte ∷ drop start bytes) = IsUtf8-append (byte ∷ []) (drop start bytes) one (IsUtf8-had _ c.self.invariant.1) in
    (omega arith, ∣ rw (drop-set bytes (start - 1) byte (omega arith), back) front ∣₁)
