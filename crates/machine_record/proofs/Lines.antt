-- The row of a line is read back as the line.
use Rattle.std.proofs.Common.{◌≡◌, ℕ, ◌+◌, ◌*◌, ◌<◌, ◌≤◌, ◌&&◌, Bool, true, false, not, nat_lt, nat_le, Option, Some, None, refl, sym, ◌∙◌, ap, arith}
use Rattle.std.specs.Prelude.{if◌then◌else◌, slice_index}
use Rattle.std.proofs.lemmas.Bool.{lt-ltb}
use Rattle.torus.specs.declared.fault.Fault.{Fault}
use Rattle.torus.specs.declared.fault.Fault.TheVariants as fault
use Rattle.script_lines.specs.declared.line.Line.{Line}
use Rattle.script_lines.specs.declared.line.Line.TheVariants as line
use Rattle.script_lines.specs.declared.line.Value.{Value}
use Rattle.script_lines.specs.declared.line.Value.TheVariants.{Number, Last}
use Rattle.machine_record.specs.Row.{first_is_last, second_is_last, last_bit, line_of_row, number_of_value, row_of_line, value_of_number}
use Rattle.machine_record.specs.Widths.{HasFewLoads}

-- the values
one_back : (v w : Value) → value_of_number (first_is_last (last_bit v + 2 * last_bit w)) (number_of_value v) ≡ v
one_back (Number n) (Number k) = refl
one_back (Number n) Last = refl
one_back Last (Number k) = refl
one_back Last Last = refl

two_back : (v w : Value) → value_of_number (second_is_last (last_bit v + 2 * last_bit w)) (number_of_value w) ≡ w
two_back (Number n) (Number k) = refl
two_back (Number n) Last = refl
two_back Last (Number k) = refl
two_back Last Last = refl

pub line_back : (p : ℕ) (first : Line) → HasFewLoads first → line_of_row (row_of_line p first) ≡ Some first
line_back p (line.Load a) few = refl
line_back p (line.Store a v) few = ap (λ (x : Value). Some (line.Store a x)) (one_back v (Number 0))
line_back p (line.Swap a v) few = ap (λ (x : Value). Some (line.Swap a x)) (one_back v (Number 0))
line_back p (line.Cas a v w) few = λ i. Some (line.Cas a (one_back v w i) (two_back v w i))
line_back p (line.Add a v) few = ap (λ (x : Value). Some (line.Add a x)) (one_back v (Number 0))
line_back p (line.And a v) few = ap (λ (x : Value). Some (line.And a x)) (one_back v (Number 0))
line_back p (line.Or a v) few = ap (λ (x : Value). Some (line.Or a x)) (one_back v (Number 0))
line_back p (line.Xor a v) few = ap (λ (x : Value). Some (line.Xor a x)) (one_back v (Number 0))
line_back p (line.Max a v) few = ap (λ (x : Value). Some (line.Max a x)) (one_back v (Number 0))
line_back p (line.Min a v) few = ap (λ (x : Value). Some (line.Min a x)) (one_back v (Number 0))
line_back p line.Fence few = refl
line_back p (line.Spin a v m) few = ap (λ (b : Bool). if b then Some (line.Spin a v m) else None) (lt-ltb m 4294967296 few)

pub processor_of : (p : ℕ) (first : Line) → (row_of_line p first).processor ≡ p
processor_of p (line.Load a) = refl
processor_of p (line.Store a v) = refl
processor_of p (line.Swap a v) = refl
processor_of p (line.Cas a v w) = refl
processor_of p (line.Add a v) = refl
processor_of p (line.And a v) = refl
processor_of p (line.Or a v) = refl
processor_of p (line.Xor a v) = refl
processor_of p (line.Max a v) = refl
processor_of p (line.Min a v) = refl
processor_of p line.Fence = refl
processor_of p (line.Spin a v m) = refl
