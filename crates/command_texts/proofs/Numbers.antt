-- The lines of all channels, and the line that their numbers' check adds.
use Rattle.std.proofs.Common.{◌≡◌, ℕ, ◌++◌, List, [], Result, Ok, Err, refl, sym, subst, ◌∙◌, append-nil}
use mathlib.Core.Bool.{true≢false}
use Rattle.std.specs.Prelude.{◌↔◌, IsOk, OnErr, OnOk, codes}
use Rattle.std.specs.Io.KnownBytes.{Appends}
use Rattle.std.proofs.KnownBytes.{Appends-trans}
use Rattle.report_lines.specs.Taken.{AppendsFront, Rose}
use Rattle.torus.specs.Shape.{Shape}
use Rattle.channel_number.specs.Rising.{IsRising}
use Rattle.script_lines.specs.Machine.{MachineSpec}
use Rattle.script.specs.Machine.{machine_of}
use Rattle.channel_number.specs.Number.{IsNumbering}
use Rattle.program_fault.specs.Done.{Output, Puts, TookAll}
use Rattle.command_texts.specs.Done.{IsChannelsText}
use Rattle.command_texts.specs.Lines.{IsNumbersText, all_lines, channels_lines}
use Rattle.command_texts.proofs.Pieces.{front_of_last}

-- the last line, where there is one
abbrev pub last_line : {A E : Type 0} → Result A E → List ℕ
last_line (Ok x) = codes "rising\n"
last_line (Err e) = []

pub checked_text : {A E : Type 0} (s : Shape) (numbers : List ℕ) (r : Result A E) → (IsOk r ↔ IsRising s numbers)
    → IsNumbersText s numbers (all_lines s numbers ++ last_line r)
checked_text s numbers (Ok x) is = record { rising = λ rises. refl; falling = λ falls. absurd (falls (is.0 refl)) }
checked_text s numbers (Err e) is = record { rising = λ rises. absurd (true≢false (sym (is.1 rises))); falling = λ falls. append-nil (all_lines s numbers) }

-- the last line was put behind the others
pub puts_last : {A E : Type 0} (is : List ℕ → Type 0) (old mid new : Output) (lines last : List ℕ) (r : Result A E) → is (lines ++ last) → TookAll old mid lines
    → OnOk r (Appends mid.taken new.taken last) → OnErr r (AppendsFront mid.taken new.taken last)
    → OnOk r (new.failures ≡ mid.failures) → OnErr r (Rose mid.failures new.failures) → Puts is old new r
puts_last is old mid new lines last (Ok x) right before ok err quiet failed =
    (lines ++ last, right, record { bytes = Appends-trans old.taken mid.taken new.taken lines last before.bytes ok; quiet = quiet ∙ before.quiet })
puts_last is old mid new lines last (Err e) right before ok err quiet failed = (
  lines ++ last,
  right,
  record {
    bytes = front_of_last old.taken mid.taken new.taken lines last before.bytes err;
    failed = subst (λ (n : ℕ). Rose n new.failures) before.quiet failed;
  },
)

-- the text of numbers that rise is that of the channels
pub channels_printed : (lines : List (List ℕ)) (machine : MachineSpec) (s : Shape) (numbers given text : List ℕ) → machine_of lines ≡ Ok machine
    → s ≡ machine.shape → given ≡ numbers
    → IsNumbering s numbers → IsRising s numbers → IsNumbersText s given text → IsChannelsText lines text
channels_printed lines machine s numbers given text read shape same numbering rises right = record {
  machine = machine;
  read = read;
  numbers = numbers;
  numbering = subst (λ (x : Shape). IsNumbering x numbers) shape numbering;
  is = right.rising (subst (IsRising s) (sym same) rises) ∙ (λ i. channels_lines (shape i) (same i));
}
