-- What a line makes of what the lines before it made, and what a reader answers, where each refusal
-- has a reason.
use Rattle.std.specs.Prelude.{◌≡◌, ℕ, ◌⊎◌, Result, Ok, Err}
use Rattle.torus.specs.declared.fault.Fault.{Fault}
use Rattle.torus.specs.declared.fault.Fault.TheVariants as fault
use Rattle.lexer.specs.declared.refusal.Refusal.{Refusal}

-- a second step on what the first one gave; the first reason is the answer
infixl 10 ◌>>=◌
abbrev pub ◌>>=◌ : {A B R : Type 0} → Result A R → (A → Result B R) → Result B R
(Ok x) >>= f = f x
(Err e) >>= f = Err e

-- a refusal of the line of a number
abbrev pub refusal_at : {R : Type 0} → ℕ → R → Refusal R
refusal_at number reason = record { line = number; reason = reason }

-- the line at which a fault is reported: a refusal of memory is at none
abbrev pub line_of_fault : Fault → ℕ → ℕ
line_of_fault fault.Memory line = 0
line_of_fault _ line = line

-- the refusal of the line of this number, or what the lines after it make
abbrev pub then_lines : {A B R : Type 0} → ℕ → Result A R → (A → Result B (Refusal R))
    → Result B (Refusal R)
then_lines number (Err e) rest = Err (refusal_at number e)
then_lines number (Ok x) rest = rest x

-- a value of the program, seen by view, is what the grammar gives, and so is a reason
abbrev pub Agrees : {A B R : Type 0} → (A → B) → Result A R → Result B R → Type 0
Agrees view (Ok x) read = read ≡ Ok (view x)
Agrees view (Err e) read = read ≡ Err e

-- what a line left is what the grammar makes of it, and so is why it is refused, but that memory may
-- run out, which has a reason of its own
abbrev pub Makes : {X Y R : Type 0} → R → X → Result Y R → Result X R → Type 0
Makes memory new (Ok y) made = made ≡ Ok new
Makes memory new (Err e) made = (e ≡ memory) ⊎ (made ≡ Err e)

-- what a reader answers: the grammar's value, or the grammar's refusal at its line, or that of memory
-- at line 0
abbrev pub Gives : {A B R : Type 0} → R → (A → B) → Result A (Refusal R) → Result B (Refusal R)
    → Type 0
Gives memory view (Ok x) read = read ≡ Ok (view x)
Gives memory view (Err e) read = (e ≡ refusal_at 0 memory) ⊎ (read ≡ Err e)
