-- A line that is put behind a script without spins has the index of as many operations as the script makes.
use Rattle.std.proofs.Common.{◌≡◌, ℕ, zero, suc, ◌+◌, ◌<◌, ◌||◌, Bool, true, false, List, [], ◌∷◌, ◌++◌, length, map, take, Some, refl, sym, ◌∙◌, ap, subst, arith}
use Rattle.std.proofs.Common.{append_assoc, slice_get, slice_set, slice_index, slice_index_or}
use Rattle.std.proofs.lemmas.List.{append-nil}
use Rattle.std.proofs.lemmas.List.Sums.{sum_by-cons}
use Rattle.torus.specs.declared.step.Step.{Step}
use Rattle.script_lines.specs.declared.line.Line.{Line}
use Rattle.script_lines.specs.declared.line.Line.TheVariants as kind
use Rattle.script_lines.specs.Lines.{operations_of, operation_count, script_of}
use Rattle.one_order.specs.Scripts.{Invocation, IsOf, Allows}
use Rattle.machine_parts.specs.Appended.{load_with}
use Rattle.machine_parts.specs.Machine.{Core, IsAfter}
use Rattle.machine_parts.specs.Core.{Load, run_of}
use Rattle.machine_asked.specs.Asked.{is_operation, has_spin, IsIssuedAs, IsNumberedLine}

-- what a line allows first, where it is an operation
record Begins (first : Line) (more : List Line) (past : List Invocation) (o : Invocation) (ops : List Invocation) : Type 0 where
  is : IsOf first past o
  then : Allows more (past ++ o ∷ []) ops

begins : (first : Line) (more : List Line) (past : List Invocation) (o : Invocation) (ops : List Invocation) → is_operation first ≡ true
    → Allows (first ∷ more) past (o ∷ ops) → Begins first more past o ops
begins (kind.Load a) more past o ops e h = record { is = h.0; then = h.1 }
begins (kind.Store a v) more past o ops e h = record { is = h.0; then = h.1 }
begins (kind.Swap a v) more past o ops e h = record { is = h.0; then = h.1 }
begins (kind.Cas a x n) more past o ops e h = record { is = h.0; then = h.1 }
begins (kind.Add a v) more past o ops e h = record { is = h.0; then = h.1 }
begins (kind.And a v) more past o ops e h = record { is = h.0; then = h.1 }
begins (kind.Or a v) more past o ops e h = record { is = h.0; then = h.1 }
begins (kind.Xor a v) more past o ops e h = record { is = h.0; then = h.1 }
begins (kind.Max a v) more past o ops e h = record { is = h.0; then = h.1 }
begins (kind.Min a v) more past o ops e h = record { is = h.0; then = h.1 }
begins kind.Fence more past o ops e h = absurd (cc)
begins (kind.Spin a v m) more past o ops e h = absurd (cc)

-- one operation more stands before the others
moved : (line : Line) (past : List Invocation) (o next : Invocation) (ops : List Invocation) (n : ℕ)
    → IsOf line ((past ++ o ∷ []) ++ take n ops) next → IsOf line (past ++ take (suc n) (o ∷ ops)) next
moved line past o next ops n h = subst (λ (os : List Invocation). IsOf line os next) (append_assoc past (o ∷ []) (take n ops)) h

abbrev Numbers : List Line → Line → List Line → List Invocation → List Invocation → Type 0
Numbers lines line more past ops = (next : Invocation) → slice_get ops (operation_count lines) ≡ Some next
    → IsOf line (past ++ take (operation_count lines) ops) next

-- behind an operation line
module _ (first : Line) (lines : List Line) (line : Line) (more : List Line) (operation : is_operation first ≡ true) where
  at_next : (past ops : List Invocation) (n : ℕ) (next : Invocation)
      → ((past ops : List Invocation) → Allows (lines ++ line ∷ more) past ops → Numbers lines line more past ops)
      → n ≡ suc (operation_count lines) → Allows (first ∷ (lines ++ line ∷ more)) past ops → slice_get ops n ≡ Some next
      → IsOf line (past ++ take n ops) next
  at_next past [] n next rest e h there = absurd (cc)
  at_next past (o ∷ ops) n next rest e h there =
      let b = begins first (lines ++ line ∷ more) past o ops operation h in
      let here : slice_get ops (operation_count lines) ≡ Some next = subst (λ (k : ℕ). slice_get (o ∷ ops) k ≡ Some next) e there in
      subst (λ (k : ℕ). IsOf line (past ++ take k (o ∷ ops)) next) (sym e)
      (moved line past o next ops (operation_count lines) (rest (past ++ o ∷ []) ops b.then next here))

-- the operations of a script begin with those of its first line
count_first : (first : Line) (lines : List Line) → operation_count (first ∷ lines) ≡ operations_of first + operation_count lines
count_first first lines = sum_by-cons operations_of first lines

-- the operation of an operation's index
numbered : (lines : List Line) (line : Line) (more : List Line) → has_spin lines ≡ false → is_operation line ≡ true → (past ops : List Invocation)
    → Allows (lines ++ line ∷ more) past ops → Numbers lines line more past ops
numbered [] line more plain operation past [] h next there = absurd (cc)
numbered [] line more plain operation past (o ∷ ops) h next there =
    let b = begins line more past o ops operation h in
    let same : o ≡ next = cc in
    subst (λ (os : List Invocation). IsOf line os next) (sym (append-nil past)) (subst (IsOf line past) same b.is)
numbered (kind.Fence ∷ lines) line more plain operation past [] h next there = absurd (cc)
numbered (kind.Fence ∷ lines) line more plain operation past (o ∷ ops) h next there =
    let first = count_first kind.Fence lines in
    let e : operation_count (kind.Fence ∷ lines) ≡ operation_count lines = omega (arith, first) in
    subst (λ (k : ℕ). IsOf line (past ++ take k (o ∷ ops)) next) (sym e)
    (numbered lines line more plain operation past (o ∷ ops) h.1 next (subst (λ (k : ℕ). slice_get (o ∷ ops) k ≡ Some next) e there))
numbered ((kind.Load a) ∷ lines) line more plain operation past ops h next there =
    at_next (kind.Load a) lines line more refl past ops (operation_count (kind.Load a ∷ lines)) next (numbered lines line more plain operation)
    (let first = count_first (kind.Load a) lines in omega (arith, first)) h there
numbered ((kind.Store a v) ∷ lines) line more plain operation past ops h next there =
    at_next (kind.Store a v) lines line more refl past ops (operation_count (kind.Store a v ∷ lines)) next (numbered lines line more plain operation)
    (let first = count_first (kind.Store a v) lines in omega (arith, first)) h there
numbered ((kind.Swap a v) ∷ lines) line more plain operation past ops h next there =
    at_next (kind.Swap a v) lines line more refl past ops (operation_count (kind.Swap a v ∷ lines)) next (numbered lines line more plain operation)
    (let first = count_first (kind.Swap a v) lines in omega (arith, first)) h there
numbered ((kind.Cas a x n) ∷ lines) line more plain operation past ops h next there =
    at_next (kind.Cas a x n) lines line more refl past ops (operation_count (kind.Cas a x n ∷ lines)) next (numbered lines line more plain operation)
    (let first = count_first (kind.Cas a x n) lines in omega (arith, first)) h there
numbered ((kind.Add a v) ∷ lines) line more plain operation past ops h next there =
    at_next (kind.Add a v) lines line more refl past ops (operation_count (kind.Add a v ∷ lines)) next (numbered lines line more plain operation)
    (let first = count_first (kind.Add a v) lines in omega (arith, first)) h there
numbered ((kind.And a v) ∷ lines) line more plain operation past ops h next there =
    at_next (kind.And a v) lines line more refl past ops (operation_count (kind.And a v ∷ lines)) next (numbered lines line more plain operation)
    (let first = count_first (kind.And a v) lines in omega (arith, first)) h there
numbered ((kind.Or a v) ∷ lines) line more plain operation past ops h next there =
    at_next (kind.Or a v) lines line more refl past ops (operation_count (kind.Or a v ∷ lines)) next (numbered lines line more plain operation)
    (let first = count_first (kind.Or a v) lines in omega (arith, first)) h there
numbered ((kind.Xor a v) ∷ lines) line more plain operation past ops h next there =
    at_next (kind.Xor a v) lines line more refl past ops (operation_count (kind.Xor a v ∷ lines)) next (numbered lines line more plain operation)
    (let first = count_first (kind.Xor a v) lines in omega (arith, first)) h there
numbered ((kind.Max a v) ∷ lines) line more plain operation past ops h next there =
    at_next (kind.Max a v) lines line more refl past ops (operation_count (kind.Max a v ∷ lines)) next (numbered lines line more plain operation)
    (let first = count_first (kind.Max a v) lines in omega (arith, first)) h there
numbered ((kind.Min a v) ∷ lines) line more plain operation past ops h next there =
    at_next (kind.Min a v) lines line more refl past ops (operation_count (kind.Min a v ∷ lines)) next (numbered lines line more plain operation)
    (let first = count_first (kind.Min a v) lines in omega (arith, first)) h there
numbered (kind.Spin a v m ∷ lines) line more plain operation past ops h next there = absurd (cc)

-- a script that has a line at its end
pub grown_at : (lists : List (List Line)) (p : ℕ) (lines : List Line) → p < length lists → script_of (slice_set lists p lines) p ≡ lines
grown_at [] p lines low = absurd (omega (arith, low))
grown_at (x ∷ lists) zero lines low = refl
grown_at (x ∷ lists) (suc p) lines low = grown_at lists p lines (omega (arith, low))

-- so it is in whatever comes of the load
pub asked_is_numbered : (l : Load) (p : ℕ) (line : Line) → p < length l.scripts → has_spin (script_of l.scripts p) ≡ false → is_operation line ≡ true
    → IsNumberedLine (load_with l p line) p line (operation_count (script_of l.scripts p))
asked_is_numbered l p line low plain operation grown more c steps there begins h =
    let followed = h.lawful.scripts.each p there in
    let lines : List Line = script_of l.scripts p in
    let is : script_of grown.scripts p ≡ lines ++ line ∷ more =
    begins ∙ (ap (λ (ls : List Line). ls ++ more) (grown_at l.scripts p (lines ++ line ∷ []) low) ∙ append_assoc lines (line ∷ []) more) in
    record {
      ops = followed.ops;
      are = followed.are;
      is = numbered lines line more plain operation [] followed.ops (subst (λ (ls : List Line). Allows ls [] followed.ops) is followed.follows);
    }
