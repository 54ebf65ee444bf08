-- What operations of a log find along each word's writes makes the trace a valued one, and so its replies are those of
-- the machines that explain it.
use Rattle.std.proofs.Common.{◌≡◌, inl, inr, ℕ, ◌+◌, ◌-◌, ◌<◌, ◌≤◌, Bool, true, false, List, ◌++◌, length, map, refl, sym, ◌∙◌, ap, subst, arith, get_or}
use Rattle.std.specs.Prelude.{slice_index, if◌then◌else◌, Option, Some, None, unwrap_or}
use Rattle.trace_lines.specs.Head.{value_in}
use Rattle.std.specs.List.{range_with_len}
use Rattle.std.proofs.lemmas.Bool.{cases_lt}
use Rattle.std.proofs.lemmas.List.{get_or_append_left, get_or-append_right, get_or-map, length-map}
use Rattle.std.proofs.Common.{length-append}
use Rattle.std.proofs.lemmas.List.FromFn.{length-map-range_with_len, get_or-map-range_with_len}
use Rattle.packet.specs.declared.kinds.Op.{Op}
use Rattle.packet.specs.declared.kinds.Op.TheVariants as op
use Rattle.packet.specs.declared.kinds.Operation.{Operation as Asked}
use Rattle.packet.specs.Memory.{new_word}
use Rattle.memory_models.specs.declared.kinds.Kind.{Kind}
use Rattle.memory_models.specs.declared.kinds.Kind.TheVariants as kind
use Rattle.memory_models.specs.declared.kinds.Operation.{Operation}
use Rattle.memory_models.specs.Trace.{is_load, is_write, operation_at, source_at, IsMemoryTrace}
use Rattle.memory_models.specs.Values.{IsNextWrite, IsValued}
use Rattle.memory_models.proofs.Orders.{load_uses}
use Rattle.memory_models.proofs.Runs.{both_on}
use Rattle.model_text.specs.declared.logged.Logged.{Logged}
use Rattle.model_text.specs.declared.logged.Source.TheVariants.{Own}
use Rattle.model_text.specs.Kinds.{kind_of_op}
use Rattle.model_text.specs.Made.{LogLines}
use Rattle.model_text.specs.OneMemory.{word_made}
use Rattle.model_text.specs.Traces.{AreOpened, kind_of_step, logged_at, numbers_of_log, opening_step, opening_operation, operation_of_log, operations_of_log, steps_of_log}
use Rattle.model_text.specs.Values.{op_of_step, word_of_writes, word_met, writes_before, writes_before_one}
use Rattle.model_text.proofs.Growing.{word_more}

-- an operation of a log at a place, as the log has it and as a model does: an opening store, or one of a kind
pub data IsAt (openings x : ℕ) (o : Operation) (l : Logged) : Type 0 where
  opens : x < openings → (v : ℕ) → op_of_step l.operation ≡ op.Store v → o.kind ≡ kind_of_step l.operation → IsAt openings x o l
  goes : openings ≤ x → o.kind ≡ kind_of_step l.operation → IsAt openings x o l

abbrev no_operation : Operation
no_operation = record { processor = 0; kind = kind.Load; word = 0; place = 0 }

abbrev none_logged : Logged
none_logged = record { line = 0; processor = 0; operation = None; word = 0; source = Own; told = None }

-- the opening word of a number
abbrev opening_word : LogLines → ℕ → ℕ
opening_word log w = unwrap_or (value_in log.head.inits (slice_index log.addresses w)) 0

-- a list of two parts, within the first and from there on
front : {X : Type 0} (f : ℕ → X) (n : ℕ) (ys : List X) (d : X) (x : ℕ) → x < n → get_or (map f (range_with_len 0 n) ++ ys) x d ≡ f x
front f n ys d x less =
    get_or_append_left (map f (range_with_len 0 n)) ys d x (let long = length-map-range_with_len f 0 n in omega (arith, less, long))
    ∙ get_or-map-range_with_len f 0 n x x d less (omega arith)

behind : {X : Type 0} (f g : ℕ → X) (n : ℕ) (ns : List ℕ) (d : X) (x : ℕ) → n ≤ x → x - n < length ns
    → get_or (map f (range_with_len 0 n) ++ map g ns) x d ≡ g (get_or ns (x - n) 0)
behind f g n ns d x more low =
    get_or-append_right (map f (range_with_len 0 n)) (map g ns) n x d (length-map-range_with_len f 0 n) more
    ∙ get_or-map g ns (x - n) 0 d low

pub two_parts : {X : Type 0} (f g : ℕ → X) (n : ℕ) (ns : List ℕ) → length (map f (range_with_len 0 n) ++ map g ns) ≡ n + length ns
two_parts f g n ns =
    let long = length-append (map f (range_with_len 0 n)) (map g ns) in
    let first = length-map-range_with_len f 0 n in
    let second = length-map ns g in
    omega (arith, long, first, second)

-- both lists of a log's trace, place by place
pub at_place : (log : LogLines) (x : ℕ) → x < length (operations_of_log log)
    → IsAt (length log.addresses) x (operation_at (operations_of_log log) x) (logged_at (steps_of_log log) x)
at_place log x low = elim (cases_lt x (length log.addresses)) [
  | inl less ↦ opening less
  | inr not_less ↦ other (omega (arith, not_less))
]
  where
    opening : x < length log.addresses
        → IsAt (length log.addresses) x (operation_at (operations_of_log log) x) (logged_at (steps_of_log log) x)
    opening less =
        let o : operation_at (operations_of_log log) x ≡ opening_operation log x =
        front (opening_operation log) (length log.addresses) (map (operation_of_log log) (numbers_of_log log)) no_operation x less in
        let l : logged_at (steps_of_log log) x ≡ opening_step log x =
        front (opening_step log) (length log.addresses) (map (logged_at log.made) (numbers_of_log log)) none_logged x less in
        subst (λ z. IsAt (length log.addresses) x z (logged_at (steps_of_log log) x)) (sym o)
        (subst (λ z. IsAt (length log.addresses) x (opening_operation log x) z) (sym l)
        (opens less (opening_word log x) refl refl))

    other : length log.addresses ≤ x
        → IsAt (length log.addresses) x (operation_at (operations_of_log log) x) (logged_at (steps_of_log log) x)
    other more =
        let long = two_parts (opening_operation log) (operation_of_log log) (length log.addresses) (numbers_of_log log) in
        let within : x - length log.addresses < length (numbers_of_log log) = omega (arith, low, more, long) in
        let m : ℕ = get_or (numbers_of_log log) (x - length log.addresses) 0 in
        let o : operation_at (operations_of_log log) x ≡ operation_of_log log m =
        behind (opening_operation log) (operation_of_log log) (length log.addresses) (numbers_of_log log) no_operation x more within in
        let l : logged_at (steps_of_log log) x ≡ logged_at log.made m =
        behind (opening_step log) (logged_at log.made) (length log.addresses) (numbers_of_log log) none_logged x more within in
        subst (λ z. IsAt (length log.addresses) x z (logged_at (steps_of_log log) x)) (sym o)
        (subst (λ z. IsAt (length log.addresses) x (operation_of_log log m) z) (sym l)
        (goes more refl))

-- what does not write leaves the word
made_nothing : (o : Op) (w : ℕ) → is_write (kind_of_op o) ≡ false → new_word o w ≡ w
made_nothing op.Load w e = refl
made_nothing (op.Store v) w e = cc
made_nothing (op.Swap v) w e = cc
made_nothing (op.Cas a n) w e = cc
made_nothing (op.Add v) w e = cc
made_nothing (op.And v) w e = cc
made_nothing (op.Or v) w e = cc
made_nothing (op.Xor v) w e = cc
made_nothing (op.Max v) w e = cc
made_nothing (op.Min v) w e = cc

step_made : (s : Option Asked) (w : ℕ) → is_write (kind_of_step s) ≡ false → new_word (op_of_step s) w ≡ w
step_made None w e = refl
step_made (Some o) w e = made_nothing o.op w e

write_no_load : (k : Kind) → is_write k ≡ true → is_load k ≡ false
write_no_load kind.Load e = cc
write_no_load kind.Store e = refl
write_no_load kind.Atomic e = refl
write_no_load kind.Fence e = cc

met_by_load : (o : Operation) → is_load o.kind ≡ true → writes_before_one o ≡ o.place + 1
met_by_load o e = ap (λ (b : Bool). o.place + (if b then 1 else 0)) e

met_by_write : (o : Operation) → is_write o.kind ≡ true → writes_before_one o ≡ o.place
met_by_write o e = ap (λ (b : Bool). o.place + (if b then 1 else 0)) (write_no_load o.kind e) ∙ omega arith

-- a log's trace, whose words' writes begin with their opening stores, has the values that its writes leave
pub valued : (log : LogLines) (words : ℕ) (writes : List ℕ) → IsMemoryTrace words (operations_of_log log) writes
    → AreOpened (length log.addresses) (operations_of_log log) writes
    → IsValued (operations_of_log log) writes (word_made (steps_of_log log)) (word_met (steps_of_log log) (operations_of_log log) writes)
valued log words writes t opened = record {
  leaves = leaves;
  reads = reads;
  follows = follows;
  begins = begins;
}
  where
    ops : List Operation
    ops = operations_of_log log

    same_kind : (x : ℕ) → x < length (operations_of_log log)
        → (operation_at (operations_of_log log) x).kind ≡ kind_of_step (logged_at (steps_of_log log) x).operation
    same_kind x low = elim (at_place log x low) [
      | opens less v store same ↦ same
      | goes more same ↦ same
    ]

    leaves : (x : ℕ) → x < length (operations_of_log log) → is_write (operation_at (operations_of_log log) x).kind ≡ false
        → (w : ℕ) → word_made (steps_of_log log) x w ≡ w
    leaves x low reads w = step_made (logged_at (steps_of_log log) x).operation w (ap is_write (sym (same_kind x low)) ∙ reads)

    -- what a write left
    left : (p : ℕ) → p < length writes → word_of_writes (steps_of_log log) writes (p + 1)
        ≡ word_made (steps_of_log log) (slice_index writes p) (word_met (steps_of_log log) (operations_of_log log) writes (slice_index writes p))
    left p low =
        let met : writes_before (operations_of_log log) (slice_index writes p) ≡ p =
        met_by_write (operation_at (operations_of_log log) (slice_index writes p)) (t.writes_are p low) ∙ t.places p low in
        sym (word_more (steps_of_log log) writes p 0 low)
        ∙ ap (λ z. word_made (steps_of_log log) (slice_index writes p) (word_of_writes (steps_of_log log) writes z)) (sym met)

    reads : (x : ℕ) → x < length (operations_of_log log) → is_load (operation_at (operations_of_log log) x).kind ≡ true
        → word_met (steps_of_log log) (operations_of_log log) writes x
        ≡ word_made (steps_of_log log) (source_at (operations_of_log log) writes x)
        (word_met (steps_of_log log) (operations_of_log log) writes (source_at (operations_of_log log) writes x))
    reads x low load = ap (word_of_writes (steps_of_log log) writes) (met_by_load (operation_at (operations_of_log log) x) load)
        ∙ left (operation_at (operations_of_log log) x).place (t.place x low (load_uses (operation_at (operations_of_log log) x).kind load))

    write_low : (x : ℕ) → x < length (operations_of_log log) → is_write (operation_at (operations_of_log log) x).kind ≡ true
        → (operation_at (operations_of_log log) x).place < length writes
    write_low x low write = t.place x low (both_on (operations_of_log log) x x write write refl).first

    follows : (x p : ℕ) → x < length (operations_of_log log) → IsNextWrite (operations_of_log log) writes p x
        → word_met (steps_of_log log) (operations_of_log log) writes x
        ≡ word_made (steps_of_log log) (slice_index writes p) (word_met (steps_of_log log) (operations_of_log log) writes (slice_index writes p))
    follows x p low next =
        let step = next.next in
        let inside = write_low x low next.write in
        ap (word_of_writes (steps_of_log log) writes) (met_by_write (operation_at (operations_of_log log) x) next.write ∙ sym next.next)
        ∙ left p (omega (arith, step, inside))

    begins : (x : ℕ) → x < length (operations_of_log log) → is_write (operation_at (operations_of_log log) x).kind ≡ true
        → ((p : ℕ) → IsNextWrite (operations_of_log log) writes p x → ⊥)
        → (v w : ℕ) → word_made (steps_of_log log) x v ≡ word_made (steps_of_log log) x w
    begins x low write none v w = elim (at_place log x low) [
      | opens less value store same ↦ ap (λ o. new_word o v) store ∙ sym (ap (λ o. new_word o w) store)
      | goes more same ↦ absurd (not_first more (operation_at (operations_of_log log) x).place refl)
    ]
      where
        not_first : length log.addresses ≤ x → (place : ℕ) → (operation_at (operations_of_log log) x).place ≡ place → ⊥
        not_first more place e =
            let inside = write_low x low write in
            let at : slice_index writes place ≡ x = ap (slice_index writes) (sym e) ∙ t.written x low write in
            let spot = opened place (omega (arith, inside, e)) in
            let above : length log.addresses ≤ slice_index writes place = omega (arith, more, at) in
            let some : 0 < place = spot.behind above in
            none (place - 1) (record {
              write = write;
              next = omega (arith, some, e);
              word = spot.word above (place - 1) (omega (arith, some)) ∙ ap (λ z. (operation_at (operations_of_log log) z).word) at;
            })
