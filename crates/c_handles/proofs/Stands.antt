-- What each record makes is a trace.
use Rattle.std.proofs.Common.{◌≡◌, ◌⊎◌, ⊎_elim, inl, inr, refl, ℕ, zero, suc, ◌+◌, ◌==◌, [], drop, Some, None, false, List, ◌∷◌, sym, ◌∙◌, ap, subst, arith}
use Rattle.std.proofs.Common.{slice_get}
use Rattle.std.specs.Prelude.{nat_lt, not, Result, Ok, Err, ok_or, if◌then◌else◌}
use Rattle.std.specs.List.{slice_index_or}
use Rattle.lexer.specs.declared.fault.LineFault.{LineFault}
use Rattle.lexer.specs.Outcome.{line_of_fault}
use Rattle.lexer.specs.Faults.{then_lines}
use Rattle.trace_laws.specs.declared.event.Event.{Event}
use Rattle.torus.specs.declared.fault.Fault.{Fault}
use Rattle.torus.specs.declared.fault.Fault.TheVariants as fault
use Rattle.trace_text.proofs.Outcomes.{one_ok, bind_ok, else_ok, then_ok, if_ok, not_true, lt_true}
use Rattle.trace_text.specs.IssueNumbers.{numbers_of}
use Rattle.c_handles.specs.declared.record.EventRecord.{EventRecord}
use Rattle.c_handles.specs.Numbered.{op_numbered, reply_numbered}
use Rattle.c_handles.specs.Gathered.{Gathered, answer_gathered, issue_gathered, after_record, events_from, is_replied, gathered_answer, gathered_issue}
use Rattle.c_handles.specs.Kept.{IsGathered}
use Rattle.c_handles.proofs.Events.{answer_kept, issue_kept}

issue_stands : (words : ℕ) (g next : Gathered) (e : EventRecord) → IsGathered words g → issue_gathered words g e ≡ Ok next → IsGathered words next
issue_stands words g next e k h =
    let op = bind_ok (ok_or (op_numbered e.operation e.first e.second) fault.Line) _ next h in
    let processor = else_ok (not (nat_lt e.processor 4096)) fault.Processor _ next op.2 in
    let address = else_ok (not (nat_lt e.address words)) fault.Address _ next processor.1 in
    let same : gathered_issue g e.processor (record { address = e.address; op = op.0 }) ≡ next = one_ok _ next address.1 in
    subst (IsGathered words) same
    (issue_kept words g k e.processor (record { address = e.address; op = op.0 })
    (lt_true e.address words (not_true (nat_lt e.address words) address.0)))

answer_stands : (words : ℕ) (g next : Gathered) (e : EventRecord) → IsGathered words g → answer_gathered g e ≡ Ok next → IsGathered words next
answer_stands words g next e k h =
    let reply = bind_ok (ok_or (reply_numbered e.has_old e.old) fault.Line) _ next h in
    let processor = else_ok (not (nat_lt e.processor 4096)) fault.Processor _ next reply.2 in
    let n = bind_ok (ok_or (slice_get (numbers_of g.numbers e.processor) e.index) fault.Range) _ next processor.1 in
    let goes = else_ok (not (is_replied (slice_get g.events n.0) reply.0)) fault.Line _ next n.2 in
    let new = else_ok (slice_index_or g.answered n.0 false) fault.Setting _ next goes.1 in
    let same : gathered_answer g n.0 reply.0 ≡ next = one_ok _ next new.1 in
    subst (IsGathered words) same
    (answer_kept words g k n.0 reply.0 (not_true (is_replied (slice_get g.events n.0) reply.0) goes.0) new.0)

-- each record keeps it
pub record_stands : (words : ℕ) (g next : Gathered) (e : EventRecord) → IsGathered words g → after_record words g e ≡ Ok next → IsGathered words next
record_stands words g next e k h = ⊎_elim
    (λ m. issue_stands words g next e k m.1)
    (λ m. let a = then_ok (e.kind == 1) fault.Line (answer_gathered g e) next m.1 in answer_stands words g next e k a.1)
    (if_ok (e.kind == 0) (issue_gathered words g e) (if e.kind == 1 then answer_gathered g e else Err fault.Line) next h)

-- the record that is next, and those behind it
drop_next : (records : List EventRecord) (k : ℕ) (e : EventRecord) → slice_get records k ≡ Some e
    → drop k records ≡ e ∷ drop (k + 1) records
drop_next [] k e is = absurd (let no : None ≡ Some e = is in cc)
drop_next (d ∷ records) zero e is = ap (λ (x : EventRecord). x ∷ records) (let same : Some d ≡ Some e = is in cc)
drop_next (d ∷ records) (suc k) e is =
    drop_next records k e is
    ∙ ap (λ (n : ℕ). e ∷ drop n (d ∷ records)) (let one : suc (k + 1) ≡ suc k + 1 = omega arith in one)

-- one record more
pub record_step : (words : ℕ) (g next : Gathered) (k : ℕ) (records : List EventRecord) (e : EventRecord) (all : Result (List Event) LineFault)
    → slice_get records k ≡ Some e → after_record words g e ≡ Ok next → events_from words g k (drop k records) ≡ all
    → events_from words next (k + 1) (drop (k + 1) records) ≡ all
record_step words g next k records e all is made reads =
    sym (ap (λ m. then_lines k m (λ n. events_from words n (k + 1) (drop (k + 1) records))) made)
    ∙ (sym (ap (events_from words g k) (drop_next records k e is)) ∙ reads)

-- that memory is refused is told at no place, and every other fault at its own
told_where : (f : Fault) (place : ℕ) → (f ≡ fault.Memory) ⊎ (line_of_fault f place ≡ place)
told_where fault.Memory place = inl refl
told_where fault.Radix place = inr refl
told_where fault.Dimensions place = inr refl
told_where fault.Tiles place = inr refl
told_where fault.Line place = inr refl
told_where fault.Setting place = inr refl
told_where fault.Range place = inr refl
told_where fault.Address place = inr refl
told_where fault.Processor place = inr refl
told_where fault.Length place = inr refl
told_where fault.Last place = inr refl
told_where fault.Step place = inr refl
told_where fault.Count place = inr refl
told_where fault.Dateline place = inr refl

-- a record that can't stand
pub record_fails : (words : ℕ) (g : Gathered) (k : ℕ) (records : List EventRecord) (e : EventRecord) (f : Fault) (told : LineFault)
    (all : Result (List Event) LineFault) → slice_get records k ≡ Some e → (f ≡ fault.Memory) ⊎ (after_record words g e ≡ Err f)
    → told ≡ record { fault = f; line = line_of_fault f k } → events_from words g k (drop k records) ≡ all
    → (told ≡ record { fault = fault.Memory; line = 0 }) ⊎ (all ≡ Err told)
record_fails words g k records e f told all is how tells reads =
    let refused : f ≡ fault.Memory → told ≡ record { fault = fault.Memory; line = 0 } =
    λ m. tells ∙ ap (λ (x : Fault). record { fault = x; line = line_of_fault x k }) m in
    ⊎_elim
    (λ (m : f ≡ fault.Memory). inl (refused m))
    (λ (l : line_of_fault f k ≡ k). ⊎_elim
    (λ (m : f ≡ fault.Memory). inl (refused m))
    (λ (made : after_record words g e ≡ Err f).
    let here : told ≡ record { fault = f; line = k } = tells ∙ ap (λ (n : ℕ). record { fault = f; line = n }) l in
    inr (sym reads
    ∙ (ap (events_from words g k) (drop_next records k e is)
    ∙ (ap (λ m. then_lines k m (λ n. events_from words n (k + 1) (drop (k + 1) records))) made
    ∙ ap (λ (x : LineFault). Err x) (sym here)))))
    how)
    (told_where f k)
