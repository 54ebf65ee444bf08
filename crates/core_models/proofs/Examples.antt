-- Worked runs of two processors against the definitions: message passing without a fence and with one, and a spin.
use Rattle.std.proofs.Common.{◌≡◌, inl, inr, ℕ, zero, suc, ◌<◌, ◌≤◌, true, List, [], ◌∷◌, length, Some, None, refl, sym, ◌∙◌, ap, subst, arith}
use Rattle.std.specs.Prelude.{slice_index}
use Rattle.std.proofs.lemmas.Bool.{cases_order}
use Rattle.packet.specs.declared.kinds.Op.{Op}
use Rattle.packet.specs.declared.kinds.Op.TheVariants as op
use Rattle.packet.specs.declared.kinds.Reply.{Reply}
use Rattle.packet.specs.Memory.{new_word, reply_to}
use Rattle.home_bank.specs.declared.entry.Entry.{Entry}
use Rattle.one_order.specs.Scripts.{reply_number}
use Rattle.packet.specs.declared.kinds.Operation.{Operation as Asked}
use Rattle.packet.specs.declared.kinds.Reply.TheVariants.{Old, Ok as Stored}
use Rattle.script_lines.specs.declared.line.Line.{Line}
use Rattle.script_lines.specs.declared.line.Line.TheVariants as line
use Rattle.script_lines.specs.declared.line.Value.TheVariants.{Number}
use Rattle.memory_models.specs.declared.kinds.Kind.{Kind}
use Rattle.memory_models.specs.declared.kinds.Kind.TheVariants.{Load, Store, Fence}
use Rattle.memory_models.specs.declared.kinds.Operation.{Operation}
use Rattle.memory_models.specs.Trace.{is_load, is_write, uses_word, operation_at, source_at}
use Rattle.memory_models.specs.Machines.{IsSequential}
use Rattle.one_order.specs.declared.ordered.Ordered.{Ordered}
use Rattle.one_order.specs.Observed.{Observed}
use Rattle.core_models.specs.Programs.{Made, Fenced, steps_of_lines}
use Rattle.core_models.specs.Accesses.{Access, opening_store, operation_of_row, accesses_shown}
use Rattle.core_models.specs.Values.{reply_of_row}
use Rattle.core_models.specs.Traces.{access_at, ComesBefore, IsTraceOf}
use Rattle.core_models.specs.Runs.{HasFencesBetween}

-- a spin whose third load brings the number sought is three operations; what stands behind it comes next
spin_is_three : steps_of_lines (line.Spin 0 1 9 ∷ line.Fence ∷ line.Load 1 ∷ []) 0 (Some (Old 0) ∷ Some (Old 0) ∷ Some (Old 1) ∷ Some (Old 42) ∷ [])
    ≡ Made 0 ∷ Made 1 ∷ Made 2 ∷ Fenced 3 ∷ Made 3 ∷ []
spin_is_three = refl

-- an operation that isn't issued is none, nor is what follows it
rest_is_not_issued : steps_of_lines (line.Load 0 ∷ line.Fence ∷ line.Load 1 ∷ line.Fence ∷ []) 0 (None ∷ []) ≡ Made 0 ∷ Fenced 1 ∷ []
rest_is_not_issued = refl

abbrev asks : Kind → ℕ → ℕ → Asked
asks Load a v = record { address = a; op = op.Load }
asks Store a v = record { address = a; op = op.Store v }
asks other a v = record { address = a; op = op.Load }

abbrev entry : ℕ → ℕ → Op → Reply → Entry
entry source address op reply = record { source = source; tag = record { 0 = 0 }; address = address; op = op; reply = reply }

-- processor 0 stores the data, 42, in word 1 and then the flag in word 0; processor 1 loads the flag and then the data
abbrev passing : Observed
passing = record {
  issued = (asks Store 1 42 ∷ asks Store 0 1 ∷ []) ∷ (asks Load 0 0 ∷ asks Load 1 0 ∷ []) ∷ [];
  answers =
      (record { index = 1; op = op.Store 1; reply = Stored; bank = 0; place = 0 }
      ∷ record { index = 0; op = op.Store 42; reply = Stored; bank = 1; place = 1 } ∷ [])
      ∷ (record { index = 1; op = op.Load; reply = Old 0; bank = 1; place = 0 } ∷ record { index = 0; op = op.Load; reply = Old 1; bank = 0; place = 1 } ∷ [])
      ∷ [];
  entries = (entry 0 0 (op.Store 1) Stored ∷ entry 1 0 op.Load (Old 1) ∷ []) ∷ (entry 1 1 op.Load (Old 0) ∷ entry 0 1 (op.Store 42) Stored ∷ []) ∷ [];
  memory = 1 ∷ 42 ∷ [];
}

abbrev plain : List (List Line)
plain = (line.Store 1 (Number 42) ∷ line.Store 0 (Number 1) ∷ []) ∷ (line.Load 0 ∷ line.Load 1 ∷ []) ∷ []

abbrev fenced : List (List Line)
fenced =
    (line.Store 1 (Number 42) ∷ line.Fence ∷ line.Store 0 (Number 1) ∷ []) ∷ (line.Load 0 ∷ line.Fence ∷ line.Load 1 ∷ []) ∷ []

abbrev row : ℕ → ℕ → ℕ → ℕ → ℕ → Ordered
row bank place source index served =
    record { bank = bank; place = place; source = source; index = index; issued = 0; served = served; answered = None }

-- the data is loaded before it is stored, and the flag is stored before it is loaded
abbrev rows : List Ordered
rows = row 1 0 1 1 5 ∷ row 0 0 0 1 6 ∷ row 0 1 1 0 8 ∷ row 1 1 0 0 10 ∷ []

abbrev access : ℕ → ℕ → Kind → ℕ → ℕ → Access
access processor index kind word served = record { processor = processor; index = index; kind = kind; word = word; served = served }

abbrev accesses : List Access
accesses =
    opening_store 0 ∷ opening_store 1
    ∷ access 2 0 Store 1 10 ∷ access 2 1 Store 0 6
    ∷ access 3 0 Load 0 8 ∷ access 3 1 Load 1 5 ∷ []

passing_is : accesses_shown 2 passing rows plain ≡ accesses
passing_is = refl

-- with fences in the scripts these stand between
fences_stand_between : accesses_shown 2 passing rows fenced
    ≡ opening_store 0 ∷ opening_store 1
    ∷ access 2 0 Store 1 10 ∷ access 2 1 Fence 0 0 ∷ access 2 1 Store 0 6
    ∷ access 3 0 Load 0 8 ∷ access 3 1 Fence 0 0 ∷ access 3 1 Load 1 5 ∷ []
fences_stand_between = refl

-- an operation that has not taken effect is left out
unserved_is_left_out : accesses_shown 2 passing (row 0 0 0 1 6 ∷ []) plain ≡ opening_store 0 ∷ opening_store 1 ∷ access 2 1 Store 0 6 ∷ []
unserved_is_left_out = refl

-- the flag's load replied what the flag's store left, and an addition leaves the sum with what it replied
flag_replied : reply_of_row passing (row 0 1 1 0 8) ≡ Some (Old (new_word (operation_of_row passing (row 0 0 0 1 6)).op (reply_number Stored)))
flag_replied = refl

-- an addition that finds 2 replies 2
sum_replies_what_it_found : reply_to (op.Add 5) 2 ≡ Old 2
sum_replies_what_it_found = refl

sum_is_left : new_word (op.Add 5) (reply_number (Old 2)) ≡ 7
sum_is_left = refl

-- two lines without a fence between them aren't kept apart
plain_is_not_apart : HasFencesBetween (line.Load 0 ∷ line.Load 1 ∷ []) → ⊥
plain_is_not_apart h = elim (h 0 (line.Load 0) (line.Load 1) refl refl) [
  | inl e ↦ cc
  | inr e ↦ cc
]

-- no order of one memory explains the trace of that run: so without fences the law of sequential scripts fails
module _ (ops : List Operation) (writes : List ℕ) (t : IsTraceOf accesses ops writes) where
  -- the flag's load reads the flag's store, and the data's load the opening data
  flag_source : (s : ℕ) → s < 6 → is_write (access_at accesses s).kind ≡ true → (access_at accesses s).word ≡ 0 → 6 ≤ (access_at accesses s).served → s ≡ 3
  flag_source zero low write word time = absurd (omega arith)
  flag_source (suc zero) low write word time = absurd (omega arith)
  flag_source (suc (suc zero)) low write word time = absurd (omega arith)
  flag_source (suc (suc (suc zero))) low write word time = refl
  flag_source (suc (suc (suc (suc zero)))) low write word time = absurd (cc)
  flag_source (suc (suc (suc (suc (suc zero))))) low write word time = absurd (cc)
  flag_source (suc (suc (suc (suc (suc (suc s)))))) low write word time = absurd (omega arith)

  data_source : (s : ℕ) → s < 6 → is_write (access_at accesses s).kind ≡ true → (access_at accesses s).word ≡ 1 → (access_at accesses s).served < 5 → s ≡ 1
  data_source zero low write word time = absurd (omega arith)
  data_source (suc zero) low write word time = refl
  data_source (suc (suc zero)) low write word time = absurd (omega arith)
  data_source (suc (suc (suc zero))) low write word time = absurd (omega arith)
  data_source (suc (suc (suc (suc zero)))) low write word time = absurd (cc)
  data_source (suc (suc (suc (suc (suc zero))))) low write word time = absurd (cc)
  data_source (suc (suc (suc (suc (suc (suc s)))))) low write word time = absurd (omega arith)

  reads_flag : source_at ops writes 4 ≡ 3
  reads_flag =
      let it = t.source 4 (omega arith) refl in
      let low = t.low (operation_at ops 4).place (t.place 4 (omega arith) refl) in
      let last : 6 ≤ (access_at accesses (source_at ops writes 4)).served =
      t.last 4 3 (omega arith) (omega arith) refl (record { write = refl; word = refl; before = omega arith }) in
      flag_source (source_at ops writes 4) low it.write it.word last

  reads_opening : source_at ops writes 5 ≡ 1
  reads_opening =
      let it = t.source 5 (omega arith) refl in
      let low = t.low (operation_at ops 5).place (t.place 5 (omega arith) refl) in
      data_source (source_at ops writes 5) low it.write it.word it.before

  -- the opening store of the data is before the processor's in the word's order
  opening_first : (operation_at ops 1).place < (operation_at ops 2).place
  opening_first =
      let a = t.written 1 (omega arith) refl in
      let b = t.written 2 (omega arith) refl in
      elim (cases_order (operation_at ops 1).place (operation_at ops 2).place) [
        | inl same ↦ (let e : 1 ≡ 2 = sym a.1 ∙ (ap (slice_index writes) same ∙ b.1) in absurd (omega (arith, e)))
        | inr (inl less) ↦ less
        | inr (inr more) ↦ (let order : ComesBefore (access_at accesses (source_at ops writes 2)) (access_at accesses (source_at ops writes 1)) =
            t.ordered (operation_at ops 2).place (operation_at ops 1).place more a.0 in
            let at : ComesBefore (access 2 0 Store 1 10) (opening_store 1) =
            subst (λ z. ComesBefore (access 2 0 Store 1 10) (access_at accesses z)) a.1
            (subst (λ z. ComesBefore (access_at accesses z) (access_at accesses (source_at ops writes 1))) b.1 order) in
            elim at [
              | inl less ↦ absurd (omega (arith, less))
              | inr less ↦ (let l = less.1 in absurd (omega (arith, l)))
            ])
      ]

  passing_is_not_sequential : (turn : ℕ → ℕ) → IsSequential ops writes turn → ⊥
  passing_is_not_sequential turn q =
      let count = t.count in
      let e = λ (x : ℕ) (low : x < 6). t.each x low in
      let low : 5 < length ops = omega (arith, count) in
      let stores : turn 2 < turn 3 = q.program 2 3 (omega (arith, count)) (record {
        processor = (e 2 (omega arith)).processor ∙ sym (e 3
            (omega arith)).processor;
        before = omega arith;
      }) in
      let loads : turn 4 < turn 5 = q.program 4 5 low (record {
        processor = (e 4 (omega arith)).processor ∙ sym (e 5
            (omega arith)).processor;
        before = omega arith;
      }) in
      let flag : turn 3 < turn 4 = subst (λ s. turn s < turn 4) reads_flag (q.read 4 (omega (arith, count)) (ap is_load (e 4 (omega arith)).kind)) in
      let data_order : turn 1 < turn 2 = q.word_order 1 2 (omega (arith, count)) (omega (arith, count)) (ap is_write (e 1 (omega arith)).kind)
      (ap is_write (e 2 (omega arith)).kind)
      (record {
        first = ap uses_word (e 1 (omega arith)).kind;
        second = ap uses_word (e 2 (omega arith)).kind;
        word = (e 1 (omega arith)).word ∙ sym
            (e 2 (omega arith)).word;
      }) opening_first in
      let last = q.last 5 2 low (omega (arith, count)) (ap is_load (e 5 (omega arith)).kind) (ap is_write (e 2 (omega arith)).kind)
      (record {
        first = ap uses_word (e 5 (omega arith)).kind;
        second = ap uses_word (e 2 (omega arith)).kind;
        word = (e 5 (omega arith)).word ∙ sym
            (e 2 (omega arith)).word;
      })
      (omega (arith, stores, loads, flag)) in
      elim last [
        | inl same ↦ (let bad : 2 ≡ 1 = same ∙ reads_opening in omega (arith, bad))
        | inr less ↦ (let back : turn 2 < turn 1 = subst (λ s. turn 2 < turn s) reads_opening less in omega (arith, back, data_order))
      ]
