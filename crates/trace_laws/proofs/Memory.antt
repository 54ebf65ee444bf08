-- What an order's operations leave in a word.
use Rattle.std.proofs.Common.{◌≡◌, ◌≢◌, ℕ, ◌<◌, ◌∙◌, List, [], ◌∷◌, ◌++◌, length, sym, ap, subst, get_or}
use Rattle.std.proofs.lemmas.List.{map_push, get_or-set_same}
use Rattle.packet.specs.Memory.{new_word, memory_after, memory_after_one}
use Rattle.packet.proofs.Folds.{memory_after-append, other_word, length-memory_after}
use Rattle.trace_laws.specs.declared.event.Call.{Call}
use Rattle.trace_laws.specs.Orders.{operations_of, memory_of}

pub memory_push : (opening : List ℕ) (order : List Call) (c : Call)
    → memory_of opening (order ++ c ∷ []) ≡ memory_after_one c.operation (memory_of opening order)
memory_push opening order c =
    ap (λ os. memory_after os opening) (map_push (λ (d : Call). d.operation) order c)
    ∙ memory_after-append (operations_of order) (c.operation ∷ []) opening

-- the word that an operation changes
pub word_changed : (opening : List ℕ) (order : List Call) (c : Call) (w : ℕ) → c.operation.address ≡ w
    → w < length opening
    → get_or (memory_of opening (order ++ c ∷ [])) w 0 ≡ new_word c.operation.op
    (get_or (memory_of opening order) w 0)
word_changed opening order c w here l =
    let a = c.operation.address in
    let m = memory_of opening order in
    let inside : a < length m = subst (λ (n : ℕ). a < n) (sym (length-memory_after (operations_of order) opening))
    (subst (λ (v : ℕ). v < length opening) (sym here) l) in
    ap (λ (n : List ℕ). get_or n w 0) (memory_push opening order c)
    ∙ (ap (λ (v : ℕ). get_or (memory_after_one c.operation m) v 0) (sym here)
    ∙ (get_or-set_same m a (new_word c.operation.op (get_or m a 0)) 0 inside
    ∙ ap (λ (v : ℕ). new_word c.operation.op (get_or m v 0)) here))

-- and the others
pub word_kept : (opening : List ℕ) (order : List Call) (c : Call) (w : ℕ) → w ≢ c.operation.address
    → get_or (memory_of opening (order ++ c ∷ [])) w 0 ≡ get_or (memory_of opening order) w 0
word_kept opening order c w other =
    ap (λ (n : List ℕ). get_or n w 0) (memory_push opening order c) ∙ other_word c.operation
    (memory_of opening order) w other
