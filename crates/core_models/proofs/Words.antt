-- The word that a list of operations leaves at an address is that of the last write on it.
use Rattle.std.proofs.Common.{◌≡◌, inl, inr, ℕ, zero, suc, ◌<◌, true, List, [], ◌∷◌, length, take, Some, refl, ◌∙◌, ap, subst, arith}
use Rattle.std.proofs.Common.{slice_get, slice_set, slice_index, length-set}
use Rattle.std.proofs.lemmas.Bool.{cases_eq}
use Rattle.std.proofs.lemmas.Option.{same_Some}
use Rattle.packet.specs.declared.kinds.Op.{Op}
use Rattle.packet.specs.declared.kinds.Op.TheVariants as op
use Rattle.packet.specs.declared.kinds.Operation.{Operation}
use Rattle.packet.specs.Memory.{new_word, reply_to, memory_after_one, reply_of_one, memory_after, replies}
use Rattle.memory_models.specs.Trace.{is_write}
use Rattle.model_text.specs.Kinds.{kind_of_op}
use Rattle.one_order.specs.Scripts.{reply_number}

index_same : (m : List ℕ) (a v : ℕ) → a < length m → slice_index (slice_set m a v) a ≡ v
index_same [] a v low = absurd (omega arith)
index_same (x ∷ m) zero v low = refl
index_same (x ∷ m) (suc a) v low = index_same m a v (omega arith)

index_other : (m : List ℕ) (a b v : ℕ) → (a ≡ b → ⊥) → slice_index (slice_set m a v) b ≡ slice_index m b
index_other [] a b v other = refl
index_other (x ∷ m) zero zero v other = absurd (other refl)
index_other (x ∷ m) zero (suc b) v other = refl
index_other (x ∷ m) (suc a) zero v other = refl
index_other (x ∷ m) (suc a) (suc b) v other = index_other m a b v (λ e. other (ap suc e))

index_kept : (m : List ℕ) (a : ℕ) → slice_index (slice_set m a (slice_index m a)) a ≡ slice_index m a
index_kept [] a = refl
index_kept (x ∷ m) zero = refl
index_kept (x ∷ m) (suc a) = index_kept m a

-- what doesn't write leaves the word
no_write : (o : Op) (w : ℕ) → (is_write (kind_of_op o) ≡ true → ⊥) → new_word o w ≡ w
no_write op.Load w none = refl
no_write (op.Store v) w none = absurd (none refl)
no_write (op.Swap v) w none = absurd (none refl)
no_write (op.Cas e n) w none = absurd (none refl)
no_write (op.Add v) w none = absurd (none refl)
no_write (op.And v) w none = absurd (none refl)
no_write (op.Or v) w none = absurd (none refl)
no_write (op.Xor v) w none = absurd (none refl)
no_write (op.Max v) w none = absurd (none refl)
no_write (op.Min v) w none = absurd (none refl)

-- a reply tells what an operation left
pub left_is : (o : Op) (w : ℕ) → new_word o (reply_number (reply_to o w)) ≡ new_word o w
left_is op.Load w = refl
left_is (op.Store v) w = refl
left_is (op.Swap v) w = refl
left_is (op.Cas e n) w = refl
left_is (op.Add v) w = refl
left_is (op.And v) w = refl
left_is (op.Or v) w = refl
left_is (op.Xor v) w = refl
left_is (op.Max v) w = refl
left_is (op.Min v) w = refl

pub reply_at_place : (ops : List Operation) (m : List ℕ) (k : ℕ) (o : Operation) → slice_get ops k ≡ Some o
    → slice_get (replies ops m) k ≡ Some (reply_of_one o (memory_after (take k ops) m))
reply_at_place [] m k o at = absurd (cc)
reply_at_place (x ∷ ops) m zero o at = ap (λ y. Some (reply_of_one y m)) (same_Some x o at)
reply_at_place (x ∷ ops) m (suc k) o at = reply_at_place ops (memory_after_one x m) k o at

one_keeps : (o : Operation) (m : List ℕ) (a : ℕ) → (o.address ≡ a → is_write (kind_of_op o.op) ≡ true → ⊥)
    → slice_index (memory_after_one o m) a ≡ slice_index m a
one_keeps o m a none = elim (cases_eq o.address a) [
  | inl same ↦ ap (λ v. slice_index (slice_set m o.address v) a) (no_write o.op (slice_index m o.address) (none same))
      ∙ subst (λ b. slice_index (slice_set m o.address (slice_index m o.address)) b ≡ slice_index m b) same (index_kept m o.address)
  | inr other ↦ index_other m o.address a (new_word o.op (slice_index m o.address)) other
]

-- where none of the first ones writes, the word stays
pub word_kept : (ops : List Operation) (m : List ℕ) (a n : ℕ)
    → ((i : ℕ) (o : Operation) → i < n → slice_get ops i ≡ Some o → o.address ≡ a → is_write (kind_of_op o.op) ≡ true → ⊥)
    → slice_index (memory_after (take n ops) m) a ≡ slice_index m a
word_kept ops m a zero none = refl
word_kept [] m a (suc n) none = refl
word_kept (x ∷ ops) m a (suc n) none =
    word_kept ops (memory_after_one x m) a n (λ i o less at. none (suc i) o (omega arith) at)
    ∙ one_keeps x m a (λ same write. none 0 x (omega arith) refl same write)

-- and else it is what the last write made of it
pub word_left : (ops : List Operation) (m : List ℕ) (a j n : ℕ) (o : Operation) → j < n → slice_get ops j ≡ Some o → o.address ≡ a → a < length m
    → ((i : ℕ) (q : Operation) → j < i → i < n → slice_get ops i ≡ Some q → q.address ≡ a → is_write (kind_of_op q.op) ≡ true → ⊥)
    → slice_index (memory_after (take n ops) m) a ≡ new_word o.op (slice_index (memory_after (take j ops) m) a)
word_left ops m a j zero o less at same low none = absurd (omega arith)
word_left [] m a j (suc n) o less at same low none = absurd (cc)
word_left (x ∷ ops) m a zero (suc n) o less at same low none =
    let e : x ≡ o = same_Some x o at in
    let here : x.address ≡ a = ap (λ (y : Operation). y.address) e ∙ same in
    word_kept ops (memory_after_one x m) a n (λ i q before there. none (suc i) q (omega arith) (omega arith) there)
    ∙ (subst (λ b. slice_index (memory_after_one x m) b ≡ new_word x.op (slice_index m b)) here
    (index_same m x.address (new_word x.op (slice_index m x.address)) (omega (arith, here, low)))
    ∙ ap (λ (y : Operation). new_word y.op (slice_index m a)) e)
word_left (x ∷ ops) m a (suc j) (suc n) o less at same low none =
    let sized = length-set m x.address (new_word x.op (slice_index m x.address)) in
    word_left ops (memory_after_one x m) a j n o (omega arith) at same (omega (arith, sized, low))
    (λ i q after before there. none (suc i) q (omega arith) (omega arith) there)
