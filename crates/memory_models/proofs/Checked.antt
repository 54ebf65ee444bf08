-- What is checked of each operation and each write makes a trace.
use Rattle.std.proofs.Common.{◌≡◌, ℕ, zero, suc, ◌+◌, ◌-◌, ◌<◌, ◌≤◌, List, length, refl, ap, arith}
use Rattle.std.specs.Prelude.{slice_index}
use Rattle.memory_models.specs.declared.kinds.Operation.{Operation}
use Rattle.memory_models.specs.Trace.{operation_at, IsMemoryTrace}
use Rattle.memory_models.specs.Checks.{IsGoodOperation, IsGoodWrite}

-- what doesn't fall from one to the next doesn't fall
rising_all : (n : ℕ) (f : ℕ → ℕ) → ((b x : ℕ) → b + 1 ≡ x → x < n → f b ≤ f x) → (k x y : ℕ) → y ≡ x + k → y < n → f x ≤ f y
rising_all n f step zero x y e low = let same : x ≡ y = omega arith in let g : f x ≡ f y = ap f same in omega arith
rising_all n f step (suc k) x y e low =
    let before = rising_all n f step k x (x + k) refl (omega arith) in
    let up = step (x + k) y (omega arith) low in
    omega (arith, before, up)

pub checked : (words : ℕ) (ops : List Operation) (writes : List ℕ) → ((x : ℕ) → x < length ops → IsGoodOperation words ops writes x)
    → ((p : ℕ) → p < length writes → IsGoodWrite ops writes p) → IsMemoryTrace words ops writes
checked words ops writes each all = record {
  processors = λ x y less low. (let k : ℕ = y - x in
      rising_all (length ops) (λ z. (operation_at ops z).processor) (λ b z e l. (each z l).processor b e) k x y (omega arith) low);
  word = λ x l. (each x l).word;
  place = λ x l u. (each x l).place u;
  source = λ x l u. (each x l).source u;
  written = λ x l w. (each x l).written w;
  low = λ p l. (all p l).low;
  writes_are = λ p l. (all p l).is;
  places = λ p l. (all p l).place;
  ordered = λ p q less low. (let k : ℕ = q - p in
      rising_all (length writes) (λ z. (operation_at ops (slice_index writes z)).word) (λ b z e l. (all z l).ordered b e) k p q (omega arith) low);
}

-- and of a trace all of it is so
pub good_operation : (words : ℕ) (ops : List Operation) (writes : List ℕ) (x : ℕ) → IsMemoryTrace words ops writes → x < length ops
    → IsGoodOperation words ops writes x
good_operation words ops writes x t low = record {
  processor = λ b e. t.processors b x (omega arith) low;
  word = t.word x low;
  place = t.place x low;
  inside = λ uses. t.low (operation_at ops x).place (t.place x low uses);
  source = t.source x low;
  written = t.written x low;
}

pub good_write : (words : ℕ) (ops : List Operation) (writes : List ℕ) (p : ℕ) → IsMemoryTrace words ops writes → p < length writes
    → IsGoodWrite ops writes p
good_write words ops writes p t low = record {
  low = t.low p low;
  is = t.writes_are p low;
  place = t.places p low;
  before = λ b e. t.low b (omega arith);
  ordered = λ b e. t.ordered b p (omega arith) low;
}
