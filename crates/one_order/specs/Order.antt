-- Orders of a run's operations: linearizations, and that they are the orders of the services.
use Rattle.std.specs.Prelude.{◌≡◌, ℕ, ◌%◌, ◌==◌, ◌<◌, ◌≤◌, List, Some, length, map, take, count_by, slice_get}
use Rattle.packet.specs.declared.kinds.Operation.{Operation}
use Rattle.packet.specs.Memory.{replies, memory_after}
use Rattle.home_bank.specs.declared.entry.Entry.{Entry}
use Rattle.one_order.specs.declared.answer.Answer.{Answer}
use Rattle.one_order.specs.Observed.{Observed, Run, list_at, IsIssuedAt, IsServedAt, IsAnsweredAt}

-- an operation of an order: which one of which processor it is, what it asks, and the step at which
-- it takes effect (Herlihy and Wing, TOPLAS 12(3), 1990: between invocation and response an
-- operation takes effect instantaneously)
pub record LinearizationPoint : Type 0 where
  pub source : ℕ
  pub index : ℕ
  pub operation : Operation
  pub step : ℕ

-- what the operations of an order ask, in the order
abbrev pub operations_of : List LinearizationPoint → List Operation
operations_of order = map (λ x. x.operation) order

-- the home bank of an operation: the bank of its address
abbrev pub home : ℕ → Operation → ℕ
home tiles o = o.address % tiles

-- how many operations of an order have a bank as their home
abbrev pub count_at : ℕ → ℕ → List LinearizationPoint → ℕ
count_at tiles b order = count_by (λ x. home tiles x.operation == b) order

-- operation i of p is in the order
abbrev pub IsInOrder : List LinearizationPoint → ℕ → ℕ → Type 0
IsInOrder order p i = (k : ℕ) × (x : LinearizationPoint) × (slice_get order k ≡ Some x)
    × (x.source ≡ p) × (x.index ≡ i)

-- operation i of p stands in the order before place k
abbrev pub StandsBefore : List LinearizationPoint → ℕ → ℕ → ℕ → Type 0
StandsBefore order k p i =
    (j : ℕ) × (x : LinearizationPoint) × (j < k) × (slice_get order j ≡ Some x) × (x.source ≡ p)
    × (x.index ≡ i)

-- the k-th of the order was issued as it stands there, strictly before it takes effect
pub record WasIssued (run : Run) (n : ℕ) (x : LinearizationPoint) : Type 0 where
  pub operation : slice_get (list_at (run n).issued x.source) x.index ≡ Some x.operation
  pub at : ℕ
  pub issued : IsIssuedAt run x.source x.index at
  pub before : at < x.step

-- the operation of an answer takes effect in the order, strictly before the answer, which tells the
-- reply of the one sequential memory at its place
pub record TookEffect (opening : List ℕ) (run : Run) (order : List LinearizationPoint) (p : ℕ)
    (a : Answer) : Type 0 where
  pub k : ℕ
  pub point : LinearizationPoint
  pub there : slice_get order k ≡ Some point
  pub source : point.source ≡ p
  pub index : point.index ≡ a.index
  pub op : a.op ≡ point.operation.op
  pub at : ℕ
  pub answered : IsAnsweredAt run p a.index at
  pub before : point.step < at
  pub reply : slice_get (replies (operations_of order) opening) k ≡ Some a.reply

-- A legal order of the operations of a run's first n steps, over one sequential memory: a
-- linearization (Herlihy and Wing). Its operations are distinct and their steps rise within the
-- run; each was issued before; each answered operation is in it, before its answer, with the
-- memory's reply; the shown words are what the memory holds in the end.
pub record IsLegalOrder (opening : List ℕ) (run : Run) (n : ℕ)
    (order : List LinearizationPoint) : Type 0 where
  pub rising : (j k : ℕ) (x y : LinearizationPoint) → j < k → slice_get order j ≡ Some x
      → slice_get order k ≡ Some y → x.step < y.step
  pub within : (k : ℕ) (x : LinearizationPoint) → slice_get order k ≡ Some x → x.step ≤ n
  pub distinct : (j k : ℕ) (x y : LinearizationPoint) → slice_get order j ≡ Some x
      → slice_get order k ≡ Some y
      → x.source ≡ y.source → x.index ≡ y.index → j ≡ k
  pub issued : (k : ℕ) (x : LinearizationPoint) → slice_get order k ≡ Some x → WasIssued run n x
  pub answered : (p i : ℕ) (a : Answer) → slice_get (list_at (run n).answers p) i ≡ Some a
      → TookEffect opening run order p a
  pub memory : (run n).memory ≡ memory_after (operations_of order) opening

-- the k-th of the order is the service of its home bank whose place is the number of operations
-- before it in the order with that home: made at its step, of its operation, with the memory's
-- reply
pub record WasServed (tiles : ℕ) (opening : List ℕ) (run : Run) (n : ℕ)
    (order : List LinearizationPoint) (k : ℕ) (x : LinearizationPoint) : Type 0 where
  pub entry : Entry
  pub there : slice_get (list_at (run n).entries (home tiles x.operation))
      (count_at tiles (home tiles x.operation) (take k order)) ≡ Some entry
  pub source : entry.source ≡ x.source
  pub address : entry.address ≡ x.operation.address
  pub op : entry.op ≡ x.operation.op
  pub reply : slice_get (replies (operations_of order) opening) k ≡ Some entry.reply
  pub served : IsServedAt run (home tiles x.operation)
      (count_at tiles (home tiles x.operation) (take k order)) x.step

-- an answer names the service of its operation
pub record NamesService (tiles : ℕ) (order : List LinearizationPoint) (p : ℕ) (a : Answer) : Type 0
  where
    pub k : ℕ
    pub point : LinearizationPoint
    pub there : slice_get order k ≡ Some point
    pub source : point.source ≡ p
    pub index : point.index ≡ a.index
    pub bank : a.bank ≡ home tiles point.operation
    pub place : a.place ≡ count_at tiles a.bank (take k order)

-- the service of this place of bank b is named by one of the first i answers of p
abbrev pub IsToldBefore : Observed → ℕ → ℕ → ℕ → ℕ → Type 0
IsToldBefore s p i b place =
    (j : ℕ) × (c : Answer) × (j < i) × (slice_get (list_at s.answers p) j ≡ Some c) × (c.bank ≡ b)
    × (c.place ≡ place)

-- The order is that of the services (this project's own format): each operation of it is one
-- service, each service of each bank is of one of them, each answer names its service, no two
-- answers of a processor are of one operation, each bank serves one processor's operations in the
-- order of their issue, and each processor is answered by one bank in the order of its services.
pub record IsServiceOrder (tiles : ℕ) (opening : List ℕ) (run : Run) (n : ℕ)
    (order : List LinearizationPoint) : Type 0 where
  pub served : (k : ℕ) (x : LinearizationPoint) → slice_get order k ≡ Some x
      → WasServed tiles opening run n order k x
  pub no_others : (b : ℕ) → length (list_at (run n).entries b) ≡ count_at tiles b order
  pub places : (p i : ℕ) (a : Answer) → slice_get (list_at (run n).answers p) i ≡ Some a
      → NamesService tiles order p a
  pub once : (p i j : ℕ) (a c : Answer) → slice_get (list_at (run n).answers p) i ≡ Some a
      → slice_get (list_at (run n).answers p) j ≡ Some c
      → a.index ≡ c.index → i ≡ j
  pub in_turn : (k i : ℕ) (y : LinearizationPoint) (o : Operation) → slice_get order k ≡ Some y
      → i < y.index
      → slice_get (list_at (run n).issued y.source) i ≡ Some o
      → home tiles o ≡ home tiles y.operation
      → StandsBefore order k y.source i
  pub answer_turns : (p i place : ℕ) (a : Answer) (earlier : Entry)
      → slice_get (list_at (run n).answers p) i ≡ Some a → place < a.place
      → slice_get (list_at (run n).entries a.bank) place ≡ Some earlier → earlier.source ≡ p
      → IsToldBefore (run n) p i a.bank place
