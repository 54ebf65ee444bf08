-- Machines whose steps are issues, services and answers.
use Rattle.std.specs.Prelude.{◌≡◌, ℕ, zero, suc, ◌<◌, List, [], ◌∷◌, ◌++◌, Some, length, take, replicate, slice_get}
use Rattle.std.specs.Prelude.{slice_set}
use Rattle.packet.specs.declared.kinds.Operation.{Operation}
use Rattle.packet.specs.Memory.{replies, memory_after_one, reply_of_one}
use Rattle.torus.specs.declared.step.Tag.{Tag}
use Rattle.home_bank.specs.declared.entry.Entry.{Entry}
use Rattle.one_order.specs.declared.answer.Answer.{Answer}
use Rattle.one_order.specs.Observed.{Observed, Run, list_at, HasAnswered, IsTold}
use Rattle.one_order.specs.Order.{LinearizationPoint, operations_of, home, count_at, IsInOrder}

-- what a step does to the operations (Herlihy and Wing, TOPLAS 12(3), 1990: invocations and
-- responses, and the effects between them)
pub data Event : Type 0 where
  Nothing : Event
  -- a processor issues its next operation
  Issued : (source : ℕ) (operation : Operation) → Event
  -- the home bank serves an operation of a processor, that came under a tag
  Served : (source index : ℕ) (tag : Tag) (operation : Operation) → Event
  -- a processor receives an answer
  Answered : (source : ℕ) (answer : Answer) → Event

-- some lists, of which one has grown by an element at its end
abbrev pub push_at : {A : Type 0} → List (List A) → ℕ → A → List (List A)
push_at xss p x = slice_set xss p (list_at xss p ++ x ∷ [])

-- what a bank keeps of a service
abbrev pub event_entry : ℕ → Tag → Operation → List ℕ → Entry
event_entry p tag o memory =
    record { source = p; tag = tag; address = o.address; op = o.op; reply = reply_of_one o memory }

-- what is shown after an event
abbrev pub happens : ℕ → Observed → Event → Observed
happens tiles s Nothing = s
happens tiles s (Issued p o) =
    record {
      issued = push_at s.issued p o;
      answers = s.answers;
      entries = s.entries;
      memory = s.memory;
    }
happens tiles s (Served p i tag o) = record {
  issued = s.issued;
  answers = s.answers;
  entries = push_at s.entries (home tiles o) (event_entry p tag o s.memory);
  memory = memory_after_one o s.memory;
}
happens tiles s (Answered p a) =
    record {
      issued = s.issued;
      answers = push_at s.answers p a;
      entries = s.entries;
      memory = s.memory;
    }

-- what is shown before any event
abbrev pub nothing_yet : ℕ → List ℕ → Observed
nothing_yet tiles opening =
    record {
      issued = replicate tiles [];
      answers = replicate tiles [];
      entries = replicate tiles [];
      memory = opening;
    }

-- what the event of step t adds to the order of the services
abbrev pub points_of : Event → ℕ → List LinearizationPoint
points_of Nothing t = []
points_of (Issued p o) t = []
points_of (Served p i tag o) t = record { source = p; index = i; operation = o; step = t } ∷ []
points_of (Answered p a) t = []

-- the services of the first n steps, in their order; step k + 1 is the one that `event k` tells
abbrev pub order_after : (ℕ → Event) → ℕ → List LinearizationPoint
order_after event zero = []
order_after event (suc n) = order_after event n ++ points_of (event n) (suc n)

-- a processor of the machine may issue an operation on a word of the memory
pub record MayIssue (tiles words : ℕ) (p : ℕ) (o : Operation) : Type 0 where
  pub source : p < tiles
  pub address : o.address < words

-- a bank may serve p's operation i if it was issued so, isn't served yet, and is the earliest of
-- that processor with that home that isn't
pub record MayServe (tiles tags : ℕ) (s : Observed) (order : List LinearizationPoint) (p i : ℕ)
    (tag : Tag) (o : Operation) : Type 0 where
  pub tagged : tag.0 < tags
  pub issued : slice_get (list_at s.issued p) i ≡ Some o
  pub waits : IsInOrder order p i → ⊥
  pub in_turn : (j : ℕ) (earlier : Operation) → j < i → slice_get (list_at s.issued p) j ≡ Some earlier
      → home tiles earlier ≡ home tiles o → IsInOrder order p j

-- an answer of p tells a service in the order: its operation, bank, place and reply
pub record TellsService (tiles : ℕ) (opening : List ℕ) (order : List LinearizationPoint) (p : ℕ)
    (a : Answer) : Type 0 where
  pub k : ℕ
  pub point : LinearizationPoint
  pub there : slice_get order k ≡ Some point
  pub source : point.source ≡ p
  pub index : point.index ≡ a.index
  pub op : a.op ≡ point.operation.op
  pub bank : a.bank ≡ home tiles point.operation
  pub place : a.place ≡ count_at tiles a.bank (take k order)
  pub reply : slice_get (replies (operations_of order) opening) k ≡ Some a.reply

-- a processor may receive an answer that tells a service, of an operation that has none yet, once
-- it has the answers of its earlier services of that bank: replies of one bank to one processor
-- don't overtake each other
pub record MayAnswer (tiles : ℕ) (opening : List ℕ) (s : Observed) (order : List LinearizationPoint)
    (p : ℕ) (a : Answer) : Type 0 where
  pub tells : TellsService tiles opening order p a
  pub first : HasAnswered s p a.index → ⊥
  pub in_turn : (place : ℕ) (earlier : Entry) → place < a.place
      → slice_get (list_at s.entries a.bank) place ≡ Some earlier → earlier.source ≡ p
      → IsTold s p a.bank place

-- what an event asks of the moment before it, and of the order of the services so far
abbrev pub MayHappen : ℕ → ℕ → List ℕ → Observed → List LinearizationPoint → Event → Type 0
MayHappen tiles tags opening s order Nothing = Unit {0}
MayHappen tiles tags opening s order (Issued p o) = MayIssue tiles (length opening) p o
MayHappen tiles tags opening s order (Served p i tag o) = MayServe tiles tags s order p i tag o
MayHappen tiles tags opening s order (Answered p a) = MayAnswer tiles opening s order p a

-- The first n steps of a run go from where nothing has happened by one event each at most, and each
-- event may happen where it does.
pub record IsHistory (tiles tags : ℕ) (opening : List ℕ) (run : Run) (event : ℕ → Event)
    (n : ℕ) : Type 0 where
  pub start : run 0 ≡ nothing_yet tiles opening
  pub each : (k : ℕ) → k < n → run (suc k) ≡ happens tiles (run k) (event k)
  pub may : (k : ℕ) → k < n → MayHappen tiles tags opening (run k) (order_after event k) (event k)
