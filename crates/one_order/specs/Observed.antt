-- What a machine shows, step by step, and when its operations are issued, served and answered.
use Rattle.std.specs.Prelude.{◌≡◌, ℕ, zero, suc, ◌+◌, ◌/◌, ◌%◌, ◌<◌, List, [], ◌∷◌, ◌++◌, Some, length, slice_get}
use Rattle.std.specs.Prelude.{slice_index, slice_index_or}
use Rattle.packet.specs.declared.kinds.Operation.{Operation}
use Rattle.home_bank.specs.declared.entry.Entry.{Entry}
use Rattle.one_order.specs.declared.answer.Answer.{Answer}

-- what a machine shows at a moment: the operations that each processor has issued, its answers in
-- the order of answering, the entries of each bank's services, and the words by address (this
-- project's own format)
pub record Observed : Type 0 where
  pub issued : List (List Operation)
  pub answers : List (List Answer)
  pub entries : List (List Entry)
  pub memory : List ℕ

-- the list of a number: none past the last
abbrev pub list_at : {A : Type 0} → List (List A) → ℕ → List A
list_at xss p = slice_index_or xss p []

-- a run is what is shown after each number of steps
abbrev pub Run : Type 0
Run = ℕ → Observed

-- P holds after t steps, and not before
pub record IsFirst (P : ℕ → Type 0) (t : ℕ) : Type 0 where
  pub holds : P t
  pub not_before : (k : ℕ) → k < t → P k → ⊥

-- processor p has issued its operation i
abbrev pub HasIssued : Observed → ℕ → ℕ → Type 0
HasIssued s p i = i < length (list_at s.issued p)

-- bank b has made the service of this place
abbrev pub HasServed : Observed → ℕ → ℕ → Type 0
HasServed s b place = place < length (list_at s.entries b)

-- p's answers hold one of its operation i
abbrev pub HasAnswered : Observed → ℕ → ℕ → Type 0
HasAnswered s p i = (k : ℕ) × (a : Answer) × (slice_get (list_at s.answers p) k ≡ Some a)
    × (a.index ≡ i)

-- p's answers hold one that names the service of this place of bank b
abbrev pub IsTold : Observed → ℕ → ℕ → ℕ → Type 0
IsTold s p b place =
    (k : ℕ) × (a : Answer) × (slice_get (list_at s.answers p) k ≡ Some a) × (a.bank ≡ b)
    × (a.place ≡ place)

-- p's operation i is issued at step t: its invocation (Herlihy and Wing, TOPLAS 12(3), 1990)
abbrev pub IsIssuedAt : Run → ℕ → ℕ → ℕ → Type 0
IsIssuedAt run p i t = IsFirst (λ k. HasIssued (run k) p i) t

-- bank b makes the service of this place at step t
abbrev pub IsServedAt : Run → ℕ → ℕ → ℕ → Type 0
IsServedAt run b place t = IsFirst (λ k. HasServed (run k) b place) t

-- p's operation i is answered at step t: its response (Herlihy and Wing)
abbrev pub IsAnsweredAt : Run → ℕ → ℕ → ℕ → Type 0
IsAnsweredAt run p i t = IsFirst (λ k. HasAnswered (run k) p i) t

-- how many elements some lists have together
abbrev pub total : {A : Type 0} → List (List A) → ℕ
total [] = 0
total (xs ∷ xss) = length xs + total xss

-- how many events have happened: issues, services and answers; of the step of an event, this is the
-- event's number (this project's own format)
abbrev pub event_count : Observed → ℕ
event_count s = total s.issued + total s.entries + total s.answers

-- what is shown is of a machine with so many tiles, tags a processor and words: a list for each
-- processor and each bank, addresses of the memory, tags that a processor has (this project's own
-- format)
pub record IsOfMachine (tiles tags words : ℕ) (s : Observed) : Type 0 where
  pub processors : length s.issued ≡ tiles
  pub answerers : length s.answers ≡ tiles
  pub banks : length s.entries ≡ tiles
  pub size : length s.memory ≡ words
  pub addresses : (p i : ℕ) (o : Operation) → slice_get (list_at s.issued p) i ≡ Some o
      → o.address < words
  pub tagged : (b place : ℕ) (e : Entry) → slice_get (list_at s.entries b) place ≡ Some e
      → e.tag.0 < tags
