-- What is noted of the words that operations of a part found.
use Rattle.std.specs.Prelude.{◌≡◌, ◌⊎◌, ◌<◌, ◌≤◌, ◌==◌, ◌&&◌, ◌||◌, ℕ, Bool, true, false, List}
use Rattle.std.specs.Prelude.{Option, Some, None, nat_eq, slice_get}
use Rattle.std.specs.HashSet.{contains}
use Rattle.packet.specs.declared.kinds.Reply.{Reply}
use Rattle.state_search.specs.Parts.{IsKept}
use Rattle.trace_laws.specs.declared.event.Event.{Event}
use Rattle.trace_laws.specs.Traces.{TraceAnswersAt}
use Rattle.trace_text.specs.declared.issued.Issued.{Issued}
use Rattle.trace_answer.specs.declared.noted.FoundWords.{FoundWords}
use Rattle.trace_answer.specs.declared.leaving.Words.{Words}
use Rattle.trace_answer.specs.declared.leaving.Words.TheVariants.{Nothing, One, Any}
use Rattle.trace_answer.specs.Leaving.{IsAmong, found_of}

-- what is noted of the word at an address: that this is found there, or that any may be, or that
-- something is
pub data Note : Type 0 where
  Word : ℕ → Note
  Anything : Note
  Something : Note

-- whether two notes are the same
abbrev pub note_eq : Note → Note → Bool
note_eq (Word v) (Word w) = v == w
note_eq (Word v) Anything = false
note_eq (Word v) Something = false
note_eq Anything (Word w) = false
note_eq Anything Anything = true
note_eq Anything Something = false
note_eq Something (Word w) = false
note_eq Something Anything = false
note_eq Something Something = true

-- whether two pairs of numbers are the same
abbrev pub same_pair : ℕ × ℕ → ℕ × ℕ → Bool
same_pair x y = (x.0 == y.0) && (x.1 == y.1)

-- whether something is noted of an address
abbrev pub has : {A : Type 0} → FoundWords A → ℕ → Note → Bool
has f a (Word v) = contains same_pair f.words (a, v)
has f a Anything = contains nat_eq f.any a
has f a Something = contains nat_eq f.some a

-- whether one of some words is found at an address, or may be, as far as it is noted
abbrev pub is_met : {A : Type 0} → FoundWords A → ℕ → Words → Bool
is_met f a Nothing = false
is_met f a (One w) = has f a (Word w) || has f a Anything
is_met f a Any = has f a Something

-- what is noted where these words are found
abbrev pub IsNoteOf : Words → Note → Type 0
IsNoteOf found (Word v) = found ≡ One v
IsNoteOf found Anything = found ≡ Any
IsNoteOf found Something = (v : ℕ) × IsAmong found v

-- a note more of an address
pub record AddsNote {A : Type 0} (old new : FoundWords A) (address : ℕ) (note : Note) : Type 0 where
  pub only : (a : ℕ) (n : Note) → has new a n ≡ true
      → (has old a n ≡ true) ⊎ ((address ≡ a) × (note ≡ n))
  pub old_ones : (a : ℕ) (n : Note) → has old a n ≡ true → has new a n ≡ true
  pub this : has new address note ≡ true

-- the notes of what was found at an address more
pub record AddsNotesOf {A : Type 0} (old new : FoundWords A) (address : ℕ) (found : Words) : Type 0 where
  pub only : (a : ℕ) (n : Note) → has new a n ≡ true
      → (has old a n ≡ true) ⊎ ((address ≡ a) × IsNoteOf found n)
  pub old_ones : (a : ℕ) (n : Note) → has old a n ≡ true → has new a n ≡ true
  pub these : (n : Note) → IsNoteOf found n → has new address n ≡ true

-- what operation k found is noted of the address of its word, if it is kept
abbrev pub IsNoteFrom : List Issued → List Bool → ℕ → ℕ → Note → Type 0
IsNoteFrom issued kept k a n = (first : Issued) × (slice_get issued k ≡ Some first) × IsKept kept k
    × (first.operation.address ≡ a) × IsNoteOf (found_of first.operation.op first.reply) n

-- the notes of operation k more
pub record AddsNotes {A : Type 0} (issued : List Issued) (kept : List Bool) (k : ℕ) (old new : FoundWords A)
    : Type 0 where
  pub only : (a : ℕ) (n : Note) → has new a n ≡ true
      → (has old a n ≡ true) ⊎ IsNoteFrom issued kept k a n
  pub old_ones : (a : ℕ) (n : Note) → has old a n ≡ true → has new a n ≡ true
  pub these : (a : ℕ) (n : Note) → IsNoteFrom issued kept k a n → has new a n ≡ true

-- operation k is one of the first n and has no answer, or event i or one behind it answers it
abbrev pub IsPassed : List Issued → List Event → ℕ → ℕ → ℕ → Type 0
IsPassed issued events n i k =
    ((first : Issued) × (slice_get issued k ≡ Some first) × (first.reply ≡ None) × (k < n))
    ⊎ ((f : ℕ) × (reply : Reply) × (i ≤ f) × TraceAnswersAt events f k reply)

-- what is noted is what these operations found, if they are kept
pub record HoldsFound {A : Type 0} (issued : List Issued) (events : List Event) (kept : List Bool) (n i : ℕ)
    (f : FoundWords A) : Type 0
  where
    pub only : (a : ℕ) (note : Note) → has f a note ≡ true
        → (k : ℕ) × IsPassed issued events n i k × IsNoteFrom issued kept k a note
    pub all : (k a : ℕ) (note : Note) → IsPassed issued events n i k
        → IsNoteFrom issued kept k a note → has f a note ≡ true
