-- What is written where routers choose and no numbers rise along the escapes: that packets of one flit
-- never deadlock; or the greatest dead set, and behind it channels that fill up until nothing can go
-- (this project's own format).
use Rattle.std.specs.Prelude.{◌≡◌, ℕ, ◌-◌, ◌<◌, ◌==◌, Bool, true, false, not, if◌then◌else◌}
use Rattle.std.specs.Prelude.{Option, Some, None}
use Rattle.std.specs.Prelude.{List, [], ◌++◌, length, All, codes, decimal, map, slice_index, get_or}
use Rattle.wormhole.specs.Events.{NetEvent}
use Rattle.network_judge.specs.declared.table.Reply.{Reply}
use Rattle.network_judge.specs.TableNet.{Flits}
use Rattle.network_judge.specs.Marks.{is_marked_at}
use Rattle.deadlock_laws.specs.Lengths.{HasLength}
use Rattle.network_adaptive.specs.Choosing.{ChoiceTable, network}
use Rattle.network_adaptive.specs.Judged.{answers_of}
use Rattle.network_adaptive.specs.declared.accepting.JudgedNet.{JudgedNet}
use Rattle.network_adaptive.specs.declared.accepting.JudgedNet.TheVariants.{WrongPair, WrongChoice}
use Rattle.network_adaptive.specs.declared.accepting.JudgedNet.TheVariants.{Judged}
use Rattle.deadlock_laws.specs.Fillings.{Filling}
use Rattle.deadlock_laws.specs.LockUps.{IsAdaptiveLockUp}
use Rattle.dead_sets.specs.FillingFlags.{filling_of, CanDeadlock}
use Rattle.dead_sets.specs.Deciding.{IsDecidedOf}
use Rattle.dead_sets.specs.declared.deciding.Decided.{Decided}
use Rattle.dead_sets.specs.declared.deciding.Decided.TheVariants.{Rises, Fills, Open}
use Rattle.network_text.specs.Lines.{first_lines}
use Rattle.network_answer.specs.Answer.{number_line}
use Rattle.network_answer.specs.Judging.{verdict_rises}

-- the line of a channel, if it is in a dead set
abbrev pub dead_line : List Bool → ℕ → List ℕ
dead_line flags x =
    if is_marked_at flags x then (codes "dead " ++ decimal x) ++ codes "\n" else []

-- what is written of a dead set: its channels
abbrev pub dead_set_text : List Bool → List ℕ
dead_set_text flags = first_lines (dead_line flags) (length flags)

-- the channel of a list, counted from its end, behind a space
abbrev pub spaced_back : List ℕ → ℕ → List ℕ
spaced_back before k = codes " " ++ decimal (slice_index before (length before - 1 - k))

-- the line of a channel that is filled: where its packets go to, the channels that they come over
-- from their sender, and the channel
abbrev pub filling_line : Filling → List ℕ
filling_line f = (codes "fill " ++ decimal f.to)
    ++ (first_lines (spaced_back f.before) (length f.before)
    ++ ((codes " " ++ decimal f.at) ++ codes "\n"))

-- the line of the channel that is filled after so many others
abbrev pub filling_line_at : List Filling → ℕ → List ℕ
filling_line_at fs k =
    filling_line (get_or fs (length fs - 1 - k) (record { at = 0; to = 0; before = [] }))

-- what is written of a filling: its channels, the first to be filled first, and that they deadlock
abbrev pub filling_text : List Filling → List ℕ
filling_text fs = first_lines (filling_line_at fs) (length fs) ++ codes "locks up\n"

-- what is written of deadlocks with packets of one flit
abbrev pub decided_text : {A : Type 0} → Decided A → List ℕ
decided_text (Rises numbers) =
    first_lines (number_line numbers.items) (length numbers.items)
    ++ codes "never locks up with packets of one flit\n"
decided_text (Fills flags items) =
    dead_set_text flags.items ++ filling_text (map filling_of items.items)
decided_text (Open flags) = dead_set_text flags.items

-- no run of packets of one flit deadlocks, whatever the depth of the channels and the format of the
-- flits
abbrev pub NeverLocksUpByOneFlit : ChoiceTable → List Reply → Type 0
NeverLocksUpByOneFlit t replies = (depth : ℕ) (flits : Flits) → 0 < depth
    → (events : List NetEvent) → All (HasLength 1) events
    → IsAdaptiveLockUp (network t depth flits) (answers_of replies) events → ⊥

-- what is promised by what is written: that no run of packets of one flit deadlocks, or that one does
abbrev pub PromisesOfDeadSets : {A : Type 0} → ChoiceTable → List Reply → Decided A → Type 0
PromisesOfDeadSets t replies (Rises numbers) = NeverLocksUpByOneFlit t replies
PromisesOfDeadSets t replies (Fills flags items) = CanDeadlock t replies
PromisesOfDeadSets t replies (Open flags) = Unit {0}

-- whether it is decided that packets of one flit never deadlock
abbrev pub has_rising : {A : Type 0} → Decided A → Bool
has_rising (Rises numbers) = true
has_rising (Fills flags items) = false
has_rising (Open flags) = false

-- a text is what is written of the dead sets of a network, and whether by it packets of one flit
-- never deadlock
pub record TellsDeadSets (A : Type 0) (t : ChoiceTable) (replies : List Reply) (text : List ℕ)
    (never : Bool) : Type 0 where
  pub found : Decided A
  pub never_is : never ≡ has_rising found
  pub holds : IsDecidedOf t replies found
  pub promises : PromisesOfDeadSets t replies found
  pub is : text ≡ decided_text found

-- a network is judged, and no numbers rise along its escapes
abbrev pub lacks_numbers : {A : Type 0} → JudgedNet A → Bool
lacks_numbers (WrongPair r) = false
lacks_numbers (WrongChoice c) = false
lacks_numbers (Judged v) = not (verdict_rises v)

-- there what is written of dead sets stands behind the text of the judgement, and else nothing
abbrev pub IsBehindText : Type 0 → Bool → ChoiceTable → List Reply → List ℕ → Bool → Type 0
IsBehindText A true t replies text never = TellsDeadSets A t replies text never
IsBehindText A false t replies text never = (text ≡ []) × (never ≡ false)

-- that is so of a network that is judged
abbrev pub StandsBehind : {A : Type 0} → ChoiceTable → List Reply → JudgedNet A → List ℕ → Bool
    → Type 0
StandsBehind {A} t replies judged text never =
    IsBehindText A (lacks_numbers judged) t replies text never

-- whether it is said that all packets have one flit
abbrev pub is_one_flit : Option ℕ → Bool
is_one_flit None = false
is_one_flit (Some flits) = flits == 1
