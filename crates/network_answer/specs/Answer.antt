-- What is written of a verdict and of a jam, and what is answered to a network text (this project's
-- own format).
use Rattle.std.specs.Prelude.{◌≡◌, ◌⊎◌, ℕ, ◌+◌, ◌-◌, ◌<◌, ◌==◌, Bool, true, false}
use Rattle.std.specs.Prelude.{if◌then◌else◌, List, [], ◌∷◌, ◌++◌, length, slice_index, Vec}
use Rattle.std.specs.Prelude.{Result, Ok, Err, Option, Some, None, IsSomeAnd, codes, decimal, nat_le, ◌≤◌}
use Rattle.torus.specs.declared.fault.Fault.TheVariants as fault
use Rattle.lexer.specs.declared.fault.LineFault.{LineFault}
use Rattle.network_judge.specs.declared.table.By.{By}
use Rattle.network_judge.specs.declared.table.By.TheVariants.{To, Replied}
use Rattle.network_judge.specs.declared.table.Join.{Join}
use Rattle.network_judge.specs.declared.table.Link.{Link}
use Rattle.network_judge.specs.declared.table.Reply.{Reply}
use Rattle.network_judge.specs.declared.table.NoRoute as no_route
use Rattle.network_judge.specs.declared.table.Why.{Why}
use Rattle.network_judge.specs.declared.table.Why.TheVariants.{NoSender, NoReceiver, Leaves}
use Rattle.network_judge.specs.declared.table.Why.TheVariants.{Ejects, Injects, Round}
use Rattle.network_judge.specs.declared.table.Verdict.{Verdict}
use Rattle.network_judge.specs.declared.table.Verdict.TheVariants.{Rising, NoRoute, Cycle}
use Rattle.network_judge.specs.Cycles.{link_at}
use Rattle.network_judge.specs.TableNet.{Flits}
use Rattle.network_judge.specs.Verdicts.{IsVerdict}
use Rattle.network_judge.specs.declared.fill.Fill.{Fill}
use Rattle.network_judge.specs.Jams.{IsJam}
use Rattle.network_judge.specs.Table.{Table}
use Rattle.network_adaptive.specs.declared.verdict.Travel.{Travel}
use Rattle.network_adaptive.specs.declared.verdict.Travel.TheVariants.{Bounded, Round as Unbounded}
use Rattle.network_answer.specs.Totals.{HasTotals}
use Rattle.network_answer.specs.Causes.{next_place, verdict_causes}
use Rattle.network_answer.specs.declared.causes.Cause.TheVariants as cause
use Rattle.network_answer.specs.declared.totals.Totals.{Totals}
use Rattle.network_judge.specs.LockUps.{LocksUp, HasOneFlitPackets}
use Rattle.deadlock_laws.specs.Lengths.{LocksUpOf, HasPacketsOf}
use Rattle.network_judge.specs.Clear.{fill_at}
use Rattle.network_answer.specs.declared.answer.Answer.{Answer}
use Rattle.network_text.specs.Lines.{first_lines}
use Rattle.network_text.specs.Network.{NetworkSpec, network_of}

-- two numbers, with these words before, between and behind them
abbrev pub pair_line : List ℕ → ℕ → List ℕ → ℕ → List ℕ → List ℕ
pair_line before a between b behind = before ++ decimal a ++ between ++ decimal b ++ behind

-- the line of a channel with its number
abbrev pub number_line : List ℕ → ℕ → List ℕ
number_line numbers x = pair_line (codes "number ") x (codes " ") (slice_index numbers x)
    (codes "\n")

-- why a walk is no route
abbrev pub why_words : Why → List ℕ
why_words NoSender = codes "the first is no injection channel"
why_words NoReceiver = codes "the second is no ejection channel"
why_words (Leaves n) = codes "no channel at step " ++ decimal n
why_words (Ejects n) = codes "another ejection channel at step " ++ decimal n
why_words (Injects n) = codes "an injection channel at step " ++ decimal n
why_words Round = codes "round for ever"

-- how a channel leads on: over packets to an ejection channel, or to the channel on which it is
-- answered
abbrev pub by_line : ℕ → By → ℕ → List ℕ
by_line x (To j) y = pair_line [] x (codes " to ") j (codes "\n")
by_line x Replied y = pair_line [] x (codes " replies ") y (codes "\n")

-- the line of the link at a place of a cycle
abbrev pub link_line : List Link → ℕ → List ℕ
link_line links k =
    by_line (link_at links k).channel (link_at links k).by
    (link_at links (next_place (length links) k)).channel

-- the line of a source-destination pair without a route
abbrev pub no_route_line : no_route.NoRoute → List ℕ
no_route_line r = pair_line (codes "no route ") r.join.from (codes " ") r.join.to (codes ": ")
    ++ why_words r.why ++ codes "\n"

-- what is written of a verdict
abbrev pub verdict_text : {A : Type 0} → Verdict A → List ℕ
verdict_text (Rising numbers) =
    first_lines (number_line numbers.items) (length numbers.items) ++ codes "rising\n"
verdict_text (NoRoute r) = no_route_line r
verdict_text (Cycle links) =
    codes "cycle\n" ++ first_lines (link_line links.items) (length links.items)

-- whether a verdict has numbers
abbrev pub is_rising : {A : Type 0} → Verdict A → Bool
is_rising (Rising numbers) = true
is_rising (NoRoute r) = false
is_rising (Cycle links) = false

-- the line of a channel that is filled: whose packets fill it, and at which step of their route
abbrev pub fill_line : Fill → List ℕ
fill_line f = pair_line (codes "fill ") f.from (codes " ") f.to [] ++ codes " " ++ decimal f.step
    ++ codes "\n"

-- the line of the channel of a jam that is filled after so many others
abbrev pub fill_line_at : List Fill → ℕ → List ℕ
fill_line_at fs k = fill_line (fill_at fs (length fs - 1 - k))

-- what is written of a jam: its channels, the first to be filled first, and that they deadlock
abbrev pub jam_text : List Fill → List ℕ
jam_text fs = first_lines (fill_line_at fs) (length fs) ++ codes "locks up\n"

-- a network is free of deadlock, whatever the depth of its channels and the format of its flits
abbrev pub NeverLocksUp : NetworkSpec → Type 0
NeverLocksUp n = (depth : ℕ) (flits : Flits) → 0 < depth → LocksUp n.table n.replies depth flits → ⊥

-- a network can deadlock, whatever the depth of its channels, in each format that has packets of
-- one flit
abbrev pub AlwaysLocksUp : NetworkSpec → Type 0
AlwaysLocksUp n = (depth : ℕ) (flits : Flits) → 0 < depth → HasOneFlitPackets n.table flits
    → LocksUp n.table n.replies depth flits

-- a text is that of a jam of a network, by which it can deadlock
pub record IsJamText (n : NetworkSpec) (text : List ℕ) : Type 0 where
  pub jam : List Fill
  pub holds : IsJam n.table n.replies jam
  pub is : text ≡ jam_text jam
  pub locks : AlwaysLocksUp n

-- what is found of a network with a verdict: a jam where it is a cycle, and else none; with numbers
-- the network is free of deadlock
abbrev pub IsFoundVerdict : {A : Type 0} → NetworkSpec → Verdict A → Option (Vec Fill A) → Type 0
IsFoundVerdict n (Rising numbers) found = (found ≡ None) × NeverLocksUp n
IsFoundVerdict n (NoRoute r) found = found ≡ None
IsFoundVerdict n (Cycle links) found =
    IsSomeAnd found (λ jam. IsJam n.table n.replies jam.items)

-- what stands behind the text of a verdict: nothing behind numbers, with which the network is free
-- of deadlock, nor behind a pair without a route; behind a cycle the text of a jam
abbrev pub IsBehind : {A : Type 0} → NetworkSpec → Verdict A → List ℕ → Type 0
IsBehind n (Rising numbers) behind = (behind ≡ []) × NeverLocksUp n
IsBehind n (NoRoute r) behind = behind ≡ []
IsBehind n (Cycle links) behind = IsJamText n behind

-- the text of a verdict, and what stands behind it
pub record IsJammedText {A : Type 0} (n : NetworkSpec) (v : Verdict A) (text : List ℕ) : Type 0
  where
    pub behind : List ℕ
    pub follows : IsBehind n v behind
    pub is : text ≡ verdict_text v ++ behind

-- how many channels packets go over at most, or that nothing bounds how many
abbrev pub longest_words : Travel → List ℕ
longest_words (Bounded most) = decimal most
longest_words (Unbounded r) = codes "unbounded"

-- the line on what packets go over
abbrev pub totals_line : Totals → List ℕ
totals_line s = pair_line (codes "pairs ") s.pairs (codes " of ") s.all_pairs (codes ", hops ")
    ++ (pair_line [] s.hops (codes " of ") s.all_hops (codes ", longest route ")
    ++ (longest_words s.longest ++ codes "\n"))

-- a text is that line of a table
pub record TellsTotals (t : Table) (text : List ℕ) : Type 0 where
  pub totals : Totals
  pub holds : HasTotals t totals
  pub is : text ≡ totals_line totals

-- what stands last: that line, and nothing where a pair has no route
abbrev pub IsTotalsText : {A : Type 0} → Table → Verdict A → List ℕ → Type 0
IsTotalsText t (Rising numbers) last = TellsTotals t last
IsTotalsText t (NoRoute r) last = last ≡ []
IsTotalsText t (Cycle links) last = TellsTotals t last

-- how many flits channels hold at least, of which each can hold a packet of so many with the latch
-- behind it
abbrev pub least_depth : ℕ → ℕ
least_depth size = if nat_le size 2 then 1 else size - 1

-- with packets of so many flits alone a network can deadlock, if each of its channels can hold one with
-- the latch behind it, in each format that has such packets
abbrev pub LocksUpByLength : NetworkSpec → ℕ → Type 0
LocksUpByLength n size = (depth : ℕ) (flits : Flits) → least_depth size ≤ depth
    → HasPacketsOf n.table flits size → LocksUpOf n.table n.replies depth flits size

-- the words behind the number of flits
abbrev pub flits_words : ℕ → List ℕ
flits_words size = if size == 1 then codes " flit where channels hold "
    else codes " flits where channels hold "

-- the line that says so
abbrev pub length_line : ℕ → List ℕ
length_line size = pair_line (codes "locks up with packets of ") size (flits_words size)
    (least_depth size) (codes " or more\n")

-- the length of packets by these replies and the length of the text: that of the text, where no packet
-- is answered
abbrev pub unanswered_length : List Reply → Option ℕ → Option ℕ
unanswered_length [] flits = flits
unanswered_length (reply ∷ replies) flits = None

-- the length that the line is of: one, if the verdict is a cycle
abbrev pub told_length : {A : Type 0} → NetworkSpec → Verdict A → Option ℕ
told_length n (Rising numbers) = None
told_length n (NoRoute r) = None
told_length n (Cycle links) = unanswered_length n.replies n.flits

-- a text is the line of a length, if there is one, and what it says is so
abbrev pub TellsLength : NetworkSpec → Option ℕ → List ℕ → Type 0
TellsLength n None text = text ≡ []
TellsLength n (Some size) text = (text ≡ length_line size) × LocksUpByLength n size

-- what stands behind the text of a jam
abbrev pub IsLengthText : {A : Type 0} → NetworkSpec → Verdict A → List ℕ → Type 0
IsLengthText n v text = TellsLength n (told_length n v) text

-- what is written of a network with a verdict: the text of the verdict with what stands behind it, that
-- packets of the length of the text deadlock it, and what packets go over
pub record IsJudgedText {A : Type 0} (n : NetworkSpec) (v : Verdict A) (text : List ℕ) : Type 0
  where
    pub jammed : List ℕ
    pub first : IsJammedText n v jammed
    pub sized : List ℕ
    pub lengths : IsLengthText n v sized
    pub last : List ℕ
    pub totals : IsTotalsText n.table v last
    pub is : text ≡ jammed ++ (sized ++ last)

-- what the verdict of a network says, whether its numbers rise, and why it is so
pub record TellsNetworkVerdict {A : Type 0} (n : NetworkSpec) (a : Answer A) : Type 0 where
  pub verdict : Verdict A
  pub holds : IsVerdict n.table n.replies verdict
  pub text : IsJudgedText n verdict a.text.items
  pub rising : a.rising ≡ is_rising verdict
  pub causes : a.causes.items ≡ verdict_causes verdict
  pub kinds : a.kinds.items ≡ n.table.kinds

-- what is said of a network without a source-destination pair: that it has none
pub record SaysNoPair {A : Type 0} (a : Answer A) : Type 0 where
  pub text : a.text.items ≡ codes "no pair\n"
  pub rising : a.rising ≡ false
  pub causes : a.causes.items ≡ cause.NoPair ∷ []

-- what is said of a network with these pairs
abbrev pub TellsOfPairs : {A : Type 0} → List Join → NetworkSpec → Answer A → Type 0
TellsOfPairs [] n a = SaysNoPair a
TellsOfPairs (join ∷ joins) n a = TellsNetworkVerdict n a

-- what is said of a network: the verdict, if it has pairs
abbrev pub TellsFixedRoutes : {A : Type 0} → NetworkSpec → Answer A → Type 0
TellsFixedRoutes n a = TellsOfPairs n.table.joins n a

-- what is answered to a text of these lines: the verdict of its network, or its first fault, or
-- out of memory
abbrev pub Answers : {A : Type 0} → List (List ℕ) → Result (Answer A) LineFault → Type 0
Answers lines (Ok a) = (n : NetworkSpec) × (network_of lines ≡ Ok n) × TellsFixedRoutes n a
Answers lines (Err e) = (e ≡ record { fault = fault.Memory; line = 0 }) ⊎ (network_of lines ≡ Err e)
