-- What is written of a network whose routers choose, and what is answered to a network text (this
-- project's own format).
use Rattle.std.specs.Prelude.{◌≡◌, ◌⊎◌, ℕ, ◌==◌, ◌||◌, ◌&&◌, if◌then◌else◌}
use Rattle.std.specs.Prelude.{Bool, true, false, not}
use Rattle.std.specs.Prelude.{List, [], ◌∷◌, ◌++◌}
use Rattle.std.specs.Prelude.{length, slice_index}
use Rattle.std.specs.Prelude.{Result, Ok, Err, Option, Some, None, codes, decimal}
use Rattle.torus.specs.declared.fault.Fault.TheVariants as fault
use Rattle.lexer.specs.declared.fault.LineFault.{LineFault}
use Rattle.network_answer.specs.declared.answer.Answer.{Answer}
use Rattle.network_text.specs.Network.{Reading, taken_cell}
use Rattle.network_answer.specs.Answer.{pair_line, number_line, no_route_line}
use Rattle.network_text.specs.Lines.{first_lines}
use Rattle.network_answer.specs.Answer.{SaysNoPair, TellsFixedRoutes, totals_line}
use Rattle.network_answer.specs.Totals.{HasChosenTotals}
use Rattle.network_answer.specs.declared.totals.Totals.{Totals}
use Rattle.network_adaptive.specs.Choosing.{ChoiceTable}
use Rattle.network_answer.specs.Causes.{choosing_causes}
use Rattle.network_judge.specs.declared.table.Join.{Join}
use Rattle.network_adaptive.specs.declared.accepting.JudgedNet.{JudgedNet}
use Rattle.network_adaptive.specs.declared.accepting.JudgedNet.TheVariants.{WrongPair, WrongChoice}
use Rattle.network_adaptive.specs.declared.accepting.JudgedNet.TheVariants.{Judged}
use Rattle.network_adaptive.specs.declared.shape.Misfit.{Misfit}
use Rattle.network_adaptive.specs.declared.shape.Misfit.TheVariants.{Itself, Injects, Ejects}
use Rattle.network_adaptive.specs.declared.shape.NoChoice as no_choice
use Rattle.network_adaptive.specs.declared.verdict.NoEscape as no_escape
use Rattle.network_adaptive.specs.declared.verdict.Dependency as dependency
use Rattle.network_adaptive.specs.declared.verdict.How.{How}
use Rattle.network_adaptive.specs.declared.verdict.How.TheVariants.{Over, Replied}
use Rattle.network_adaptive.specs.declared.verdict.Travel.{Travel}
use Rattle.network_adaptive.specs.declared.verdict.Travel.TheVariants.{Bounded, Round}
use Rattle.network_adaptive.specs.declared.verdict.Verdict.{Verdict}
use Rattle.network_adaptive.specs.declared.verdict.Verdict.TheVariants.{Rising, NoEscape, Cycle}
use Rattle.network_adaptive.specs.Between.{dependency_at}
use Rattle.network_text.specs.Choosing.{ChoosingText}
use Rattle.network_answer.specs.Judging.{choice_table, IsMarkedJudgement, judgement_rises}
use Rattle.network_answer.specs.OneFlit.{StandsBehind, is_one_flit}
use Rattle.network_text.specs.Routing.{Routing, Fixed, Chosen, routing_of}

-- why a channel is no choice
abbrev pub misfit_words : Misfit → List ℕ
misfit_words Itself = codes "the channel itself"
misfit_words Injects = codes "an injection channel"
misfit_words Ejects = codes "another ejection channel"

-- the line of a choice that can't stand
abbrev pub no_choice_line : no_choice.NoChoice → List ℕ
no_choice_line c = (codes "no choice " ++ decimal c.at)
    ++ (pair_line (codes " ") c.to (codes " ") c.next (codes ": ")
    ++ (misfit_words c.why ++ codes "\n"))

-- the line of a channel without an escape for packets, where a text has this place of a choice for
-- them, or none
abbrev pub no_escape_line : Option ℕ → no_escape.NoEscape → List ℕ
no_escape_line (Some cell) f = pair_line (codes "no escape ") f.at (codes " ") f.to (codes "\n")
no_escape_line None f = pair_line (codes "no choice ") f.at (codes " ") f.to (codes "\n")

-- the line on how far packets can go
abbrev pub travel_line : Travel → List ℕ
travel_line (Bounded most) = (codes "bounded " ++ decimal most) ++ codes "\n"
travel_line (Round r) = pair_line (codes "round ") r.to (codes " ") r.at (codes "\n")

-- a channel behind a space
abbrev pub spaced_number : List ℕ → ℕ → List ℕ
spaced_number over k = codes " " ++ decimal (slice_index over k)

-- over which channels, if any
abbrev pub over_words : List ℕ → List ℕ
over_words over = if length over == 0 then []
    else codes " over" ++ first_lines (spaced_number over) (length over)

-- how channel x leads on: by packets to ejection channel j that go on over these channels, or to the
-- channel on which it is answered
abbrev pub how_line : {A : Type 0} → ℕ → How A → List ℕ
how_line x (Over j over) =
    pair_line [] x (codes " to ") j [] ++ (over_words over.items ++ codes "\n")
how_line x (Replied y) = pair_line [] x (codes " replies ") y (codes "\n")

-- the line of a dependency
abbrev pub dependency_line : {A : Type 0} → List (dependency.Dependency A) → ℕ → List ℕ
dependency_line edges k = how_line (dependency_at edges k).channel (dependency_at edges k).how

-- what is written of a cycle
abbrev pub circuit_text : {A : Type 0} → List (dependency.Dependency A) → List ℕ
circuit_text edges = codes "cycle\n" ++ first_lines (dependency_line edges) (length edges)

-- what is written of a verdict on the network of these lines
abbrev pub choosing_verdict_text : {A : Type 0} → Reading → Verdict A → List ℕ
choosing_verdict_text r (Rising numbers travel) =
    first_lines (number_line numbers.items) (length numbers.items)
    ++ (travel_line travel ++ codes "rising\n")
choosing_verdict_text r (NoEscape f) = no_escape_line (taken_cell r f.at f.to) f
choosing_verdict_text r (Cycle edges) = circuit_text edges.items

-- whether a verdict is a cycle
abbrev pub is_circuit : {A : Type 0} → Verdict A → Bool
is_circuit (Rising numbers travel) = false
is_circuit (NoEscape f) = false
is_circuit (Cycle edges) = true

-- what is written of what is judged
abbrev pub judgement_text : {A : Type 0} → Reading → JudgedNet A → List ℕ
judgement_text r (WrongPair p) = no_route_line p
judgement_text r (WrongChoice c) = no_choice_line c
judgement_text r (Judged v) = choosing_verdict_text r v

-- whether a cycle is found
abbrev pub has_circuit : {A : Type 0} → JudgedNet A → Bool
has_circuit (WrongPair p) = false
has_circuit (WrongChoice c) = false
has_circuit (Judged v) = is_circuit v

-- what stands behind a cycle: that it may deadlock, unless no packets of the text do
abbrev pub may_text : Bool → Bool → List ℕ
may_text circuit free = if circuit && not free then codes "may lock up\n" else []

-- whether a verdict is of a network in which packets can go on by an escape wherever they come
abbrev pub has_escapes : {A : Type 0} → Verdict A → Bool
has_escapes (Rising numbers travel) = true
has_escapes (NoEscape f) = false
has_escapes (Cycle edges) = true

-- whether they can in a network that is judged
abbrev pub can_go_on : {A : Type 0} → JudgedNet A → Bool
can_go_on (WrongPair p) = false
can_go_on (WrongChoice c) = false
can_go_on (Judged v) = has_escapes v

-- how far packets can go, where a verdict says so
abbrev pub known_travel : {A : Type 0} → Verdict A → Option Travel
known_travel (Rising numbers travel) = Some travel
known_travel (NoEscape f) = None
known_travel (Cycle edges) = None

-- and where what is judged says so
abbrev pub judged_travel : {A : Type 0} → JudgedNet A → Option Travel
judged_travel (WrongPair p) = None
judged_travel (WrongChoice c) = None
judged_travel (Judged v) = known_travel v

-- a text is the line on what packets go over where routers choose
pub record TellsChosenTotals (t : ChoiceTable) (text : List ℕ) : Type 0 where
  pub totals : Totals
  pub holds : HasChosenTotals t totals
  pub is : text ≡ totals_line totals

-- what stands last: that line where packets can go on, and else nothing
abbrev pub IsLastText : Bool → ChoiceTable → List ℕ → Type 0
IsLastText true t last = TellsChosenTotals t last
IsLastText false t last = last ≡ []

-- what is judged of a network whose routers choose, what stands behind it, what packets go over, whether
-- it never deadlocks: its numbers rise, or all packets have one flit and such packets never deadlock; and
-- why
pub record TellsJudged {A : Type 0} (t : ChoosingText) (a : Answer A) : Type 0 where
  pub judged : JudgedNet A
  pub marks : List Bool
  pub holds : IsMarkedJudgement t marks judged
  pub behind : List ℕ
  pub never : Bool
  pub stands : StandsBehind (choice_table t marks) t.fixed.replies judged behind never
  pub free : Bool
  pub free_is : free ≡ (is_one_flit t.fixed.flits && never)
  pub last : List ℕ
  pub totals : IsLastText (can_go_on judged) (choice_table t marks) last
  pub text : a.text.items
      ≡ judgement_text t.fixed judged ++ (may_text (has_circuit judged) free ++ (behind ++ last))
  pub rising : a.rising ≡ (judgement_rises judged || free)
  pub causes : a.causes.items ≡ choosing_causes t judged
  pub kinds : a.kinds.items ≡ t.fixed.table.kinds

-- what is said of such a network with these pairs
abbrev pub TellsChoosingOf : {A : Type 0} → List Join → ChoosingText → Answer A → Type 0
TellsChoosingOf [] t a = SaysNoPair a
TellsChoosingOf (join ∷ joins) t a = TellsJudged t a

-- what is said of such a network: what is judged of it, if it has pairs
abbrev pub TellsChoosing : {A : Type 0} → ChoosingText → Answer A → Type 0
TellsChoosing t a = TellsChoosingOf t.fixed.table.joins t a

-- what is judged of a network, and whether its numbers rise
abbrev pub TellsRouting : {A : Type 0} → Routing → Answer A → Type 0
TellsRouting (Fixed n) a = TellsFixedRoutes n a
TellsRouting (Chosen t) a = TellsChoosing t a

-- what is answered to a text of these lines: the verdict of its network, or its first fault, or out
-- of memory
abbrev pub AnswersRouting : {A : Type 0} → List (List ℕ) → Result (Answer A) LineFault → Type 0
AnswersRouting lines (Ok a) = (n : Routing) × (routing_of lines ≡ Ok n) × TellsRouting n a
AnswersRouting lines (Err e) =
    (e ≡ record { fault = fault.Memory; line = 0 }) ⊎ (routing_of lines ≡ Err e)
