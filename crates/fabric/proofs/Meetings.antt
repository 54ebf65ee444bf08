-- What follows what in the order of a run that goes on from a known one.
use Rattle.std.proofs.Common.{◌≡◌, ◌⊎◌, inl, inr, ⊎_elim, ℕ, ◌<◌, ◌≤◌, List, ◌++◌, length, Some, sym, ap, ◌∙◌, subst, arith, slice_get, length-append}
use Rattle.std.proofs.Math.Seq.{take-append_seam, take-length}
use Rattle.std.proofs.lemmas.Bool.{cases_lt}
use Rattle.atomic_table.specs.declared.shared.Seat.{Seat}
use Rattle.torus.specs.declared.step.Step.{Step}
use Rattle.one_order.specs.declared.answer.Answer.{Answer}
use Rattle.one_order.specs.Observed.{Observed, Run, list_at, HasIssued, HasAnswered, IsAnsweredAt}
use Rattle.one_order.specs.Order.{LinearizationPoint, IsLegalOrder, StandsBefore}
use Rattle.one_order.specs.Growth.{OnlyGrows}
use Rattle.one_order.proofs.Growth.{kept_along, length_kept}
use Rattle.one_order.proofs.EventNumbers.{real_time}
use Rattle.fabric_rule.specs.Core.{Load, after, show, run_of}
use Rattle.fabric_rule.specs.Runs.{IsAcceptedLoad}
use Rattle.fabric_rule.proofs.Lawful.{lawful}
use Rattle.fabric_rule.specs.Groups.{Extends}
use Rattle.fabric_rule.specs.View.{View}
use Rattle.fabric.specs.Seats.{Knowing, seat_knows, Learns, JoinsTo}
use Rattle.fabric.specs.Ending.{shown_after}
use Rattle.fabric.specs.Lawful.{HasLawfulRun, IsAnsweredIn, KeepsAnswersFirst, KeepsBothFirst}

pub every_run : (load : Load) (run : List Step) → IsAcceptedLoad load → HasLawfulRun load run
every_run load run ok = record { accepted = ok; lawful = lawful load ok run }

only_grows : (load : Load) (run : List Step) → IsAcceptedLoad load → OnlyGrows load.opening (run_of load run) (length run)
only_grows load run ok = (lawful load ok run).order.grows

-- what is shown at the end of the first steps
shown_first : (load : Load) (run rest : List Step) → run_of load (run ++ rest) (length run) ≡ shown_after load run
shown_first load run rest = ap (λ (xs : List Step). show (length load.opening) (after load xs)) (take-append_seam run rest)

module _ (opening : List ℕ) (run : Run) (n : ℕ) (grows : OnlyGrows opening run n) (j k : ℕ) (l : j ≤ k) (m : k ≤ n) where
  answer_stays : (p i : ℕ) (a : Answer) → slice_get (list_at (run j).answers p) i ≡ Some a → slice_get (list_at (run k).answers p) i ≡ Some a
  answer_stays p i a = kept_along (λ (t : ℕ). list_at (run t).answers p) n (λ t i a b. grows.answers_stay t p i a b) j k i a l m

  issue_stays : (p i : ℕ) → HasIssued (run j) p i → HasIssued (run k) p i
  issue_stays p i h =
      let longer = length_kept (list_at (run j).issued p) (list_at (run k).issued p)
      (λ i o. kept_along (λ (t : ℕ). list_at (run t).issued p) n (λ t i o b. grows.issues_stay t p i o b) j k i o l m) in
      omega (arith, h, longer)

-- what is answered by step m precedes what isn't issued by step m
module _ (opening : List ℕ) (run : Run) (n m : ℕ) (order : List LinearizationPoint) (legal : IsLegalOrder opening run n order) (grows : OnlyGrows opening run n)
    (le : m ≤ n) where
  pub answers_first : (k p i : ℕ) (y : LinearizationPoint) → slice_get order k ≡ Some y → (HasIssued (run m) y.source y.index → ⊥) → HasAnswered (run m) p i
      → StandsBefore order k p i
  answers_first k p i y there new old =
      let effect = legal.answered p old.0 old.1 (answer_stays opening run n grows m n le (omega arith) p old.0 old.1 old.2) in
      let t : ℕ = effect.at in
      let answered : IsAnsweredAt run p i t = subst (λ (x : ℕ). IsAnsweredAt run p x t) old.3 effect.answered in
      let issue = legal.issued k y there in
      let u : ℕ = issue.at in
      let early : t ≤ m = ⊎_elim (λ (late : m < t). absurd (answered.not_before m late old)) (λ (ok : t ≤ m). ok) (cases_lt m t) in
      let late : m < u = ⊎_elim (λ (ok : m < u). ok)
      (λ (soon : u ≤ m). absurd (new (issue_stays opening run n grows u m soon le y.source y.index issue.issued.holds))) (cases_lt m u) in
      real_time opening run n order legal grows p i k y there (t, u, answered, issue.issued, omega (arith, early, late))

pub known_first : (load : Load) (run : List Step) → IsAcceptedLoad load → KeepsAnswersFirst load run
known_first load run ok later order begins legal k p i y there new old =
    let rest : List Step = begins.0 in
    let whole : later ≡ run ++ rest = begins.1 in
    let shown : run_of load later (length run) ≡ shown_after load run = ap (λ (l : List Step). run_of load l (length run)) whole ∙ shown_first load run rest in
    let le : length run ≤ length later = (let e = ap length whole in let f = length-append run rest in omega (arith, e, f)) in
    answers_first load.opening (run_of load later) (length later) (length run) order legal (only_grows load later ok) le k p i y there
    (λ h. new (subst (λ (s : Observed). HasIssued s y.source y.index) shown h))
    (subst (λ (s : Observed). HasAnswered s p i) (sym shown) old)

-- what is answered in a run is answered in each that goes on from it
answered_on : (load : Load) (run later : List Step) (p i : ℕ) → IsAcceptedLoad load → Extends later run → IsAnsweredIn load run p i → IsAnsweredIn load later p i
answered_on load run later p i ok begins old =
    let rest : List Step = begins.0 in
    let whole : later ≡ run ++ rest = begins.1 in
    let shown : run_of load later (length run) ≡ shown_after load run = ap (λ (l : List Step). run_of load l (length run)) whole ∙ shown_first load run rest in
    let le : length run ≤ length later = (let e = ap length whole in let f = length-append run rest in omega (arith, e, f)) in
    let here : HasAnswered (run_of load later (length run)) p i = subst (λ (s : Observed). HasAnswered s p i) (sym shown) old in
    let there = answer_stays load.opening (run_of load later) (length later) (only_grows load later ok) (length run) (length later) le (omega arith) p here.0
    here.1 here.2 in
    let last : run_of load later (length later) ≡ shown_after load later =
    ap (λ (xs : List Step). show (length load.opening) (after load xs)) (take-length later) in
    subst (λ (s : Observed). HasAnswered s p i) last (here.0, here.1, there, here.3)

-- and so for a seat that knows what either knew
told_both : (v u w : Knowing) (p i : ℕ) → IsAcceptedLoad v.load → u.load ≡ v.load → w.load ≡ v.load → Extends w.run v.run → Extends w.run u.run
    → IsAnsweredIn v.load v.run p i ⊎ IsAnsweredIn u.load u.run p i → IsAnsweredIn w.load w.run p i
told_both v u w p i ok same kept one other either =
    subst (λ (l : Load). IsAnsweredIn l w.run p i) (sym kept)
    (⊎_elim (answered_on v.load v.run w.run p i ok one)
    (λ h. answered_on v.load u.run w.run p i ok other (subst (λ (l : Load). IsAnsweredIn l u.run p i) same h)) either)

pub met : (v u w : Knowing) (p i : ℕ) → IsAcceptedLoad v.load → u.load ≡ v.load → Learns v u w → IsAnsweredIn v.load v.run p i ⊎ IsAnsweredIn u.load u.run p i
    → IsAnsweredIn w.load w.run p i
met v u w p i ok same learns = told_both v u w p i ok same (ap (λ (k : Knowing). k.load) learns.0) (learns.1.0, learns.1.1) learns.2

pub joined : (v u w : Knowing) (p i : ℕ) → IsAcceptedLoad v.load → u.load ≡ v.load → JoinsTo v u w → IsAnsweredIn v.load v.run p i ⊎ IsAnsweredIn u.load u.run p i
    → IsAnsweredIn w.load w.run p i
joined v u w p i ok same joins = told_both v u w p i ok same joins.1 (joins.3.0, joins.3.1) (joins.4.0, joins.4.1)

-- so the run that a seat knows is lawful, and the one that is known after a view changed
pub knows_lawful : (s : Seat (Unit {0}) View) (v : Knowing) → seat_knows s ≡ v → IsAcceptedLoad s.me.0.load → HasLawfulRun v.load v.run
knows_lawful s v is ok = subst (λ (k : Knowing). HasLawfulRun k.load k.run) is (every_run s.me.0.load s.me.0.run ok)

pub lawful_view : (v w : View) → IsAcceptedLoad v.load → w.load ≡ v.load → HasLawfulRun w.load w.run
lawful_view v w ok same = every_run w.load w.run (subst IsAcceptedLoad (sym same) ok)

-- what isn't issued in the run that is known after a meeting, or by a seat that took another in, stands behind all that
-- either knew as answered
pub met_first : (v u w : Knowing) → IsAcceptedLoad v.load → u.load ≡ v.load → Learns v u w → KeepsBothFirst v u w
met_first v u w ok same learns later order begins legal k p i y there new either =
    known_first w.load w.run (subst IsAcceptedLoad (ap (λ (x : Knowing). x.load) (sym learns.0)) ok) later order begins legal k p i y there new
    (met v u w p i ok same learns either)

pub joined_first : (v u w : Knowing) → IsAcceptedLoad v.load → u.load ≡ v.load → JoinsTo v u w → KeepsBothFirst v u w
joined_first v u w ok same joins later order begins legal k p i y there new either =
    known_first w.load w.run (subst IsAcceptedLoad (sym joins.1) ok) later order begins legal k p i y there new (joined v u w p i ok same joins either)

-- and for the other of two seats that met
pub swap_first : (v u w : Knowing) → KeepsBothFirst u v w → KeepsBothFirst v u w
swap_first v u w first later order begins legal k p i y there new either =
    first later order begins legal k p i y there new (⊎_elim (λ h. inr h) (λ h. inl h) either)
