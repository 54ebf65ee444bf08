-- A machine that makes rounds from a load, in order or clocked, until every script is finished.
use Rattle.std.proofs.Common.{◌≡◌, ℕ, suc, ◌+◌, ◌<◌, ◌≤◌, ◌++◌, List, [], Bool, true, false, sym, ap, subst, ◌∙◌, arith, ⊎_elim}
use Rattle.std.proofs.lemmas.Bool.{cases_lt}
use Rattle.torus.specs.Shape.{Shape}
use Rattle.torus.specs.declared.step.Step.{Step}
use Rattle.one_order.specs.Load.{Load}
use Rattle.core_laws.specs.Core.{round}
use Rattle.core_laws.specs.Runs.{IsAcceptedLoad}
use Rattle.core_laws.specs.Machine.{Core, IsAfter, all_finished, core_after, core_after_load}
use Rattle.core_laws.proofs.Machines.{after_steps, named_machine, stands_after}
use Rattle.machine_core.specs.Rounds.{NeedsRounds, rounds_of}
use Rattle.machine_core.specs.Clocked.{NeedsClocked, clocked_round, clocked_rounds}
use Rattle.machine_core.proofs.Finishing.{rounds_push}
use Rattle.machine_core.specs.Fewest.{AreFewestFrom, after_rounds_from, round_behind, rounds_from}

-- the machine that steps lead to from a fresh one
pub from_fresh : (l : Load) (steps : List Step) → IsAcceptedLoad l → core_after (core_after_load l []) steps ≡ core_after_load l steps
from_fresh l steps ok =
    named_machine l (core_after (core_after_load l []) steps) steps (after_steps l (core_after_load l []) [] steps (stands_after l [] ok))

-- the attempts of one round more
pub round_more : (clocked : Bool) (l : Load) (k : ℕ) (c : Core) → IsAfter l c (rounds_from clocked l k)
    → rounds_from clocked l k ++ round_behind clocked c k ≡ rounds_from clocked l (k + 1)
round_more false l k c after = ap (λ (s : Shape). rounds_of l.shape k ++ round s) after.shape ∙ sym (rounds_push l.shape k)
round_more true l k c after =
    let fresh : Core = core_after_load l [] in
    let one : suc k ≡ k + 1 = omega arith in
    let is : c ≡ core_after fresh (clocked_rounds fresh k) =
    named_machine l c (clocked_rounds fresh k) after ∙ sym (from_fresh l (clocked_rounds fresh k) after.accepted) in
    ap (λ (x : Core). clocked_rounds fresh k ++ clocked_round x k) is ∙ ap (clocked_rounds fresh) one

-- whether every script is finished after the rounds
pub finished_now : (clocked : Bool) (l : Load) (k : ℕ) (c : Core) (b : Bool) → IsAfter l c (rounds_from clocked l k) → b ≡ all_finished c.state
    → all_finished (after_rounds_from clocked l k).state ≡ b
finished_now clocked l k c b after is = ap all_finished (sym after.state) ∙ sym is

-- so many rounds are made, and before each of them not every script was finished
pub record HasMade (clocked : Bool) (l : Load) (k : ℕ) (c : Core) : Type 0 where
  pub after : IsAfter l c (rounds_from clocked l k)
  pub unfinished : (j : ℕ) → j < k → all_finished (after_rounds_from clocked l j).state ≡ false

no_rounds : (clocked : Bool) (l : Load) → [] ≡ rounds_from clocked l 0
no_rounds false l = search
no_rounds true l = search

pub none_made : (clocked : Bool) (l : Load) (c : Core) → IsAfter l c [] → HasMade clocked l 0 c
none_made clocked l c after = record {
  after = subst (IsAfter l c) (no_rounds clocked l) after;
  unfinished = λ j below. absurd (omega (arith, below));
}

-- before one round more, not every script was finished
pub busy_more : (clocked : Bool) (l : Load) (k : ℕ) (c : Core) → HasMade clocked l k c → false ≡ all_finished c.state
    → (j : ℕ) → j < k + 1 → all_finished (after_rounds_from clocked l j).state ≡ false
busy_more clocked l k c made busy j below = ⊎_elim (made.unfinished j)
    (λ last. let same : j ≡ k = omega (arith, below, last) in
    ap (λ (n : ℕ). all_finished (after_rounds_from clocked l n).state) same ∙ finished_now clocked l k c false made.after busy)
    (cases_lt j k)

-- one round more, where not every script is finished
pub one_more : (clocked : Bool) (l : Load) (k : ℕ) (c d : Core) → HasMade clocked l k c → false ≡ all_finished c.state
    → ((steps : List Step) → IsAfter l c steps → IsAfter l d (steps ++ round_behind clocked c k)) → HasMade clocked l (k + 1) d
one_more clocked l k c d made busy law = record {
  after = subst (IsAfter l d) (round_more clocked l k c made.after) (law (rounds_from clocked l k) made.after);
  unfinished = busy_more clocked l k c made busy;
}

-- every script is finished
pub enough : (clocked : Bool) (l : Load) (most k : ℕ) (c : Core) → HasMade clocked l k c → k < most → true ≡ all_finished c.state
    → AreFewestFrom clocked l most k
enough clocked l most k c made below finished = record {
  allowed = omega (arith, below);
  unfinished = made.unfinished;
  finished = λ under. finished_now clocked l k c true made.after finished;
}

-- as many as are allowed
pub as_allowed : (clocked : Bool) (l : Load) (most : ℕ) (c : Core) → HasMade clocked l most c → AreFewestFrom clocked l most most
as_allowed clocked l most c made =
    record { allowed = omega arith; unfinished = made.unfinished; finished = λ under. absurd (omega (arith, under)) }

-- there is one fewest number of rounds
fewer : (clocked : Bool) (l : Load) (most j k : ℕ) → AreFewestFrom clocked l most j → AreFewestFrom clocked l most k → j < k → ⊥
fewer clocked l most j k a b below =
    let within = b.allowed in
    let f = b.unfinished j below in
    let t = a.finished (omega (arith, below, within)) in
    absurd (let no : true ≡ false = sym t ∙ f in cc)

pub fewest_once : (clocked : Bool) (l : Load) (most j k : ℕ) → AreFewestFrom clocked l most j → AreFewestFrom clocked l most k → j ≡ k
fewest_once clocked l most j k a b = ⊎_elim (λ below. absurd (fewer clocked l most j k a b below))
    (λ up. ⊎_elim (λ above. absurd (fewer clocked l most k j b a above)) (λ down. omega (arith, up, down)) (cases_lt k j))
    (cases_lt j k)

-- whether every script is finished after rounds from a fresh machine
fresh_after : (clocked : Bool) (l : Load) (k : ℕ) (b : Bool) → IsAcceptedLoad l → all_finished (after_rounds_from clocked l k).state ≡ b
    → all_finished (core_after (core_after_load l []) (rounds_from clocked l k)).state ≡ b
fresh_after clocked l k b ok is = ap (λ (x : Core). all_finished x.state) (from_fresh l (rounds_from clocked l k) ok) ∙ is

after_fresh : (clocked : Bool) (l : Load) (k : ℕ) (b : Bool) → IsAcceptedLoad l
    → all_finished (core_after (core_after_load l []) (rounds_from clocked l k)).state ≡ b
    → all_finished (after_rounds_from clocked l k).state ≡ b
after_fresh clocked l k b ok is = ap (λ (x : Core). all_finished x.state) (sym (from_fresh l (rounds_from clocked l k) ok)) ∙ is

-- the fewest rounds in order, where more are allowed, are those that a fresh machine needs
pub fewest_needed : (l : Load) (most k : ℕ) → IsAcceptedLoad l → k < most → AreFewestFrom false l most k → NeedsRounds (core_after_load l []) k
fewest_needed l most k ok below fewest = record {
  done = fresh_after false l k true ok (fewest.finished below);
  least = λ j under. fresh_after false l j false ok (fewest.unfinished j under);
}

pub needed_fewest : (l : Load) (most k : ℕ) → IsAcceptedLoad l → k ≤ most → NeedsRounds (core_after_load l []) k → AreFewestFrom false l most k
needed_fewest l most k ok within needed = record {
  allowed = within;
  unfinished = λ j under. after_fresh false l j false ok (needed.least j under);
  finished = λ under. after_fresh false l k true ok needed.done;
}

-- the fewest clocked rounds, where more are allowed, are those that a fresh machine needs
pub fewest_clocked : (l : Load) (most k : ℕ) → IsAcceptedLoad l → k < most → AreFewestFrom true l most k → NeedsClocked (core_after_load l []) k
fewest_clocked l most k ok below fewest = record {
  done = fresh_after true l k true ok (fewest.finished below);
  least = λ j under. fresh_after true l j false ok (fewest.unfinished j under);
}

pub clocked_fewest : (l : Load) (most k : ℕ) → IsAcceptedLoad l → k ≤ most → NeedsClocked (core_after_load l []) k → AreFewestFrom true l most k
clocked_fewest l most k ok within needed = record {
  allowed = within;
  unfinished = λ j under. after_fresh true l j false ok (needed.least j under);
  finished = λ under. after_fresh true l k true ok needed.done;
}
