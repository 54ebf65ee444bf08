-- A machine that makes rounds, in order or clocked, until every script is finished, and the lines of their moves.
use Rattle.std.proofs.Common.{◌≡◌, ℕ, zero, suc, ◌+◌, ◌<◌, ◌≤◌, ◌++◌, ◌-◌, List, [], Bool, true, false, Some, map, refl, sym, ap, subst, ◌∙◌, arith, ⊎_elim}
use Rattle.std.proofs.Common.{append_assoc, append-nil, length}
use Rattle.std.specs.List.{range_with_len}
use Rattle.std.proofs.lemmas.Bool.{cases_lt}
use Rattle.std.proofs.lemmas.List.Concat.{flat_map-append}
use Rattle.std.proofs.lemmas.List.FromFn.{length-map-range_with_len, map-range_with_len_more}
use Rattle.torus.specs.declared.step.Step.{Step}
use Rattle.one_order.specs.Load.{Load}
use Rattle.core_laws.specs.Machine.{Core, IsAfter, all_finished, core_after}
use Rattle.core_laws.proofs.Machines.{named_machine, after_steps}
use Rattle.core_laws.specs.MachineMoves.{moves_from}
use Rattle.fair_rounds.specs.declared.pacing.Pace.{Pace}
use Rattle.fair_rounds.specs.Fewest.{AreFewestPaced, after_paced, paced_round, paced_rounds}
use Rattle.fair_rounds.proofs.Paced.{HasMade, busy_more, none_made, one_more as one_more_made, enough as enough_made, as_allowed as all_allowed}
use Rattle.command_schedule.specs.declared.line.ScheduleLine.{ScheduleLine}
use Rattle.command_schedule.specs.Line.{line_text, text_of}
use Rattle.command_schedule.specs.Schedule.{round_lines, lines_of_rounds}
use Rattle.command_schedule.proofs.Growing.{one_more_round}
use Rattle.program_fault.specs.Done.{Output, TookAll, TookFront}
use Rattle.command_schedule.specs.Output.{headed}
use Rattle.command_schedule.specs.Rounds.{HasPutRounds, HasPutSome, moves_of_rounds, round_moves, rounds_text}
use Rattle.command_schedule.proofs.Outputs.{took_none, took_then, front_then, front_of_more}

-- so many rounds are made, before each of them not every script was finished, and their lines are put
pub record HasPut (pace : Pace) (l : Load) (k : ℕ) (c : Core) (old now : Output) : Type 0 where
  pub made : HasMade pace l k c
  pub took : TookAll old now (rounds_text pace l k)

pub none_put : (pace : Pace) (l : Load) (c : Core) (old : Output) → IsAfter l c [] → HasPut pace l 0 c old old
none_put pace l c old after = record { made = none_made pace l c after; took = took_none old [] refl }

-- the lines of one round more
lines_more : (pace : Pace) (l : Load) (k : ℕ)
    → lines_of_rounds 1 (moves_of_rounds pace l (k + 1))
    ≡ lines_of_rounds 1 (moves_of_rounds pace l k) ++ round_lines (k + 1) (round_moves pace l k)
lines_more pace l k =
    let count : length (moves_of_rounds pace l k) ≡ k = length-map-range_with_len (round_moves pace l) 0 k in
    let number : 1 + length (moves_of_rounds pace l k) ≡ k + 1 = omega (arith, count) in
    ap (lines_of_rounds 1) (map-range_with_len_more (round_moves pace l) 0 k k (omega arith))
    ∙ one_more_round 1 (moves_of_rounds pace l k) (round_moves pace l k)
    ∙ ap (λ (n : ℕ). lines_of_rounds 1 (moves_of_rounds pace l k) ++ round_lines n (round_moves pace l k)) number

text_more : (pace : Pace) (l : Load) (k : ℕ)
    → rounds_text pace l (k + 1) ≡ rounds_text pace l k ++ text_of (round_lines (k + 1) (round_moves pace l k))
text_more pace l k =
    ap text_of (lines_more pace l k)
    ∙ flat_map-append line_text (lines_of_rounds 1 (moves_of_rounds pace l k)) (round_lines (k + 1) (round_moves pace l k))

-- the text of some rounds is a beginning of that of more
begins : (pace : Pace) (l : Load) (j d : ℕ) → (rest : List ℕ) × (rounds_text pace l (j + d) ≡ rounds_text pace l j ++ rest)
begins pace l j zero =
    ([], (let none : j + 0 ≡ j = omega arith in ap (rounds_text pace l) none ∙ sym (append-nil (rounds_text pace l j))))
begins pace l j (suc d) =
    let before : (rest : List ℕ) × (rounds_text pace l (j + d) ≡ rounds_text pace l j ++ rest) = begins pace l j d in
    let last : List ℕ = text_of (round_lines (j + d + 1) (round_moves pace l (j + d))) in
    let one : j + suc d ≡ j + d + 1 = omega arith in (
      before.0 ++ last,
      ap (rounds_text pace l) one
          ∙ (text_more pace l (j + d) ∙ (ap (λ (t : List ℕ). t ++ last) before.1 ∙ append_assoc (rounds_text pace l j) before.0 last)),
    )

-- the moves of a round of a machine that has made so many
moves_now : (pace : Pace) (l : Load) (k : ℕ) (c : Core) → IsAfter l c (paced_rounds pace l k)
    → moves_from c (paced_round pace l c k) ≡ round_moves pace l k
moves_now pace l k c after =
    ap (λ (x : Core). moves_from x (paced_round pace l x k)) (named_machine l c (paced_rounds pace l k) after)

module _ (pace : Pace) (l : Load) (k : ℕ) (c : Core) (old now : Output) (so_far : HasPut pace l k c old now)
    (busy : false ≡ all_finished c.state) (attempts : List Step) (are : attempts ≡ paced_round pace l c k) where
  this_text : text_of (headed (Some (k + 1)) (moves_from c attempts)) ≡ text_of (round_lines (k + 1) (round_moves pace l k))
  this_text = ap (λ (xs : List Step). text_of (round_lines (k + 1) xs)) (ap (moves_from c) are ∙ moves_now pace l k c so_far.made.after)

  -- one round more
  pub one_more : (d : Core) (behind : Output) → d ≡ core_after c attempts
      → TookAll now behind (text_of (headed (Some (k + 1)) (moves_from c attempts))) → HasPut pace l (k + 1) d old behind
  one_more d behind is took = record {
    made = one_more_made pace l k c d so_far.made busy (λ steps h.
        subst (λ (x : Core). IsAfter l x (steps ++ paced_round pace l c k)) (sym is)
        (subst (λ (xs : List Step). IsAfter l (core_after c attempts) (steps ++ xs)) are (after_steps l c steps attempts h)));
    took = subst (TookAll old behind) (ap (λ (t : List ℕ). rounds_text pace l k ++ t) this_text ∙ sym (text_more pace l k))
        (took_then old now behind (rounds_text pace l k) (text_of (headed (Some (k + 1)) (moves_from c attempts))) so_far.took took);
  }

  -- a beginning of one round more
  one_front : (behind : Output) → TookFront now behind (text_of (headed (Some (k + 1)) (moves_from c attempts)))
      → TookFront old behind (rounds_text pace l (k + 1))
  one_front behind took =
      subst (TookFront old behind) (ap (λ (t : List ℕ). rounds_text pace l k ++ t) this_text ∙ sym (text_more pace l k))
      (front_then old now behind (rounds_text pace l k) (text_of (headed (Some (k + 1)) (moves_from c attempts))) so_far.took took)

-- the fewest rounds, of which not fewer than j suffice
record HasFewest (pace : Pace) (l : Load) (most j : ℕ) : Type 0 where
  more : ℕ
  fewest : AreFewestPaced pace l most (j + more)

fewest_by : (pace : Pace) (l : Load) (most j : ℕ) (b : Bool) → all_finished (after_paced pace l j).state ≡ b → j < most
    → ((i : ℕ) → i < j → all_finished (after_paced pace l i).state ≡ false)
    → (b ≡ false → HasFewest pace l most (j + 1)) → HasFewest pace l most j
fewest_by pace l most j true is below busy next =
    let none : j + 0 ≡ j = omega arith in
    record {
      more = 0;
      fewest = subst (AreFewestPaced pace l most) (sym none)
          (record { allowed = omega (arith, below); unfinished = busy; finished = λ under. is });
    }
fewest_by pace l most j false is below busy next =
    let k : HasFewest pace l most (j + 1) = next refl in
    let one : j + 1 + k.more ≡ j + (k.more + 1) = omega arith in
    record { more = k.more + 1; fewest = subst (AreFewestPaced pace l most) one k.fewest }

fewest_from : (pace : Pace) (l : Load) (most d j : ℕ) → j + d ≡ most
    → ((i : ℕ) → i < j → all_finished (after_paced pace l i).state ≡ false) → HasFewest pace l most j
fewest_from pace l most zero j is busy =
    let none : j + 0 ≡ j = omega arith in
    record {
      more = 0;
      fewest = subst (AreFewestPaced pace l most) (sym none)
          (record { allowed = omega (arith, is); unfinished = busy; finished = λ under. absurd (omega (arith, is, under)) });
    }
fewest_from pace l most (suc d) j is busy =
    fewest_by pace l most j (all_finished (after_paced pace l j).state) refl (omega (arith, is)) busy
    (λ unfinished. fewest_from pace l most d (j + 1) (omega (arith, is)) (λ i below. ⊎_elim (busy i)
    (λ last. let same : i ≡ j = omega (arith, below, last) in
    ap (λ (n : ℕ). all_finished (after_paced pace l n).state) same ∙ unfinished)
    (cases_lt i j)))

-- a beginning of the rounds so far is one of the fewest
pub some_put : (pace : Pace) (l : Load) (most k : ℕ) (c : Core) (old now behind : Output) (so_far : HasPut pace l k c old now) → k < most
    → false ≡ all_finished c.state
    → (attempts : List Step) → attempts ≡ paced_round pace l c k → TookFront now behind (text_of (headed (Some (k + 1)) (moves_from c attempts)))
    → HasPutSome pace l most old behind
some_put pace l most k c old now behind so_far below busy attempts are took =
    let d : HasFewest pace l most (k + 1) = fewest_from pace l most (most - (k + 1)) (k + 1) (omega (arith, below))
    (busy_more pace l k c so_far.made busy) in
    let more : (rest : List ℕ) × (rounds_text pace l (k + 1 + d.more) ≡ rounds_text pace l (k + 1) ++ rest) = begins pace l (k + 1) d.more in
    record {
      rounds = k + 1 + d.more;
      fewest = d.fewest;
      took = subst (TookFront old behind) (sym more.1)
          (front_of_more old behind (rounds_text pace l (k + 1)) more.0 (one_front pace l k c old now so_far busy attempts are behind took));
    }

-- every script is finished
pub enough : (pace : Pace) (l : Load) (most k : ℕ) (c : Core) (old now : Output) → HasPut pace l k c old now → k < most
    → true ≡ all_finished c.state → HasPutRounds pace l most c old now
enough pace l most k c old now put below finished = record {
  rounds = k;
  fewest = enough_made pace l most k c put.made below finished;
  after = put.made.after;
  took = put.took;
}

-- as many as are allowed
pub as_allowed : (pace : Pace) (l : Load) (most k : ℕ) (c : Core) (old now : Output) → HasPut pace l k c old now → k ≡ most
    → HasPutRounds pace l most c old now
as_allowed pace l most k c old now put is = record {
  rounds = k;
  fewest = subst (AreFewestPaced pace l most) (sym is)
      (all_allowed pace l most c (subst (λ (n : ℕ). HasMade pace l n c) is put.made));
  after = put.made.after;
  took = put.took;
}
