-- How far a worker comes by its attempts.
use Rattle.std.proofs.Common.{◌≡◌, ◌⊎◌, ℕ, suc, ◌+◌, ◌*◌, ◌<◌, ◌≤◌, Bool, List, [], ◌∷◌, ◌++◌, length, refl, sym, ap, ◌∙◌, subst, inl, inr, arith, append_assoc}
use Rattle.std.proofs.lemmas.List.{append-nil, length-append}
use Rattle.torus.specs.Shape.{dims_of}
use Rattle.torus.specs.declared.step.Choice.TheVariants.{Send, Take, Credit, Serve, Done, Look}
use Rattle.torus.specs.declared.step.Step.{Step}
use Rattle.channel_number.specs.Ports.{port_count}
use Rattle.fabric.specs.Seats.{Knowing}
use Rattle.fabric.specs.Asking.{HasSeen}
use Rattle.worker_run.specs.Calls.{Call, HearsOfWorkers}
use Rattle.worker_run.specs.Going.{IsUnderWayTurn, HasEnded, IsGoing, MakesNone, IsStopped, MakesTurn, Tries, LeadsSeats, at_place}
use Rattle.worker_run.specs.Places.{EndsPass, ComesAfter, IsFirstPlace, choice_count}
use Rattle.worker_run.specs.Watching.{AreCallsOf, AreCallsOfTurn, AreCallsOfTurns}
use Rattle.worker_run.specs.Working.{Attempts, Grew, IsStepAt, Turns}
use Rattle.worker_run.specs.declared.place.Place.{Place}
use Rattle.worker_run.specs.declared.turns.Run.{Run}
use Rattle.worker_run.proofs.Moving.{grew_not, grew_on, one_more}
use Rattle.worker_run.proofs.Rounds.{processor_step, bank_place}

pub begun : (ports : ℕ) (v : Knowing) (p : Place) → IsUnderWayTurn ports 0 v v p p []
begun ports v p = record { steps = []; count = refl; attempts = (refl, refl); grew = grew_not v; told = (refl, refl) }

-- one turn more, and the calls behind it
under_on : (ports made more_made : ℕ) (u v w : Knowing) (first p q : Place) (c : Step) (calls more : List Call) → more_made ≡ made + 1
    → IsUnderWayTurn ports made u v first p calls → IsStepAt ports p c → Turns v c w → Grew v w → ComesAfter ports v.tiles p q → AreCallsOfTurn more_made p q more
    → IsUnderWayTurn ports more_made u w first q (calls ++ more)
under_on ports made more_made u v w first p q c calls more e so_far at turns grew follows told =
    let same : v.tiles ≡ u.tiles = ap (λ (k : Knowing). k.tiles) so_far.grew.0 in
    let follows' = subst (λ (tiles : List ℕ). ComesAfter ports tiles p q) same follows in
    let told' = subst (λ (n : ℕ). AreCallsOfTurn n p q more) e told in
    let one : suc made ≡ more_made = omega (arith, e) in
    record {
      steps = so_far.steps ++ c ∷ [];
      count = length-append so_far.steps (c ∷ []) ∙ ap (λ (n : ℕ). n + 1) so_far.count ∙ sym e;
      attempts = one_more ports u first so_far.steps v p c w q so_far.attempts at turns follows;
      grew = grew_on u v w so_far.grew grew;
      told = subst (λ (n : ℕ). AreCallsOf ports u.tiles n first (calls ++ more) q) one (calls, p, more, so_far.told, follows', told', refl);
    }

under_same : (ports made n : ℕ) (u v w : Knowing) (first p : Place) (calls : List Call) → n ≡ made → w ≡ v → IsUnderWayTurn ports made u v first p calls
    → IsUnderWayTurn ports n u w first p calls
under_same ports made n u v w first p calls e is k =
    subst (λ (m : ℕ). IsUnderWayTurn ports m u w first p calls) (sym e) (subst (λ (x : Knowing). IsUnderWayTurn ports made u x first p calls) (sym is) k)

over_same : (stops : Step → Type 0) (turns ports made n : ℕ) (u v w : Knowing) (first : Place) (calls : List Call) → n ≡ made → w ≡ v
    → HasEnded stops turns ports made u v first calls → HasEnded stops turns ports n u w first calls
over_same stops turns ports made n u v w first calls e is k =
    subst (λ (m : ℕ). HasEnded stops turns ports m u w first calls) (sym e) (subst (λ (x : Knowing). HasEnded stops turns ports made u x first calls) (sym is) k)

module _ (stops : Step → Type 0) (turns ports : ℕ) (u : Knowing) (first p : Place) (calls : List Call) (c : Step) (r s : Run) (v w : Knowing) where
  -- no turn is left, and none is to come
  pub rests : MakesNone r v s w → IsGoing stops turns ports u first calls r v p
      → (s.most ≤ s.made) × (s.made ≤ turns) × HasEnded stops turns ports s.made u w first calls
  rests k (inl g) =
      let none = k.none in
      let made = k.made in
      let most = k.most in
      let le = g.0 in
      let all = g.1 in (
        omega (arith, none, made, most),
        omega (arith, le, all, made),
        record {
          last = p;
          under_way = under_same ports r.made s.made u v w first p calls made k.same g.2;
          until = inr (inl (omega (arith, none, le, all, made)));
        },
      )
  rests k (inr g) =
      let made = k.made in
      let most = k.most in
      let over = g.0 in
      let few = g.1 in (
        omega (arith, over, made, most),
        omega (arith, few, made),
        over_same stops turns ports r.made s.made u v w first calls made k.same g.2,
      )

  pub stopped : IsStopped stops r v c s w → IsStepAt ports p c → IsGoing stops turns ports u first calls r v p
      → (s.most ≤ s.made) × (s.made ≤ turns) × HasEnded stops turns ports s.made u w first calls
  stopped k at (inl g) =
      let made = k.made in
      let most = k.most in
      let le = g.0 in
      let all = g.1 in (
        omega (arith, made, most),
        omega (arith, le, all, made),
        record { last = p; under_way = under_same ports r.made s.made u v w first p calls made k.same g.2; until = inr (inr (c, at, k.stopped)) },
      )
  stopped k at (inr g) = let some = k.some in let over = g.0 in absurd (omega (arith, some, over))

  by_most : (q : Place) (calls' : List Call) → MakesTurn r v c s w → r.made ≤ r.most → r.most ≡ turns → IsUnderWayTurn ports s.made u w first q calls'
      → (s.most ≡ r.most) ⊎ ((s.most ≡ s.made) × HasSeen w) → IsGoing stops turns ports u first calls' s w q
  by_most q calls' k le all so_far (inl same) =
      let some = k.some in
      let made = k.made in
      inl (omega (arith, some, made, same), same ∙ all, so_far)
  by_most q calls' k le all so_far (inr seen) =
      let some = k.some in
      let made = k.made in
      let most = seen.0 in
      inr (omega (arith, most), omega (arith, some, made, all), record { last = q; under_way = so_far; until = inl seen.1 })

  -- a turn is made, and so many calls are behind it
  pub moves_on : (q : Place) (more : List Call) → MakesTurn r v c s w → IsStepAt ports p c → ComesAfter ports v.tiles p q → AreCallsOfTurn s.made p q more
      → IsGoing stops turns ports u first calls r v p → IsGoing stops turns ports u first (calls ++ more) s w q
  moves_on q more k at follows told (inl g) =
      by_most q (calls ++ more) k g.0 g.1
      (under_on ports r.made s.made u v w first p q c calls more k.made g.2 at k.turned k.grew follows told) k.most
  moves_on q more k at follows told (inr g) = let some = k.some in let over = g.0 in absurd (omega (arith, some, over))

  -- an attempt behind which the next choice of its tile comes, whatever it did: no calls stand between
  pub goes_on : (q : Place) → q.tile ≡ p.tile → q.at ≡ p.at + 1 → p.at + 1 < choice_count ports → IsStepAt ports p c → Tries stops r v c s w
      → IsGoing stops turns ports u first calls r v p → IsGoing stops turns ports u first calls s w q
  goes_on q tile next within at tries going = by_outcome tries.outcome
    where
      by_outcome : MakesNone r v s w ⊎ IsStopped stops r v c s w ⊎ MakesTurn r v c s w → IsGoing stops turns ports u first calls s w q
      by_outcome (inl k) = inr (rests k going)
      by_outcome (inr (inl k)) = inr (stopped k at going)
      by_outcome (inr (inr k)) =
          let follows : ComesAfter ports v.tiles p q = inl (within, tile, next) in
          let apart : EndsPass p q → ⊥ = λ e. let start = e.0 in absurd (omega (arith, start, next)) in
          subst (λ (more : List Call). IsGoing stops turns ports u first more s w q) (append-nil calls)
          (moves_on q [] k at follows (inr (apart, refl)) going)

-- an attempt at a place of a tile that isn't its last
pub one_on : (stops : Step → Type 0) (ports t a b : ℕ) (c : Step) (r s : Run) (v w : Knowing) → b ≡ a + 1 → b < choice_count ports → IsStepAt ports (at_place t a) c
    → Tries stops r v c s w → LeadsSeats stops ports r v (at_place t a) s w (at_place t b)
one_on stops ports t a b c r s v w next within at tries = record {
  later = by_outcome tries.outcome;
  goes = λ turns u first calls going.
      goes_on stops turns ports u first (at_place t a) calls c r s v w (at_place t b) refl next (omega (arith, next, within)) at tries going;
}
  where
    by_outcome : MakesNone r v s w ⊎ IsStopped stops r v c s w ⊎ MakesTurn r v c s w → r.made ≤ s.made
    by_outcome (inl k) = let made = k.made in omega (arith, made)
    by_outcome (inr (inl k)) = let made = k.made in omega (arith, made)
    by_outcome (inr (inr k)) = let made = k.made in omega (arith, made)

pub leads_on : (stops : Step → Type 0) (ports : ℕ) (p q x : Place) (r s z : Run) (u v w : Knowing) → LeadsSeats stops ports r u p s v q → LeadsSeats stops ports s v q z w x
    → LeadsSeats stops ports r u p z w x
leads_on stops ports p q x r s z u v w one two =
    let first = one.later in
    let second = two.later in
    record { later = omega (arith, first, second); goes = λ turns k f calls going. two.goes turns k f calls (one.goes turns k f calls going) }

pub stays : (stops : Step → Type 0) (ports t a b : ℕ) (r : Run) (v : Knowing) → a ≡ b → LeadsSeats stops ports r v (at_place t a) r v (at_place t b)
stays stops ports t a b r v e =
    let none : LeadsSeats stops ports r v (at_place t a) r v (at_place t a) = record { later = omega arith; goes = λ turns k f calls going. going } in
    subst (λ (n : ℕ). LeadsSeats stops ports r v (at_place t a) r v (at_place t n)) e none

-- the choices of a processor, one after the other
pub by_processor : (stops : Step → Type 0) (ports t : ℕ) (r0 r1 r2 r3 r4 r5 : Run) (v0 v1 v2 v3 v4 v5 : Knowing)
    → Tries stops r0 v0 (record { agent = 3 * t; choice = Send }) r1 v1
    → Tries stops r1 v1 (record { agent = 3 * t; choice = Take }) r2 v2
    → Tries stops r2 v2 (record { agent = 3 * t; choice = Credit }) r3 v3
    → Tries stops r3 v3 (record { agent = 3 * t; choice = Done }) r4 v4
    → Tries stops r4 v4 (record { agent = 3 * t; choice = Look }) r5 v5
    → LeadsSeats stops ports r0 v0 (at_place t 0) r5 v5 (at_place t 5)
by_processor stops ports t r0 r1 r2 r3 r4 r5 v0 v1 v2 v3 v4 v5 send take credit done look =
    let a = one_on stops ports t 0 1 _ r0 r1 v0 v1 refl (omega arith) (processor_step ports t 0 Send refl) send in
    let b = one_on stops ports t 1 2 _ r1 r2 v1 v2 refl (omega arith) (processor_step ports t 1 Take refl) take in
    let c = one_on stops ports t 2 3 _ r2 r3 v2 v3 refl (omega arith) (processor_step ports t 2 Credit refl) credit in
    let d = one_on stops ports t 3 4 _ r3 r4 v3 v4 refl (omega arith) (processor_step ports t 3 Done refl) done in
    let e = one_on stops ports t 4 5 _ r4 r5 v4 v5 refl (omega arith) (processor_step ports t 4 Look refl) look in
    leads_on stops ports _ _ _ _ _ _ _ _ _ a
    (leads_on stops ports _ _ _ _ _ _ _ _ _ b (leads_on stops ports _ _ _ _ _ _ _ _ _ c (leads_on stops ports _ _ _ _ _ _ _ _ _ d e)))

-- those of a bank, but for its last
pub by_bank : (stops : Step → Type 0) (ports t : ℕ) (r0 r1 r2 r3 : Run) (v0 v1 v2 v3 : Knowing)
    → Tries stops r0 v0 (record { agent = 3 * t + 2; choice = Take }) r1 v1
    → Tries stops r1 v1 (record { agent = 3 * t + 2; choice = Serve }) r2 v2
    → Tries stops r2 v2 (record { agent = 3 * t + 2; choice = Send }) r3 v3
    → LeadsSeats stops ports r0 v0 (at_place t (5 + 3 * ports)) r3 v3 (at_place t (8 + 3 * ports))
by_bank stops ports t r0 r1 r2 r3 v0 v1 v2 v3 take serve send =
    let a = one_on stops ports t (5 + 3 * ports) (6 + 3 * ports) _ r0 r1 v0 v1 (omega arith) (omega arith)
    (bank_place ports t 0 (5 + 3 * ports) Take (omega arith) refl) take in
    let b = one_on stops ports t (6 + 3 * ports) (7 + 3 * ports) _ r1 r2 v1 v2 (omega arith) (omega arith)
    (bank_place ports t 1 (6 + 3 * ports) Serve (omega arith) refl) serve in
    let c = one_on stops ports t (7 + 3 * ports) (8 + 3 * ports) _ r2 r3 v2 v3 (omega arith) (omega arith)
    (bank_place ports t 2 (7 + 3 * ports) Send (omega arith) refl) send in
    leads_on stops ports _ _ _ _ _ _ _ _ _ a (leads_on stops ports _ _ _ _ _ _ _ _ _ b c)

-- where no turn is to come, those that were made are all
pub told_over : (stops : Step → Type 0) (turns ports made : ℕ) (v w : Knowing) (first : Place) (calls : List Call) → IsFirstPlace v.tiles first
    → ports ≡ port_count (dims_of v.load.shape) → made ≤ turns → (HasSeen v → ⊥) → HasEnded stops turns ports made v w first calls
    → AreCallsOfTurns stops turns v w made calls
told_over stops turns ports made v w first calls start is few not_yet over = record {
  turned = record {
    grew = over.under_way.grew;
    steps = over.under_way.steps;
    first = first;
    last = over.last;
    start = start;
    made = subst (λ (n : ℕ). Attempts n v first over.under_way.steps w over.last) is over.under_way.attempts;
    few = subst (λ (n : ℕ). n ≤ turns) (sym over.under_way.count) few;
    none = λ h. absurd (not_yet h);
    until = by_end over.until;
  };
  made = sym over.under_way.count;
  each = subst (λ (n : ℕ). AreCallsOf n v.tiles made first calls over.last) is over.under_way.told;
}
  where
    by_end : HasSeen w ⊎ (made ≡ turns) ⊎ ((c : Step) × IsStepAt ports over.last c × stops c)
        → HasSeen w ⊎ (length over.under_way.steps ≡ turns) ⊎ ((c : Step) × IsStepAt (port_count (dims_of v.load.shape)) over.last c × stops c)
    by_end (inl seen) = inl seen
    by_end (inr (inl all)) = inr (inl (over.under_way.count ∙ all))
    by_end (inr (inr k)) = inr (inr (k.0, subst (λ (n : ℕ). IsStepAt n over.last k.0) is k.1, k.2))

-- the calls behind the turns of a worker that has gone so far were heard
abbrev pub IsHeardSoFar : (Step → Type 0) → ℕ → ℕ → Knowing → Place → Run → Knowing → Place → (List Call → Type 0) → (List Call → Type 0) → Type 0
IsHeardSoFar stops turns ports v first r w p old new = (calls : List Call) × IsGoing stops turns ports v first calls r w p × HearsOfWorkers old new calls

-- the last place of a tile, and its step
abbrev pub last_of : ℕ → ℕ → Place
last_of ports t = at_place t (8 + 3 * ports)

abbrev pub last_step : ℕ → Step
last_step t = record { agent = 3 * t + 2; choice = Credit }

is_last_step : (ports t : ℕ) → IsStepAt ports (last_of ports t) (last_step t)
is_last_step ports t = bank_place ports t 3 (8 + 3 * ports) Credit (omega arith) refl

pub next_starts : (ports t : ℕ) (tiles : List ℕ) (next : Place) → ComesAfter ports tiles (last_of ports t) next → next.at ≡ 0
next_starts ports t tiles next (inl k) = let more = k.0 in absurd (omega (arith, more))
next_starts ports t tiles next (inr (inl k)) = k.1
next_starts ports t tiles next (inr (inr k)) = k.2.0

module _ (stops : Step → Type 0) (turns ports : ℕ) (u : Knowing) (first p : Place) (r s z : Run) (v w x : Knowing) (old mid : List Call → Type 0)
    (start : p.at ≡ 0) (leads : LeadsSeats stops ports r v (at_place p.tile 0) s w (last_of ports p.tile)) (tries : Tries stops s w (last_step p.tile) z x)
    (so_far : IsHeardSoFar stops turns ports u first r v p old mid) where
  at_last : IsGoing stops turns ports u first so_far.0 s w (last_of ports p.tile)
  at_last =
      let here = subst (λ (q : Place). IsGoing stops turns ports u first so_far.0 r v q) (ap (λ (a : ℕ). at_place p.tile a) start) so_far.1 in
      leads.goes turns u first so_far.0 here

  -- the last turn of a tile, and all turns before it
  pub tile_on : (next : Place) (quiet : Bool) (new : List Call → Type 0) → ComesAfter ports w.tiles (last_of ports p.tile) next → s.made < z.made
      → ((calls : List Call) × AreCallsOfTurn z.made (last_of ports p.tile) next calls × HearsOfWorkers mid new calls)
      → IsHeardSoFar stops turns ports u first (record z { quiet = quiet }) x next old new
  tile_on next quiet new follows made told = (
    so_far.0 ++ told.0,
    by_outcome tries.outcome,
    λ calls o. subst new (append_assoc calls so_far.0 told.0) (told.2 (calls ++ so_far.0) (so_far.2 calls o)),
  )
    where
      by_outcome : MakesNone s w z x ⊎ IsStopped stops s w (last_step p.tile) z x ⊎ MakesTurn s w (last_step p.tile) z x
          → IsGoing stops turns ports u first (so_far.0 ++ told.0) z x next
      by_outcome (inl k) = let same = k.made in absurd (omega (arith, made, same))
      by_outcome (inr (inl k)) = let same = k.made in absurd (omega (arith, made, same))
      by_outcome (inr (inr k)) =
          moves_on stops turns ports u first (last_of ports p.tile) so_far.0 (last_step p.tile) s z w x next told.0 k (is_last_step ports p.tile) follows told.1
          at_last

  -- that turn isn't made: none is to come
  pub tile_over : z.made ≤ s.made → (z.made ≤ turns) × HasEnded stops turns ports z.made u x first so_far.0
  tile_over none = by_outcome tries.outcome
    where
      by_outcome : MakesNone s w z x ⊎ IsStopped stops s w (last_step p.tile) z x ⊎ MakesTurn s w (last_step p.tile) z x
          → (z.made ≤ turns) × HasEnded stops turns ports z.made u x first so_far.0
      by_outcome (inl k) = let over = rests stops turns ports u first (last_of ports p.tile) so_far.0 (last_step p.tile) s z w x k at_last in (over.1, over.2)
      by_outcome (inr (inl k)) =
          let over = stopped stops turns ports u first (last_of ports p.tile) so_far.0 (last_step p.tile) s z w x k (is_last_step ports p.tile) at_last in
          (over.1, over.2)
      by_outcome (inr (inr k)) = let more = k.made in absurd (omega (arith, none, more))

-- all turns are made
pub all_over : (stops : Step → Type 0) (turns ports : ℕ) (u : Knowing) (first p : Place) (calls : List Call) (r : Run) (v : Knowing) → turns ≤ r.made
    → IsGoing stops turns ports u first calls r v p → (r.made ≤ turns) × HasEnded stops turns ports r.made u v first calls
all_over stops turns ports u first p calls r v many (inl g) =
    let le = g.0 in
    let all = g.1 in
    (omega (arith, le, all), record { last = p; under_way = g.2; until = inr (inl (omega (arith, many, le, all))) })
all_over stops turns ports u first p calls r v many (inr g) = (g.1, g.2)
