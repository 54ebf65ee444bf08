-- What a worker's turns make of its seat, one after the other.
use Rattle.std.proofs.Common.{◌≡◌, ◌↔◌, ℕ, List, [], ◌∷◌, ◌++◌, refl, sym, ap, ◌∙◌, subst, inl, inr, arith}
use Rattle.std.proofs.lemmas.List.{append-nil}
use Rattle.torus.specs.Shape.{dims_of}
use Rattle.torus.specs.declared.step.Step.{Step}
use Rattle.channel_number.specs.Ports.{port_count}
use Rattle.fabric_rule.specs.Core.{Load}
use Rattle.fabric.specs.Seats.{Knowing, Origin, IsSeatOf, MovesSeats, Idles, IsNotMine, with_run}
use Rattle.fabric.specs.Asking.{HasSeen}
use Rattle.fabric.specs.declared.steps.Turned.{Turned}
use Rattle.fabric.specs.declared.steps.Turned.TheVariants.{Moved, Idle, NotMine}
use Rattle.fabric.proofs.Turning.{begins_trans}
use Rattle.worker_run.specs.Places.{IsFirstPlace, IsPlaceOf, ComesAfter}
use Rattle.worker_run.specs.Working.{Grew, Turns, IsStepAt, Attempts}
use Rattle.worker_run.specs.Calls.{Call, HearsOfWorkers}
use Rattle.worker_run.specs.Watching.{AreCallsOfTurns}
use Rattle.worker_run.specs.declared.place.Place.{Place}

pub turned : (r : Turned) (v w : Knowing) (c : Step) → (r ≡ Moved → MovesSeats v c w) → (r ≡ Idle → Idles v c w) → ((r ≡ NotMine) ↔ IsNotMine v c)
    → (r ≡ NotMine → w ≡ v) → Turns v c w
turned Moved v w c moves idles mine same = inl (moves refl)
turned Idle v w c moves idles mine same = inr (inl (idles refl))
turned NotMine v w c moves idles mine same = inr (inr (mine.0 refl, same refl))

pub grew_on : (v w u : Knowing) → Grew v w → Grew w u → Grew v u
grew_on v w u one two = (two.0 ∙ ap (λ (k : Knowing). with_run k u.run) one.0, begins_trans _ _ _ two.1 one.1)

pub grew_not : (v : Knowing) → Grew v v
grew_not v = (refl, ([], sym (append-nil v.run)))

-- one turn more
pub one_more : (ports : ℕ) (v : Knowing) (p : Place) (steps : List Step) (w : Knowing) (q : Place) (c : Step) (u : Knowing) (r : Place)
    → Attempts ports v p steps w q → IsStepAt ports q c → Turns w c u → ComesAfter ports w.tiles q r → Attempts ports v p (steps ++ c ∷ []) u r
one_more ports v p [] w q c u r made at turns follows =
    let at' = subst (λ (x : Place). IsStepAt ports x c) made.1 at in
    let turns' = subst (λ (k : Knowing). Turns k c u) made.0 turns in
    let follows' = subst (λ (x : Place). ComesAfter ports v.tiles x r) made.1 (subst (λ (k : Knowing). ComesAfter ports k.tiles q r) made.0 follows) in
    (u, r, at', turns', follows', (refl, refl))
one_more ports v p (d ∷ steps) w q c u r (x, y, there, turns, follows, rest) at turns' follows' =
    (x, y, there, turns, follows, one_more ports x y steps w q c u r rest at turns' follows')

-- no call
pub hears_none : (h : List Call → Type 0) → HearsOfWorkers h h []
hears_none h = λ calls o. subst h (sym (append-nil calls)) o

-- no turn was made by a seat whose processors had seen the end, and none is told
pub told_none : (stops : Step → Type 0) (turns : ℕ) (v : Knowing) (first : Place) → IsFirstPlace v.tiles first → HasSeen v
    → AreCallsOfTurns stops turns v v 0 []
told_none stops turns v first start seen = record {
  turned = record {
    grew = grew_not v;
    steps = [];
    first = first;
    last = first;
    start = start;
    made = (refl, refl);
    few = omega arith;
    none = λ h. refl;
    until = inl seen;
  };
  made = refl;
  each = (refl, refl);
}

-- the ports of the fabric are those of the seat's machine
pub ports_are : (n : ℕ) (f : Origin) (v : Knowing) → n ≡ port_count (dims_of f.load.shape) → IsSeatOf f v → n ≡ port_count (dims_of v.load.shape)
ports_are n f v e own = e ∙ ap (λ (l : Load). port_count (dims_of l.shape)) (sym own.1)

pub within_ports : (n m : ℕ) (p : Place) → n ≡ m → IsPlaceOf m p → IsPlaceOf n p
within_ports n m p e w = subst (λ (k : ℕ). IsPlaceOf k p) (sym e) w

pub own_on : (f : Origin) (v w : Knowing) → IsSeatOf f v → w ≡ with_run v w.run → IsSeatOf f w
own_on f v w own e = (ap (λ (k : Knowing). k.table) e ∙ own.0, ap (λ (k : Knowing). k.load) e ∙ own.1)
