-- Turns that are left out.
use Rattle.std.proofs.Common.{◌≡◌, ℕ, ◌+◌, ◌*◌, ◌<◌, subst, arith, Bool, true, false, List, [], ◌++◌, refl, sym, ap, inl, inr}
use Rattle.std.specs.Prelude.{MatchBool}
use Rattle.std.proofs.lemmas.List.{append-nil}
use Rattle.torus.specs.declared.step.Step.{Step}
use Rattle.torus.specs.declared.step.Choice.{Choice}
use Rattle.fabric_rule.specs.Known.{enabled}
use Rattle.fabric.specs.Turns.{is_ready}
use Rattle.fabric.specs.Seats.{Knowing, Grows, Idles, with_run}
use Rattle.worker_run.specs.Going.{Tries, LeadsSeats, at_place}
use Rattle.worker_run.specs.RouterTurns.{choice_of, start_of}
use Rattle.worker_run.specs.declared.place.Place.{Place}
use Rattle.worker_run.specs.declared.router_turns.Port.{Port}
use Rattle.worker_run.specs.Working.{Turns, Grew}
use Rattle.worker_run.specs.declared.turns.Run.{Run}
use Rattle.worker_run.proofs.Going.{leads_on, one_on}
use Rattle.worker_run.proofs.Moving.{grew_not}
use Rattle.worker_run.proofs.Rounds.{port_step, within_tile}

grows_not : (v : Knowing) → Grows v v
grows_not v = ([], tt, ap (with_run v) (sym (append-nil v.run)))

-- that nothing is done is what an idle turn may be
pub idle : (v : Knowing) (c : Step) → enabled v.load v.run c ≡ false → Idles v c v
idle v c out = by_ready (is_ready v.load v.run c)
  where
    by_ready : (b : Bool) → MatchBool b (Grows v v × (enabled v.load v.run c ≡ false)) (v ≡ v)
    by_ready true = (grows_not v, out)
    by_ready false = refl

pub turn : (v : Knowing) (c : Step) → enabled v.load v.run c ≡ false → Turns v c v × Grew v v
turn v c out = (inr (inl (idle v c out)), grew_not v)

pub tries : (stops : Step → Type 0) (r s : Run) (v : Knowing) (c : Step) → enabled v.load v.run c ≡ false → r.made < r.most → s.made ≡ r.made + 1
    → s.most ≡ r.most → Tries stops r v c s v
tries stops r s v c out some made most = record {
  outcome = inr (inr record {
    some = some;
    made = made;
    turned = (turn v c out).0;
    grew = grew_not v;
    most = inl most;
  });
}

-- one port more of a router, attempted or left out
pub one_left_out : (stops : Step → Type 0) (ports t : ℕ) (kind : Port) (k : ℕ) (r s z : Run) (u v w : Knowing) (from : Place) (choice : Choice)
    → LeadsSeats stops ports r u from s v (at_place t (start_of ports kind + k)) → k < ports → choice ≡ choice_of kind k
    → Tries stops s v (record { agent = 3 * t + 1; choice = choice }) z w
    → LeadsSeats stops ports r u from z w (at_place t (start_of ports kind + (k + 1)))
one_left_out stops ports t kind k r s z u v w from choice leads low is tries =
    leads_on stops ports _ _ _ _ _ _ _ _ _ leads
    (one_on stops ports t (start_of ports kind + k) (start_of ports kind + (k + 1)) _ s z v w (omega arith) (within_tile kind ports (k + 1) (omega (arith, low)))
    (port_step kind ports t k low)
    (subst (λ (c : Choice). Tries stops s v (record { agent = 3 * t + 1; choice = c }) z w) is tries))

-- seats that are led to a place are led to it by another number of its choice
pub leads_to : (stops : Step → Type 0) (ports : ℕ) (r s : Run) (v w : Knowing) (p : Place) (t a b : ℕ) → a ≡ b → LeadsSeats stops ports r v p s w (at_place t a)
    → LeadsSeats stops ports r v p s w (at_place t b)
leads_to stops ports r s v w p t a b e leads = subst (λ (n : ℕ). LeadsSeats stops ports r v p s w (at_place t n)) e leads
