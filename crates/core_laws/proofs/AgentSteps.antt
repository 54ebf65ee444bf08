-- What an enabled step of an agent was.
use Rattle.std.proofs.Common.{◌≡◌, ℕ, Option, Some, None, refl, sym, ◌∙◌, ap}
use Rattle.std.specs.Prelude.{option_and_then, option_map}
use Rattle.torus.specs.declared.step.Choice.{Choice}
use Rattle.std.proofs.lemmas.Option.{same_Some}
use Rattle.flit_buffer.specs.declared.want.Want.{Want}
use Rattle.flit_buffer.specs.Surroundings.{Surroundings, Wiring, granted, surroundings_after, agent_step, step_with}
use Rattle.core_laws.specs.Moves.{learned_by}

pub option_map_some : {A B : Type 0} (f : A → B) (o : Option A) (y : B) → option_map f o ≡ Some y → (x : A) × (o ≡ Some x) × (f x ≡ y)
option_map_some f None y h = absurd (cc)
option_map_some f (Some x) y h = (x, refl, same_Some (f x) y h)

pub option_map_none : {A B : Type 0} (f : A → B) (o : Option A) → option_map f o ≡ None → o ≡ None
option_map_none f None h = refl
option_map_none f (Some x) h = absurd (cc)

-- an agent's step that is granted
pub stepped : {S : Type 0} (wants : S → Choice → Option Want) (after : S → Choice → Want → ℕ → S) (depth : ℕ) (wiring : Wiring) (state : S)
    (around : Surroundings) (choice : Choice) (w : Want) (learned : ℕ)
    → wants state choice ≡ Some w → granted around wiring w ≡ Some learned
    → agent_step wants after depth wiring state around choice ≡ Some (after state choice w learned, surroundings_after depth around wiring w)
stepped {S} wants after depth wiring state around choice w learned is grants =
    ap (λ (o : Option Want). option_and_then (λ want. step_with wants after depth wiring state around choice want (granted around wiring want)) o) is
    ∙ ap (λ (g : Option ℕ). step_with wants after depth wiring state around choice w g) grants

module _ {S : Type 0} (wants : S → Choice → Option Want) (after : S → Choice → Want → ℕ → S) (depth : ℕ) (wiring : Wiring) (state : S) (around : Surroundings)
    (choice : Choice) where
  -- the want, what was learned, and what stands after it
  pub record Did (next : S) (left : Surroundings) : Type 0 where
    pub want : Want
    pub learned : ℕ
    pub wanted : wants state choice ≡ Some want
    pub grants : granted around wiring want ≡ Some learned
    pub state_is : next ≡ after state choice want learned
    pub around_is : left ≡ surroundings_after depth around wiring want

  did_granted : (want : Want) (g : Option ℕ) (next : S) (left : Surroundings) → wants state choice ≡ Some want → granted around wiring want ≡ g
      → step_with wants after depth wiring state around choice want g ≡ Some (next, left) → Did next left
  did_granted want None next left w g h = cc
  did_granted want (Some learned) next left w g h =
      let e : ◌≡◌ {A = S × Surroundings} (after state choice want learned, surroundings_after depth around wiring want) (next, left) = same_Some _ _ h in
      record {
        want = want;
        learned = learned;
        wanted = w;
        grants = g;
        state_is = sym (ap (λ (p : S × Surroundings). p.0) e);
        around_is = sym (ap (λ (p : S × Surroundings). p.1) e);
      }

  did_wanted : (w : Option Want) (next : S) (left : Surroundings) → wants state choice ≡ w
      → option_and_then (λ want. step_with wants after depth wiring state around choice want (granted around wiring want)) w ≡ Some (next, left) → Did next left
  did_wanted None next left is h = cc
  did_wanted (Some want) next left is h = did_granted want (granted around wiring want) next left is refl h

  pub did : (next : S) (left : Surroundings) → agent_step wants after depth wiring state around choice ≡ Some (next, left) → Did next left
  did next left h = did_wanted (wants state choice) next left refl h

  pub did_learn : (next : S) (left : Surroundings) → (x : Did next left) → learned_by wants wiring state around choice ≡ Some x.learned
  did_learn next left x = ap (λ o. option_and_then (granted around wiring) o) x.wanted ∙ x.grants

  refused_granted : (want : Want) (g : Option ℕ) → step_with wants after depth wiring state around choice want g ≡ None → g ≡ None
  refused_granted want None h = refl
  refused_granted want (Some learned) h = cc

  refused_wanted : (w : Option Want)
      → option_and_then (λ want. step_with wants after depth wiring state around choice want (granted around wiring want)) w ≡ None
      → option_and_then (granted around wiring) w ≡ None
  refused_wanted None h = refl
  refused_wanted (Some want) h = refused_granted want (granted around wiring want) h

  -- a step that isn't enabled learns nothing
  pub refused : agent_step wants after depth wiring state around choice ≡ None → learned_by wants wiring state around choice ≡ None
  refused h = refused_wanted (wants state choice) h
