-- A step of one agent, seen as a step of the tile that it stands in.
use Rattle.std.proofs.Common.{◌≡◌, ℕ, ◌<◌, List, length, Option, Some, None, refl, sym, ap, subst}
use Rattle.std.specs.Prelude.{option_map, MatchOption}
use Rattle.flit_buffer.specs.Words.{word_of}
use Rattle.flit_buffer.specs.Agent.{next_op}
use Rattle.flit_buffer.specs.Joined.{AreDisjoint}
use Rattle.flit_buffer.specs.Surroundings.{Surroundings, Wiring, AreRings, ShowsAll, IsPossible, IsApart, agent_step, ports_of}
use Rattle.flit_buffer.specs.Refinement.{agent_of, IsPlaced, Stays, Moves}
use Rattle.flit_buffer.specs.declared.word_op.WordOp.{WordOp}
use Rattle.flit_buffer.specs.declared.want.Want.{Want}
use Rattle.flit_buffer.specs.declared.want.Want.TheVariants.{Take, Put, Credit, Access, Await}
use Rattle.flit_buffer.proofs.AgentLaws.{agent_refines, rings_count, words_count}
use Rattle.flit_buffer.proofs.AgentSteps.{agent_did}
use Rattle.flit_buffer.proofs.PortLaws.{rings_kept, others_kept, some_injective}

-- what is wanted is at no end of an agent with other channels
pub apart_for : (around : Surroundings) (one other : Wiring) → AreDisjoint one other → (want : Want) → IsPossible around one want → IsApart one other want
apart_for around one other apart (Take i) possible = λ j h e. apart.inputs i j possible h (sym e)
apart_for around one other apart (Put o flit) possible = λ j h e. apart.outputs o j possible.0 h (sym e)
apart_for around one other apart (Credit o) possible = λ j h e. apart.outputs o j possible h (sym e)
apart_for around one other apart (Access word op) possible = tt
apart_for around one other apart (Await word value) possible = tt

-- T is what the agent stands in, `into` puts the agent's state there
module _ {S C T : Type 0} (wants : S → C → Option Want) (after : S → C → Want → ℕ → S) (depth : ℕ) (wiring : Wiring) (state : S) (around : Surroundings)
    (choice : C)
    (are : AreRings depth around) (placed : IsPlaced wants after depth wiring state around choice) (into : S → T) where
  abbrev step : Option (S × Surroundings)
  step = agent_step wants after depth wiring state around choice

  abbrev put_in : S × Surroundings → T × Surroundings
  put_in p = (into p.0, p.1)

  -- what an enabled choice keeps
  pub record Keeps (left : Surroundings) : Type 0 where
    pub rings : AreRings depth left
    pub count : length left.rings ≡ length around.rings
    pub words : length left.words ≡ length around.words
    pub others : (other : Wiring) → AreDisjoint wiring other → ports_of depth left other ≡ ports_of depth around other

  pub keeps : (next : S) (left : Surroundings) → step ≡ Some (next, left) → Keeps left
  keeps next left e =
      let d = agent_did wants after depth wiring state around choice next left e in
      let possible = placed.possible d.want d.wanted in
      subst (λ (l : Surroundings). Keeps l) (sym d.left_is) record {
        rings = rings_kept depth around wiring are placed.wired d.want d.learned possible d.grants;
        count = rings_count depth around wiring d.want;
        words = words_count depth around wiring d.want;
        others = λ other apart.
            others_kept depth around wiring are placed.wired other d.want d.learned possible (apart_for around wiring other apart d.want possible) d.grants;
      }

  keeps_by : (o : Option (S × Surroundings)) → step ≡ o → (next : T) (left : Surroundings) → option_map put_in o ≡ Some (next, left) → Keeps left
  keeps_by None e next left is = absurd (cc)
  keeps_by (Some (s, l)) e next left is =
      subst (λ (z : Surroundings). Keeps z) (ap (λ (p : T × Surroundings). p.1) (some_injective is)) (keeps s l e)

  -- what an enabled choice keeps, where its step is seen in T
  pub keeps_in : (next : T) (left : Surroundings) → option_map put_in step ≡ Some (next, left) → Keeps left
  keeps_in next left is = keeps_by step refl next left is

  module _ (row : List ℕ) (shows : ShowsAll row depth around) (IsIdle : WordOp → Type 0) (HasMoved : WordOp → T → Surroundings → Type 0)
      (idle : (op : WordOp) → Stays wants after depth wiring row state around choice op → IsIdle op)
      (moved : (op : WordOp) (next : S) (left : Surroundings) → step ≡ Some (next, left) → Moves wants after depth wiring row state around choice op next left
      → HasMoved op (into next) left) where
    abbrev Lifts : Option WordOp → Type 0
    Lifts o = MatchOption o (option_map put_in step ≡ None)
        (λ op. (word_of op < length row) × MatchOption (option_map put_in step) (IsIdle op) (λ p. HasMoved op p.0 p.1))

    abbrev Agrees : Option WordOp → Type 0
    Agrees o = MatchOption o (step ≡ None) (λ op. (word_of op < length row)
        × MatchOption step (Stays wants after depth wiring row state around choice op) (λ p. Moves wants after depth wiring row state around choice op p.0 p.1))

    by_step : (op : WordOp) (x : Option (S × Surroundings)) → step ≡ x
        → MatchOption x (Stays wants after depth wiring row state around choice op) (λ p. Moves wants after depth wiring row state around choice op p.0 p.1)
        → MatchOption (option_map put_in x) (IsIdle op) (λ p. HasMoved op p.0 p.1)
    by_step op None e k = idle op k
    by_step op (Some (next, left)) e k = moved op next left e k

    by_op : (o : Option WordOp) → Agrees o → Lifts o
    by_op None k = ap (λ o. option_map put_in o) k
    by_op (Some op) k = (k.0, by_step op step refl k.1)

    -- the two readings of the agent's table, as T sees them
    pub lifts : Lifts (next_op wants (agent_of wants after depth wiring state around) choice)
    lifts = by_op (next_op wants (agent_of wants after depth wiring state around) choice)
        (agent_refines wants after depth wiring row state around choice shows are placed)
