-- What an enabled choice did, and what the word that an operation found has to do with the agent.
use Rattle.std.proofs.Common.{◌≡◌, ◌≢◌, ℕ, ◌+◌, ◌%◌, ◌<◌, length, get_or, Option, Some, None, Bool, true, false, inl, inr, sym, ap, ◌∙◌, refl, subst, arith}
use Rattle.std.proofs.Common.{mod-eq_of_lt, eqb, if◌then◌else◌}
use Rattle.std.specs.Prelude.{option_and_then}
use Rattle.packet.specs.Memory.{new_word}
use Rattle.packet.specs.declared.kinds.Op.TheVariants as op
use Rattle.flit_buffer.specs.Words.{effect_of}
use Rattle.flit_buffer.specs.Wants.{want_op, outcome}
use Rattle.flit_buffer.specs.Agent.{Agent, next_op, agent_with, absorbed}
use Rattle.flit_buffer.specs.Surroundings.{Surroundings, Wiring, ring, granted, surroundings_after, ports_of, AreRings, IsWired, IsPossible, IsApart, changed}
use Rattle.flit_buffer.specs.Surroundings.{taken_from, step_with, agent_step}
use Rattle.flit_buffer.specs.Places.{Ring, put_in_ring, take_from_ring, credit_of_ring}
use Rattle.flit_buffer.specs.Refinement.{IsPlaced}
use Rattle.flit_buffer.specs.declared.word_op.WordOp.{WordOp}
use Rattle.flit_buffer.specs.declared.word_op.WordOp.TheVariants as word_op
use Rattle.flit_buffer.specs.declared.want.Want.{Want}
use Rattle.flit_buffer.specs.declared.want.Want.TheVariants.{Take, Put, Credit, Access, Await}
use Rattle.std.proofs.lemmas.Bool.{cases_eq, eq-eqb, ne_eqb, eqb-true}
use Rattle.flit_buffer.proofs.ManyRings.{changed_here, changed_other}
use Rattle.flit_buffer.proofs.PortLaws.{others_kept, some_injective, first_flit}

-- what an enabled choice did: a want, and what was learned
module _ {S C : Type 0} (wants : S → C → Option Want) (after : S → C → Want → ℕ → S) (depth : ℕ) (wiring : Wiring) (state : S) (w : Surroundings) (choice : C)
  where
    pub record Did (next : S) (left : Surroundings) : Type 0 where
      pub want : Want
      pub learned : ℕ
      pub wanted : wants state choice ≡ Some want
      pub grants : granted w wiring want ≡ Some learned
      pub next_is : next ≡ after state choice want learned
      pub left_is : left ≡ surroundings_after depth w wiring want

    did_with : (want : Want) (g : Option ℕ) (next : S) (left : Surroundings) → wants state choice ≡ Some want → granted w wiring want ≡ g
        → step_with wants after depth wiring state w choice want g ≡ Some (next, left) → Did next left
    did_with want None next left is_wanted is_granted e = cc
    did_with want (Some learned) next left is_wanted is_granted e =
        record {
          want = want;
          learned = learned;
          wanted = is_wanted;
          grants = is_granted;
          next_is = ap (λ (p : S × Surroundings). p.0) (sym (some_injective e));
          left_is = ap (λ (p : S × Surroundings). p.1) (sym (some_injective e));
        }

    did_wanting : (want : Option Want) (next : S) (left : Surroundings) → wants state choice ≡ want
        → option_and_then (λ x. step_with wants after depth wiring state w choice x (granted w wiring x)) want ≡ Some (next, left) → Did next left
    did_wanting None next left is_wanted e = cc
    did_wanting (Some want) next left is_wanted e = did_with want (granted w wiring want) next left is_wanted refl e

    pub agent_did : (next : S) (left : Surroundings) → agent_step wants after depth wiring state w choice ≡ Some (next, left) → Did next left
    agent_did next left e = did_wanting (wants state choice) next left refl e

    -- a step of one agent leaves the ports of another, where it changes no end of the other's
    pub other_ports : (next : S) (left : Surroundings) (other : Wiring) → AreRings depth w → IsPlaced wants after depth wiring state w choice
        → ((want : Want) → wants state choice ≡ Some want → IsApart wiring other want)
        → agent_step wants after depth wiring state w choice ≡ Some (next, left) → ports_of depth left other ≡ ports_of depth w other
    other_ports next left other is placed apart e =
        let d = agent_did next left e in
        ap (λ l. ports_of depth l other) d.left_is
        ∙ others_kept depth w wiring is placed.wired other d.want d.learned (placed.possible d.want d.wanted) (apart d.want d.wanted) d.grants

-- the fronts count the flits that were taken, round the ring
module _ (depth : ℕ) (w : Surroundings) (is : AreRings depth w) (x : ℕ) (there : x < length w.rings) where
  front_stays : (ring w.rings x).front ≡ ((ring w.rings x).front + 0) % depth
  front_stays = let r = is x there in sym (ap (λ n. n % depth) (omega arith) ∙ mod-eq_of_lt r.front)

  -- a change of channel y that leaves its front
  front_left : (y : ℕ) (f : Ring → Ring) → y < length w.rings → (f (ring w.rings y)).front ≡ (ring w.rings y).front
      → (ring (changed w y f).rings x).front ≡ ((ring w.rings x).front + 0) % depth
  front_left y f here same = elim (cases_eq x y) [
    | inl e ↦ ap (λ k. (ring (changed w y f).rings k).front) e ∙ ap (λ (r : Ring). r.front) (changed_here w y f here) ∙ same
        ∙ ap (λ k. (ring w.rings k).front) (sym e) ∙ front_stays
    | inr other ↦ ap (λ (r : Ring). r.front) (changed_other w y f x other) ∙ front_stays
  ]

  pub front_counts : (wiring : Wiring) → IsWired (length w.rings) wiring → (want : Want) → IsPossible w wiring want
      → (ring (surroundings_after depth w wiring want).rings x).front ≡ ((ring w.rings x).front + taken_from wiring want x) % depth
  front_counts wiring wired (Take i) possible =
      let y = get_or wiring.inputs i 0 in
      elim (cases_eq y x) [
        | inl e ↦
            ap (λ k. (ring (changed w y (take_from_ring depth)).rings k).front) (sym e)
            ∙ ap (λ (r : Ring). r.front) (changed_here w y (take_from_ring depth) (wired.inputs_within i possible))
            ∙ ap (λ k. ((ring w.rings k).front + 1) % depth) e
            ∙ ap (λ b. ((ring w.rings x).front + (if b then 1 else 0)) % depth) (sym (eq-eqb y x e))
        | inr other ↦
            ap (λ (r : Ring). r.front) (changed_other w y (take_from_ring depth) x (λ e. other (sym e)))
            ∙ front_stays
            ∙ ap (λ b. ((ring w.rings x).front + (if b then 1 else 0)) % depth) (sym (ne_eqb y x other))
      ]
  front_counts wiring wired (Put o flit) possible = front_left (get_or wiring.outputs o 0) (put_in_ring flit) (wired.outputs_within o possible.0) refl
  front_counts wiring wired (Credit o) possible = front_left (get_or wiring.outputs o 0) credit_of_ring (wired.outputs_within o possible) refl
  front_counts wiring wired (Access word o) possible = front_stays
  front_counts wiring wired (Await word value) possible = front_stays

module _ {S C : Type 0} (wants : S → C → Option Want) (after : S → C → Want → ℕ → S) (depth : ℕ) (wiring : Wiring) (state : S) (w : Surroundings) (choice : C)
  where
    pub step_fronts : (next : S) (left : Surroundings) (want : Want) (x : ℕ) → AreRings depth w → IsPlaced wants after depth wiring state w choice
        → wants state choice ≡ Some want → x < length w.rings
        → agent_step wants after depth wiring state w choice ≡ Some (next, left)
        → (ring left.rings x).front ≡ ((ring w.rings x).front + taken_from wiring want x) % depth
    step_fronts next left want x is placed is_wanted there e =
        let d = agent_did wants after depth wiring state w choice next left e in
        let same : d.want ≡ want = some_injective (sym d.wanted ∙ is_wanted) in
        ap (λ (l : Surroundings). (ring l.rings x).front) d.left_is
        ∙ front_counts depth w is x there wiring placed.wired d.want (placed.possible d.want d.wanted)
        ∙ ap (λ k. ((ring w.rings x).front + taken_from wiring k x) % depth) same

-- a flit that is taken is not the word of an empty place
pub taken_flit : (depth : ℕ) (w : Surroundings) (wiring : Wiring) (i learned : ℕ) → AreRings depth w → get_or wiring.inputs i 0 < length w.rings
    → granted w wiring (Take i) ≡ Some learned → learned ≢ 0
taken_flit depth w wiring i learned is there e =
    let f = first_flit (ring w.rings (get_or wiring.inputs i 0)).channel.flits learned e in
    let r = is (get_or wiring.inputs i 0) there in
    let c = r.channel in
    λ z. c.flits_are_words 0 f.0 (f.1 ∙ z)

-- what the word that an operation found has to do with the agent
module _ {S C : Type 0} (wants : S → C → Option Want) (after : S → C → Want → ℕ → S) (a : Agent S) (choice : C) where
  by_test : (b : Bool) (o : WordOp) (x : WordOp) → (if b then Some x else None) ≡ Some o → x ≡ o
  by_test true o x e = some_injective e
  by_test false o x e = cc

  -- a store tells nothing of the word
  stored_with : (want : Want) (word v m n : ℕ) → want_op a.ports want ≡ Some (word_op.Store word v)
      → agent_with wants after a choice want (outcome want m) ≡ agent_with wants after a choice want (outcome want n)
  stored_with (Take i) word v m n e = cc
  stored_with (Put o flit) word v m n e = refl
  stored_with (Credit o) word v m n e = let h = by_test _ _ _ e in cc
  stored_with (Access x op.Load) word v m n e = cc
  stored_with (Access x (op.Store w)) word v m n e = refl
  stored_with (Access x (op.Swap w)) word v m n e = cc
  stored_with (Access x (op.Cas w z)) word v m n e = cc
  stored_with (Access x (op.Add w)) word v m n e = cc
  stored_with (Access x (op.And w)) word v m n e = cc
  stored_with (Access x (op.Or w)) word v m n e = cc
  stored_with (Access x (op.Xor w)) word v m n e = cc
  stored_with (Access x (op.Max w)) word v m n e = cc
  stored_with (Access x (op.Min w)) word v m n e = cc
  stored_with (Await x value) word v m n e = cc

  stored_wanting : (want : Option Want) (word v m n : ℕ) → option_and_then (λ w. want_op a.ports w) want ≡ Some (word_op.Store word v)
      → option_and_then (λ w. agent_with wants after a choice w (outcome w m)) want
      ≡ option_and_then (λ w. agent_with wants after a choice w (outcome w n)) want
  stored_wanting None word v m n e = refl
  stored_wanting (Some want) word v m n e = stored_with want word v m n e

  pub stores_blind : (word v m n : ℕ) → next_op wants a choice ≡ Some (word_op.Store word v) → absorbed wants after a choice m ≡ absorbed wants after a choice n
  stores_blind word v m n e = stored_wanting (wants a.state choice) word v m n e

  -- an operation by which the agent doesn't move leaves its word
  idle_if : (b : Bool) (learned : ℕ) (want : Want) → agent_with wants after a choice want (if b then None else Some learned) ≡ None → b ≡ true
  idle_if true learned want e = refl
  idle_if false learned want e = cc

  idle_with : (want : Want) (o : WordOp) (n : ℕ) → want_op a.ports want ≡ Some o → agent_with wants after a choice want (outcome want n) ≡ None
      → new_word (effect_of o) n ≡ n
  idle_with (Take i) o n asks e =
      let P : WordOp → Type 0 = λ x. new_word (effect_of x) n ≡ n in
      subst P (some_injective asks) (sym (eqb-true n 0 (idle_if (eqb n 0) n (Take i) e)))
  idle_with (Put x flit) o n asks e = cc
  idle_with (Credit x) o n asks e =
      let P : WordOp → Type 0 = λ y. new_word (effect_of y) n ≡ n in
      subst P (by_test _ _ _ asks) refl
  idle_with (Access word x) o n asks e = cc
  idle_with (Await word value) o n asks e =
      let P : WordOp → Type 0 = λ y. new_word (effect_of y) n ≡ n in
      subst P (some_injective asks) refl

  idle_wanting : (want : Option Want) (o : WordOp) (n : ℕ) → option_and_then (λ w. want_op a.ports w) want ≡ Some o
      → option_and_then (λ w. agent_with wants after a choice w (outcome w n)) want ≡ None → new_word (effect_of o) n ≡ n
  idle_wanting None o n asks e = cc
  idle_wanting (Some want) o n asks e = idle_with want o n asks e

  pub idle_leaves : (o : WordOp) (n : ℕ) → next_op wants a choice ≡ Some o → absorbed wants after a choice n ≡ None → new_word (effect_of o) n ≡ n
  idle_leaves o n asks e = idle_wanting (wants a.state choice) o n asks e
