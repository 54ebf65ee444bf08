-- No choice is enabled that doesn't count as awake, after moves and after choices have fallen asleep.
use Rattle.std.proofs.Common.{◌≡◌, ◌≢◌, ⊎_elim, ℕ, zero, suc, ◌==◌, Bool, true, false, List, [], ◌∷◌, Some, None, refl, sym, ◌∙◌, ap, subst, arith, slice_set, slice_index_or}
use Rattle.std.specs.Prelude.{◌||◌, ◌&&◌, not, replicate}
use Rattle.std.specs.Int.{bit_at}
use Rattle.std.specs.List.{list_any}
use Rattle.std.proofs.lemmas.Bool.{cases_eq, eq-eqb, ne_eqb}
use Rattle.std.proofs.lemmas.Nat.Bits.{bit_at-zero}
use Rattle.torus.specs.Shape.{dims_of}
use Rattle.torus.specs.declared.step.Step.{Step}
use Rattle.torus.specs.declared.step.Choice.{Choice}
use Rattle.torus.specs.declared.step.Choice.TheVariants as choice
use Rattle.channel_number.specs.Ports.{port_count}
use Rattle.flit_buffer.specs.declared.word_op.WordOp.{WordOp}
use Rattle.flit_buffer.specs.declared.word_op.WordOp.TheVariants as word_op
use Rattle.tile.specs.declared.agent.Agent.{Agent}
use Rattle.tile.specs.declared.agent.Agent.TheVariants.{Processor, Router, Bank}
use Rattle.tile.specs.Tile.{Design}
use Rattle.tile.specs.Agents.{agent_kind}
use Rattle.tile.specs.Choices.{has_choice}
use Rattle.core_laws.specs.Core.{Load, State, design_of, step, after}
use Rattle.core_laws.specs.Runs.{IsAcceptedLoad}
use Rattle.core_laws.proofs.AgentChoices.{other_choice}
use Rattle.core_laws.specs.Attempts.{step_op}
use Rattle.core_laws.specs.Operations.{woken_by_operation}
use Rattle.core_laws.specs.Sleep.{OthersSleep, attempts_at, has_moved}
use Rattle.core_laws.specs.ChoicesAsleep.{can_enable, OtherChoicesSleep}
use Rattle.core_laws.proofs.Choices.{kept}
use Rattle.core_laws.proofs.Sleepers.{falls}
use Rattle.machine_parts.specs.Awake.{Awake, bit_of, bits_at, bits_by, is_awake, is_choice_awake, awake_after as after_move, rested, roused, all_roused}
use Rattle.machine_parts.specs.Awake.{choice_rested}
use Rattle.machine_parts.proofs.SetFlags.{clear_before, bits_other}

all_bits : (n k : ℕ) → bits_at (replicate n 255) k ≡ 255
all_bits zero k = refl
all_bits (suc n) zero = refl
all_bits (suc n) (suc k) = all_bits n k

-- all bits hold that of each choice
abbrev Full : ℕ → Type 0
Full b = not (bit_at 255 b == 0) ≡ true

full : (c : Choice) → Full (bit_of c)
full choice.Send = refl
full choice.Take = refl
full choice.Credit = refl
full choice.Serve = refl
full choice.Done = refl
full choice.Look = refl
full (choice.TakeFrom i) = refl
full (choice.Put i) = refl
full (choice.CreditOf o) = refl

true_isnt : (b : Bool) → b ≡ true → b ≡ false → ⊥
true_isnt b h k = let e : ◌≡◌ {A = Bool} true false = sym h ∙ k in cc

pub fresh : (d : Design) (s : State) → OtherChoicesSleep d s (is_choice_awake (record { design = d; flags = replicate 192 255 }))
fresh d s agent c out =
    absurd (true_isnt (not (bit_at (bits_at (replicate 192 255) agent) (bit_of c) == 0))
    (ap (λ (n : ℕ). not (bit_at n (bit_of c) == 0)) (all_bits 192 agent) ∙ full c) out)

-- the bits of an operation are those of the choices that it can enable
none_set : (c : Choice) → not (bit_at 0 (bit_of c) == 0) ≡ false
none_set c = ap (λ (n : ℕ). not (n == 0)) (bit_at-zero (bit_of c))

swap_bits : (n v : ℕ) (c : Choice) → not (bit_at 4 (bit_of c) == 0) ≡ can_enable (word_op.Swap n v) c
swap_bits n v choice.Send = refl
swap_bits n v choice.Take = refl
swap_bits n v choice.Credit = refl
swap_bits n v choice.Serve = refl
swap_bits n v choice.Done = refl
swap_bits n v choice.Look = refl
swap_bits n v (choice.TakeFrom i) = refl
swap_bits n v (choice.Put i) = refl
swap_bits n v (choice.CreditOf o) = refl

store_bits : (n v : ℕ) (c : Choice) → not (bit_at 2 (bit_of c) == 0) ≡ can_enable (word_op.Store n v) c
store_bits n v choice.Send = refl
store_bits n v choice.Take = refl
store_bits n v choice.Credit = refl
store_bits n v choice.Serve = refl
store_bits n v choice.Done = refl
store_bits n v choice.Look = refl
store_bits n v (choice.TakeFrom i) = refl
store_bits n v (choice.Put i) = refl
store_bits n v (choice.CreditOf o) = refl

add_bits : (n v : ℕ) (c : Choice) → not (bit_at 16 (bit_of c) == 0) ≡ can_enable (word_op.Add n v) c
add_bits n v choice.Send = refl
add_bits n v choice.Take = refl
add_bits n v choice.Credit = refl
add_bits n v choice.Serve = refl
add_bits n v choice.Done = refl
add_bits n v choice.Look = refl
add_bits n v (choice.TakeFrom i) = refl
add_bits n v (choice.Put i) = refl
add_bits n v (choice.CreditOf o) = refl

bits_are : (op : WordOp) (c : Choice) → not (bit_at (bits_by op) (bit_of c) == 0) ≡ can_enable op c
bits_are (word_op.Swap n v) c = swap_bits n v c
bits_are (word_op.Store n v) c = store_bits n v c
bits_are (word_op.Add n v) c = add_bits n v c
bits_are (word_op.Load n) c = none_set c
bits_are (word_op.Cas n a b) c = none_set c
bits_are (word_op.And n v) c = none_set c
bits_are (word_op.Or n v) c = none_set c
bits_are (word_op.Xor n v) c = none_set c
bits_are (word_op.Max n v) c = none_set c
bits_are (word_op.Min n v) c = none_set c

-- all bits of an agent are set
full_there : (flags : List ℕ) (agent b : ℕ) → Full b → not (bit_at (bits_at (slice_set flags agent 255) agent) b == 0) ≡ true
full_there [] agent b h = h
full_there (x ∷ flags) zero b h = h
full_there (x ∷ flags) (suc k) b h = full_there flags k b h

some_there : (flags : List ℕ) (agent : ℕ) → not (bits_at (slice_set flags agent 255) agent == 0) ≡ true
some_there [] agent = refl
some_there (x ∷ flags) zero = refl
some_there (x ∷ flags) (suc k) = some_there flags k

pub choice_roused : (w : Awake) (agent k : ℕ) (c : Choice) → is_choice_awake (roused w agent) k c ≡ false → (k ≢ agent) × (is_choice_awake w k c ≡ false)
choice_roused w agent k c out =
    let other : k ≢ agent = λ e. true_isnt _ (full_there w.flags agent (bit_of c) (full c))
    (subst (λ (n : ℕ). not (bit_at (bits_at (slice_set w.flags agent 255) n) (bit_of c) == 0) ≡ false) e out) in
    (other, ap (λ (n : ℕ). not (bit_at n (bit_of c) == 0)) (sym (bits_other w.flags agent k 255 other)) ∙ out)

pub one_roused : (w : Awake) (agent k : ℕ) → is_awake (roused w agent) k ≡ false → (k ≢ agent) × (is_awake w k ≡ false)
one_roused w agent k out =
    let other : k ≢ agent = λ e. true_isnt _ (some_there w.flags agent)
    (subst (λ (n : ℕ). not (bits_at (slice_set w.flags agent 255) n == 0) ≡ false) e out) in
    (other, ap (λ (n : ℕ). not (n == 0)) (sym (bits_other w.flags agent k 255 other)) ∙ out)

pub everyone : (w : Awake) (k : ℕ) → is_awake (all_roused w) k ≡ true
everyone w k = ap (λ (n : ℕ). not (n == 0)) (all_bits 192 k)

pub every_choice : (w : Awake) (k : ℕ) (c : Choice) → is_choice_awake (all_roused w) k c ≡ true
every_choice w k c = ap (λ (n : ℕ). not (bit_at n (bit_of c) == 0)) (all_bits 192 k) ∙ full c

module _ (l : Load) (ok : IsAcceptedLoad l) (steps : List Step) (attempt : Step) (op : WordOp) (next : State) (w : Awake) (built : w.design ≡ design_of l)
    (sleep : OtherChoicesSleep (design_of l) (after l steps) (is_choice_awake w))
    (by : step_op (design_of l) (after l steps) attempt ≡ Some op) (moves : step (design_of l) (after l steps) attempt ≡ Some next) where
  neither : (a b c : Bool) → a ≡ false → b ≡ false → c ≡ false → (a || (b || c)) ≡ false
  neither false false c h k j = j
  neither true b c h k j = absurd (cc)
  neither false true c h k j = absurd (cc)

  pub moved : OtherChoicesSleep (design_of l) next (is_choice_awake (after_move w attempt.agent op))
  moved agent c out =
      let x = clear_before (roused w attempt.agent).flags (bits_by op) (woken_by_operation w.design op) agent (bit_of c) (full c) out in
      let y = choice_roused w attempt.agent agent c x.0 in
      let apart : (can_enable op c && list_any (λ k. k == agent) (woken_by_operation (design_of l) op)) ≡ false =
      ap (λ (d : Design). can_enable op c && list_any (λ k. k == agent) (woken_by_operation d op)) (sym built)
      ∙ (ap (λ (b : Bool). b && list_any (λ k. k == agent) (woken_by_operation w.design op)) (sym (bits_are op c)) ∙ x.1) in
      kept l ok steps attempt op by next moves (is_choice_awake w) sleep agent c
      (neither (is_choice_awake w agent c) (agent == attempt.agent) _ y.1 (ne_eqb agent attempt.agent y.0) apart)

pub rests : (d : Design) (s : State) (agent : ℕ) (w : Awake) → OtherChoicesSleep d s (is_choice_awake w) → has_moved d s (attempts_at d.shape agent) ≡ false
    → OtherChoicesSleep d s (is_choice_awake (rested w agent))
rests d s agent w sleep idle k c out = ⊎_elim
    (λ (same : k ≡ agent). subst (λ (n : ℕ). step d s (record { agent = n; choice = c }) ≡ None) (sym same) (falls d s agent idle c))
    (λ (another : k ≢ agent). sleep k c (ap (λ (n : ℕ). not (bit_at n (bit_of c) == 0)) (sym (bits_other w.flags agent k 0 another)) ∙ out))
    (cases_eq k agent)

-- an agent that doesn't count as awake is asleep
no_bits : (n : ℕ) (c : Choice) → not (n == 0) ≡ false → not (bit_at n (bit_of c) == 0) ≡ false
no_bits zero c h = none_set c
no_bits (suc n) c h = absurd (true_isnt (not (suc n == 0)) (ap (λ (b : Bool). not b) (ne_eqb (suc n) 0 (λ e. omega (arith, e)))) h)

pub agents_sleep : (d : Design) (s : State) (w : Awake) → OtherChoicesSleep d s (is_choice_awake w) → OthersSleep d s (is_awake w)
agents_sleep d s w sleep agent out c = sleep agent c (no_bits (bits_at w.flags agent) c out)

-- the choice of a processor or a bank that has a bit
abbrev with_bit : ℕ → Choice
with_bit bit = slice_index_or (choice.Send ∷ choice.Take ∷ choice.Credit ∷ choice.Done ∷ choice.Look ∷ []) bit choice.Serve

module _ (ports : ℕ) where
  its_bit : (a : Agent) → a ≢ Router → (c : Choice) → has_choice ports a c ≡ true → with_bit (bit_of c) ≡ c
  its_bit Processor ne choice.Send h = refl
  its_bit Processor ne choice.Take h = refl
  its_bit Processor ne choice.Credit h = refl
  its_bit Processor ne choice.Done h = refl
  its_bit Processor ne choice.Look h = refl
  its_bit Processor ne choice.Serve h = absurd (cc)
  its_bit Processor ne (choice.TakeFrom i) h = absurd (cc)
  its_bit Processor ne (choice.Put i) h = absurd (cc)
  its_bit Processor ne (choice.CreditOf o) h = absurd (cc)
  its_bit Bank ne choice.Send h = refl
  its_bit Bank ne choice.Take h = refl
  its_bit Bank ne choice.Credit h = refl
  its_bit Bank ne choice.Serve h = refl
  its_bit Bank ne choice.Done h = absurd (cc)
  its_bit Bank ne choice.Look h = absurd (cc)
  its_bit Bank ne (choice.TakeFrom i) h = absurd (cc)
  its_bit Bank ne (choice.Put i) h = absurd (cc)
  its_bit Bank ne (choice.CreditOf o) h = absurd (cc)
  its_bit Router ne c h = absurd (ne refl)

module _ (d : Design) (s : State) (agent : ℕ) (c : Choice) (awake : ℕ → Choice → Bool) (sleep : OtherChoicesSleep d s awake) (ne : agent_kind agent ≢ Router)
    (has : has_choice (port_count (dims_of d.shape)) (agent_kind agent) c ≡ true) (idle : step d s (record { agent = agent; choice = c }) ≡ None) where
  abbrev ports : ℕ
  ports = port_count (dims_of d.shape)

  -- one with the same bit is the same, or isn't the agent's
  shares : (k : Choice) → bit_of k ≡ bit_of c → (b : Bool) → has_choice ports (agent_kind agent) k ≡ b → step d s (record { agent = agent; choice = k }) ≡ None
  shares k e true h =
      let same : k ≡ c =
      sym (its_bit ports (agent_kind agent) ne k h) ∙ (ap with_bit e ∙ its_bit ports (agent_kind agent) ne c has) in
      subst (λ (z : Choice). step d s (record { agent = agent; choice = z }) ≡ None) (sym same) idle
  shares k e false h = other_choice d s (record { agent = agent; choice = k }) h

  kept_awake : (a x : Bool) → x ≡ false → (a && not x) ≡ false → a ≡ false
  kept_awake false x h out = refl
  kept_awake true false h out = absurd (cc)
  kept_awake true true h out = absurd (cc)

  off : (k : ℕ) (z : Choice) → ((k == agent) && (bit_of z == bit_of c)) ≡ false → choice_rested agent c awake k z ≡ false
      → step d s (record { agent = k; choice = z }) ≡ None
  off k z h out = sleep k z (kept_awake (awake k z) ((k == agent) && (bit_of z == bit_of c)) h out)

  pub choice_rests : OtherChoicesSleep d s (choice_rested agent c awake)
  choice_rests k z out = ⊎_elim
      (λ (same : k ≡ agent).
      ⊎_elim
      (λ (e : bit_of z ≡ bit_of c).
      subst (λ (n : ℕ). step d s (record { agent = n; choice = z }) ≡ None) (sym same) (shares z e (has_choice ports (agent_kind agent) z) refl))
      (λ (other : bit_of z ≢ bit_of c).
      off k z (ap (λ (b : Bool). b && (bit_of z == bit_of c)) (eq-eqb k agent same) ∙ ne_eqb (bit_of z) (bit_of c) other) out)
      (cases_eq (bit_of z) (bit_of c)))
      (λ (other : k ≢ agent). off k z (ap (λ (b : Bool). b && (bit_of z == bit_of c)) (ne_eqb k agent other)) out)
      (cases_eq k agent)
