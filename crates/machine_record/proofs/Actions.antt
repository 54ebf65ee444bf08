-- The number of an action is read back as the action.
use Rattle.std.proofs.Common.{◌≡◌, ℕ, ◌+◌, ◌*◌, ◌/◌, ◌%◌, ◌<◌, ◌&&◌, Bool, true, false, nat_lt, Option, Some, refl, sym, ◌∙◌, ap, arith}
use Rattle.std.proofs.lemmas.Nat.{div-mul-add, mod-mul-add}
use Rattle.std.proofs.lemmas.Bool.{ltb-true}
use Rattle.torus.specs.declared.step.Choice.{Choice}
use Rattle.torus.specs.declared.step.Choice.TheVariants.{Send, Take, TakeFrom, Put, Credit, CreditOf, Serve, Done, Look}
use Rattle.machine_record.specs.declared.action.Action.{Action}
use Rattle.machine_record.specs.declared.action.Action.TheVariants.{Move, Rounds, Line, Clocked, ClockedRounds, FairRounds, Turned}
use Rattle.machine_record.specs.Action.{action_coded, action_number, action_of, choice_number, is_narrow, move_recorded, port_of, turned_recorded}

-- a kind, and the rest
of_parts : (rest kind : ℕ) → kind < 16 → action_of (rest * 16 + kind) ≡ action_coded kind rest
of_parts rest kind low = λ i. action_coded (mod-mul-add rest 16 kind low i) (div-mul-add rest 16 kind low i)

-- an agent, and an input or output
agent_of : (agent port : ℕ) → port < 4096 → (agent * 4096 + port) / 4096 ≡ agent
agent_of agent port low = div-mul-add agent 4096 port low

port_back : (agent port : ℕ) → port < 4096 → (agent * 4096 + port) % 4096 ≡ port
port_back agent port low = mod-mul-add agent 4096 port low

move_back : (c : Choice) (agent : ℕ) → port_of c < 4096 → action_coded (choice_number c) (agent * 4096 + port_of c) ≡ Some (move_recorded agent c)
move_back Send agent low = ap (λ (a : ℕ). Some (move_recorded a Send)) (agent_of agent 0 low)
move_back Take agent low = ap (λ (a : ℕ). Some (move_recorded a Take)) (agent_of agent 0 low)
move_back (TakeFrom port) agent low = λ i. Some (move_recorded (agent_of agent port low i) (TakeFrom (port_back agent port low i)))
move_back (Put port) agent low = λ i. Some (move_recorded (agent_of agent port low i) (Put (port_back agent port low i)))
move_back Credit agent low = ap (λ (a : ℕ). Some (move_recorded a Credit)) (agent_of agent 0 low)
move_back (CreditOf port) agent low = λ i. Some (move_recorded (agent_of agent port low i) (CreditOf (port_back agent port low i)))
move_back Serve agent low = ap (λ (a : ℕ). Some (move_recorded a Serve)) (agent_of agent 0 low)
move_back Done agent low = ap (λ (a : ℕ). Some (move_recorded a Done)) (agent_of agent 0 low)
move_back Look agent low = ap (λ (a : ℕ). Some (move_recorded a Look)) (agent_of agent 0 low)

kind_low : (c : Choice) → choice_number c < 16
kind_low Send = omega arith
kind_low Take = omega arith
kind_low (TakeFrom port) = omega arith
kind_low (Put port) = omega arith
kind_low Credit = omega arith
kind_low (CreditOf port) = omega arith
kind_low Serve = omega arith
kind_low Done = omega arith
kind_low Look = omega arith

first_of_both : (a b : Bool) → (a && b) ≡ true → a ≡ true
first_of_both true b h = refl
first_of_both false b h = absurd (cc)

pub number_back : (a : Action) → is_narrow a ≡ true → action_of (action_number a) ≡ Some a
number_back (Move s) narrow =
    let low : port_of s.choice < 4096 = ltb-true _ _ (first_of_both _ _ narrow) in
    of_parts (s.agent * 4096 + port_of s.choice) (choice_number s.choice) (kind_low s.choice) ∙ move_back s.choice s.agent low
number_back (Rounds count) narrow = of_parts count 9 (omega arith)
number_back (Line number) narrow = of_parts number 10 (omega arith)
number_back (Clocked turn) narrow = of_parts turn 11 (omega arith)
number_back (ClockedRounds count) narrow = of_parts count 12 (omega arith)
number_back (FairRounds count) narrow = of_parts count 13 (omega arith)
number_back (Turned turns) narrow =
    let low : turns.first < 2048 = ltb-true _ _ (first_of_both _ _ narrow) in
    of_parts (turns.count * 2048 + turns.first) 14 (omega arith)
    ∙ (λ i. Some (turned_recorded (mod-mul-add turns.count 2048 turns.first low i) (div-mul-add turns.count 2048 turns.first low i)))
