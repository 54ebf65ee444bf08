-- Worked lists of attempts, and what wrong definitions make of them.
use Rattle.std.proofs.Common.{◌≡◌, ℕ, suc, ◌+◌, Bool, true, false, List, [], ◌∷◌, ◌++◌, length, Option, Some, None, refl}
use Rattle.std.specs.Prelude.{◌==◌}
use Rattle.torus.specs.declared.step.Step.{Step}
use Rattle.torus.specs.declared.step.Choice.{Choice}
use Rattle.torus.specs.declared.step.Choice.TheVariants.{Send, Take, TakeFrom, Put, Serve, Done}
use Rattle.packet.specs.Flit.{field}
use Rattle.packet.specs.Flits.{offered, flits_of}
use Rattle.script_lines.specs.declared.line.Line.TheVariants as line
use Rattle.script_lines.specs.declared.line.Value.TheVariants.{Number}
use Rattle.core_laws.specs.Rounds.{or_same, after_attempts, moves_in}
use Rattle.one_order.specs.Following.{first_of, next_operation_of, after_issue, after_answer, is_finished}
use Rattle.core_laws.specs.Core.{Load, round}
use Rattle.core_laws.specs.Machine.{core_after_load}
use Rattle.core_laws.specs.Enabled.{ahead_if_moved, enabled_of}
use Rattle.core_laws.specs.MachineMoves.{moves_of, moves_from}

-- a counter: a choice is enabled where it is the count, and counts on
abbrev counted_on : ℕ → Bool → Option ℕ
counted_on count true = Some (suc count)
counted_on count false = None

abbrev counts : ℕ → ℕ → Option ℕ
counts count choice = counted_on count (count == choice)

abbrev choices : List ℕ
choices = 2 ∷ 0 ∷ 0 ∷ 1 ∷ 2 ∷ []

-- the first 2 comes too early and the second 0 too late; the others count to 3, as all do
enabled_ones : enabled_of counts 0 choices ≡ 0 ∷ 1 ∷ 2 ∷ []
enabled_ones = refl

to_three : after_attempts counts 0 choices ≡ 3
to_three = refl

-- wrong: those that are enabled at first
abbrev enabled_at_first : ℕ → List ℕ → List ℕ
enabled_at_first count [] = []
enabled_at_first count (c ∷ cs) = ahead_if_moved c (counts count c) (enabled_at_first count cs)

first_ones : enabled_at_first 0 choices ≡ 0 ∷ 0 ∷ []
first_ones = refl

first_ones_count_to_one : after_attempts counts 0 (enabled_at_first 0 choices) ≡ 1
first_ones_count_to_one = refl

-- wrong: with those that change nothing; they are more than the moves
abbrev with_idle : ℕ → List ℕ → List ℕ
with_idle count [] = []
with_idle count (c ∷ cs) = c ∷ with_idle (or_same count (counts count c)) cs

five_for_three : length (with_idle 0 choices) ≡ moves_in counts 0 choices + 2
five_for_three = refl

-- two tiles; processor 0 stores a word at address 1, whose home is bank 1
abbrev one_store : Load
one_store = record {
  shape = record { radices = 2 ∷ []; datelines = 1 ∷ [] };
  depth = 4;
  tags = 4;
  opening = 0 ∷ 0 ∷ 0 ∷ 0 ∷ 0 ∷ 0 ∷ 0 ∷ 0 ∷ [];
  scripts = (line.Store 1 (Number 7) ∷ []) ∷ [] ∷ [];
}

abbrev attempt : ℕ → Choice → Step
attempt agent choice = record { agent = agent; choice = choice }

-- a flit goes from processor 0 to bank 1
abbrev one_pass : List Step
one_pass =
    attempt 0 Send ∷ attempt 1 (TakeFrom 8) ∷ attempt 1 (Put 8)
    ∷ attempt 4 (TakeFrom 0) ∷ attempt 4 (Put 0) ∷ attempt 5 Take ∷ []

-- attempts that aren't enabled, of an agent that is there and of one that isn't, are left out
idle_ones_left_out : moves_of one_store (attempt 0 Serve ∷ attempt 7 Send ∷ one_pass ++ attempt 5 Serve ∷ []) ≡ one_pass
unfolding first_of next_operation_of after_issue after_answer is_finished field offered flits_of
idle_ones_left_out = refl

-- the next flit goes the same way, from the machine to which the first one led
next_pass : moves_from (core_after_load one_store one_pass) (attempt 4 (Put 0) ∷ one_pass) ≡ one_pass
unfolding first_of next_operation_of after_issue after_answer is_finished field offered flits_of
next_pass = refl

-- of the 78 attempts of the first round seven are moves: the first flit goes all the way, and processor 1, whose script
-- is empty, reports
attempts_in_a_round : length (round one_store.shape) ≡ 78
attempts_in_a_round = refl

first_round : moves_of one_store (round one_store.shape)
    ≡ attempt 0 Send ∷ attempt 1 (TakeFrom 8) ∷ attempt 1 (Put 8) ∷ attempt 3 Done
    ∷ attempt 4 (TakeFrom 0) ∷ attempt 4 (Put 0) ∷ attempt 5 Take ∷ []
unfolding first_of next_operation_of after_issue after_answer is_finished field offered flits_of
first_round = refl
