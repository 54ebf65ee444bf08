-- Worked rows, against the definitions.
use Rattle.std.proofs.Common.{◌≡◌, ℕ, List, [], ◌∷◌, ◌++◌, Some, refl, take, replicate}
use Rattle.torus.specs.declared.step.Step.{Step}
use Rattle.torus.specs.declared.step.Choice.TheVariants.{Send, Take, TakeFrom, Put, Serve}
use Rattle.packet.specs.Flit.{field}
use Rattle.packet.specs.Flits.{offered, flits_of}
use Rattle.script_lines.specs.declared.line.Line.TheVariants as line
use Rattle.script_lines.specs.declared.line.Value.TheVariants.{Number}
use Rattle.one_order.specs.Following.{first_of, next_operation_of, after_issue, after_answer}
use Rattle.flit_buffer.specs.declared.word_op.WordOp.TheVariants as word_op
use Rattle.core_laws.specs.Core.{Load, after, design_of, first_state}
use Rattle.core_laws.specs.Row.{row_of}
use Rattle.core_laws.specs.Attempts.{step_op}
use Rattle.core_laws.specs.Taken.{step_takes}

-- two tiles, depth 4, 4 tags, 8 words: 96 places, 8 words and the done word; processor 0 stores 7 at address 1
abbrev two_tiles : Load
two_tiles = record {
  shape = record { radices = 2 ∷ []; datelines = 1 ∷ [] };
  depth = 4;
  tags = 4;
  opening = replicate 8 0;
  scripts = (line.Store 1 (Number 7) ∷ []) ∷ [] ∷ [];
}

-- a flit's way from processor 0 to bank 1
abbrev one_flit : List Step
one_flit = record { agent = 0; choice = Send } ∷ record { agent = 1; choice = TakeFrom 8 } ∷ record { agent = 1; choice = Put 8 }
    ∷ record { agent = 4; choice = TakeFrom 0 } ∷ record { agent = 4; choice = Put 0 } ∷ record { agent = 5; choice = Take } ∷ []

-- three flits, and the service
abbrev store : List Step
store = one_flit ++ (one_flit ++ (one_flit ++ record { agent = 5; choice = Serve } ∷ []))

-- the row after so many of these steps
abbrev row_after : ℕ → List ℕ
row_after k = row_of (design_of two_tiles) (after two_tiles (take k store))

-- a row of 105 words with one that isn't 0
abbrev zeros : ℕ → List ℕ
zeros n = replicate n 0

abbrev head : ℕ
head = 11819697222033866752

at_first : row_after 0 ≡ zeros 105
unfolding first_of next_operation_of after_issue after_answer field offered flits_of
at_first = refl

-- the head is in the first place of the injection of tile 0, which is channel 8
after_send : row_after 1 ≡ zeros 32 ++ head ∷ zeros 72
unfolding first_of next_operation_of after_issue after_answer field offered flits_of
after_send = refl

-- in a latch
after_take : row_after 2 ≡ zeros 105
unfolding first_of next_operation_of after_issue after_answer field offered flits_of
after_take = refl

-- in the first place of the hop from tile 0 to tile 1, channel 0
after_put : row_after 3 ≡ head ∷ zeros 104
unfolding first_of next_operation_of after_issue after_answer field offered flits_of
after_put = refl

after_next_take : row_after 4 ≡ zeros 105
unfolding first_of next_operation_of after_issue after_answer field offered flits_of
after_next_take = refl

-- in the first place of the ejection of requests of tile 1, channel 22
after_next_put : row_after 5 ≡ zeros 88 ++ head ∷ zeros 16
unfolding first_of next_operation_of after_issue after_answer field offered flits_of
after_next_put = refl

-- at the bank
after_last_take : row_after 6 ≡ zeros 105
unfolding first_of next_operation_of after_issue after_answer field offered flits_of
after_last_take = refl

-- the second flit goes into the second place
after_second_send : row_after 7 ≡ zeros 33 ++ 2305843009213693952 ∷ zeros 71
unfolding first_of next_operation_of after_issue after_answer field offered flits_of
after_second_send = refl

-- the word at address 1 is 7, and the done word is 0
after_service : row_after 19 ≡ zeros 97 ++ 7 ∷ zeros 7
unfolding first_of next_operation_of after_issue after_answer field offered flits_of
after_service = refl

-- the first send is a store in the first place of channel 8, and the service a store at address 1
first_op : step_op (design_of two_tiles) (first_state two_tiles) (record { agent = 0; choice = Send }) ≡ Some (word_op.Store 32 head)
unfolding first_of next_operation_of after_issue after_answer field offered flits_of
first_op = refl

service_op : step_op (design_of two_tiles) (after two_tiles (take 18 store)) (record { agent = 5; choice = Serve }) ≡ Some (word_op.Store 97 7)
unfolding first_of next_operation_of after_issue after_answer field offered flits_of
service_op = refl

-- the router takes no flit from the empty channel 8, and one once it was sent
abbrev router_take : Step
router_take = record { agent = 1; choice = TakeFrom 8 }

nothing_to_take : step_takes (design_of two_tiles) (first_state two_tiles) router_take 8 ≡ 0
unfolding first_of next_operation_of after_issue after_answer field offered flits_of
nothing_to_take = refl

one_to_take : step_takes (design_of two_tiles) (after two_tiles (take 1 store)) router_take 8 ≡ 1
unfolding first_of next_operation_of after_issue after_answer field offered flits_of
one_to_take = refl
