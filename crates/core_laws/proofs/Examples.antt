-- Worked runs, against the definitions.
use Rattle.std.proofs.Common.{◌≡◌, ℕ, zero, suc, [], ◌∷◌, ◌++◌, List, true, Some, None, refl, map}
use Rattle.std.specs.Prelude.{length}
use Rattle.torus.specs.declared.step.Step.{Step}
use Rattle.torus.specs.declared.step.Choice.TheVariants.{Send, Take, TakeFrom, Put, Serve}
use Rattle.torus.specs.declared.shape.Class.TheVariants.{Request}
use Rattle.packet.specs.Flit.{field}
use Rattle.packet.specs.declared.kinds.Op.TheVariants as op
use Rattle.packet.specs.declared.kinds.Operation.{Operation}
use Rattle.packet.specs.declared.kinds.Reply.TheVariants.{Old, Ok as Stored}
use Rattle.script_lines.specs.declared.line.Line.TheVariants as line
use Rattle.script_lines.specs.declared.line.Line.{Line}
use Rattle.script_lines.specs.declared.line.Value.TheVariants.{Number}
use Rattle.one_order.specs.Following.{first_of, next_operation_of, after_issue, after_answer, is_finished}
use Rattle.flit_buffer.specs.Surroundings.{ring}
use Rattle.packet.specs.Flits.{offered, flits_of}
use Rattle.wormhole.specs.Events.{ForwardHead, ForwardRest}
use Rattle.one_order.specs.Flight.{Sends}
use Rattle.core_laws.specs.Asks.{flit_found}
use Rattle.core_laws.specs.Core.{Load, first_state, first_tile, after, show, round}
use Rattle.core_laws.specs.Moves.{issue_of, processor_move}
use Rattle.core_laws.specs.Network.{words_forwarded}
use Rattle.core_laws.specs.Noted.{requests_noted}

-- two tiles, depth 4, 4 tags, 8 words
abbrev two_tiles : Load
two_tiles = record {
  shape = record { radices = 2 ∷ []; datelines = 1 ∷ [] };
  depth = 4;
  tags = 4;
  opening = 0 ∷ 0 ∷ 0 ∷ 0 ∷ 0 ∷ 0 ∷ 0 ∷ 0 ∷ [];
  scripts = (line.Store 1 (Number 7) ∷ []) ∷ [] ∷ [];
}

abbrev one_pass : List Step
one_pass = record { agent = 0; choice = Send } ∷ record { agent = 1; choice = TakeFrom 8 } ∷ record { agent = 1; choice = Put 8 }
    ∷ record { agent = 4; choice = TakeFrom 0 } ∷ record { agent = 4; choice = Put 0 } ∷ record { agent = 5; choice = Take } ∷ []

abbrev served_once : List Step
served_once = one_pass ++ one_pass ++ one_pass ++ record { agent = 5; choice = Serve } ∷ []

first_send : (ring (after two_tiles (record { agent = 0; choice = Send } ∷ [])).around.rings 8).channel.flits ≡ 11819697222033866752 ∷ []
unfolding first_of next_operation_of after_issue after_answer field offered flits_of
first_send = refl

a_store_is_served : show 8 (after two_tiles served_once) ≡ record {
  issued = (record { address = 1; op = op.Store 7 } ∷ []) ∷ [] ∷ [];
  answers = [] ∷ [] ∷ [];
  entries = [] ∷ (record { source = 0; tag = record { 0 = 0 }; address = 1; op = op.Store 7; reply = Stored } ∷ []) ∷ [];
  memory = 0 ∷ 7 ∷ 0 ∷ 0 ∷ 0 ∷ 0 ∷ 0 ∷ 0 ∷ [];
}
unfolding first_of next_operation_of after_issue after_answer field offered flits_of
a_store_is_served = refl

abbrev rounds : ℕ → List Step
rounds zero = []
rounds (suc n) = round two_tiles.shape ++ rounds n

abbrev with_scripts : List (List Line) → Load
with_scripts scripts = record { shape = two_tiles.shape; depth = 4; tags = 4; opening = two_tiles.opening; scripts = scripts }

abbrev store_and_load : Load
store_and_load = with_scripts ((line.Store 5 (Number 17) ∷ line.Fence ∷ line.Load 5 ∷ []) ∷ [] ∷ [])

a_fenced_load_sees_the_store : show 8 (after store_and_load (rounds 13)) ≡ record {
  issued = (record { address = 5; op = op.Store 17 } ∷ record { address = 5; op = op.Load } ∷ []) ∷ [] ∷ [];
  answers = (record { index = 0; op = op.Store 17; reply = Stored; bank = 1; place = 0 }
      ∷ record { index = 1; op = op.Load; reply = Old 17; bank = 1; place = 1 } ∷ []) ∷ [] ∷ [];
  entries = [] ∷ (record { source = 0; tag = record { 0 = 0 }; address = 5; op = op.Store 17; reply = Stored }
      ∷ record { source = 0; tag = record { 0 = 0 }; address = 5; op = op.Load; reply = Old 17 } ∷ []) ∷ [];
  memory = 0 ∷ 0 ∷ 0 ∷ 0 ∷ 0 ∷ 17 ∷ 0 ∷ 0 ∷ [];
}
unfolding first_of next_operation_of after_issue after_answer is_finished field offered flits_of
a_fenced_load_sees_the_store = refl

-- two loads, one a processor, are answered in the fifth round, and not in the fourth
abbrev two_loads : Load
two_loads = with_scripts ((line.Load 0 ∷ []) ∷ (line.Load 1 ∷ []) ∷ [])

four_rounds : map length (show 8 (after two_loads (rounds 4))).answers ≡ 0 ∷ 0 ∷ []
unfolding first_of next_operation_of after_issue after_answer is_finished field offered flits_of
four_rounds = refl

five_rounds : map length (show 8 (after two_loads (rounds 5))).answers ≡ 1 ∷ 1 ∷ []
unfolding first_of next_operation_of after_issue after_answer is_finished field offered flits_of
five_rounds = refl

-- with nothing to do, a round reports both scripts and a second one sees the end
all_done : (after (with_scripts ([] ∷ [] ∷ [])) (rounds 2)).around.words ≡ 0 ∷ 0 ∷ 0 ∷ 0 ∷ 0 ∷ 0 ∷ 0 ∷ 0 ∷ 2 ∷ []
unfolding first_of next_operation_of after_issue after_answer is_finished field offered flits_of
all_done = refl

all_seen : map (λ t. t.processor.seen) (after (with_scripts ([] ∷ [] ∷ [])) (rounds 2)).tiles ≡ true ∷ true ∷ []
unfolding first_of next_operation_of after_issue after_answer is_finished field offered flits_of
all_seen = refl

-- a load of address 1, and the head flit of the reply to it, behind which two flits come
abbrev load : Operation
load = record { address = 1; op = op.Load }

abbrev reply_head : ℕ
reply_head = 11673365418516414464

-- an issue is the head of a request, under its tag; a further flit of a request in course is none
head_is_an_issue : issue_of 0 [] (Some (3, load)) ≡ Some (Sends 0 3 load)
head_is_an_issue = refl

further_flit_is_none : issue_of 0 (2305843009213693952 ∷ []) (Some (3, load)) ≡ None
further_flit_is_none = refl

-- the head of a reply is no answer yet
head_is_no_answer : processor_move 0 (first_tile 1 4 []).processor Take reply_head ≡ None
unfolding field offered
head_is_no_answer = refl

-- the request of an issue is noted under the tag of the issue
request_under_its_tag : requests_noted 2 (Some (Sends 0 3 load)) ([] ∷ [] ∷ [])
    ≡ (record { destination = 1; source = 0; tag = record { 0 = 3 }; word = 0; op = op.Load } ∷ []) ∷ [] ∷ []
request_under_its_tag = refl

-- an empty channel shows 0
empty_channel_shows_zero : flit_found (first_state two_tiles).around 3 ≡ 0
empty_channel_shows_zero = refl

-- a flit that tells where it goes is words_forwarded as a head, and any other as one that follows
head_goes_as_a_head : words_forwarded (Some (record { destination = 1; class = Request })) 8 0 5 ≡ ForwardHead 8 0 5
head_goes_as_a_head = refl

others_follow : words_forwarded None 8 0 5 ≡ ForwardRest 8 0 5
others_follow = refl
