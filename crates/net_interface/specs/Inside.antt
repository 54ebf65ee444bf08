-- How the fields of a processor and of its record stand for its state.
use Rattle.std.specs.Prelude.{◌≡◌, ◌≢◌, ℕ, ◌+◌, ◌<◌, ◌≤◌, ◌==◌, if◌then◌else◌, List, [], length, drop, slice_get}
use Rattle.std.specs.Prelude.{Option, Some, None, option_map, vec_capacity}
use Rattle.torus.specs.declared.step.OpId.{OpId}
use Rattle.torus.specs.declared.step.Tag.{Tag}
use Rattle.packet.specs.declared.kinds.Operation.{Operation}
use Rattle.script_lines.specs.declared.line.Line.{Line}
use Rattle.flit_buffer.specs.Channel.{first_of}
use Rattle.tag_table.specs.Tags.{holder_of, HoldDistinctTags}
use Rattle.one_order.specs.Scripts.{Invocation, IsFollowable, AreAnswersBefore, unanswered}
use Rattle.one_order.specs.Following.{ShowsPast, left_of}
use Rattle.one_order.specs.ProcessorRecord.{ProcessorRecord, ready}
use Rattle.one_order.specs.ProcessorTable.{request_flits}
use Rattle.net_interface.specs.Place.{ProcessorPlace}
use Rattle.net_interface.specs.declared.record.Record.TheInside as in_record
use Rattle.net_interface.specs.declared.processor.Processor.TheInside as in_processor

-- the record that the fields stand for
abbrev pub record_of : {A : Type 0} → in_record.Inside A → ProcessorRecord
record_of r = record {
  following = r.follower;
  tags = r.tags;
  issued = r.issued.items;
  answers = r.answers.items;
}

-- the operation of an index is issued, and awaits an answer
abbrev pub AwaitsAnswer : List Invocation → ℕ → Type 0
AwaitsAnswer past i = (o : Invocation) × (slice_get past i ≡ Some o) × (o.answer ≡ None)

-- these operations of these lines, all answered before step `now`, are those of a record: its
-- follower shows them, as many are issued and answered, and those that hold its tags, one each,
-- await their answers
pub record AreOperationsOf (lines : List Line) (past : List Invocation) (now : ℕ)
    (b : ProcessorRecord) : Type 0 where
  pub followable : IsFollowable lines
  pub shows : ShowsPast lines past b.following
  pub before : AreAnswersBefore past now
  pub issued : length b.issued ≡ length past
  pub answers : length b.answers + unanswered past ≡ length past
  pub distinct : HoldDistinctTags b.tags
  pub held : (t : ℕ) (id : OpId) → holder_of b.tags t ≡ Some id → AwaitsAnswer past id.0

-- the record is of some operations of a script, and there is room for these and all that the script
-- still allows
pub record IsRecord {A : Type 0} (r : in_record.Inside A) : Type 0 where
  pub lines : List Line
  pub past : List Invocation
  pub now : ℕ
  pub operations : AreOperationsOf lines past now (record_of r)
  pub issued_room : length r.issued.items + left_of r.follower ≤ vec_capacity r.issued
  pub answers_room : length r.issued.items + left_of r.follower ≤ vec_capacity r.answers

-- the flits of the request in course that are left, of a request of which so many are put: none is
-- in course while none is put
abbrev pub flits_in_course : ℕ → List ℕ → List ℕ
flits_in_course put flits = if put == 0 then [] else drop put flits

-- a tag and an operation, the tag as a `Tag`
abbrev pub with_tag : Option (ℕ × Operation) → Option (Tag × Operation)
with_tag next = option_map (λ f. (record { 0 = f.0 }, f.1)) next

-- the processor that the fields stand for
abbrev pub processor_place_of : {A : Type 0} → in_processor.Inside A → ProcessorPlace
processor_place_of p = record {
  tiles = p.tiles;
  words = p.words;
  tile = p.tile;
  agent = record {
    state = record {
      operations = p.operations;
      to_put = flits_in_course p.put p.flits.items;
      so_far = p.assembler;
      reported = p.reported;
      seen = p.seen;
    };
    ports = p.ports;
  };
}

-- the tile is there; there are one input and one output; with no request in course the operation
-- that is ready and its flits are kept, else some flits are left; the head flit is kept of a reply
-- that has begun (this project's own format)
pub record IsProcessor {A : Type 0} (p : in_processor.Inside A) : Type 0 where
  pub tile : p.tile < p.tiles
  pub few : p.tiles ≤ 64
  pub inputs : length p.ports.inputs ≡ 1
  pub outputs : length p.ports.outputs ≡ 1
  pub next : p.put ≡ 0 → p.next ≡ with_tag (ready p.operations)
  pub flits : p.put ≡ 0 → p.flits.items ≡ request_flits p.tiles p.words p.tile (ready p.operations)
  pub begun : p.begun ≡ first_of p.assembler
  pub left : p.put ≢ 0 → p.put < length p.flits.items
