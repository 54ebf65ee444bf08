-- What a processor keeps of its operations: the record of a processor.
use Rattle.std.specs.Prelude.{ℕ, ◌/◌, ◌%◌, List, [], ◌∷◌, ◌++◌, Some, None, Option, option_map, option_and_then}
use Rattle.std.specs.Prelude.{replicate, slice_set, slice_index_or}
use Rattle.torus.specs.declared.step.OpId.{OpId}
use Rattle.packet.specs.declared.kinds.Op.TheVariants.{Load as Loads}
use Rattle.packet.specs.declared.kinds.Operation.{Operation}
use Rattle.packet.specs.declared.kinds.Request.{Request}
use Rattle.packet.specs.declared.kinds.Response.{Response}
use Rattle.tag_table.specs.Tags.{free_tag}
use Rattle.script_lines.specs.declared.line.Line.{Line}
use Rattle.one_order.specs.Following.{Following, first_of, next_operation_of, after_issue, after_answer}
use Rattle.one_order.specs.Following.{follower_with}
use Rattle.one_order.specs.declared.answer.Answer.{Answer}

-- the record of a processor (this project's own format)
pub record ProcessorRecord : Type 0 where
  -- how far it has followed its script
  pub following : Following
  -- which operation holds each of its tags
  pub tags : List (Option OpId)
  -- its operations, in the order of issue, and its answers, in the order of answering
  pub issued : List Operation
  pub answers : List Answer

-- the record of a processor with so many tags and this script, before any operation (this project's
-- own format)
abbrev pub first_record : ℕ → List Line → ProcessorRecord
first_record tags lines =
    record { following = first_of lines; tags = replicate tags None; issued = []; answers = [] }

-- in place of the record of a processor that isn't there
abbrev pub no_processor : ProcessorRecord
no_processor = record { following = first_of []; tags = []; issued = []; answers = [] }

-- the operation of its script that is ready, and the lowest free tag, if there are both
abbrev pub ready : ProcessorRecord → Option (ℕ × Operation)
ready b = option_and_then (λ o. option_map (λ tag. (tag, o)) (free_tag b.tags))
    (next_operation_of b.following)

-- the index of the operation that holds a tag; 0 where none does
abbrev pub index_in : Option OpId → ℕ
index_in None = 0
index_in (Some id) = id.0

-- the index of the operation that holds a tag of the processor
abbrev pub index_of : ProcessorRecord → ℕ → ℕ
index_of b tag = index_in (slice_index_or b.tags tag None)

-- the operation that holds a tag of the processor
abbrev pub operation_under : ProcessorRecord → ℕ → Operation
operation_under b tag = slice_index_or b.issued (index_of b tag) (record { address = 0; op = Loads })

-- the record after an issue under a tag
abbrev pub issued_by : ProcessorRecord → ℕ → Operation → ProcessorRecord
issued_by b tag o = record {
  following = after_issue b.following;
  tags = slice_set b.tags tag (Some (record { 0 = b.following.issued }));
  issued = b.issued ++ o ∷ [];
  answers = b.answers;
}

-- the request of an operation of processor t, under a tag, to the operation's home bank
abbrev pub request_of : ℕ → ℕ → ℕ → Operation → Request
request_of tiles t tag o = record {
  destination = o.address % tiles;
  source = t;
  tag = record { 0 = tag };
  word = o.address / tiles;
  op = o.op;
}

-- the answer that a response brings, to the operation that holds its tag
abbrev pub answer_of : ProcessorRecord → Response → Answer
answer_of b r = record {
  index = index_of b r.tag.0;
  op = (operation_under b r.tag.0).op;
  reply = r.reply;
  bank = r.source;
  place = r.place;
}

-- the record after an answer, which gives the tag back
abbrev pub answered_by : ProcessorRecord → Response → ProcessorRecord
answered_by b r = record {
  following = after_answer b.following (index_of b r.tag.0) r.reply;
  tags = slice_set b.tags r.tag.0 None;
  issued = b.issued;
  answers = b.answers ++ answer_of b r ∷ [];
}

-- the record with a line at the end of its script
abbrev pub record_with : Line → ProcessorRecord → ProcessorRecord
record_with line b = record {
  following = follower_with line b.following;
  tags = b.tags;
  issued = b.issued;
  answers = b.answers;
}
