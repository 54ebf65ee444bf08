-- The table of a processor's choices.
use Rattle.std.specs.Prelude.{ℕ, ◌&&◌, Bool, true, false, not, if◌then◌else◌, List, [], ◌∷◌, Option}
use Rattle.std.specs.Prelude.{Some, None, option_map}
use Rattle.torus.specs.declared.step.Choice.{Choice}
use Rattle.torus.specs.declared.step.Choice.TheVariants as choice
use Rattle.packet.specs.declared.kinds.Operation.{Operation}
use Rattle.packet.specs.declared.kinds.Op.TheVariants.{Add}
use Rattle.packet.specs.declared.kinds.Packet.TheVariants.{Request, Response}
use Rattle.packet.specs.declared.assembler.Offered.{Offered}
use Rattle.packet.specs.declared.assembler.Offered.TheVariants.{Whole}
use Rattle.packet.specs.Answer.{flits_left}
use Rattle.script_lines.specs.declared.line.Line.{Line}
use Rattle.flit_buffer.specs.declared.want.Want.{Want}
use Rattle.flit_buffer.specs.declared.want.Want.TheVariants.{Take, Put, Credit, Access, Await}
use Rattle.flit_buffer.specs.Channel.{first_of, rest}
use Rattle.one_order.specs.Following.{is_finished}
use Rattle.one_order.specs.ProcessorRecord.{ProcessorRecord, ready, issued_by, answered_by, request_of}
use Rattle.one_order.specs.ProcessorRecord.{record_with}
use Rattle.packet.specs.Flits.{offered, flits_of}

-- the state of a processor: its record of operations; the flits of the request in course that are
-- not put yet; the flits so far of the reply that comes in; and whether it has reported that its
-- script is finished, and seen that all have (this project's own format)
pub record ProcessorState : Type 0 where
  pub operations : ProcessorRecord
  pub to_put : List ℕ
  pub so_far : List ℕ
  pub reported : Bool
  pub seen : Bool

-- the processor with a line at the end of its script
abbrev pub processor_with : Line → ProcessorState → ProcessorState
processor_with line p = record {
  operations = record_with line p.operations;
  to_put = p.to_put;
  so_far = p.so_far;
  reported = p.reported;
  seen = p.seen;
}

-- the processor as if it had neither reported nor seen that all have
abbrev pub processor_open : ProcessorState → ProcessorState
processor_open p = record {
  operations = p.operations;
  to_put = p.to_put;
  so_far = p.so_far;
  reported = false;
  seen = false;
}

-- the number of tiles, the number of words, and the processor's tile
module _ (tiles words tile : ℕ) where
  -- the flits of the request for an operation under a tag (Dally and Towles, chapter 20)
  abbrev pub request_flits : Option (ℕ × Operation) → List ℕ
  request_flits None = []
  request_flits (Some f) = flits_of (Request (request_of tiles tile f.0 f.1))

  -- the flits to send: those left of the request in course; with none in course, those of the
  -- operation that is ready under a free tag
  abbrev pub flits_due : List ℕ → Option (ℕ × Operation) → List ℕ
  flits_due [] next = request_flits next
  flits_due (flit ∷ flits) next = flit ∷ flits

  -- the record after an operation is issued under a tag
  abbrev pub issued_of : Option (ℕ × Operation) → ProcessorRecord → ProcessorRecord
  issued_of None b = b
  issued_of (Some f) b = issued_by b f.0 f.1

  -- the record after a flit is sent: with no request in course it was a head, and the operation is
  -- issued
  abbrev pub record_sent : List ℕ → ProcessorRecord → ProcessorRecord
  record_sent [] b = issued_of (ready b) b
  record_sent (flit ∷ flits) b = b

  -- the record after what the assembler answers to a flit: a whole reply is noted as the
  -- operation's answer, and its tag is given back
  abbrev pub record_offered : ProcessorRecord → Offered → ProcessorRecord
  record_offered b (Whole (Response r)) = answered_by b r
  record_offered b _ = b

  -- what a processor's choice wants (this project's own format)
  abbrev pub processor_wants : ProcessorState → Choice → Option Want
  processor_wants p choice.Send =
      option_map (λ flit. Put 0 flit) (first_of (flits_due p.to_put (ready p.operations)))
  processor_wants p choice.Take = Some (Take 0)
  processor_wants p choice.Credit = Some (Credit 0)
  processor_wants p choice.Done =
      if is_finished p.operations.following && not p.reported then Some (Access words (Add 1))
      else None
  processor_wants p choice.Look =
      if p.reported && not p.seen then Some (Await words tiles) else None
  processor_wants p _ = None

  -- the processor after a granted want (this project's own format)
  abbrev pub processor_after : ProcessorState → Choice → Want → ℕ → ProcessorState
  processor_after p choice.Send want learned = record p {
    operations = record_sent p.to_put p.operations;
    to_put = rest (flits_due p.to_put (ready p.operations));
  }
  processor_after p choice.Take want flit = record p {
    operations = record_offered p.operations (offered p.so_far flit);
    so_far = flits_left (offered p.so_far flit) p.so_far flit;
  }
  processor_after p choice.Done want learned = record p { reported = true }
  processor_after p choice.Look want learned = record p { seen = true }
  processor_after p _ want learned = p
