-- A processor before any step.
use Rattle.std.specs.Prelude.{ℕ, ◌*◌, false, List, [], ◌∷◌}
use Rattle.torus.specs.Shape.{Shape}
use Rattle.torus.specs.declared.shape.Class.TheVariants.{Request, Reply}
use Rattle.script_lines.specs.declared.line.Line.{Line}
use Rattle.channel_number.specs.Order.{channel_count}
use Rattle.channel_number.specs.Ports.{injection_channel, ejection_channel}
use Rattle.flit_buffer.specs.Surroundings.{Wiring}
use Rattle.flit_buffer.specs.Wants.{PortEnds}
use Rattle.one_order.specs.ProcessorRecord.{first_record}
use Rattle.one_order.specs.ProcessorTable.{ProcessorState}

-- a processor with so many tags and this script, before any step (this project's own format)
abbrev pub first_processor : ℕ → List Line → ProcessorState
first_processor tags lines =
    record {
      operations = first_record tags lines;
      to_put = [];
      so_far = [];
      reported = false;
      seen = false;
    }

-- the channels of a processor: it sends requests and receives replies (Dally and Towles, chapter
-- 20)
abbrev pub processor_wiring : Shape → ℕ → Wiring
processor_wiring s t = record {
  inputs = ejection_channel s t Reply ∷ [];
  outputs = injection_channel s t Request ∷ [];
}

-- a processor's ports in the beginning, where all channels are empty: the tile's ejection of
-- replies is its input, the tile's injection of requests its output, and the words stand behind the
-- places of all channels (Dally and Towles, chapters 13 and 20)
abbrev pub processor_ports : Shape → ℕ → ℕ → PortEnds
processor_ports s t depth = record {
  inputs = (record { base = ejection_channel s t Reply * depth; depth = depth; next = 0 }) ∷ [];
  outputs = (record {
    base = injection_channel s t Request * depth;
    depth = depth;
    next = 0;
    credits = depth;
  }) ∷ [];
  words = channel_count s * depth;
}
