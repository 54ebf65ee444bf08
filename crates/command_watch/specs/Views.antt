-- What the lines gave, as definitions see it.
use Rattle.command_watch.specs.declared.stream.StreamReading as reading
use Rattle.command_watch.specs.Stream.{StreamSpec}

abbrev pub stream_of : {A : Type 0} → reading.StreamReading A → StreamSpec
stream_of r = record {
  head = r.head;
  counts = r.counts.items;
  issued = r.issued;
  pending = r.pending.items;
  given = r.given;
}
