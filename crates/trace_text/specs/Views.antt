-- What the program's own types stand for.
use Rattle.trace_text.specs.declared.reading.Reading as reading
use Rattle.trace_text.specs.Traced.{TraceReading}

abbrev pub trace_so_far : {A : Type 0} → reading.Reading A → TraceReading
trace_so_far r = record {
  head = r.head;
  places = r.places.entries;
  addresses = r.addresses.items;
  numbers = r.numbers;
  issued = r.issued.items;
  events = r.events.items;
  lines = r.lines.items;
}
