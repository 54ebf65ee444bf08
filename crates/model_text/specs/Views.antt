-- What the program's own types stand for.
use Rattle.model_text.specs.declared.log.Log as log
use Rattle.model_text.specs.InsideRows.{rows_now}
use Rattle.model_text.specs.Made.{LogLines}

abbrev pub log_so_far : {A : Type 0} → log.Log A → LogLines
log_so_far r = record {
  head = r.head;
  places = r.places.entries;
  addresses = r.addresses.items;
  rows = rows_now r.rows;
  orders = rows_now r.orders;
  made = r.made.items;
  notes = r.notes.entries;
  reserved = r.reserved.entries;
  dependencies = r.dependencies.items;
  finals = r.finals.entries;
}
