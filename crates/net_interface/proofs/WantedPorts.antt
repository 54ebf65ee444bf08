-- A processor wants no port and no word that isn't there, and to put no 0.
use Rattle.std.proofs.Common.{◌≡◌, ◌≢◌, ℕ, ◌+◌, ◌*◌, ◌/◌, ◌%◌, ◌^◌, ◌<◌, Bool, true, false, List, [], ◌∷◌, ◌++◌, length, Option, Some, None, subst, arith}
use Rattle.std.proofs.Common.{if◌then◌else◌}
use Rattle.std.specs.Prelude.{All, not, option_map, ◌&&◌}
use Rattle.std.proofs.lemmas.Option.{same_Some}
use Rattle.std.proofs.lemmas.List.Elements.{All-nil, All-cons, All-head, All-tail}
use Rattle.torus.specs.declared.step.Choice.{Choice}
use Rattle.torus.specs.declared.step.Choice.TheVariants as choices
use Rattle.packet.specs.declared.kinds.Op.TheVariants.{Add}
use Rattle.packet.specs.declared.kinds.Packet.{Packet}
use Rattle.packet.specs.declared.kinds.Packet.TheVariants as packet
use Rattle.packet.specs.declared.kinds.Operation.{Operation}
use Rattle.packet.specs.Flit.{Heading}
use Rattle.packet.specs.Flits.{flits_of}
use Rattle.packet.specs.Spelling.{heading_of, values_of}
use Rattle.packet.specs.Written.{head_flit, value_flits, flits_for}
use Rattle.script_lines.specs.declared.line.Line.{Line}
use Rattle.flit_buffer.specs.Channel.{first_of, rest}
use Rattle.flit_buffer.specs.Surroundings.{Surroundings, Wiring, IsPossible}
use Rattle.flit_buffer.specs.declared.want.Want.{Want}
use Rattle.flit_buffer.specs.declared.want.Want.TheVariants.{Take, Put, Credit, Access, Await}
use Rattle.one_order.specs.Following.{is_finished}
use Rattle.one_order.specs.ProcessorRecord.{ready, request_of}
use Rattle.one_order.specs.ProcessorTable.{ProcessorState, flits_due, processor_wants, processor_after}
use Rattle.net_interface.specs.Beginning.{first_processor}
use Rattle.net_interface.specs.Reach.{IsProcessorState}

abbrev IsFlit : ℕ → Type 0
IsFlit flit = flit ≢ 0

if_wanted : (b : Bool) (want other : Want) → (if b then Some want else None) ≡ Some other → want ≡ other
if_wanted true want other e = same_Some want other e
if_wanted false want other e = cc

-- no flit of a packet is 0
above : (n more : ℕ) → 0 < n → n + more ≢ 0
above n more some z = omega arith

-- the two flits of a value, and those after them
some_values : (high low : ℕ) (flits : List ℕ) → high ≢ 0 → low ≢ 0 → All IsFlit flits → All IsFlit (high ∷ low ∷ flits)
some_values high low flits h l all = All-cons IsFlit high (low ∷ flits) h (All-cons IsFlit low flits l all)

high_flit : (v : ℕ) → 2 ^ 61 + v / 2 ^ 32 ≢ 0
high_flit v = above (2 ^ 61) (v / 2 ^ 32) (omega arith)

low_flit : (v tail : ℕ) → tail + 2 ^ 61 + v % 2 ^ 32 ≢ 0
low_flit v tail = above (tail + 2 ^ 61) (v % 2 ^ 32) (omega arith)

some_flits : (head : ℕ) (values : List ℕ) → head ≢ 0 → All IsFlit (flits_for head values)
some_flits head [] some = All-cons IsFlit (2 ^ 62 + head) [] (above (2 ^ 62) head (omega arith)) (All-nil IsFlit)
some_flits head (v ∷ []) some =
    All-cons IsFlit head (value_flits true v) some
    (some_values (2 ^ 61 + v / 2 ^ 32) (2 ^ 62 + 2 ^ 61 + v % 2 ^ 32) [] (high_flit v) (low_flit v (2 ^ 62)) (All-nil IsFlit))
some_flits head (v ∷ w ∷ more) some =
    All-cons IsFlit head (value_flits false v ++ value_flits true w) some
    (some_values (2 ^ 61 + v / 2 ^ 32) (0 + 2 ^ 61 + v % 2 ^ 32) (value_flits true w) (high_flit v) (low_flit v 0)
    (some_values (2 ^ 61 + w / 2 ^ 32) (2 ^ 62 + 2 ^ 61 + w % 2 ^ 32) [] (high_flit w) (low_flit w (2 ^ 62)) (All-nil IsFlit)))

some_head : (told : Heading) → head_flit told ≢ 0
some_head told = above (2 ^ 63 + 2 ^ 61 + told.operation % 8 * 2 ^ 58 + told.class * 2 ^ 57 + told.destination * 2 ^ 51 + told.source * 2 ^ 45
    + told.tag * 2 ^ 41 + told.operation / 8 * 2 ^ 40) told.place (omega arith)

packet_flits : (p : Packet) → All IsFlit (flits_of p)
unfolding flits_of
packet_flits p = some_flits (head_flit (heading_of p)) (values_of p) (some_head (heading_of p))

rest_flits : (flits : List ℕ) → All IsFlit flits → All IsFlit (rest flits)
rest_flits [] all = all
rest_flits (flit ∷ flits) all = All-tail IsFlit flit flits all

-- the flits to send
due_flits : (tiles words tile : ℕ) (to_put : List ℕ) (next : Option (ℕ × Operation)) → All IsFlit to_put → All IsFlit (flits_due tiles words tile to_put next)
due_flits tiles words tile [] None all = All-nil IsFlit
due_flits tiles words tile [] (Some f) all = packet_flits (packet.Request (request_of tiles tile f.0 f.1))
due_flits tiles words tile (flit ∷ flits) next all = all

module _ (tiles words tile : ℕ) (around : Surroundings) (wiring : Wiring) (inputs : length wiring.inputs ≡ 1) (outputs : length wiring.outputs ≡ 1)
    (there : words < length around.words) where
  put_possible : (flits : List ℕ) (want : Want) → All IsFlit flits → option_map (λ flit. Put 0 flit) (first_of flits) ≡ Some want
      → IsPossible around wiring want
  put_possible [] want all e = cc
  put_possible (flit ∷ flits) want all e =
      let port : 0 < length wiring.outputs = omega (arith, outputs) in
      subst (IsPossible around wiring) (same_Some (Put 0 flit) want e) (port, All-head IsFlit flit flits all)

  possible_there : (p : ProcessorState) (choice : Choice) (want : Want) → IsProcessorState p → processor_wants tiles words tile p choice ≡ Some want
      → IsPossible around wiring want
  possible_there p choices.Send want is e =
      put_possible (flits_due tiles words tile p.to_put (ready p.operations)) want (due_flits tiles words tile p.to_put (ready p.operations) is.flits) e
  possible_there p choices.Take want is e =
      let port : 0 < length wiring.inputs = omega (arith, inputs) in
      subst (IsPossible around wiring) (same_Some (Take 0) want e) port
  possible_there p choices.Credit want is e =
      let port : 0 < length wiring.outputs = omega (arith, outputs) in
      subst (IsPossible around wiring) (same_Some (Credit 0) want e) port
  possible_there p choices.Done want is e =
      subst (IsPossible around wiring) (if_wanted (is_finished p.operations.following && not p.reported) (Access words (Add 1)) want e) there
  possible_there p choices.Look want is e =
      subst (IsPossible around wiring) (if_wanted (p.reported && not p.seen) (Await words tiles) want e) there
  possible_there p choices.Serve want is e = cc
  possible_there p (choices.TakeFrom i) want is e = cc
  possible_there p (choices.Put i) want is e = cc
  possible_there p (choices.CreditOf o) want is e = cc

pub possible : (tiles words tile : ℕ) (p : ProcessorState) (choice : Choice) (want : Want) (around : Surroundings) (wiring : Wiring) → IsProcessorState p
    → length wiring.inputs ≡ 1 → length wiring.outputs ≡ 1 → words < length around.words → processor_wants tiles words tile p choice ≡ Some want
    → IsPossible around wiring want
possible tiles words tile p choice want around wiring is inputs outputs there e =
    possible_there tiles words tile around wiring inputs outputs there p choice want is e

pub at_start : (tags : ℕ) (lines : List Line) → IsProcessorState (first_processor tags lines)
at_start tags lines = record { flits = All-nil IsFlit }

pub kept : (tiles words tile : ℕ) (p : ProcessorState) (choice : Choice) (want : Want) (learned : ℕ) → IsProcessorState p
    → IsProcessorState (processor_after tiles words tile p choice want learned)
kept tiles words tile p choices.Send want learned is = record {
  flits = rest_flits (flits_due tiles words tile p.to_put (ready p.operations)) (due_flits tiles words tile p.to_put (ready p.operations) is.flits);
}
kept tiles words tile p choices.Take want learned is = record { flits = is.flits }
kept tiles words tile p choices.Done want learned is = record { flits = is.flits }
kept tiles words tile p choices.Look want learned is = record { flits = is.flits }
kept tiles words tile p choices.Credit want learned is = is
kept tiles words tile p choices.Serve want learned is = is
kept tiles words tile p (choices.TakeFrom i) want learned is = is
kept tiles words tile p (choices.Put i) want learned is = is
kept tiles words tile p (choices.CreditOf o) want learned is = is
