-- A bank wants no port and no word that isn't there.
use Rattle.std.proofs.Common.{◌≡◌, ◌≢◌, ℕ, ◌+◌, ◌*◌, ◌/◌, ◌%◌, ◌^◌, ◌<◌, ◌≤◌, Bool, true, false, List, [], ◌∷◌, ◌++◌, length, Option, Some, None, refl, subst}
use Rattle.std.proofs.Common.{arith, if◌then◌else◌}
use Rattle.std.specs.Prelude.{All, IfSome, is_none, option_map, ◌&&◌}
use Rattle.std.proofs.lemmas.Option.{same_Some}
use Rattle.std.proofs.lemmas.List.Elements.{All-nil, All-cons, All-head, All-tail}
use Rattle.torus.specs.declared.step.Choice.{Choice}
use Rattle.torus.specs.declared.step.Choice.TheVariants as choices
use Rattle.packet.specs.declared.assembler.Offered.{Offered}
use Rattle.packet.specs.declared.assembler.Offered.TheVariants.{More, Whole, Refused}
use Rattle.packet.specs.declared.kinds.Packet.{Packet}
use Rattle.packet.specs.declared.kinds.Packet.TheVariants as packet
use Rattle.packet.specs.declared.kinds.Request.{Request}
use Rattle.packet.specs.Flit.{Heading}
use Rattle.packet.specs.Flits.{offered, flits_of}
use Rattle.packet.specs.Memory.{reply_to}
use Rattle.packet.specs.Spelling.{heading_of, values_of}
use Rattle.packet.specs.Written.{head_flit, value_flits, flits_for}
use Rattle.flit_buffer.specs.Channel.{first_of, rest}
use Rattle.flit_buffer.specs.Surroundings.{Surroundings, Wiring, IsPossible}
use Rattle.flit_buffer.specs.declared.want.Want.{Want}
use Rattle.flit_buffer.specs.declared.want.Want.TheVariants.{Take, Put, Credit, Access}
use Rattle.home_bank.specs.ServiceList.{address_of, response_of}
use Rattle.home_bank.specs.BankTable.{BankState, is_nil, waiting_offered, served, bank_wants, bank_after}
use Rattle.home_bank.specs.Beginning.{empty_bank}
use Rattle.home_bank.specs.Reach.{IsBankState}

abbrev IsFlit : ℕ → Type 0
IsFlit flit = flit ≢ 0

pub if_wanted : (b : Bool) (want other : Want) → (if b then Some want else None) ≡ Some other → want ≡ other
if_wanted true want other e = same_Some want other e
if_wanted false want other e = cc

module _ (tiles tile words : ℕ) (around : Surroundings) (wiring : Wiring) (inputs : length wiring.inputs ≡ 1) (outputs : length wiring.outputs ≡ 1)
    (there : words ≤ length around.words) where
  put_possible : (flits : List ℕ) (want : Want) → All IsFlit flits → option_map (λ flit. Put 0 flit) (first_of flits) ≡ Some want
      → IsPossible around wiring want
  put_possible [] want all e = cc
  put_possible (flit ∷ flits) want all e =
      let port : 0 < length wiring.outputs = omega (arith, outputs) in
      subst (IsPossible around wiring) (same_Some (Put 0 flit) want e) (port, All-head IsFlit flit flits all)

  access_possible : (waiting : Option Request) (want : Want) → IfSome waiting (λ r. address_of tile tiles r.word < words)
      → option_map (λ (r : Request). Access (address_of tile tiles r.word) r.op) waiting ≡ Some want → IsPossible around wiring want
  access_possible None want word e = cc
  access_possible (Some r) want word e =
      let low : address_of tile tiles r.word < length around.words = omega (arith, word, there) in
      subst (IsPossible around wiring) (same_Some (Access (address_of tile tiles r.word) r.op) want e) low

  pub possible_there : (b : BankState) (choice : Choice) (want : Want) → IsBankState tiles tile words b → bank_wants tiles tile b choice ≡ Some want
      → IsPossible around wiring want
  possible_there b choices.Take want is e =
      let port : 0 < length wiring.inputs = omega (arith, inputs) in
      subst (IsPossible around wiring) (if_wanted (is_none b.waiting && is_nil b.to_put) (Take 0) want e) port
  possible_there b choices.Serve want is e = access_possible b.waiting want is.word e
  possible_there b choices.Send want is e = put_possible b.to_put want is.flits e
  possible_there b choices.Credit want is e =
      let port : 0 < length wiring.outputs = omega (arith, outputs) in
      subst (IsPossible around wiring) (same_Some (Credit 0) want e) port
  possible_there b (choices.TakeFrom i) want is e = cc
  possible_there b (choices.Put i) want is e = cc
  possible_there b (choices.CreditOf o) want is e = cc
  possible_there b choices.Done want is e = cc
  possible_there b choices.Look want is e = cc

pub possible : (tiles tile words : ℕ) (b : BankState) (choice : Choice) (want : Want) (around : Surroundings) (wiring : Wiring) → IsBankState tiles tile words b
    → length wiring.inputs ≡ 1 → length wiring.outputs ≡ 1 → words ≤ length around.words → bank_wants tiles tile b choice ≡ Some want
    → IsPossible around wiring want
possible tiles tile words b choice want around wiring is inputs outputs there e =
    possible_there tiles tile words around wiring inputs outputs there b choice want is e

pub at_start : (tiles tile words : ℕ) → IsBankState tiles tile words empty_bank
at_start tiles tile words = record { word = tt; flits = All-nil IsFlit }

-- no flit of a packet is 0
above : (n more : ℕ) → 0 < n → n + more ≢ 0
above n more some z = omega arith

-- the two flits of a value, and those after them
some_values : (high low : ℕ) (flits : List ℕ) → high ≢ 0 → low ≢ 0 → All IsFlit flits → All IsFlit (high ∷ low ∷ flits)
some_values high low flits h l all = All-cons IsFlit high (low ∷ flits) h (All-cons IsFlit low flits l all)

high_flit : (v : ℕ) → 2 ^ 61 + v / 2 ^ 32 ≢ 0
high_flit v = above (2 ^ 61) (v / 2 ^ 32) (omega arith)

low_flit : (v tail : ℕ) → tail + 2 ^ 61 + v % 2 ^ 32 ≢ 0
low_flit v tail = above (tail + 2 ^ 61) (v % 2 ^ 32) (omega arith)

some_flits : (head : ℕ) (values : List ℕ) → head ≢ 0 → All IsFlit (flits_for head values)
some_flits head [] some = All-cons IsFlit (2 ^ 62 + head) [] (above (2 ^ 62) head (omega arith)) (All-nil IsFlit)
some_flits head (v ∷ []) some =
    All-cons IsFlit head (value_flits true v) some
    (some_values (2 ^ 61 + v / 2 ^ 32) (2 ^ 62 + 2 ^ 61 + v % 2 ^ 32) [] (high_flit v) (low_flit v (2 ^ 62)) (All-nil IsFlit))
some_flits head (v ∷ w ∷ more) some =
    All-cons IsFlit head (value_flits false v ++ value_flits true w) some
    (some_values (2 ^ 61 + v / 2 ^ 32) (0 + 2 ^ 61 + v % 2 ^ 32) (value_flits true w) (high_flit v) (low_flit v 0)
    (some_values (2 ^ 61 + w / 2 ^ 32) (2 ^ 62 + 2 ^ 61 + w % 2 ^ 32) [] (high_flit w) (low_flit w (2 ^ 62)) (All-nil IsFlit)))

some_head : (told : Heading) → head_flit told ≢ 0
some_head told = above (2 ^ 63 + 2 ^ 61 + told.operation % 8 * 2 ^ 58 + told.class * 2 ^ 57 + told.destination * 2 ^ 51 + told.source * 2 ^ 45
    + told.tag * 2 ^ 41 + told.operation / 8 * 2 ^ 40) told.place (omega arith)

pub packet_flits : (p : Packet) → All IsFlit (flits_of p)
unfolding flits_of
packet_flits p = some_flits (head_flit (heading_of p)) (values_of p) (some_head (heading_of p))

rest_flits : (flits : List ℕ) → All IsFlit flits → All IsFlit (rest flits)
rest_flits [] all = all
rest_flits (flit ∷ flits) all = All-tail IsFlit flit flits all

module _ (tiles tile words : ℕ) (b : BankState) (is : IsBankState tiles tile words b) where
  waits : (answer : Offered) → ((r : Request) → answer ≡ Whole (packet.Request r) → address_of tile tiles r.word < words)
      → IfSome (waiting_offered tiles tile b.waiting answer) (λ r. address_of tile tiles r.word < words)
  waits (Whole (packet.Request r)) asked = asked r refl
  waits (Whole (packet.Response r)) asked = is.word
  waits More asked = is.word
  waits (Refused kind) asked = is.word

  served_kept : (waiting : Option Request) (found : ℕ) → IsBankState tiles tile words (served tiles tile b waiting found)
  served_kept None found = is
  served_kept (Some r) found = record { word = tt; flits = packet_flits (packet.Response (response_of tile (length b.entries) r (reply_to r.op found))) }

pub kept : (tiles tile words : ℕ) (b : BankState) (choice : Choice) (want : Want) (learned : ℕ) → IsBankState tiles tile words b
    → ((r : Request) → choice ≡ choices.Take → offered b.so_far learned ≡ Whole (packet.Request r) → address_of tile tiles r.word < words)
    → IsBankState tiles tile words (bank_after tiles tile b choice want learned)
kept tiles tile words b choices.Take want learned is asked = record {
  word = waits tiles tile words b is (offered b.so_far learned) (λ r e. asked r refl e);
  flits = is.flits;
}
kept tiles tile words b choices.Serve want learned is asked = served_kept tiles tile words b is b.waiting learned
kept tiles tile words b choices.Send want learned is asked = record { word = is.word; flits = rest_flits b.to_put is.flits }
kept tiles tile words b choices.Credit want learned is asked = is
kept tiles tile words b (choices.TakeFrom i) want learned is asked = is
kept tiles tile words b (choices.Put i) want learned is asked = is
kept tiles tile words b (choices.CreditOf o) want learned is asked = is
kept tiles tile words b choices.Done want learned is asked = is
kept tiles tile words b choices.Look want learned is asked = is
