-- What the agents' tables make of values.
use Rattle.std.proofs.Common.{◌≡◌, ◌≢◌, ℕ, zero, suc, ◌+◌, ◌^◌, ◌<◌, ◌==◌, Bool, true, false, List, [], ◌∷◌, ◌++◌, length, Option, Some, None, refl, sym}
use Rattle.std.proofs.Common.{subst, arith, slice_index, slice_index_or, slice_set, if◌then◌else◌}
use Rattle.std.specs.Prelude.{option_map, is_none, not, ◌&&◌, nat_lt}
use Rattle.std.proofs.lemmas.Bool.{cond_both}
use Rattle.std.proofs.lemmas.Option.{same_Some}
use Rattle.std.proofs.lemmas.List.Elements.{All-nil, All-cons, All-tail}
use Rattle.torus.specs.Shape.{Shape, dims_of}
use Rattle.torus.specs.declared.step.Choice.{Choice}
use Rattle.torus.specs.declared.step.Choice.TheVariants.{Send, Take, TakeFrom, Put, Credit, CreditOf, Serve, Done, Look}
use Rattle.packet.specs.declared.assembler.Kind.{Kind}
use Rattle.packet.specs.declared.assembler.Offered.{Offered}
use Rattle.packet.specs.declared.assembler.Offered.TheVariants.{More, Whole, Refused}
use Rattle.packet.specs.declared.kinds.Code.{Code}
use Rattle.packet.specs.declared.kinds.Code.TheVariants as code
use Rattle.packet.specs.declared.kinds.Operation.{Operation}
use Rattle.packet.specs.declared.kinds.Packet.{Packet}
use Rattle.packet.specs.declared.kinds.Packet.TheVariants as packet
use Rattle.packet.specs.declared.kinds.Request.{Request as Asking}
use Rattle.packet.specs.declared.kinds.Response.{Response as Telling}
use Rattle.packet.specs.Flit.{Heading}
use Rattle.packet.specs.Memory.{new_word, reply_to}
use Rattle.packet.specs.Reading.{heading_told, code_numbered, reply_with, packet_with, value_at, packet_told}
use Rattle.packet.specs.Refusal.{refusal}
use Rattle.packet.specs.Spelling.{values_of_op}
use Rattle.packet.proofs.Fields.{field_below}
use Rattle.home_bank.specs.ServiceList.{address_of, response_of}
use Rattle.one_order.specs.Scripts.{reply_number}
use Rattle.one_order.specs.Following.{is_finished}
use Rattle.flit_buffer.specs.Channel.{first_of, rest}
use Rattle.flit_buffer.specs.declared.want.Want.{Want}
use Rattle.flit_buffer.specs.declared.want.Want.TheVariants as want
use Rattle.flit_buffer.specs.Surroundings.{Surroundings, Wiring, surroundings_after}
use Rattle.one_order.specs.ProcessorRecord.{ProcessorRecord, ready, request_of}
use Rattle.packet.specs.Flits.{is_tail, offered_by, offered, flits_of, head_of}
use Rattle.router.specs.Table.{RouterState, latch_of, output_for, wants_to_take, wants_to_put, router_wants, router_after}
use Rattle.channel_number.specs.Ports.{port_count}
use Rattle.one_order.specs.ProcessorTable.{ProcessorState, processor_wants, processor_after, flits_due, issued_of, record_sent, record_offered}
use Rattle.home_bank.specs.BankTable.{BankState, is_nil, bank_wants, bank_after, served}
use Rattle.core_laws.proofs.AgentSteps.{option_map_some}
use Rattle.core_laws.proofs.SendFacts.{ready_parts}
use Rattle.core_laws.proofs.ChannelWants.{if_what}
use Rattle.packet.proofs.Words.{Below, word_stays}
use Rattle.core_laws.proofs.Followed.{IsFollowed, followed_issued, followed_answered}
use Rattle.core_laws.proofs.Values.{AreSome}

-- an element of a list of which one was replaced
pub set_any : {A : Type 0} (d : A) (xs : List A) (k : ℕ) (x : A) (i : ℕ) (P : A → Type 0) → P x → P (slice_index_or xs i d)
    → P (slice_index_or (slice_set xs k x) i d)
set_any d [] k x i P new old = old
set_any d (y ∷ xs) zero x zero P new old = new
set_any d (y ∷ xs) zero x (suc i) P new old = old
set_any d (y ∷ xs) (suc k) x zero P new old = old
set_any d (y ∷ xs) (suc k) x (suc i) P new old = set_any d xs k x i P new old

-- an operation that is wanted is of 64-bit values
abbrev pub IsSoundWant : Want → Type 0
IsSoundWant (want.Take i) = Unit {0}
IsSoundWant (want.Put o flit) = Unit {0}
IsSoundWant (want.Credit o) = Unit {0}
IsSoundWant (want.Access word op) = Below (values_of_op op)
IsSoundWant (want.Await word value) = Unit {0}

pub words_after : (depth : ℕ) (around : Surroundings) (wiring : Wiring) (w : Want) → IsSoundWant w → ((a : ℕ) → slice_index around.words a < 2 ^ 64)
    → (a : ℕ) → slice_index (surroundings_after depth around wiring w).words a < 2 ^ 64
words_after depth around wiring (want.Take i) sound h a = h a
words_after depth around wiring (want.Put o flit) sound h a = h a
words_after depth around wiring (want.Credit o) sound h a = h a
words_after depth around wiring (want.Access word op) sound h a =
    set_any 0 around.words word (new_word op (slice_index around.words word)) a (λ w. w < 2 ^ 64) (word_stays op (slice_index around.words word) (h word) sound)
    (h a)
words_after depth around wiring (want.Await word value) sound h a = h a

-- The wants of each table.
put_sound : (o : Option ℕ) (w : Want) → option_map (λ flit. want.Put 0 flit) o ≡ Some w → IsSoundWant w
put_sound o w h = let f = option_map_some (λ (flit : ℕ). want.Put 0 flit) o w h in subst IsSoundWant f.2 tt

some_sound : (v w : Want) → IsSoundWant v → Some v ≡ Some w → IsSoundWant w
some_sound v w sound h = subst IsSoundWant (same_Some v w h) sound

if_sound : (b : Bool) (v w : Want) → IsSoundWant v → (if b then Some v else None) ≡ Some w → IsSoundWant w
if_sound b v w sound h = some_sound v w sound (if_what b (Some v) w h)

add_one : Below (1 ∷ [])
add_one = All-cons (λ v. v < 2 ^ 64) 1 [] (omega arith) (All-nil (λ v. v < 2 ^ 64))

pub processor_sound : (tiles words t : ℕ) (p : ProcessorState) (choice : Choice) (w : Want) → processor_wants tiles words t p choice ≡ Some w → IsSoundWant w
processor_sound tiles words t p Send w h = put_sound (first_of (flits_due tiles words t p.to_put (ready p.operations))) w h
processor_sound tiles words t p Take w h = some_sound (want.Take 0) w tt h
processor_sound tiles words t p Credit w h = some_sound (want.Credit 0) w tt h
processor_sound tiles words t p Done w h = if_sound (is_finished p.operations.following && not p.reported) _ w add_one h
processor_sound tiles words t p Look w h = if_sound (p.reported && not p.seen) _ w tt h
processor_sound tiles words t p (TakeFrom i) w h = absurd (cc)
processor_sound tiles words t p (Put i) w h = absurd (cc)
processor_sound tiles words t p (CreditOf i) w h = absurd (cc)
processor_sound tiles words t p Serve w h = absurd (cc)

pub bank_sound : (tiles t : ℕ) (b : BankState) (choice : Choice) (w : Want) → ((r : Asking) → b.waiting ≡ Some r → Below (values_of_op r.op))
    → bank_wants tiles t b choice ≡ Some w → IsSoundWant w
bank_sound tiles t b Take w asks h = if_sound (is_none b.waiting && is_nil b.to_put) (want.Take 0) w tt h
bank_sound tiles t b Serve w asks h =
    let f = option_map_some (λ (r : Asking). want.Access (address_of t tiles r.word) r.op) b.waiting w h in subst IsSoundWant f.2 (asks f.0 f.1)
bank_sound tiles t b Send w asks h = put_sound (first_of b.to_put) w h
bank_sound tiles t b Credit w asks h = some_sound (want.Credit 0) w tt h
bank_sound tiles t b (TakeFrom i) w asks h = absurd (cc)
bank_sound tiles t b (Put i) w asks h = absurd (cc)
bank_sound tiles t b (CreditOf i) w asks h = absurd (cc)
bank_sound tiles t b Done w asks h = absurd (cc)
bank_sound tiles t b Look w asks h = absurd (cc)

take_is : (s : Shape) (t i : ℕ) (latch : Option ℕ) (w : Want) → wants_to_take s t i latch ≡ Some w → want.Take i ≡ w
take_is s t i None w h = same_Some _ _ h
take_is s t i (Some flit) w h = cc

put_of : (s : Shape) (t : ℕ) (r : RouterState) (i : ℕ) (latch : Option ℕ) (w : Want) → wants_to_put s t r i latch ≡ Some w → IsSoundWant w
put_of s t r i None w h = absurd (cc)
put_of s t r i (Some flit) w h = let f = option_map_some (λ (o : ℕ). want.Put o flit) (output_for s t r i (head_of flit)) w h in subst IsSoundWant f.2 tt

pub router_sound : (s : Shape) (t : ℕ) (r : RouterState) (choice : Choice) (w : Want) → router_wants s t r choice ≡ Some w → IsSoundWant w
router_sound s t r (TakeFrom i) w h =
    subst IsSoundWant (take_is s t i (latch_of r i) w (if_what (nat_lt i (port_count (dims_of s))) (wants_to_take s t i (latch_of r i)) w h)) tt
router_sound s t r (Put i) w h = put_of s t r i (latch_of r i) w (if_what (nat_lt i (port_count (dims_of s))) (wants_to_put s t r i (latch_of r i)) w h)
router_sound s t r (CreditOf o) w h = some_sound (want.Credit o) w tt (if_what (nat_lt o (port_count (dims_of s))) (Some (want.Credit o)) w h)
router_sound s t r Send w h = absurd (cc)
router_sound s t r Take w h = absurd (cc)
router_sound s t r Credit w h = absurd (cc)
router_sound s t r Serve w h = absurd (cc)
router_sound s t r Done w h = absurd (cc)
router_sound s t r Look w h = absurd (cc)

-- What a whole packet brings is of 64 bits, whatever its flits.
abbrev IsKnownPacket : Packet → Type 0
IsKnownPacket (packet.Request r) = Unit {0}
IsKnownPacket (packet.Response r) = reply_number r.reply < 2 ^ 64

reply_known : (c : Code) (v : ℕ) → v < 2 ^ 64 → reply_number (reply_with c v) < 2 ^ 64
reply_known code.Load v h = h
reply_known code.Store v h = omega arith
reply_known code.Swap v h = h
reply_known code.Cas v h = h
reply_known code.Add v h = h
reply_known code.And v h = h
reply_known code.Or v h = h
reply_known code.Xor v h = h
reply_known code.Max v h = h
reply_known code.Min v h = h

with_known : (told : Heading) (v w : ℕ) → v < 2 ^ 64 → IsKnownPacket (packet_with told v w)
with_known told v w h = cond_both (told.class == 0) _ _ IsKnownPacket (λ e. tt) (λ e. reply_known (code_numbered told.operation) v h)

value_below : (flits : List ℕ) (at : ℕ) → value_at flits at < 2 ^ 64
value_below flits at =
    let high = field_below (slice_index flits at) 0 32 in
    let low = field_below (slice_index flits (at + 1)) 0 32 in
    omega (arith, high, low)

told_known : (flits : List ℕ) → IsKnownPacket (packet_told flits)
told_known flits = with_known (heading_told (slice_index flits 0)) (value_at flits 1) (value_at flits 3) (value_below flits 1)

whole_known : (refused : Option Kind) (so_far : List ℕ) (flit : ℕ) (p : Packet) → offered_by refused so_far flit ≡ Whole p → IsKnownPacket p
whole_known (Some k) so_far flit p h = absurd (cc)
whole_known None so_far flit p h = by_tail (is_tail flit) h
  where
    by_tail : (b : Bool) → (if b then Whole (packet_told (so_far ++ flit ∷ [])) else More) ≡ Whole p → IsKnownPacket p
    by_tail true e = let same : packet_told (so_far ++ flit ∷ []) ≡ p = cc in subst IsKnownPacket same (told_known (so_far ++ flit ∷ []))
    by_tail false e = absurd (cc)

offered_known : (so_far : List ℕ) (flit : ℕ) (r : Telling) → offered so_far flit ≡ Whole (packet.Response r) → reply_number r.reply < 2 ^ 64
unfolding offered
offered_known so_far flit r h = whole_known (refusal so_far flit) so_far flit (packet.Response r) h

-- the rest of such flits
some_rest : (xs : List ℕ) → AreSome xs → AreSome (rest xs)
some_rest [] h = h
some_rest (x ∷ xs) h = All-tail (λ flit. 0 < flit) x xs h

-- A processor's part.
module _ (tiles words t most : ℕ) where
  sent_followed : (xs : List ℕ) (b : ProcessorRecord) (next : Option (ℕ × Operation)) → ready b ≡ next → IsFollowed words most b.following
      → IsFollowed words most (record_sent tiles words t xs b).following
  sent_followed [] b None is h = subst (λ (o : Option (ℕ × Operation)). IsFollowed words most (issued_of tiles words t o b).following) (sym is) h
  sent_followed [] b (Some f) is h =
      subst (λ (o : Option (ℕ × Operation)). IsFollowed words most (issued_of tiles words t o b).following) (sym is)
      (followed_issued words most b.following f.1 h (ready_parts b f.0 f.1 is).0)
  sent_followed (flit ∷ flits) b next is h = h

  sent_left : (xs : List ℕ) (next : Option (ℕ × Operation)) → AreSome xs
      → ((f : ℕ × Operation) → next ≡ Some f → AreSome (flits_of (packet.Request (request_of tiles t f.0 f.1))))
      → AreSome (rest (flits_due tiles words t xs next))
  sent_left [] None h new = h
  sent_left [] (Some f) h new = some_rest (flits_of (packet.Request (request_of tiles t f.0 f.1))) (new f refl)
  sent_left (flit ∷ flits) next h new = some_rest (flit ∷ flits) h

  offered_followed : (b : ProcessorRecord) (o : Offered) → ((r : Telling) → o ≡ Whole (packet.Response r) → reply_number r.reply < 2 ^ 64)
      → IsFollowed words most b.following → IsFollowed words most (record_offered tiles words t b o).following
  offered_followed b More small h = h
  offered_followed b (Whole (packet.Request r)) small h = h
  offered_followed b (Whole (packet.Response r)) small h = followed_answered words most b.following _ r.reply (small r refl) h
  offered_followed b (Refused k) small h = h

  pub processor_followed : (p : ProcessorState) (choice : Choice) (w : Want) (learned : ℕ) → IsFollowed words most p.operations.following
      → IsFollowed words most (processor_after tiles words t p choice w learned).operations.following
  processor_followed p Send w learned h = sent_followed p.to_put p.operations (ready p.operations) refl h
  processor_followed p Take w learned h = offered_followed p.operations (offered p.so_far learned) (offered_known p.so_far learned) h
  processor_followed p Credit w learned h = h
  processor_followed p Done w learned h = h
  processor_followed p Look w learned h = h
  processor_followed p (TakeFrom i) w learned h = h
  processor_followed p (Put i) w learned h = h
  processor_followed p (CreditOf i) w learned h = h
  processor_followed p Serve w learned h = h

  pub processor_left : (p : ProcessorState) (choice : Choice) (w : Want) (learned : ℕ) → AreSome p.to_put
      → ((f : ℕ × Operation) → ready p.operations ≡ Some f → AreSome (flits_of (packet.Request (request_of tiles t f.0 f.1))))
      → AreSome (processor_after tiles words t p choice w learned).to_put
  processor_left p Send w learned h new = sent_left p.to_put (ready p.operations) h new
  processor_left p Take w learned h new = h
  processor_left p Credit w learned h new = h
  processor_left p Done w learned h new = h
  processor_left p Look w learned h new = h
  processor_left p (TakeFrom i) w learned h new = h
  processor_left p (Put i) w learned h new = h
  processor_left p (CreditOf i) w learned h new = h
  processor_left p Serve w learned h new = h

-- A bank's part.
served_left : (tiles t : ℕ) (b : BankState) (o : Option Asking) (found : ℕ) → AreSome b.to_put
    → ((r : Asking) → o ≡ Some r → AreSome (flits_of (packet.Response (response_of t (length b.entries) r (reply_to r.op found)))))
    → AreSome (served tiles t b o found).to_put
served_left tiles t b None found h new = h
served_left tiles t b (Some r) found h new = new r refl

pub bank_left : (tiles t : ℕ) (b : BankState) (choice : Choice) (w : Want) (learned : ℕ) → AreSome b.to_put
    → (choice ≡ Serve → (r : Asking) → b.waiting ≡ Some r → AreSome (flits_of (packet.Response (response_of t (length b.entries) r (reply_to r.op learned)))))
    → AreSome (bank_after tiles t b choice w learned).to_put
bank_left tiles t b Take w learned h new = h
bank_left tiles t b Serve w learned h new = served_left tiles t b b.waiting learned h (new refl)
bank_left tiles t b Send w learned h new = some_rest b.to_put h
bank_left tiles t b Credit w learned h new = h
bank_left tiles t b (TakeFrom i) w learned h new = h
bank_left tiles t b (Put i) w learned h new = h
bank_left tiles t b (CreditOf i) w learned h new = h
bank_left tiles t b Done w learned h new = h
bank_left tiles t b Look w learned h new = h

-- A router's part.
abbrev pub AreLatched : RouterState → Type 0
AreLatched r = (i flit : ℕ) → latch_of r i ≡ Some flit → flit ≢ 0

latched_put : (s : Shape) (t : ℕ) (r : RouterState) (k : ℕ) (w : Want) (learned : ℕ) → AreLatched r → AreLatched (router_after r (Put k) w learned)
latched_put s t r k (want.Put o flit) learned h =
    λ i. set_any None r.latches k None i (λ (x : Option ℕ). (f : ℕ) → x ≡ Some f → f ≢ 0) (λ f e. absurd (cc)) (h i)
latched_put s t r k (want.Take j) learned h = h
latched_put s t r k (want.Credit o) learned h = h
latched_put s t r k (want.Access a op) learned h = h
latched_put s t r k (want.Await a v) learned h = h

pub router_latched : (s : Shape) (t : ℕ) (r : RouterState) (choice : Choice) (w : Want) (learned : ℕ) → AreLatched r
    → ((k : ℕ) → choice ≡ TakeFrom k → learned ≢ 0) → AreLatched (router_after r choice w learned)
router_latched s t r (TakeFrom k) w learned h new = λ i.
    set_any None r.latches k (Some learned) i (λ (x : Option ℕ). (f : ℕ) → x ≡ Some f → f ≢ 0)
    (λ f e. subst (λ (n : ℕ). n ≢ 0) (same_Some learned f e) (new k refl)) (h i)
router_latched s t r (Put k) w learned h new = latched_put s t r k w learned h
router_latched s t r (CreditOf o) w learned h new = h
router_latched s t r Send w learned h new = h
router_latched s t r Take w learned h new = h
router_latched s t r Credit w learned h new = h
router_latched s t r Serve w learned h new = h
router_latched s t r Done w learned h new = h
router_latched s t r Look w learned h new = h

-- what a router takes
pub router_takes : (s : Shape) (t : ℕ) (r : RouterState) (i : ℕ) (w : Want) → router_wants s t r (TakeFrom i) ≡ Some w → want.Take i ≡ w
router_takes s t r i w h = take_is s t i (latch_of r i) w (if_what (nat_lt i (port_count (dims_of s))) (wants_to_take s t i (latch_of r i)) w h)
