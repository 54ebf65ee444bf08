-- What a step of a tile's agent does to what the machine shows is what its move says.
use Rattle.std.proofs.Common.{◌≡◌, ℕ, ◌<◌, Bool, true, false, List, [], ◌∷◌, ◌++◌, take, Option, Some, None, refl, sym, ◌∙◌, ap, subst, arith, slice_index}
use Rattle.std.proofs.Common.{slice_set, if◌then◌else◌}
use Rattle.std.specs.Prelude.{option_and_then, option_map, is_none, not, ◌&&◌}
use Rattle.std.proofs.lemmas.Option.{same_Some}
use Rattle.std.proofs.lemmas.List.{take-set-le, get_or-take}
use Rattle.std.proofs.Math.Seq.{take-set-lt}
use Rattle.torus.specs.Shape.{tiles_of}
use Rattle.torus.specs.declared.step.Choice.{Choice}
use Rattle.torus.specs.declared.step.Choice.TheVariants.{Send, Take, TakeFrom, Put, Credit, CreditOf, Serve, Done, Look}
use Rattle.packet.specs.declared.kinds.Op.{Op}
use Rattle.packet.specs.declared.kinds.Op.TheVariants as op
use Rattle.packet.specs.declared.kinds.Operation.{Operation}
use Rattle.packet.specs.declared.kinds.Packet.TheVariants as packet
use Rattle.packet.specs.declared.kinds.Request.{Request}
use Rattle.packet.specs.declared.kinds.Reply.{Reply}
use Rattle.packet.specs.declared.assembler.Offered.{Offered}
use Rattle.packet.specs.declared.assembler.Offered.TheVariants.{More, Whole, Refused}
use Rattle.packet.specs.Memory.{new_word, reply_to}
use Rattle.home_bank.specs.declared.entry.Entry.{Entry}
use Rattle.home_bank.specs.ServiceList.{address_of, entry_of}
use Rattle.one_order.specs.Following.{is_finished}
use Rattle.flit_buffer.specs.Channel.{first_of}
use Rattle.flit_buffer.specs.declared.want.Want.{Want}
use Rattle.flit_buffer.specs.declared.want.Want.TheVariants as want
use Rattle.flit_buffer.specs.Wants.{told_by}
use Rattle.flit_buffer.specs.Surroundings.{Surroundings, Wiring, granted, surroundings_after}
use Rattle.one_order.specs.ProcessorRecord.{ProcessorRecord, ready, issued_by, answered_by}
use Rattle.one_order.specs.Flight.{Move, Sends, Serves, Takes}
use Rattle.packet.specs.Flits.{offered}
use Rattle.router.specs.Table.{RouterState, router_wants, router_after}
use Rattle.one_order.specs.ProcessorTable.{ProcessorState, processor_wants, processor_after, flits_due, record_sent, record_offered, issued_of}
use Rattle.home_bank.specs.BankTable.{BankState, bank_wants, bank_after, is_nil, served}
use Rattle.tile.specs.Wiring.{processor_wiring, bank_wiring}
use Rattle.router.specs.Beginning.{router_wiring}
use Rattle.tile.specs.declared.agent.Agent.{Agent}
use Rattle.tile.specs.declared.agent.Agent.TheVariants.{Processor, Router, Bank}
use Rattle.tile.specs.Tile.{Design, TileState, tile_step}
use Rattle.core_laws.specs.Moves.{issue_of, answer_by, processor_move, bank_move, tile_move}
use Rattle.core_laws.proofs.AgentSteps.{Did, did, did_learn, option_map_some}
use Rattle.core_laws.proofs.ChannelWants.{channel_words, router_of_channel}

-- what is served or taken is of this tile, and what is served has its word in the memory
abbrev pub IsHere : ℕ → ℕ → ℕ → Move → Type 0
IsHere tiles words t (Sends p tag o) = Unit {0}
IsHere tiles words t (Serves r) = (r.destination ≡ t) × (address_of t tiles r.word < words)
IsHere tiles words t (Takes r) = r.destination ≡ t

-- the record of tile t's processor after a move
abbrev pub RecordMoved : ℕ → ProcessorRecord → ProcessorRecord → Option Move → Type 0
RecordMoved t b c None = c ≡ b
RecordMoved t b c (Some (Sends p tag o)) = (p ≡ t) × (c ≡ issued_by b tag o)
RecordMoved t b c (Some (Serves r)) = c ≡ b
RecordMoved t b c (Some (Takes r)) = c ≡ answered_by b r

-- the entries of tile t's bank after a move: a service is one more
abbrev pub EntriesMoved : ℕ → ℕ → List ℕ → List Entry → List Entry → Option Move → Type 0
EntriesMoved tiles t m es fs (Some (Serves r)) = fs ≡ es ++ entry_of t tiles r (reply_to r.op (slice_index m (address_of t tiles r.word))) ∷ []
EntriesMoved tiles t m es fs _ = fs ≡ es

-- the memory after a move of tile t
abbrev pub MemoryMoved : ℕ → ℕ → List ℕ → List ℕ → Option Move → Type 0
MemoryMoved tiles t m n (Some (Serves r)) = n ≡ slice_set m (address_of t tiles r.word) (new_word r.op (slice_index m (address_of t tiles r.word)))
MemoryMoved tiles t m n _ = n ≡ m

pub record TileMoved (tiles words t : ℕ) (before : TileState) (around : Surroundings) (after : TileState) (left : Surroundings) (m : Option Move) : Type 0 where
  pub operations : RecordMoved t before.processor.operations after.processor.operations m
  pub entries : EntriesMoved tiles t (take words around.words) before.bank.entries after.bank.entries m
  pub memory : MemoryMoved tiles t (take words around.words) (take words left.words) m

-- the processor's part
record ProcessorMoved (words t : ℕ) (p : ProcessorState) (around : Surroundings) (q : ProcessorState) (left : Surroundings) (m : Option Move) : Type 0 where
  pub operations : RecordMoved t p.operations q.operations m
  pub memory : take words left.words ≡ take words around.words
  pub serves : (r : Request) → m ≡ Some (Serves r) → ⊥

sent_record : (tiles words t : ℕ) (p : ProcessorState) (to_put : List ℕ) (next : Option (ℕ × Operation)) (w : Want) → next ≡ ready p.operations
    → option_map (λ flit. want.Put 0 flit) (first_of (flits_due tiles words t to_put next)) ≡ Some w
    → RecordMoved t p.operations (record_sent tiles words t to_put p.operations) (issue_of t to_put next)
    × ((r : Request) → issue_of t to_put next ≡ Some (Serves r) → ⊥)
sent_record tiles words t p [] None w is h = cc
sent_record tiles words t p [] (Some f) w is h =
    ((refl, sym (ap (λ o. issued_of tiles words t o p.operations) is)), λ r e. let no : ◌≡◌ {A = Move} (Sends t f.0 f.1) (Serves r) = same_Some _ _ e in cc)
sent_record tiles words t p (flit ∷ flits) next w is h = (refl, λ r e. cc)

put_words : (depth words : ℕ) (around left : Surroundings) (wiring : Wiring) (o : Option ℕ) (w : Want) → option_map (λ flit. want.Put 0 flit) o ≡ Some w
    → left ≡ surroundings_after depth around wiring w → take words left.words ≡ take words around.words
put_words depth words around left wiring o w h e =
    let f = option_map_some (λ (flit : ℕ). want.Put 0 flit) o w h in
    ap (λ (x : Surroundings). take words x.words) (e ∙ ap (surroundings_after depth around wiring) (sym f.2))

take_words : (depth words i : ℕ) (around left : Surroundings) (wiring : Wiring) (w : Want) → ◌≡◌ {A = Option Want} (Some (want.Take i)) (Some w)
    → left ≡ surroundings_after depth around wiring w → take words left.words ≡ take words around.words
take_words depth words i around left wiring w h e =
    ap (λ (x : Surroundings). take words x.words) (e ∙ ap (surroundings_after depth around wiring) (sym (same_Some _ _ h)))

credit_words : (depth words i : ℕ) (around left : Surroundings) (wiring : Wiring) (w : Want) → ◌≡◌ {A = Option Want} (Some (want.Credit i)) (Some w)
    → left ≡ surroundings_after depth around wiring w → take words left.words ≡ take words around.words
credit_words depth words i around left wiring w h e =
    ap (λ (x : Surroundings). take words x.words) (e ∙ ap (surroundings_after depth around wiring) (sym (same_Some _ _ h)))

offered_record : (tiles words t : ℕ) (b : ProcessorRecord) (o : Offered)
    → RecordMoved t b (record_offered tiles words t b o) (answer_by o) × ((r : Request) → answer_by o ≡ Some (Serves r) → ⊥)
offered_record tiles words t b More = (refl, λ r e. cc)
offered_record tiles words t b (Whole (packet.Request q)) = (refl, λ r e. cc)
offered_record tiles words t b (Whole (packet.Response q)) = (refl, λ r e. let no : ◌≡◌ {A = Move} (Takes q) (Serves r) = same_Some _ _ e in cc)
offered_record tiles words t b (Refused k) = (refl, λ r e. cc)

pub if_some : {A : Type 0} (b : Bool) (x y : A) → (if b then Some x else None) ≡ Some y → x ≡ y
if_some true x y h = same_Some x y h
if_some false x y h = cc

processor_moves : (tiles words depth t : ℕ) (wiring : Wiring) (p : ProcessorState) (around : Surroundings) (choice : Choice) (q : ProcessorState)
    (left : Surroundings)
    → (x : Did (processor_wants tiles words t) (processor_after tiles words t) depth wiring p around choice q left)
    → ProcessorMoved words t p around q left (processor_move t p choice x.learned)
processor_moves tiles words depth t wiring p around Send q left x =
    let s = sent_record tiles words t p p.to_put (ready p.operations) x.want refl x.wanted in record {
      operations = subst (λ (c : ProcessorRecord). RecordMoved t p.operations c (issue_of t p.to_put (ready p.operations)))
          (sym (ap (λ (z : ProcessorState). z.operations) x.state_is)) s.0;
      memory = put_words depth words around left wiring (first_of (flits_due tiles words t p.to_put (ready p.operations))) x.want x.wanted x.around_is;
      serves = s.1;
    }
processor_moves tiles words depth t wiring p around Take q left x =
    let s = offered_record tiles words t p.operations (offered p.so_far x.learned) in record {
      operations = subst (λ (c : ProcessorRecord). RecordMoved t p.operations c (answer_by (offered p.so_far x.learned)))
          (sym (ap (λ (z : ProcessorState). z.operations) x.state_is)) s.0;
      memory = take_words depth words 0 around left wiring x.want x.wanted x.around_is;
      serves = s.1;
    }
processor_moves tiles words depth t wiring p around Credit q left x = record {
  operations = ap (λ (z : ProcessorState). z.operations) x.state_is;
  memory = credit_words depth words 0 around left wiring x.want x.wanted x.around_is;
  serves = λ r e. cc;
}
processor_moves tiles words depth t wiring p around Done q left x = record {
  operations = ap (λ (z : ProcessorState). z.operations) x.state_is;
  memory =
      let w = if_some (is_finished p.operations.following && not p.reported) (want.Access words (op.Add 1)) x.want x.wanted in
      ap (λ (z : Surroundings). take words z.words) (x.around_is ∙ ap (surroundings_after depth around wiring) (sym w))
      ∙ take-set-le words around.words words (new_word (op.Add 1) (slice_index around.words words)) (omega arith);
  serves = λ r e. cc;
}
processor_moves tiles words depth t wiring p around Look q left x = record {
  operations = ap (λ (z : ProcessorState). z.operations) x.state_is;
  memory =
      let w = if_some (p.reported && not p.seen) (want.Await words tiles) x.want x.wanted in
      ap (λ (z : Surroundings). take words z.words) (x.around_is ∙ ap (surroundings_after depth around wiring) (sym w));
  serves = λ r e. cc;
}
processor_moves tiles words depth t wiring p around (TakeFrom i) q left x = let no : ◌≡◌ {A = Option Want} None (Some x.want) = x.wanted in absurd (cc)
processor_moves tiles words depth t wiring p around (Put i) q left x = let no : ◌≡◌ {A = Option Want} None (Some x.want) = x.wanted in absurd (cc)
processor_moves tiles words depth t wiring p around (CreditOf i) q left x = let no : ◌≡◌ {A = Option Want} None (Some x.want) = x.wanted in absurd (cc)
processor_moves tiles words depth t wiring p around Serve q left x = let no : ◌≡◌ {A = Option Want} None (Some x.want) = x.wanted in absurd (cc)

-- the bank's part
record BankMoved (tiles words t : ℕ) (b : BankState) (around : Surroundings) (c : BankState) (left : Surroundings) (m : Option Move) : Type 0 where
  pub entries : EntriesMoved tiles t (take words around.words) b.entries c.entries m
  pub memory : MemoryMoved tiles t (take words around.words) (take words left.words) m
  pub serves : (k : Move) → m ≡ Some k → (r : Request) × (k ≡ Serves r)

pub reply_learned : (o : Op) (w : ℕ) → reply_to o (told_by o w) ≡ reply_to o w
reply_learned op.Load w = refl
reply_learned (op.Store v) w = refl
reply_learned (op.Swap v) w = refl
reply_learned (op.Cas e n) w = refl
reply_learned (op.Add v) w = refl
reply_learned (op.And v) w = refl
reply_learned (op.Or v) w = refl
reply_learned (op.Xor v) w = refl
reply_learned (op.Max v) w = refl
reply_learned (op.Min v) w = refl

serve_moves : (tiles words depth t : ℕ) (wiring : Wiring) (b : BankState) (around : Surroundings) (c : BankState) (left : Surroundings)
    (waiting : Option Request) (w : Want) (learned : ℕ)
    → option_map (λ (r : Request). want.Access (address_of t tiles r.word) r.op) waiting ≡ Some w → granted around wiring w ≡ Some learned
    → c.entries ≡ (served tiles t b waiting learned).entries → left ≡ surroundings_after depth around wiring w
    → ((m : Move) → option_map (λ r. Serves r) waiting ≡ Some m → IsHere tiles words t m)
    → BankMoved tiles words t b around c left (option_map (λ r. Serves r) waiting)
serve_moves tiles words depth t wiring b around c left None w learned is grants now left_is here = absurd (cc)
serve_moves tiles words depth t wiring b around c left (Some r) w learned is grants now left_is here =
    let a : ℕ = address_of t tiles r.word in
    let w_is : want.Access a r.op ≡ w = same_Some _ _ is in
    let learns : told_by r.op (slice_index around.words a) ≡ learned = same_Some _ _ (ap (granted around wiring) w_is ∙ grants) in
    let below : a < words = (here (Serves r) refl).1 in
    let found : slice_index (take words around.words) a ≡ slice_index around.words a = get_or-take words around.words a 0 below in
    record {
      entries = now ∙ ap (λ (v : Reply). b.entries ++ entry_of t tiles r v ∷ [])
          (ap (reply_to r.op) (sym learns) ∙ (reply_learned r.op (slice_index around.words a) ∙ ap (reply_to r.op) (sym found)));
      memory = ap (λ (z : Surroundings). take words z.words) (left_is ∙ ap (surroundings_after depth around wiring) (sym w_is))
          ∙ (take-set-lt words around.words a (new_word r.op (slice_index around.words a)) below
          ∙ ap (λ (v : ℕ). slice_set (take words around.words) a (new_word r.op v)) (sym found));
      serves = λ k e. (r, sym (same_Some _ _ e));
    }

bank_moves : (tiles words depth t : ℕ) (wiring : Wiring) (b : BankState) (around : Surroundings) (choice : Choice) (c : BankState) (left : Surroundings)
    → (x : Did (bank_wants tiles t) (bank_after tiles t) depth wiring b around choice c left)
    → ((m : Move) → bank_move b choice x.learned ≡ Some m → IsHere tiles words t m)
    → BankMoved tiles words t b around c left (bank_move b choice x.learned)
bank_moves tiles words depth t wiring b around Serve c left x here =
    serve_moves tiles words depth t wiring b around c left b.waiting x.want x.learned x.wanted x.grants (ap (λ (z : BankState). z.entries) x.state_is)
    x.around_is here
bank_moves tiles words depth t wiring b around Take c left x here = record {
  entries = ap (λ (z : BankState). z.entries) x.state_is;
  memory =
      let w = if_some (is_none b.waiting && is_nil b.to_put) (want.Take 0) x.want x.wanted in
      take_words depth words 0 around left wiring x.want (ap Some w) x.around_is;
  serves = λ k e. cc;
}
bank_moves tiles words depth t wiring b around Send c left x here = record {
  entries = ap (λ (z : BankState). z.entries) x.state_is;
  memory = put_words depth words around left wiring (first_of b.to_put) x.want x.wanted x.around_is;
  serves = λ k e. cc;
}
bank_moves tiles words depth t wiring b around Credit c left x here = record {
  entries = ap (λ (z : BankState). z.entries) x.state_is;
  memory = credit_words depth words 0 around left wiring x.want x.wanted x.around_is;
  serves = λ k e. cc;
}
bank_moves tiles words depth t wiring b around (TakeFrom i) c left x here = let no : ◌≡◌ {A = Option Want} None (Some x.want) = x.wanted in absurd (cc)
bank_moves tiles words depth t wiring b around (Put i) c left x here = let no : ◌≡◌ {A = Option Want} None (Some x.want) = x.wanted in absurd (cc)
bank_moves tiles words depth t wiring b around (CreditOf i) c left x here = let no : ◌≡◌ {A = Option Want} None (Some x.want) = x.wanted in absurd (cc)
bank_moves tiles words depth t wiring b around Done c left x here = let no : ◌≡◌ {A = Option Want} None (Some x.want) = x.wanted in absurd (cc)
bank_moves tiles words depth t wiring b around Look c left x here = let no : ◌≡◌ {A = Option Want} None (Some x.want) = x.wanted in absurd (cc)

-- how a processor's record is moved, where nothing is served
unserved_entries : (tiles t : ℕ) (m : List ℕ) (es : List Entry) (o : Option Move) → ((r : Request) → o ≡ Some (Serves r) → ⊥) → EntriesMoved tiles t m es es o
unserved_entries tiles t m es None h = refl
unserved_entries tiles t m es (Some (Sends p tag o)) h = refl
unserved_entries tiles t m es (Some (Serves r)) h = absurd (h r refl)
unserved_entries tiles t m es (Some (Takes r)) h = refl

unserved_memory : (tiles t : ℕ) (m n : List ℕ) (o : Option Move) → ((r : Request) → o ≡ Some (Serves r) → ⊥) → n ≡ m → MemoryMoved tiles t m n o
unserved_memory tiles t m n None h e = e
unserved_memory tiles t m n (Some (Sends p tag o)) h e = e
unserved_memory tiles t m n (Some (Serves r)) h e = absurd (h r refl)
unserved_memory tiles t m n (Some (Takes r)) h e = e

served_record : (t : ℕ) (b : ProcessorRecord) (o : Option Move) → ((k : Move) → o ≡ Some k → (r : Request) × (k ≡ Serves r)) → RecordMoved t b b o
served_record t b None h = refl
served_record t b (Some k) h = let f = h k refl in subst (λ (x : Move). RecordMoved t b b (Some x)) (sym f.1) refl

module _ (d : Design) (t : ℕ) (before : TileState) (around : Surroundings) where
  -- what a step of an agent of the tile does is what its move says
  pub tile_moves : (agent : Agent) (choice : Choice) (after : TileState) (left : Surroundings) → tile_step d t before around agent choice ≡ Some (after, left)
      → ((m : Move) → tile_move d t before around agent choice ≡ Some m → IsHere (tiles_of d.shape) d.words t m)
      → TileMoved (tiles_of d.shape) d.words t before around after left (tile_move d t before around agent choice)
  tile_moves Processor choice after left h here =
      let f = option_map_some (λ (p : ProcessorState × Surroundings). (record before { processor = p.0 }, p.1)) _ (after, left) h in
      let x = did (processor_wants (tiles_of d.shape) d.words t) (processor_after (tiles_of d.shape) d.words t) d.depth (processor_wiring d.shape t)
      before.processor around choice f.0.0 f.0.1 f.1 in
      let learns = did_learn (processor_wants (tiles_of d.shape) d.words t) (processor_after (tiles_of d.shape) d.words t) d.depth (processor_wiring d.shape t)
      before.processor around choice f.0.0 f.0.1 x in
      let m = processor_moves (tiles_of d.shape) d.words d.depth t (processor_wiring d.shape t) before.processor around choice f.0.0 f.0.1 x in
      let move : tile_move d t before around Processor choice ≡ processor_move t before.processor choice x.learned =
      ap (λ o. option_and_then (processor_move t before.processor choice) o) learns in
      subst (λ (z : TileState × Surroundings). TileMoved (tiles_of d.shape) d.words t before around z.0 z.1 (tile_move d t before around Processor choice)) f.2
      (subst (λ (k : Option Move). TileMoved (tiles_of d.shape) d.words t before around (record before { processor = f.0.0 }) f.0.1 k) (sym move)
      (record {
        operations = m.operations;
        entries = unserved_entries (tiles_of d.shape) t (take d.words around.words) before.bank.entries _ m.serves;
        memory = unserved_memory (tiles_of d.shape) t (take d.words around.words) (take d.words f.0.1.words) _ m.serves m.memory;
      }))
  tile_moves Router choice after left h here =
      let f = option_map_some (λ (p : RouterState × Surroundings). (record before { router = p.0 }, p.1)) _ (after, left) h in
      let x = did (router_wants d.shape t) router_after d.depth (router_wiring d.shape t) before.router around choice f.0.0 f.0.1 f.1 in
      subst (λ (z : TileState × Surroundings). TileMoved (tiles_of d.shape) d.words t before around z.0 z.1 None) f.2
      (record {
        operations = refl;
        entries = refl;
        memory = ap (take d.words)
            (ap (λ (z : Surroundings). z.words) x.around_is
            ∙ channel_words d.depth around (router_wiring d.shape t) x.want (router_of_channel d.shape t before.router choice x.want x.wanted));
      })
  tile_moves Bank choice after left h here =
      let f = option_map_some (λ (p : BankState × Surroundings). (record before { bank = p.0 }, p.1)) _ (after, left) h in
      let x = did (bank_wants (tiles_of d.shape) t) (bank_after (tiles_of d.shape) t) d.depth (bank_wiring d.shape t) before.bank around choice f.0.0 f.0.1
      f.1 in
      let learns = did_learn (bank_wants (tiles_of d.shape) t) (bank_after (tiles_of d.shape) t) d.depth (bank_wiring d.shape t) before.bank around choice f.0.0
      f.0.1 x in
      let move : tile_move d t before around Bank choice ≡ bank_move before.bank choice x.learned =
      ap (λ o. option_and_then (bank_move before.bank choice) o) learns in
      let m = bank_moves (tiles_of d.shape) d.words d.depth t (bank_wiring d.shape t) before.bank around choice f.0.0 f.0.1 x (λ k e. here k (move ∙ e)) in
      subst (λ (z : TileState × Surroundings). TileMoved (tiles_of d.shape) d.words t before around z.0 z.1 (tile_move d t before around Bank choice)) f.2
      (subst (λ (k : Option Move). TileMoved (tiles_of d.shape) d.words t before around (record before { bank = f.0.0 }) f.0.1 k) (sym move)
      (record {
        operations = served_record t before.processor.operations _ m.serves;
        entries = m.entries;
        memory = m.memory;
      }))
