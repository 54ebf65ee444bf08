-- A bank's entries replay on the memory, from the beginning on and after each step.
use Rattle.std.proofs.Common.{◌≡◌, ℕ, ◌%◌, ◌<◌, ◌≤◌, ◌∙◌, List, [], ◌∷◌, ◌++◌, length, map, Option, Some, None, inl, inr, refl, sym, ap, subst, arith}
use Rattle.std.proofs.Common.{length-set, length-append, get_or, set, get_or-set_same, get_or-set_other}
use Rattle.std.specs.Prelude.{IfSome, is_none, option_map, ◌&&◌, slice_index}
use Rattle.std.proofs.lemmas.Bool.{cases_eq}
use Rattle.std.proofs.lemmas.Option.{same_Some}
use Rattle.std.proofs.lemmas.List.{map-append, get_or_append_left}
use Rattle.std.proofs.lemmas.List.Elements.{All-nil, All-push}
use Rattle.torus.specs.declared.step.Choice.{Choice}
use Rattle.torus.specs.declared.step.Choice.TheVariants as choice
use Rattle.packet.specs.declared.kinds.Op.{Op}
use Rattle.packet.specs.declared.kinds.Op.TheVariants as op
use Rattle.packet.specs.declared.kinds.Operation.{Operation}
use Rattle.packet.specs.declared.kinds.Request.{Request}
use Rattle.packet.specs.Memory.{new_word, reply_to, memory_after, memory_after_one, replies, reply_of_one}
use Rattle.packet.proofs.Folds.{memory_after-append, replies-append, length-memory_after}
use Rattle.flit_buffer.specs.Channel.{first_of}
use Rattle.flit_buffer.specs.Surroundings.{Surroundings, Wiring, granted, surroundings_after, agent_step}
use Rattle.flit_buffer.specs.Wants.{told_by}
use Rattle.flit_buffer.specs.declared.want.Want.{Want}
use Rattle.flit_buffer.specs.declared.want.Want.TheVariants.{Take, Put, Credit, Access}
use Rattle.flit_buffer.proofs.AgentSteps.{agent_did}
use Rattle.home_bank.specs.declared.entry.Entry.{Entry}
use Rattle.home_bank.specs.ServiceList.{address_of, entry_of}
use Rattle.home_bank.specs.BankTable.{BankState, is_nil, served, bank_wants, bank_after}
use Rattle.home_bank.specs.MemoryReplay.{entry_operation, ReplayInMemory}
use Rattle.home_bank.proofs.Homes.{home_tile}
use Rattle.home_bank.proofs.WantedPorts.{if_wanted}

pub at_start : (tiles tile : ℕ) (opening more : List ℕ) → ReplayInMemory tiles tile opening (opening ++ more) []
at_start tiles tile opening more = record {
  size = omega (arith, length-append opening more);
  home = All-nil (λ (e : Entry). e.address % tiles ≡ tile);
  replies_given = refl;
  words_left = λ a low home. get_or_append_left opening more 0 a low;
}

pub others_kept : (tiles tile : ℕ) (opening words left : List ℕ) (entries : List Entry) → ReplayInMemory tiles tile opening words entries
    → length words ≤ length left
    → ((a : ℕ) → a < length opening → a % tiles ≡ tile → slice_index left a ≡ slice_index words a) → ReplayInMemory tiles tile opening left entries
others_kept tiles tile opening words left entries known long same = record {
  size = omega (arith, known.size, long);
  home = known.home;
  replies_given = known.replies_given;
  words_left = λ a low home. same a low home ∙ known.words_left a low home;
}

-- what an operation tells is enough for its reply
told_reply : (o : Op) (word : ℕ) → reply_to o (told_by o word) ≡ reply_to o word
told_reply op.Load word = refl
told_reply (op.Store v) word = refl
told_reply (op.Swap v) word = refl
told_reply (op.Cas e n) word = refl
told_reply (op.Add v) word = refl
told_reply (op.And v) word = refl
told_reply (op.Or v) word = refl
told_reply (op.Xor v) word = refl
told_reply (op.Max v) word = refl
told_reply (op.Min v) word = refl

module _ (tiles tile : ℕ) (opening words : List ℕ) (entries : List Entry) (below : tile < tiles) (known : ReplayInMemory tiles tile opening words entries) where
  module _ (r : Request) (low : address_of tile tiles r.word < length opening) where
    abbrev a : ℕ
    a = address_of tile tiles r.word

    abbrev e : Entry
    e = entry_of tile tiles r (reply_to r.op (slice_index words a))

    abbrev o : Operation
    o = record { address = a; op = r.op }

    abbrev m : List ℕ
    m = memory_after (map entry_operation entries) opening

    at_home : a % tiles ≡ tile
    at_home = home_tile tile tiles r.word below

    same_word : slice_index words a ≡ slice_index m a
    same_word = known.words_left a low at_home

    m_length : length m ≡ length opening
    m_length = length-memory_after (map entry_operation entries) opening

    fold_more : memory_after (map entry_operation (entries ++ e ∷ [])) opening ≡ memory_after_one o m
    fold_more = ap (λ os. memory_after os opening) (map-append entry_operation entries (e ∷ [])) ∙ memory_after-append (map entry_operation entries) (o ∷ []) opening

    replies_more : replies (map entry_operation (entries ++ e ∷ [])) opening ≡ replies (map entry_operation entries) opening ++ reply_of_one o m ∷ []
    replies_more = ap (λ os. replies os opening) (map-append entry_operation entries (e ∷ [])) ∙ replies-append (map entry_operation entries) (o ∷ []) opening

    word_left : (x : ℕ) → x < length opening → x % tiles ≡ tile
        → slice_index (set words a (new_word r.op (slice_index words a))) x ≡ slice_index (memory_after_one o m) x
    word_left x there home = elim (cases_eq x a) [
      | inl same ↦
          ap (λ k. get_or (set words a (new_word r.op (slice_index words a))) k 0) same
          ∙ get_or-set_same words a (new_word r.op (slice_index words a)) 0 (omega (arith, low, known.size))
          ∙ ap (new_word r.op) same_word
          ∙ sym (get_or-set_same m a (new_word r.op (slice_index m a)) 0 (omega (arith, low, m_length)))
          ∙ ap (λ k. get_or (memory_after_one o m) k 0) (sym same)
      | inr other ↦
          get_or-set_other words a x (new_word r.op (slice_index words a)) 0 other
          ∙ known.words_left x there home
          ∙ sym (get_or-set_other m a x (new_word r.op (slice_index m a)) 0 other)
    ]

    after_service : ReplayInMemory tiles tile opening (set words a (new_word r.op (slice_index words a))) (entries ++ e ∷ [])
    after_service = record {
      size = omega (arith, known.size, length-set words a (new_word r.op (slice_index words a)));
      home = All-push (λ (x : Entry). x.address % tiles ≡ tile) entries e known.home at_home;
      replies_given =
          map-append (λ (x : Entry). x.reply) entries (e ∷ [])
          ∙ ap (λ rs. rs ++ reply_to r.op (slice_index words a) ∷ []) known.replies_given
          ∙ ap (λ w. replies (map entry_operation entries) opening ++ reply_to r.op w ∷ []) same_word
          ∙ sym replies_more;
      words_left = λ x there home. word_left x there home ∙ ap (λ (l : List ℕ). slice_index l x) (sym fold_more);
    }

module _ (tiles tile depth : ℕ) (wiring : Wiring) (opening : List ℕ) (b : BankState) (around : Surroundings) (below : tile < tiles)
    (word : IfSome b.waiting (λ r. address_of tile tiles r.word < length opening)) (known : ReplayInMemory tiles tile opening around.words b.entries) where
  abbrev Kept : Want → BankState → Type 0
  Kept want next = ReplayInMemory tiles tile opening (surroundings_after depth around wiring want).words next.entries

  service_kept : (waiting : Option Request) (want : Want) (learned : ℕ) → IfSome waiting (λ r. address_of tile tiles r.word < length opening)
      → option_map (λ (r : Request). Access (address_of tile tiles r.word) r.op) waiting ≡ Some want → granted around wiring want ≡ Some learned
      → Kept want (served tiles tile b waiting learned)
  service_kept None want learned low e grants = cc
  service_kept (Some r) want learned low e grants =
      let want_is : Access (address_of tile tiles r.word) r.op ≡ want = same_Some _ _ e in
      let found : ℕ = slice_index around.words (address_of tile tiles r.word) in
      let told : told_by r.op found ≡ learned = same_Some _ _ (ap (granted around wiring) want_is ∙ grants) in
      let reply_is : reply_to r.op found ≡ reply_to r.op learned = sym (told_reply r.op found) ∙ ap (reply_to r.op) told in
      subst (λ (w : Want). Kept w (served tiles tile b (Some r) learned)) want_is
      (subst (λ reply. ReplayInMemory tiles tile opening (set around.words (address_of tile tiles r.word) (new_word r.op found))
      (b.entries ++ entry_of tile tiles r reply ∷ [])) reply_is
      (after_service tiles tile opening around.words b.entries below known r low))

  kept_by : (choice : Choice) (want : Want) (learned : ℕ) → bank_wants tiles tile b choice ≡ Some want → granted around wiring want ≡ Some learned
      → Kept want (bank_after tiles tile b choice want learned)
  kept_by choice.Take want learned e grants = subst (λ (w : Want). Kept w b) (if_wanted (is_none b.waiting && is_nil b.to_put) (Take 0) want e) known
  kept_by choice.Serve want learned e grants = service_kept b.waiting want learned word e grants
  kept_by choice.Send want learned e grants = put_kept (first_of b.to_put) want e where
    put_kept : (flit : Option ℕ) (want : Want) → option_map (λ flit. Put 0 flit) flit ≡ Some want → Kept want b
    put_kept None want e = cc
    put_kept (Some flit) want e = subst (λ (w : Want). Kept w b) (same_Some (Put 0 flit) want e) known
  kept_by choice.Credit want learned e grants = subst (λ (w : Want). Kept w b) (same_Some (Credit 0) want e) known
  kept_by (choice.TakeFrom i) want learned e grants = cc
  kept_by (choice.Put i) want learned e grants = cc
  kept_by (choice.CreditOf o) want learned e grants = cc
  kept_by choice.Done want learned e grants = cc
  kept_by choice.Look want learned e grants = cc

pub step_kept : (tiles tile depth : ℕ) (wiring : Wiring) (opening : List ℕ) (b next : BankState) (around left : Surroundings) (choice : Choice) → tile < tiles
    → IfSome b.waiting (λ r. address_of tile tiles r.word < length opening) → ReplayInMemory tiles tile opening around.words b.entries
    → agent_step (bank_wants tiles tile) (bank_after tiles tile) depth wiring b around choice ≡ Some (next, left)
    → ReplayInMemory tiles tile opening left.words next.entries
step_kept tiles tile depth wiring opening b next around left choice below word known e =
    let d = agent_did (bank_wants tiles tile) (bank_after tiles tile) depth wiring b around choice next left e in
    subst (λ (l : Surroundings). ReplayInMemory tiles tile opening l.words next.entries) (sym d.left_is)
    (subst (λ (n : BankState). ReplayInMemory tiles tile opening (surroundings_after depth around wiring d.want).words n.entries) (sym d.next_is)
    (kept_by tiles tile depth wiring opening b around below word known choice d.want d.learned d.wanted d.grants))
