-- One channel of a circular jam of transactions is filled, and its queue.
use Rattle.std.proofs.Common.{◌≡◌, ◌≢◌, inl, inr, ℕ, zero, suc, ◌<◌, ◌≤◌, Bool, true, false, List, [], Some, refl, sym, ◌∙◌, ap}
use Rattle.std.proofs.Common.{subst, arith}
use Rattle.std.proofs.lemmas.Bool.{cases_lt}
use Rattle.wormhole.specs.Net.{Net}
use Rattle.wormhole.specs.State.{NetLine, empty_line}
use Rattle.wormhole.specs.Events.{put}
use Rattle.network_judge.specs.declared.table.Kind.TheVariants.{Injection, Ejection}
use Rattle.network_judge.specs.Table.{channels_of, kind_of, table_next, is_receiver, is_sender, joins_of}
use Rattle.network_judge.specs.Replies.{IsReply}
use Rattle.network_judge.specs.Ways.{place}
use Rattle.network_judge.specs.Marks.{Passes}
use Rattle.network_judge.proofs.Places.{place_next}
use Rattle.network_judge.specs.declared.fill.Fill.{Fill}
use Rattle.network_judge.specs.Jams.{fill_channel, ComesIn}
use Rattle.network_judge.proofs.Lines.{line_of, full, some_room}
use Rattle.network_judge.proofs.Still.{simple}
use Rattle.deadlock_laws.specs.Endpoints.{Owing, EndState}
use Rattle.deadlock_laws.specs.CircularJams.{head_channel, GoesOnTo}
use Rattle.deadlock_laws.proofs.ClassMoves as moves
use Rattle.deadlock_laws.proofs.Settings.{Setting, net, word, lone, lone_queue, full_queue, full_line, queue_full}
use Rattle.deadlock_laws.proofs.ClassMoves.{Leads, At, Puts, entries, entries_long}

module _ (it : Setting) where
  abbrev n : Net
  n = net it

  module _ (f : Fill) (fs : List Fill) (e : ℕ) (come : ComesIn it.whole f fs) (waits : GoesOnTo it.whole f e) (open_ : is_receiver (kind_of it.whole e) ≡ false) where
    abbrev pl : ℕ → ℕ
    pl k = place it.whole f.to f.from k

    early : f.step < come.length
    early = elim (cases_lt f.step come.length) [
      | inl low ↦ low
      | inr high ↦ (let on = come.on in absurd (waits.under_way (ap pl (same on high) ∙ come.way.arrives)))
    ]
      where
        same : f.step ≤ come.length → come.length ≤ f.step → f.step ≡ come.length
        same a b = omega arith

    pub passes : (k : ℕ) → k ≤ f.step → Passes it.whole (pl k) f.to
    passes k low = let less = early in
        record { from = f.from; joined = come.joined; steps = come.length; way = come.way; step = k; before = omega arith; here = refl }

    pub within : (k : ℕ) → k ≤ f.step → pl k < channels_of it.table
    within k low = it.composed.inside (pl k) f.to (passes k low)

    ends : (k : ℕ) → k ≤ f.step → kind_of it.table (it.leg (pl k) f.to) ≡ Some Ejection
    ends k low = it.composed.legs (pl k) f.to (passes k low)

    steps : (k : ℕ) → k < f.step → pl k ≢ pl (suc k)
    steps k low = let less = early in simple it.whole f.from f.to come.length come.way k (suc k) (omega arith) (omega arith)

    apart : (k : ℕ) → k < f.step → pl k ≢ pl f.step
    apart k low = simple it.whole f.from f.to come.length come.way k f.step low come.on

    next_is : (k : ℕ) → pl (suc k) ≡ table_next it.whole (pl k) f.to
    next_is k = place_next it.whole f.to f.from k

    -- the next channel isn't the end
    pub goes_further : (k : ℕ) → k ≤ f.step → table_next it.whole (pl k) f.to ≢ f.to
    goes_further k low = elim (cases_lt k f.step) [
      | inl before ↦ λ same. (let less = early in simple it.whole f.from f.to come.length come.way (suc k) come.length (omega arith) (omega arith) (next_is k ∙ (same ∙ sym come.way.arrives)))
      | inr last ↦ λ same. (let here : k ≡ f.step = omega arith in
          let there : e ≡ f.to = sym waits.next ∙ (ap (λ m. table_next it.whole (pl m) f.to) (sym here) ∙ same) in
          let ends_there : is_receiver (kind_of it.whole e) ≡ true = ap (λ z. is_receiver (kind_of it.whole z)) there ∙ ap is_receiver come.way.under_way.receiver in absurd (cc))
    ]

    -- from a router's input a packet goes by t's choice, on the same leg
    pub goes : (k : ℕ) → k ≤ f.step → n.ejects (pl k) ≡ false → (pl (suc k) ≡ table_next it.table (pl k) (it.leg (pl k) f.to)) × (it.leg (pl (suc k)) f.to ≡ it.leg (pl k) f.to)
    goes k low input = let g = it.composed.goes (pl k) f.to (passes k low) input (goes_further k low) in (
      next_is k ∙ g.0,
      ap (λ z. it.leg z f.to) (next_is k) ∙ g.1,
    )

    -- from an ejection channel it goes by an answer
    answers : (k : ℕ) → k ≤ f.step → n.ejects (pl k) ≡ true → IsReply it.ends.replies (pl k) (pl (suc k)) × (joins_of it.table (pl (suc k)) (it.leg (pl (suc k)) f.to) ≡ true)
    answers k low is = let a = it.composed.answers (pl k) f.to (passes k low) is (goes_further k low) in (
      subst (λ z. IsReply it.ends.replies (pl k) z) (sym (next_is k)) a.0,
      subst (λ z. joins_of it.table z (it.leg z f.to) ≡ true) (sym (next_is k)) a.1,
    )

    -- the states in which the channels before are empty
    pub record Clear (s : EndState) : Type 0 where
      pub lines : (k : ℕ) → k < f.step → s.net.lines (pl k) ≡ empty_line n
      pub queues : (k : ℕ) → k < f.step → s.queue (pl k) ≡ []

    -- from where a packet is alone it is put into the next channel
    puts : (s a : EndState) (k : ℕ) → k < f.step → Clear s → (b : Bool) → n.ejects (pl k) ≡ b
        → At s (pl k) (lone it b (word it (pl k) f.to)) (lone_queue it b (pl (suc k))) a → (q : Bool) (m : ℕ) → n.ejects (pl (suc k)) ≡ q
        → s.net.lines (pl (suc k)) ≡ line_of n q m (word it (pl (suc k)) f.to) → m < full n q
        → Leads n it.ends a (Puts s (pl (suc k)) (put (word it (pl (suc k)) f.to) (line_of n q m (word it (pl (suc k)) f.to))))
    puts s a k low clear false input at q m head_channel here room =
        let g = goes k (omega arith) input in
        let there = ends (suc k) (omega arith) in
        let same : word it (pl k) f.to ≡ word it (pl (suc k)) f.to = ap it.tells.word (sym g.1) in
        moves.goes_on n it.ends it.deep (word it (pl (suc k)) f.to) (it.tells.head _ there) (it.tells.tail _ there) s a (pl k) (pl (suc k)) m q (within k (omega arith)) input (steps k low)
        (g.0 ∙ ap (table_next it.table (pl k)) (sym g.1 ∙ sym (it.tells.told _ there))) (clear.lines k low) (clear.queues k low)
        (subst (λ w. At s (pl k) (line_of n false 1 w) [] a) same at) here room
    puts s a k low clear true is at true m head_channel here room =
        let r = answers k (omega arith) is in
        let sender : kind_of it.table (pl (suc k)) ≡ Some Injection = (it.are (pl k) (pl (suc k)) r.0).1 in
        let no : n.ejects (pl (suc k)) ≡ false = ap is_receiver sender in absurd (cc)
    puts s a k low clear true is at false m head_channel here room =
        let r = answers k (omega arith) is in
        let there = ends (suc k) (omega arith) in
        let sender : kind_of it.table (pl (suc k)) ≡ Some Injection = (it.are (pl k) (pl (suc k)) r.0).1 in
        moves.is_answered n it.ends it.deep (word it (pl (suc k)) f.to) (it.tells.head _ there) (it.tells.tail _ there) s a (pl k) (pl (suc k)) (it.leg (pl (suc k)) f.to) m
        (within (suc k) (omega arith)) (ap is_sender sender) (steps k low) r.1 (it.tells.told _ there) (clear.lines k low) (clear.queues k low) at here room

    -- the first channel
    first_free : (kind_of it.table (pl 0) ≡ Some Injection) × (it.ends.free (pl 0) ≡ true)
    first_free = it.composed.senders f.from come.way.under_way.sender

    begins : (s : EndState) (m : ℕ) → s.net.lines (pl 0) ≡ line_of n false m (word it (pl 0) f.to) → m < suc it.depth
        → Leads n it.ends s (Puts s (pl 0) (put (word it (pl 0) f.to) (line_of n false m (word it (pl 0) f.to))))
    begins s m here room =
        let there = ends 0 (omega arith) in
        moves.sends n it.ends it.deep (word it (pl 0) f.to) (it.tells.head _ there) (it.tells.tail _ there) s (pl 0) (it.leg (pl 0) f.to) m (within 0 (omega arith))
        (ap is_sender first_free.0) first_free.1 (it.composed.begins f.from f.to come.joined) (it.tells.told _ there) here room

    -- what was put into an empty channel on the way rests there alone
    rests : (s u : EndState) (k : ℕ) → k < f.step → Clear s → (b : Bool) → n.ejects (pl k) ≡ b
        → Puts s (pl k) (put (word it (pl k) f.to) (line_of n b 0 (word it (pl k) f.to))) u → Leads n it.ends u (At s (pl k) (lone it b (word it (pl k) f.to)) (lone_queue it b (pl (suc k))))
    rests s u k low clear false input put_ =
        let there = ends k (omega arith) in
        moves.and_then n it.ends it.deep u _ _
        (moves.settles n it.ends it.deep (word it (pl k) f.to) (it.tells.head _ there) (it.tells.tail _ there) s u (pl k) 0 (within k (omega arith)) input (omega arith) put_)
        (λ v a. moves.at_once n it.ends it.deep v _ (record { line = a.line; queue = a.queue ∙ clear.queues k low; lines = a.lines; queues = a.queues }))
    rests s u k low clear true is put_ =
        let there = ends k (omega arith) in
        moves.is_taken n it.ends it.deep (word it (pl k) f.to) (it.tells.head _ there) (it.tells.tail _ there) s u (pl k) (pl (suc k)) 0 (within k (omega arith)) is (answers k (omega arith) is).0
        (clear.queues k low) (it.roomy (pl k)) put_

    line_clear : (b : Bool) (w : ℕ) → empty_line n ≡ line_of n b 0 w
    line_clear b w = refl

    room_clear : (b : Bool) → 0 < full n b
    room_clear b = some_room n b it.deep

    carried : (s : EndState) → Clear s → (k : ℕ) → k < f.step
        → Leads n it.ends s (At s (pl k) (lone it (n.ejects (pl k)) (word it (pl k) f.to)) (lone_queue it (n.ejects (pl k)) (pl (suc k))))
    carried s clear zero low =
        let input : n.ejects (pl 0) ≡ false = ap is_receiver first_free.0 in
        moves.and_then n it.ends it.deep s _ _ (begins s 0 (clear.lines 0 low) (omega arith)) (λ u put_.
        subst (λ b. Leads n it.ends u (At s (pl 0) (lone it b (word it (pl 0) f.to)) (lone_queue it b (pl 1)))) (sym input) (rests s u 0 low clear false input put_))
    carried s clear (suc k) low =
        moves.and_then n it.ends it.deep s _ _ (carried s clear k (omega arith)) (λ a at.
        moves.and_then n it.ends it.deep a _ _ (puts s a k (omega arith) clear (n.ejects (pl k)) refl at (n.ejects (pl (suc k))) 0 refl
        (clear.lines (suc k) low) (room_clear (n.ejects (pl (suc k))))) (λ u put_.
        rests s u (suc k) low clear (n.ejects (pl (suc k))) refl put_))

    abbrev IsPut : EndState → Bool → ℕ → ℕ → Type 0
    IsPut s q m a = Leads n it.ends s (Puts s (pl a) (put (word it (pl a) f.to) (line_of n q m (word it (pl a) f.to))))

    -- a packet is put into the channel that is filled
    arrives : (s : EndState) → Clear s → (q : Bool) (m : ℕ) → n.ejects (pl f.step) ≡ q
        → s.net.lines (pl f.step) ≡ line_of n q m (word it (pl f.step) f.to) → m < full n q
        → Leads n it.ends s (Puts s (pl f.step) (put (word it (pl f.step) f.to) (line_of n q m (word it (pl f.step) f.to))))
    arrives s clear q m head_channel here room = by f.step refl
      where
        first_one : (b : Bool) → n.ejects (pl 0) ≡ b → s.net.lines (pl 0) ≡ line_of n b m (word it (pl 0) f.to) → m < full n b
            → Leads n it.ends s (Puts s (pl 0) (put (word it (pl 0) f.to) (line_of n b m (word it (pl 0) f.to))))
        first_one false e is low = begins s m is low
        first_one true e is low = let input : n.ejects (pl 0) ≡ false = ap is_receiver first_free.0 in absurd (cc)

        by : (a : ℕ) → f.step ≡ a → IsPut s q m f.step
        by zero same =
            subst (IsPut s q m) (sym same) (first_one q (subst (λ a. n.ejects (pl a) ≡ q) same head_channel) (subst (λ a. s.net.lines (pl a) ≡ line_of n q m (word it (pl a) f.to)) same here) room)
        by (suc k) same =
            subst (IsPut s q m) (sym same)
            (moves.and_then n it.ends it.deep s _ _ (carried s clear k (omega arith)) (λ a at.
            puts s a k (omega arith) clear (n.ejects (pl k)) refl at q m (subst (λ a. n.ejects (pl a) ≡ q) same head_channel)
            (subst (λ a. s.net.lines (pl a) ≡ line_of n q m (word it (pl a) f.to)) same here) room))

    -- after a change at the channel that is filled those before are still empty
    clear_then : (s u : EndState) (l : NetLine) (q : List Owing) → Clear s → At s (pl f.step) l q u → Clear u
    clear_then s u l q clear at = record {
      lines = λ k low. at.lines (pl k) (apart k low) ∙ clear.lines k low;
      queues = λ k low. at.queues (pl k) (apart k low) ∙ clear.queues k low;
    }

    on_from : (s u v : EndState) (x : ℕ) (l m : NetLine) (q r : List Owing) → At s x l q u → At u x m r v → At s x m r v
    on_from s u v x l m q r a b = record {
      line = b.line;
      queue = b.queue;
      lines = λ z d. b.lines z d ∙ a.lines z d;
      queues = λ z d. b.queues z d ∙ a.queues z d;
    }

    -- one packet after the other, until so many stand in a router's input
    input_filled : (s : EndState) → Clear s → n.ejects (pl f.step) ≡ false → s.net.lines (pl f.step) ≡ empty_line n → s.queue (pl f.step) ≡ []
        → (m : ℕ) → m ≤ suc it.depth → Leads n it.ends s (At s (pl f.step) (line_of n false m (word it (pl f.step) f.to)) [])
    input_filled s clear input line queue zero low = moves.at_once n it.ends it.deep s _ (record { line = line; queue = queue; lines = λ z d. refl; queues = λ z d. refl })
    input_filled s clear input line queue (suc m) low =
        let there = ends f.step (omega arith) in
        moves.and_then n it.ends it.deep s _ _ (input_filled s clear input line queue m (omega arith)) (λ a at.
        moves.and_then n it.ends it.deep a _ _ (arrives a (clear_then s a _ _ clear at) false m input at.line (omega arith)) (λ u put_.
        moves.and_then n it.ends it.deep u _ _
        (moves.settles n it.ends it.deep (word it (pl f.step) f.to) (it.tells.head _ there) (it.tells.tail _ there) a u (pl f.step) m (within f.step (omega arith)) input (omega arith) put_)
        (λ v b. moves.at_once n it.ends it.deep v _
        (on_from s a v (pl f.step) _ _ _ _ at (record { line = b.line; queue = b.queue ∙ at.queue; lines = b.lines; queues = b.queues })))))

    -- in a queue
    queue_filled : (s : EndState) → Clear s → n.ejects (pl f.step) ≡ true → s.net.lines (pl f.step) ≡ empty_line n → s.queue (pl f.step) ≡ []
        → (m : ℕ) → m ≤ it.ends.room (pl f.step) → Leads n it.ends s (At s (pl f.step) (empty_line n) (entries m (pl (suc f.step))))
    queue_filled s clear is line queue zero low = moves.at_once n it.ends it.deep s _ (record { line = line; queue = queue; lines = λ z d. refl; queues = λ z d. refl })
    queue_filled s clear is line queue (suc m) low =
        let there = ends f.step (omega arith) in
        moves.and_then n it.ends it.deep s _ _ (queue_filled s clear is line queue m (omega arith)) (λ a at.
        moves.and_then n it.ends it.deep a _ _ (arrives a (clear_then s a _ _ clear at) true 0 is at.line (room_clear true)) (λ u put_.
        moves.and_then n it.ends it.deep u _ _
        (moves.is_taken n it.ends it.deep (word it (pl f.step) f.to) (it.tells.head _ there) (it.tells.tail _ there) a u (pl f.step) (pl (suc f.step)) m (within f.step (omega arith)) is
        (answers f.step (omega arith) is).0 at.queue (omega arith) put_)
        (λ v b. moves.at_once n it.ends it.deep v _ (on_from s a v (pl f.step) _ _ _ _ at b))))

    -- and then in the ejection channel
    ejection_filled : (s : EndState) → Clear s → n.ejects (pl f.step) ≡ true → s.net.lines (pl f.step) ≡ empty_line n → (q : List Owing) → s.queue (pl f.step) ≡ q
        → (m : ℕ) → m ≤ it.depth → Leads n it.ends s (At s (pl f.step) (line_of n true m (word it (pl f.step) f.to)) q)
    ejection_filled s clear is line q queue zero low = moves.at_once n it.ends it.deep s _ (record { line = line; queue = queue; lines = λ z d. refl; queues = λ z d. refl })
    ejection_filled s clear is line q queue (suc m) low =
        let there = ends f.step (omega arith) in
        moves.and_then n it.ends it.deep s _ _ (ejection_filled s clear is line q queue m (omega arith)) (λ a at.
        moves.and_then n it.ends it.deep a _ _ (arrives a (clear_then s a _ _ clear at) true m is at.line (omega arith)) (λ u put_.
        moves.and_then n it.ends it.deep u _ _
        (moves.stays n it.ends it.deep (word it (pl f.step) f.to) (it.tells.head _ there) (it.tells.tail _ there) a u (pl f.step) m (omega arith) put_)
        (λ v b. moves.at_once n it.ends it.deep v _
        (on_from s a v (pl f.step) _ _ _ _ at (record { line = b.line; queue = b.queue ∙ at.queue; lines = b.lines; queues = b.queues })))))

    pub fills : (s : EndState) → Clear s → s.net.lines (pl f.step) ≡ empty_line n → s.queue (pl f.step) ≡ []
        → Leads n it.ends s (At s (fill_channel it.whole f) (full_line it (fill_channel it.whole f) f.to) (queue_full it (fill_channel it.whole f) f.to))
    fills s clear line queue = by (n.ejects (pl f.step)) refl
      where
        by : (b : Bool) → n.ejects (pl f.step) ≡ b
            → Leads n it.ends s (At s (pl f.step) (line_of n b (full n b) (word it (pl f.step) f.to)) (full_queue it b (pl f.step) (table_next it.whole (pl f.step) f.to)))
        by false input = input_filled s clear input line queue (suc it.depth) (omega arith)
        by true is =
            moves.and_then n it.ends it.deep s _ _ (queue_filled s clear is line queue (it.ends.room (pl f.step)) (omega arith)) (λ a at.
            moves.and_then n it.ends it.deep a _ _ (ejection_filled a (clear_then s a _ _ clear at) is at.line _ at.queue it.depth (omega arith)) (λ u b.
            moves.at_once n it.ends it.deep u _ (on_from s a u (pl f.step) _ _ _ _ at
            (record { line = b.line; queue = b.queue ∙ ap (entries (it.ends.room (pl f.step))) (next_is f.step); lines = b.lines; queues = b.queues }))))
