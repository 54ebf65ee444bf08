-- The packets of senders, one packet further, and the senders that have some.
use Rattle.std.proofs.Common.{◌≡◌, inl, inr, ℕ, ◌+◌, ◌<◌, ◌≤◌, Bool, true, false, cond, List, [], ◌∷◌, ◌++◌, Vec}
use Rattle.std.proofs.Common.{length, take, get_or, refl, sym, ◌∙◌, ap, arith, map}
use Rattle.std.proofs.Common.{get_or-set_same, get_or-set_other}
use Rattle.std.specs.Prelude.{◌==◌, nat_lt, slice_set, option_to_list, filter}
use Rattle.std.specs.List.{flat_map, range_with_len}
use Rattle.std.proofs.lemmas.Bool.{cases_eq, eq-eqb, ne_eqb, true≢false, lt-ltb, le-ltb, eqb-true, eqb-false, cases_lt}
use Rattle.std.proofs.lemmas.List.{append-nil, map-set, length-set, length-map, take_more, same_lists}
use Rattle.std.proofs.lemmas.List.Elements.{filter-append, All-filter, All-get_or, All-from_get_or, All-same}
use Rattle.std.proofs.lemmas.List.Sums.{length-filter, count_by-le-length}
use Rattle.std.proofs.lemmas.List.FromFn.{length-range_with_len, length-map-range_with_len, get_or-range_with_len, get_or-map-range_with_len}
use Rattle.std.proofs.lemmas.Grind.{flat_map-append}
use Rattle.std.proofs.Math.ListN.{get_or-map}
use Rattle.network_machine.specs.declared.moves.Move.{Move}
use Rattle.network_rounds.specs.declared.senders.Timed.{Timed}
use Rattle.network_rounds.specs.Senders.{queue_of, queue_at, due_of, dues_of, has_packets, AreSenders}
use Rattle.network_rounds.proofs.Groups.{range_more, queue_is}

queue_more : (traffic : List Timed) (timed : Timed) (x : ℕ) (b : Bool) → (timed.packet.from == x) ≡ b
    → queue_of (traffic ++ timed ∷ []) x ≡ queue_of traffic x ++ cond b (timed ∷ []) []
queue_more traffic timed x b is =
    filter-append (λ (t : Timed). t.packet.from == x) traffic (timed ∷ []) ∙ ap (λ (c : Bool). queue_of traffic x ++ cond c (timed ∷ []) []) is

queue_else : (traffic : List Timed) (timed : Timed) (x : ℕ) → (timed.packet.from ≡ x → ⊥) → queue_of traffic x ≡ queue_of (traffic ++ timed ∷ []) x
queue_else traffic timed x other =
    sym (queue_more traffic timed x false (ne_eqb timed.packet.from x other) ∙ append-nil (queue_of traffic x))

module _ {A : Type 0} (queues : List (Vec Timed A)) (traffic : List Timed) (n : ℕ) (timed : Timed)
    (is : map (λ (q : Vec Timed A). q.items) queues ≡ map (queue_of traffic) (range_with_len 0 n)) where
  abbrev items : Vec Timed A → List Timed
  items q = q.items

  many : length queues ≡ n
  many = sym (length-map queues items) ∙ (ap length is ∙ length-map-range_with_len (queue_of traffic) 0 n)

  abbrev before : ℕ → List Timed → List Timed
  before k d = get_or (map (queue_of traffic) (range_with_len 0 n)) k d

  abbrev after : ℕ → List Timed → List Timed
  after k d = get_or (map (queue_of (traffic ++ timed ∷ [])) (range_with_len 0 n)) k d

  same_after : (k : ℕ) (d : List Timed) → k < n → (timed.packet.from ≡ k → ⊥) → before k d ≡ after k d
  same_after k d low other =
      get_or-map-range_with_len (queue_of traffic) 0 n k k d low (omega arith)
      ∙ (queue_else traffic timed k other ∙ sym (get_or-map-range_with_len (queue_of (traffic ++ timed ∷ [])) 0 n k k d low (omega arith)))

  -- a packet of no sender that is there
  pub packet_apart : length queues ≤ timed.packet.from
      → map (λ (q : Vec Timed A). q.items) queues ≡ map (queue_of (traffic ++ timed ∷ [])) (range_with_len 0 n)
  packet_apart past =
      is ∙ same_lists _ _ (length-map-range_with_len (queue_of traffic) 0 n ∙ sym (length-map-range_with_len (queue_of (traffic ++ timed ∷ [])) 0 n))
      (λ k d low. (let size = length-map-range_with_len (queue_of traffic) 0 n in
      let m = many in
      same_after k d (omega (arith, low, size)) (λ e. absurd (omega (arith, e, past, low, size, m)))))

  -- one packet more behind those of its sender
  pub packet_added : (q old : Vec Timed A) → timed.packet.from < length queues → q.items ≡ (get_or queues timed.packet.from old).items ++ timed ∷ []
      → map (λ (q : Vec Timed A). q.items) (slice_set queues timed.packet.from q) ≡ map (queue_of (traffic ++ timed ∷ [])) (range_with_len 0 n)
  packet_added q old low more =
      map-set items queues timed.packet.from q ∙ (ap (λ (qs : List (List Timed)). slice_set qs timed.packet.from q.items) is
      ∙ same_lists _ _ (length-set _ timed.packet.from q.items
      ∙ (length-map-range_with_len (queue_of traffic) 0 n ∙ sym (length-map-range_with_len (queue_of (traffic ++ timed ∷ [])) 0 n))) each)
    where
      first : (get_or queues timed.packet.from old).items ≡ queue_of traffic timed.packet.from
      first =
          sym (get_or-map items queues timed.packet.from old)
          ∙ (ap (λ (qs : List (List Timed)). get_or qs timed.packet.from old.items) is
          ∙ get_or-map-range_with_len (queue_of traffic) 0 n timed.packet.from timed.packet.from old.items (let m = many in omega (arith, low, m))
          (omega arith))

      shown : q.items ≡ queue_of (traffic ++ timed ∷ []) timed.packet.from
      shown =
          more ∙ (ap (λ (xs : List Timed). xs ++ timed ∷ []) first
          ∙ sym (queue_more traffic timed timed.packet.from true (eq-eqb timed.packet.from timed.packet.from refl)))

      each : (k : ℕ) (d : List Timed) → k < length (slice_set (map (queue_of traffic) (range_with_len 0 n)) timed.packet.from q.items)
          → get_or (slice_set (map (queue_of traffic) (range_with_len 0 n)) timed.packet.from q.items) k d ≡ after k d
      each k d in' =
          (let size = length-set (map (queue_of traffic) (range_with_len 0 n)) timed.packet.from q.items in
          let long = length-map-range_with_len (queue_of traffic) 0 n in
          let inside : k < n = omega (arith, in', size, long) in
          elim (cases_eq k timed.packet.from) [
            | inl same ↦ ap (λ (j : ℕ). get_or (slice_set (map (queue_of traffic) (range_with_len 0 n)) timed.packet.from q.items) j d) same
                ∙ (get_or-set_same _ timed.packet.from q.items d (let m = many in omega (arith, low, m, long))
                ∙ (shown ∙ (ap (queue_of (traffic ++ timed ∷ [])) (sym same)
                ∙ sym (get_or-map-range_with_len (queue_of (traffic ++ timed ∷ [])) 0 n k k d inside (omega arith)))))
            | inr other ↦ get_or-set_other _ timed.packet.from k q.items d other ∙ same_after k d inside (λ e. other (sym e))
          ])

-- the senders so far, and one channel
sender_more : {A : Type 0} (queues : List (Vec Timed A)) (x : ℕ) (b : Bool) → has_packets queues x ≡ b
    → filter (has_packets queues) (range_with_len 0 (x + 1)) ≡ filter (has_packets queues) (range_with_len 0 x) ++ cond b (x ∷ []) []
sender_more queues x b is =
    ap (filter (has_packets queues)) (range_more x)
    ∙ (filter-append (has_packets queues) (range_with_len 0 x) (x ∷ [])
    ∙ ap (λ (c : Bool). filter (has_packets queues) (range_with_len 0 x) ++ cond c (x ∷ []) []) is)

-- whether a vector of them has packets
sender_has : {A : Type 0} (queues : List (Vec Timed A)) (x : ℕ) (q : Vec Timed A) → x < length queues → q ≡ get_or queues x q
    → has_packets queues x ≡ nat_lt 0 (length q.items)
sender_has {A} queues x q low is = ap (λ (xs : List Timed). nat_lt 0 (length xs)) (sym (queue_is queues x q q.items low (ap (λ (v : Vec Timed A). v.items) is)))

has_some : {A : Type 0} (queues : List (Vec Timed A)) (x : ℕ) (q : Vec Timed A) → x < length queues → q ≡ get_or queues x q → (q.len == 0) ≡ false
    → has_packets queues x ≡ true
has_some queues x q low is some =
    sender_has queues x q low is ∙ lt-ltb 0 (length q.items)
    (let size = q.ok.0 in let apart = eqb-false q.len 0 some in elim
    (cases_lt 0 q.len) [ inl more ↦ omega (arith, size, more) | inr none ↦ absurd (apart (omega (arith, none))) ])

has_none : {A : Type 0} (queues : List (Vec Timed A)) (x : ℕ) (q : Vec Timed A) → x < length queues → q ≡ get_or queues x q → (q.len == 0) ≡ true
    → has_packets queues x ≡ false
has_none queues x q low is none =
    sender_has queues x q low is ∙ le-ltb 0 (length q.items) (let size = q.ok.0 in let e = eqb-true q.len 0 none in omega (arith, size, e))

-- one channel further
pub sender_added : {A : Type 0} (queues : List (Vec Timed A)) (x : ℕ) (q : Vec Timed A) (old new : List ℕ) → x < length queues → q ≡ get_or queues x q
    → (q.len == 0) ≡ false → old ≡ filter (has_packets queues) (range_with_len 0 x) → new ≡ old ++ x ∷ []
    → new ≡ filter (has_packets queues) (range_with_len 0 (x + 1))
sender_added queues x q old new low is some so_far more =
    more ∙ (ap (λ (xs : List ℕ). xs ++ x ∷ []) so_far ∙ sym (sender_more queues x true (has_some queues x q low is some)))

pub sender_passed : {A : Type 0} (queues : List (Vec Timed A)) (x : ℕ) (q : Vec Timed A) (old new : List ℕ) → x < length queues → q ≡ get_or queues x q
    → (q.len == 0) ≡ true → old ≡ filter (has_packets queues) (range_with_len 0 x) → new ≡ old
    → new ≡ filter (has_packets queues) (range_with_len 0 (x + 1))
sender_passed queues x q old new low is none so_far same =
    same ∙ (so_far ∙ (sym (append-nil (filter (has_packets queues) (range_with_len 0 x)))
    ∙ sym (sender_more queues x false (has_none queues x q low is none))))

-- senders are channels, and no more than these
pub sender_low : {A : Type 0} (queues : List (Vec Timed A)) (senders : List ℕ) (k d : ℕ) → AreSenders queues senders → k < length senders
    → get_or senders k d < length queues
sender_low queues senders k d are low =
    All-get_or (λ x. x < length queues) senders k d low
    (All-same (λ x. x < length queues) senders (filter (has_packets queues) (range_with_len 0 (length queues))) are
    (All-filter (has_packets queues) (λ x. x < length queues) (range_with_len 0 (length queues))
    (All-from_get_or (λ x. x < length queues) (range_with_len 0 (length queues)) 0 (λ i in'.
    (let size = length-range_with_len 0 (length queues) in
    let inside : i < length queues = omega (arith, in', size) in
    let e = get_or-range_with_len 0 (length queues) i 0 inside in
    omega (arith, e, inside))))))

pub senders_few : {A : Type 0} (queues : List (Vec Timed A)) (senders : List ℕ) → AreSenders queues senders → length senders ≤ length queues
senders_few queues senders are =
    (let e = ap length are in
    let kept = length-filter (has_packets queues) (range_with_len 0 (length queues)) in
    let few = count_by-le-length (has_packets queues) (range_with_len 0 (length queues)) in
    let size = length-range_with_len 0 (length queues) in
    omega (arith, e, kept, few, size))

left_step : (p : ℕ → Bool) (f : ℕ → List Move) → ((x : ℕ) → p x ≡ false → f x ≡ []) → (x : ℕ) (xs : List ℕ) → flat_map f (filter p xs) ≡ flat_map f xs
    → (b : Bool) → p x ≡ b → flat_map f (cond b (x ∷ filter p xs) (filter p xs)) ≡ f x ++ flat_map f xs
left_step p f none x xs rest true is = ap (λ (ms : List Move). f x ++ ms) rest
left_step p f none x xs rest false is = rest ∙ ap (λ (ms : List Move). ms ++ flat_map f xs) (sym (none x is))

-- those that a filter leaves out give nothing
left_out : (p : ℕ → Bool) (f : ℕ → List Move) → ((x : ℕ) → p x ≡ false → f x ≡ []) → (xs : List ℕ) → flat_map f (filter p xs) ≡ flat_map f xs
left_out p f none [] = refl
left_out p f none (x ∷ xs) = left_step p f none x xs (left_out p f none xs) (p x) refl

some_packets : (t : Timed) (ts : List Timed) → nat_lt 0 (length (t ∷ ts)) ≡ true
some_packets t ts = lt-ltb 0 (length (t ∷ ts)) (omega arith)

no_due : (queue : List Timed) (begun round : ℕ) → nat_lt 0 (length queue) ≡ false → option_to_list (due_of queue begun round) ≡ []
no_due [] begun round e = refl
no_due (t ∷ ts) begun round e = absurd (true≢false (sym (some_packets t ts) ∙ e))

-- the packets of all senders are those of the senders that have some
pub dues_all : {A : Type 0} (queues : List (Vec Timed A)) (senders : List ℕ) (begun : ℕ → ℕ) (round : ℕ) → AreSenders queues senders
    → flat_map (λ x. option_to_list (due_of (queue_at queues x) (begun x) round)) senders ≡ dues_of (queue_at queues) begun round (length queues)
dues_all queues senders begun round are =
    ap (flat_map f) are ∙ left_out (has_packets queues) f (λ x e. no_due (queue_at queues x) (begun x) round e) (range_with_len 0 (length queues))
  where
    f : ℕ → List Move
    f = λ x. option_to_list (due_of (queue_at queues x) (begun x) round)

-- one sender further
pub dues_more : (f : ℕ → List Move) (senders : List ℕ) (k : ℕ) (d : ℕ) (old new added : List Move) → k < length senders → old ≡ flat_map f (take k senders)
    → added ≡ f (get_or senders k d) → new ≡ old ++ added → new ≡ flat_map f (take (k + 1) senders)
dues_more f senders k d old new added low so_far is more =
    more ∙ (ap (λ (ms : List Move). ms ++ added) so_far ∙ (ap (λ (ms : List Move). flat_map f (take k senders) ++ ms)
    (is ∙ sym (append-nil (f (get_or senders k d))))
    ∙ (sym (flat_map-append f (take k senders) (get_or senders k d ∷ [])) ∙ ap (flat_map f) (sym (take_more senders k d low)))))
