-- Lists in which one item is another, and lists that are one item longer.
use Rattle.std.proofs.Common.{◌≡◌, ℕ, ◌+◌, ◌<◌, Bool, true, false, cond, List, [], ◌∷◌, ◌++◌, map, set, take, drop, get_or, length, filter, refl, ap, arith, sym, ◌∙◌}
use Rattle.std.specs.List.{range_with_len}
use Rattle.std.proofs.lemmas.List.{map-set, get_or-map, length-map, map-id}
use Rattle.std.proofs.lemmas.List.FromFn.{map-range_with_len_more}
use Rattle.std.proofs.lemmas.List.Elements.{filter-append}
use Rattle.std.proofs.lemmas.List.{length-set, take_all, append-nil, drop_all}
use Rattle.std.proofs.lemmas.List.FromFn.{length-range_with_len, get_or-range_with_len}
use Rattle.std.specs.Prelude.{Vec, Option, Some, None, slice_index}
use Rattle.arrayvec.specs.ArrayVec.{ArrayVec}
use Rattle.network_judge.specs.Table.{Table, channels_of}
use Rattle.network_machine.specs.declared.moves.Move.{Move}
use Rattle.network_machine.specs.declared.moves.Move.TheVariants.{Send, More, Take, Put, Accept, Credit}
use Rattle.network_rounds.specs.declared.senders.Timed.{Timed}
use Rattle.network_rounds.specs.Senders.{queue_of}
use Rattle.network_traffic.specs.Plans.{numbers_of, all_numbers, next_number}
use Rattle.network_traffic.specs.Labels.{LabelsSpec, labels_of, label_begun, label_first, labels_after, HasChannels}

-- the packets of one channel are others
pub labels_edit : (f : List ℕ → List ℕ) (flits : List (ArrayVec ℕ)) (x : ℕ) (v d : ArrayVec ℕ) → x < length flits → v.items ≡ f (get_or flits x d).items
    → labels_of (set flits x v) ≡ set (labels_of flits) x (f (get_or (labels_of flits) x []))
labels_edit f flits x v d here is =
    map-set (λ (labels : ArrayVec ℕ). labels.items) flits x v
    ∙ ap (set (labels_of flits) x) (is ∙ ap f (sym (get_or-map (λ (labels : ArrayVec ℕ). labels.items) flits x d [] here)))

range_more : (n : ℕ) → range_with_len 0 (n + 1) ≡ range_with_len 0 n ++ n ∷ []
range_more n = sym (map-id (range_with_len 0 (n + 1))) ∙ (map-range_with_len_more (λ m. m) 0 n n (omega arith) ∙ ap (λ (ms : List ℕ). ms ++ n ∷ []) (map-id (range_with_len 0 n)))

-- the next of the numbers that pass a test
pub passing_more : (p : ℕ → Bool) (n : ℕ) (old new : List ℕ) (b : Bool) → old ≡ filter p (range_with_len 0 n) → b ≡ p n → new ≡ old ++ cond b (n ∷ []) []
    → new ≡ filter p (range_with_len 0 (n + 1))
passing_more p n old new b so_far is more =
    more ∙ (ap (λ (ks : List ℕ). ks ++ cond b (n ∷ []) []) so_far
    ∙ (ap (λ (c : Bool). filter p (range_with_len 0 n) ++ cond c (n ∷ []) []) is
    ∙ (ap (λ (ks : List ℕ). filter p (range_with_len 0 n) ++ ks) (sym (one (p n) refl))
    ∙ sym (ap (filter p) (range_more n) ∙ filter-append p (range_with_len 0 n) (n ∷ [])))))
  where
    one : (c : Bool) → p n ≡ c → filter p (n ∷ []) ≡ cond (p n) (n ∷ []) []
    one true e = grind (arith, e)
    one false e = grind (arith, e)

-- as many lists of numbers as channels
pub numbers_many : {A : Type 0} (numbers : List (Vec ℕ A)) (packets : List Timed) (n : ℕ) → map (λ (of : Vec ℕ A). of.items) numbers ≡ all_numbers packets n → length numbers ≡ n
numbers_many {A} numbers packets n is =
    sym (length-map numbers (λ (of : Vec ℕ A). of.items))
    ∙ (ap length is ∙ (length-map (range_with_len 0 n) (numbers_of packets) ∙ length-range_with_len 0 n))

-- a move leaves lists for as many channels
pub channels_kept : (t : Table) (packets : List Timed) (l : LabelsSpec) (m : Move) (n : ℕ) → HasChannels l n → HasChannels (labels_after t packets l m) n
channels_kept t packets l (Send p) n h = begun (next_number (all_numbers packets (channels_of t)) l.begun p.from)
  where
    begun : (of : Option ℕ) → HasChannels (label_begun l p.from of) n
    begun None = h
    begun (Some k) = record { latches = h.latches; begun = length-set l.begun p.from (slice_index l.begun p.from + 1) ∙ h.begun }
channels_kept t packets l (More x) n h = record { latches = h.latches; begun = h.begun }
channels_kept t packets l (Take x) n h = record { latches = length-set l.latches x (label_first l.flits x) ∙ h.latches; begun = h.begun }
channels_kept t packets l (Put x) n h = record { latches = length-set l.latches x None ∙ h.latches; begun = h.begun }
channels_kept t packets l (Accept x) n h = record { latches = h.latches; begun = h.begun }
channels_kept t packets l (Credit x) n h = h

-- the number at a place of the first n
pub range_at : (n x : ℕ) → x < n → get_or (range_with_len 0 n) x 0 ≡ x
range_at n x low = (let e = get_or-range_with_len 0 n x 0 low in omega (arith, e))

-- a list that is written back whole
pub written_back : (n : ℕ) (new old : List ℕ) → length new ≡ length old → n ≡ length old → take n (new ++ drop (length new) old) ≡ new
written_back n new old same many =
    ap (λ (xs : List ℕ). take n (new ++ xs)) (drop_all (length new) old (omega (arith, same)))
    ∙ (ap (λ (xs : List ℕ). take n xs) (append-nil new) ∙ take_all n new (omega (arith, same, many)))

-- as many queues as channels
pub queues_many : {A : Type 0} (queues : List (Vec Timed A)) (packets : List Timed) (n : ℕ)
    → map (λ (of : Vec Timed A). of.items) queues ≡ map (queue_of packets) (range_with_len 0 n) → length queues ≡ n
queues_many {A} queues packets n is =
    sym (length-map queues (λ (of : Vec Timed A). of.items))
    ∙ (ap length is ∙ (length-map (range_with_len 0 n) (queue_of packets) ∙ length-range_with_len 0 n))
