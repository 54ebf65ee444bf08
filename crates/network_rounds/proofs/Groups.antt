-- The choices of a part, one channel further.
use Rattle.std.proofs.Common.{◌≡◌, ℕ, ◌+◌, ◌<◌, List, [], ◌∷◌, ◌++◌, Option, Vec, length, take, get_or, sym, ◌∙◌, ap, arith, map}
use Rattle.std.specs.Prelude.{option_to_list}
use Rattle.std.specs.List.{flat_map, range_with_len}
use Rattle.std.proofs.lemmas.List.{append-nil, map-id, map-append, take_more, length-map, get_or_default}
use Rattle.std.proofs.Math.ListN.{get_or-map}
use Rattle.std.proofs.lemmas.List.FromFn.{map-range_with_len_more}
use Rattle.std.proofs.lemmas.Grind.{flat_map-append}
use Rattle.network_machine.specs.declared.moves.Move.{Move}
use Rattle.network_rounds.specs.declared.choices.Part.{Part}
use Rattle.network_rounds.specs.declared.senders.Timed.{Timed}
use Rattle.network_rounds.specs.Senders.{queue_at}
use Rattle.network_rounds.specs.declared.choices.Part.TheVariants.{Senders, Takes, Puts}

pub range_more : (n : ℕ) → range_with_len 0 (n + 1) ≡ range_with_len 0 n ++ n ∷ []
range_more n = sym (map-id (range_with_len 0 (n + 1))) ∙ (map-range_with_len_more (λ m. m) 0 n n (omega arith) ∙ ap (λ (ms : List ℕ). ms ++ n ∷ []) (map-id (range_with_len 0 n)))

pub group_more : (h : ℕ → Option Move) (n : ℕ)
    → flat_map (λ x. option_to_list (h x)) (range_with_len 0 (n + 1)) ≡ flat_map (λ x. option_to_list (h x)) (range_with_len 0 n) ++ option_to_list (h n)
group_more h n =
    let f : ℕ → List Move = λ x. option_to_list (h x) in
    ap (flat_map f) (range_more n)
    ∙ (flat_map-append f (range_with_len 0 n) (n ∷ []) ∙ ap (λ (ms : List Move). flat_map f (range_with_len 0 n) ++ ms) (append-nil (f n)))

-- the choice of one channel more
pub group_next : (h : ℕ → Option Move) (n : ℕ) (old new : List Move) (o : Option Move) → old ≡ flat_map (λ x. option_to_list (h x)) (range_with_len 0 n) → o ≡ h n
    → new ≡ old ++ option_to_list o → new ≡ flat_map (λ x. option_to_list (h x)) (range_with_len 0 (n + 1))
group_next h n old new o so_far is more =
    more ∙ (ap (λ (ms : List Move). ms ++ option_to_list o) so_far
    ∙ (ap (λ (p : Option Move). flat_map (λ x. option_to_list (h x)) (range_with_len 0 n) ++ option_to_list p) is ∙ sym (group_more h n)))

-- one part more
pub parts_next : (n : ℕ) (old new : List Part) → old ≡ Senders ∷ Takes ∷ map (λ router. Puts router) (range_with_len 0 n) → new ≡ old ++ Puts n ∷ []
    → new ≡ Senders ∷ Takes ∷ map (λ router. Puts router) (range_with_len 0 (n + 1))
parts_next n old new so_far more =
    more ∙ (ap (λ (ps : List Part). ps ++ Puts n ∷ []) so_far
    ∙ ap (λ (ps : List Part). Senders ∷ Takes ∷ ps) (sym (map-range_with_len_more (λ router. Puts router) 0 n n (omega arith))))

-- one vector more
pub vectors_next : {X A : Type 0} (f : ℕ → List X) (n : ℕ) (old new : List (Vec X A)) (v : Vec X A) → map (λ (q : Vec X A). q.items) old ≡ map f (range_with_len 0 n)
    → new ≡ old ++ v ∷ [] → v.items ≡ f n → map (λ (q : Vec X A). q.items) new ≡ map f (range_with_len 0 (n + 1))
vectors_next {X} {A} f n old new v so_far more is =
    ap (map (λ (q : Vec X A). q.items)) more
    ∙ (map-append (λ (q : Vec X A). q.items) old (v ∷ [])
    ∙ (ap (λ (qs : List (List X)). qs ++ v.items ∷ []) so_far
    ∙ (ap (λ (q : List X). map f (range_with_len 0 n) ++ q ∷ []) is ∙ sym (map-range_with_len_more f 0 n n (omega arith)))))

-- the list of one vector more
pub vectors_map : {X Y A : Type 0} (f : Y → List X) (ys : List Y) (k : ℕ) (d : Y) (old new : List (Vec X A)) (v : Vec X A) → k < length ys
    → map (λ (q : Vec X A). q.items) old ≡ map f (take k ys) → new ≡ old ++ v ∷ [] → v.items ≡ f (get_or ys k d)
    → map (λ (q : Vec X A). q.items) new ≡ map f (take (k + 1) ys)
vectors_map {X} {Y} {A} f ys k d old new v low so_far more is =
    ap (map (λ (q : Vec X A). q.items)) more
    ∙ (map-append (λ (q : Vec X A). q.items) old (v ∷ [])
    ∙ (ap (λ (qs : List (List X)). qs ++ v.items ∷ []) so_far
    ∙ (ap (λ (q : List X). map f (take k ys) ++ q ∷ []) is
    ∙ (sym (map-append f (take k ys) (get_or ys k d ∷ [])) ∙ ap (map f) (sym (take_more ys k d low))))))

-- the queue of a sender, as its vector shows it
pub queue_is : {A : Type 0} (queues : List (Vec Timed A)) (x : ℕ) (d : Vec Timed A) (shown : List Timed) → x < length queues → shown ≡ (get_or queues x d).items
    → shown ≡ queue_at queues x
queue_is {A} queues x d shown low is =
    let f : Vec Timed A → List Timed = λ queue. queue.items in
    let inside : x < length (map f queues) = (let size = length-map queues f in omega (arith, low, size)) in
    is ∙ (sym (get_or-map f queues x d) ∙ get_or_default (map f queues) x (f d) [] inside)
