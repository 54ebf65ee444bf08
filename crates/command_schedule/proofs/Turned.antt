-- The lists of the attempts of clocked rounds, as they grow and as they are read.
use Rattle.std.proofs.Common.{◌≡◌, ℕ, ◌+◌, ◌-◌, ◌*◌, ◌%◌, ◌<◌, ◌≤◌, ◌++◌, Bool, true, false, List, [], ◌∷◌, Vec, filter, get_or, length, map, set, take, refl, sym, ap, subst, ◌∙◌, arith, append_assoc, append-nil, zero-add, length-append}
use Rattle.std.specs.Prelude.{cond}
use Rattle.std.specs.List.{flat_map, range_with_len, sum_by}
use Rattle.std.proofs.Math.Nat.{mod-eq_of_lt}
use Rattle.std.proofs.lemmas.Nat.{mod_below}
use Rattle.std.proofs.lemmas.List.{map-append, length-map, get_or-map, take_all, take_more_set}
use Rattle.std.proofs.lemmas.List.Concat.{length-flat_map}
use Rattle.std.proofs.lemmas.List.Elements.{filter_more}
use Rattle.std.proofs.lemmas.List.FromFn.{get_or-map-range_with_len, length-map-range_with_len, map-range_with_len_more}
use Rattle.torus.specs.Shape.{Shape, dims_of, tiles_of}
use Rattle.torus.specs.Choices.{bank_choices, credits_of_all, processor_choices, puts_of_all, router_choices, takes_of_all}
use Rattle.torus.specs.declared.step.Step.{Step}
use Rattle.torus.specs.declared.step.Choice.{Choice}
use Rattle.torus.specs.declared.step.Choice.TheVariants.{CreditOf, Put, TakeFrom}
use Rattle.channel_number.specs.Ports.{port_count}
use Rattle.core_laws.specs.Core.{attempts_of, round, round_at}
use Rattle.machine_core.specs.Rounds.{attempts_between}
use Rattle.core_laws.specs.Machine.{Core}
use Rattle.machine_core.specs.Clocked.{clocked_round, turned_at, turned_round}
use Rattle.command_schedule.specs.Drawn.{enabled_now}
use Rattle.command_schedule.specs.Turned.{AreTurned, HasChoiceRoom}

-- no attempt
pub between_none : (f : ℕ → Choice) (agent from : ℕ) (old : List Step) → old ≡ old ++ attempts_between f agent from from
between_none f agent from old =
    let none : from - from ≡ 0 = omega arith in
    sym (append-nil old) ∙ ap (λ (n : ℕ). old ++ attempts_of agent (map f (range_with_len from n))) (sym none)

-- one attempt more
pub between_more : (f : ℕ → Choice) (agent from n : ℕ) (old now after : List Step) → from ≤ n → now ≡ old ++ attempts_between f agent from n
    → after ≡ now ++ record { agent = agent; choice = f n } ∷ [] → after ≡ old ++ attempts_between f agent from (n + 1)
between_more f agent from n old now after low so_far is =
    let last : List Step = record { agent = agent; choice = f n } ∷ [] in
    let count : n + 1 - from ≡ n - from + 1 = omega (arith, low) in
    let choices : map f (range_with_len from (n - from + 1)) ≡ map f (range_with_len from (n - from)) ++ f n ∷ [] =
    map-range_with_len_more f from (n - from) n (omega (arith, low)) in
    let more : attempts_between f agent from (n + 1) ≡ attempts_between f agent from n ++ last =
    ap (λ (k : ℕ). attempts_of agent (map f (range_with_len from k))) count
    ∙ (ap (attempts_of agent) choices
    ∙ map-append (λ (choice : Choice). record { agent = agent; choice = choice }) (map f (range_with_len from (n - from))) (f n ∷ [])) in
    is ∙ (ap (λ (xs : List Step). xs ++ last) so_far
    ∙ (append_assoc old (attempts_between f agent from n) last ∙ ap (λ (xs : List Step). old ++ xs) (sym more)))

-- all of so many ports
from_none : (f : ℕ → Choice) (agent ports : ℕ) → attempts_of agent (map f (range_with_len 0 ports)) ≡ attempts_between f agent 0 ports
from_none f agent ports = let all : ports ≡ ports - 0 = omega arith in ap (λ (n : ℕ). attempts_of agent (map f (range_with_len 0 n))) all

-- the parts of a tile, one after the other
pub tile_turned : (agent ports : ℕ) (a c d f s0 s1 s2 s3 s4 s5 s6 : List Step) → s1 ≡ s0 ++ a
    → s2 ≡ s1 ++ attempts_of agent (takes_of_all ports) → s3 ≡ s2 ++ c → s4 ≡ s3 ++ d
    → s5 ≡ s4 ++ attempts_of agent (credits_of_all ports) → s6 ≡ s5 ++ f
    → s6 ≡ s0 ++ (a ++ attempts_between (λ input. TakeFrom input) agent 0 ports ++ c ++ d ++ attempts_between (λ output. CreditOf output) agent 0 ports ++ f)
tile_turned agent ports a c d f s0 s1 s2 s3 s4 s5 s6 p q r s t u =
    let b : List Step = attempts_between (λ (input : ℕ). TakeFrom input) agent 0 ports in
    let e : List Step = attempts_between (λ (output : ℕ). CreditOf output) agent 0 ports in
    let takes : s2 ≡ s1 ++ b = q ∙ ap (λ (w : List Step). s1 ++ w) (from_none (λ (input : ℕ). TakeFrom input) agent ports) in
    let credits : s5 ≡ s4 ++ e = t ∙ ap (λ (w : List Step). s4 ++ w) (from_none (λ (output : ℕ). CreditOf output) agent ports) in
    let flat : s6 ≡ s0 ++ a ++ b ++ c ++ d ++ e ++ f =
    u ∙ ap (λ (w : List Step). w ++ f) (credits ∙ ap (λ (w : List Step). w ++ e) (s ∙ ap (λ (w : List Step). w ++ d)
    (r ∙ ap (λ (w : List Step). w ++ c) (takes ∙ ap (λ (w : List Step). w ++ b) p)))) in
    let same : (s0 a b c d e f : List Step) → s0 ++ a ++ b ++ c ++ d ++ e ++ f ≡ s0 ++ (a ++ b ++ c ++ d ++ e ++ f) =
    λ s0 a b c d e f. simp append_assoc in
    flat ∙ same s0 a b c d e f

-- all tiles
pub all_turned : (s : Shape) (ports first tile : ℕ) → ports ≡ port_count (dims_of s) → first < port_count (dims_of s) → tile ≡ tiles_of s
    → flat_map (turned_at ports first) (range_with_len 0 tile) ≡ turned_round s first
all_turned s ports first tile is below end =
    ap (λ (p : ℕ). flat_map (turned_at p first) (range_with_len 0 tile)) is
    ∙ (ap (λ (n : ℕ). flat_map (turned_at (port_count (dims_of s)) first) (range_with_len 0 n)) end
    ∙ ap (λ (k : ℕ). flat_map (turned_at (port_count (dims_of s)) k) (range_with_len 0 (tiles_of s))) (sym (mod-eq_of_lt below)))

-- no list
pub no_turn : {A : Type 0} (s : Shape) (lists : List (Vec Step A)) → lists ≡ []
    → map (λ (v : Vec Step A). v.items) lists ≡ map (turned_round s) (range_with_len 0 0)
no_turn {A} s lists none = ap (map (λ (v : Vec Step A). v.items)) none

-- the list of one turn more
pub turn_more : {A : Type 0} (s : Shape) (n : ℕ) (now after : List (Vec Step A)) (list : Vec Step A)
    → map (λ (v : Vec Step A). v.items) now ≡ map (turned_round s) (range_with_len 0 n) → list.items ≡ turned_round s n → after ≡ now ++ list ∷ []
    → map (λ (v : Vec Step A). v.items) after ≡ map (turned_round s) (range_with_len 0 (n + 1))
turn_more {A} s n now after list so_far is pushed =
    let items : Vec Step A → List Step = λ (v : Vec Step A). v.items in
    ap (map items) pushed
    ∙ (map-append items now (list ∷ [])
    ∙ ((λ i. so_far i ++ is i ∷ [])
    ∙ sym (map-range_with_len_more (turned_round s) 0 n n (zero-add n))))

-- the list of a turn, as it is read
pub turn_read : {A : Type 0} (s : Shape) (lists : List (Vec Step A)) (before turn : ℕ) (list : Vec Step A) → AreTurned s lists
    → turn ≡ before % length lists → list ≡ get_or lists turn list → list.items ≡ turned_round s before
turn_read {A} s lists before turn list are which read =
    let items : Vec Step A → List Step = λ (v : Vec Step A). v.items in
    let ports : ℕ = port_count (dims_of s) in
    let many : length lists ≡ ports =
    sym (length-map lists items) ∙ (ap length are ∙ length-map-range_with_len (turned_round s) 0 ports) in
    let at : turn ≡ before % ports = which ∙ ap (λ (n : ℕ). before % n) many in
    let below : turn < ports = subst (λ (n : ℕ). n < ports) (sym at) (mod_below before ports (omega arith)) in
    let within : turn < length lists = omega (arith, below, many) in
    let here : list.items ≡ get_or (map items lists) turn [] = ap items read ∙ sym (get_or-map items lists turn list [] within) in
    here
    ∙ (ap (λ (xss : List (List Step)). get_or xss turn []) are
    ∙ (get_or-map-range_with_len (turned_round s) 0 ports turn turn [] below (zero-add turn)
    ∙ ap (λ (k : ℕ). flat_map (turned_at ports k) (range_with_len 0 (tiles_of s))) (mod-eq_of_lt below ∙ at)))

-- there are as many lists as ports
pub turns_count : {A : Type 0} (s : Shape) (lists : List (Vec Step A)) → AreTurned s lists → length lists ≡ port_count (dims_of s)
turns_count {A} s lists are =
    sym (length-map lists (λ (v : Vec Step A). v.items)) ∙ (ap length are ∙ length-map-range_with_len (turned_round s) 0 (port_count (dims_of s)))

-- the lists of a shape, under other names
pub turned_of : {A : Type 0} (s t : Shape) (lists shown : List (Vec Step A)) → s ≡ t → shown ≡ lists → AreTurned s lists → AreTurned t shown
turned_of {A} s t lists shown same is are =
    subst (λ (xs : List (Vec Step A)). AreTurned t xs) (sym is) (subst (λ (x : Shape). AreTurned x lists) same are)

-- how many attempts there are
attempts_count : (agent : ℕ) (choices : List Choice) → length (attempts_of agent choices) ≡ length choices
attempts_count agent choices = length-map choices (λ (c : Choice). record { agent = agent; choice = c })

ports_count : (f : ℕ → Choice) (agent from n : ℕ) → length (attempts_of agent (map f (range_with_len from n))) ≡ n
ports_count f agent from n = attempts_count agent (map f (range_with_len from n)) ∙ length-map-range_with_len f from n

six_lengths : (a b c d e f : List Step) → length (a ++ b ++ c ++ d ++ e ++ f) ≡ length a + length b + length c + length d + length e + length f
six_lengths a b c d e f = simp length-append

three_lengths : (a b c : List Step) → length (a ++ b ++ c) ≡ length a + length b + length c
three_lengths a b c = simp length-append

three_choices : (a b c : List Choice) → length (a ++ b ++ c) ≡ length a + length b + length c
three_choices a b c = simp length-append

-- a tile has as many attempts at any turn
tile_length : (ports first t : ℕ) → first ≤ ports → length (turned_at ports first t) ≡ length (round_at ports t)
tile_length ports first t low =
    let router : ℕ = 3 * t + 1 in
    let takes = ports_count (λ (input : ℕ). TakeFrom input) router 0 (ports - 0) in
    let late = ports_count (λ (input : ℕ). Put input) router first (ports - first) in
    let early = ports_count (λ (input : ℕ). Put input) router 0 (first - 0) in
    let credits = ports_count (λ (output : ℕ). CreditOf output) router 0 (ports - 0) in
    let turned = six_lengths (attempts_of (3 * t) processor_choices) (attempts_between (λ (input : ℕ). TakeFrom input) router 0 ports)
    (attempts_between (λ (input : ℕ). Put input) router first ports) (attempts_between (λ (input : ℕ). Put input) router 0 first)
    (attempts_between (λ (output : ℕ). CreditOf output) router 0 ports) (attempts_of (3 * t + 2) bank_choices) in
    let plain = three_lengths (attempts_of (3 * t) processor_choices) (attempts_of router (router_choices ports)) (attempts_of (3 * t + 2) bank_choices) in
    let of_router = attempts_count router (router_choices ports) ∙ three_choices (takes_of_all ports) (puts_of_all ports) (credits_of_all ports) in
    let all_takes = length-map-range_with_len (λ (input : ℕ). TakeFrom input) 0 ports in
    let all_puts = length-map-range_with_len (λ (input : ℕ). Put input) 0 ports in
    let all_credits = length-map-range_with_len (λ (output : ℕ). CreditOf output) 0 ports in
    omega (arith, low, takes, late, early, credits, turned, plain, of_router, all_takes, all_puts, all_credits)

-- a round has as many attempts at any turn
pub room_for_all : (s : Shape) (room : List Step) → room ≡ round s → HasChoiceRoom s room
room_for_all s room is turn =
    let ports : ℕ = port_count (dims_of s) in
    let first : ℕ = turn % ports in
    let below : first < ports = mod_below turn ports (omega arith) in
    let tiles : List ℕ = range_with_len 0 (tiles_of s) in
    let same : length (turned_round s turn) ≡ length (round s) =
    length-flat_map (turned_at ports first) tiles
    ∙ ((λ i. sum_by (λ (t : ℕ). tile_length ports first t (omega (arith, below)) i) tiles)
    ∙ sym (length-flat_map (round_at ports) tiles)) in
    let long : length room ≡ length (round s) = ap length is in
    omega (arith, same, long)

-- what is kept of the first attempts, and of one more
pub keep_one : (p : Step → Bool) (attempts room : List Step) (i k : ℕ) (x : Step) → i < length attempts → k < length room
    → take k room ≡ filter p (take i attempts) → p (get_or attempts i x) ≡ true
    → take (k + 1) (set room k (get_or attempts i x)) ≡ filter p (take (i + 1) attempts)
keep_one p attempts room i k x inside within so_far passes =
    take_more_set room k (get_or attempts i x) within
    ∙ (ap (λ (xs : List Step). xs ++ get_or attempts i x ∷ []) so_far
    ∙ (ap (λ (b : Bool). filter p (take i attempts) ++ cond b (get_or attempts i x ∷ []) []) (sym passes)
    ∙ sym (filter_more p attempts i x inside)))

pub keep_none : (p : Step → Bool) (attempts room : List Step) (i k : ℕ) (x : Step) → i < length attempts
    → take k room ≡ filter p (take i attempts) → p (get_or attempts i x) ≡ false
    → take k room ≡ filter p (take (i + 1) attempts)
keep_none p attempts room i k x inside so_far fails =
    so_far
    ∙ (sym (append-nil (filter p (take i attempts)))
    ∙ (ap (λ (b : Bool). filter p (take i attempts) ++ cond b (get_or attempts i x ∷ []) []) (sym fails)
    ∙ sym (filter_more p attempts i x inside)))

pub keep_all : (p : Step → Bool) (attempts : List Step) (i : ℕ) (kept : List Step) → length attempts ≤ i → kept ≡ filter p (take i attempts)
    → kept ≡ filter p attempts
keep_all p attempts i kept end so_far = so_far ∙ ap (filter p) (take_all i attempts end)

-- room stays where its length does
pub kept_room : (s t : Shape) (old new : List Step) → s ≡ t → length new ≡ length old → HasChoiceRoom s old → HasChoiceRoom t new
kept_room s t old new same long room =
    subst (λ (x : Shape). HasChoiceRoom x new) same
    (λ turn. let within : length (turned_round s turn) ≤ length old = room turn in omega (arith, long, within))

-- what is kept of the attempts at a turn is the clocked round
pub kept_round : (c : Core) (before k : ℕ) (attempts room : List Step) → attempts ≡ turned_round c.shape before
    → take k room ≡ enabled_now c attempts → take k room ≡ clocked_round c before
kept_round c before k attempts room at is = is ∙ ap (enabled_now c) at
