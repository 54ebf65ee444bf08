-- Rounds one after the other: one round more.
use Rattle.std.proofs.Common.{◌≡◌, ℕ, zero, suc, ◌+◌, ◌*◌, ◌^◌, ◌<◌, ◌≤◌, Bool, true, false, cond, List, [], ◌∷◌, ◌++◌, length, take, Option, Some, None, Vec, refl, sym, ◌∙◌, ap, subst, arith}
use Rattle.std.specs.Prelude.{◌==◌, slice_index, option_to_list}
use Rattle.std.specs.List.{sum_by, flat_map, range_with_len}
use Rattle.std.proofs.Math.Nat.{mul-le-mul_left}
use Rattle.std.proofs.lemmas.List.{length-take-le}
use Rattle.std.proofs.lemmas.List.Sums.{sum_by-cons}
use Rattle.wormhole.specs.Net.{Net}
use Rattle.wormhole.specs.State.{NetState}
use Rattle.wormhole.specs.Events.{after}
use Rattle.network_judge.specs.declared.table.Reply.{Reply}
use Rattle.network_judge.specs.Table.{Table}
use Rattle.network_machine.specs.declared.moves.Move.{Move}
use Rattle.network_machine.specs.Machine.{NetworkMachineSpec, plain_network, SameTables}
use Rattle.network_machine.specs.Runs.{Runs, RunsTo}
use Rattle.network_rounds.specs.declared.senders.Timed.{Timed}
use Rattle.network_rounds.specs.declared.arbiter.Arbiter.{Arbiter}
use Rattle.network_rounds.specs.Arbiters.{turn_by}
use Rattle.network_rounds.specs.Counts.{one_at, channel_left, begun_by, flits_gone, packets_begun}
use Rattle.network_rounds.specs.Rounds.{turned_groups, IsRound}
use Rattle.network_rounds.specs.Senders.{queue_at, due_of, dues_of}
use Rattle.network_rounds.specs.Simulations.{flits_in_channels, begun_in, choices_in, moves_of_all, IsSimulation}
use Rattle.network_rounds.proofs.Lists.{RunsIn, same_over}

runs_join : (n : Net) (rs : List Reply) (s : NetState) (ms : List Move) (t : NetState) (ns : List Move) (u : NetState) → Runs n rs s ms t → Runs n rs t ns u
    → Runs n rs s (ms ++ ns) u
runs_join n rs s [] t ns u h k = subst (λ (v : NetState). Runs n rs v ns u) h k
runs_join n rs s (m ∷ ms) t ns u h k = (h.0, h.1, runs_join n rs (after n s h.0) ms t ns u h.2 k)

runs_behind : (a b c : NetworkMachineSpec) (ms ns : List Move) → SameTables a b → RunsTo a b ms → RunsTo b c ns → RunsTo a c (ms ++ ns)
runs_behind a b c ms ns same h k number top depth s shows =
    (let r = h number top depth s shows in
    let v : RunsIn c b.table b.replies number top depth r.0 ns = k number top depth r.0 r.2 in
    let q : RunsIn c a.table a.replies number top depth r.0 ns = subst (λ (u : Table). RunsIn c u a.replies number top depth r.0 ns) same.table
    (subst (λ (rs : List Reply). RunsIn c b.table rs number top depth r.0 ns) same.replies v) in
    (q.0, runs_join (plain_network a.table number top depth) a.replies s ms r.0 ns q.0 r.1 q.1, q.2))

one_short : (x : ℕ) (o : Option ℕ) → one_at x o ≤ 1
one_short x None = omega arith
one_short x (Some y) = by (x == y)
  where
    by : (b : Bool) → cond b 1 0 ≤ 1
    by true = omega arith
    by false = omega arith

sum_short : (f : Move → ℕ) → ((m : Move) → f m ≤ 1) → (ms : List Move) → sum_by f ms ≤ length ms
sum_short f low [] = omega arith
sum_short f low (m ∷ ms) = (let rest = sum_short f low ms in let one = low m in let e = sum_by-cons f m ms in omega (arith, rest, one, e))

flits_short : (x : ℕ) (ms : List Move) → flits_gone x ms ≤ length ms
flits_short x ms = sum_short (λ m. one_at x (channel_left m)) (λ m. one_short x (channel_left m)) ms

begun_short : (x : ℕ) (ms : List Move) → packets_begun x ms ≤ length ms
begun_short x ms = sum_short (λ m. one_at x (begun_by m)) (λ m. one_short x (begun_by m)) ms

same_flat : (f g : ℕ → List Move) (a n : ℕ) → ((x : ℕ) → x < a + n → f x ≡ g x) → flat_map f (range_with_len a n) ≡ flat_map g (range_with_len a n)
same_flat f g a zero is = refl
same_flat f g a (suc n) is =
    ap (λ (xs : List Move). xs ++ flat_map f (range_with_len (a + 1) n)) (is a (omega arith))
    ∙ ap (λ (xs : List Move). g a ++ xs) (same_flat f g (a + 1) n (λ x low. is x (omega (arith, low))))

same_dues : (queues : ℕ → List Timed) (f g : ℕ → ℕ) (round count : ℕ) → ((x : ℕ) → x < count → f x ≡ g x) → dues_of queues f round count ≡ dues_of queues g round count
same_dues queues f g round count is =
    same_flat (λ x. option_to_list (due_of (queues x) (f x) round)) (λ x. option_to_list (due_of (queues x) (g x) round)) 0 count
    (λ x low. ap (λ (k : ℕ). option_to_list (due_of (queues x) k round)) (is x (omega (arith, low))))

-- a simulation, with bounds on its counts where a round makes at most so many moves
pub record Simulates {A B : Type 0} (by : Arbiter) (queues : List (Vec Timed A)) (groups : List (Vec Move B)) (old new : NetworkMachineSpec)
    (lasts begun flits : List ℕ) (count room : ℕ) : Type 0 where
  pub simulation : IsSimulation by queues groups old new lasts begun flits count
  pub begun_few : (x : ℕ) → begun_in x simulation.rounds ≤ room * count
  pub flits_few : (x : ℕ) → flits_in_channels x simulation.rounds ≤ room * count

-- a count of a round more is below 2 ^ 64
fits : (room count old more : ℕ) → count < 2 ^ 32 → room < 2 ^ 31 → old ≤ room * count → more ≤ room → old + more < 2 ^ 64
fits room count old more low small few short =
    (let high : count ≤ 4294967296 = omega (arith, low) in
    let bound : room * count ≤ room * 4294967296 = mul-le-mul_left room high in
    omega (arith, small, few, short, bound))

pub simulates_next : {A B : Type 0} (by : Arbiter) (queues : List (Vec Timed A)) (groups : List (Vec Move B)) (old between new : NetworkMachineSpec)
    (lasts later begun flits begun_later flits_later : List ℕ) (count room : ℕ) (made : List Move)
    (h : Simulates by queues groups old between lasts begun flits count room)
    → count < 2 ^ 32 → room < 2 ^ 31 → length made ≤ room → length begun ≡ length queues → length flits_later ≡ length flits
    → IsRound by between new lasts later (choices_in by queues groups (slice_index begun) count) made → RunsTo between new made → SameTables between new
    → ((x : ℕ) → x < length begun → slice_index begun x + packets_begun x made < 2 ^ 64 → slice_index begun_later x ≡ slice_index begun x + packets_begun x made)
    → ((x : ℕ) → x < length flits → slice_index flits x + flits_gone x made < 2 ^ 64 → slice_index flits_later x ≡ slice_index flits x + flits_gone x made)
    → (s : Simulates by queues groups old new later begun_later flits_later (count + 1) room) × (s.simulation.rounds ≡ made ∷ h.simulation.rounds)
simulates_next by queues groups old between new lasts later begun flits begun_later flits_later count room made h low small short many size round runs same b f = (
  record {
    simulation = record {
      rounds = made ∷ rounds;
      number = (let number = h.simulation.number in omega (arith, number));
      are = (between, lasts, h.simulation.are, subst (λ (ms : List Move). IsRound by between new lasts later ms made) choices round);
      runs = runs_behind old between new (moves_of_all rounds) made h.simulation.same h.simulation.runs runs;
      same = same_over old between new h.simulation.same same;
      senders = λ x here.
          (let e = sum_by-cons (λ ms. packets_begun x ms) made rounds in
          let so_far = h.simulation.senders x here in
          let bound = fits room count (slice_index begun x) (packets_begun x made) low small (let few = h.begun_few x in omega (arith, few, so_far))
          (let s = begun_short x made in omega (arith, s, short)) in
          let is = b x (omega (arith, here, many)) bound in
          omega (arith, e, so_far, is));
      channels = λ x here.
          (let e = sum_by-cons (λ ms. flits_gone x ms) made rounds in
          let inside : x < length flits = omega (arith, here, size) in
          let so_far = h.simulation.channels x inside in
          let bound = fits room count (slice_index flits x) (flits_gone x made) low small (let few = h.flits_few x in omega (arith, few, so_far))
          (let s = flits_short x made in omega (arith, s, short)) in
          let is = f x inside bound in
          omega (arith, e, so_far, is));
    };
    begun_few = λ x.
        (let e = sum_by-cons (λ ms. packets_begun x ms) made rounds in
        let few = h.begun_few x in
        let s = begun_short x made in
        omega (arith, e, few, s, short));
    flits_few = λ x.
        (let e = sum_by-cons (λ ms. flits_gone x ms) made rounds in
        let few = h.flits_few x in
        let s = flits_short x made in
        omega (arith, e, few, s, short));
  },
  refl,
)
  where
    rounds : List (List Move)
    rounds = h.simulation.rounds

    choices : choices_in by queues groups (slice_index begun) count ≡ choices_in by queues groups (λ x. begun_in x rounds) (length rounds)
    choices =
        ap (choices_in by queues groups (slice_index begun)) (sym h.simulation.number)
        ∙ ap (λ (ms : List Move). ms ++ turned_groups (turn_by by (length rounds)) groups)
        (same_dues (queue_at queues) (slice_index begun) (λ x. begun_in x rounds) (length rounds + 1) (length queues) h.simulation.senders)

-- a simulation goes on by a round whose moves are the first of a list that the round writes into
pub simulates_more : {A B : Type 0} (by : Arbiter) (queues : List (Vec Timed A)) (groups : List (Vec Move B)) (old between new : NetworkMachineSpec)
    (lasts later begun flits begun_later flits_later : List ℕ) (count room most many : ℕ) (made : List Move)
    (h : Simulates by queues groups old between lasts begun flits count room)
    → count < most → most < 2 ^ 32 → room < 2 ^ 31 → many ≤ length made → length made ≡ room → length begun ≡ length queues
    → length flits_later ≡ length flits → IsRound by between new lasts later (choices_in by queues groups (slice_index begun) count) (take many made)
    → RunsTo between new (take many made) → SameTables between new
    → ((x : ℕ) → x < length begun → slice_index begun x + packets_begun x (take many made) < 2 ^ 64
    → slice_index begun_later x ≡ slice_index begun x + packets_begun x (take many made))
    → ((x : ℕ) → x < length flits → slice_index flits x + flits_gone x (take many made) < 2 ^ 64
    → slice_index flits_later x ≡ slice_index flits x + flits_gone x (take many made))
    → (s : Simulates by queues groups old new later begun_later flits_later (count + 1) room) × (s.simulation.rounds ≡ take many made ∷ h.simulation.rounds)
simulates_more by queues groups old between new lasts later begun flits begun_later flits_later count room most many made h low few small short is each size round runs same b f =
    (let long : length (take many made) ≡ many = length-take-le many made short in
    simulates_next by queues groups old between new lasts later begun flits begun_later flits_later count room (take many made) h (omega (arith, low, few)) small
    (omega (arith, long, short, is)) each size round runs same b f)
