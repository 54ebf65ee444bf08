-- A simulation that is watched, one round more.
use Rattle.std.proofs.Common.{◌≡◌, ℕ, zero, suc, ◌+◌, ◌<◌, ◌≤◌, ◌^◌, Bool, false, List, [], ◌∷◌, length, take, Vec, refl, sym, ◌∙◌, ap, subst, arith}
use Rattle.std.specs.Prelude.{◌==◌, ◌&&◌, ◌||◌, not, slice_get, slice_index, if◌then◌else◌}
use Rattle.std.specs.List.{list_any, range_with_len}
use Rattle.std.proofs.lemmas.List.{length-take-le}
use Rattle.network_judge.specs.Table.{Table}
use Rattle.network_machine.specs.declared.moves.Move.{Move}
use Rattle.network_machine.specs.Machine.{NetworkMachineSpec, SameTables}
use Rattle.network_machine.specs.Runs.{RunsTo}
use Rattle.network_machine.proofs.Running.{no_move}
use Rattle.network_rounds.specs.declared.arbiter.Arbiter.{Arbiter}
use Rattle.network_rounds.specs.declared.senders.Timed.{Timed}
use Rattle.network_rounds.specs.Arbiters.{no_grants}
use Rattle.network_rounds.specs.Counts.{flits_gone, packets_begun}
use Rattle.network_rounds.specs.Rounds.{IsRound}
use Rattle.network_rounds.specs.Senders.{queue_at}
use Rattle.network_rounds.specs.Simulations.{begun_in, choices_in}
use Rattle.network_rounds.proofs.Longer.{Simulates, simulates_more}
use Rattle.network_traffic.specs.declared.watch.Watch.{Watch}
use Rattle.network_traffic.specs.Watches.{ShowsCourse}
use Rattle.network_traffic.specs.Simulated.{is_later, some_later, ends_behind, GoesOnSimulating, GoesOnBefore, last_moving}

-- the rounds so far, behind none of which it is over
pub record WatchedSoFar {A B C : Type 0} (by : Arbiter) (t : Table) (packets : List Timed) (queues : List (Vec Timed A)) (groups : List (Vec Move B))
    (old new : NetworkMachineSpec) (lasts begun flits : List ℕ) (count room latest : ℕ) (watch : Watch C) : Type 0 where
  pub simulates : Simulates by queues groups old new lasts begun flits count room
  pub shows : ShowsCourse t packets simulates.simulation.rounds watch
  pub last : latest ≡ last_moving simulates.simulation.rounds
  pub goes : GoesOnSimulating queues simulates.simulation.rounds

-- the rounds so far, and whether it is over behind the last one; it isn't behind those before
pub record WatchedNext {A B C : Type 0} (by : Arbiter) (t : Table) (packets : List Timed) (queues : List (Vec Timed A)) (groups : List (Vec Move B))
    (old new : NetworkMachineSpec) (lasts begun flits : List ℕ) (count room latest : ℕ) (watch : Watch C) (now_over : Bool) : Type 0 where
  pub simulates : Simulates by queues groups old new lasts begun flits count room
  pub shows : ShowsCourse t packets simulates.simulation.rounds watch
  pub last : latest ≡ last_moving simulates.simulation.rounds
  pub goes : GoesOnBefore queues simulates.simulation.rounds
  pub over : ends_behind queues simulates.simulation.rounds ≡ now_over
  pub on : now_over ≡ false → GoesOnSimulating queues simulates.simulation.rounds

-- no round
pub watched_none : {A B C : Type 0} (by : Arbiter) (t : Table) (packets : List Timed) (queues : List (Vec Timed A)) (groups : List (Vec Move B)) (m : NetworkMachineSpec)
    (lasts begun flits : List ℕ) (room : ℕ) (watch : Watch C) → lasts ≡ no_grants (length m.channels) → ((x : ℕ) → x < length queues → slice_index begun x ≡ 0) → ((x : ℕ) → x < length flits → slice_index flits x ≡ 0)
    → ShowsCourse t packets [] watch → WatchedSoFar by t packets queues groups m m lasts begun flits 0 room 0 watch
watched_none by t packets queues groups m lasts begun flits room watch none b f shows = record {
  simulates = record {
    simulation = record {
      rounds = [];
      number = refl;
      are = (refl, none);
      runs = no_move m;
      same = record { table = refl; replies = refl };
      senders = b;
      channels = f;
    };
    begun_few = λ x. omega arith;
    flits_few = λ x. omega arith;
  };
  shows = shows;
  last = refl;
  goes = tt;
}

any_over : (p q : ℕ → Bool) (a n : ℕ) → ((x : ℕ) → x < a + n → p x ≡ q x) → list_any p (range_with_len a n) ≡ list_any q (range_with_len a n)
any_over p q a zero is = refl
any_over p q a (suc n) is =
    ap (λ (b : Bool). b || list_any p (range_with_len (a + 1) n)) (is a (omega arith))
    ∙ ap (λ (b : Bool). q a || b) (any_over p q (a + 1) n (λ x low. is x (omega (arith, low))))

later_same : {A : Type 0} (queues : List (Vec Timed A)) (f g : ℕ → ℕ) (round : ℕ) → ((x : ℕ) → x < length queues → f x ≡ g x)
    → some_later queues f round ≡ some_later queues g round
later_same queues f g round is =
    any_over (λ x. is_later round (slice_get (queue_at queues x) (f x))) (λ x. is_later round (slice_get (queue_at queues x) (g x))) 0 (length queues)
    (λ x low. ap (λ (k : ℕ). is_later round (slice_get (queue_at queues x) k)) (is x (omega (arith, low))))

pub watched_more : {A B C : Type 0} (by : Arbiter) (t : Table) (packets : List Timed) (queues : List (Vec Timed A)) (groups : List (Vec Move B))
    (old between new : NetworkMachineSpec) (lasts later begun flits begun_later flits_later : List ℕ) (count room most many last last_later : ℕ) (made : List Move)
    (watch watch_later : Watch C) (over : Bool) (h : WatchedSoFar by t packets queues groups old between lasts begun flits count room last watch)
    → count < most → most < 2 ^ 32 → room < 2 ^ 31 → many ≤ length made → length made ≡ room → length begun ≡ length queues
    → length flits_later ≡ length flits → IsRound by between new lasts later (choices_in by queues groups (slice_index begun) count) (take many made)
    → RunsTo between new (take many made) → SameTables between new
    → ((x : ℕ) → x < length begun → slice_index begun x + packets_begun x (take many made) < 2 ^ 64
    → slice_index begun_later x ≡ slice_index begun x + packets_begun x (take many made))
    → ((x : ℕ) → x < length flits → slice_index flits x + flits_gone x (take many made) < 2 ^ 64
    → slice_index flits_later x ≡ slice_index flits x + flits_gone x (take many made))
    → ((rounds : List (List Move)) → length rounds + 1 ≡ count + 1 → count + 1 < 2 ^ 63 → ShowsCourse t packets rounds watch
    → ShowsCourse t packets (take many made ∷ rounds) watch_later)
    → last_later ≡ (if many == 0 then last else count + 1)
    → over ≡ (many == 0 && not (some_later queues (slice_index begun_later) (count + 1)))
    → WatchedNext by t packets queues groups old new later begun_later flits_later (count + 1) room last_later watch_later over
watched_more by t packets queues groups old between new lasts later begun flits begun_later flits_later count room most many last last_later made watch watch_later over h
    low small rooms few is each size round runs same b f notes latest ended =
    (let s = simulates_more by queues groups old between new lasts later begun flits begun_later flits_later count room most many made h.simulates
    low small rooms few is each size round runs same b f in
    let before : List (List Move) = h.simulates.simulation.rounds in
    let number = h.simulates.simulation.number in
    let long : length (take many made) ≡ many = length-take-le many made few in
    let senders = s.0.simulation.senders in
    let begins : some_later queues (slice_index begun_later) (count + 1) ≡ some_later queues (λ x. begun_in x (take many made ∷ before)) (length before + 1) =
    later_same queues (slice_index begun_later) (λ x. begun_in x (take many made ∷ before)) (count + 1)
    (λ x here. senders x here ∙ ap (λ (rounds : List (List Move)). begun_in x rounds) s.1)
    ∙ ap (λ (n : ℕ). some_later queues (λ x. begun_in x (take many made ∷ before)) (n + 1)) (sym number) in
    let behind : ends_behind queues (take many made ∷ before) ≡ over =
    sym (ended ∙ (ap (λ (k : ℕ). k == 0 && not (some_later queues (slice_index begun_later) (count + 1))) (sym long)
    ∙ ap (λ (later : Bool). length (take many made) == 0 && not later) begins)) in
    record {
      simulates = s.0;
      shows = subst (λ (rounds : List (List Move)). ShowsCourse t packets rounds watch_later) (sym s.1)
          (notes before (omega (arith, number)) (omega (arith, low, small)) h.shows);
      last = latest ∙ (ap (λ (k : ℕ). if k == 0 then last else count + 1) (sym long)
          ∙ (ap (λ (n : ℕ). if length (take many made) == 0 then n else count + 1) h.last
          ∙ (ap (λ (n : ℕ). if length (take many made) == 0 then last_moving before else n + 1) (sym number)
          ∙ ap last_moving (sym s.1))));
      goes = subst (GoesOnBefore queues) (sym s.1) h.goes;
      over = ap (ends_behind queues) s.1 ∙ behind;
      on = λ no. subst (GoesOnSimulating queues) (sym s.1) (behind ∙ no, h.goes);
    })

-- where it is not over behind any round, it is not over
pub goes_before : {A : Type 0} (queues : List (Vec Timed A)) (rounds : List (List Move)) → GoesOnSimulating queues rounds → GoesOnBefore queues rounds
goes_before queues [] goes = tt
goes_before queues (made ∷ before) goes = goes.1

pub goes_now : {A : Type 0} (queues : List (Vec Timed A)) (rounds : List (List Move)) → GoesOnSimulating queues rounds → ends_behind queues rounds ≡ false
goes_now queues [] goes = refl
goes_now queues (made ∷ before) goes = goes.0
