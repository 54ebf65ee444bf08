-- Runs, one move longer, and runs that end deadlocked.
use Rattle.std.proofs.Common.{◌≡◌, ℕ, zero, suc, arith, ◌≤◌, List, [], ◌∷◌, ◌++◌, length, take, refl, ap, subst}
use Rattle.wormhole.specs.Net.{Net}
use Rattle.wormhole.specs.State.{NetState, empty}
use Rattle.wormhole.specs.Events.{NetEvent, after, after_all, CanAllHappen}
use Rattle.network_judge.specs.declared.table.Reply.{Reply}
use Rattle.network_judge.specs.Table.{Table}
use Rattle.network_judge.specs.LockUps.{IsLockUp}
use Rattle.network_machine.specs.declared.moves.Move.{Move}
use Rattle.network_machine.specs.Moves.{CanMove}
use Rattle.network_machine.specs.Machine.{NetworkMachineSpec, ShowsNetwork, plain_network, SameTables, HasMadeMove}
use Rattle.network_machine.specs.Runs.{Runs, RunsTo}
use Rattle.network_machine.specs.Endings.{IsLocked}

pub further : (n : Net) (rs : List Reply) (ms : List Move) (s t : NetState) (m : Move) (e : NetEvent) → Runs n rs s ms t → CanMove n rs t.lines m e
    → Runs n rs s (ms ++ m ∷ []) (after n t e)
further n rs [] s t m e is can = (e, subst (λ (u : NetState). CanMove n rs u.lines m e) is can, ap (λ u. after n u e) is)
further n rs (k ∷ ms) s t m e runs can = (runs.0, runs.1, further n rs ms (after n s runs.0) t m e runs.2 can)

-- a move that was made, with other names of its tables
abbrev pub MovesIn : NetworkMachineSpec → Net → List Reply → NetState → Move → Type 0
MovesIn c n rs t m = (e : NetEvent) × CanMove n rs t.lines m e × ShowsNetwork c (after n t e)

moves_in : (b c : NetworkMachineSpec) (t : Table) (rs : List Reply) (number : ℕ → ℕ) (top depth : ℕ) (u : NetState) (m : Move) → b.table ≡ t → b.replies ≡ rs
    → HasMadeMove b c (plain_network b.table number top depth) u m → MovesIn c (plain_network t number top depth) rs u m
moves_in b c t rs number top depth u m same answers h =
    subst (λ (x : Table). MovesIn c (plain_network x number top depth) rs u m) same
    (subst (λ (x : List Reply). MovesIn c (plain_network b.table number top depth) x u m) answers (h.event, h.can, h.shows))

pub runs_on : (a b c : NetworkMachineSpec) (ms : List Move) (m : Move) → SameTables a b → RunsTo a b ms
    → ((number : ℕ → ℕ) (top depth : ℕ) (s : NetState) → ShowsNetwork b s → HasMadeMove b c (plain_network b.table number top depth) s m)
    → RunsTo a c (ms ++ m ∷ [])
runs_on a b c ms m same runs moved number top depth s shows =
    (let r = runs number top depth s shows in
    let h = moves_in b c a.table a.replies number top depth r.0 m same.table same.replies (moved number top depth r.0 r.2) in
    (after (plain_network a.table number top depth) r.0 h.0, further (plain_network a.table number top depth) a.replies ms s r.0 m h.0 r.1 h.1, h.2))

pub no_move : (m : NetworkMachineSpec) → RunsTo m m []
no_move m number top depth s shows = (s, refl, shows)

-- the events of a run
pub record IsRunOf (n : Net) (s t : NetState) : Type 0 where
  pub events : List NetEvent
  pub may : CanAllHappen n s events
  pub stands : t ≡ after_all n s events

pub events_of : (n : Net) (rs : List Reply) (ms : List Move) (s t : NetState) → Runs n rs s ms t → IsRunOf n s t
events_of n rs [] s t is = record { events = []; may = tt; stands = is }
events_of n rs (m ∷ ms) s t runs =
    (let rest = events_of n rs ms (after n s runs.0) t runs.2 in
    record { events = runs.0 ∷ rest.events; may = (runs.1.may, rest.may); stands = rest.stands })

pub locks : (n : Net) (m : NetworkMachineSpec) (ms : List Move) (s : NetState) → Runs n m.replies (empty n) ms s → IsLocked m n s
    → (events : List NetEvent) × IsLockUp n m.replies events
locks n m ms s runs locked =
    (let run = events_of n m.replies ms (empty n) s runs in
    let at : IsLocked m n (after_all n (empty n) run.events) = subst (IsLocked m n) run.stands locked in
    (run.events, record { may = run.may; still = at.still; stuck = at.stuck; here = at.here; stands = at.stands }))

pub take_whole : (xs : List Move) (n : ℕ) → length xs ≤ n → take n xs ≡ xs
take_whole [] zero l = refl
take_whole [] (suc n) l = refl
take_whole (x ∷ xs) zero l = absurd (omega arith)
take_whole (x ∷ xs) (suc n) l = ap (λ ys. x ∷ ys) (take_whole xs n (omega arith))
