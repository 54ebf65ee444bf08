-- Runs that end locked are deadlocks of their network.
use Rattle.std.proofs.Common.{◌≡◌, ◌≢◌, ℕ, ◌<◌, List, [], ◌∷◌, map, refl, sym, ◌∙◌, ap, subst}
use Rattle.wormhole.specs.Net.{Net}
use Rattle.wormhole.specs.State.{NetState, empty, in_line}
use Rattle.wormhole.specs.Events.{NetEvent, after, after_all, CanAllHappen}
use Rattle.network_judge.specs.declared.table.Reply.{Reply}
use Rattle.network_judge.specs.declared.table.Join.{Join}
use Rattle.network_judge.specs.declared.table.Kind.{Kind}
use Rattle.network_judge.specs.Table.{Table, table_of}
use Rattle.network_judge.specs.Receivers.{GoesWhere}
use Rattle.network_judge.specs.LockUps.{IsLockUp, LocksUp, plain_format}
use Rattle.network_text.specs.Network.{NetworkSpec}
use Rattle.network_machine.specs.declared.moves.Move.{Move}
use Rattle.network_machine.specs.declared.moves.Ending.{Ending}
use Rattle.network_machine.specs.declared.moves.Ending.TheVariants.{Locked}
use Rattle.network_machine.specs.Moves.{event_move}
use Rattle.network_machine.specs.Machine.{NetworkMachineSpec, ShowsNetwork, plain_network, IsOpenedNetwork, SameTables}
use Rattle.network_machine.specs.Runs.{Runs, RunsTo}
use Rattle.network_machine.specs.Endings.{IsEnding}
use Rattle.network_run.specs.LockedUp.{MovesLockUp}
use Rattle.network_run.specs.Replays.{RunEnds}

-- the events of a run, of which each is its move
pub record IsRunBy (n : Net) (s t : NetState) (moves : List Move) : Type 0 where
  pub events : List NetEvent
  pub are : map event_move events ≡ moves
  pub may : CanAllHappen n s events
  pub stands : t ≡ after_all n s events

runs_by : (n : Net) (rs : List Reply) (ms : List Move) (s t : NetState) → Runs n rs s ms t → IsRunBy n s t ms
runs_by n rs [] s t is = record { events = []; are = refl; may = tt; stands = is }
runs_by n rs (m ∷ ms) s t runs =
    (let rest = runs_by n rs ms (after n s runs.0) t runs.2 in
    record {
      events = runs.0 ∷ rest.events;
      are = ap (λ k. k ∷ map event_move rest.events) runs.1.is ∙ ap (λ ks. m ∷ ks) rest.are;
      may = (runs.1.may, rest.may);
      stands = rest.stands;
    })

-- a flit stands, and nothing goes
pub record StandsStill (rs : List Reply) (n : Net) (s : NetState) : Type 0 where
  pub still : GoesWhere n s rs ⊥
  pub stuck : ℕ
  pub here : stuck < n.channels
  pub stands : in_line (s.lines stuck) ≢ []

-- moves lock the network of a table up
abbrev pub LockBy : Table → List Reply → ℕ → List Move → Type 0
LockBy t rs depth moves = (number : ℕ → ℕ) (top : ℕ)
    → (events : List NetEvent) × (map event_move events ≡ moves) × IsLockUp (plain_network t number top depth) rs events

lock_by : (a b : NetworkMachineSpec) (depth : ℕ) (moves : List Move)
    → ((number : ℕ → ℕ) (top : ℕ) → ShowsNetwork a (empty (plain_network a.table number top depth)))
    → RunsTo a b moves
    → ((number : ℕ → ℕ) (top depth : ℕ) (s : NetState) → ShowsNetwork b s → StandsStill a.replies (plain_network a.table number top depth) s)
    → LockBy a.table a.replies depth moves
lock_by a b depth moves opens runs ends number top =
    (let n : Net = plain_network a.table number top depth in
    let r = runs number top depth (empty n) (opens number top) in
    let run : IsRunBy n (empty n) r.0 moves = runs_by n a.replies moves (empty n) r.0 r.1 in
    let at : StandsStill a.replies n (after_all n (empty n) run.events) = subst (StandsStill a.replies n) run.stands (ends number top depth r.0 r.2) in
    (run.events, run.are, record { may = run.may; still = at.still; stuck = at.stuck; here = at.here; stands = at.stands }))

still_in : (a b : NetworkMachineSpec) → SameTables a b → IsEnding b Locked
    → (number : ℕ → ℕ) (top depth : ℕ) (s : NetState) → ShowsNetwork b s → StandsStill a.replies (plain_network a.table number top depth) s
still_in a b same ends number top depth s shows =
    (let l = ends number top depth s shows in
    let at : StandsStill b.replies (plain_network b.table number top depth) s = record { still = l.still; stuck = l.stuck; here = l.here; stands = l.stands } in
    subst (λ (t : Table). StandsStill a.replies (plain_network t number top depth) s) same.table
    (subst (λ (rs : List Reply). StandsStill rs (plain_network b.table number top depth) s) same.replies at))

-- a run from the empty network that ends deadlocked
pub locked_by : (n : NetworkSpec) (depth : ℕ) (moves : List Move) (a b : NetworkMachineSpec) → IsOpenedNetwork n.table n.replies depth a → RunsTo a b moves
    → SameTables a b → IsEnding b Locked → MovesLockUp n depth moves
locked_by n depth moves a b opened runs same ends =
    (let shows = λ (number : ℕ → ℕ) (top : ℕ). subst (λ (t : Table). ShowsNetwork a (empty (plain_network t number top depth))) (sym opened.table) (opened.shows number top) in
    let by : LockBy a.table a.replies depth moves = lock_by a b depth moves shows runs (still_in a b same ends) in
    subst (λ (t : Table). LockBy t n.replies depth moves) opened.table
    (subst (λ (rs : List Reply). LockBy a.table rs depth moves) opened.replies by))

-- a network that some moves deadlock can deadlock
pub moves_lock : (n : NetworkSpec) (depth : ℕ) (moves : List Move) → MovesLockUp n depth moves → LocksUp n.table n.replies depth plain_format
moves_lock n depth moves locks number top = (let e = locks number top in (e.0, e.2))

-- a machine that is opened with the tables of a network
pub opened_in : (t : Table) (rs : List Reply) (kinds : List Kind) (joins : List Join) (choices : List ℕ) (answers : List Reply) (depth : ℕ) (m : NetworkMachineSpec)
    → kinds ≡ t.kinds → joins ≡ t.joins → choices ≡ t.choices → answers ≡ rs → IsOpenedNetwork (table_of kinds joins choices) answers depth m
    → IsOpenedNetwork t rs depth m
opened_in t rs kinds joins choices answers depth m one two three four opened =
    (let same : table_of kinds joins choices ≡ t =
    ap (λ k. table_of k joins choices) one ∙ ap (λ j. table_of t.kinds j choices) two ∙ ap (λ c. table_of t.kinds t.joins c) three in
    subst (λ (x : Table). IsOpenedNetwork x rs depth m) same (subst (λ (x : List Reply). IsOpenedNetwork (table_of kinds joins choices) x depth m) four opened))

-- how its run ends
pub run_ends : (n : NetworkSpec) (depth : ℕ) (moves : List Move) (ending : Ending) (a b : NetworkMachineSpec) → IsOpenedNetwork n.table n.replies depth a
    → RunsTo a b moves → SameTables a b → IsEnding b ending → RunEnds n depth moves ending
run_ends n depth moves ending a b opened moved same ended = record {
  opened = a;
  reached = b;
  opens = opened;
  runs = moved;
  ends = ended;
  locks = λ locked. locked_by n depth moves a b opened moved same (subst (λ (e : Ending). IsEnding b e) locked ended);
}
