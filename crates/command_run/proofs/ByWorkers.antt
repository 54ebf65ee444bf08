-- What workers make of the seats that share the tiles, and what is left of it once they are joined.
use Rattle.std.proofs.Common.{◌≡◌, ◌↔◌, ℕ, zero, suc, ◌-◌, ◌<◌, ◌≤◌, All, true, Bool, List, [], ◌∷◌, ◌++◌, length, map, take, drop, get_or, Result, Option}
use Rattle.std.proofs.Common.{Some, None, refl, sym, ap, ◌∙◌, subst, inl, inr, ⊎_elim, arith}
use Rattle.std.specs.Prelude.{slice_get, slice_index_or, is_some, option_map, min}
use Rattle.std.specs.List.{range_with_len}
use Rattle.std.proofs.lemmas.List.{get_or-map, length-map}
use Rattle.std.proofs.lemmas.List.Elements.{All-map}
use Rattle.std.proofs.lemmas.List.FromFn.{get_or-map-range_with_len, length-map-range_with_len}
use Rattle.torus.specs.Shape.{tiles_of}
use Rattle.torus.specs.declared.step.Step.{Step}
use Rattle.lexer.specs.declared.fault.LineFault.{LineFault}
use Rattle.one_order.specs.Load.{Load}
use Rattle.one_order.specs.AbstractScripts.{AreFinished}
use Rattle.core_laws.specs.Core.{after, records_of, run_of}
use Rattle.core_laws.specs.Runs.{IsAcceptedLoad}
use Rattle.core_laws.specs.Machine.{Core, IsAfter, all_finished, core_after, core_after_load, shown}
use Rattle.core_laws.specs.Reported.{ReportsWell}
use Rattle.history.specs.Ended.{AreAllFinished}
use Rattle.history.specs.Groups.{GroupGoesOn, Owns}
use Rattle.history.specs.Known.{known}
use Rattle.history.proofs.Ends.{all_ended}
use Rattle.history.proofs.Groups.{away}
use Rattle.history.proofs.Runs.{known_away}
use Rattle.history.specs.Asking.{HasSeen}
use Rattle.history.specs.Ending.{Ended}
use Rattle.history.specs.Key.{ranges}
use Rattle.history.specs.Opening.{fresh}
use Rattle.history.specs.Seats.{Knowing, Origin, IsSeatOf, IsWhole}
use Rattle.worker_run.specs.Working.{HasTurned, HasWorked, EndsAs, Working}
use Rattle.worker_run.specs.declared.worker.End.{End}
use Rattle.worker_run.specs.declared.worker.End.TheVariants.{Held, Finished, Stopped}
use Rattle.report_lines.specs.Line.{text_of}
use Rattle.history.specs.Report.{report_of}
use Rattle.machine_core.specs.Loading.{HasLoaded}
use Rattle.command_run.specs.Workers.{HasDonePart, IsMadeByWorkers, IsOfEnded, IsTakenIn, IsWorkersText, LetsAll, crew, first_held, tiles_of_worker, new_worker}
use Rattle.command_run.proofs.Shares.{holder, holds_tiles, shares}

-- a tile is known where the state has it
some_there : {X : Type 0} (o : Option X) → is_some o ≡ true → (x : X) × (o ≡ Some x)
some_there None e = absurd (cc)
some_there (Some x) e = (x, refl)

some_mapped : {X Y : Type 0} (f : X → Y) (o : Option X) → is_some o ≡ true → is_some (option_map f o) ≡ true
some_mapped f None e = absurd (cc)
some_mapped f (Some x) e = refl

some_at : {X : Type 0} (xs : List X) (t : ℕ) → t < length xs → is_some (slice_get xs t) ≡ true
some_at [] t lt = absurd (omega (arith, lt))
some_at (x ∷ xs) zero lt = refl
some_at (x ∷ xs) (suc t) lt = some_at xs t (omega (arith, lt))

known_there : (load : Load) (run : List Step) (t : ℕ) → t < length (after load run).tiles → is_some (known load run t) ≡ true
unfolding known
known_there load run t lt = some_mapped _ (slice_get (after load run).tiles t) (some_at (after load run).tiles t lt)

shown_count : (c : Core) → length (shown c).answers ≡ length c.state.tiles
shown_count c = length-map (records_of c.state) _ ∙ length-map c.state.tiles _

mapped : {A B C : Type 0} (g : B → C) (f : A → B) (xs : List A) → map g (map f xs) ≡ map (λ x. g (f x)) xs
mapped g f [] = refl
mapped g f (x ∷ xs) = ap (λ l. g (f x) ∷ l) (mapped g f xs)

-- every machine that steps lead to reports well
abbrev pub ReportWell : Type 0
ReportWell = (l : Load) (steps : List Step) → IsAcceptedLoad l → ReportsWell (core_after_load l steps)

-- turns that a gate may have stopped, and never did
turned_on : (stops : Step → Type 0) (turns : ℕ) (v w : Knowing) → ((step : Step) → stops step → ⊥) → HasTurned stops turns v w → HasTurned (λ step. ⊥) turns v w
turned_on stops turns v w lets t = record {
  grew = t.grew;
  steps = t.steps;
  first = t.first;
  last = t.last;
  start = t.start;
  made = t.made;
  few = t.few;
  none = t.none;
  until = ⊎_elim (λ seen. inl seen) (λ other. ⊎_elim (λ all. inr (inl all)) (λ stopped. absurd (lets stopped.0 stopped.2)) other) t.until;
}

-- an end behind a gate that lets the worker begin and go on
ended_open : (holds : Type 0) (stops : Step → Type 0) (turns : ℕ) (v w : Knowing) (o : Option End) → (holds → ⊥) → ((step : Step) → stops step → ⊥)
    → EndsAs holds stops turns v o w → EndsAs ⊥ (λ step. ⊥) turns v o w
ended_open holds stops turns v w None begin lets e = e
ended_open holds stops turns v w (Some Held) begin lets e = absurd (begin e.0)
ended_open holds stops turns v w (Some Finished) begin lets e = (turned_on stops turns v w lets e.0, e.1, e.2)
ended_open holds stops turns v w (Some Stopped) begin lets e = (turned_on stops turns v w lets e.0, e.1)

-- what a worker does behind a gate that lets all is what it does behind none
pub worked_open : (holds : ℕ → Type 0) (stops : ℕ → Step → Type 0) (turns i : ℕ) (v w : Working) → LetsAll holds stops
    → HasWorked (holds i) (stops i) turns v w → HasWorked ⊥ (λ step. ⊥) turns v w
worked_open holds stops turns i v w lets h = (h.0, ended_open (holds i) (stops i) turns v.knows w.knows w.ended (lets.begin i) (lets.go_on i) h.1, h.2)

-- the turns behind any end of a worker that no gate holds back
turned_of : (stops : Step → Type 0) (turns : ℕ) (v w : Knowing) (o : Option End) → EndsAs ⊥ stops turns v o w → HasTurned stops turns v w
turned_of stops turns v w None e = absurd e
turned_of stops turns v w (Some Held) e = absurd e.0
turned_of stops turns v w (Some Finished) e = e.0
turned_of stops turns v w (Some Stopped) e = e.0

-- a worker before and after its turns, by the seat that has taken it in
pub record HasServed (f : Origin) (turns : ℕ) (tiles : List ℕ) (whole : Knowing) : Type 0 where
  pub before : Working
  pub behind : Working
  pub start : before ≡ new_worker (fresh f.table f.load tiles)
  pub worked : HasWorked ⊥ (λ step. ⊥) turns before behind
  pub taken : IsTakenIn behind.knows whole

module _ (f : Origin) (turns : ℕ) (tiles : List ℕ) (whole : Knowing) (s : HasServed f turns tiles whole) where
  abbrev w : Knowing
  w = s.behind.knows

  began : s.before.knows ≡ fresh f.table f.load tiles
  began = ap (λ (x : Working). x.knows) s.start

  same_tiles : w.tiles ≡ tiles
  same_tiles = ap (λ (k : Knowing). k.tiles) s.worked.0.0 ∙ ap (λ (k : Knowing). k.tiles) began

  same_load : w.load ≡ f.load
  same_load = ap (λ (k : Knowing). k.load) s.worked.0.0 ∙ ap (λ (k : Knowing). k.load) began

  -- its tiles are the seat's
  holds : (t : ℕ) → Owns tiles t → Owns whole.tiles t
  holds t o = s.taken.0 t (subst (λ (l : List ℕ). Owns l t) (sym same_tiles) o)

  module _ (ok : IsAcceptedLoad f.load) (report : ReportWell) (within : (t : ℕ) → Owns tiles t → t < tiles_of f.load.shape) where
    -- who saw the end in a beginning of the run still sees it
    still_ended : HasSeen w → AreAllFinished f.load whole.run
    still_ended seen =
        let t : ℕ = seen.some.0 in
        let owned = seen.some.1 in
        let lt = within t (subst (λ (l : List ℕ). Owns l t) same_tiles owned) in
        let shows = (report f.load w.run ok).shows.sizes.answerers in
        let count = shown_count (core_after_load f.load w.run) in
        let p = some_there (known f.load w.run t) (known_there f.load w.run t (omega (arith, lt, shows, count))) in
        let saw = seen.seen t p.0 owned (ap (λ (l : Load). known l w.run t) same_load ∙ p.1) in
        let later : known f.load whole.run t ≡ Some p.0 = ap (λ (r : List Step). known f.load r t) s.taken.1.1
        ∙ (known_away f.load ok w.run s.taken.1.0 t (away (w.tiles ∷ []) t s.taken.1.0 (inl owned) s.taken.1.2) ∙ p.1) in
        all_ended f.load ok whole.run t p.0 later saw

    turned : HasTurned (λ step. ⊥) turns s.before.knows w
    turned = turned_of (λ step. ⊥) turns s.before.knows w s.behind.ended s.worked.1

    done_part : HasDonePart f.load turns tiles whole.run
    done_part = record {
      first = s.before.knows;
      last = w;
      loaded = ap (λ (k : Knowing). k.load) began;
      empty = ap (λ (k : Knowing). k.run) began;
      holds = ap (λ (k : Knowing). k.tiles) began;
      turned = turned;
      all = λ unfinished. ⊎_elim (λ seen. absurd (unfinished (still_ended seen))) (λ other. ⊎_elim (λ e. e) (λ stopped. absurd stopped.2) other) turned.until;
      rest = subst (λ (l : List ℕ). GroupGoesOn (l ∷ []) whole.run w.run) same_tiles s.taken.1;
    }

-- workers after their turns are of the fabric that they were of
pub own_after : (f : Origin) (turns : ℕ) (old new : List Working) → length new ≡ length old → All (λ (w : Working). IsSeatOf f w.knows) old
    → ((i : ℕ) (d : Working) → i < length old → HasWorked ⊥ (λ step. ⊥) turns (slice_index_or old i d) (slice_index_or new i d))
    → All (λ (w : Working). IsSeatOf f w.knows) new
own_after f turns old new count own worked = λ i d lt.
    let within : i < length old = omega (arith, lt, count) in
    let before = own i d within in
    let grew = (worked i d within).0.0 in
    (ap (λ (k : Knowing). k.table) grew ∙ before.0, ap (λ (k : Knowing). k.load) grew ∙ before.1)

-- so many workers share n tiles, and a seat has taken in all of them
pub record IsCrew (f : Origin) (n count turns : ℕ) (whole : Knowing) : Type 0 where
  pub own : IsSeatOf f whole
  pub each : (j : ℕ) → j < count → HasServed f turns (tiles_of_worker n count j) whole

module _ (f : Origin) (n count : ℕ) where
  -- the seat of worker j
  abbrev pub seat_of : ℕ → Knowing
  seat_of j = fresh f.table f.load (tiles_of_worker n count j)

  -- the seats between the cuts are those of the workers
  pub seats_dealt : 0 < count → count ≤ n → (cuts : List ℕ) (tiles : ℕ) → cuts ≡ map (first_held n count) (range_with_len 1 (count - 1)) → n ≡ tiles
      → map (fresh f.table f.load) (ranges 0 cuts tiles) ≡ map seat_of (range_with_len 0 count)
  seats_dealt some few cuts tiles ec en =
      ap (λ (l : List (List ℕ)). map (fresh f.table f.load) l) ((λ i. ranges 0 (ec i) (sym en i)) ∙ shares n count some few)
      ∙ mapped (fresh f.table f.load) (tiles_of_worker n count) (range_with_len 0 count)

  pub seats_own : (seats : List Knowing) → seats ≡ map seat_of (range_with_len 0 count) → All (IsSeatOf f) seats
  seats_own seats es = subst (All (IsSeatOf f)) (sym es) (All-map (IsSeatOf f) seat_of (range_with_len 0 count) (λ k d lt. (refl, refl)))

  pub seats_count : (seats : List Knowing) → seats ≡ map seat_of (range_with_len 0 count) → length seats ≡ count
  seats_count seats es = ap length es ∙ length-map-range_with_len seat_of 0 count

  -- a worker begins with its seat
  pub worker_starts : (seats : List Knowing) (old : List Working) → seats ≡ map seat_of (range_with_len 0 count) → old ≡ map new_worker seats
      → (j : ℕ) (d : Working) → j < count → slice_index_or old j d ≡ new_worker (seat_of j)
  worker_starts seats old es eo j d lt =
      let k : Knowing = d.knows in
      let many : length seats ≡ count = seats_count seats es in
      ap (λ (l : List Working). slice_index_or l j d) eo
      ∙ (get_or-map new_worker seats j k d (omega (arith, lt, many))
      ∙ ap new_worker (ap (λ (l : List Knowing). get_or l j k) es ∙ get_or-map-range_with_len seat_of 0 count j j k lt (omega arith)))

module _ (f : Origin) (n count turns : ℕ) (whole : Knowing) where
  pub crew_made : (seats : List Knowing) (old new : List Working) → IsSeatOf f whole → seats ≡ map (seat_of f n count) (range_with_len 0 count)
      → old ≡ map new_worker seats → length new ≡ length old
      → ((i : ℕ) (d : Working) → i < length old → HasWorked ⊥ (λ step. ⊥) turns (slice_index_or old i d) (slice_index_or new i d))
      → All (λ (x : Working). IsTakenIn x.knows whole) new → IsCrew f n count turns whole
  crew_made seats old new own es eo en worked taken =
      let k : Knowing = fresh f.table f.load [] in
      let d : Working = new_worker k in
      let many : length seats ≡ count = seats_count f n count seats es in
      let olds : length old ≡ count = ap length eo ∙ length-map seats new_worker ∙ many in
      record {
        own = own;
        each = λ j lt. record {
          before = slice_index_or old j d;
          behind = slice_index_or new j d;
          start = worker_starts f n count seats old es eo j d lt;
          worked = worked j d (omega (arith, lt, olds));
          taken = taken j d (omega (arith, lt, olds, en));
        };
      }

  module _ (k : IsCrew f n count turns whole) (some : 0 < count) (few : count ≤ n) where
    -- every tile is the seat's
    pub crew_whole : tiles_of f.load.shape ≡ n → IsWhole whole
    crew_whole size = λ t lt.
        let shape : tiles_of whole.load.shape ≡ tiles_of f.load.shape = ap (λ (l : Load). tiles_of l.shape) k.own.1 in
        let h = holder n count some few t (omega (arith, lt, shape, size)) in
        holds f turns (tiles_of_worker n count h.0) whole (k.each h.0 h.1) t h.2

    -- each worker did its part
    crew_parts : tiles_of f.load.shape ≡ n → IsAcceptedLoad f.load → ReportWell → (j : ℕ) → j < count → HasDonePart f.load turns (tiles_of_worker n count j) whole.run
    crew_parts size ok report j lt =
        done_part f turns (tiles_of_worker n count j) whole (k.each j lt) ok report
        (λ t o. let below = holds_tiles n count some few j t lt o in omega (arith, below, size))

    -- what steps lead to, from either of two loads of one machine
    module _ (l : Load) (c : Core) (from : IsAfter l c []) (told : IsAfter f.load c []) (size : n ≡ tiles_of c.shape) (workers : ℕ)
        (hired : count ≡ min workers n) where
      crew_is : (tiles_of l.shape ≡ n) × (crew workers l ≡ count)
      crew_is =
          let same : tiles_of l.shape ≡ n = ap tiles_of (sym from.shape) ∙ sym size in
          (same, ap (min workers) same ∙ sym hired)

      pub made_by_workers : (end : Ended) → end ≡ record { load = whole.load; run = whole.run } → ReportWell
          → ((l : Load) (c : Core) (before steps : List Step) → IsAfter l c before → IsAfter l (core_after c steps) (before ++ steps))
          → ((l : Load) (c : Core) (steps : List Step) → IsAfter l c steps → c ≡ core_after_load l steps)
          → IsMadeByWorkers l workers turns end
      made_by_workers end is report lead named =
          let loaded : end.load ≡ f.load = ap (λ (e : Ended). e.load) is ∙ k.own.1 in
          let ran : end.run ≡ whole.run = ap (λ (e : Ended). e.run) is in
          let size' : tiles_of f.load.shape ≡ n = ap tiles_of (sym told.shape) ∙ sym size in
          let parts = crew_parts size' told.accepted report in
          let same = crew_is in
          record {
            alike = λ steps. ap (λ (x : Load). core_after_load x steps) loaded
                ∙ (sym (named f.load (core_after c steps) steps (lead f.load c [] steps told)) ∙ named l (core_after c steps) steps (lead l c [] steps from));
            each = λ j lt.
                subst (λ (p : ℕ × ℕ). HasDonePart end.load turns (tiles_of_worker p.0 p.1 j) end.run) (λ i. (sym same.0 i, sym same.1 i))
                (subst (λ (p : Load × List Step). HasDonePart p.0 turns (tiles_of_worker n count j) p.1) (λ i. (sym loaded i, sym ran i))
                (parts j (let e = same.1 in omega (arith, lt, e))));
          }

-- the report of what workers have made is that of a run of what was asked for
pub workers_printed : (asked : Result Load LineFault) (workers turns : ℕ) (start : Core) (end : Ended) (finished : Bool) (text : List ℕ)
    (loaded : HasLoaded asked start)
    → IsMadeByWorkers loaded.load workers turns end
    → ((l : Load) (steps : List Step) → IsAcceptedLoad l → IsAfter l (core_after_load l steps) steps)
    → ((l : Load) (c : Core) (steps : List Step) → IsAfter l c steps → (all_finished c.state ≡ true) ↔ AreFinished (run_of l steps) (length steps) l.scripts)
    → IsOfEnded end finished text → IsWorkersText asked workers turns finished text
workers_printed asked workers turns start end finished text loaded made leads ends printed =
    let l : Load = loaded.load in
    let same : core_after_load end.load end.run ≡ core_after_load l end.run = made.alike end.run in
    let after_run : IsAfter l (core_after_load l end.run) end.run = leads l end.run loaded.after.accepted in
    let value : finished ≡ all_finished (after l end.run) = printed.value ∙ ap (λ (x : Core). all_finished x.state) same in
    record {
      load = l;
      read = loaded.read;
      end = end;
      made = made;
      is = printed.is ∙ ap (λ (x : Core). text_of (report_of x.shape x.opening (shown x) [] (all_finished x.state))) same;
      good = printed.good;
      lawful = after_run.lawful;
      value = value;
      ended = subst (λ (b : Bool). (b ≡ true) ↔ AreFinished (run_of l end.run) (length end.run) l.scripts) (sym value)
          (ends l (core_after_load l end.run) end.run after_run);
    }
