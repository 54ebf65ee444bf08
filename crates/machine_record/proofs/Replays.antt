-- A record of one action more makes the machine that the action leads to.
use Rattle.std.proofs.Common.{◌≡◌, ℕ, zero, suc, ◌+◌, ◌%◌, ◌<◌, ◌≤◌, nat_lt, Bool, true, false, not, ◌&&◌, List, [], ◌∷◌, ◌++◌, length, Option, Some, None, Result, Ok, Err, refl, sym, ◌∙◌, ap, arith, take, slice_get}
use Rattle.std.specs.Prelude.{if◌then◌else◌, filter, is_some, option_and_then}
use Rattle.std.specs.List.{flat_map, range_with_len}
use Rattle.std.specs.Str.Lines.{lines}
use Rattle.std.proofs.lemmas.Bool.{leb-true, lt-ltb}
use Rattle.std.proofs.lemmas.List.{take_more}
use Rattle.std.proofs.lemmas.Option.{slice_get_within, get_or_from_slice_get}
use Rattle.torus.specs.Shape.{Shape, dims_of, tiles_of}
use Rattle.torus.specs.declared.fault.Fault.{Fault}
use Rattle.torus.specs.declared.fault.Fault.TheVariants as fault
use Rattle.torus.specs.declared.step.Step.{Step}
use Rattle.torus.specs.declared.step.Stepped.{Stepped}
use Rattle.torus.specs.declared.step.Stepped.TheVariants.{Moved, Idle}
use Rattle.channel_number.specs.Ports.{port_count}
use Rattle.lexer.specs.declared.fault.LineFault.{LineFault}
use Rattle.script_lines.specs.declared.line.Line.{Line as ScriptLine}
use Rattle.script_lines.specs.declared.line.Line.TheVariants as line
use Rattle.machine_parts.specs.Core.{Load, State, round, step}
use Rattle.one_order.specs.Scripts.{address_of}
use Rattle.machine_parts.specs.Handed.{has_loads, is_word, refused}
use Rattle.machine_parts.specs.Machine.{Core, Steps, built_to, core_after, core_next, core_with, event_in, machine_told}
use Rattle.machine_core.specs.Loading.{load_by}
use Rattle.machine_core.specs.Rounds.{rounds_of}
use Rattle.machine_core.specs.Clocked.{clocked_round, clocked_rounds, turned_at}
use Rattle.machine_core.proofs.Finishing.{rounds_push}
use Rattle.machine_core.proofs.Rounds.{core_append, same_shape}
use Rattle.machine_asked.specs.Asked.{Asked, asked_in, fair_made, fair_rounds_made}
use Rattle.machine_record.specs.declared.action.Action.{Action}
use Rattle.machine_record.specs.declared.action.Action.TheVariants.{Move, Rounds, Line, Clocked, ClockedRounds, FairRounds, Turned}
use Rattle.machine_record.specs.declared.row.LineRow.{LineRow}
use Rattle.machine_record.specs.Action.{action_number, action_of, is_narrow, turn_behind, turns_told}
use Rattle.machine_record.specs.Row.{line_of_row, row_of_line}
use Rattle.machine_record.specs.Recording.{Recording}
use Rattle.machine_record.specs.Machine.{with_row}
use Rattle.machine_record.specs.Replay.{acted, acted_by, clocked_made, clocked_rounds_made, if_moved, if_taken, loaded, made_by, machine_moved, replayed, replayed_from, rounds_made, row_handed, turned_made, with_line}
use Rattle.machine_record.specs.Replayed.{ComesInTurn}
use Rattle.machine_record.proofs.Actions.{number_back}
use Rattle.machine_record.specs.Widths.{HasFewLoads}
use Rattle.machine_record.proofs.Lines.{line_back, processor_of}

-- an action more
pub both_from : (rows : List LineRow) (o : Option Asked) (xs ys : List ℕ) (w u : Asked)
    → ((y : Asked) → replayed rows y xs ≡ Some w → replayed rows y ys ≡ Some u)
    → option_and_then (λ y. replayed rows y xs) o ≡ Some w → option_and_then (λ y. replayed rows y ys) o ≡ Some u
both_from rows None xs ys w u rest h = absurd (cc)
both_from rows (Some y) xs ys w u rest h = rest y h

pub replayed_push : (rows : List LineRow) (v : Asked) (xs : List ℕ) (n : ℕ) (w u : Asked) → replayed rows v xs ≡ Some w → acted_by rows w n ≡ Some u
    → replayed rows v (xs ++ n ∷ []) ≡ Some u
replayed_push rows v [] n w u h last =
    let same : v ≡ w = cc in
    ap (λ (x : Asked). option_and_then (λ y. Some y) (acted_by rows x n)) same ∙ ap (λ (o : Option Asked). option_and_then (λ y. Some y) o) last
replayed_push rows v (x ∷ xs) n w u h last =
    both_from rows (acted_by rows v x) xs (xs ++ n ∷ []) w u (λ y came. replayed_push rows y xs n w u came last) h

-- further lines
there_too : {X : Type 0} (xs ys : List X) (k : ℕ) (x : X) → slice_get xs k ≡ Some x → slice_get (xs ++ ys) k ≡ Some x
there_too [] ys k x h = absurd (cc)
there_too (z ∷ xs) ys zero x h = h
there_too (z ∷ xs) ys (suc k) x h = there_too xs ys k x h

pub last_there : {X : Type 0} (xs : List X) (x : X) → slice_get (xs ++ x ∷ []) (length xs) ≡ Some x
last_there [] x = refl
last_there (z ∷ xs) x = last_there xs x

row_there : (rows more : List LineRow) (v : Asked) (k : ℕ) (w : Asked) (o : Option LineRow) → slice_get rows k ≡ o
    → option_and_then (row_handed v) o ≡ Some w → option_and_then (row_handed v) (slice_get (rows ++ more) k) ≡ Some w
row_there rows more v k w None is h = absurd (cc)
row_there rows more v k w (Some row) is h = ap (option_and_then (row_handed v)) (there_too rows more k row is) ∙ h

acted_grown : (rows more : List LineRow) (v : Asked) (a : Action) (w : Asked) → acted rows v a ≡ Some w → acted (rows ++ more) v a ≡ Some w
acted_grown rows more v (Move s) w h = h
acted_grown rows more v (Rounds k) w h = h
acted_grown rows more v (Line k) w h = row_there rows more v k w (slice_get rows k) refl h
acted_grown rows more v (Clocked k) w h = h
acted_grown rows more v (ClockedRounds k) w h = h
acted_grown rows more v (FairRounds k) w h = h
acted_grown rows more v (Turned turns) w h = h

acted_by_grown : (rows more : List LineRow) (v : Asked) (o : Option Action) (w : Asked) → option_and_then (acted rows v) o ≡ Some w
    → option_and_then (acted (rows ++ more) v) o ≡ Some w
acted_by_grown rows more v None w h = absurd (cc)
acted_by_grown rows more v (Some a) w h = acted_grown rows more v a w h

grown_first : (rows more : List LineRow) (o p : Option Asked) (xs : List ℕ) (w : Asked) → ((y : Asked) → o ≡ Some y → p ≡ Some y)
    → ((y : Asked) → replayed rows y xs ≡ Some w → replayed (rows ++ more) y xs ≡ Some w)
    → option_and_then (λ y. replayed rows y xs) o ≡ Some w → option_and_then (λ y. replayed (rows ++ more) y xs) p ≡ Some w
grown_first rows more None p xs w first rest h = absurd (cc)
grown_first rows more (Some y) p xs w first rest h = ap (option_and_then (λ z. replayed (rows ++ more) z xs)) (first y refl) ∙ rest y h

pub replayed_grown : (rows more : List LineRow) (v : Asked) (xs : List ℕ) (w : Asked) → replayed rows v xs ≡ Some w
    → replayed (rows ++ more) v xs ≡ Some w
replayed_grown rows more v [] w h = h
replayed_grown rows more v (x ∷ xs) w h =
    grown_first rows more (acted_by rows v x) (acted_by (rows ++ more) v x) xs w (λ y is. acted_by_grown rows more v (action_of x) y is)
    (λ y came. replayed_grown rows more y xs w came) h

-- an action that has a number
pub acts : (rows : List LineRow) (v w : Asked) (a : Action) → is_narrow a ≡ true → acted rows v a ≡ Some w → acted_by rows v (action_number a) ≡ Some w
acts rows v w a narrow h = ap (option_and_then (acted rows v)) (number_back a narrow) ∙ h

-- a record with one line more
line_from_load : (r : Recording) (p : ℕ) (first : ScriptLine) (v w : Asked) (x : Result Load LineFault) → replayed_from r x ≡ Some v
    → acted_by (r.rows ++ row_of_line p first ∷ []) v (action_number (Line (length r.rows))) ≡ Some w → replayed_from (with_row p first r) x ≡ Some w
line_from_load r p first v w (Err e) h last = absurd (cc)
line_from_load r p first v w (Ok l) h last =
    replayed_push (r.rows ++ row_of_line p first ∷ []) (loaded l) r.actions (action_number (Line (length r.rows))) v w
    (replayed_grown r.rows (row_of_line p first ∷ []) (loaded l) r.actions v h) last

-- a line that is taken has few loads
third : (x y z : Bool) (f g h : Fault) (rest : Option Fault)
    → (if not x then Some f else (if not y then Some g else (if not z then Some h else rest))) ≡ None → z ≡ true
third true true true f g h rest e = refl
third true true false f g h rest e = absurd (cc)
third true false z f g h rest e = absurd (cc)
third false y z f g h rest e = absurd (cc)

second_of_both : (a b : Bool) → (a && b) ≡ true → b ≡ true
second_of_both true b h = h
second_of_both false b h = absurd (cc)

loads_of : (first : ScriptLine) → has_loads first ≡ true → HasFewLoads first
loads_of (line.Load a) h = tt
loads_of (line.Store a v) h = tt
loads_of (line.Swap a v) h = tt
loads_of (line.Cas a v w) h = tt
loads_of (line.Add a v) h = tt
loads_of (line.And a v) h = tt
loads_of (line.Or a v) h = tt
loads_of (line.Xor a v) h = tt
loads_of (line.Max a v) h = tt
loads_of (line.Min a v) h = tt
loads_of line.Fence h = tt
loads_of (line.Spin a v m) h = let most : m ≤ 4096 = leb-true m 4096 (second_of_both _ _ h) in omega (arith, most)

few_loads : (c : Core) (p : ℕ) (first : ScriptLine) → refused c p first ≡ None → HasFewLoads first
few_loads c p first none =
    loads_of first
    (third (nat_lt p (length c.allowed)) (is_word (length c.opening) (address_of first)) (has_loads first) fault.Processor fault.Address fault.Range _ none)

-- the row of a line that is taken
pub row_taken : (v : Asked) (p : ℕ) (first : ScriptLine) → refused v.core p first ≡ None → row_handed v (row_of_line p first) ≡ Some (with_line v p first)
row_taken v p first none =
    ap (λ (q : ℕ). option_and_then (λ line. if_taken (refused v.core q line) (with_line v q line)) (line_of_row (row_of_line p first))) (processor_of p first)
    ∙ (ap (option_and_then (λ line. if_taken (refused v.core p line) (with_line v p line))) (line_back p first (few_loads v.core p first none))
    ∙ ap (λ (o : Option Fault). if_taken o (with_line v p first)) none)

pub made_line : (r : Recording) (p : ℕ) (first : ScriptLine) (v : Asked) → length r.rows < 268435456 → made_by r ≡ Some v → refused v.core p first ≡ None
    → made_by (with_row p first r) ≡ Some (with_line v p first)
made_line r p first v few h none =
    let rows : List LineRow = r.rows ++ row_of_line p first ∷ [] in
    let there : acted rows v (Line (length r.rows)) ≡ Some (with_line v p first) =
    ap (option_and_then (row_handed v)) (last_there r.rows (row_of_line p first)) ∙ row_taken v p first none in
    line_from_load r p first v (with_line v p first) (load_by (lines r.machine) (lines r.scripts)) h
    (acts rows v (with_line v p first) (Line (length r.rows)) (lt-ltb (length r.rows) 268435456 few) there)

-- what a step comes to
pub moved_is : (v w : Asked) (stepped : Stepped) (attempt : Step) → Steps v.core w.core stepped attempt → w.spins ≡ v.spins → w.guard ≡ v.guard → stepped ≡ Moved
    → machine_moved v attempt ≡ Some w
moved_is v w stepped attempt h spins guard is =
    ap (λ (t : Stepped). if_moved t (asked_in v (core_next v.core attempt))) (sym h.result ∙ is)
    ∙ (λ i. Some (record { core = sym h.change i; spins = sym spins i; guard = sym guard i }))

idle_none : (o : Option State) → Idle ≡ machine_told o → o ≡ None
idle_none None e = refl
idle_none (Some s) e = absurd (cc)

pub idle_is : (v w : Asked) (stepped : Stepped) (attempt : Step) → Steps v.core w.core stepped attempt → w.spins ≡ v.spins → w.guard ≡ v.guard → stepped ≡ Idle → w ≡ v
idle_is v w stepped attempt h spins guard is =
    let none : step (built_to v.core) v.core.state attempt ≡ None = idle_none _ (sym is ∙ h.result) in
    let same : w.core ≡ v.core = h.change ∙ ap (core_with v.core (event_in (built_to v.core) v.core.state attempt)) none in
    λ i. record { core = same i; spins = spins i; guard = guard i }

pub idle_undone : (v w : Asked) (stepped : Stepped) (attempt : Step) → Steps v.core w.core stepped attempt → stepped ≡ Idle → machine_moved v attempt ≡ None
idle_undone v w stepped attempt h is = ap (λ (t : Stepped). if_moved t (asked_in v (core_next v.core attempt))) (sym h.result ∙ is)

-- rounds
pub rounds_is : (v w : Asked) (k : ℕ) → w.core ≡ core_after v.core (rounds_of v.core.shape k) → w.spins ≡ v.spins → w.guard ≡ v.guard → rounds_made v k ≡ w
rounds_is v w k state spins guard = λ i. record { core = sym state i; spins = sym spins i; guard = sym guard i }

-- a round more
pub round_more : (start now next : Asked) (k : ℕ) → now ≡ rounds_made start k → next.core ≡ core_after now.core (round now.core.shape)
    → next.spins ≡ now.spins → next.guard ≡ now.guard → next ≡ rounds_made start (k + 1)
round_more start now next k so_far is spins guard =
    let core : next.core ≡ core_after start.core (rounds_of start.core.shape (k + 1)) =
    is
    ∙ (ap (λ (s : Shape). core_after now.core (round s))
    (ap (λ (x : Asked). x.core.shape) so_far ∙ same_shape start.core (rounds_of start.core.shape k))
    ∙ (ap (λ (x : Asked). core_after x.core (round start.core.shape)) so_far
    ∙ (sym (core_append start.core (rounds_of start.core.shape k) (round start.core.shape))
    ∙ ap (core_after start.core) (sym (rounds_push start.core.shape k))))) in
    let flags : next.spins ≡ start.spins = spins ∙ ap (λ (x : Asked). x.spins) so_far in
    let seen : next.guard ≡ start.guard = guard ∙ ap (λ (x : Asked). x.guard) so_far in
    λ i. record { core = core i; spins = flags i; guard = seen i }

-- a clocked round of one turn is that of another, where the puts begin at the same input
pub clocked_is : (v w : Asked) (turn k : ℕ) → k % port_count (dims_of v.core.shape) ≡ turn % port_count (dims_of v.core.shape)
    → w.core ≡ core_after v.core (clocked_round v.core turn) → w.spins ≡ v.spins → w.guard ≡ v.guard → clocked_made v k ≡ w
clocked_is v w turn k same state spins guard =
    let ports : ℕ = port_count (dims_of v.core.shape) in
    let core : core_after v.core (clocked_round v.core k) ≡ w.core =
    ap (λ (n : ℕ). core_after v.core (filter (λ a. is_some (step (built_to v.core) v.core.state a)) (flat_map (turned_at ports n) (range_with_len 0 (tiles_of v.core.shape))))) same
    ∙ sym state in
    λ i. record { core = core i; spins = sym spins i; guard = sym guard i }

-- a turn that is told begins at the input at which the whole one does
pub same_input : (turn dims : ℕ) → 1 ≤ dims → dims ≤ 3 → turn_behind (turn % turns_told) 0 % port_count dims ≡ turn % port_count dims
same_input turn zero low high = absurd (omega (arith, low))
same_input turn (suc zero) low high = omega arith
same_input turn (suc (suc zero)) low high = omega arith
same_input turn (suc (suc (suc zero))) low high = omega arith
same_input turn (suc (suc (suc (suc n)))) low high = absurd (omega (arith, high))

-- a clocked round more of those in a row
pub turned_next : (start now next : Asked) (first k turn : ℕ) → now ≡ turned_made start first k → turn ≡ turn_behind first k
    → next.core ≡ core_after now.core (clocked_round now.core turn) → next.spins ≡ now.spins → next.guard ≡ now.guard
    → next ≡ turned_made start first (k + 1)
turned_next start now next first k turn so_far goes is spins guard =
    let more : suc k ≡ k + 1 = omega arith in
    let made : next ≡ clocked_made now turn = λ i. record { core = is i; spins = spins i; guard = guard i } in
    made ∙ ((λ i. clocked_made (so_far i) (goes i)) ∙ ap (turned_made start first) more)

-- clocked rounds
pub clocked_rounds_are : (v w : Asked) (k : ℕ) → w.core ≡ core_after v.core (clocked_rounds v.core k) → w.spins ≡ v.spins → w.guard ≡ v.guard → clocked_rounds_made v k ≡ w
clocked_rounds_are v w k state spins guard = λ i. record { core = sym state i; spins = sym spins i; guard = sym guard i }

-- a clocked round more
pub clocked_more : (start now next : Asked) (k : ℕ) → now ≡ clocked_rounds_made start k → next.core ≡ core_after now.core (clocked_round now.core k)
    → next.spins ≡ now.spins → next.guard ≡ now.guard → next ≡ clocked_rounds_made start (k + 1)
clocked_more start now next k so_far is spins guard =
    let made : List Step = clocked_rounds start.core k in
    let more : suc k ≡ k + 1 = omega arith in
    let core : next.core ≡ core_after start.core (clocked_rounds start.core (k + 1)) =
    is
    ∙ (ap (λ (x : Asked). core_after x.core (clocked_round x.core k)) so_far
    ∙ (sym (core_append start.core made (clocked_round (core_after start.core made) k))
    ∙ ap (λ (n : ℕ). core_after start.core (clocked_rounds start.core n)) more)) in
    let flags : next.spins ≡ start.spins = spins ∙ ap (λ (x : Asked). x.spins) so_far in
    let seen : next.guard ≡ start.guard = guard ∙ ap (λ (x : Asked). x.guard) so_far in
    λ i. record { core = core i; spins = flags i; guard = seen i }

-- a fair round more
pub fair_more : (start now next : Asked) (k : ℕ) → now ≡ fair_rounds_made start k → next ≡ fair_made now → next ≡ fair_rounds_made start (k + 1)
fair_more start now next k so_far is =
    let more : suc k ≡ k + 1 = omega arith in
    is ∙ (ap fair_made so_far ∙ ap (fair_rounds_made start) more)

-- an action more of those that are done
pub done_more : (rows : List LineRow) (v w u : Asked) (numbers : List ℕ) (k number : ℕ) → replayed rows v (take k numbers) ≡ Some w
    → Some number ≡ slice_get numbers k → acted_by rows w number ≡ Some u → replayed rows v (take (k + 1) numbers) ≡ Some u
done_more rows v w u numbers k number came there acted =
    ap (replayed rows v)
    (take_more numbers k number (slice_get_within numbers k number (sym there))
    ∙ ap (λ (x : ℕ). take k numbers ++ x ∷ []) (get_or_from_slice_get numbers k number number (sym there)))
    ∙ replayed_push rows v (take k numbers) number w u came acted

-- an action that can be done
pub came_true : (wanted : Option Asked) (new : Asked) (b : Bool) → b ≡ true → ComesInTurn wanted new b → wanted ≡ Some new
came_true wanted new true is h = h
came_true wanted new false is h = absurd (cc)
