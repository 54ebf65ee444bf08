-- A machine that is handed a line stands where its moves lead from the load with that line.
use Rattle.std.proofs.Common.{◌≡◌, ℕ, zero, suc, ◌+◌, ◌*◌, ◌<◌, List, [], ◌∷◌, ◌++◌, length, map, Option, Some, None, refl, sym, ◌∙◌, ap, subst, arith, append_assoc}
use Rattle.std.proofs.Common.{slice_set}
use Rattle.std.proofs.lemmas.List.{append-nil, length-map}
use Rattle.std.proofs.lemmas.List.Sums.{sum_by_push}
use Rattle.std.proofs.lemmas.Option.{slice_get_within}
use Rattle.torus.specs.Shape.{tiles_of, dims_of}
use Rattle.torus.specs.declared.step.Step.{Step}
use Rattle.script_lines.specs.declared.line.Line.{Line}
use Rattle.script_lines.specs.Lines.{operations_of, operation_count, script_of}
use Rattle.one_order.specs.EventBook.{EventBook, first_book}
use Rattle.core_laws.specs.Core.{Load, State, design_of, first_state, first_tile, step, after, after_from}
use Rattle.core_laws.specs.Runs.{IsAcceptedLoad}
use Rattle.core_laws.specs.ProgressMoves.{moves_made, moves_left}
use Rattle.core_laws.proofs.Budget.{few_moves}
use Rattle.core_laws.specs.Machine.{Core, IsAfter, built_to, event_in, book_from, book_after, core_after_load, core_with, core_next}
use Rattle.core_laws.proofs.Counted.{left_is}
use Rattle.core_laws.proofs.Machines.{named_machine, stands_after, after_step}
use Rattle.core_laws.specs.Enabled.{ahead_if_moved, enabled_of}
use Rattle.core_laws.specs.MachineMoves.{moves_of, moves_from}
use Rattle.core_laws.proofs.StepLists.{load_count, load_again, load_stands, machine_further, machine_of}
use Rattle.core_laws.specs.Appended.{changed_at, state_with, appended, load_with, IsUnreported}
use Rattle.core_laws.specs.Doings.{Doing, Tries, Appends, core_done, load_grown, moves_done, MayBeDone}
use Rattle.core_laws.proofs.Loads.{state_first, most_with, accepted_with}
use Rattle.core_laws.proofs.GrowthRuns.{Follows, follows}

-- what the scripts allow
allowed_at : (line : Line) (scripts : List (List Line)) (p : ℕ)
    → map operation_count (slice_set scripts p (script_of scripts p ++ line ∷ []))
    ≡ changed_at (λ n. n + operations_of line) (map operation_count scripts) p
allowed_at line [] p = refl
allowed_at line (lines ∷ scripts) zero =
    ap (λ n. n ∷ map operation_count scripts) (sum_by_push operations_of lines line)
allowed_at line (lines ∷ scripts) (suc p) = ap (λ ns. operation_count lines ∷ ns) (allowed_at line scripts p)

pub allowed_with : (l : Load) (p : ℕ) (line : Line)
    → map operation_count (load_with l p line).scripts
    ≡ changed_at (λ n. n + operations_of line) (map operation_count l.scripts) p
allowed_with l p line = allowed_at line l.scripts p

-- a machine of a load whose scripts allow so many operations each
abbrev machine_by : Load → List ℕ → State → EventBook → ℕ → Core
machine_by l allowed s g left = record {
  shape = l.shape;
  depth = l.depth;
  tags = l.tags;
  opening = l.opening;
  allowed = allowed;
  state = s;
  book = g;
  moves_left = left;
}

module _ (l : Load) (steps : List Step) (p : ℕ) (line : Line) (un : IsUnreported (after l steps) p) where
  followed : Follows (design_of l) p line (first_state l) (first_book (tiles_of l.shape)) (moves_of l steps)
      (after l steps) (book_after l steps)
  followed = follows (design_of l) p line (first_state l) (first_book (tiles_of l.shape)) steps un

  pub moves_again : moves_of (load_with l p line) (moves_of l steps) ≡ moves_of l steps
  moves_again =
      ap (λ (s : State). enabled_of (step (design_of l)) s (moves_of l steps)) (state_first l p line) ∙ followed.moves

  pub state_again : after (load_with l p line) (moves_of l steps) ≡ state_with (after l steps) p line
  state_again =
      ap (λ (s : State). after_from (design_of l) s (moves_of l steps)) (state_first l p line) ∙ followed.state

  book_again : book_after (load_with l p line) (moves_of l steps) ≡ book_after l steps
  book_again =
      ap (λ (s : State). book_from (design_of l) s (first_book (tiles_of l.shape)) (moves_of l steps))
      (state_first l p line) ∙ followed.book

  -- the processor is there
  pub there : p < length l.scripts
  there =
      let at = slice_get_within (first_state l).tiles p followed.unreported.tile followed.unreported.there in
      let long = length-map l.scripts (first_tile (dims_of l.shape) l.tags) in
      omega (arith, at, long)

  left_again : IsAcceptedLoad l
      → moves_left (load_with l p line) (moves_of l steps) (length (moves_of l steps))
      ≡ moves_left l steps (length steps) + 241 * operations_of line
  left_again ok =
      let ours = left_is (load_with l p line) (moves_of l steps) in
      let theirs = left_is l steps in
      let few = few_moves l ok steps in
      let made : moves_made (load_with l p line) (moves_of l steps) ≡ moves_made l steps =
      sym (load_count (load_with l p line) (moves_of l steps))
      ∙ (ap (λ (xs : List Step). length xs) moves_again ∙ load_count l steps) in
      let most = most_with l p line there in
      omega (arith, ours, theirs, few, made, most)

  machine_again : IsAcceptedLoad l
      → appended (core_after_load l steps) p line ≡ core_after_load (load_with l p line) (moves_of l steps)
  machine_again ok =
      let longer : Load = load_with l p line in
      let left : ℕ = moves_left l steps (length steps) + 241 * operations_of line in
      ap (λ (ns : List ℕ). machine_by l ns (state_with (after l steps) p line) (book_after l steps) left) (sym (allowed_with l p line))
      ∙ (ap (λ (s : State). machine_of longer s (book_after l steps) left) (sym state_again)
      ∙ (ap (λ (g : EventBook). machine_of longer (after longer (moves_of l steps)) g left) (sym book_again)
      ∙ ap (λ (n : ℕ). machine_of longer (after longer (moves_of l steps)) (book_after longer (moves_of l steps)) n)
      (sym (left_again ok))))

-- the law
pub grown : (l : Load) (c : Core) (steps : List Step) (p : ℕ) (line : Line) → IsAfter l c steps → IsUnreported c.state p
    → IsAcceptedLoad (load_with l p line)
    → IsAfter (load_with l p line) (appended c p line) (moves_of l steps)
grown l c steps p line h un ok =
    let un_after : IsUnreported (after l steps) p = subst (λ (s : State). IsUnreported s p) h.state un in
    subst (λ (x : Core). IsAfter (load_with l p line) x (moves_of l steps))
    (sym (ap (λ (x : Core). appended x p line) (named_machine l c steps h)
    ∙ machine_again l steps p line un_after h.accepted))
    (stands_after (load_with l p line) (moves_of l steps) ok)

-- attempts and lines in any order
record Grown (l : Load) (c : Core) (ms : List Step) (doings : List Doing) : Type 0 where
  stands : IsAfter (load_grown l doings) (core_done c doings) (ms ++ moves_done c doings)
  moves : moves_of (load_grown l doings) (ms ++ moves_done c doings) ≡ ms ++ moves_done c doings

with_try : (l : Load) (c : Core) (ms : List Step) (attempt : Step) (doings : List Doing) (o : Option State)
    → step (built_to c) c.state attempt ≡ o
    → IsAfter l c ms → moves_of l ms ≡ ms
    → ((ns : List Step) → IsAfter l (core_next c attempt) ns → moves_of l ns ≡ ns
    → Grown l (core_next c attempt) ns doings)
    → IsAfter (load_grown l doings) (core_done (core_next c attempt) doings)
    (ms ++ ahead_if_moved attempt o (moves_done (core_next c attempt) doings))
    × (moves_of (load_grown l doings) (ms ++ ahead_if_moved attempt o (moves_done (core_next c attempt) doings)) ≡ ms
    ++ ahead_if_moved attempt o (moves_done (core_next c attempt) doings))
with_try l c ms attempt doings None is h own rest =
    let stays : core_next c attempt ≡ c = ap (core_with c (event_in (built_to c) c.state attempt)) is in
    let g = rest ms (subst (λ (x : Core). IsAfter l x ms) (sym stays) h) own in
    (g.stands, g.moves)
with_try l c ms attempt doings (Some t) is h own rest =
    let further : moves_of l (ms ++ attempt ∷ []) ≡ ms ++ attempt ∷ [] =
    machine_further l c ms (attempt ∷ []) h
    ∙ (ap (λ (xs : List Step). xs ++ moves_from c (attempt ∷ [])) own
    ∙ ap (λ (o : Option State). ms ++ ahead_if_moved attempt o []) is) in
    let g = rest (ms ++ attempt ∷ []) (after_step l c ms attempt h) further in
    let same : (ms ++ attempt ∷ []) ++ moves_done (core_next c attempt) doings ≡ ms ++ attempt
    ∷ moves_done (core_next c attempt) doings =
    append_assoc ms (attempt ∷ []) (moves_done (core_next c attempt) doings) in (
      subst (IsAfter (load_grown l doings) (core_done (core_next c attempt) doings)) same g.stands,
      subst (λ (xs : List Step). moves_of (load_grown l doings) xs ≡ xs) same g.moves,
    )

doings_grow : (l : Load) (c : Core) (ms : List Step) (doings : List Doing) → IsAfter l c ms → moves_of l ms ≡ ms
    → MayBeDone l c doings → Grown l c ms doings
doings_grow l c ms [] h own may = record {
  stands = subst (IsAfter l c) (sym (append-nil ms)) h;
  moves = subst (λ (xs : List Step). moves_of l xs ≡ xs) (sym (append-nil ms)) own;
}
doings_grow l c ms (Tries attempt ∷ doings) h own may =
    let g = with_try l c ms attempt doings (step (built_to c) c.state attempt) refl h own
    (λ ns h own. doings_grow l (core_next c attempt) ns doings h own may) in
    record { stands = g.0; moves = g.1 }
doings_grow l c ms (Appends p line ∷ doings) h own may =
    let un_after : IsUnreported (after l ms) p = subst (λ (s : State). IsUnreported s p) h.state may.0 in
    let then : IsAfter (load_with l p line) (appended c p line) ms =
    subst (IsAfter (load_with l p line) (appended c p line)) own
    (grown l c ms p line h may.0 (accepted_with l p line h.accepted may.1)) in
    let still : moves_of (load_with l p line) ms ≡ ms =
    subst (λ (xs : List Step). moves_of (load_with l p line) xs ≡ xs) own (moves_again l ms p line un_after) in
    let g = doings_grow (load_with l p line) (appended c p line) ms doings then still may.2 in
    record { stands = g.stands; moves = g.moves }

pub all_grown : (l : Load) (c : Core) (steps : List Step) (doings : List Doing) → IsAfter l c steps
    → MayBeDone l c doings
    → IsAfter (load_grown l doings) (core_done c doings) (moves_of l steps ++ moves_done c doings)
all_grown l c steps doings h may =
    (doings_grow l c (moves_of l steps) doings (load_stands l c steps h) (load_again l steps) may).stands

pub all_moves_again : (l : Load) (c : Core) (steps : List Step) (doings : List Doing) → IsAfter l c steps
    → MayBeDone l c doings
    → moves_of (load_grown l doings) (moves_of l steps ++ moves_done c doings) ≡ moves_of l steps ++ moves_done c doings
all_moves_again l c steps doings h may =
    (doings_grow l c (moves_of l steps) doings (load_stands l c steps h) (load_again l steps) may).moves

pub from_load : (l : Load) (doings : List Doing) → IsAcceptedLoad l → MayBeDone l (core_after_load l []) doings
    → IsAfter (load_grown l doings) (core_done (core_after_load l []) doings) (moves_done (core_after_load l []) doings)
from_load l doings ok may = all_grown l (core_after_load l []) [] doings (stands_after l [] ok) may
