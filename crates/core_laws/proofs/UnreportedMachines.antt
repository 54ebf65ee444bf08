-- A machine of which the reports are taken back.
use Rattle.std.proofs.Common.{◌≡◌, ℕ, zero, suc, ◌+◌, ◌<◌, List, [], ◌∷◌, ◌++◌, map, length, Some, refl, sym, ◌∙◌, ap, subst, arith, slice_get, slice_set}
use Rattle.std.specs.Prelude.{sum_by}
use Rattle.std.proofs.lemmas.List.{take_all}
use Rattle.std.proofs.lemmas.List.Sums.{sum_by-cons}
use Rattle.torus.specs.Shape.{tiles_of, dims_of}
use Rattle.torus.specs.declared.step.Step.{Step}
use Rattle.script_lines.specs.declared.line.Line.{Line}
use Rattle.one_order.specs.EventBook.{EventBook, first_book}
use Rattle.core_laws.specs.Tile.{TileState}
use Rattle.core_laws.specs.Core.{Load, State, design_of, first_state, first_tile, step, next, after, after_from}
use Rattle.core_laws.specs.Runs.{IsAcceptedLoad}
use Rattle.core_laws.proofs.AskedFor.{bank_asked}
use Rattle.core_laws.proofs.EveryRun.{holds_in}
use Rattle.core_laws.specs.ProgressMoves.{moves_made, moves_left}
use Rattle.core_laws.proofs.Budget.{few_moves}
use Rattle.core_laws.proofs.Made.{after_push}
use Rattle.core_laws.specs.Machine.{Core, IsAfter, book_from, book_after, core_after_load}
use Rattle.core_laws.proofs.Counted.{left_is}
use Rattle.core_laws.proofs.Machines.{named_machine, stands_after}
use Rattle.core_laws.specs.Enabled.{enabled_of}
use Rattle.core_laws.specs.MachineMoves.{moves_of}
use Rattle.core_laws.proofs.StepLists.{load_count, machine_of}
use Rattle.core_laws.specs.Appended.{appended, load_with, IsUnreported, MayFollow}
use Rattle.core_laws.proofs.Loads.{accepted_with}
use Rattle.core_laws.proofs.GrowthMachines.{grown}
use Rattle.core_laws.specs.Reopened.{tile_open, state_open, marks, reports_in, reopened, without_reports}
use Rattle.core_laws.proofs.UnreportedRuns.{AllServeWords, Reopens, reopens}

set_end : (xs : List ℕ) → slice_set (xs ++ 0 ∷ []) (length xs) 0 ≡ xs ++ 0 ∷ []
set_end [] = refl
set_end (x ∷ xs) = ap (λ (ys : List ℕ). x ∷ ys) (set_end xs)

tiles_first : (dims tags : ℕ) (scripts : List (List Line))
    → map tile_open (map (first_tile dims tags) scripts) ≡ map (first_tile dims tags) scripts
tiles_first dims tags [] = refl
tiles_first dims tags (x ∷ xs) = ap (λ (ts : List TileState). first_tile dims tags x ∷ ts) (tiles_first dims tags xs)

marks_first : (dims tags : ℕ) (scripts : List (List Line)) → sum_by marks (map (first_tile dims tags) scripts) ≡ 0
marks_first dims tags [] = refl
marks_first dims tags (x ∷ xs) =
    let rest = marks_first dims tags xs in
    let cons = sum_by-cons marks (first_tile dims tags x) (map (first_tile dims tags) xs) in
    omega (arith, rest, cons)

first_open : (l : Load) → state_open (design_of l) (first_state l) ≡ first_state l
first_open l =
    let made : List TileState → List ℕ → State = λ ts ws. record {
      tiles = ts;
      around = record { rings = (first_state l).around.rings; words = ws };
    } in
    ap (λ (ts : List TileState). made ts (slice_set (l.opening ++ 0 ∷ []) (length l.opening) 0))
    (tiles_first (dims_of l.shape) l.tags l.scripts)
    ∙ ap (made (first_state l).tiles) (set_end l.opening)

module _ (l : Load) (ok : IsAcceptedLoad l) where
  abbrev Reached : State → Type 0
  Reached s = (before : List Step) × (after l before ≡ s)

  serve_words : (s : State) → Reached s → AllServeWords (design_of l) s
  serve_words s at t tile there r waits =
      let there_then : slice_get (after l at.0).tiles t ≡ Some tile =
      ap (λ (u : State). slice_get u.tiles t) at.1 ∙ there in
      let asks =
      bank_asked l ok at.0 (length at.0) t tile
      (ap (λ (xs : List Step). slice_get (after l xs).tiles t) (take_all (length at.0) at.0 (omega arith))
      ∙ there_then) in
      let low = (asks.request r waits).word in
      λ e. omega (arith, low, e)

  goes_on : (s : State) (x : Step) → Reached s → Reached (next (design_of l) s x)
  goes_on s x at = (
    at.0 ++ x ∷ [],
    after_push (design_of l) at.0 (first_state l) x
        ∙ ap (λ (u : State). next (design_of l) u x) at.1,
  )

  module _ (steps : List Step) where
    opened : Reopens (design_of l) (first_state l) (first_book (tiles_of l.shape)) (moves_of l steps) (after l steps)
        (book_after l steps)
    opened = reopens (design_of l) Reached serve_words goes_on (first_state l) (first_book (tiles_of l.shape)) steps
        ([], refl)

    state_again : after l (without_reports (moves_of l steps)) ≡ state_open (design_of l) (after l steps)
    state_again =
        ap (λ (s : State). after_from (design_of l) s (without_reports (moves_of l steps))) (sym (first_open l))
        ∙ opened.state

    book_again : book_after l (without_reports (moves_of l steps)) ≡ book_after l steps
    book_again =
        ap (λ (s : State). book_from (design_of l) s (first_book (tiles_of l.shape))
        (without_reports (moves_of l steps))) (sym (first_open l)) ∙ opened.book

    pub moves_again : moves_of l (without_reports (moves_of l steps)) ≡ without_reports (moves_of l steps)
    moves_again =
        ap (λ (s : State). enabled_of (step (design_of l)) s (without_reports (moves_of l steps))) (sym (first_open l))
        ∙ opened.moves

    left_again : moves_left l (without_reports (moves_of l steps)) (length (without_reports (moves_of l steps)))
        ≡ moves_left l steps (length steps) + reports_in (after l steps)
    left_again =
        let ours = left_is l (without_reports (moves_of l steps)) in
        let theirs = left_is l steps in
        let few = few_moves l ok steps in
        let made : moves_made l (without_reports (moves_of l steps)) ≡ length (without_reports (moves_of l steps)) =
        sym (load_count l (without_reports (moves_of l steps))) ∙ ap (λ (xs : List Step). length xs) moves_again in
        let all = load_count l steps in
        let count = opened.count in
        let none : reports_in (first_state l) ≡ 0 = marks_first (dims_of l.shape) l.tags l.scripts in
        omega (arith, ours, theirs, few, made, all, count, none)

    machine_again : reopened (core_after_load l steps) ≡ core_after_load l (without_reports (moves_of l steps))
    machine_again =
        ap (λ (s : State). machine_of l s (book_after l steps)
        (moves_left l steps (length steps) + reports_in (after l steps))) (sym state_again)
        ∙ (ap (λ (g : EventBook). machine_of l (after l (without_reports (moves_of l steps))) g
        (moves_left l steps (length steps) + reports_in (after l steps))) (sym book_again)
        ∙ ap (λ (n : ℕ). machine_of l (after l (without_reports (moves_of l steps)))
        (book_after l (without_reports (moves_of l steps))) n) (sym left_again))

pub taken_back : (l : Load) (c : Core) (steps : List Step) → IsAfter l c steps
    → IsAfter l (reopened c) (without_reports (moves_of l steps))
taken_back l c steps h =
    subst (λ (x : Core). IsAfter l x (without_reports (moves_of l steps)))
    (sym (ap reopened (named_machine l c steps h) ∙ machine_again l h.accepted steps))
    (stands_after l (without_reports (moves_of l steps)) h.accepted)

-- nobody has reported
nobody : (tiles : List TileState) (p : ℕ) → p < length tiles
    → (tile : TileState) × (slice_get (map tile_open tiles) p ≡ Some (tile_open tile))
nobody [] p low = absurd (omega (arith, low))
nobody (t ∷ tiles) zero low = (t, refl)
nobody (t ∷ tiles) (suc p) low = nobody tiles p (omega (arith, low))

pub nobody_reported : (c : Core) (p : ℕ) → p < length c.state.tiles → IsUnreported (reopened c).state p
nobody_reported c p low = let x = nobody c.state.tiles p low in record {
  tile = tile_open x.0;
  there = x.1;
  unreported = refl;
}

pub any_time : (l : Load) (c : Core) (steps : List Step) (p : ℕ) (line : Line) → IsAfter l c steps → MayFollow l p line
    → IsAfter (load_with l p line) (appended (reopened c) p line) (without_reports (moves_of l steps))
any_time l c steps p line h may =
    let back = taken_back l c steps h in
    let tiles : length c.state.tiles ≡ length l.scripts =
    ap (λ (s : State). length s.tiles) (h.state ∙ ap (after l) (sym (take_all (length steps) steps (omega arith))))
    ∙ ((holds_in l h.accepted steps (length steps)).stands.tiles ∙ sym h.accepted.processors) in
    subst (IsAfter (load_with l p line) (appended (reopened c) p line)) (moves_again l h.accepted steps)
    (grown l (reopened c) (without_reports (moves_of l steps)) p line back
    (nobody_reported c p (omega (arith, tiles, may.there))) (accepted_with l p line h.accepted may))
