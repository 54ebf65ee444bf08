-- What a machine tells of each load from which it stands freshly loaded; and what its parts show.
use Rattle.std.proofs.Common.{◌≡◌, ℕ, zero, suc, ◌+◌, ◌-◌, ◌*◌, List, [], ◌∷◌, map, length, Some, None, refl, sym, ◌∙◌, ap, subst, arith, slice_get}
use Rattle.std.proofs.Common.{length-set, slice_index_or}
use Rattle.std.proofs.lemmas.List.{length_push}
use Rattle.std.proofs.lemmas.Option.{slice_get_within}
use Rattle.torus.specs.Shape.{tiles_of, dims_of}
use Rattle.torus.specs.declared.step.Step.{Step}
use Rattle.script_lines.specs.declared.line.Line.{Line}
use Rattle.one_order.specs.Scripts.{Invocation}
use Rattle.one_order.specs.Following.{Following, ShowsPast, starts, issues, answers, first_of, past_fences}
use Rattle.one_order.specs.ProcessorRecord.{ProcessorRecord, no_processor}
use Rattle.one_order.specs.Observed.{list_at}
use Rattle.machine_parts.specs.EventBook.{EventBook}
use Rattle.machine_parts.specs.Room.{home_room}
use Rattle.tile.specs.Tile.{Design, TileState}
use Rattle.machine_parts.specs.Core.{Load, State, design_of, first_state, first_tile, after, after_from, records_of}
use Rattle.machine_parts.specs.Runs.{state_after}
use Rattle.machine_parts.proofs.OnTheWay.{shows_operations}
use Rattle.machine_parts.proofs.RowOfRuns.{all_steps}
use Rattle.machine_parts.specs.Machine.{Core, IsAfter, IsLawful}
use Rattle.machine_parts.proofs.Lawful.{lawful}
use Rattle.machine_parts.specs.Seen.{IsShown}
use Rattle.machine_core.specs.declared.machine.Machine.TheInside.{Inside}
use Rattle.machine_core.specs.Inside.{core_of, places_in, HaveRoom, IsMachine}
use Rattle.machine_core.specs.Fresh.{told_load}
use Rattle.machine_core.proofs.Standing.{tiles_counted}
use Rattle.machine_core.proofs.FreshLoads.{bare, bare_accepted, first_same, room_same, ahead_first, total_is, allowed_same}

-- a follower that shows no operation is at the start
at_start : (lines : List Line) (past : List Invocation) (f : Following) → ShowsPast lines past f → length past ≡ 0 → f ≡ first_of lines
at_start lines past f starts none = refl
at_start lines past f (issues before g o t h next answered) none =
    absurd (let n = length_push before (record { operation = o; issue = t; answer = None }) in omega arith)
at_start lines past f (answers before g i o t reply h at open_) none =
    absurd (let n = length-set before i (record o { answer = Some (t, reply) }) in let low = slice_get_within before i o at in omega arith)

-- the first state has issued nothing, and its followers are at the start
none_first : (dims tags : ℕ) (scripts : List (List Line)) (p : ℕ)
    → list_at (map (λ (b : ProcessorRecord). b.issued) (map (λ (t : TileState). t.processor.operations) (map (first_tile dims tags) scripts))) p ≡ []
none_first dims tags [] p = refl
none_first dims tags (lines ∷ scripts) zero = refl
none_first dims tags (lines ∷ scripts) (suc p) = none_first dims tags scripts p

follower_first : (dims tags : ℕ) (scripts : List (List Line)) (p : ℕ) (lines : List Line) → slice_get scripts p ≡ Some lines
    → (slice_index_or (map (λ (t : TileState). t.processor.operations) (map (first_tile dims tags) scripts)) p no_processor).following ≡ first_of lines
follower_first dims tags [] p lines there = absurd (cc)
follower_first dims tags (first ∷ scripts) zero lines there = cc
follower_first dims tags (first ∷ scripts) (suc p) lines there = follower_first dims tags scripts p lines there

same_start : (xs ys : List Line) → first_of xs ≡ first_of ys → past_fences xs ≡ past_fences ys
unfolding first_of
same_start xs ys e = ap (λ (f : Following). f.ahead) e

same_map : {X Y : Type 0} (f : X → Y) (xs ys : List X) → length xs ≡ length ys
    → ((p : ℕ) (x y : X) → slice_get xs p ≡ Some x → slice_get ys p ≡ Some y → f x ≡ f y) → map f xs ≡ map f ys
same_map f [] [] n same = refl
same_map f [] (y ∷ ys) n same = absurd (omega arith)
same_map f (x ∷ xs) [] n same = absurd (omega arith)
same_map f (x ∷ xs) (y ∷ ys) n same = λ i. same 0 x y refl refl i ∷ same_map f xs ys (omega arith) (λ p. same (suc p)) i

-- two loads of one machine
module _ (l k : Load) (steps : List Step) (c : Core) (fresh : IsAfter l c []) (led : IsAfter k c steps) where
  first_is : state_after k steps (length steps) ≡ first_state l
  first_is = all_steps k steps ∙ (sym led.state ∙ fresh.state)

  lines_same : (p : ℕ) (xs ys : List Line) → slice_get k.scripts p ≡ Some xs → slice_get l.scripts p ≡ Some ys → past_fences xs ≡ past_fences ys
  lines_same p xs ys at_k at_l =
      let shows = shows_operations k led.accepted steps (length steps) p xs at_k in
      let none : list_at (map (λ (b : ProcessorRecord). b.issued) (records_of (state_after k steps (length steps)))) p ≡ []
      = ap (λ (s : State). list_at (map (λ (b : ProcessorRecord). b.issued) (records_of s)) p) first_is ∙ none_first (dims_of l.shape) l.tags l.scripts p in
      let begun = at_start xs shows.past (slice_index_or (records_of (state_after k steps (length steps))) p no_processor).following shows.shows
      (shows.are.count ∙ ap length none) in
      same_start xs ys (sym begun
      ∙ (ap (λ (s : State). (slice_index_or (records_of s) p no_processor).following) first_is ∙ follower_first (dims_of l.shape) l.tags l.scripts p ys at_l))

  scripts_same : map past_fences k.scripts ≡ map past_fences l.scripts
  scripts_same = same_map past_fences k.scripts l.scripts
      (led.accepted.processors ∙ (ap tiles_of (sym led.shape ∙ fresh.shape) ∙ sym fresh.accepted.processors)) lines_same

  pub rooms_same : (b : ℕ) → home_room (tiles_of k.shape) b k.scripts ≡ home_room (tiles_of l.shape) b l.scripts
  rooms_same b =
      sym (room_same (tiles_of k.shape) b k.scripts)
      ∙ ((λ i. home_room (tiles_of ((sym led.shape ∙ fresh.shape) i)) b (scripts_same i)) ∙ room_same (tiles_of l.shape) b l.scripts)

-- the load that a freshly loaded machine tells
module _ (l : Load) (c : Core) (k : IsAfter l c []) where
  bare_after : IsAfter (bare l) c []
  bare_after = record {
    accepted = bare_accepted l k.accepted;
    shape = k.shape;
    depth = k.depth;
    tags = k.tags;
    opening = k.opening;
    allowed = k.allowed ∙ sym (allowed_same l.scripts);
    state = k.state ∙ sym (first_same l);
    book = k.book;
    moves = k.moves ∙ ap (λ (n : ℕ). 241 * n + 2 * tiles_of l.shape - 0) (sym (total_is l.scripts));
    lawful = subst (λ (g : EventBook). IsLawful (bare l) [] g.rows) (sym k.book) (lawful (bare l) (bare_accepted l k.accepted) []);
  }

  told_is : told_load c ≡ bare l
  told_is =
      let scripts : map (λ (tile : TileState). tile.processor.operations.following.ahead) c.state.tiles ≡ map past_fences l.scripts
      = ap (λ (s : State). map (λ (tile : TileState). tile.processor.operations.following.ahead) s.tiles) k.state
      ∙ ahead_first (dims_of l.shape) l.tags l.scripts in
      λ i. record { shape = k.shape i; depth = k.depth i; tags = k.tags i; opening = k.opening i; scripts = scripts i }

  pub told_after : IsAfter (told_load c) c []
  told_after = subst (λ (x : Load). IsAfter x c []) (sym told_is) bare_after

-- runs from two such loads
pub run_alike : (l k : Load) (c : Core) → IsAfter l c [] → IsAfter k c [] → (steps : List Step) → after l steps ≡ after k steps
run_alike l k c h j steps =
    let built : design_of l ≡ design_of k
    = λ i. record { shape = (sym h.shape ∙ j.shape) i; depth = (sym h.depth ∙ j.depth) i; words = length ((sym h.opening ∙ j.opening) i) } in
    let first : first_state l ≡ first_state k = sym h.state ∙ j.state in
    λ i. after_from (built i) (first i) steps

-- tiles and row show where the machine stands, whichever load and steps led there
module _ {A : Type 0} (a : Inside A) (is : IsMachine a) where
  design_same : (l : Load) (steps : List Step) → IsAfter l (core_of a) steps → design_of is.load ≡ design_of l
  design_same l steps k = λ i. record {
    shape = (sym is.after.shape ∙ k.shape) i;
    depth = (sym is.after.depth ∙ k.depth) i;
    words = length ((sym is.after.opening ∙ k.opening) i);
  }

  pub shown_after : (l : Load) (steps : List Step) → IsAfter l (core_of a) steps → IsShown (design_of l) (after l steps) (places_in a) a.row.items
  shown_after l steps k =
      subst (λ (s : State). IsShown (design_of l) s (places_in a) a.row.items) (sym is.after.state ∙ k.state)
      (subst (λ (d : Design). IsShown d (after is.load is.steps) (places_in a) a.row.items) (design_same l steps k) is.seen)

  pub room_after : (l : Load) → IsAfter l (core_of a) [] → HaveRoom l a.tiles.items
  room_after l k b v at = is.banks b v at ∙ rooms_same l is.load is.steps (core_of a) k is.after b

  pub count_after : length a.tiles.items ≡ tiles_of a.torus
  count_after = tiles_counted a is ∙ ap tiles_of (sym is.after.shape)
