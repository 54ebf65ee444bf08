-- Every reached state in which a script isn't finished is live.
use Rattle.std.proofs.Common.{◌≡◌, ◌⊎◌, ◌↔◌, ⊎_elim, ℕ, ◌<◌, Bool, true, false, List, [], length, map, Some, inl, inr, sym, ◌∙◌, ap, subst, slice_get}
use Rattle.std.proofs.lemmas.Bool.{false_from_ne_true}
use Rattle.std.proofs.Math.ListN.{get_or-map}
use Rattle.std.proofs.lemmas.Option.{slice_get_within, slice_get-get_or, get_or_from_slice_get}
use Rattle.torus.specs.Shape.{tiles_of}
use Rattle.torus.specs.declared.step.Step.{Step}
use Rattle.packet.specs.declared.kinds.Operation.{Operation}
use Rattle.script_lines.specs.declared.line.Line.{Line}
use Rattle.script_lines.specs.Lines.{IsAcceptedScript}
use Rattle.one_order.specs.Scripts.{IsFollowable, HasFinished}
use Rattle.one_order.specs.Following.{Following, is_finished}
use Rattle.one_order.specs.ProcessorRecord.{ProcessorRecord}
use Rattle.one_order.proofs.Followable.{accepted_followable}
use Rattle.one_order.proofs.Shown.{finished_is, finished_from}
use Rattle.one_order.specs.Observed.{list_at, HasAnswered}
use Rattle.one_order.specs.Events.{order_after}
use Rattle.one_order.proofs.Lists.{within_length, list_within}
use Rattle.std.proofs.lemmas.List.{length-map}
use Rattle.one_order.specs.AbstractScripts.{HasFinishedIn, AreFinished}
use Rattle.one_order.proofs.Follows.{Follows}
use Rattle.core_laws.specs.Rounds.{moves_in}
use Rattle.core_laws.proofs.Rounds.{round_moves}
use Rattle.core_laws.specs.Tile.{Design, TileState}
use Rattle.core_laws.specs.Core.{Load, State, design_of, records_of, step, round, run_of}
use Rattle.core_laws.specs.Runs.{IsAcceptedLoad, state_after}
use Rattle.core_laws.specs.Noted.{noted}
use Rattle.core_laws.proofs.Histories.{event_at}
use Rattle.core_laws.proofs.EveryRun.{holds_in, has_one_order}
use Rattle.core_laws.proofs.Stands.{tile_at, no_tile}
use Rattle.core_laws.specs.ProgressMoves.{IsLive, tiles_finished}
use Rattle.core_laws.proofs.Balanced.{run_balanced}
use Rattle.one_order.proofs.Finished.{AnswersOnce, same_invocations, all_at, all_from}
use Rattle.core_laws.proofs.Machine.{StandsLive, machine_is_live}

module _ (l : Load) (ok : IsAcceptedLoad l) (steps : List Step) (n : ℕ) where
  abbrev d : Design
  d = design_of l

  abbrev s : State
  s = state_after l steps n

  tiles_there : length s.tiles ≡ tiles_of l.shape
  tiles_there = (holds_in l ok steps n).stands.tiles

  -- the script of a processor, and what its follower shows
  record HasScript (p : ℕ) : Type 0 where
    lines : List Line
    there : slice_get l.scripts p ≡ Some lines
    same : list_at l.scripts p ≡ lines
    followable : IsFollowable lines
    follows : Follows (run_of l steps) n p lines (tile_at s p).processor.operations.following

  has_script : (p : ℕ) → p < length l.scripts → HasScript p
  has_script p below =
      let script = within_length l.scripts p below in
      let same : list_at l.scripts p ≡ script.0 = get_or_from_slice_get l.scripts p script.0 [] script.1 in
      record {
        lines = script.0;
        there = script.1;
        same = same;
        followable = accepted_followable (length l.opening) script.0 (subst (IsAcceptedScript (length l.opening)) same (ok.scripts.each p));
        follows = subst (λ (b : ProcessorRecord). Follows (run_of l steps) n p script.0 b.following)
            (get_or-map (λ (t : TileState). t.processor.operations) s.tiles p no_tile) ((holds_in l ok steps n).follows p script.0 script.1);
      }

  pub stands_live : StandsLive d l.tags l.opening s (noted l steps n) (order_after (event_at l steps) n)
  stands_live = record {
    stands = (holds_in l ok steps n).stands;
    balanced = run_balanced l ok steps n;
    following = λ p here.
        let at : HasScript p = has_script p (subst (λ (k : ℕ). p < k) (sym ok.processors) here) in
        record { lines = at.lines; past = at.follows.ops; accepted = at.followable; shows = at.follows.shows };
  }

  -- a follower at each tile has finished where all have
  pub finished_at : tiles_finished s ≡ true → (p : ℕ) → p < tiles_of l.shape → is_finished (tile_at s p).processor.operations.following ≡ true
  finished_at all p here = all_at (λ (t : TileState). is_finished t.processor.operations.following) s.tiles p no_tile all
      (subst (λ (k : ℕ). p < k) (sym tiles_there) here)

  all_where : ((p : ℕ) → p < tiles_of l.shape → is_finished (tile_at s p).processor.operations.following ≡ true) → tiles_finished s ≡ true
  all_where each = all_from (λ (t : TileState). is_finished t.processor.operations.following) s.tiles no_tile
      (λ p low. each p (subst (λ (k : ℕ). p < k) tiles_there low))

  -- No dead state: a step is enabled, or all scripts are finished.
  pub live_or_finished : IsLive d s ⊎ (tiles_finished s ≡ true)
  live_or_finished = ⊎_elim
      (λ (live : IsLive d s). inl live)
      (λ (all : (p : ℕ) → p < tiles_of l.shape → is_finished (tile_at s p).processor.operations.following ≡ true). inr (all_where all))
      (machine_is_live d l.tags l.opening s (noted l steps n) (order_after (event_at l steps) n) ok.shape ok.depth.0 ok.tags.0 stands_live)

  pub is_live : tiles_finished s ≡ false → IsLive d s
  is_live busy = ⊎_elim
      (λ (live : IsLive d s). live)
      (λ (all : tiles_finished s ≡ true). let never : ◌≡◌ {A = Bool} true false = sym all ∙ busy in absurd (cc))
      live_or_finished

  -- and so a round makes a move
  pub round_makes_move : tiles_finished s ≡ false → 0 < moves_in (step d) s (round l.shape)
  round_makes_move busy = let live = is_live busy in round_moves (step d) s live.0 (round l.shape) live.1

  once : (p : ℕ) → AnswersOnce (run_of l steps) n p
  once p i j a b hi hj same = (has_one_order l ok steps n).1.services.once p i j a b hi hj same

  -- all scripts are finished just if, in the run, each processor has issued all that its script allows and all is answered
  to_finished : tiles_finished s ≡ true → AreFinished (run_of l steps) n l.scripts
  to_finished all = record {
    each = λ p below.
        let at : HasScript p = has_script p below in
        let is : is_finished (tile_at s p).processor.operations.following ≡ true = finished_at all p (subst (λ (k : ℕ). p < k) ok.processors below) in
        subst (HasFinishedIn (run_of l steps) n p) (sym at.same)
        (record {
          ops = at.follows.ops;
          are = at.follows.are;
          finished = finished_is at.lines at.follows.ops (tile_at s p).processor.operations.following at.followable at.follows.shows is;
        });
  }

  from_finished : AreFinished (run_of l steps) n l.scripts → tiles_finished s ≡ true
  from_finished are = all_where (λ p here.
      let below : p < length l.scripts = subst (λ (k : ℕ). p < k) (sym ok.processors) here in
      let at : HasScript p = has_script p below in
      let done : HasFinishedIn (run_of l steps) n p at.lines = subst (HasFinishedIn (run_of l steps) n p) at.same (are.each p below) in
      let same : done.ops ≡ at.follows.ops = same_invocations (run_of l steps) n p done.ops at.follows.ops (once p) done.are at.follows.are in
      finished_from at.lines at.follows.ops (tile_at s p).processor.operations.following at.followable at.follows.shows
      (subst (HasFinished at.lines) same done.finished))

  pub finished_is_finished : (tiles_finished s ≡ true) ↔ AreFinished (run_of l steps) n l.scripts
  finished_is_finished = (to_finished, from_finished)

  -- an operation that is issued and not answered makes its script unfinished
  pub unanswered_unfinished : (p i : ℕ) (o : Operation) (tile : TileState) → slice_get s.tiles p ≡ Some tile
      → slice_get (list_at (run_of l steps n).issued p) i ≡ Some o → (HasAnswered (run_of l steps n) p i → ⊥)
      → is_finished tile.processor.operations.following ≡ false
  unanswered_unfinished p i o tile there issued unanswered =
      let here : p < tiles_of l.shape = subst (λ (k : ℕ). p < k) tiles_there (slice_get_within s.tiles p tile there) in
      let at : HasScript p = has_script p (subst (λ (k : ℕ). p < k) (sym ok.processors) here) in
      let is : tile_at s p ≡ tile = get_or_from_slice_get s.tiles p tile no_tile there in
      false_from_ne_true (is_finished tile.processor.operations.following) (λ ends.
      let f : Following = (tile_at s p).processor.operations.following in
      let done : HasFinished at.lines at.follows.ops =
      finished_is at.lines at.follows.ops f at.followable at.follows.shows
      (ap (λ (t : TileState). is_finished t.processor.operations.following) is ∙ ends) in
      let low : i < length at.follows.ops =
      subst (λ (k : ℕ). i < k) (sym at.follows.are.count) (slice_get_within (list_at (run_of l steps n).issued p) i o issued) in
      let x = within_length at.follows.ops i low in
      let answered = done.finished.answered i x.0 x.1 in
      let a = (at.follows.are.answered i x.0 answered.0 answered.1 x.1 answered.2).1 in
      unanswered (a.0, a.1, a.2, a.3))

  -- and so not all are
  pub unanswered_leaves : (p i : ℕ) (o : Operation) → slice_get (list_at (run_of l steps n).issued p) i ≡ Some o → (HasAnswered (run_of l steps n) p i → ⊥)
      → tiles_finished s ≡ false
  unanswered_leaves p i o issued unanswered = false_from_ne_true (tiles_finished s) (λ all.
      let low : p < length (map (λ (b : ProcessorRecord). b.issued) (records_of s)) =
      list_within (map (λ (b : ProcessorRecord). b.issued) (records_of s)) p i o issued in
      let tiles : length (map (λ (b : ProcessorRecord). b.issued) (records_of s)) ≡ length s.tiles =
      length-map (records_of s) (λ (b : ProcessorRecord). b.issued) ∙ length-map s.tiles (λ (t : TileState). t.processor.operations) in
      let inside : p < length s.tiles = subst (λ (k : ℕ). p < k) tiles low in
      let busy = unanswered_unfinished p i o (tile_at s p) (slice_get-get_or s.tiles p no_tile inside) issued unanswered in
      let done : is_finished (tile_at s p).processor.operations.following ≡ true = finished_at all p (subst (λ (k : ℕ). p < k) tiles_there inside) in
      let never : ◌≡◌ {A = Bool} true false = sym done ∙ busy in
      cc)
