-- The headline holds of every run of an accepted load, with the rows of the book; and what is shown goes with them.
use Rattle.std.proofs.Common.{◌≡◌, ◌↔◌, ℕ, true, List, length, sym, ap, subst, arith}
use Rattle.std.proofs.lemmas.List.{take_all}
use Rattle.torus.specs.Shape.{tiles_of}
use Rattle.torus.specs.declared.step.Step.{Step}
use Rattle.one_order.specs.OneOrder.{HasOneOrder}
use Rattle.one_order.specs.EventBook.{EventBook}
use Rattle.one_order.specs.AbstractScripts.{AreFinished}
use Rattle.one_order.specs.Reported.{ShowsWell}
use Rattle.one_order.proofs.EventBooks.{order_of_book}
use Rattle.one_order.proofs.Finished.{finished_law}
use Rattle.one_order.proofs.Reports.{shows_well}
use Rattle.core_laws.specs.Core.{Load, State, run_of, after, show}
use Rattle.core_laws.specs.Runs.{IsAcceptedLoad}
use Rattle.core_laws.specs.Noted.{flight_after}
use Rattle.core_laws.proofs.Histories.{state_at, event_at}
use Rattle.core_laws.proofs.EveryRun.{run_is_history, scripts_are_followed}
use Rattle.core_laws.specs.Machine.{IsLawful, book_after, all_finished}
use Rattle.core_laws.proofs.Books.{book_is}
use Rattle.core_laws.proofs.Moments.{points, moment}

module _ (l : Load) (ok : IsAcceptedLoad l) (steps : List Step) where
  abbrev n : ℕ
  n = length steps

  pub one_order : HasOneOrder (tiles_of l.shape) l.tags l.opening (run_of l steps) (length steps) (book_after l steps).rows
  one_order = subst (λ (g : EventBook). HasOneOrder (tiles_of l.shape) l.tags l.opening (run_of l steps) (length steps) g.rows) (sym (book_is l steps))
      (order_of_book (tiles_of l.shape) l.tags l.opening (run_of l steps) (event_at l steps) (length steps) (run_is_history l ok steps (length steps)))

  pub lawful : IsLawful l steps (book_after l steps).rows
  lawful = record { order = one_order; scripts = scripts_are_followed l ok steps (length steps) }

  -- the state after the last step
  pub at_end : state_at l steps (length steps) ≡ after l steps
  at_end = ap (after l) (take_all (length steps) steps (omega arith))

  pub shows : ShowsWell (tiles_of l.shape) l.tags l.opening (show (length l.opening) (after l steps)) (all_finished (after l steps)) (book_after l steps).rows
  shows = subst (λ (s : State). ShowsWell (tiles_of l.shape) l.tags l.opening (show (length l.opening) s) (all_finished s) (book_after l steps).rows) at_end
      (shows_well (tiles_of l.shape) l.tags l.opening l.scripts (run_of l steps) (length steps) (flight_after l steps (length steps))
      (points l steps (length steps))
      (moment l steps ok (length steps)) (book_after l steps).rows one_order ok.scripts)

  pub finishes : (all_finished (after l steps) ≡ true) ↔ AreFinished (run_of l steps) (length steps) l.scripts
  finishes = subst (λ (s : State). (all_finished s ≡ true) ↔ AreFinished (run_of l steps) (length steps) l.scripts) at_end
      (finished_law (tiles_of l.shape) l.tags l.opening l.scripts (run_of l steps) (length steps) (flight_after l steps (length steps))
      (points l steps (length steps))
      (moment l steps ok (length steps)) (λ p i j a b hi hj same. one_order.services.once p i j a b hi hj same))
