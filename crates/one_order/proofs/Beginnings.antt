-- The order of a beginning of a run is a beginning of its order, and the rows keep their numbers.
use Rattle.std.proofs.Common.{◌≡◌, ⊎_elim, ℕ, zero, suc, ◌<◌, ◌≤◌, List, [], ◌++◌, Some, sym, ◌∙◌, ap, subst, arith, slice_get, append_assoc}
use Rattle.std.proofs.lemmas.Bool.{cases_lt}
use Rattle.std.proofs.lemmas.List.{append-nil}
use Rattle.std.proofs.lemmas.Option.{slice_get_within}
use Rattle.one_order.specs.declared.ordered.Ordered.{Ordered}
use Rattle.one_order.specs.Observed.{Run}
use Rattle.one_order.specs.Order.{LinearizationPoint, home, count_at}
use Rattle.one_order.specs.Growth.{OnlyGrows}
use Rattle.one_order.specs.Rows.{IsAnswerNumber, IsRowOf, AreRowsOf, GoesOn, BeginRows}
use Rattle.one_order.specs.OneOrder.{HasOneOrder}
use Rattle.one_order.specs.Events.{Event, IsHistory, points_of, order_after}
use Rattle.one_order.proofs.Lists.{within_length, get_append_left}
use Rattle.one_order.proofs.Folds.{before_kept}
use Rattle.one_order.proofs.IssueNumbers.{rows_of, one_order, one_order_is}
use Rattle.one_order.proofs.Unique.{same_order, issue_number_same, answer_number_same}

-- the order of the services only grows at its end
order_begins : (event : ℕ → Event) (k n : ℕ) → k ≤ n → (more : List LinearizationPoint) × (order_after event n ≡ order_after event k ++ more)
order_begins event k zero l = let z : k ≡ 0 = omega arith in ([], sym (append-nil (order_after event 0)) ∙ ap (λ m. order_after event m ++ []) (sym z))
order_begins event k (suc n) l = ⊎_elim
    (λ (below : k < suc n).
    let old = order_begins event k n (omega arith) in
    let points : List LinearizationPoint = points_of (event n) (suc n) in
    (old.0 ++ points, ap (λ xs. xs ++ points) old.1 ∙ append_assoc (order_after event k) old.0 points))
    (λ (above : suc n ≤ k). let z : k ≡ suc n = omega arith in ([], sym (append-nil (order_after event (suc n))) ∙ ap (λ m. order_after event m ++ []) (sym z)))
    (cases_lt k (suc n))

-- the first steps of a history
beginning : (tiles tags : ℕ) (opening : List ℕ) (run : Run) (event : ℕ → Event) (k n : ℕ) → k ≤ n → IsHistory tiles tags opening run event n
    → IsHistory tiles tags opening run event k
beginning tiles tags opening run event k n l h = record { start = h.start; each = λ j below. h.each j (omega arith); may = λ j below. h.may j (omega arith) }

-- a row of the first k steps, and the row of the same service in the first n
goes_on : (tiles : ℕ) (opening : List ℕ) (run : Run) (k n : ℕ) (order more : List LinearizationPoint) (j : ℕ) (x : LinearizationPoint) (row later : Ordered)
    → k ≤ n → OnlyGrows opening run n
    → slice_get order j ≡ Some x → IsRowOf tiles run k order j x row → IsRowOf tiles run n (order ++ more) j x later → GoesOn row later
goes_on tiles opening run k n order more j x row later l growing there old now = record {
  bank = now.bank ∙ sym old.bank;
  place = now.place ∙ (ap (count_at tiles (home tiles x.operation)) (before_kept order more j x there) ∙ sym old.place);
  source = now.source ∙ sym old.source;
  index = now.index ∙ sym old.index;
  issued = issue_number_same run x.source x.index later.issued row.issued now.issued old.issued;
  served = now.served ∙ sym old.served;
  answered = λ m is.
      let number : IsAnswerNumber run k x.source x.index (Some m) = subst (IsAnswerNumber run k x.source x.index) is old.answered in
      let within = number.1 in
      answer_number_same opening run n x.source x.index later.answered (Some m) growing now.answered (number.0, omega arith, number.2, number.3);
}

-- the rows of one order, over the order of the services
numbered : (tiles tags : ℕ) (opening : List ℕ) (run : Run) (event : ℕ → Event) (n : ℕ) (rows : List Ordered) → IsHistory tiles tags opening run event n
    → HasOneOrder tiles tags opening run n rows
    → AreRowsOf tiles run n (order_after event n) rows
numbered tiles tags opening run event n rows h one =
    let some = rows_of tiles tags opening run event n h in
    let same = same_order tiles tags opening run n rows some.0 one (one_order tiles tags opening run event n some.0 h some.1)
    ∙ one_order_is tiles tags opening run event n some.0 h some.1 in
    subst (λ (xs : List LinearizationPoint). AreRowsOf tiles run n xs rows) same one.numbered

pub rows_go_on : (tiles tags : ℕ) (opening : List ℕ) (run : Run) (event : ℕ → Event) (k n : ℕ) (rows later : List Ordered) → k ≤ n
    → IsHistory tiles tags opening run event n
    → HasOneOrder tiles tags opening run k rows → HasOneOrder tiles tags opening run n later → BeginRows rows later
rows_go_on tiles tags opening run event k n rows later l h one two =
    let order : List LinearizationPoint = order_after event k in
    let grown = order_begins event k n l in
    let old = numbered tiles tags opening run event k rows (beginning tiles tags opening run event k n l h) one in
    let now : AreRowsOf tiles run n (order ++ grown.0) later =
    subst (λ (xs : List LinearizationPoint). AreRowsOf tiles run n xs later) grown.1 (numbered tiles tags opening run event n later h two) in
    record {
      each = λ j row hr.
          let count = old.count in
          let within = slice_get_within rows j row hr in
          let x = within_length order j (omega arith) in
          let there = get_append_left order grown.0 j x.0 x.1 in
          let counts = now.count in
          let below = slice_get_within (order ++ grown.0) j x.0 there in
          let at = within_length later j (omega arith) in
          (at.0, at.1, goes_on tiles opening run k n order grown.0 j x.0 row at.0 l two.grows x.1 (old.each j x.0 row x.1 hr) (now.each j x.0 at.0 there at.1));
    }
