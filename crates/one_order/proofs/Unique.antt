-- A run has one order only, and one list of rows.
use Rattle.std.proofs.Common.{◌≡◌, ⊎_elim, ℕ, zero, suc, ◌<◌, ◌≤◌, List, take, Option, Some, None, refl, sym, ◌∙◌, ap, subst, arith, slice_get}
use Rattle.std.proofs.lemmas.Bool.{cases_lt}
use Rattle.std.proofs.lemmas.Option.{slice_get_within}
use Rattle.packet.specs.declared.kinds.Operation.{Operation}
use Rattle.one_order.specs.declared.ordered.Ordered.{Ordered}
use Rattle.one_order.specs.Observed.{Run, list_at, event_count, HasIssued, HasServed, HasAnswered, IsServedAt}
use Rattle.one_order.specs.Order.{LinearizationPoint, home, count_at}
use Rattle.one_order.specs.Growth.{OnlyGrows}
use Rattle.one_order.specs.Rows.{IsIssueNumber, IsAnswerNumber, IsRowOf, AreRowsOf}
use Rattle.one_order.specs.OneOrder.{HasOneOrder}
use Rattle.one_order.proofs.Lists.{within_length}
use Rattle.one_order.proofs.Growth.{kept_along}
use Rattle.one_order.proofs.EventTimes.{one_first}
use Rattle.one_order.proofs.Counting.{same_lists}
use Rattle.one_order.proofs.Naming.{same_operation, same_point, PointOfEntry, point_of_entry}
use Rattle.one_order.proofs.BankReplay.{name_entries}

-- two orders are the same before place k
abbrev pub SameBefore : List LinearizationPoint → List LinearizationPoint → ℕ → Type 0
SameBefore one two k = (j : ℕ) (x y : LinearizationPoint) → j < k → slice_get one j ≡ Some x → slice_get two j ≡ Some y → x ≡ y

-- a point of one order stands in another: the service is the same
record Counterpart (two : List LinearizationPoint) (x : LinearizationPoint) : Type 0 where
  k : ℕ
  point : LinearizationPoint
  there : slice_get two k ≡ Some point
  source : point.source ≡ x.source
  operation : point.operation ≡ x.operation
  step : point.step ≡ x.step

counterpart : (tiles tags : ℕ) (opening : List ℕ) (run : Run) (n : ℕ) (rows others : List Ordered) (one : HasOneOrder tiles tags opening run n rows)
    (two : HasOneOrder tiles tags opening run n others)
    → (k : ℕ) (x : LinearizationPoint) → slice_get one.order k ≡ Some x → Counterpart two.order x
counterpart tiles tags opening run n rows others one two k x h =
    let was = one.services.served k x h in
    let b : ℕ = home tiles x.operation in
    let place : ℕ = count_at tiles b (take k one.order) in
    let at : PointOfEntry tiles opening two.order b place was.entry = point_of_entry tiles tags opening run n others two b place was.entry was.there in
    let y : LinearizationPoint = at.point in
    let served = (two.services.served at.k y at.there).served in
    let there : IsServedAt run b place y.step =
    subst (λ (c : ℕ). IsServedAt run b c y.step) at.before
    (subst (λ (c : ℕ). IsServedAt run c (count_at tiles c (take at.k two.order)) y.step) at.bank served) in
    record {
      k = at.k;
      point = y;
      there = at.there;
      source = sym at.source ∙ was.source;
      operation = sym at.operation ∙ same_operation was.entry x.operation was.address was.op;
      step = one_first (λ t. HasServed (run t) b place) y.step x.step there was.served;
    }

-- the k-th of the other is no later
no_later : (tiles tags : ℕ) (opening : List ℕ) (run : Run) (n : ℕ) (rows others : List Ordered) (one : HasOneOrder tiles tags opening run n rows)
    (two : HasOneOrder tiles tags opening run n others)
    → (k : ℕ) (x y : LinearizationPoint) → SameBefore one.order two.order k → slice_get one.order k ≡ Some x → slice_get two.order k ≡ Some y → y.step ≤ x.step
no_later tiles tags opening run n rows others one two k x y same hx hy =
    let at = counterpart tiles tags opening run n rows others one two k x hx in
    let step = at.step in
    ⊎_elim
    (λ (before : at.k < k).
    let within = slice_get_within one.order k x hx in
    let w = within_length one.order at.k (omega arith) in
    let equal : w.0 ≡ at.point = same at.k w.0 at.point before w.1 at.there in
    let rises = one.legal.rising at.k k w.0 x before w.1 hx in
    let steps = ap (λ (z : LinearizationPoint). z.step) equal in
    absurd (omega arith))
    (λ (after : k ≤ at.k). ⊎_elim
    (λ (later : k < at.k). let rises = two.legal.rising k at.k y at.point later hy at.there in omega arith)
    (λ (equal : at.k ≤ k).
    let point = same_point two.order at.k k at.point y at.there hy (omega arith) in
    let steps = ap (λ (z : LinearizationPoint). z.step) point in
    omega arith)
    (cases_lt k at.k))
    (cases_lt at.k k)

-- points of one step are one
one_step : (opening : List ℕ) (run : Run) (n : ℕ) (rows : List Ordered) (tiles tags : ℕ) (two : HasOneOrder tiles tags opening run n rows) (j k : ℕ)
    (x y : LinearizationPoint)
    → slice_get two.order j ≡ Some x → slice_get two.order k ≡ Some y → x.step ≡ y.step → x ≡ y
one_step opening run n rows tiles tags two j k x y hj hk same = ⊎_elim
    (λ (l : j < k). let r = two.legal.rising j k x y l hj hk in absurd (omega arith))
    (λ (g : k ≤ j). ⊎_elim
    (λ (l : k < j). let r = two.legal.rising k j y x l hk hj in absurd (omega arith))
    (λ (l : j ≤ k). same_point two.order j k x y hj hk (omega arith))
    (cases_lt k j))
    (cases_lt j k)

-- nor of a later operation of the same processor: its bank serves in turn
no_earlier_index : (tiles tags : ℕ) (opening : List ℕ) (run : Run) (n : ℕ) (rows others : List Ordered) (one : HasOneOrder tiles tags opening run n rows)
    (two : HasOneOrder tiles tags opening run n others)
    → (k : ℕ) (x y : LinearizationPoint) → SameBefore one.order two.order k → slice_get one.order k ≡ Some x → slice_get two.order k ≡ Some y
    → x.source ≡ y.source → x.operation ≡ y.operation → x.index < y.index → ⊥
no_earlier_index tiles tags opening run n rows others one two k x y same hx hy source operation less =
    let issued : slice_get (list_at (run n).issued y.source) x.index ≡ Some x.operation =
    subst (λ (p : ℕ). slice_get (list_at (run n).issued p) x.index ≡ Some x.operation) source (one.legal.issued k x hx).operation in
    let before = two.services.in_turn k x.index y x.operation hy less issued (ap (home tiles) operation) in
    let j : ℕ = before.0 in
    let z : LinearizationPoint = before.1 in
    let within = slice_get_within one.order k x hx in
    let l = before.2 in
    let w = within_length one.order j (omega arith) in
    let equal : w.0 ≡ z = same j w.0 z l w.1 before.3 in
    let again = one.legal.distinct j k w.0 x w.1 hx (ap (λ (v : LinearizationPoint). v.source) equal ∙ (before.4 ∙ sym source))
    (ap (λ (v : LinearizationPoint). v.index) equal ∙ before.5) in
    omega arith

abbrev pub point_from : ℕ → ℕ → Operation → ℕ → LinearizationPoint
point_from source index operation step = record { source = source; index = index; operation = operation; step = step }

same_at : (tiles tags : ℕ) (opening : List ℕ) (run : Run) (n : ℕ) (rows others : List Ordered) (one : HasOneOrder tiles tags opening run n rows)
    (two : HasOneOrder tiles tags opening run n others)
    → (k : ℕ) (x y : LinearizationPoint) → SameBefore one.order two.order k → slice_get one.order k ≡ Some x → slice_get two.order k ≡ Some y → x ≡ y
same_at tiles tags opening run n rows others one two k x y same hx hy =
    let back : SameBefore two.order one.order k = λ j a b l ha hb. sym (same j b a l hb ha) in
    let le = no_later tiles tags opening run n rows others one two k x y same hx hy in
    let ge = no_later tiles tags opening run n others rows two one k y x back hy hx in
    let step : x.step ≡ y.step = omega arith in
    let at = counterpart tiles tags opening run n rows others one two k x hx in
    let point : at.point ≡ y = one_step opening run n others tiles tags two at.k k at.point y at.there hy (at.step ∙ step) in
    let source : x.source ≡ y.source = sym at.source ∙ ap (λ (z : LinearizationPoint). z.source) point in
    let operation : x.operation ≡ y.operation = sym at.operation ∙ ap (λ (z : LinearizationPoint). z.operation) point in
    let index : x.index ≡ y.index = ⊎_elim
    (λ (l : x.index < y.index). absurd (no_earlier_index tiles tags opening run n rows others one two k x y same hx hy source operation l))
    (λ (g : y.index ≤ x.index). ⊎_elim
    (λ (l : y.index < x.index). absurd (no_earlier_index tiles tags opening run n others rows two one k y x back hy hx (sym source) (sym operation) l))
    (λ (l : x.index ≤ y.index). omega arith)
    (cases_lt y.index x.index))
    (cases_lt x.index y.index) in
    ap (λ s. point_from s x.index x.operation x.step) source
    ∙ (ap (λ i. point_from y.source i x.operation x.step) index
    ∙ (ap (λ o. point_from y.source y.index o x.step) operation
    ∙ ap (point_from y.source y.index y.operation) step))

same_before : (tiles tags : ℕ) (opening : List ℕ) (run : Run) (n : ℕ) (rows others : List Ordered) (one : HasOneOrder tiles tags opening run n rows)
    (two : HasOneOrder tiles tags opening run n others)
    → (k : ℕ) → SameBefore one.order two.order k
same_before tiles tags opening run n rows others one two zero = λ j x y l. absurd (omega arith)
same_before tiles tags opening run n rows others one two (suc k) = λ j x y l hx hy.
    let old : SameBefore one.order two.order k = same_before tiles tags opening run n rows others one two k in
    ⊎_elim
    (λ (below : j < k). old j x y below hx hy)
    (λ (above : k ≤ j).
    let here : j ≡ k = omega arith in
    same_at tiles tags opening run n rows others one two j x y (λ i a b m. old i a b (omega arith)) hx hy)
    (cases_lt j k)

pub same_order : (tiles tags : ℕ) (opening : List ℕ) (run : Run) (n : ℕ) (rows others : List Ordered) (one : HasOneOrder tiles tags opening run n rows)
    (two : HasOneOrder tiles tags opening run n others) → one.order ≡ two.order
same_order tiles tags opening run n rows others one two =
    same_lists one.order two.order
    (omega (
      arith,
      one.numbered.count,
      two.numbered.count,
      (name_entries tiles tags opening run n rows one).count,
      (name_entries tiles tags opening run n others two).count,
    ))
    (λ k x y hx hy. same_before tiles tags opening run n rows others one two (suc k) k x y (omega arith) hx hy)

pub issue_number_same : (run : Run) (p i l m : ℕ) → IsIssueNumber run p i l → IsIssueNumber run p i m → l ≡ m
issue_number_same run p i l m x y =
    x.2 ∙ (ap (λ t. event_count (run t)) (one_first (λ k. HasIssued (run k) p i) x.0 y.0 x.1 y.1) ∙ sym y.2)

pub answer_number_same : (opening : List ℕ) (run : Run) (n p i : ℕ) (l m : Option ℕ) → OnlyGrows opening run n → IsAnswerNumber run n p i l
    → IsAnswerNumber run n p i m → l ≡ m
answer_number_same opening run n p i None None growing x y = refl
answer_number_same opening run n p i None (Some m) growing x y =
    let at = y.2.holds in
    absurd (x (
      at.0,
      at.1,
      kept_along (λ t. list_at (run t).answers p) n (λ t j a l h. growing.answers_stay t p j a l h) y.0 n at.0 at.1 y.1 (omega arith) at.2,
      at.3,
    ))
answer_number_same opening run n p i (Some l) None growing x y =
    let at = x.2.holds in
    absurd (y (
      at.0,
      at.1,
      kept_along (λ t. list_at (run t).answers p) n (λ t j a l h. growing.answers_stay t p j a l h) x.0 n at.0 at.1 x.1 (omega arith) at.2,
      at.3,
    ))
answer_number_same opening run n p i (Some l) (Some m) growing x y =
    ap (λ (c : ℕ). Some c) (x.3 ∙ (ap (λ t. event_count (run t)) (one_first (λ k. HasAnswered (run k) p i) x.0 y.0 x.2 y.2) ∙ sym y.3))

abbrev pub row_from : ℕ → ℕ → ℕ → ℕ → ℕ → ℕ → Option ℕ → Ordered
row_from bank place source index issued served answered =
    record { bank = bank; place = place; source = source; index = index; issued = issued; served = served; answered = answered }

same_row : (opening : List ℕ) (tiles : ℕ) (run : Run) (n : ℕ) (order : List LinearizationPoint) (k : ℕ) (x : LinearizationPoint) (r s : Ordered)
    → OnlyGrows opening run n
    → IsRowOf tiles run n order k x r → IsRowOf tiles run n order k x s → r ≡ s
same_row opening tiles run n order k x r s growing a c =
    ap (λ b. row_from b r.place r.source r.index r.issued r.served r.answered) (a.bank ∙ sym c.bank)
    ∙ (ap (λ p. row_from s.bank p r.source r.index r.issued r.served r.answered) (a.place ∙ sym c.place)
    ∙ (ap (λ p. row_from s.bank s.place p r.index r.issued r.served r.answered) (a.source ∙ sym c.source)
    ∙ (ap (λ i. row_from s.bank s.place s.source i r.issued r.served r.answered) (a.index ∙ sym c.index)
    ∙ (ap (λ m. row_from s.bank s.place s.source s.index m r.served r.answered) (issue_number_same run x.source x.index r.issued s.issued a.issued c.issued)
    ∙ (ap (λ m. row_from s.bank s.place s.source s.index s.issued m r.answered) (a.served ∙ sym c.served)
    ∙ ap (row_from s.bank s.place s.source s.index s.issued s.served)
    (answer_number_same opening run n x.source x.index r.answered s.answered growing a.answered c.answered))))))

pub same_rows : (tiles tags : ℕ) (opening : List ℕ) (run : Run) (n : ℕ) (rows others : List Ordered) → HasOneOrder tiles tags opening run n rows
    → HasOneOrder tiles tags opening run n others → rows ≡ others
same_rows tiles tags opening run n rows others one two =
    let order : List LinearizationPoint = one.order in
    let are : AreRowsOf tiles run n order others =
    subst (λ (xs : List LinearizationPoint). AreRowsOf tiles run n xs others) (sym (same_order tiles tags opening run n rows others one two)) two.numbered in
    same_lists rows others (one.numbered.count ∙ sym are.count) (λ k r s hr hs.
    let within = slice_get_within rows k r hr in
    let count = one.numbered.count in
    let x = within_length order k (omega arith) in
    same_row opening tiles run n order k x.0 r s one.grows (one.numbered.each k x.0 r x.1 hr) (are.each k x.0 s x.1 hs))
