-- The numbers in the rows of a run's one order; and real time.
use Rattle.std.proofs.Common.{◌≡◌, ⊎_elim, ℕ, suc, ◌<◌, ◌≤◌, List, take, Some, refl, sym, ◌∙◌, ap, subst, arith, slice_get}
use Rattle.std.proofs.lemmas.Bool.{cases_lt}
use Rattle.std.proofs.lemmas.Option.{slice_get_within, same_Some}
use Rattle.one_order.specs.declared.answer.Answer.{Answer}
use Rattle.one_order.specs.declared.ordered.Ordered.{Ordered}
use Rattle.one_order.specs.Observed.{Run, list_at, event_count, HasIssued, HasAnswered, IsIssuedAt, IsAnsweredAt}
use Rattle.one_order.specs.Order.{LinearizationPoint, home, count_at, StandsBefore, IsLegalOrder}
use Rattle.one_order.specs.Growth.{OnlyGrows}
use Rattle.one_order.specs.Rows.{IsAnswerNumber, IsRowOf, AreRowsOf}
use Rattle.one_order.specs.OneOrder.{HasOneOrder}
use Rattle.one_order.specs.Consequences.{Precedes, EventKind, Issue, Service, Response, event_number, AreEventNumbers}
use Rattle.one_order.proofs.Lists.{within_length}
use Rattle.one_order.proofs.Growth.{kept_along}
use Rattle.one_order.proofs.EventTimes.{count_monotone, Mark, IssueMark, ServiceMark, AnswerMark, IsEvent, later_counts, one_event, one_first, issue_event}
use Rattle.one_order.proofs.EventTimes.{service_event, IsAnswerAt, answer_event}

-- an answered operation took effect before
pub record Effect (order : List LinearizationPoint) (p i t : ℕ) : Type 0 where
  pub k : ℕ
  pub point : LinearizationPoint
  pub there : slice_get order k ≡ Some point
  pub source : point.source ≡ p
  pub index : point.index ≡ i
  pub before : point.step < t

pub effect_before : (opening : List ℕ) (run : Run) (n : ℕ) (order : List LinearizationPoint) → IsLegalOrder opening run n order → OnlyGrows opening run n
    → (p i t : ℕ) → IsAnsweredAt run p i t → t ≤ n → Effect order p i t
effect_before opening run n order legal growing p i t first l =
    let at = first.holds in
    let a : Answer = at.1 in
    let there : slice_get (list_at (run n).answers p) at.0 ≡ Some a =
    kept_along (λ k. list_at (run k).answers p) n (λ k j x m h. growing.answers_stay k p j x m h) t n at.0 a l (omega arith) at.2 in
    let effect = legal.answered p at.0 a there in
    let answered : IsAnsweredAt run p i effect.at = subst (λ (j : ℕ). IsAnsweredAt run p j effect.at) at.3 effect.answered in
    let same = one_first (λ k. HasAnswered (run k) p i) t effect.at first answered in
    let before = effect.before in
    record { k = effect.k; point = effect.point; there = effect.there; source = effect.source; index = effect.index ∙ at.3; before = omega arith }

-- so for a point of the order
pub answered_after : (opening : List ℕ) (run : Run) (n : ℕ) (order : List LinearizationPoint) → IsLegalOrder opening run n order → OnlyGrows opening run n
    → (k : ℕ) (x : LinearizationPoint) (t : ℕ) → slice_get order k ≡ Some x → IsAnsweredAt run x.source x.index t → t ≤ n → x.step < t
answered_after opening run n order legal growing k x t there first l =
    let effect = effect_before opening run n order legal growing x.source x.index t first l in
    let same = legal.distinct effect.k k effect.point x effect.there there effect.source effect.index in
    let moved : slice_get order k ≡ Some effect.point = subst (λ (j : ℕ). slice_get order j ≡ Some effect.point) same effect.there in
    let e : effect.point ≡ x = same_Some effect.point x (sym moved ∙ there) in
    subst (λ (y : LinearizationPoint). y.step < t) e effect.before

-- issued at one time, before
pub issued_before : (opening : List ℕ) (run : Run) (n : ℕ) (order : List LinearizationPoint) → IsLegalOrder opening run n order
    → (k : ℕ) (x : LinearizationPoint) (t : ℕ) → slice_get order k ≡ Some x → IsIssuedAt run x.source x.index t → t < x.step
issued_before opening run n order legal k x t there first =
    let was = legal.issued k x there in
    let same = one_first (λ j. HasIssued (run j) x.source x.index) t was.at first was.issued in
    let before = was.before in
    omega arith

-- An operation that is answered before another is issued stands before it.
pub real_time : (opening : List ℕ) (run : Run) (n : ℕ) (order : List LinearizationPoint) → IsLegalOrder opening run n order → OnlyGrows opening run n
    → (p i k : ℕ) (y : LinearizationPoint) → slice_get order k ≡ Some y → Precedes run p i y.source y.index → StandsBefore order k p i
real_time opening run n order legal growing p i k y there h =
    let t : ℕ = h.0 in
    let u : ℕ = h.1 in
    let l = h.4 in
    let issued = issued_before opening run n order legal k y u there h.3 in
    let within = legal.within k y there in
    let effect = effect_before opening run n order legal growing p i t h.2 (omega arith) in
    let before = effect.before in
    let earlier : effect.k < k = ⊎_elim
    (λ (l : effect.k < k). l)
    (λ (g : k ≤ effect.k). ⊎_elim
    (λ (m : k < effect.k). let r = legal.rising k effect.k y effect.point m there effect.there in absurd (omega arith))
    (λ (m : effect.k ≤ k).
    let same : effect.k ≡ k = omega arith in
    let moved : slice_get order k ≡ Some effect.point = subst (λ (j : ℕ). slice_get order j ≡ Some effect.point) same effect.there in
    let e : effect.point ≡ y = same_Some effect.point y (sym moved ∙ there) in
    let steps = ap (λ (z : LinearizationPoint). z.step) e in
    absurd (omega arith))
    (cases_lt k effect.k))
    (cases_lt effect.k k) in
    (effect.k, effect.point, earlier, effect.there, effect.source, effect.index)

-- the point of a row
pub record PointOf (tiles : ℕ) (run : Run) (n : ℕ) (order : List LinearizationPoint) (k : ℕ) (row : Ordered) : Type 0 where
  pub point : LinearizationPoint
  pub there : slice_get order k ≡ Some point
  pub is : IsRowOf tiles run n order k point row

pub point_of : (tiles : ℕ) (run : Run) (n : ℕ) (order : List LinearizationPoint) (rows : List Ordered) → AreRowsOf tiles run n order rows
    → (k : ℕ) (row : Ordered) → slice_get rows k ≡ Some row → PointOf tiles run n order k row
point_of tiles run n order rows are k row h =
    let within = slice_get_within rows k row h in
    let count = are.count in
    let at = within_length order k (omega arith) in
    record { point = at.0; there = at.1; is = are.each k at.0 row at.1 h }

-- which event of a point an event is
abbrev pub IsEventOf : ℕ → Run → List LinearizationPoint → ℕ → LinearizationPoint → EventKind → ℕ → Mark → Type 0
IsEventOf tiles run order k x Issue u m = m ≡ IssueMark x.source x.index
IsEventOf tiles run order k x Service u m =
    (m ≡ ServiceMark (home tiles x.operation) (count_at tiles (home tiles x.operation) (take k order))) × (x.step ≡ suc u)
IsEventOf tiles run order k x Response u m = (i : ℕ) × (m ≡ AnswerMark x.source i) × IsAnswerAt (run (suc u)) x.source x.index i

-- the event that a number in the row of the k-th counts to
pub record RowEvent (tiles : ℕ) (run : Run) (n : ℕ) (order : List LinearizationPoint) (k : ℕ) (x : LinearizationPoint) (d : EventKind) (number : ℕ) : Type 0
  where
    pub u : ℕ
    pub mark : Mark
    pub event : IsEvent run n u mark
    pub kind : IsEventOf tiles run order k x d u mark
    pub counts : number ≡ event_count (run (suc u))

row_event : (tiles tags : ℕ) (opening : List ℕ) (run : Run) (n : ℕ) (rows : List Ordered) (one : HasOneOrder tiles tags opening run n rows) (k m : ℕ)
    (x : LinearizationPoint) (row : Ordered) (d : EventKind)
    → slice_get one.order k ≡ Some x → IsRowOf tiles run n one.order k x row → event_number row d ≡ Some m → RowEvent tiles run n one.order k x d m
row_event tiles tags opening run n rows one k m x row Issue there is h =
    let was = one.legal.issued k x there in
    let t : ℕ = is.issued.0 in
    let before = issued_before opening run n one.order one.legal k x t there is.issued.1 in
    let within = one.legal.within k x there in
    let e = issue_event opening run n x.source x.index t one.grows is.issued.1 (omega arith) in
    record {
      u = e.0;
      mark = IssueMark x.source x.index;
      event = e.2;
      kind = refl;
      counts = sym (same_Some row.issued m h) ∙ (is.issued.2 ∙ ap (λ s. event_count (run s)) e.1);
    }
row_event tiles tags opening run n rows one k m x row Service there is h =
    let was = one.services.served k x there in
    let b : ℕ = home tiles x.operation in
    let place : ℕ = count_at tiles b (take k one.order) in
    let e = service_event opening run n b place x.step one.grows was.served (one.legal.within k x there) in
    record {
      u = e.0;
      mark = ServiceMark b place;
      event = e.2;
      kind = (refl, e.1);
      counts = sym (same_Some row.served m h) ∙ (is.served ∙ ap (λ s. event_count (run s)) e.1);
    }
row_event tiles tags opening run n rows one k m x row Response there is h =
    let number : IsAnswerNumber run n x.source x.index (Some m) = subst (IsAnswerNumber run n x.source x.index) h is.answered in
    let e = answer_event opening run n x.source x.index number.0 one.grows number.2 number.1 in
    record { u = e.0; mark = AnswerMark x.source e.1; event = e.3; kind = (e.1, refl, e.4); counts = number.3 ∙ ap (λ s. event_count (run s)) e.2 }

-- one event is of one point, and of one kind
same_kind : (tiles tags : ℕ) (opening : List ℕ) (run : Run) (n : ℕ) (rows : List Ordered) (one : HasOneOrder tiles tags opening run n rows) (j k u : ℕ)
    (x y : LinearizationPoint) (d e : EventKind) (m : Mark)
    → slice_get one.order j ≡ Some x → slice_get one.order k ≡ Some y → IsEventOf tiles run one.order j x d u m → IsEventOf tiles run one.order k y e u m
    → (j ≡ k) × (d ≡ e)
same_kind tiles tags opening run n rows one j k u x y Issue Issue m hj hk a c =
    let same : IssueMark x.source x.index ≡ IssueMark y.source y.index = sym a ∙ c in
    let source : x.source ≡ y.source = cc in
    let index : x.index ≡ y.index = cc in
    (one.legal.distinct j k x y hj hk source index, refl)
same_kind tiles tags opening run n rows one j k u x y Service Service m hj hk a c =
    let s = a.1 in
    let t = c.1 in (
      ⊎_elim
          (λ (l : j < k). let r = one.legal.rising j k x y l hj hk in absurd (omega arith))
          (λ (g : k ≤ j). ⊎_elim
          (λ (l : k < j). let r = one.legal.rising k j y x l hk hj in absurd (omega arith))
          (λ (l : j ≤ k). omega arith)
          (cases_lt k j))
          (cases_lt j k),
      refl,
    )
same_kind tiles tags opening run n rows one j k u x y Response Response m hj hk a c =
    let same : AnswerMark x.source a.0 ≡ AnswerMark y.source c.0 = sym a.1 ∙ c.1 in
    let source : x.source ≡ y.source = cc in
    let place : a.0 ≡ c.0 = cc in
    let there : slice_get (list_at (run (suc u)).answers y.source) c.0 ≡ Some a.2.answer =
    subst (λ (i : ℕ). slice_get (list_at (run (suc u)).answers y.source) i ≡ Some a.2.answer) place
    (subst (λ (p : ℕ). slice_get (list_at (run (suc u)).answers p) a.0 ≡ Some a.2.answer) source a.2.there) in
    let answer : a.2.answer ≡ c.2.answer = same_Some a.2.answer c.2.answer (sym there ∙ c.2.there) in
    let index : x.index ≡ y.index = sym a.2.index ∙ (ap (λ (z : Answer). z.index) answer ∙ c.2.index) in
    (one.legal.distinct j k x y hj hk source index, refl)
same_kind tiles tags opening run n rows one j k u x y Issue Service m hj hk a c =
    let same : IssueMark x.source x.index ≡ ServiceMark (home tiles y.operation) (count_at tiles (home tiles y.operation) (take k one.order)) = sym a ∙ c.0 in
    absurd (cc)
same_kind tiles tags opening run n rows one j k u x y Service Issue m hj hk a c =
    let same : IssueMark y.source y.index ≡ ServiceMark (home tiles x.operation) (count_at tiles (home tiles x.operation) (take j one.order)) = sym c ∙ a.0 in
    absurd (cc)
same_kind tiles tags opening run n rows one j k u x y Issue Response m hj hk a c = let same : IssueMark x.source x.index ≡ AnswerMark y.source c.0 =
    sym a ∙ c.1 in absurd (cc)
same_kind tiles tags opening run n rows one j k u x y Response Issue m hj hk a c = let same : IssueMark y.source y.index ≡ AnswerMark x.source a.0 =
    sym c ∙ a.1 in absurd (cc)
same_kind tiles tags opening run n rows one j k u x y Service Response m hj hk a c =
    let same : ServiceMark (home tiles x.operation) (count_at tiles (home tiles x.operation) (take j one.order)) ≡ AnswerMark y.source c.0 = sym a.0 ∙ c.1 in
    absurd (cc)
same_kind tiles tags opening run n rows one j k u x y Response Service m hj hk a c =
    let same : ServiceMark (home tiles y.operation) (count_at tiles (home tiles y.operation) (take k one.order)) ≡ AnswerMark x.source a.0 = sym c.0 ∙ a.1 in
    absurd (cc)

-- a service's number is above those of the steps before
served_above : (tiles tags : ℕ) (opening : List ℕ) (run : Run) (n : ℕ) (rows : List Ordered) (one : HasOneOrder tiles tags opening run n rows) (k : ℕ)
    (x : LinearizationPoint)
    → slice_get one.order k ≡ Some x → (t : ℕ) → t < x.step → event_count (run t) < event_count (run x.step)
served_above tiles tags opening run n rows one k x there t l =
    let was = one.services.served k x there in
    let b : ℕ = home tiles x.operation in
    let place : ℕ = count_at tiles b (take k one.order) in
    let e = service_event opening run n b place x.step one.grows was.served (one.legal.within k x there) in
    let s = e.1 in
    rw e.1 (later_counts opening run n t e.0 (ServiceMark b place) one.grows e.2 (omega arith))

-- and an answer's
answered_above : (tiles tags : ℕ) (opening : List ℕ) (run : Run) (n : ℕ) (rows : List Ordered) (one : HasOneOrder tiles tags opening run n rows) (p i t u : ℕ)
    → IsAnsweredAt run p i t → t ≤ n → u < t → event_count (run u) < event_count (run t)
answered_above tiles tags opening run n rows one p i t u first l before =
    let e = answer_event opening run n p i t one.grows first l in
    let s = e.2 in
    rw e.2 (later_counts opening run n u e.0 (AnswerMark p e.1) one.grows e.3 (omega arith))

pub numbers : (tiles tags : ℕ) (opening : List ℕ) (run : Run) (n : ℕ) (rows : List Ordered) → HasOneOrder tiles tags opening run n rows
    → AreEventNumbers (event_count (run n)) rows
numbers tiles tags opening run n rows one =
    let event : (k m : ℕ) (row : Ordered) (d : EventKind) (h : slice_get rows k ≡ Some row) → event_number row d ≡ Some m
    → (at : PointOf tiles run n one.order k row) × RowEvent tiles run n one.order k at.point d m =
    λ k m row d h g. let at = point_of tiles run n one.order rows one.numbered k row h in
    (at, row_event tiles tags opening run n rows one k m at.point row d at.there at.is g) in
    record {
      issued_first = λ k row h.
          let at = point_of tiles run n one.order rows one.numbered k row h in
          let t : ℕ = at.is.issued.0 in
          let before = issued_before opening run n one.order one.legal k at.point t at.there at.is.issued.1 in
          omega (arith, at.is.issued.2, at.is.served, served_above tiles tags opening run n rows one k at.point at.there t before);
      answered_last = λ k m row h g.
          let at = point_of tiles run n one.order rows one.numbered k row h in
          let x : LinearizationPoint = at.point in
          let number : IsAnswerNumber run n x.source x.index (Some m) = subst (IsAnswerNumber run n x.source x.index) g at.is.answered in
          let after = answered_after opening run n one.order one.legal one.grows k x number.0 at.there number.2 number.1 in
          omega (arith, at.is.served, number.3, answered_above tiles tags opening run n rows one x.source x.index number.0 x.step number.2 number.1 after);
      rising = λ j k row other l hj hk.
          let x = point_of tiles run n one.order rows one.numbered j row hj in
          let y = point_of tiles run n one.order rows one.numbered k other hk in
          let step = one.legal.rising j k x.point y.point l x.there y.there in
          omega (arith, x.is.served, y.is.served, served_above tiles tags opening run n rows one k y.point y.there x.point.step step);
      distinct = λ j k m row other d e hj hk gd ge.
          let x = event j m row d hj gd in
          let y = event k m other e hk ge in
          let same = one_event opening run n x.1.u y.1.u x.1.mark y.1.mark one.grows x.1.event y.1.event (sym x.1.counts ∙ y.1.counts) in
          let kind : IsEventOf tiles run one.order k y.0.point e x.1.u x.1.mark =
          subst (λ (u : ℕ). IsEventOf tiles run one.order k y.0.point e u x.1.mark) (sym same.0)
          (subst (λ (m : Mark). IsEventOf tiles run one.order k y.0.point e y.1.u m) (sym same.1) y.1.kind) in
          same_kind tiles tags opening run n rows one j k x.1.u x.0.point y.0.point d e x.1.mark x.0.there y.0.there x.1.kind kind;
      low = λ k m row d h g.
          let x = event k m row d h g in
          omega (arith, x.1.counts, later_counts opening run n x.1.u x.1.u x.1.mark one.grows x.1.event (omega arith));
      high = λ k m row d h g.
          let x = event k m row d h g in
          let within = x.1.event.within in
          omega (arith, x.1.counts, count_monotone opening run n one.grows (suc x.1.u) n (omega arith) (omega arith));
    }

-- said of rows: an answer's number below an issue's
pub real_time_of_rows : (tiles tags : ℕ) (opening : List ℕ) (run : Run) (n : ℕ) (rows : List Ordered) → HasOneOrder tiles tags opening run n rows
    → (j k m : ℕ) (x y : Ordered) → slice_get rows j ≡ Some x → slice_get rows k ≡ Some y → x.answered ≡ Some m → m < y.issued → j < k
real_time_of_rows tiles tags opening run n rows one j k m x y hj hk g l =
    let are = numbers tiles tags opening run n rows one in
    let a = are.answered_last j m x hj g in
    let c = are.issued_first k y hk in
    ⊎_elim
    (λ (before : j < k). before)
    (λ (after : k ≤ j). ⊎_elim
    (λ (later : k < j). let r = are.rising k j y x later hk hj in absurd (omega arith))
    (λ (equal : j ≤ k).
    let same : k ≡ j = omega arith in
    let moved : slice_get rows j ≡ Some y = subst (λ (i : ℕ). slice_get rows i ≡ Some y) same hk in
    let e : x ≡ y = same_Some x y (sym hj ∙ moved) in
    let served = ap (λ (z : Ordered). z.served) e in
    absurd (omega arith))
    (cases_lt k j))
    (cases_lt j k)
