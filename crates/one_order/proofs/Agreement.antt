-- What is said of a run's first n steps is said of every run that shows the same in them; and a history is made step by step.
use Rattle.std.proofs.Common.{◌≡◌, ⊎_elim, ℕ, zero, suc, ◌<◌, ◌≤◌, List, ◌++◌, length, take, Option, Some, None, refl, sym, ◌∙◌, ap, subst, arith, slice_get}
use Rattle.std.proofs.lemmas.Bool.{cases_lt}
use Rattle.std.proofs.lemmas.Option.{slice_get_within}
use Rattle.one_order.specs.declared.ordered.Ordered.{Ordered}
use Rattle.one_order.specs.Observed.{Observed, Run, list_at, total, event_count, IsFirst, HasIssued, HasServed, HasAnswered, IsOfMachine}
use Rattle.one_order.specs.Order.{LinearizationPoint, home, count_at, IsLegalOrder, IsServiceOrder}
use Rattle.one_order.specs.Growth.{OnlyGrows}
use Rattle.one_order.specs.Rows.{IsIssueNumber, IsAnswerNumber, AreIssueNumbers, AreRowsOf}
use Rattle.one_order.proofs.Account.{AnswerTurns, Account}
use Rattle.one_order.specs.OneOrder.{HasOneOrder}
use Rattle.one_order.specs.Events.{Event, happens, nothing_yet, points_of, order_after, MayHappen, IsHistory}
use Rattle.one_order.proofs.History.{account}

-- two runs show the same after each of the first n steps
abbrev pub Agree : Run → Run → ℕ → Type 0
Agree run other n = (k : ℕ) → k ≤ n → run k ≡ other k

pub first_agree : (P : Observed → Type 0) (run other : Run) (n t : ℕ) → Agree run other n → t ≤ n → IsFirst (λ k. P (run k)) t → IsFirst (λ k. P (other k)) t
first_agree P run other n t agree l first = record {
  holds = subst P (agree t l) first.holds;
  not_before = λ k below h. first.not_before k below (subst P (sym (agree k (omega arith))) h);
}

-- what holds after n steps first held by then
pub first_within : (P : Observed → Type 0) (run : Run) (n t : ℕ) → P (run n) → IsFirst (λ k. P (run k)) t → t ≤ n
first_within P run n t h first = ⊎_elim (λ (l : n < t). absurd (first.not_before n l h)) (λ (g : t ≤ n). g) (cases_lt n t)

count_agree : (run other : Run) (n t m : ℕ) → Agree run other n → t ≤ n → m ≡ event_count (run t) → m ≡ event_count (other t)
count_agree run other n t m agree l h = h ∙ ap event_count (agree t l)

pub legal_agree : (opening : List ℕ) (run other : Run) (n : ℕ) (order : List LinearizationPoint) → Agree run other n → IsLegalOrder opening run n order
    → IsLegalOrder opening other n order
legal_agree opening run other n order agree legal =
    let now : run n ≡ other n = agree n (omega arith) in
    record {
      rising = legal.rising;
      within = legal.within;
      distinct = legal.distinct;
      issued = λ k x h.
          let was = legal.issued k x h in
          let within = legal.within k x h in
          let before = was.before in
          record {
            operation = subst (λ (s : Observed). slice_get (list_at s.issued x.source) x.index ≡ Some x.operation) now was.operation;
            at = was.at;
            issued = first_agree (λ s. HasIssued s x.source x.index) run other n was.at agree (omega arith) was.issued;
            before = was.before;
          };
      answered = λ p i a h.
          let there : slice_get (list_at (run n).answers p) i ≡ Some a = subst (λ (s : Observed). slice_get (list_at s.answers p) i ≡ Some a) (sym now) h in
          let effect = legal.answered p i a there in
          let within = first_within (λ s. HasAnswered s p a.index) run n effect.at (i, a, there, refl) effect.answered in
          record {
            k = effect.k;
            point = effect.point;
            there = effect.there;
            source = effect.source;
            index = effect.index;
            op = effect.op;
            at = effect.at;
            answered = first_agree (λ s. HasAnswered s p a.index) run other n effect.at agree within effect.answered;
            before = effect.before;
            reply = effect.reply;
          };
      memory = ap (λ (s : Observed). s.memory) (sym now) ∙ legal.memory;
    }

pub services_agree : (tiles : ℕ) (opening : List ℕ) (run other : Run) (n : ℕ) (order : List LinearizationPoint) → Agree run other n
    → ((k : ℕ) (x : LinearizationPoint) → slice_get order k ≡ Some x → x.step ≤ n) → IsServiceOrder tiles opening run n order
    → IsServiceOrder tiles opening other n order
services_agree tiles opening run other n order agree within services =
    let now : run n ≡ other n = agree n (omega arith) in
    record {
      served = λ k x h.
          let was = services.served k x h in
          let b : ℕ = home tiles x.operation in
          let place : ℕ = count_at tiles b (take k order) in
          record {
            entry = was.entry;
            there = ap (λ (s : Observed). slice_get (list_at s.entries b) place) (sym now) ∙ was.there;
            source = was.source;
            address = was.address;
            op = was.op;
            reply = was.reply;
            served = first_agree (λ s. HasServed s b place) run other n x.step agree (within k x h) was.served;
          };
      no_others = λ b. ap (λ (s : Observed). length (list_at s.entries b)) (sym now) ∙ services.no_others b;
      places = λ p i a h. services.places p i a (ap (λ (s : Observed). slice_get (list_at s.answers p) i) now ∙ h);
      once = λ p i j a c hi hj same. services.once p i j a c (ap (λ (s : Observed). slice_get (list_at s.answers p) i) now ∙ hi)
          (ap (λ (s : Observed). slice_get (list_at s.answers p) j) now ∙ hj) same;
      in_turn = λ k i y o h less issued same. services.in_turn k i y o h less (ap (λ (s : Observed). slice_get (list_at s.issued y.source) i) now ∙ issued)
          same;
      answer_turns = subst AnswerTurns now services.answer_turns;
    }

pub answer_number_agree : (run other : Run) (n p i : ℕ) (m : Option ℕ) → Agree run other n → IsAnswerNumber run n p i m → IsAnswerNumber other n p i m
answer_number_agree run other n p i None agree is = λ h. is (subst (λ (s : Observed). HasAnswered s p i) (sym (agree n (omega arith))) h)
answer_number_agree run other n p i (Some m) agree is =
    (is.0, is.1, first_agree (λ s. HasAnswered s p i) run other n is.0 agree is.1 is.2, count_agree run other n is.0 m agree is.1 is.3)

pub issue_number_agree : (run other : Run) (n p i m : ℕ) → Agree run other n → HasIssued (run n) p i → IsIssueNumber run p i m → IsIssueNumber other p i m
issue_number_agree run other n p i m agree there is =
    let within = first_within (λ s. HasIssued s p i) run n is.0 there is.1 in
    (is.0, first_agree (λ s. HasIssued s p i) run other n is.0 agree within is.1, count_agree run other n is.0 m agree within is.2)

pub issue_numbers_agree : (run other : Run) (n : ℕ) (numbers : List (List ℕ)) → Agree run other n → AreIssueNumbers run n numbers
    → AreIssueNumbers other n numbers
issue_numbers_agree run other n numbers agree are =
    let now : run n ≡ other n = agree n (omega arith) in
    record {
      processors = are.processors ∙ ap (λ (s : Observed). length s.issued) now;
      count = λ p. are.count p ∙ ap (λ (s : Observed). length (list_at s.issued p)) now;
      each = λ p i m h. issue_number_agree run other n p i m agree (omega (arith, slice_get_within (list_at numbers p) i m h, are.count p)) (are.each p i m h);
    }

pub rows_agree : (tiles : ℕ) (opening : List ℕ) (run other : Run) (n : ℕ) (order : List LinearizationPoint) (rows : List Ordered) → Agree run other n
    → IsLegalOrder opening run n order
    → AreRowsOf tiles run n order rows → AreRowsOf tiles other n order rows
rows_agree tiles opening run other n order rows agree legal are = record {
  count = are.count;
  each = λ k x row hx hr.
      let is = are.each k x row hx hr in
      let was = legal.issued k x hx in
      record {
        source = is.source;
        index = is.index;
        bank = is.bank;
        place = is.place;
        issued = issue_number_agree run other n x.source x.index row.issued agree
            (slice_get_within (list_at (run n).issued x.source) x.index x.operation was.operation) is.issued;
        served = count_agree run other n x.step row.served agree (legal.within k x hx) is.served;
        answered = answer_number_agree run other n x.source x.index row.answered agree is.answered;
      };
}

pub grows_agree : (opening : List ℕ) (run other : Run) (n : ℕ) → Agree run other n → OnlyGrows opening run n → OnlyGrows opening other n
grows_agree opening run other n agree growing =
    let at : (k : ℕ) → k < n → run k ≡ other k = λ k l. agree k (omega arith) in
    let next : (k : ℕ) → k < n → run (suc k) ≡ other (suc k) = λ k l. agree (suc k) (omega arith) in
    let zero_is : run 0 ≡ other 0 = agree 0 (omega arith) in
    record {
      empty = ap event_count (sym zero_is) ∙ growing.empty;
      words = ap (λ (s : Observed). s.memory) (sym zero_is) ∙ growing.words;
      issues_stay = λ k p i o l h. ap (λ (s : Observed). slice_get (list_at s.issued p) i) (sym (next k l))
          ∙ growing.issues_stay k p i o l (ap (λ (s : Observed). slice_get (list_at s.issued p) i) (at k l) ∙ h);
      answers_stay = λ k p i a l h. ap (λ (s : Observed). slice_get (list_at s.answers p) i) (sym (next k l))
          ∙ growing.answers_stay k p i a l (ap (λ (s : Observed). slice_get (list_at s.answers p) i) (at k l) ∙ h);
      entries_stay = λ k b place e l h. ap (λ (s : Observed). slice_get (list_at s.entries b) place) (sym (next k l))
          ∙ growing.entries_stay k b place e l (ap (λ (s : Observed). slice_get (list_at s.entries b) place) (at k l) ∙ h);
      one = λ k l. omega (arith, growing.one k l, ap event_count (at k l), ap event_count (next k l));
      words_stay = λ k l h. ap (λ (s : Observed). s.memory) (sym (next k l))
          ∙ (growing.words_stay k l (ap (λ (s : Observed). total s.entries) (next k l) ∙ (h ∙ ap (λ (s : Observed). total s.entries) (sym (at k l))))
          ∙ ap (λ (s : Observed). s.memory) (at k l));
    }

-- A run's one order is that of every run that shows the same.
pub one_order_agree : (tiles tags : ℕ) (opening : List ℕ) (run other : Run) (n : ℕ) (rows : List Ordered) → Agree run other n
    → HasOneOrder tiles tags opening run n rows → HasOneOrder tiles tags opening other n rows
one_order_agree tiles tags opening run other n rows agree one = record {
  order = one.order;
  legal = legal_agree opening run other n one.order agree one.legal;
  services = services_agree tiles opening run other n one.order agree one.legal.within one.services;
  numbered = rows_agree tiles opening run other n one.order rows agree one.legal one.numbered;
  grows = grows_agree opening run other n agree one.grows;
  shown = subst (IsOfMachine tiles tags (length opening)) (agree n (omega arith)) one.shown;
}

-- Events that agree give one order of the services.
pub order_agree : (event other : ℕ → Event) (n : ℕ) → ((k : ℕ) → k < n → event k ≡ other k) → order_after event n ≡ order_after other n
order_agree event other zero agree = refl
order_agree event other (suc n) agree =
    ap (λ xs. xs ++ points_of (event n) (suc n)) (order_agree event other n (λ k l. agree k (omega arith)))
    ∙ ap (λ e. order_after other n ++ points_of e (suc n)) (agree n (omega arith))

pub history_agree : (tiles tags : ℕ) (opening : List ℕ) (run other : Run) (event events : ℕ → Event) (n : ℕ) → Agree run other n
    → ((k : ℕ) → k < n → event k ≡ events k)
    → IsHistory tiles tags opening run event n → IsHistory tiles tags opening other events n
history_agree tiles tags opening run other event events n agree same h = record {
  start = sym (agree 0 (omega arith)) ∙ h.start;
  each = λ k l. sym (agree (suc k) (omega arith))
      ∙ (h.each k l ∙ (ap (λ s. happens tiles s (event k)) (agree k (omega arith)) ∙ ap (happens tiles (other k)) (same k l)));
  may = λ k l. subst (MayHappen tiles tags opening (other k) (order_after events k)) (same k l)
      (subst (λ (xs : List LinearizationPoint). MayHappen tiles tags opening (other k) xs (event k)) (order_agree event events k (λ j m. same j (omega arith)))
      (subst (λ (s : Observed). MayHappen tiles tags opening s (order_after event k) (event k)) (agree k (omega arith)) (h.may k l)));
}

-- One more event.
pub history_more : (tiles tags : ℕ) (opening : List ℕ) (run : Run) (event : ℕ → Event) (n : ℕ) → IsHistory tiles tags opening run event n
    → run (suc n) ≡ happens tiles (run n) (event n) → MayHappen tiles tags opening (run n) (order_after event n) (event n)
    → IsHistory tiles tags opening run event (suc n)
history_more tiles tags opening run event n h next may = record {
  start = h.start;
  each = λ k l. ⊎_elim
      (λ (below : k < n). h.each k below)
      (λ (above : n ≤ k).
      let here : n ≡ k = omega arith in
      subst (λ (j : ℕ). run (suc j) ≡ happens tiles (run j) (event j)) here next)
      (cases_lt k n);
  may = λ k l. ⊎_elim
      (λ (below : k < n). h.may k below)
      (λ (above : n ≤ k).
      let here : n ≡ k = omega arith in
      subst (λ (j : ℕ). MayHappen tiles tags opening (run j) (order_after event j) (event j)) here may)
      (cases_lt k n);
}

-- A core's proof, step by step: its own invariant, with the account of what is shown, allows the next event and goes on.
pub history_by : (Inv : ℕ → Type 0) (tiles tags : ℕ) (opening : List ℕ) (run : Run) (event : ℕ → Event) (n : ℕ) → run 0 ≡ nothing_yet tiles opening
    → ((k : ℕ) → k < n → run (suc k) ≡ happens tiles (run k) (event k)) → Inv 0
    → ((k : ℕ) → k < n → Account tiles tags opening (run k) (order_after event k) → Inv k
    → MayHappen tiles tags opening (run k) (order_after event k) (event k) × Inv (suc k))
    → IsHistory tiles tags opening run event n × Inv n
history_by Inv tiles tags opening run event zero start each first goes_on =
    (record { start = start; each = λ k l. absurd (omega arith); may = λ k l. absurd (omega arith) }, first)
history_by Inv tiles tags opening run event (suc n) start each first goes_on =
    let before = history_by Inv tiles tags opening run event n start (λ k l. each k (omega arith)) first (λ k l. goes_on k (omega arith)) in
    let now = goes_on n (omega arith) (account tiles tags opening run event n before.0) before.1 in
    (history_more tiles tags opening run event n before.0 (each n (omega arith)) now.0, now.1)
