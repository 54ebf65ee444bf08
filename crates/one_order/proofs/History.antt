-- A run whose steps each make one event that may happen: the order of its services is legal.
use Rattle.std.proofs.Common.{◌≡◌, ◌⊎◌, inl, inr, ⊎_elim, ℕ, zero, suc, ◌+◌, ◌<◌, ◌≤◌, ◌==◌, cond, List, ◌++◌, length, take, Some, refl, sym, ◌∙◌, ap, subst}
use Rattle.std.proofs.Common.{arith, slice_get, eq-eqb}
use Rattle.std.proofs.lemmas.List.{take_at, append-nil}
use Rattle.std.proofs.lemmas.Bool.{cases_lt, cond-true}
use Rattle.std.proofs.lemmas.Option.{slice_get_within}
use Rattle.packet.specs.declared.kinds.Operation.{Operation}
use Rattle.torus.specs.declared.step.Tag.{Tag}
use Rattle.one_order.specs.declared.answer.Answer.{Answer}
use Rattle.one_order.specs.Observed.{Observed, Run, list_at, IsFirst, HasAnswered, IsIssuedAt, IsServedAt, IsAnsweredAt}
use Rattle.one_order.specs.Order.{LinearizationPoint, home, count_at, IsLegalOrder, IsServiceOrder}
use Rattle.one_order.specs.Events.{Event, Nothing, Issued, Served, Answered, push_at, event_entry, happens, points_of, order_after, MayHappen, TellsService}
use Rattle.one_order.specs.Events.{IsHistory}
use Rattle.one_order.proofs.Lists.{push_at_cases, push_at_keeps, length_list_at_push, length_list_at_push_grows, get_push_cases}
use Rattle.one_order.proofs.Folds.{before_kept}
use Rattle.one_order.proofs.Account.{Account, home_within, tells_more}
use Rattle.one_order.proofs.AccountKept.{keeps, account_none}

pub shorter : (tiles tags : ℕ) (opening : List ℕ) (run : Run) (event : ℕ → Event) (n : ℕ) → IsHistory tiles tags opening run event (suc n)
    → IsHistory tiles tags opening run event n
shorter tiles tags opening run event n h = record { start = h.start; each = λ k l. h.each k (omega arith); may = λ k l. h.may k (omega arith) }

pub up_to : (tiles tags : ℕ) (opening : List ℕ) (run : Run) (event : ℕ → Event) (n k : ℕ) → k ≤ n → IsHistory tiles tags opening run event n
    → IsHistory tiles tags opening run event k
up_to tiles tags opening run event n k l h = record { start = h.start; each = λ j i. h.each j (omega arith); may = λ j i. h.may j (omega arith) }

pub account : (tiles tags : ℕ) (opening : List ℕ) (run : Run) (event : ℕ → Event) (n : ℕ) → IsHistory tiles tags opening run event n
    → Account tiles tags opening (run n) (order_after event n)
account tiles tags opening run event zero h = rw h.start (account_none tiles tags opening)
account tiles tags opening run event (suc n) h =
    rw (h.each n (omega arith))
    (keeps tiles tags opening (run n) (order_after event n) (event n) (suc n)
    (account tiles tags opening run event n (shorter tiles tags opening run event n h)) (h.may n (omega arith)))

-- the first moment at which a length is past i
pub search_first : (len : ℕ → ℕ) (i n : ℕ) → ((t : ℕ) × IsFirst (λ k. i < len k) t × (t ≤ n)) ⊎ ((k : ℕ) → k ≤ n → i < len k → ⊥)
search_first len i zero = ⊎_elim
    (λ (l : i < len 0). inl (0, record { holds = l; not_before = λ k h. absurd (omega arith) }, omega arith))
    (λ (g : len 0 ≤ i). inr (λ k h l. let P : ℕ → Type 0 = λ m. i < len m in let at : i < len 0 = subst P (let z : k ≡ 0 = omega arith in z) l in
    absurd (omega arith)))
    (cases_lt i (len 0))
search_first len i (suc n) = ⊎_elim
    (λ f. inl (f.0, f.1, omega arith))
    (λ none. ⊎_elim
    (λ (l : i < len (suc n)). inl (suc n, record { holds = l; not_before = λ k h. none k (omega arith) }, omega arith))
    (λ (g : len (suc n) ≤ i). inr (λ k h l. ⊎_elim
    (λ (below : k < suc n). none k (omega arith) l)
    (λ (above : suc n ≤ k). let P : ℕ → Type 0 = λ m. i < len m in let at : i < len (suc n) = subst P (let z : k ≡ suc n = omega arith in z) l in
    absurd (omega arith))
    (cases_lt k (suc n))))
    (cases_lt i (len (suc n))))
    (search_first len i n)

pub first_below : (len : ℕ → ℕ) (i n : ℕ) → i < len n → (t : ℕ) × IsFirst (λ k. i < len k) t × (t ≤ n)
first_below len i n h = ⊎_elim (λ f. f) (λ none. absurd (none n (omega arith) h)) (search_first len i n)

-- what is at k in an order after a step was there before, or is the step's service
pub points_cases : (order : List LinearizationPoint) (e : Event) (t k : ℕ) (x : LinearizationPoint) → slice_get (order ++ points_of e t) k ≡ Some x →
    (slice_get order k ≡ Some x) ⊎ ((k ≡ length order) × (x.step ≡ t) × ((tag : Tag) × (e ≡ Served x.source x.index tag x.operation)))
points_cases order Nothing t k x h = inl (ap (λ xs. slice_get xs k) (sym (append-nil order)) ∙ h)
points_cases order (Issued p o) t k x h = inl (ap (λ xs. slice_get xs k) (sym (append-nil order)) ∙ h)
points_cases order (Answered p a) t k x h = inl (ap (λ xs. slice_get xs k) (sym (append-nil order)) ∙ h)
points_cases order (Served p i tag o) t k x h = ⊎_elim
    (λ l. inl l)
    (λ r. inr (r.0, ap (λ (y : LinearizationPoint). y.step) (sym r.1), (tag, ap (λ (y : LinearizationPoint). Served y.source y.index tag y.operation) r.1)))
    (get_push_cases order (record { source = p; index = i; operation = o; step = t }) k x h)

pub steps_within : (event : ℕ → Event) (n k : ℕ) (x : LinearizationPoint) → slice_get (order_after event n) k ≡ Some x → x.step ≤ n
steps_within event zero k x h = absurd (cc)
steps_within event (suc n) k x h = ⊎_elim
    (λ l. let le = steps_within event n k x l in omega arith)
    (λ r. let e = r.1 in omega arith)
    (points_cases (order_after event n) (event n) (suc n) k x h)

pub steps_rise : (event : ℕ → Event) (n j k : ℕ) (x y : LinearizationPoint) → j < k → slice_get (order_after event n) j ≡ Some x
    → slice_get (order_after event n) k ≡ Some y → x.step < y.step
steps_rise event zero j k x y l hj hk = absurd (cc)
steps_rise event (suc n) j k x y l hj hk = ⊎_elim
    (λ (lj : slice_get (order_after event n) j ≡ Some x). ⊎_elim
    (λ (lk : slice_get (order_after event n) k ≡ Some y). steps_rise event n j k x y l lj lk)
    (λ rk. let le = steps_within event n j x lj in let e = rk.1 in omega arith)
    (points_cases (order_after event n) (event n) (suc n) k y hk))
    (λ rj. ⊎_elim
    (λ (lk : slice_get (order_after event n) k ≡ Some y). let w = slice_get_within (order_after event n) k y lk in let e = rj.0 in absurd (omega arith))
    (λ rk. let e = rj.0 in let f = rk.0 in absurd (omega arith))
    (points_cases (order_after event n) (event n) (suc n) k y hk))
    (points_cases (order_after event n) (event n) (suc n) j x hj)

entries_grow : (tiles : ℕ) (s : Observed) (e : Event) (b : ℕ) → length (list_at s.entries b) ≤ length (list_at (happens tiles s e).entries b)
entries_grow tiles s Nothing b = omega arith
entries_grow tiles s (Issued p o) b = omega arith
entries_grow tiles s (Served p i tag o) b = length_list_at_push_grows s.entries (home tiles o) (event_entry p tag o s.memory) b
entries_grow tiles s (Answered p a) b = omega arith

served_longer : (tiles : ℕ) (s : Observed) (p i : ℕ) (tag : Tag) (o : Operation) → home tiles o < length s.entries
    → length (list_at s.entries (home tiles o)) < length (list_at (happens tiles s (Served p i tag o)).entries (home tiles o))
served_longer tiles s p i tag o h =
    let b : ℕ = home tiles o in
    let one : length (list_at (push_at s.entries b (event_entry p tag o s.memory)) b) ≡ length (list_at s.entries b) + cond (b == b) 1 0 =
    length_list_at_push s.entries b (event_entry p tag o s.memory) b h in
    let same = cond-true {A = ℕ} (b == b) 1 0 (eq-eqb b b refl) in
    omega (arith, one, same)

answered_grows : (tiles : ℕ) (s : Observed) (e : Event) (p i : ℕ) → HasAnswered s p i → HasAnswered (happens tiles s e) p i
answered_grows tiles s Nothing p i h = h
answered_grows tiles s (Issued q o) p i h = h
answered_grows tiles s (Served q j tag o) p i h = h
answered_grows tiles s (Answered q a) p i h = (h.0, h.1, push_at_keeps s.answers q a p h.0 h.1 h.2, h.3)

pub entries_monotone : (tiles tags : ℕ) (opening : List ℕ) (run : Run) (event : ℕ → Event) (n : ℕ) → IsHistory tiles tags opening run event n → (b j : ℕ)
    → j ≤ n → length (list_at (run j).entries b) ≤ length (list_at (run n).entries b)
entries_monotone tiles tags opening run event zero h b j l = let z : j ≡ 0 = omega arith in rw z (omega arith)
entries_monotone tiles tags opening run event (suc n) h b j l = ⊎_elim
    (λ (below : j < suc n).
    let m = entries_monotone tiles tags opening run event n (shorter tiles tags opening run event n h) b j (omega arith) in
    let g = entries_grow tiles (run n) (event n) b in
    let e = ap (λ (s : Observed). length (list_at s.entries b)) (h.each n (omega arith)) in
    omega arith)
    (λ (above : suc n ≤ j). let z : j ≡ suc n = omega arith in rw z (omega arith))
    (cases_lt j (suc n))

pub answered_monotone : (tiles tags : ℕ) (opening : List ℕ) (run : Run) (event : ℕ → Event) (n : ℕ) → IsHistory tiles tags opening run event n → (p i j : ℕ)
    → j ≤ n → HasAnswered (run j) p i → HasAnswered (run n) p i
answered_monotone tiles tags opening run event zero h p i j l a = let z : j ≡ 0 = omega arith in subst (λ (m : ℕ). HasAnswered (run m) p i) z a
answered_monotone tiles tags opening run event (suc n) h p i j l a = ⊎_elim
    (λ (below : j < suc n).
    subst (λ (s : Observed). HasAnswered s p i) (sym (h.each n (omega arith)))
    (answered_grows tiles (run n) (event n) p i
    (answered_monotone tiles tags opening run event n (shorter tiles tags opening run event n h) p i j (omega arith) a)))
    (λ (above : suc n ≤ j). let z : j ≡ suc n = omega arith in subst (λ (m : ℕ). HasAnswered (run m) p i) z a)
    (cases_lt j (suc n))

-- when the k-th of the order was issued and served
pub record Timed (tiles : ℕ) (run : Run) (n : ℕ) (order : List LinearizationPoint) (k : ℕ) (x : LinearizationPoint) : Type 0 where
  pub t : ℕ
  pub issued : IsIssuedAt run x.source x.index t
  pub before : t < x.step
  pub served : IsServedAt run (home tiles x.operation) (count_at tiles (home tiles x.operation) (take k order)) x.step

pub timed : (tiles tags : ℕ) (opening : List ℕ) (run : Run) (event : ℕ → Event) (n : ℕ) → IsHistory tiles tags opening run event n
    → (k : ℕ) (x : LinearizationPoint) → slice_get (order_after event n) k ≡ Some x → Timed tiles run n (order_after event n) k x
timed tiles tags opening run event zero h k x there = absurd (cc)
timed tiles tags opening run event (suc n) h k x there = ⊎_elim
    (λ (l : slice_get (order_after event n) k ≡ Some x).
    let old = timed tiles tags opening run event n (shorter tiles tags opening run event n h) k x l in
    record {
      t = old.t;
      issued = old.issued;
      before = old.before;
      served = subst (λ (xs : List LinearizationPoint). IsServedAt run (home tiles x.operation) (count_at tiles (home tiles x.operation) xs) x.step)
          (sym (before_kept (order_after event n) (points_of (event n) (suc n)) k x l)) old.served;
    })
    (λ (r : (k ≡ length (order_after event n)) × (x.step ≡ suc n) × ((tag : Tag) × (event n ≡ Served x.source x.index tag x.operation))).
    let earlier = shorter tiles tags opening run event n h in
    let order = order_after event n in
    let acc = account tiles tags opening run event n earlier in
    let may : MayHappen tiles tags opening (run n) order (Served x.source x.index r.2.0 x.operation) =
    subst (MayHappen tiles tags opening (run n) order) r.2.1 (h.may n (omega arith)) in
    let first = first_below (λ k. length (list_at (run k).issued x.source)) x.index n
    (slice_get_within (list_at (run n).issued x.source) x.index x.operation may.issued) in
    let b : ℕ = home tiles x.operation in
    let b_in : b < tiles = home_within tiles tags (length opening) (run n) x.source x.index x.operation acc.shown may.issued in
    let le = first.2 in
    let s : x.step ≡ suc n = r.1 in
    let next : run (suc n) ≡ happens tiles (run n) (Served x.source x.index r.2.0 x.operation) = h.each n (omega arith) ∙ ap (happens tiles (run n)) r.2.1 in
    let place : count_at tiles b (take k (order ++ points_of (event n) (suc n))) ≡ length (list_at (run n).entries b) =
    ap (count_at tiles b) (take_at order (points_of (event n) (suc n)) k (sym r.0)) ∙ sym (acc.counts b) in
    record {
      t = first.0;
      issued = first.1;
      before = omega arith;
      served = rw (place, s) (record {
        holds = subst (λ (s : Observed). length (list_at (run n).entries b) < length (list_at s.entries b)) (sym next)
            (served_longer tiles (run n) x.source x.index r.2.0 x.operation (subst (λ (m : ℕ). b < m) (sym acc.shown.banks) b_in));
        not_before = λ j l g. let m = entries_monotone tiles tags opening run event n earlier b j (omega arith) in absurd (omega arith);
      });
    })
    (points_cases (order_after event n) (event n) (suc n) k x there)

-- an answer in what is shown after an event was there before, or is the event's
pub answers_cases : (tiles : ℕ) (s : Observed) (e : Event) (p i : ℕ) (a : Answer) → slice_get (list_at (happens tiles s e).answers p) i ≡ Some a
    → (slice_get (list_at s.answers p) i ≡ Some a) ⊎ (e ≡ Answered p a)
answers_cases tiles s Nothing p i a h = inl h
answers_cases tiles s (Issued q o) p i a h = inl h
answers_cases tiles s (Served q j tag o) p i a h = inl h
answers_cases tiles s (Answered q b) p i a h =
    ⊎_elim (λ l. inl l) (λ r. inr (ap (λ (m : ℕ). Answered m b) (sym r.0) ∙ ap (Answered p) r.2)) (push_at_cases s.answers q b p i a h)

-- when an answer came
pub record TimedAnswer (tiles : ℕ) (opening : List ℕ) (run : Run) (order : List LinearizationPoint) (n p : ℕ) (a : Answer) : Type 0 where
  pub tells : TellsService tiles opening order p a
  pub t : ℕ
  pub answered : IsAnsweredAt run p a.index t
  pub after : tells.point.step < t
  pub within : t ≤ n

pub timed_answer : (tiles tags : ℕ) (opening : List ℕ) (run : Run) (event : ℕ → Event) (n : ℕ) → IsHistory tiles tags opening run event n
    → (p i : ℕ) (a : Answer) → slice_get (list_at (run n).answers p) i ≡ Some a → TimedAnswer tiles opening run (order_after event n) n p a
timed_answer tiles tags opening run event zero h p i a there =
    let acc = account_none tiles tags opening in
    let old = acc.answers p i a (ap (λ (s : Observed). slice_get (list_at s.answers p) i) (sym h.start) ∙ there) in
    let none = old.there in
    absurd (cc)
timed_answer tiles tags opening run event (suc n) h p i a there =
    let earlier = shorter tiles tags opening run event n h in
    let next = h.each n (omega arith) in
    ⊎_elim
    (λ (l : slice_get (list_at (run n).answers p) i ≡ Some a).
    let old = timed_answer tiles tags opening run event n earlier p i a l in
    let le = old.within in
    record {
      tells = tells_more tiles opening (order_after event n) (points_of (event n) (suc n)) p a old.tells;
      t = old.t;
      answered = old.answered;
      after = old.after;
      within = omega arith;
    })
    (λ (is : event n ≡ Answered p a).
    let may : MayHappen tiles tags opening (run n) (order_after event n) (Answered p a) =
    subst (MayHappen tiles tags opening (run n) (order_after event n)) is (h.may n (omega arith)) in
    let le = steps_within event n may.tells.k may.tells.point may.tells.there in
    record {
      tells = tells_more tiles opening (order_after event n) (points_of (event n) (suc n)) p a may.tells;
      t = suc n;
      answered = record {
        holds = (i, a, there, refl);
        not_before = λ j l g. may.first (answered_monotone tiles tags opening run event n earlier p a.index j (omega arith) g);
      };
      after = omega arith;
      within = omega arith;
    })
    (answers_cases tiles (run n) (event n) p i a (ap (λ (s : Observed). slice_get (list_at s.answers p) i) (sym next) ∙ there))

-- The order of the services is legal.
pub legal : (tiles tags : ℕ) (opening : List ℕ) (run : Run) (event : ℕ → Event) (n : ℕ) → IsHistory tiles tags opening run event n
    → IsLegalOrder opening run n (order_after event n)
legal tiles tags opening run event n h =
    let acc = account tiles tags opening run event n h in
    record {
      rising = λ j k x y l hj hk. steps_rise event n j k x y l hj hk;
      within = λ k x hk. steps_within event n k x hk;
      distinct = acc.distinct;
      issued = λ k x hk. let time = timed tiles tags opening run event n h k x hk in
          record { operation = acc.issued k x hk; at = time.t; issued = time.issued; before = time.before };
      answered = λ p i a ha. let time = timed_answer tiles tags opening run event n h p i a ha in
          record {
            k = time.tells.k;
            point = time.tells.point;
            there = time.tells.there;
            source = time.tells.source;
            index = time.tells.index;
            op = time.tells.op;
            at = time.t;
            answered = time.answered;
            before = time.after;
            reply = time.tells.reply;
          };
      memory = acc.memory;
    }

-- It is that of the services.
pub service_order : (tiles tags : ℕ) (opening : List ℕ) (run : Run) (event : ℕ → Event) (n : ℕ) → IsHistory tiles tags opening run event n
    → IsServiceOrder tiles opening run n (order_after event n)
service_order tiles tags opening run event n h =
    let acc = account tiles tags opening run event n h in
    record {
      served = λ k x hk. let e = acc.entries k x hk in let time = timed tiles tags opening run event n h k x hk in
          record { entry = e.entry; there = e.there; source = e.source; address = e.address; op = e.op; reply = e.reply; served = time.served };
      no_others = acc.counts;
      places = λ p i a ha. let at = acc.answers p i a ha in
          record { k = at.k; point = at.point; there = at.there; source = at.source; index = at.index; bank = at.bank; place = at.place };
      once = acc.once;
      in_turn = acc.in_turn;
      answer_turns = acc.answer_turns;
    }
