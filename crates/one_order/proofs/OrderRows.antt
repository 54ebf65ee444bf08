-- The rows of the order, event by event: what a machine that keeps them owes.
use Rattle.std.proofs.Common.{◌≡◌, ◌≢◌, ◌⊎◌, inl, inr, ⊎_elim, ℕ, suc, ◌+◌, List, [], ◌∷◌, ◌++◌, length, Option, Some, None, refl, sym}
use Rattle.std.proofs.Common.{◌∙◌, ap, subst, arith, slice_get, slice_set, set, length-set}
use Rattle.std.proofs.lemmas.Bool.{cases_eq}
use Rattle.std.proofs.lemmas.List.{take_at, length_push, append-nil}
use Rattle.std.proofs.lemmas.Option.{slice_get_within, same_Some}
use Rattle.packet.specs.declared.kinds.Operation.{Operation}
use Rattle.torus.specs.declared.step.Tag.{Tag}
use Rattle.one_order.specs.declared.answer.Answer.{Answer}
use Rattle.one_order.specs.declared.ordered.Ordered.{Ordered}
use Rattle.one_order.specs.Observed.{Observed, Run, list_at, event_count, HasAnswered, IsAnsweredAt}
use Rattle.one_order.specs.Order.{LinearizationPoint, home, count_at}
use Rattle.one_order.specs.Rows.{IsIssueNumber, IsAnswerNumber, IsRowOf, AreRowsOf}
use Rattle.one_order.specs.Events.{Event, Nothing, Issued, Served, Answered, happens, points_of, order_after, MayHappen, IsHistory}
use Rattle.one_order.proofs.Lists.{push_at_new, get_push_cases, within_length, get_set_same}
use Rattle.one_order.proofs.Lists.{get_set_other}
use Rattle.one_order.proofs.Folds.{before_kept}
use Rattle.one_order.proofs.Account.{unserved_unanswered}
use Rattle.one_order.proofs.History.{shorter, account, answers_cases, answered_monotone}
use Rattle.one_order.proofs.Numbers.{answerer_within}

-- who has been answered after a step was before, or is answered by it
answered_before : (tiles tags : ℕ) (opening : List ℕ) (run : Run) (event : ℕ → Event) (n : ℕ) → IsHistory tiles tags opening run event (suc n) → (p i : ℕ)
    → HasAnswered (run (suc n)) p i
    → HasAnswered (run n) p i ⊎ ((a : Answer) × (event n ≡ Answered p a) × (a.index ≡ i))
answered_before tiles tags opening run event n h p i at = ⊎_elim
    (λ old. inl (at.0, at.1, old, at.3))
    (λ new. inr (at.1, new, at.3))
    (answers_cases tiles (run n) (event n) p at.0 at.1 (ap (λ (s : Observed). slice_get (list_at s.answers p) at.0) (sym (h.each n (omega arith))) ∙ at.2))

number_kept : (tiles tags : ℕ) (opening : List ℕ) (run : Run) (event : ℕ → Event) (n : ℕ) → IsHistory tiles tags opening run event (suc n) → (p i : ℕ)
    → ((a : Answer) → event n ≡ Answered p a → a.index ≡ i → ⊥)
    → (m : Option ℕ) → IsAnswerNumber run n p i m → IsAnswerNumber run (suc n) p i m
number_kept tiles tags opening run event n h p i other None is =
    λ at. ⊎_elim (λ old. is old) (λ new. other new.0 new.1 new.2) (answered_before tiles tags opening run event n h p i at)
number_kept tiles tags opening run event n h p i other (Some m) is = (is.0, omega (arith, is.1), is.2, is.3)

-- a row stays while others' events happen, and the order grows
row_kept : (tiles tags : ℕ) (opening : List ℕ) (run : Run) (event : ℕ → Event) (n : ℕ) → IsHistory tiles tags opening run event (suc n)
    → (order more : List LinearizationPoint) (k : ℕ) (x : LinearizationPoint) (row : Ordered)
    → slice_get order k ≡ Some x → ((a : Answer) → event n ≡ Answered x.source a → a.index ≡ x.index → ⊥) → IsRowOf tiles run n order k x row
    → IsRowOf tiles run (suc n) (order ++ more) k x row
row_kept tiles tags opening run event n h order more k x row there other is = record {
  source = is.source;
  index = is.index;
  bank = is.bank;
  place = is.place ∙ ap (count_at tiles (home tiles x.operation)) (sym (before_kept order more k x there));
  issued = is.issued;
  served = is.served;
  answered = number_kept tiles tags opening run event n h x.source x.index other row.answered is.answered;
}

-- Before the first step there are no rows.
pub rows_none : (tiles : ℕ) (run : Run) (event : ℕ → Event) → AreRowsOf tiles run 0 (order_after event 0) []
rows_none tiles run event = record { count = refl; each = λ k x row h. cc }

-- An event that is neither a service nor an answer changes no row.
rows_quiet : (tiles tags : ℕ) (opening : List ℕ) (run : Run) (event : ℕ → Event) (n : ℕ) → IsHistory tiles tags opening run event (suc n)
    → points_of (event n) (suc n) ≡ [] → ((p : ℕ) (a : Answer) → event n ≡ Answered p a → ⊥) → (rows : List Ordered)
    → AreRowsOf tiles run n (order_after event n) rows
    → AreRowsOf tiles run (suc n) (order_after event (suc n)) rows
rows_quiet tiles tags opening run event n h none quiet rows old =
    let order : List LinearizationPoint = order_after event n in
    subst (λ (more : List LinearizationPoint). AreRowsOf tiles run (suc n) (order ++ more) rows) (sym none) (record {
      count = old.count ∙ ap length (sym (append-nil order));
      each = λ k x r hx hr.
          let there : slice_get order k ≡ Some x = sym (ap (λ xs. slice_get xs k) (append-nil order)) ∙ hx in
          row_kept tiles tags opening run event n h order [] k x r there (λ a e _. quiet x.source a e) (old.each k x r there hr);
    })

pub rows_nothing : (tiles tags : ℕ) (opening : List ℕ) (run : Run) (event : ℕ → Event) (n : ℕ) → IsHistory tiles tags opening run event (suc n)
    → event n ≡ Nothing → (rows : List Ordered) → AreRowsOf tiles run n (order_after event n) rows
    → AreRowsOf tiles run (suc n) (order_after event (suc n)) rows
rows_nothing tiles tags opening run event n h is rows old =
    rows_quiet tiles tags opening run event n h (ap (λ e. points_of e (suc n)) is) (λ p a e. let f : Nothing ≡ Answered p a = sym is ∙ e in cc) rows old

pub rows_issued : (tiles tags : ℕ) (opening : List ℕ) (run : Run) (event : ℕ → Event) (n : ℕ) → IsHistory tiles tags opening run event (suc n)
    → (p : ℕ) (o : Operation) → event n ≡ Issued p o → (rows : List Ordered) → AreRowsOf tiles run n (order_after event n) rows
    → AreRowsOf tiles run (suc n) (order_after event (suc n)) rows
rows_issued tiles tags opening run event n h p o is rows old =
    rows_quiet tiles tags opening run event n h (ap (λ e. points_of e (suc n)) is) (λ q a e. let f : Issued p o ≡ Answered q a = sym is ∙ e in cc) rows old

-- A service adds a row with the number of the issue and its own, which is the count of events now.
pub rows_served : (tiles tags : ℕ) (opening : List ℕ) (run : Run) (event : ℕ → Event) (n : ℕ) → IsHistory tiles tags opening run event (suc n)
    → (p i : ℕ) (tag : Tag) (o : Operation) → event n ≡ Served p i tag o → (rows : List Ordered) (row : Ordered)
    → AreRowsOf tiles run n (order_after event n) rows
    → row.source ≡ p → row.index ≡ i → row.bank ≡ home tiles o → row.place ≡ length (list_at (run n).entries (home tiles o))
    → IsIssueNumber run p i row.issued → row.served ≡ event_count (run (suc n)) → row.answered ≡ None
    → AreRowsOf tiles run (suc n) (order_after event (suc n)) (rows ++ row ∷ [])
rows_served tiles tags opening run event n h p i tag o is rows row old source index bank place issued served answered =
    let order : List LinearizationPoint = order_after event n in
    let new : LinearizationPoint = record { source = p; index = i; operation = o; step = suc n } in
    let acc = account tiles tags opening run event n (shorter tiles tags opening run event n h) in
    let may : MayHappen tiles tags opening (run n) order (Served p i tag o) = subst (MayHappen tiles tags opening (run n) order) is (h.may n (omega arith)) in
    let grown : order_after event (suc n) ≡ order ++ new ∷ [] = ap (λ (e : Event). order ++ points_of e (suc n)) is in
    -- a service answers nobody
    let quiet : (q : ℕ) (a : Answer) → event n ≡ Answered q a → ⊥ = λ q a e. let f : Served p i tag o ≡ Answered q a = sym is ∙ e in cc in
    subst (λ (xs : List LinearizationPoint). AreRowsOf tiles run (suc n) xs (rows ++ row ∷ [])) (sym grown) (record {
      count = omega (arith, old.count, length_push rows row, length_push order new);
      each = λ k x r hx hr. ⊎_elim
          (λ (lx : slice_get order k ≡ Some x). ⊎_elim
          (λ (lr : slice_get rows k ≡ Some r). row_kept tiles tags opening run event n h order (new ∷ []) k x r lx (λ a e _. quiet x.source a e)
          (old.each k x r lx lr))
          (λ (nr : (k ≡ length rows) × (row ≡ r)). absurd (omega (arith, slice_get_within order k x lx, nr.0, old.count)))
          (get_push_cases rows row k r hr))
          (λ (nx : (k ≡ length order) × (new ≡ x)). ⊎_elim
          (λ (lr : slice_get rows k ≡ Some r). absurd (omega (arith, slice_get_within rows k r lr, nx.0, old.count)))
          (λ (nr : (k ≡ length rows) × (row ≡ r)).
          subst (λ (y : LinearizationPoint). IsRowOf tiles run (suc n) (order ++ new ∷ []) k y r) nx.1
          (subst (λ (z : Ordered). IsRowOf tiles run (suc n) (order ++ new ∷ []) k new z) nr.1 (record {
            source = source;
            index = index;
            bank = bank;
            place = place ∙ (acc.counts (home tiles o) ∙ ap (count_at tiles (home tiles o)) (sym (take_at order (new ∷ []) k (sym nx.0))));
            issued = issued;
            served = served;
            answered = subst (IsAnswerNumber run (suc n) p i) (sym answered) (λ at. ⊎_elim
                (unserved_unanswered tiles tags opening (run n) order p i acc may.waits)
                (λ now. quiet p now.0 now.1)
                (answered_before tiles tags opening run event n h p i at));
          })))
          (get_push_cases rows row k r hr))
          (get_push_cases order new k x hx);
    })

-- a row with its operation's answer
abbrev pub row_answered : Ordered → ℕ → Ordered
row_answered row m = record {
  bank = row.bank;
  place = row.place;
  source = row.source;
  index = row.index;
  issued = row.issued;
  served = row.served;
  answered = Some m;
}

-- An answer puts the count of events now into its operation's row.
pub rows_answered : (tiles tags : ℕ) (opening : List ℕ) (run : Run) (event : ℕ → Event) (n : ℕ) → IsHistory tiles tags opening run event (suc n)
    → (p : ℕ) (a : Answer) → event n ≡ Answered p a → (rows : List Ordered) (at : ℕ) (was : Ordered) → AreRowsOf tiles run n (order_after event n) rows
    → slice_get rows at ≡ Some was → was.source ≡ p → was.index ≡ a.index
    → AreRowsOf tiles run (suc n) (order_after event (suc n)) (slice_set rows at (row_answered was (event_count (run (suc n)))))
rows_answered tiles tags opening run event n h p a is rows at was old row_there row_source row_index =
    let order : List LinearizationPoint = order_after event n in
    let new : Ordered = row_answered was (event_count (run (suc n))) in
    let acc = account tiles tags opening run event n (shorter tiles tags opening run event n h) in
    let may : MayHappen tiles tags opening (run n) order (Answered p a) = subst (MayHappen tiles tags opening (run n) order) is (h.may n (omega arith)) in
    let count = old.count in
    let at_in = slice_get_within rows at was row_there in
    let point = within_length order at (omega arith) in
    let x : LinearizationPoint = point.0 in
    let there : slice_get order at ≡ Some x = point.1 in
    let row = old.each at x was there row_there in
    let source : x.source ≡ p = sym row.source ∙ row_source in
    let index : x.index ≡ a.index = sym row.index ∙ row_index in
    let first : IsAnsweredAt run p a.index (suc n) = record {
      holds = subst (λ (s : Observed). HasAnswered s p a.index) (sym (h.each n (omega arith) ∙ ap (happens tiles (run n)) is))
          (length (list_at (run n).answers p), a, push_at_new (run n).answers p a (answerer_within tiles tags opening (run n) order p a acc may), refl);
      not_before = λ j l g. may.first (answered_monotone tiles tags opening run event n (shorter tiles tags opening run event n h) p a.index j (omega arith) g);
    } in
    let grown : order_after event (suc n) ≡ order ++ [] = ap (λ (e : Event). order ++ points_of e (suc n)) is in
    subst (λ (xs : List LinearizationPoint). AreRowsOf tiles run (suc n) xs (slice_set rows at new)) (sym grown) (record {
      count = omega (arith, length-set rows at new, old.count, ap length (append-nil order));
      each = λ k y r hy hr.
          let hy2 : slice_get order k ≡ Some y = sym (ap (λ xs. slice_get xs k) (append-nil order)) ∙ hy in
          ⊎_elim
          (λ (same : k ≡ at).
          let e : new ≡ r = same_Some new r (sym (get_set_same rows at new at_in) ∙ (ap (slice_get (set rows at new)) (sym same) ∙ hr)) in
          let f : x ≡ y = same_Some x y (sym there ∙ (ap (slice_get order) (sym same) ∙ hy2)) in
          subst (λ (z : Ordered). IsRowOf tiles run (suc n) (order ++ []) k y z) e
          (subst (λ (z : LinearizationPoint). IsRowOf tiles run (suc n) (order ++ []) k z new) f
          (subst (λ (j : ℕ). IsRowOf tiles run (suc n) (order ++ []) j x new) (sym same) (record {
            source = row.source;
            index = row.index;
            bank = row.bank;
            place = row.place ∙ ap (count_at tiles (home tiles x.operation)) (sym (before_kept order [] at x there));
            issued = row.issued;
            served = row.served;
            answered = (
              suc n,
              omega arith,
              subst (λ (q : ℕ). IsAnsweredAt run q x.index (suc n)) (sym source)
                  (subst (λ (j : ℕ). IsAnsweredAt run p j (suc n)) (sym index) first),
              refl,
            );
          }))))
          (λ (other : k ≢ at).
          let old_row : slice_get rows k ≡ Some r = sym (get_set_other rows at k new other) ∙ hr in
          row_kept tiles tags opening run event n h order [] k y r hy2
          (λ b e g.
          let same_event : Answered p a ≡ Answered y.source b = sym is ∙ e in
          let q : p ≡ y.source = cc in
          let c : a ≡ b = cc in
          other (acc.distinct k at y x hy2 there (sym q ∙ sym source) (sym g ∙ (ap (λ (z : Answer). z.index) (sym c) ∙ sym index))))
          (old.each k y r hy2 old_row))
          (cases_eq k at);
    })
