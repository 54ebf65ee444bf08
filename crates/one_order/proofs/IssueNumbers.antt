-- The numbers of the issues, event by event, and the one order of a history with any rows of it.
use Rattle.std.proofs.Common.{◌≡◌, ◌⊎◌, ⊎_elim, ℕ, zero, suc, ◌+◌, ◌<◌, ◌==◌, cond, List, [], ◌∷◌, ◌++◌, length, Some, None, refl, sym}
use Rattle.std.proofs.Common.{◌∙◌, ap, subst, arith, slice_get, slice_set, replicate}
use Rattle.std.proofs.lemmas.List.{length-replicate}
use Rattle.std.proofs.lemmas.Option.{slice_get_within}
use Rattle.packet.specs.declared.kinds.Operation.{Operation}
use Rattle.one_order.specs.declared.ordered.Ordered.{Ordered}
use Rattle.one_order.specs.Observed.{Observed, Run, list_at, event_count}
use Rattle.one_order.specs.Order.{LinearizationPoint, home}
use Rattle.one_order.specs.Rows.{IsIssueNumber, AreIssueNumbers, AreRowsOf}
use Rattle.one_order.specs.OneOrder.{HasOneOrder}
use Rattle.one_order.specs.Events.{Event, Nothing, Issued, Served, Answered, push_at, happens, order_after, MayHappen, IsHistory}
use Rattle.one_order.proofs.Lists.{push_at_cases, push_at_new, length-push_at, length_list_at_push, list_at_none, within_length}
use Rattle.one_order.proofs.History.{shorter, account, first_below, legal, service_order}
use Rattle.one_order.proofs.Growth.{length_kept, kept_along}
use Rattle.one_order.proofs.Numbers.{only_grows}
use Rattle.one_order.proofs.OrderRows.{rows_none, rows_nothing, rows_issued, rows_served, row_answered, rows_answered}

-- The number of an issue, as it happens: the count of events now.
pub issue_number : (tiles tags : ℕ) (opening : List ℕ) (run : Run) (event : ℕ → Event) (n : ℕ) → IsHistory tiles tags opening run event (suc n)
    → (p : ℕ) (o : Operation) → event n ≡ Issued p o → IsIssueNumber run p (length (list_at (run n).issued p)) (event_count (run (suc n)))
issue_number tiles tags opening run event n h p o is =
    let acc = account tiles tags opening run event n (shorter tiles tags opening run event n h) in
    let may : MayHappen tiles tags opening (run n) (order_after event n) (Issued p o) =
    subst (MayHappen tiles tags opening (run n) (order_after event n)) is (h.may n (omega arith)) in
    let i : ℕ = length (list_at (run n).issued p) in
    let p_in : p < length (run n).issued = subst (λ (k : ℕ). p < k) (sym acc.shown.processors) may.source in
    let l = only_grows tiles tags opening run event (suc n) h in (
      suc n,
      record {
        holds = subst (λ (s : Observed). i < length (list_at s.issued p)) (sym (h.each n (omega arith) ∙ ap (happens tiles (run n)) is))
            (slice_get_within (list_at (push_at (run n).issued p o) p) i o (push_at_new (run n).issued p o p_in));
        not_before = λ k below g.
            let grown = length_kept (list_at (run k).issued p) (list_at (run n).issued p)
            (λ j x there. kept_along (λ t. list_at (run t).issued p) (suc n) (λ t q y m g. l.issues_stay t p q y m g) k n j x (omega arith) (omega arith)
            there) in
            absurd (omega arith);
      },
      refl,
    )

-- Before the first step there is no number of an issue.
pub issue_numbers_none : (tiles tags : ℕ) (opening : List ℕ) (run : Run) (event : ℕ → Event) → IsHistory tiles tags opening run event 0
    → AreIssueNumbers run 0 (replicate tiles [])
issue_numbers_none tiles tags opening run event h = record {
  processors = length-replicate tiles [] ∙ (sym (length-replicate tiles []) ∙ ap (λ (s : Observed). length s.issued) (sym h.start));
  count = λ p. ap length (list_at_none {A = ℕ} tiles p)
      ∙ (sym (ap length (list_at_none {A = Operation} tiles p)) ∙ ap (λ (s : Observed). length (list_at s.issued p)) (sym h.start));
  each = λ p i m h. let e : None ≡ Some m = sym (ap (λ xs. slice_get xs i) (list_at_none {A = ℕ} tiles p)) ∙ h in cc;
}

-- An issue adds its number.
pub issue_numbers_issued : (tiles tags : ℕ) (opening : List ℕ) (run : Run) (event : ℕ → Event) (n : ℕ) → IsHistory tiles tags opening run event (suc n)
    → (p : ℕ) (o : Operation) → event n ≡ Issued p o → (numbers : List (List ℕ)) → AreIssueNumbers run n numbers
    → AreIssueNumbers run (suc n) (push_at numbers p (event_count (run (suc n))))
issue_numbers_issued tiles tags opening run event n h p o is numbers old =
    let acc = account tiles tags opening run event n (shorter tiles tags opening run event n h) in
    let may : MayHappen tiles tags opening (run n) (order_after event n) (Issued p o) =
    subst (MayHappen tiles tags opening (run n) (order_after event n)) is (h.may n (omega arith)) in
    let c : ℕ = event_count (run (suc n)) in
    let next : run (suc n) ≡ happens tiles (run n) (Issued p o) = h.each n (omega arith) ∙ ap (happens tiles (run n)) is in
    let p_in : p < length (run n).issued = subst (λ (k : ℕ). p < k) (sym acc.shown.processors) may.source in
    let p_there : p < length numbers = subst (λ (k : ℕ). p < k) (sym old.processors) p_in in
    record {
      processors = length-push_at numbers p c
          ∙ (old.processors ∙ (sym (length-push_at (run n).issued p o) ∙ ap (λ (s : Observed). length s.issued) (sym next)));
      count = λ q. length_list_at_push numbers p c q p_there ∙ (ap (λ k. k + cond (p == q) 1 0) (old.count q)
          ∙ (sym (length_list_at_push (run n).issued p o q p_in) ∙ ap (λ (s : Observed). length (list_at s.issued q)) (sym next)));
      each = λ q i m there. ⊎_elim
          (λ was. old.each q i m was)
          (λ (new : (q ≡ p) × (i ≡ length (list_at numbers p)) × (c ≡ m)).
          subst (λ (k : ℕ). IsIssueNumber run q i k) new.2 (subst (λ (j : ℕ). IsIssueNumber run q j c) (sym (new.1 ∙ old.count p))
          (subst (λ (r : ℕ). IsIssueNumber run r (length (list_at (run n).issued p)) c) (sym new.0) (issue_number tiles tags opening run event n h p o is))))
          (push_at_cases numbers p c q i m there);
    }

-- Other events leave them.
pub issue_numbers_kept : (tiles : ℕ) (run : Run) (n : ℕ) (e : Event) → run (suc n) ≡ happens tiles (run n) e → (happens tiles (run n) e).issued ≡ (run n).issued
    → (numbers : List (List ℕ)) → AreIssueNumbers run n numbers → AreIssueNumbers run (suc n) numbers
issue_numbers_kept tiles run n e next same numbers old =
    let kept : (run n).issued ≡ (run (suc n)).issued = sym (ap (λ (s : Observed). s.issued) next ∙ same) in
    record {
      processors = old.processors ∙ ap length kept;
      count = λ p. old.count p ∙ ap (λ xss. length (list_at xss p)) kept;
      each = old.each;
    }

-- Some rows follow each event.
rows_next : (tiles tags : ℕ) (opening : List ℕ) (run : Run) (event : ℕ → Event) (n : ℕ) → IsHistory tiles tags opening run event (suc n)
    → (e : Event) → event n ≡ e → (rows : List Ordered) → AreRowsOf tiles run n (order_after event n) rows
    → (more : List Ordered) × AreRowsOf tiles run (suc n) (order_after event (suc n)) more
rows_next tiles tags opening run event n h Nothing is rows old = (rows, rows_nothing tiles tags opening run event n h is rows old)
rows_next tiles tags opening run event n h (Issued p o) is rows old = (rows, rows_issued tiles tags opening run event n h p o is rows old)
rows_next tiles tags opening run event n h (Served p i tag o) is rows old =
    let order : List LinearizationPoint = order_after event n in
    let may : MayHappen tiles tags opening (run n) order (Served p i tag o) = subst (MayHappen tiles tags opening (run n) order) is (h.may n (omega arith)) in
    let first = first_below (λ k. length (list_at (run k).issued p)) i n (slice_get_within (list_at (run n).issued p) i o may.issued) in
    let row : Ordered = record {
      bank = home tiles o;
      place = length (list_at (run n).entries (home tiles o));
      source = p;
      index = i;
      issued = event_count (run first.0);
      served = event_count (run (suc n));
      answered = None;
    } in
    (rows ++ row ∷ [], rows_served tiles tags opening run event n h p i tag o is rows row old refl refl refl refl (first.0, first.1, refl) refl refl)
rows_next tiles tags opening run event n h (Answered p a) is rows old =
    let order : List LinearizationPoint = order_after event n in
    let may : MayHappen tiles tags opening (run n) order (Answered p a) = subst (MayHappen tiles tags opening (run n) order) is (h.may n (omega arith)) in
    let k : ℕ = may.tells.k in
    let within = slice_get_within order k may.tells.point may.tells.there in
    let count = old.count in
    let row = within_length rows k (omega arith) in
    let it = old.each k may.tells.point row.0 may.tells.there row.1 in (
      slice_set rows k (row_answered row.0 (event_count (run (suc n)))),
      rows_answered tiles tags opening run event n h p a is rows k row.0 old row.1
          (it.source ∙ may.tells.source) (it.index ∙ may.tells.index),
    )

-- Every history has rows.
pub rows_of : (tiles tags : ℕ) (opening : List ℕ) (run : Run) (event : ℕ → Event) (n : ℕ) → IsHistory tiles tags opening run event n
    → (rows : List Ordered) × AreRowsOf tiles run n (order_after event n) rows
rows_of tiles tags opening run event zero h = ([], rows_none tiles run event)
rows_of tiles tags opening run event (suc n) h =
    let before = rows_of tiles tags opening run event n (shorter tiles tags opening run event n h) in
    rows_next tiles tags opening run event n h (event n) refl before.0 before.1

-- The one order of a history, with any rows of it.
pub one_order : (tiles tags : ℕ) (opening : List ℕ) (run : Run) (event : ℕ → Event) (n : ℕ) (rows : List Ordered) → IsHistory tiles tags opening run event n
    → AreRowsOf tiles run n (order_after event n) rows
    → HasOneOrder tiles tags opening run n rows
one_order tiles tags opening run event n rows h are = record {
  order = order_after event n;
  legal = legal tiles tags opening run event n h;
  services = service_order tiles tags opening run event n h;
  numbered = are;
  grows = only_grows tiles tags opening run event n h;
  shown = (account tiles tags opening run event n h).shown;
}

-- It is the order of the services.
pub one_order_is : (tiles tags : ℕ) (opening : List ℕ) (run : Run) (event : ℕ → Event) (n : ℕ) (rows : List Ordered)
    (h : IsHistory tiles tags opening run event n) (are : AreRowsOf tiles run n (order_after event n) rows)
    → (one_order tiles tags opening run event n rows h are).order ≡ order_after event n
unfolding one_order
one_order_is tiles tags opening run event n rows h are = refl
