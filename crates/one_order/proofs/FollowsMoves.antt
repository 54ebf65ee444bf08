-- The followers after a move show what is issued and answered in the run.
use Rattle.std.proofs.Common.{◌≡◌, ◌≢◌, ⊎_elim, ℕ, zero, suc, ◌<◌, ◌≤◌, List, length, Option, Some, None, refl, sym}
use Rattle.std.proofs.Common.{◌∙◌, ap, subst, arith, slice_set, slice_index_or}
use Rattle.std.proofs.lemmas.Bool.{cases_lt, cases_eq}
use Rattle.std.proofs.lemmas.List.{length-map, get_or-set_same, get_or-set_other}
use Rattle.std.proofs.lemmas.Option.{slice_get_within}
use Rattle.script_lines.specs.declared.line.Line.{Line}
use Rattle.one_order.specs.declared.answer.Answer.{Answer}
use Rattle.one_order.specs.Observed.{Observed, Run, list_at, HasAnswered}
use Rattle.one_order.specs.Order.{LinearizationPoint}
use Rattle.one_order.specs.Events.{Event, Nothing, Issued, Served, Answered, push_at, happens, IsHistory, MayHappen}
use Rattle.one_order.proofs.Lists.{list_at_push_same, list_at_push_other, list_within, length_list_at_push_grows}
use Rattle.one_order.proofs.History.{answered_monotone, shorter}
use Rattle.one_order.specs.ProcessorRecord.{ProcessorRecord, no_processor, issued_by, answered_by, answer_of}
use Rattle.one_order.specs.Flight.{Flight, Move, Sends, Serves, Takes, processor_at, told_place, IsFound, moved}
use Rattle.one_order.specs.Flight.{moved_by, show, event, flight_event}
use Rattle.one_order.proofs.Follows.{Follows, follows_kept, follows_issued, follows_answered}
use Rattle.one_order.proofs.Parts.{tags_of}
use Rattle.one_order.proofs.Whole.{Whole}

pub kept_processor : (xs : List ProcessorRecord) (t p : ℕ) (q : ProcessorRecord) → p ≢ t
    → slice_index_or (slice_set xs t q) p no_processor ≡ slice_index_or xs p no_processor
kept_processor xs t p q other = get_or-set_other xs t p q no_processor other

pub new_processor : (xs : List ProcessorRecord) (t : ℕ) (q : ProcessorRecord) → t < length xs
    → slice_index_or (slice_set xs t q) t no_processor ≡ q
new_processor xs t q h = get_or-set_same xs t q no_processor h

-- the next moment of a run, and what only grows up to it
record Goes (run : Run) (n : ℕ) (tiles : ℕ) (e : Event) : Type 0 where
  pub next : run (suc n) ≡ happens tiles (run n) e
  pub grown : (p k : ℕ) → k ≤ n → length (list_at (run k).issued p) ≤ length (list_at (run n).issued p)
  pub answered_stays : (p i k : ℕ) → k ≤ n → HasAnswered (run k) p i → HasAnswered (run n) p i

-- what is issued in the first k steps of a history is issued in the first n
issued_grow : (tiles : ℕ) (s : Observed) (e : Event) (p : ℕ) → length (list_at s.issued p) ≤ length (list_at (happens tiles s e).issued p)
issued_grow tiles s Nothing p = omega arith
issued_grow tiles s (Issued q o) p = length_list_at_push_grows s.issued q o p
issued_grow tiles s (Served q i tag o) p = omega arith
issued_grow tiles s (Answered q a) p = omega arith

issued_monotone : (tiles tags : ℕ) (opening : List ℕ) (run : Run) (ev : ℕ → Event) (n : ℕ) → IsHistory tiles tags opening run ev n
    → (p k : ℕ) → k ≤ n
    → length (list_at (run k).issued p) ≤ length (list_at (run n).issued p)
issued_monotone tiles tags opening run ev zero h p k l = let z : k ≡ 0 = omega arith in rw z (omega arith)
issued_monotone tiles tags opening run ev (suc n) h p k l = ⊎_elim
    (λ (below : k < suc n).
    let m = issued_monotone tiles tags opening run ev n (shorter tiles tags opening run ev n h) p k (omega arith) in
    let g = issued_grow tiles (run n) (ev n) p in
    let e = ap (λ (s : Observed). length (list_at s.issued p)) (h.each n (omega arith)) in
    omega arith)
    (λ (above : suc n ≤ k). let z : k ≡ suc n = omega arith in rw z (omega arith))
    (cases_lt k (suc n))

module _ (tiles tags : ℕ) (opening : List ℕ) (run : Run) (n : ℕ) (f : Flight) (order : List LinearizationPoint) (shown : run n ≡ show f)
    (w : Whole tiles tags opening f order) where
  follows_move : (m : Move) → IsFound (length opening) f m → Goes run n tiles (event f m)
      → MayHappen tiles tags opening (run n) order (event f m)
      → (p : ℕ) (lines : List Line) → Follows run n p lines (processor_at f p).following
      → Follows run (suc n) p lines (processor_at (moved tiles f m) p).following
  follows_move (Sends t tag o) found g may p lines h =
      let after : ProcessorRecord = issued_by (processor_at f t) tag o in
      let issued_now : list_at (run (suc n)).issued p ≡ list_at (push_at (run n).issued t o) p =
      ap (λ (x : Observed). list_at x.issued p) g.next in
      let answers_now : list_at (run (suc n)).answers p ≡ list_at (run n).answers p = ap (λ (x : Observed). list_at x.answers p) g.next in
      let t_in : t < length (run n).issued =
      subst (λ (x : Observed). t < length x.issued) (sym shown)
      (subst (λ (k : ℕ). t < k) (sym (length-map f.processors (λ (q : ProcessorRecord). q.issued))) found.0) in
      let unanswered : HasAnswered (run n) t (length (list_at (run n).issued t)) → ⊥ = λ has.
      let acc = w.account in
      let has' : HasAnswered (show f) t (length (list_at (run n).issued t)) =
      subst (λ (x : Observed). HasAnswered x t (length (list_at (run n).issued t))) shown has in
      let at = acc.answers t has'.0 has'.1 has'.2 in
      let was =
      slice_get_within (list_at (show f).issued at.point.source) at.point.index at.point.operation (acc.issued at.k at.point at.there) in
      let e : length (list_at (show f).issued at.point.source) ≡ length (list_at (run n).issued t) =
      ap (λ k. length (list_at (show f).issued k)) at.source ∙ ap (λ (x : Observed). length (list_at x.issued t)) (sym shown) in
      let i : at.point.index ≡ length (list_at (run n).issued t) = at.index ∙ has'.3 in
      omega (arith, was, e, i) in
      ⊎_elim
      (λ (same : p ≡ t).
      let now : slice_index_or (slice_set f.processors t after) p no_processor ≡ after =
      ap (λ k. slice_index_or (slice_set f.processors t after) k no_processor) same ∙ new_processor f.processors t after found.0 in
      let old : Follows run n t lines (processor_at f t).following =
      subst (λ (k : ℕ). Follows run n k lines (processor_at f k).following) same h in
      let new = follows_issued run n t lines (processor_at f t).following o old found.1
      (sym (ap (λ k. list_at (run (suc n)).issued k) same) ∙ (issued_now
      ∙ (ap (list_at (push_at (run n).issued t o)) same ∙ list_at_push_same (run n).issued t o t_in)))
      (sym (ap (λ k. list_at (run (suc n)).answers k) same) ∙ (answers_now ∙ ap (list_at (run n).answers) same))
      (λ k le. g.grown t k le) unanswered in
      subst (λ (x : ProcessorRecord). Follows run (suc n) p lines x.following) (sym now)
      (subst (λ (k : ℕ). Follows run (suc n) k lines after.following) (sym same) new))
      (λ (other : p ≢ t).
      subst (λ (x : ProcessorRecord). Follows run (suc n) p lines x.following) (sym (kept_processor f.processors t p after other))
      (follows_kept run n p lines (processor_at f p).following h (issued_now ∙ list_at_push_other (run n).issued t p o other) answers_now))
      (cases_eq p t)
  follows_move (Serves r) found g may p lines h =
      follows_kept run n p lines (processor_at f p).following h (ap (λ (x : Observed). list_at x.issued p) g.next)
      (ap (λ (x : Observed). list_at x.answers p) g.next)
  follows_move (Takes r) found g may p lines h =
      let t : ℕ = r.destination in
      let before : ProcessorRecord = processor_at f t in
      let after : ProcessorRecord = answered_by before r in
      let a : Answer = answer_of before r in
      let issued_now : list_at (run (suc n)).issued p ≡ list_at (run n).issued p = ap (λ (x : Observed). list_at x.issued p) g.next in
      let answers_now : list_at (run (suc n)).answers p ≡ list_at (push_at (run n).answers t a) p =
      ap (λ (x : Observed). list_at x.answers p) g.next in
      let q = w.sound.responses (told_place f.told r) r found in
      let in_tags : t < length (tags_of f) = list_within (tags_of f) t r.tag.0 (Some (record { 0 = q.index })) q.holds in
      let t_in : t < length f.processors = subst (λ (k : ℕ). t < k) (length-map f.processors (λ (x : ProcessorRecord). x.tags)) in_tags in
      let t_in_answers : t < length (run n).answers =
      subst (λ (x : Observed). t < length x.answers) (sym shown)
      (subst (λ (k : ℕ). t < k) (sym (length-map f.processors (λ (x : ProcessorRecord). x.answers))) t_in) in
      let at = may.tells in
      let was =
      slice_get_within (list_at (show f).issued at.point.source) at.point.index at.point.operation (w.account.issued at.k at.point at.there) in
      let within : a.index < length (list_at (run n).issued t) =
      (let e : length (list_at (show f).issued at.point.source) ≡ length (list_at (run n).issued t) =
      ap (λ k. length (list_at (show f).issued k)) at.source ∙ ap (λ (x : Observed). length (list_at x.issued t)) (sym shown) in
      let i : at.point.index ≡ a.index = at.index in
      omega (arith, was, e, i)) in
      ⊎_elim
      (λ (same : p ≡ t).
      let now : slice_index_or (slice_set f.processors t after) p no_processor ≡ after =
      ap (λ k. slice_index_or (slice_set f.processors t after) k no_processor) same ∙ new_processor f.processors t after t_in in
      let old : Follows run n t lines before.following = subst (λ (k : ℕ). Follows run n k lines (processor_at f k).following) same h in
      let new = follows_answered run n t lines before.following a old
      (sym (ap (λ k. list_at (run (suc n)).issued k) same) ∙ (issued_now ∙ ap (list_at (run n).issued) same))
      (sym (ap (λ k. list_at (run (suc n)).answers k) same) ∙ (answers_now
      ∙ (ap (list_at (push_at (run n).answers t a)) same ∙ list_at_push_same (run n).answers t a t_in_answers)))
      within may.first (λ k le. g.answered_stays t a.index k le) in
      subst (λ (x : ProcessorRecord). Follows run (suc n) p lines x.following) (sym now)
      (subst (λ (k : ℕ). Follows run (suc n) k lines after.following) (sym same) new))
      (λ (other : p ≢ t).
      subst (λ (x : ProcessorRecord). Follows run (suc n) p lines x.following) (sym (kept_processor f.processors t p after other))
      (follows_kept run n p lines (processor_at f p).following h issued_now (answers_now ∙ list_at_push_other (run n).answers t p a other)))
      (cases_eq p t)

  follows_goes : (m : Option Move) → ((x : Move) → m ≡ Some x → IsFound (length opening) f x) → Goes run n tiles (flight_event f m)
      → MayHappen tiles tags opening (run n) order (flight_event f m)
      → (p : ℕ) (lines : List Line) → Follows run n p lines (processor_at f p).following
      → Follows run (suc n) p lines (processor_at (moved_by tiles f m) p).following
  follows_goes None found g may p lines h =
      follows_kept run n p lines (processor_at f p).following h (ap (λ (x : Observed). list_at x.issued p) g.next)
      (ap (λ (x : Observed). list_at x.answers p) g.next)
  follows_goes (Some m) found g may p lines h = follows_move m (found m refl) g may p lines h

  -- the followers after a move or none of a history
  pub follows_any : (ev : ℕ → Event) → IsHistory tiles tags opening run ev n → (m : Option Move)
      → ((x : Move) → m ≡ Some x → IsFound (length opening) f x)
      → run (suc n) ≡ happens tiles (run n) (flight_event f m) → MayHappen tiles tags opening (run n) order (flight_event f m)
      → (p : ℕ) (lines : List Line) → Follows run n p lines (processor_at f p).following
      → Follows run (suc n) p lines (processor_at (moved_by tiles f m) p).following
  follows_any ev history m found next may p lines h = follows_goes m found (record {
    next = next;
    grown = λ q k le. issued_monotone tiles tags opening run ev n history q k le;
    answered_stays = λ q i k le has. answered_monotone tiles tags opening run ev n history q i k le has;
  }) may p lines h
