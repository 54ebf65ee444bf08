-- The events of a run, and the count of events at each.
use Rattle.std.proofs.Common.{◌≡◌, ◌≢◌, ◌⊎◌, inl, inr, ⊎_elim, ℕ, zero, suc, ◌<◌, ◌≤◌, List, length, Some, refl, sym, ◌∙◌, ap, subst, arith, slice_get}
use Rattle.std.proofs.lemmas.Bool.{cases_eq, cases_lt}
use Rattle.std.proofs.lemmas.Option.{slice_get_within}
use Rattle.one_order.specs.declared.answer.Answer.{Answer}
use Rattle.one_order.specs.Observed.{Observed, Run, list_at, event_count, IsFirst, IsIssuedAt, IsServedAt, IsAnsweredAt}
use Rattle.one_order.specs.Growth.{OnlyGrows}
use Rattle.one_order.proofs.Lists.{within_length}
use Rattle.one_order.proofs.Growth.{length_kept, Grows, total_grows, total_within, IsNew, total_new, one_new}

-- all lists grow
pub record AllGrow (s t : Observed) : Type 0 where
  pub issued : Grows s.issued t.issued
  pub entries : Grows s.entries t.entries
  pub answers : Grows s.answers t.answers

pub grows : (opening : List ℕ) (run : Run) (n : ℕ) → OnlyGrows opening run n → (k : ℕ) → k < n → AllGrow (run k) (run (suc k))
grows opening run n growing k l = record {
  issued = λ p. length_kept (list_at (run k).issued p) (list_at (run (suc k)).issued p) (λ i x h. growing.issues_stay k p i x l h);
  entries = λ b. length_kept (list_at (run k).entries b) (list_at (run (suc k)).entries b) (λ i x h. growing.entries_stay k b i x l h);
  answers = λ p. length_kept (list_at (run k).answers p) (list_at (run (suc k)).answers p) (λ i x h. growing.answers_stay k p i x l h);
}

pub count_grows : (s t : Observed) → AllGrow s t → event_count s ≤ event_count t
count_grows s t g = omega (arith, total_grows s.issued t.issued g.issued, total_grows s.entries t.entries g.entries, total_grows s.answers t.answers g.answers)

pub count_monotone : (opening : List ℕ) (run : Run) (n : ℕ) → OnlyGrows opening run n → (j k : ℕ) → j ≤ k → k ≤ n → event_count (run j) ≤ event_count (run k)
count_monotone opening run n growing j zero l m = let z : j ≡ 0 = omega arith in rw z (omega arith)
count_monotone opening run n growing j (suc k) l m = ⊎_elim
    (λ (below : j < suc k). omega (
      arith,
      count_monotone opening run n growing j k (omega arith) (omega arith),
      count_grows (run k) (run (suc k))
          (grows opening run n growing k (omega arith)),
    ))
    (λ (above : suc k ≤ j). let z : j ≡ suc k = omega arith in rw z (omega arith))
    (cases_lt j (suc k))

-- an event, by what it adds: where, and at which place
pub data Mark : Type 0 where
  IssueMark : (p i : ℕ) → Mark
  ServiceMark : (b place : ℕ) → Mark
  AnswerMark : (p k : ℕ) → Mark

abbrev pub IsMarked : Observed → Observed → Mark → Type 0
IsMarked s t (IssueMark p i) = IsNew s.issued t.issued p i
IsMarked s t (ServiceMark b place) = IsNew s.entries t.entries b place
IsMarked s t (AnswerMark p k) = IsNew s.answers t.answers p k

pub mark_counts : (s t : Observed) (m : Mark) → AllGrow s t → IsMarked s t m → event_count s < event_count t
mark_counts s t (IssueMark p i) g h =
    omega (arith, total_new s.issued t.issued p i g.issued h, total_grows s.entries t.entries g.entries, total_grows s.answers t.answers g.answers)
mark_counts s t (ServiceMark b place) g h =
    omega (arith, total_grows s.issued t.issued g.issued, total_new s.entries t.entries b place g.entries h, total_grows s.answers t.answers g.answers)
mark_counts s t (AnswerMark p k) g h =
    omega (arith, total_grows s.issued t.issued g.issued, total_grows s.entries t.entries g.entries, total_new s.answers t.answers p k g.answers h)

-- one event a step
pub one_mark : (s t : Observed) (m o : Mark) → AllGrow s t → event_count t ≤ suc (event_count s) → IsMarked s t m → IsMarked s t o → m ≡ o
one_mark s t (IssueMark p i) (IssueMark q j) g one h e =
    let same = one_new s.issued t.issued p i q j g.issued
    (omega (arith, one, total_grows s.entries t.entries g.entries, total_grows s.answers t.answers g.answers)) h e in
    cc
one_mark s t (ServiceMark b i) (ServiceMark c j) g one h e =
    let same = one_new s.entries t.entries b i c j g.entries
    (omega (arith, one, total_grows s.issued t.issued g.issued, total_grows s.answers t.answers g.answers)) h e in
    cc
one_mark s t (AnswerMark p i) (AnswerMark q j) g one h e =
    let same = one_new s.answers t.answers p i q j g.answers
    (omega (arith, one, total_grows s.issued t.issued g.issued, total_grows s.entries t.entries g.entries)) h e in
    cc
one_mark s t (IssueMark p i) (ServiceMark c j) g one h e =
    absurd (omega (
      arith,
      one,
      total_new s.issued t.issued p i g.issued h,
      total_new s.entries t.entries c j g.entries e,
      total_grows s.answers t.answers
          g.answers,
    ))
one_mark s t (ServiceMark c j) (IssueMark p i) g one e h =
    absurd (omega (
      arith,
      one,
      total_new s.issued t.issued p i g.issued h,
      total_new s.entries t.entries c j g.entries e,
      total_grows s.answers t.answers
          g.answers,
    ))
one_mark s t (IssueMark p i) (AnswerMark q j) g one h e =
    absurd (omega (
      arith,
      one,
      total_new s.issued t.issued p i g.issued h,
      total_new s.answers t.answers q j g.answers e,
      total_grows s.entries t.entries
          g.entries,
    ))
one_mark s t (AnswerMark q j) (IssueMark p i) g one e h =
    absurd (omega (
      arith,
      one,
      total_new s.issued t.issued p i g.issued h,
      total_new s.answers t.answers q j g.answers e,
      total_grows s.entries t.entries
          g.entries,
    ))
one_mark s t (ServiceMark b i) (AnswerMark q j) g one h e =
    absurd (omega (
      arith,
      one,
      total_new s.entries t.entries b i g.entries h,
      total_new s.answers t.answers q j g.answers e,
      total_grows s.issued t.issued
          g.issued,
    ))
one_mark s t (AnswerMark q j) (ServiceMark b i) g one e h =
    absurd (omega (
      arith,
      one,
      total_new s.entries t.entries b i g.entries h,
      total_new s.answers t.answers q j g.answers e,
      total_grows s.issued t.issued
          g.issued,
    ))

-- an event at step u + 1 of a run
pub record IsEvent (run : Run) (n u : ℕ) (m : Mark) : Type 0 where
  pub within : u < n
  pub marked : IsMarked (run u) (run (suc u)) m

pub event_counts : (opening : List ℕ) (run : Run) (n u : ℕ) (m : Mark) → OnlyGrows opening run n → IsEvent run n u m
    → event_count (run u) < event_count (run (suc u))
event_counts opening run n u m growing e = mark_counts (run u) (run (suc u)) m (grows opening run n growing u e.within) e.marked

-- later events have greater numbers
pub later_counts : (opening : List ℕ) (run : Run) (n t u : ℕ) (m : Mark) → OnlyGrows opening run n → IsEvent run n u m → t ≤ u
    → event_count (run t) < event_count (run (suc u))
later_counts opening run n t u m growing e l =
    let w = e.within in
    omega (arith, event_counts opening run n u m growing e, count_monotone opening run n growing t u l (omega arith))

-- events of one number are one event
pub one_event : (opening : List ℕ) (run : Run) (n t u : ℕ) (l m : Mark) → OnlyGrows opening run n → IsEvent run n t l → IsEvent run n u m
    → event_count (run (suc t)) ≡ event_count (run (suc u)) → (t ≡ u) × (l ≡ m)
one_event opening run n t u l m growing x y same = ⊎_elim
    (λ (equal : t ≡ u).
    let there : IsMarked (run t) (run (suc t)) m = subst (λ (v : ℕ). IsMarked (run v) (run (suc v)) m) (sym equal) y.marked in
    (equal, one_mark (run t) (run (suc t)) l m (grows opening run n growing t x.within) (growing.one t x.within) x.marked there))
    (λ (other : t ≢ u). ⊎_elim
    (λ (before : t < u). absurd (omega (arith, same, later_counts opening run n (suc t) u m growing y (omega arith))))
    (λ (after : u ≤ t). absurd
    (omega (
      arith,
      same,
      later_counts opening run n (suc u) t l growing x
          (⊎_elim (λ (l : suc u ≤ t). l) (λ (g : t < suc u). absurd (other (omega arith))) (cases_le (suc u) t)),
    )))
    (cases_lt t u))
    (cases_eq t u)
  where
    cases_le : (a b : ℕ) → (a ≤ b) ⊎ (b < a)
    cases_le a b = ⊎_elim (λ (l : b < a). inr l) (λ (g : a ≤ b). inl g) (cases_lt b a)

-- a fact is first at one time
pub one_first : (P : ℕ → Type 0) (s t : ℕ) → IsFirst P s → IsFirst P t → s ≡ t
one_first P s t x y = ⊎_elim
    (λ (before : s < t). absurd (y.not_before s before x.holds))
    (λ (after : t ≤ s). ⊎_elim
    (λ (later : t < s). absurd (x.not_before t later y.holds))
    (λ (equal : s ≤ t). omega arith)
    (cases_lt t s))
    (cases_lt s t)

-- what is first issued, served or answered at a step is new there
pub issue_event : (opening : List ℕ) (run : Run) (n p i t : ℕ) → OnlyGrows opening run n → IsIssuedAt run p i t → t ≤ n
    → (u : ℕ) × (t ≡ suc u) × IsEvent run n u (IssueMark p i)
issue_event opening run n p i zero growing first l = absurd (omega (arith, first.holds, total_within (run 0).issued p, growing.empty))
issue_event opening run n p i (suc u) growing first l = (
  u,
  refl,
  record {
    within = omega arith;
    marked = record {
      absent = ⊎_elim (λ (h : i < length (list_at (run u).issued p)). absurd (first.not_before u (omega arith) h))
          (λ (g : length (list_at (run u).issued p) ≤ i). g) (cases_lt i (length (list_at (run u).issued p)));
      present = first.holds;
    };
  },
)

pub service_event : (opening : List ℕ) (run : Run) (n b place t : ℕ) → OnlyGrows opening run n → IsServedAt run b place t → t ≤ n
    → (u : ℕ) × (t ≡ suc u) × IsEvent run n u (ServiceMark b place)
service_event opening run n b place zero growing first l = absurd (omega (arith, first.holds, total_within (run 0).entries b, growing.empty))
service_event opening run n b place (suc u) growing first l = (
  u,
  refl,
  record {
    within = omega arith;
    marked = record {
      absent = ⊎_elim (λ (h : place < length (list_at (run u).entries b)). absurd (first.not_before u (omega arith) h))
          (λ (g : length (list_at (run u).entries b) ≤ place). g) (cases_lt place (length (list_at (run u).entries b)));
      present = first.holds;
    };
  },
)

-- an answer of p's operation i
pub record IsAnswerAt (s : Observed) (p i k : ℕ) : Type 0 where
  pub answer : Answer
  pub there : slice_get (list_at s.answers p) k ≡ Some answer
  pub index : answer.index ≡ i

pub answer_event : (opening : List ℕ) (run : Run) (n p i t : ℕ) → OnlyGrows opening run n → IsAnsweredAt run p i t → t ≤ n
    → (u : ℕ) × (k : ℕ) × (t ≡ suc u) × IsEvent run n u (AnswerMark p k) × IsAnswerAt (run (suc u)) p i k
answer_event opening run n p i zero growing first l =
    let at = first.holds in
    absurd (omega (arith, slice_get_within (list_at (run 0).answers p) at.0 at.1 at.2, total_within (run 0).answers p, growing.empty))
answer_event opening run n p i (suc u) growing first l =
    let at = first.holds in
    let k : ℕ = at.0 in (
      u,
      k,
      refl,
      record {
        within = omega arith;
        marked = record {
          absent = ⊎_elim
              (λ (h : k < length (list_at (run u).answers p)).
              let old = within_length (list_at (run u).answers p) k h in
              let kept = growing.answers_stay u p k old.0 (omega arith) old.1 in
              let there : slice_get (list_at (run (suc u)).answers p) k ≡ Some at.1 = at.2 in
              let same : old.0 ≡ at.1 = cc in
              absurd (first.not_before u (omega arith) (k, old.0, old.1, ap (λ (a : Answer). a.index) same ∙ at.3)))
              (λ (g : length (list_at (run u).answers p) ≤ k). g)
              (cases_lt k (length (list_at (run u).answers p)));
          present = slice_get_within (list_at (run (suc u)).answers p) k at.1 at.2;
        };
      },
      record { answer = at.1; there = at.2; index = at.3 },
    )
