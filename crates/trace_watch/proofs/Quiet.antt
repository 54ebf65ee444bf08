-- What an event leaves of a word that it doesn't answer anything on.
use Rattle.std.proofs.Common.{◌≡◌, ◌≢◌, ⊎_elim, ℕ, zero, suc, ◌<◌, ◌≤◌, List, [], ◌∷◌, ◌++◌, length, Some, refl, sym, ◌∙◌, ap, subst}
use Rattle.std.proofs.Common.{arith, slice_get, take}
use Rattle.std.proofs.lemmas.Bool.{cases_eq, cases_lt}
use Rattle.std.proofs.lemmas.List.{take-take, take_all}
use Rattle.packet.specs.declared.kinds.Reply.{Reply}
use Rattle.packet.specs.Memory.{reply_of_one}
use Rattle.trace_laws.specs.declared.event.Call.{Call}
use Rattle.trace_laws.specs.declared.event.Event.{Event}
use Rattle.trace_laws.specs.declared.event.Event.TheVariants.{Issue, Answer}
use Rattle.trace_laws.specs.Traces.{IsTrace, TraceIssuesAt, TraceAnswersAt}
use Rattle.trace_laws.specs.Orders.{IsOn, memory_of}
use Rattle.trace_laws.specs.Locality.{IsOrderOn}
use Rattle.trace_laws.proofs.Issues.{one_issue, one_call}
use Rattle.trace_laws.proofs.Lists.{get_push, get_within, get_take, take_get}
use Rattle.trace_laws.specs.Configs.{IsIn}
use Rattle.trace_watch.specs.declared.state.Effect.{Effect}
use Rattle.trace_watch.specs.States.{Config, with_idle}
use Rattle.trace_watch.specs.Matchings.{Matches, MayBe, Other}
use Rattle.trace_watch.specs.Named.{NamedConfig, named_config}
use Rattle.trace_watch.specs.Known.{Explains, IsExplainedWatch, IsOpenOn, Knows, LeadsToConfig}
use Rattle.trace_watch.proofs.Matched.{fits_weaken, weaken}
use Rattle.trace_watch.proofs.Idle.{issued_up, issued_with}
use Rattle.trace_watch.proofs.Events.{issue_up, answer_up, answered_up, issue_cases, answer_cases, no_answer, same_call, issue_down}

-- the event answers no operation on word w
abbrev pub IsQuiet : List Event → ℕ → Event → Type 0
IsQuiet t w e = (i : ℕ) (c : Call) (r : Reply) → TraceIssuesAt t i c → c.operation.address ≡ w → e ≡ Answer c.id r → ⊥

pub quiet_issue : (t : List Event) (w : ℕ) (b : Call) → IsQuiet t w (Issue b)
quiet_issue t w b i c r h here e = no_answer c.id r b e

pub quiet_answer : (words : ℕ) (t : List Event) (w : ℕ) (id : ℕ) (reply : Reply) (at : ℕ) (b : Call)
    → IsTrace words t → TraceIssuesAt t at b → b.id ≡ id → b.operation.address ≢ w → IsQuiet t w (Answer id reply)
quiet_answer words t w id reply at b is issue number other i c r h here e =
    let n : c.id ≡ b.id = let f : id ≡ c.id = cc in sym f ∙ sym number in
    other (ap (λ (d : Call). d.operation.address) (sym (one_call words t is i at c b h issue n)) ∙ here)

-- what explained it still does
pub explains_kept : (words : ℕ) (opening : List ℕ) (t : List Event) (w : ℕ) (e : Event) (order : List Call) (c : NamedConfig)
    → IsTrace words (t ++ e ∷ []) → IsQuiet t w e → Explains opening t w order c
    → Explains opening (t ++ e ∷ []) w order c
explains_kept words opening t w e order c is quiet x =
    let o = x.legal in
    let more = t ++ e ∷ [] in
    let known : (i : ℕ) (d : Call) (j : ℕ) (r : Reply) → TraceIssuesAt t i d → d.operation.address ≡ w
    → TraceAnswersAt more j d.id r → TraceAnswersAt t j d.id r = λ i d j r h here told.
    ⊎_elim {C = TraceAnswersAt t j d.id r} (λ old. old) (λ new. absurd (quiet i d r h here new.1))
    (answer_cases t e j d.id r told) in
    let legal : IsOrderOn w opening more order = record {
      here = o.here;
      once = o.once;
      issued = λ p d h. let q = o.issued p d h in (q.0, issue_up t e q.0 d q.1);
      answered = λ i j d r issue here told. ⊎_elim {C = IsOn order d.id}
          (λ (old : TraceIssuesAt t i d). o.answered i j d r old here (known i d j r old here told))
          (λ (new : (i ≡ length t) × (e ≡ Issue d)).
          let before = is.issued j d.id r told in
          let same = one_issue words more is before.0 i before.1 d before.4 issue before.3 in
          let early = before.2 in
          let at = new.0 in
          ⊎_elim {C = IsOn order d.id}
          (λ (old : TraceAnswersAt t j d.id r). let l = get_within t j (Answer d.id r) old in absurd (omega arith))
          (λ (also : (j ≡ length t) × (e ≡ Answer d.id r)). absurd (no_answer d.id r d (sym new.1 ∙ also.1)))
          (answer_cases t e j d.id r told))
          (issue_cases t e i d issue);
      real_time = λ i j p q d f r less told issue h k.
          let a = o.issued p d h in
          let b = o.issued q f k in
          let old = known a.0 d i r a.1 (o.here p d h) told in
          let same = one_issue words more is b.0 j f f (issue_up t e b.0 f b.1) issue refl in
          let there : TraceIssuesAt t j f = subst (λ (n : ℕ). TraceIssuesAt t n f) same b.1 in
          o.real_time i j p q d f r less old there h k;
      replies = λ i p d r h told.
          let a = o.issued p d h in
          o.replies i p d r h (known a.0 d i r a.1 (o.here p d h) told);
    } in
    record {
      legal = legal;
      word = x.word;
      pending = λ f on told.
          let r = x.replied f on in
          let a = o.issued r.at r.call r.there in
          let also : TraceAnswersAt more told.0 r.call.id told.1 = subst (λ (n : ℕ). TraceAnswersAt more told.0 n told.1)
          (sym r.number) told.2 in
          let old = known a.0 r.call told.0 told.1 a.1 (o.here r.at r.call r.there) also in
          x.pending f on (told.0, told.1, subst (λ (n : ℕ). TraceAnswersAt t told.0 n told.1) r.number old);
      replied = x.replied;
      all = λ p d h never. x.all p d h (λ told. never (answered_up t e d.id told));
    }

-- what explains the longer trace explains the shorter one, but for a new operation
pub order_back : (opening : List ℕ) (t : List Event) (w id : ℕ) (reply : Reply) (order : List Call)
    → IsOrderOn w opening (t ++ Answer id reply ∷ []) order → IsOrderOn w opening t order
order_back opening t w id reply order o = record {
  here = o.here;
  once = o.once;
  issued = λ p d h. let q = o.issued p d h in (q.0, issue_down t id reply q.0 d q.1);
  answered = λ i j d r issue here told. o.answered i j d r (issue_up t (Answer id reply) i d issue) here
      (answer_up t (Answer id reply) j d.id r told);
  real_time = λ i j p q d f r less told issue h k. o.real_time i j p q d f r less
      (answer_up t (Answer id reply) i d.id r told) (issue_up t (Answer id reply) j f issue) h k;
  replies = λ i p d r h told. o.replies i p d r h (answer_up t (Answer id reply) i d.id r told);
}

-- the place of an operation in an order, or the order's end
record IsPlace (order : List Call) (id p : ℕ) : Type 0 where
  pub before : (x : ℕ) (c : Call) → x < p → slice_get order x ≡ Some c → c.id ≢ id
  pub behind : (x : ℕ) (c : Call) → p ≤ x → slice_get order x ≡ Some c
      → (d : Call) × (slice_get order p ≡ Some d) × (d.id ≡ id)

find : (order : List Call) (id : ℕ) → (p : ℕ) × IsPlace order id p
find [] id = (0, record { before = λ x c l h. absurd (omega arith); behind = λ x c l h. cc })
find (c ∷ order) id = ⊎_elim {C = (p : ℕ) × IsPlace (c ∷ order) id p}
    (λ (e : c.id ≡ id). (
      0,
      record { before = λ x d l h. absurd (omega arith); behind = λ x d l h. (c, refl, e) },
    ))
    (λ (ne : c.id ≢ id).
    let r = find order id in
    let is : IsPlace order id r.0 = r.1 in (
      suc r.0,
      record { before = λ x d l h. before ne r.0 is x d l h; behind = λ x d l h. behind r.0 is x d l h },
    ))
    (cases_eq c.id id)
  where
    before : c.id ≢ id → (p : ℕ) → IsPlace order id p → (x : ℕ) (d : Call) → x < suc p
        → slice_get (c ∷ order) x ≡ Some d → d.id ≢ id
    before ne p is zero d l h = let e : c ≡ d = cc in subst (λ (f : Call). f.id ≢ id) e ne
    before ne p is (suc x) d l h = is.before x d (omega arith) h

    behind : (p : ℕ) → IsPlace order id p → (x : ℕ) (d : Call) → suc p ≤ x → slice_get (c ∷ order) x ≡ Some d
        → (f : Call) × (slice_get order p ≡ Some f) × (f.id ≡ id)
    behind p is zero d l h = absurd (omega arith)
    behind p is (suc x) d l h = is.behind x d (omega arith) h

-- up to a new operation, an order of the longer trace explains the shorter one
pub order_cut : (words : ℕ) (opening : List ℕ) (t : List Event) (w : ℕ) (b : Call) (order : List Call)
    → IsTrace words (t ++ Issue b ∷ []) → IsOrderOn w opening (t ++ Issue b ∷ []) order
    → (p : ℕ) × IsOrderOn w opening t (take p order)
order_cut words opening t w b order is o =
    let more = t ++ Issue b ∷ [] in
    let found = find order b.id in
    let p = found.0 in
    let at : IsPlace order b.id p = found.1 in (
      p,
      record {
        here = λ x c h. o.here x c (take_get p order x c h).1;
        once = λ x y c d h k e. o.once x y c d (take_get p order x c h).1 (take_get p order y d k).1 e;
        issued = λ x c h.
            let r = take_get p order x c h in
            let q = o.issued x c r.1 in
            ⊎_elim {C = (i : ℕ) × TraceIssuesAt t i c}
            (λ (old : TraceIssuesAt t q.0 c). (q.0, old))
            (λ (new : (q.0 ≡ length t) × (Issue b ≡ Issue c)).
            absurd (at.before x c r.0 r.1 (ap (λ (d : Call). d.id) (sym (same_call b c new.1)))))
            (issue_cases t (Issue b) q.0 c q.1);
        answered = λ i j c r issue here told.
            let on : IsOn order c.id = o.answered i j c r (issue_up t (Issue b) i c issue) here
            (answer_up t (Issue b) j c.id r told) in
            ⊎_elim {C = IsOn (take p order) c.id}
            (λ (l : on.0 < p). (on.0, on.1, get_take p order on.0 on.1 l on.2, on.3))
            (λ (g : p ≤ on.0).
            let late = at.behind on.0 on.1 g on.2 in
            let issued = o.issued p late.0 late.1 in
            let same = one_issue words more is issued.0 (length t) late.0 b issued.1 (get_push t (Issue b)) late.2 in
            let m = get_within t j (Answer c.id r) told in
            let also : TraceAnswersAt more j on.1.id r = subst (λ (n : ℕ). TraceAnswersAt more j n r) (sym on.3)
            (answer_up t (Issue b) j c.id r told) in
            let wrong = o.real_time j issued.0 on.0 p on.1 late.0 r (omega arith) also issued.1 on.2 late.1 in
            absurd (omega arith))
            (cases_lt on.0 p);
        real_time = λ i j x y c d r less told issue h k. o.real_time i j x y c d r less
            (answer_up t (Issue b) i c.id r told) (issue_up t (Issue b) j d issue)
            (take_get p order x c h).1 (take_get p order y d k).1;
        replies = λ i x c r h told.
            let q = take_get p order x c h in
            let e : take x (take p order) ≡ take x order = take-take x p order (omega (arith, q.0)) in
            o.replies i x c r q.1 (answer_up t (Issue b) i c.id r told) ∙ ap
            (λ (l : List Call). reply_of_one c.operation (memory_of opening l)) (sym e);
      },
    )

-- a beginning is no longer than its end
short : (p : ℕ) (order : List Call) → length (take p order) ≤ p
short zero order = omega arith
short (suc p) [] = omega arith
short (suc p) (c ∷ order) = let l = short p order in omega arith

-- a beginning of a beginning is one
pub take_of_take : (n p : ℕ) (order : List Call) → (m : ℕ) × (take n (take p order) ≡ take m order)
take_of_take n p order = ⊎_elim {C = (m : ℕ) × (take n (take p order) ≡ take m order)}
    (λ (g : p < n). (p, take_all n (take p order) (let s = short p order in omega arith)))
    (λ (l : n ≤ p). (n, take-take n p order l))
    (cases_lt p n)

-- fewer operations, where they are those that the effects may be of
pub weaken_by : (P Q : Call → Type 0) (es : List Effect) (calls : List Call)
    → ((c : Call) (e : Effect) → IsIn es e → MayBe e c → P c → Q c) → Matches P es calls → Matches Q es calls
weaken_by P Q [] [] f m = tt
weaken_by P Q [] (c ∷ cs) f m = absurd m
weaken_by P Q (e ∷ es) [] f m = absurd m
weaken_by P Q (e ∷ es) (c ∷ cs) f m = (
  f c e (zero, refl) m.1 m.0,
  m.1,
  weaken_by (Other P c.id) (Other Q c.id) es cs
      (λ d g on may o. (f d g (suc on.0, on.1) may o.0, o.1)) m.2,
)

-- what was open on a word still is
pub open_up : (t : List Event) (w : ℕ) (e : Event) (c : Call) → IsQuiet t w e → IsOpenOn t w c
    → IsOpenOn (t ++ e ∷ []) w c
open_up t w e c quiet is =
    let issue = is.pending.issued in
    record {
      pending = record {
        issued = (issue.0, issue_up t e issue.0 c issue.1);
        unanswered = λ a. ⊎_elim {C = ⊥}
            (λ (old : TraceAnswersAt t a.0 c.id a.1). is.pending.unanswered (a.0, a.1, old))
            (λ (new : (a.0 ≡ length t) × (e ≡ Answer c.id a.1)). quiet issue.0 c a.1 issue.1 is.here new.1)
            (answer_cases t e a.0 c.id a.1 a.2);
      };
      here = is.here;
    }

-- and what is open was, unless it is too new
pub open_down : (words : ℕ) (t : List Event) (w : ℕ) (e : Event) (c : Call) (n i : ℕ) (a : Call)
    → IsTrace words (t ++ e ∷ []) → TraceIssuesAt t i a → n ≤ a.id → c.id ≤ n → IsOpenOn (t ++ e ∷ []) w c
    → IsOpenOn t w c
open_down words t w e c n i a is issue low early waits =
    let there = waits.pending.issued in
    ⊎_elim {C = IsOpenOn t w c}
    (λ (old : TraceIssuesAt t there.0 c). record {
      pending = record { issued = (there.0, old); unanswered = λ b. waits.pending.unanswered (answered_up t e c.id b) };
      here = waits.here;
    })
    (λ (new : (there.0 ≡ length t) × (e ≡ Issue c)).
    let l = get_within t i (Issue a) issue in
    let at = new.0 in
    let less = is.rising i there.0 a c (omega (arith, l, at)) (issue_up t e i a issue) there.1 in
    absurd (omega (arith, less, low, early)))
    (issue_cases t e there.0 c there.1)

explained_kept : (words : ℕ) (opening : List ℕ) (t : List Event) (w : ℕ) (e : Event) (c : Config)
    → IsTrace words (t ++ e ∷ []) → IsQuiet t w e → IsExplainedWatch opening t w c → IsExplainedWatch opening (t ++ e ∷ []) w c
explained_kept words opening t w e c is quiet x =
    let more = t ++ e ∷ [] in
    record {
      fits = fits_weaken (IsOpenOn t w) (IsOpenOn more w) (λ d o. open_up t w e d quiet o) c.effects x.fits;
      explained = λ es idle calls m.
          let old = weaken_by (IsOpenOn more w) (IsOpenOn t w) (c.effects ++ es) calls
          (λ d f on may o.
          let q = issued_with opening t w c es x idle f on in
          open_down words t w e d f.newest q.0 q.1 is q.2 q.3 may.early o) m in
          let r = x.explained es idle calls old in
          (r.0, explains_kept words opening t w e r.0 (named_config (with_idle c es) calls) is quiet r.1);
      issued = λ f on. issued_up t e f.newest (x.issued f on);
      seen = λ g on. issued_up t e g.newest (x.seen g on);
    }

leads_kept : (words : ℕ) (opening : List ℕ) (t : List Event) (w : ℕ) (e : Event) (order : List Call)
    (configs : List Config) → IsTrace words (t ++ e ∷ []) → IsQuiet t w e → LeadsToConfig opening t w order configs
    → LeadsToConfig opening (t ++ e ∷ []) w order configs
leads_kept words opening t w e order configs is quiet l = record {
  config = l.config;
  on = l.on;
  idle = l.idle;
  seen = l.seen;
  calls = l.calls;
  matches = weaken (IsOpenOn t w) (IsOpenOn (t ++ e ∷ []) w) (λ d o. open_up t w e d quiet o) (l.config.effects ++ l.idle)
      l.calls l.matches;
  explains = explains_kept words opening t w e order (named_config (with_idle l.config l.idle) l.calls) is quiet l.explains;
}

-- what is known of a word, after an issue
pub knows_issue : (words : ℕ) (opening : List ℕ) (t : List Event) (w : ℕ) (b : Call) (configs : List Config)
    → IsTrace words (t ++ Issue b ∷ []) → Knows opening t w configs → Knows opening (t ++ Issue b ∷ []) w configs
knows_issue words opening t w b configs is k = record {
  sound = λ c on. explained_kept words opening t w (Issue b) c is (quiet_issue t w b) (k.sound c on);
  complete = λ order o.
      let cut = order_cut words opening t w b order is o in
      let p = cut.0 in
      let r = k.complete (take p order) cut.1 in
      let m = take_of_take r.0 p order in
      let l : LeadsToConfig opening t w (take m.0 order) configs = subst
      (λ (xs : List Call). LeadsToConfig opening t w xs configs) m.1 r.1 in
      (m.0, leads_kept words opening t w (Issue b) (take m.0 order) configs is (quiet_issue t w b) l);
}

-- and after an answer on another word
pub knows_elsewhere : (words : ℕ) (opening : List ℕ) (t : List Event) (w : ℕ) (id : ℕ) (reply : Reply)
    (configs : List Config)
    → IsTrace words (t ++ Answer id reply ∷ []) → IsQuiet t w (Answer id reply) → Knows opening t w configs
    → Knows opening (t ++ Answer id reply ∷ []) w configs
knows_elsewhere words opening t w id reply configs is quiet k = record {
  sound = λ c on. explained_kept words opening t w (Answer id reply) c is quiet (k.sound c on);
  complete = λ order o.
      let r = k.complete order (order_back opening t w id reply order o) in
      (r.0, leads_kept words opening t w (Answer id reply) (take r.0 order) configs is quiet r.1);
}
