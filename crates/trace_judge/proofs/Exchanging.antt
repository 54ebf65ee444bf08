-- Two equal operations that are never answered change places in an order: it explains the trace still.
use Rattle.std.proofs.Common.{◌≡◌, ◌≢◌, ⊎_elim, ℕ, zero, suc, ◌<◌, ◌≤◌, ◌==◌, List, [], ◌∷◌, length, map, Some, refl, sym, ◌∙◌, ap, subst}
use Rattle.std.proofs.Common.{arith, slice_get, take, cond, eq-eqb}
use Rattle.std.proofs.lemmas.Bool.{cases_eq, cases_lt, ne_eqb, cond-true, cond-false}
use Rattle.packet.specs.declared.kinds.Operation.{Operation}
use Rattle.packet.specs.declared.kinds.Reply.{Reply}
use Rattle.packet.specs.Memory.{memory_after, reply_of_one}
use Rattle.trace_laws.specs.declared.event.Call.{Call}
use Rattle.trace_laws.specs.declared.event.Event.{Event}
use Rattle.trace_laws.specs.Traces.{IsTrace, TraceIssuesAt, TraceAnswersAt, IsAnswered}
use Rattle.trace_laws.specs.Orders.{IsOrder, memory_of, operations_of}
use Rattle.trace_laws.specs.Unanswered.{IsUnansweredLoad, HasNoUnansweredLoad}
use Rattle.trace_laws.proofs.Issues.{one_call, one_issue}

-- a number, where two change places
abbrev pub swapped : ℕ → ℕ → ℕ → ℕ
swapped a b n = cond (n == a) b (cond (n == b) a n)

swapped_first : (a b : ℕ) → swapped a b a ≡ b
swapped_first a b = cond-true (a == a) b (cond (a == b) a a) (eq-eqb a a refl)

swapped_second : (a b : ℕ) → b ≢ a → swapped a b b ≡ a
swapped_second a b ne = cond-false (b == a) b (cond (b == b) a b) (ne_eqb b a ne) ∙ cond-true (b == b) a b (eq-eqb b b refl)

swapped_other : (a b n : ℕ) → n ≢ a → n ≢ b → swapped a b n ≡ n
swapped_other a b n f g = cond-false (n == a) b (cond (n == b) a n) (ne_eqb n a f) ∙ cond-false (n == b) a n (ne_eqb n b g)

-- twice, they stand where they stood
swapped_back : (a b n : ℕ) → b ≢ a → swapped a b (swapped a b n) ≡ n
swapped_back a b n ne = ⊎_elim {C = swapped a b (swapped a b n) ≡ n}
    (λ (e : n ≡ a). ap (λ (m : ℕ). swapped a b (swapped a b m)) e ∙ (ap (λ (m : ℕ). swapped a b m) (swapped_first a b)
    ∙ (swapped_second a b ne ∙ sym e)))
    (λ (f : n ≢ a). ⊎_elim {C = swapped a b (swapped a b n) ≡ n}
    (λ (e : n ≡ b). ap (λ (m : ℕ). swapped a b (swapped a b m)) e ∙ (ap (λ (m : ℕ). swapped a b m) (swapped_second a b ne)
    ∙ (swapped_first a b ∙ sym e)))
    (λ (g : n ≢ b). ap (λ (m : ℕ). swapped a b m) (swapped_other a b n f g) ∙ swapped_other a b n f g)
    (cases_eq n b))
    (cases_eq n a)

swapped_one : (a b m n : ℕ) → b ≢ a → swapped a b m ≡ swapped a b n → m ≡ n
swapped_one a b m n ne e = sym (swapped_back a b m ne) ∙ (ap (λ (i : ℕ). swapped a b i) e ∙ swapped_back a b n ne)

-- an operation under its new number
abbrev pub renamed : ℕ → ℕ → Call → Call
renamed a b c = record { id = swapped a b c.id; operation = c.operation }

-- an order in which they change places
abbrev pub exchanged : ℕ → ℕ → List Call → List Call
exchanged a b order = map (λ c. renamed a b c) order

pub at_map : {A B : Type 0} (f : A → B) (xs : List A) (k : ℕ) (x : A) → slice_get xs k ≡ Some x
    → slice_get (map f xs) k ≡ Some (f x)
at_map f [] k x h = cc
at_map f (y ∷ xs) zero x h = let e : y ≡ x = cc in ap (λ z. Some (f z)) e
at_map f (y ∷ xs) (suc k) x h = at_map f xs k x h

pub map_at : {A B : Type 0} (f : A → B) (xs : List A) (k : ℕ) (y : B) → slice_get (map f xs) k ≡ Some y
    → (x : A) × (slice_get xs k ≡ Some x) × (y ≡ f x)
map_at f [] k y h = absurd cc
map_at f (x ∷ xs) zero y h = (x, refl, (let e : f x ≡ y = cc in sym e))
map_at f (x ∷ xs) (suc k) y h = map_at f xs k y h

-- what stands before some place stays, if each operation there does
pub prefix_stays : (f : Call → Call) (n : ℕ) (xs : List Call)
    → ((x : ℕ) (c : Call) → x < n → slice_get xs x ≡ Some c → f c ≡ c) → take n (map f xs) ≡ take n xs
prefix_stays f zero xs same = refl
prefix_stays f (suc n) [] same = refl
prefix_stays f (suc n) (c ∷ xs) same =
    ap (λ (d : Call). d ∷ take n (map f xs)) (same zero c (omega arith) refl)
    ∙ ap (λ (ys : List Call). c ∷ ys) (prefix_stays f n xs (λ x d l h. same (suc x) d (omega arith) h))

-- they ask the same
operations_stay : (a b n : ℕ) (order : List Call)
    → operations_of (take n (exchanged a b order)) ≡ operations_of (take n order)
operations_stay a b zero order = refl
operations_stay a b (suc n) [] = refl
operations_stay a b (suc n) (c ∷ order) = ap (λ (os : List Operation). c.operation ∷ os) (operations_stay a b n order)

-- two that ask the same and are never answered, the older one first
pub record AreTwins (trace : List Event) (a b : Call) : Type 0 where
  pub older : a.id < b.id
  pub same : a.operation ≡ b.operation
  pub first : ℕ
  pub second : ℕ
  pub issue : TraceIssuesAt trace first a
  pub issue_too : TraceIssuesAt trace second b
  pub never : IsAnswered trace a.id → ⊥
  pub never_too : IsAnswered trace b.id → ⊥

apart : (trace : List Event) (a b : Call) → AreTwins trace a b → b.id ≢ a.id
apart trace a b t e = let l = t.older in omega arith

-- the older one was issued first
issued_first : (words : ℕ) (trace : List Event) (a b : Call) → IsTrace words trace → (t : AreTwins trace a b) → t.first < t.second
issued_first words trace a b tr t = ⊎_elim {C = t.first < t.second}
    (λ (l : t.first < t.second). l)
    (λ (g : t.second ≤ t.first). ⊎_elim {C = t.first < t.second}
    (λ (l : t.second < t.first). absurd (let m = tr.rising t.second t.first b a l t.issue_too t.issue in let o = t.older in omega arith))
    (λ (m : t.first ≤ t.second).
    let e : t.second ≡ t.first = omega arith in
    let there : TraceIssuesAt trace t.first b = subst (λ (i : ℕ). TraceIssuesAt trace i b) e t.issue_too in
    let here : TraceIssuesAt trace t.first a = t.issue in
    let same : a ≡ b = cc in
    absurd (apart trace a b t (sym (ap (λ (c : Call). c.id) same))))
    (cases_lt t.second t.first))
    (cases_lt t.first t.second)

pub older_is : (trace : List Event) (a b : Call) → AreTwins trace a b → renamed a.id b.id b ≡ a
older_is trace a b t =
    let made : ℕ → Operation → Call = λ id o. record { id = id; operation = o } in
    ap (λ (n : ℕ). made n b.operation) (swapped_second a.id b.id (apart trace a b t))
    ∙ ap (λ (o : Operation). made a.id o) (sym t.same)

younger_is : (trace : List Event) (a b : Call) → AreTwins trace a b → renamed a.id b.id a ≡ b
younger_is trace a b t =
    let made : ℕ → Operation → Call = λ id o. record { id = id; operation = o } in
    ap (λ (n : ℕ). made n a.operation) (swapped_first a.id b.id)
    ∙ ap (λ (o : Operation). made b.id o) t.same

pub other_is : (a b : ℕ) (c : Call) → c.id ≢ a → c.id ≢ b → renamed a b c ≡ c
other_is a b c f g = ap (λ (n : ℕ). let d : Call = record { id = n; operation = c.operation } in d) (swapped_other a b c.id f g)

-- what stands at a place of the new order: one of the two in the place of the other, or what stood there
pub data Stood (a b c d : Call) : Type 0 where
  Younger : (c ≡ a) → (d ≡ b) → Stood a b c d
  Older : (c ≡ b) → (d ≡ a) → Stood a b c d
  Other : (d ≡ c) → Stood a b c d

pub stood : (words : ℕ) (opening : List ℕ) (trace : List Event) (order : List Call) → IsTrace words trace
    → IsOrder opening trace order → (a b : Call) → AreTwins trace a b
    → (x : ℕ) (c d : Call) → slice_get order x ≡ Some c → d ≡ renamed a.id b.id c → Stood a b c d
stood words opening trace order tr o a b t x c d h e =
    let issue = o.issued x c h in
    ⊎_elim {C = Stood a b c d}
    (λ (f : c.id ≡ a.id).
    let is : c ≡ a = one_call words trace tr issue.0 t.first c a issue.1 t.issue f in
    Younger is (e ∙ (ap (λ (f : Call). renamed a.id b.id f) is ∙ younger_is trace a b t)))
    (λ (f : c.id ≢ a.id). ⊎_elim {C = Stood a b c d}
    (λ (g : c.id ≡ b.id).
    let is : c ≡ b = one_call words trace tr issue.0 t.second c b issue.1 t.issue_too g in
    Older is (e ∙ (ap (λ (f : Call). renamed a.id b.id f) is ∙ older_is trace a b t)))
    (λ (g : c.id ≢ b.id). Other (e ∙ other_is a.id b.id c f g))
    (cases_eq c.id b.id))
    (cases_eq c.id a.id)

-- what is answered is neither of the two, and stood there
answered_stood : (trace : List Event) (a b c d : Call) → AreTwins trace a b → Stood a b c d → IsAnswered trace d.id → d ≡ c
answered_stood trace a b c d t (Younger f g) h = absurd (t.never_too (subst (λ (e : Call). IsAnswered trace e.id) g h))
answered_stood trace a b c d t (Older f g) h = absurd (t.never (subst (λ (e : Call). IsAnswered trace e.id) g h))
answered_stood trace a b c d t (Other e) h = e

-- what the order had answered, it has there still
pub answered_stays : (trace : List Event) (order : List Call) (a b : Call) → AreTwins trace a b → (x : ℕ) (c : Call)
    → IsAnswered trace c.id → slice_get order x ≡ Some c → slice_get (exchanged a.id b.id order) x ≡ Some c
answered_stays trace order a b t x c h at =
    let f : c.id ≢ a.id = λ e. t.never (subst (λ (n : ℕ). IsAnswered trace n) e h) in
    let g : c.id ≢ b.id = λ e. t.never_too (subst (λ (n : ℕ). IsAnswered trace n) e h) in
    at_map (λ (d : Call). renamed a.id b.id d) order x c at ∙ ap (λ (d : Call). Some d) (other_is a.id b.id c f g)

-- the younger one stands at place n, and the older one behind it, or nowhere
pub exchange : (opening : List ℕ) (trace : List Event) (order : List Call) → IsTrace (length opening) trace
    → IsOrder opening trace order → (a b : Call) → AreTwins trace a b
    → (n : ℕ) → slice_get order n ≡ Some b → ((y : ℕ) → slice_get order y ≡ Some a → n < y)
    → IsOrder opening trace (exchanged a.id b.id order)
exchange opening trace order tr o a b t n at behind =
    let words : ℕ = length opening in
    let f : Call → Call = λ c. renamed a.id b.id c in
    let ne : b.id ≢ a.id = apart trace a b t in
    record {
      once = λ x y c d h m e.
          let was = map_at f order x c h in
          let too = map_at f order y d m in
          o.once x y was.0 too.0 was.1 too.1 (swapped_one a.id b.id was.0.id too.0.id ne
          (sym (ap (λ (g : Call). g.id) was.2) ∙ (e ∙ ap (λ (g : Call). g.id) too.2)));
      issued = λ x c h.
          let was = map_at f order x c h in
          issued_as was.0 c (o.issued x was.0 was.1) (stood words opening trace order tr o a b t x was.0 c was.1 was.2);
      answered = λ i id reply h.
          let on = o.answered i id reply h in
          let here : IsAnswered trace on.1.id = (i, reply, subst (λ (m : ℕ). TraceAnswersAt trace i m reply) (sym on.3) h) in
          (on.0, on.1, answered_stays trace order a b t on.0 on.1 here on.2, on.3);
      real_time = λ i j x y c d reply l h m here there.
          let was = map_at f order x c here in
          let too = map_at f order y d there in
          let is : c ≡ was.0 = answered_stood trace a b was.0 c t
          (stood words opening trace order tr o a b t x was.0 c was.1 was.2) (i, reply, h) in
          before i j x y was.0 too.0 d reply l (subst (λ (g : Call). TraceAnswersAt trace i g.id reply) is h) m was.1 too.1
          (stood words opening trace order tr o a b t y too.0 d too.1 too.2);
      replies = λ i x c reply here h.
          let was = map_at f order x c here in
          let is : c ≡ was.0 = answered_stood trace a b was.0 c t
          (stood words opening trace order tr o a b t x was.0 c was.1 was.2) (i, reply, h) in
          o.replies i x was.0 reply was.1 (subst (λ (g : Call). TraceAnswersAt trace i g.id reply) is h)
          ∙ (ap (λ (os : List Operation). reply_of_one was.0.operation (memory_after os opening))
          (sym (operations_stay a.id b.id x order))
          ∙ ap (λ (g : Call). reply_of_one g.operation (memory_of opening (take x (exchanged a.id b.id order)))) (sym is));
    }
  where
    issued_as : (c d : Call) → (i : ℕ) × TraceIssuesAt trace i c → Stood a b c d → (i : ℕ) × TraceIssuesAt trace i d
    issued_as c d issue (Younger e g) = (t.second, subst (λ (h : Call). TraceIssuesAt trace t.second h) (sym g) t.issue_too)
    issued_as c d issue (Older e g) = (t.first, subst (λ (h : Call). TraceIssuesAt trace t.first h) (sym g) t.issue)
    issued_as c d issue (Other e) = (issue.0, subst (λ (h : Call). TraceIssuesAt trace issue.0 h) (sym e) issue.1)

    before : (i j x y : ℕ) (c e d : Call) (reply : Reply) → i < j → TraceAnswersAt trace i c.id reply
        → TraceIssuesAt trace j d → slice_get order x ≡ Some c → slice_get order y ≡ Some e → Stood a b e d → x < y
    before i j x y c e d reply l h m here there (Younger is alike) =
        let p = o.real_time i j x n c b reply l h (subst (λ (g : Call). TraceIssuesAt trace j g) alike m) here at in
        let q = behind y (subst (λ (g : Call). slice_get order y ≡ Some g) is there) in
        omega arith
    before i j x y c e d reply l h m here there (Older is alike) =
        let first : TraceIssuesAt trace j a = subst (λ (g : Call). TraceIssuesAt trace j g) alike m in
        let same = one_issue (length opening) trace tr j t.first a a first t.issue refl in
        let less = issued_first (length opening) trace a b tr t in
        o.real_time i t.second x y c b reply (omega arith) h t.issue_too here
        (subst (λ (g : Call). slice_get order y ≡ Some g) is there)
    before i j x y c e d reply l h m here there (Other is) =
        o.real_time i j x y c e reply l h (subst (λ (g : Call). TraceIssuesAt trace j g) is m) here there

-- and it has no load more that is never answered
pub exchange_heard : (opening : List ℕ) (trace : List Event) (order : List Call) → IsTrace (length opening) trace
    → IsOrder opening trace order → (a b : Call) → AreTwins trace a b
    → HasNoUnansweredLoad trace order → HasNoUnansweredLoad trace (exchanged a.id b.id order)
exchange_heard opening trace order tr o a b t heard = λ x d h lost.
    let was = map_at (λ (c : Call). renamed a.id b.id c) order x d h in
    none x was.0 d was.1 lost (stood (length opening) opening trace order tr o a b t x was.0 d was.1 was.2)
  where
    none : (x : ℕ) (c d : Call) → slice_get order x ≡ Some c → IsUnansweredLoad trace d → Stood a b c d → ⊥
    none x c d h lost (Younger is alike) = heard x c h (record {
      load = ap (λ (g : Call). g.operation.op) is ∙ (ap (λ (o : Operation). o.op) t.same
          ∙ (ap (λ (g : Call). g.operation.op) (sym alike) ∙ lost.load));
      never = λ h. t.never (subst (λ (g : Call). IsAnswered trace g.id) is h);
    })
    none x c d h lost (Older is alike) = heard x c h (record {
      load = ap (λ (g : Call). g.operation.op) is ∙ (ap (λ (o : Operation). o.op) (sym t.same)
          ∙ (ap (λ (g : Call). g.operation.op) (sym alike) ∙ lost.load));
      never = λ h. t.never_too (subst (λ (g : Call). IsAnswered trace g.id) is h);
    })
    none x c d h lost (Other is) = heard x c h (subst (λ (g : Call). IsUnansweredLoad trace g) is lost)
