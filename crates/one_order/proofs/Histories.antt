-- Lists of invocations: one more at the end, and one that is answered.
use Rattle.std.proofs.Common.{◌≡◌, ℕ, zero, suc, ◌+◌, ◌-◌, ◌<◌, List, [], ◌∷◌, ◌++◌, length, Option, Some, None, refl, sym, ◌∙◌, ap, subst, arith, slice_get}
use Rattle.std.proofs.Common.{slice_set, length-append, length-set}
use Rattle.std.specs.Prelude.{option_map, option_and_then}
use Rattle.std.proofs.lemmas.Option.{slice_get_within, some_pair_parts}
use Rattle.packet.specs.declared.kinds.Reply.{Reply}
use Rattle.one_order.specs.Scripts.{Invocation, IsLastReply, AreAnsweredBefore, AreAnswersBefore, AreAnswered, reply_of, last_reply, awaited, unanswered}

-- an invocation p has the operation and the issue of o, and its answer, if o has one
pub record IsSame (o p : Invocation) : Type 0 where
  pub operation : p.operation ≡ o.operation
  pub issue : p.issue ≡ o.issue
  pub answer : (a : ℕ × Reply) → o.answer ≡ Some a → p.answer ≡ Some a

pub same_refl : (o : Invocation) → IsSame o o
same_refl o = record { operation = refl; issue = refl; answer = λ a h. h }

pub same_trans : (o p q : Invocation) → IsSame o p → IsSame p q → IsSame o q
same_trans o p q h k = record { operation = k.operation ∙ h.operation; issue = k.issue ∙ h.issue; answer = λ a e. k.answer a (h.answer a e) }

-- the operations of one list are those of another, where more of them may be answered
abbrev pub Extends : List Invocation → List Invocation → Type 0
Extends [] [] = Unit {0}
Extends [] (p ∷ q) = ⊥
Extends (o ∷ past) [] = ⊥
Extends (o ∷ past) (p ∷ q) = IsSame o p × Extends past q

pub extends_refl : (past : List Invocation) → Extends past past
extends_refl [] = tt
extends_refl (o ∷ past) = (same_refl o, extends_refl past)

pub extends_trans : (a b c : List Invocation) → Extends a b → Extends b c → Extends a c
extends_trans [] [] [] h k = tt
extends_trans [] [] (z ∷ c) h k = absurd k
extends_trans [] (y ∷ b) c h k = absurd h
extends_trans (x ∷ a) [] c h k = absurd h
extends_trans (x ∷ a) (y ∷ b) [] h k = absurd k
extends_trans (x ∷ a) (y ∷ b) (z ∷ c) h k = (same_trans x y z h.0 k.0, extends_trans a b c h.1 k.1)

-- one more operation
pub extends_more : (past : List Invocation) (o : Invocation) (q : List Invocation) → Extends (past ++ o ∷ []) q →
    (before : List Invocation) × (p : Invocation) × (q ≡ before ++ p ∷ []) × Extends past before × IsSame o p
extends_more [] o [] h = absurd h
extends_more [] o (p ∷ []) h = ([], p, refl, tt, h.0)
extends_more [] o (p ∷ r ∷ q) h = absurd h.1
extends_more (x ∷ past) o [] h = absurd h
extends_more (x ∷ past) o (p ∷ q) h =
    let r = extends_more past o q h.1 in
    (p ∷ r.0, r.1, ap (λ (ys : List Invocation). p ∷ ys) r.2, (h.0, r.3), r.4)

-- one more answer
abbrev pub with_answer : Invocation → ℕ → Reply → Invocation
with_answer o t reply = record o { answer = Some (t, reply) }

pub extends_set : (past : List Invocation) (i : ℕ) (o : Invocation) (t : ℕ) (reply : Reply) → slice_get past i ≡ Some o → o.answer ≡ None →
    Extends past (slice_set past i (with_answer o t reply))
extends_set [] i o t reply h n = tt
extends_set (x ∷ past) zero o t reply h n =
    let e : x ≡ o = cc in (
      record {
        operation = ap (λ (y : Invocation). y.operation) (sym e);
        issue = ap (λ (y : Invocation). y.issue) (sym e);
        answer = λ a k. let m : x.answer ≡ None = ap (λ (y : Invocation). y.answer) e ∙ n in cc;
      },
      extends_refl past,
    )
extends_set (x ∷ past) (suc i) o t reply h n = (same_refl x, extends_set past i o t reply h n)

pub length-extends : (past q : List Invocation) → Extends past q → length q ≡ length past
length-extends [] [] h = refl
length-extends [] (p ∷ q) h = absurd h
length-extends (o ∷ past) [] h = absurd h
length-extends (o ∷ past) (p ∷ q) h = ap suc (length-extends past q h.1)

pub extends_get : (past q : List Invocation) (i : ℕ) (o : Invocation) → Extends past q → slice_get past i ≡ Some o →
    (p : Invocation) × (slice_get q i ≡ Some p) × IsSame o p
extends_get [] q i o h g = cc
extends_get (x ∷ past) [] i o h g = absurd h
extends_get (x ∷ past) (p ∷ q) zero o h g =
    let e : x ≡ o = cc in
    (p, refl, subst (λ (y : Invocation). IsSame y p) e h.0)
extends_get (x ∷ past) (p ∷ q) (suc i) o h g = extends_get past q i o h.1 g

pub extends_get_back : (past q : List Invocation) (i : ℕ) (p : Invocation) → Extends past q → slice_get q i ≡ Some p →
    (o : Invocation) × (slice_get past i ≡ Some o) × IsSame o p
extends_get_back [] [] i p h g = cc
extends_get_back [] (x ∷ q) i p h g = absurd h
extends_get_back (x ∷ past) [] i p h g = absurd h
extends_get_back (x ∷ past) (y ∷ q) zero p h g =
    let e : y ≡ p = cc in
    (x, refl, subst (λ (z : Invocation). IsSame x z) e h.0)
extends_get_back (x ∷ past) (y ∷ q) (suc i) p h g = extends_get_back past q i p h.1 g

-- answers before a step
pub answers_before_less : (past q : List Invocation) (t : ℕ) → Extends past q → AreAnswersBefore q t → AreAnswersBefore past t
answers_before_less past q t h before i o a reply g e =
    let r = extends_get past q i o h g in
    before i r.0 a reply r.1 (r.2.answer (a, reply) e)

pub all_answered_before : (past q : List Invocation) (t : ℕ) → Extends past q → AreAnswered past → AreAnswersBefore past t → AreAnsweredBefore q t
all_answered_before past q t h answered before i p g =
    let r = extends_get_back past q i p h g in
    let a = answered i r.0 r.1 in
    (a.1, (a.0, r.2.answer (a.0, a.1) a.2, before i r.0 a.0 a.1 r.1 a.2))

-- the last one is answered, with this reply
abbrev pub HasLastReply : List Invocation → Reply → Type 0
HasLastReply past reply = (o : Invocation) × (a : ℕ) × (slice_get past (length past - 1) ≡ Some o) × (o.answer ≡ Some (a, reply))

pub last_reply_before : (past q : List Invocation) (t : ℕ) (reply : Reply) → Extends past q → HasLastReply past reply → AreAnswersBefore past t
    → IsLastReply q t reply
last_reply_before past q t reply h last before =
    let r = extends_get past q (length past - 1) last.0 h last.2 in (
      r.0,
      ap (λ (n : ℕ). slice_get q (n - 1)) (length-extends past q h) ∙ r.1,
      (last.1, r.2.answer (last.1, reply) last.3, before (length past - 1) last.0 last.1 reply last.2 last.3),
    )

pub last_reply_kept : (past q : List Invocation) (reply : Reply) → Extends past q → HasLastReply past reply → HasLastReply q reply
last_reply_kept past q reply h last =
    let r = extends_get past q (length past - 1) last.0 h last.2 in
    (r.0, last.1, ap (λ (n : ℕ). slice_get q (n - 1)) (length-extends past q h) ∙ r.1, r.2.answer (last.1, reply) last.3)

-- the last one has one reply
pub last_reply_unique : (past : List Invocation) (t : ℕ) (x y : Reply) → IsLastReply past t x → HasLastReply past y → x ≡ y
last_reply_unique past t x y h k =
    let e : h.0 ≡ k.0 = cc in
    (some_pair_parts h.2.0 k.1 x y (sym h.2.1 ∙ (ap (λ (o : Invocation). o.answer) e ∙ k.3))).1

reply_known : (x : Option (ℕ × Reply)) (reply : Reply) → option_map (λ a. a.1) x ≡ Some reply → (a : ℕ) × (x ≡ Some (a, reply))
reply_known None reply h = cc
reply_known (Some x) reply h = let e : x.1 ≡ reply = cc in (x.0, ap (λ (r : Reply). Some (x.0, r)) e)

last_known_at : (x : Option Invocation) (reply : Reply) → option_and_then reply_of x ≡ Some reply
    → (o : Invocation) × (a : ℕ) × (x ≡ Some o) × (o.answer ≡ Some (a, reply))
last_known_at None reply h = cc
last_known_at (Some o) reply h = let r = reply_known o.answer reply h in (o, r.0, refl, r.1)

pub last_known : (past : List Invocation) (reply : Reply) → last_reply past ≡ Some reply → HasLastReply past reply
last_known past reply h = last_known_at (slice_get past (length past - 1)) reply h

pub last_shown : (past : List Invocation) (reply : Reply) → HasLastReply past reply → last_reply past ≡ Some reply
last_shown past reply h = ap (option_and_then reply_of) h.2 ∙ ap (option_map (λ (a : ℕ × Reply). a.1)) h.3

pub last_shown_before : (past : List Invocation) (t : ℕ) (reply : Reply) → IsLastReply past t reply → last_reply past ≡ Some reply
last_shown_before past t reply h = last_shown past reply (h.0, h.2.0, h.1, h.2.1)

-- one more at the end
pub get_last : (past : List Invocation) (o : Invocation) → slice_get (past ++ o ∷ []) (length past) ≡ Some o
get_last [] o = refl
get_last (x ∷ past) o = get_last past o

pub last_reply_more : (past : List Invocation) (o : Invocation) → o.answer ≡ None → last_reply (past ++ o ∷ []) ≡ None
last_reply_more past o h =
    let e : length (past ++ o ∷ []) - 1 ≡ length past = omega (arith, length-append past (o ∷ [])) in
    ap (λ (n : ℕ). option_and_then reply_of (slice_get (past ++ o ∷ []) n)) e
    ∙ (ap (option_and_then reply_of) (get_last past o) ∙ ap (option_map (λ (a : ℕ × Reply). a.1)) h)

pub get_set_same : (past : List Invocation) (i : ℕ) (o p : Invocation) → slice_get past i ≡ Some o → slice_get (slice_set past i p) i ≡ Some p
get_set_same [] i o p h = cc
get_set_same (x ∷ past) zero o p h = refl
get_set_same (x ∷ past) (suc i) o p h = get_set_same past i o p h

pub get_set_other : (past : List Invocation) (i j : ℕ) (p : Invocation) → (j ≡ i → ⊥) → slice_get (slice_set past i p) j ≡ slice_get past j
get_set_other [] i j p h = refl
get_set_other (x ∷ past) zero zero p h = absurd (h refl)
get_set_other (x ∷ past) zero (suc j) p h = refl
get_set_other (x ∷ past) (suc i) zero p h = refl
get_set_other (x ∷ past) (suc i) (suc j) p h = get_set_other past i j p (λ e. h (ap suc e))

pub last_reply_answered : (past : List Invocation) (i : ℕ) (o : Invocation) (t : ℕ) (reply : Reply) → slice_get past i ≡ Some o → i + 1 ≡ length past →
    HasLastReply (slice_set past i (with_answer o t reply)) reply
last_reply_answered past i o t reply h e =
    let n : length (slice_set past i (with_answer o t reply)) - 1 ≡ i = omega (arith, length-set past i (with_answer o t reply)) in (
      with_answer o t reply,
      t,
      ap (slice_get (slice_set past i (with_answer o t reply))) n ∙ get_set_same past i o (with_answer o t reply) h,
      refl,
    )

pub last_reply_other : (past : List Invocation) (i : ℕ) (o p : Invocation) → slice_get past i ≡ Some o → (i + 1 ≡ length past → ⊥) →
    last_reply (slice_set past i p) ≡ last_reply past
last_reply_other past i o p h e =
    let within = slice_get_within past i o h in
    let ne : length past - 1 ≡ i → ⊥ = λ (k : length past - 1 ≡ i). e (omega arith) in
    ap (λ (n : ℕ). option_and_then reply_of (slice_get (slice_set past i p) (n - 1))) (length-set past i p)
    ∙ ap (option_and_then reply_of) (get_set_other past i (length past - 1) p ne)

pub unanswered_more : (past : List Invocation) (o : Invocation) → o.answer ≡ None → unanswered (past ++ o ∷ []) ≡ unanswered past + 1
unanswered_more [] o h = let e = ap awaited h in omega arith
unanswered_more (x ∷ past) o h = let e = unanswered_more past o h in omega arith

pub unanswered_set : (past : List Invocation) (i : ℕ) (o : Invocation) (t : ℕ) (reply : Reply) → slice_get past i ≡ Some o → o.answer ≡ None →
    unanswered (slice_set past i (with_answer o t reply)) + 1 ≡ unanswered past
unanswered_set [] i o t reply h n = cc
unanswered_set (x ∷ past) zero o t reply h n =
    let e : x ≡ o = cc in
    let k : awaited x.answer ≡ 1 = ap (λ (y : Invocation). awaited y.answer) e ∙ ap awaited n in omega arith
unanswered_set (x ∷ past) (suc i) o t reply h n = let e = unanswered_set past i o t reply h n in omega arith

pub none_waits : (past : List Invocation) → AreAnswered past → unanswered past ≡ 0
none_waits [] h = refl
none_waits (x ∷ past) h =
    let a = h 0 x refl in
    let e = ap awaited a.2 in
    let k = none_waits past (λ i. h (suc i)) in omega arith

some_answer : (x : Option (ℕ × Reply)) → awaited x ≡ 0 → (a : ℕ) × (reply : Reply) × (x ≡ Some (a, reply))
some_answer None h = absurd (omega arith)
some_answer (Some x) h = (x.0, x.1, refl)

pub all_answered : (past : List Invocation) → unanswered past ≡ 0 → AreAnswered past
all_answered [] e i o g = cc
all_answered (x ∷ past) e zero o g =
    let r = some_answer x.answer (omega arith) in
    let same : x ≡ o = cc in
    (r.0, r.1, ap (λ (y : Invocation). y.answer) (sym same) ∙ r.2)
all_answered (x ∷ past) e (suc i) o g = all_answered past (omega arith) i o g

-- the last of some, all answered, has a reply
within_length : (xs : List Invocation) (k : ℕ) → k < length xs → (x : Invocation) × (slice_get xs k ≡ Some x)
within_length [] k h = absurd (omega arith)
within_length (x ∷ xs) zero h = (x, refl)
within_length (x ∷ xs) (suc k) h = within_length xs k (omega arith)

pub some_last : (x : Invocation) (past : List Invocation) → AreAnswered (x ∷ past) → (reply : Reply) × (last_reply (x ∷ past) ≡ Some reply)
some_last x past h =
    let r = within_length (x ∷ past) (length (x ∷ past) - 1) (omega arith) in
    let a = h (length (x ∷ past) - 1) r.0 r.1 in
    (a.1, last_shown (x ∷ past) a.1 (r.0, a.0, r.1, a.2))

-- some step is later than every answer
later_than : (x : Option (ℕ × Reply)) → (t : ℕ) × ((a : ℕ) (reply : Reply) → x ≡ Some (a, reply) → a < t)
later_than None = (0, λ a reply e. cc)
later_than (Some x) = (x.0 + 1, λ a reply e. let k : x.0 ≡ a = (some_pair_parts x.0 a x.1 reply e).0 in omega arith)

later_at : (x : Invocation) (past : List Invocation) (first : (t : ℕ) × ((a : ℕ) (reply : Reply) → x.answer ≡ Some (a, reply) → a < t))
    (rest : (t : ℕ) × AreAnswersBefore past t) (i : ℕ) (o : Invocation) (a : ℕ) (reply : Reply) →
    slice_get (x ∷ past) i ≡ Some o → o.answer ≡ Some (a, reply) → a < first.0 + rest.0
later_at x past first rest zero o a reply g e =
    let same : x ≡ o = cc in
    let k = first.1 a reply (ap (λ (y : Invocation). y.answer) same ∙ e) in omega arith
later_at x past first rest (suc i) o a reply g e = let k = rest.1 i o a reply g e in omega arith

later_of : (x : Invocation) (past : List Invocation) → ((t : ℕ) × ((a : ℕ) (reply : Reply) → x.answer ≡ Some (a, reply) → a < t)) →
    ((t : ℕ) × AreAnswersBefore past t) → (t : ℕ) × AreAnswersBefore (x ∷ past) t
later_of x past first rest = (first.0 + rest.0, λ i. later_at x past first rest i)

pub later_step : (past : List Invocation) → (t : ℕ) × AreAnswersBefore past t
later_step [] = (0, λ i o a reply g e. cc)
later_step (x ∷ past) = later_of x past (later_than x.answer) (later_step past)
