-- What notes hold of the operations behind an event of a part, and what a part lacks by them.
use Rattle.std.proofs.Common.{◌≡◌, ◌⊎◌, ⊎_elim, inl, inr, ℕ, ◌+◌, ◌<◌, ◌≤◌, ◌||◌, Bool, true, false, List, length, Some, None, refl, sym, ◌∙◌, ap, subst, arith, slice_get}
use Rattle.std.proofs.lemmas.Bool.{cases_lt}
use Rattle.packet.specs.declared.kinds.Reply.{Reply}
use Rattle.state_search.specs.Parts.{IsKept}
use Rattle.trace_laws.specs.declared.event.Call.{Call}
use Rattle.trace_laws.specs.declared.event.Event.{Event}
use Rattle.trace_laws.specs.declared.event.Event.TheVariants.{Issue, Answer}
use Rattle.trace_laws.specs.Traces.{TraceAnswersAt}
use Rattle.trace_laws.proofs.Lists.{same_get, get_within}
use Rattle.trace_text.specs.declared.issued.Issued.{Issued}
use Rattle.trace_answer.specs.declared.noted.FoundWords.{FoundWords}
use Rattle.trace_answer.specs.declared.leaving.Words.{Words}
use Rattle.trace_answer.specs.declared.leaving.Words.TheVariants.{Nothing, One, Any}
use Rattle.trace_answer.specs.Leaving.{IsAmong, IsClosedPart, MayHaveLeft, found_of, left_of}
use Rattle.trace_answer.specs.Noted.{AddsNotes, HoldsFound, IsNoteFrom, IsNoteOf, IsPassed, Note, Word, Anything, Something, has, is_met}

one_true : (x y : Bool) → (x || y) ≡ true → (x ≡ true) ⊎ (y ≡ true)
one_true true y e = inl refl
one_true false y e = inr e

or_left : (x y : Bool) → x ≡ true → (x || y) ≡ true
or_left true y e = refl
or_left false y e = absurd (let n : false ≡ true = e in cc)

or_right : (x y : Bool) → y ≡ true → (x || y) ≡ true
or_right true y e = refl
or_right false y e = e

-- an event less is before
passed_more : (issued : List Issued) (events : List Event) (n i k : ℕ) (e : Event) → slice_get events i ≡ Some e
    → IsPassed issued events n i k → IsPassed issued events n (i + 1) k ⊎ ((reply : Reply) × (e ≡ Answer k reply))
passed_more issued events n i k e at p = ⊎_elim {C = IsPassed issued events n (i + 1) k ⊎ ((reply : Reply) × (e ≡ Answer k reply))}
    (λ (none : (first : Issued) × (slice_get issued k ≡ Some first) × (first.reply ≡ None) × (k < n)). inl (inl none))
    (λ (some : (f : ℕ) × (reply : Reply) × (i ≤ f) × TraceAnswersAt events f k reply).
    ⊎_elim {C = IsPassed issued events n (i + 1) k ⊎ ((reply : Reply) × (e ≡ Answer k reply))}
    (λ (over : i < some.0). inl (inr (some.0, some.1, omega arith, some.3)))
    (λ (under : some.0 ≤ i).
    let low : i ≤ some.0 = some.2 in
    let same : some.0 ≡ i = omega arith in
    inr (some.1, same_get events i e (Answer k some.1) at (subst (λ z. TraceAnswersAt events z k some.1) same some.3)))
    (cases_lt i some.0))
    p

passed_less : (issued : List Issued) (events : List Event) (n i k : ℕ) → IsPassed issued events n (i + 1) k → IsPassed issued events n i k
passed_less issued events n i k p = ⊎_elim {C = IsPassed issued events n i k}
    (λ (none : (first : Issued) × (slice_get issued k ≡ Some first) × (first.reply ≡ None) × (k < n)). inl none)
    (λ (some : (f : ℕ) × (reply : Reply) × (i + 1 ≤ f) × TraceAnswersAt events f k reply).
    let low : i + 1 ≤ some.0 = some.2 in
    inr (some.0, some.1, omega arith, some.3))
    p

-- an answer more
pub answer_noted : {A : Type 0} (issued : List Issued) (events : List Event) (kept : List Bool) (n i id : ℕ) (reply : Reply) (e : Event) (old new : FoundWords A)
    → e ≡ Answer id reply → slice_get events i ≡ Some e → AddsNotes issued kept id old new
    → HoldsFound issued events kept n (i + 1) old → HoldsFound issued events kept n i new
answer_noted issued events kept n i id reply e old new is at added was = record {
  only = λ a note h. ⊎_elim {C = (k : ℕ) × IsPassed issued events n i k × IsNoteFrom issued kept k a note}
      (λ (older : has old a note ≡ true). let w = was.only a note older in (w.0, passed_less issued events n i w.0 w.1, w.2))
      (λ (here : IsNoteFrom issued kept id a note).
      (id, inr (i, reply, omega arith, at ∙ ap (λ (z : Event). Some z) is), here))
      (added.only a note h);
  all = λ k a note p from. ⊎_elim {C = has new a note ≡ true}
      (λ (q : IsPassed issued events n (i + 1) k). added.old_ones a note (was.all k a note q from))
      (λ (this : (r : Reply) × (e ≡ Answer k r)).
      let both : Answer id reply ≡ Answer k this.0 = sym is ∙ this.1 in
      let same : k ≡ id = cc in
      added.these a note (subst (λ z. IsNoteFrom issued kept z a note) same from))
      (passed_more issued events n i k e at p);
}

-- an issue more
pub issue_noted : {A : Type 0} (issued : List Issued) (events : List Event) (kept : List Bool) (n i : ℕ) (call : Call) (e : Event) (f : FoundWords A)
    → e ≡ Issue call → slice_get events i ≡ Some e
    → HoldsFound issued events kept n (i + 1) f → HoldsFound issued events kept n i f
issue_noted issued events kept n i call e f is at was = record {
  only = λ a note h. let w = was.only a note h in (w.0, passed_less issued events n i w.0 w.1, w.2);
  all = λ k a note p from. ⊎_elim {C = has f a note ≡ true}
      (λ (q : IsPassed issued events n (i + 1) k). was.all k a note q from)
      (λ (this : (r : Reply) × (e ≡ Answer k r)). absurd (let both : Issue call ≡ Answer k this.0 = sym is ∙ this.1 in cc))
      (passed_more issued events n i k e at p);
}

-- an operation more without an answer
pub unanswered_noted : {A : Type 0} (issued : List Issued) (events : List Event) (kept : List Bool) (k i : ℕ) (first : Issued) (old new : FoundWords A)
    → slice_get issued k ≡ Some first → first.reply ≡ None → AddsNotes issued kept k old new
    → HoldsFound issued events kept k i old → HoldsFound issued events kept (k + 1) i new
unanswered_noted issued events kept k i first old new at none added was = record {
  only = λ a note h. ⊎_elim {C = (j : ℕ) × IsPassed issued events (k + 1) i j × IsNoteFrom issued kept j a note}
      (λ (older : has old a note ≡ true). let w = was.only a note older in (w.0, grown issued events k i w.0 w.1, w.2))
      (λ (here : IsNoteFrom issued kept k a note). (k, inl (first, at, none, omega arith), here))
      (added.only a note h);
  all = λ j a note p from. ⊎_elim {C = has new a note ≡ true}
      (λ (q : IsPassed issued events k i j). added.old_ones a note (was.all j a note q from))
      (λ (same : (j ≡ k) × ((x : Issued) × (slice_get issued j ≡ Some x) × (x.reply ≡ None))).
      added.these a note (subst (λ z. IsNoteFrom issued kept z a note) same.0 from))
      (less issued events k i j p);
}
  where
    grown : (issued : List Issued) (events : List Event) (k i j : ℕ) → IsPassed issued events k i j → IsPassed issued events (k + 1) i j
    grown issued events k i j p = ⊎_elim {C = IsPassed issued events (k + 1) i j}
        (λ (none : (x : Issued) × (slice_get issued j ≡ Some x) × (x.reply ≡ None) × (j < k)).
        let low : j < k = none.3 in inl (none.0, none.1, none.2, omega arith))
        (λ (some : (f : ℕ) × (reply : Reply) × (i ≤ f) × TraceAnswersAt events f j reply). inr some)
        p

    less : (issued : List Issued) (events : List Event) (k i j : ℕ) → IsPassed issued events (k + 1) i j
        → IsPassed issued events k i j ⊎ ((j ≡ k) × ((x : Issued) × (slice_get issued j ≡ Some x) × (x.reply ≡ None)))
    less issued events k i j p = ⊎_elim {C = IsPassed issued events k i j ⊎ ((j ≡ k) × ((x : Issued) × (slice_get issued j ≡ Some x) × (x.reply ≡ None)))}
        (λ (none : (x : Issued) × (slice_get issued j ≡ Some x) × (x.reply ≡ None) × (j < k + 1)).
        ⊎_elim {C = IsPassed issued events k i j ⊎ ((j ≡ k) × ((x : Issued) × (slice_get issued j ≡ Some x) × (x.reply ≡ None)))}
        (λ (low : j < k). inl (inl (none.0, none.1, none.2, low)))
        (λ (high : k ≤ j). let l : j < k + 1 = none.3 in inr (omega arith, (none.0, none.1, none.2)))
        (cases_lt j k))
        (λ (some : (f : ℕ) × (reply : Reply) × (i ≤ f) × TraceAnswersAt events f j reply). inl (inr some))
        p

-- an operation that has an answer, or isn't there
pub unanswered_skipped : {A : Type 0} (issued : List Issued) (events : List Event) (kept : List Bool) (k i : ℕ) (f : FoundWords A)
    → ((first : Issued) → slice_get issued k ≡ Some first → first.reply ≡ None → ⊥)
    → HoldsFound issued events kept k i f → HoldsFound issued events kept (k + 1) i f
unanswered_skipped issued events kept k i f never was = record {
  only = λ a note h. let w = was.only a note h in (w.0, grown w.0 w.1, w.2);
  all = λ j a note p from. was.all j a note (less j p) from;
}
  where
    grown : (j : ℕ) → IsPassed issued events k i j → IsPassed issued events (k + 1) i j
    grown j p = ⊎_elim {C = IsPassed issued events (k + 1) i j}
        (λ (none : (x : Issued) × (slice_get issued j ≡ Some x) × (x.reply ≡ None) × (j < k)).
        let low : j < k = none.3 in inl (none.0, none.1, none.2, omega arith))
        (λ (some : (f : ℕ) × (reply : Reply) × (i ≤ f) × TraceAnswersAt events f j reply). inr some)
        p

    less : (j : ℕ) → IsPassed issued events (k + 1) i j → IsPassed issued events k i j
    less j p = ⊎_elim {C = IsPassed issued events k i j}
        (λ (none : (x : Issued) × (slice_get issued j ≡ Some x) × (x.reply ≡ None) × (j < k + 1)).
        ⊎_elim {C = IsPassed issued events k i j}
        (λ (low : j < k). inl (none.0, none.1, none.2, low))
        (λ (high : k ≤ j). let l : j < k + 1 = none.3 in let same : j ≡ k = omega arith in
        absurd (never none.0 (subst (λ z. slice_get issued z ≡ Some none.0) same none.1) none.2))
        (cases_lt j k))
        (λ (some : (f : ℕ) × (reply : Reply) × (i ≤ f) × TraceAnswersAt events f j reply). inr some)
        p

-- nothing is noted at first
pub nothing_noted : {A : Type 0} (issued : List Issued) (events : List Event) (kept : List Bool) (f : FoundWords A)
    → ((a : ℕ) (note : Note) → has f a note ≡ false) → HoldsFound issued events kept 0 (length events) f
nothing_noted issued events kept f none = record {
  only = λ a note h. absurd (let n : true ≡ false = sym h ∙ none a note in cc);
  all = λ k a note p from. ⊎_elim {C = has f a note ≡ true}
      (λ (n : (x : Issued) × (slice_get issued k ≡ Some x) × (x.reply ≡ None) × (k < 0)). let low : k < 0 = n.3 in absurd (omega arith))
      (λ (s : (g : ℕ) × (reply : Reply) × (length events ≤ g) × TraceAnswersAt events g k reply).
      let low : length events ≤ s.0 = s.2 in
      let high : s.0 < length events = get_within events s.0 (Answer k s.1) s.3 in absurd (omega arith))
      p;
}

-- an operation that isn't kept and may have left what was found
pub lacking_is : {A : Type 0} (issued : List Issued) (events : List Event) (kept : List Bool) (n i : ℕ) (call : Call) (second : Issued) (e : Event) (f : FoundWords A)
    → e ≡ Issue call → slice_get events i ≡ Some e → slice_get issued call.id ≡ Some second → (IsKept kept call.id → ⊥)
    → HoldsFound issued events kept n (i + 1) f → is_met f second.operation.address (left_of second.operation.op second.reply) ≡ true
    → IsClosedPart issued events kept → ⊥
lacking_is issued events kept n i call second e f is at there gone holds met closed = by_left (left_of second.operation.op second.reply) refl met
  where
    may : (k : ℕ) (first : Issued) (v : ℕ) → slice_get issued k ≡ Some first → IsPassed issued events n (i + 1) k
        → first.operation.address ≡ second.operation.address → IsAmong (found_of first.operation.op first.reply) v
        → IsAmong (left_of second.operation.op second.reply) v → MayHaveLeft issued events k call.id
    may k first v one passed same found left = record {
      event = i;
      call = call;
      issue = at ∙ ap (λ (z : Event). Some z) is;
      named = refl;
      first = first;
      second = second;
      one = one;
      other = there;
      early = ⊎_elim {C = (first.reply ≡ None) ⊎ ((g : ℕ) × (reply : Reply) × (i < g) × TraceAnswersAt events g k reply)}
          (λ (none : (x : Issued) × (slice_get issued k ≡ Some x) × (x.reply ≡ None) × (k < n)).
          let s : none.0 ≡ first = same_get issued k none.0 first none.1 one in inl (ap (λ (x : Issued). x.reply) (sym s) ∙ none.2))
          (λ (some : (g : ℕ) × (reply : Reply) × (i + 1 ≤ g) × TraceAnswersAt events g k reply).
          let low : i + 1 ≤ some.0 = some.2 in inr (some.0, some.1, omega arith, some.3))
          passed;
      here = sym same;
      word = v;
      found = found;
      left = left;
    }

    by_note : (note : Note) → has f second.operation.address note ≡ true
        → ((found : Words) → IsNoteOf found note → (v : ℕ) × IsAmong found v × IsAmong (left_of second.operation.op second.reply) v) → ⊥
    by_note note h word =
        let w = holds.only second.operation.address note h in
        let from = w.2 in
        let common = word (found_of from.0.operation.op from.0.reply) from.4 in
        gone (closed w.0 call.id from.2 (may w.0 from.0 common.0 from.1 w.1 from.3 common.1 common.2))

    by_left : (left : Words) → left ≡ left_of second.operation.op second.reply → is_met f second.operation.address left ≡ true → ⊥
    by_left Nothing same h = let n : false ≡ true = h in cc
    by_left (One u) same h = ⊎_elim {C = ⊥}
        (λ (w : has f second.operation.address (Word u) ≡ true). by_note (Word u) w
        (λ found e. (u, subst (λ z. IsAmong z u) (sym e) refl, subst (λ z. IsAmong z u) same refl)))
        (λ (w : has f second.operation.address Anything ≡ true). by_note Anything w
        (λ found e. (u, subst (λ z. IsAmong z u) (sym e) tt, subst (λ z. IsAmong z u) same refl)))
        (one_true _ _ h)
    by_left Any same h = by_note Something h (λ found e. (e.0, e.1, subst (λ z. IsAmong z e.0) same tt))

-- the operation that an event issues
issued_here : (issued : List Issued) (events : List Event) (i : ℕ) (call : Call) (e : Event) (k j : ℕ) → e ≡ Issue call → slice_get events i ≡ Some e
    → (m : MayHaveLeft issued events k j) → m.event ≡ i → j ≡ call.id
issued_here issued events i call e k j is at m here =
    let issue : slice_get events i ≡ Some (Issue m.call) = subst (λ z. slice_get events z ≡ Some (Issue m.call)) here m.issue in
    let both : Issue call ≡ Issue m.call = sym is ∙ same_get events i e (Issue m.call) at issue in
    let calls : call ≡ m.call = cc in
    sym m.named ∙ ap (λ (c : Call). c.id) (sym calls)

-- an event that issues an operation that isn't there, or is kept
pub lacking_none : (issued : List Issued) (events : List Event) (i : ℕ) (call : Call) (e : Event) (k j : ℕ) → e ≡ Issue call → slice_get events i ≡ Some e
    → slice_get issued call.id ≡ None → (m : MayHaveLeft issued events k j) → m.event ≡ i → ⊥
lacking_none issued events i call e k j is at none m here =
    let id = issued_here issued events i call e k j is at m here in
    let some : slice_get issued call.id ≡ Some m.second = subst (λ z. slice_get issued z ≡ Some m.second) id m.other in
    let n : None ≡ Some m.second = sym none ∙ some in
    cc

-- an operation that may have left nothing that was found
pub lacking_not : {A : Type 0} (issued : List Issued) (events : List Event) (kept : List Bool) (i : ℕ) (call : Call) (second : Issued) (e : Event) (f : FoundWords A)
    → e ≡ Issue call → slice_get events i ≡ Some e → slice_get issued call.id ≡ Some second
    → HoldsFound issued events kept (length issued) (i + 1) f → is_met f second.operation.address (left_of second.operation.op second.reply) ≡ false
    → (k j : ℕ) → IsKept kept k → (m : MayHaveLeft issued events k j) → m.event ≡ i → ⊥
lacking_not issued events kept i call second e f is at there holds none k j kept_k m here =
    let id : j ≡ call.id = issued_here issued events i call e k j is at m here in
    let same : m.second ≡ second = same_get issued call.id m.second second (subst (λ z. slice_get issued z ≡ Some m.second) id m.other) there in
    let left : IsAmong (left_of second.operation.op second.reply) m.word = subst (λ (x : Issued). IsAmong (left_of x.operation.op x.reply) m.word) same m.left in
    let address : m.first.operation.address ≡ second.operation.address = sym m.here ∙ ap (λ (x : Issued). x.operation.address) same in
    by_left address (left_of second.operation.op second.reply) none left
  where
    passed : IsPassed issued events (length issued) (i + 1) k
    passed = ⊎_elim {C = IsPassed issued events (length issued) (i + 1) k}
        (λ (n : m.first.reply ≡ None). inl (m.first, m.one, n, get_within issued k m.first m.one))
        (λ (s : (g : ℕ) × (reply : Reply) × (m.event < g) × TraceAnswersAt events g k reply).
        let low : m.event < s.0 = s.2 in inr (s.0, s.1, omega arith, s.3))
        m.early

    noted : (a : ℕ) (note : Note) → m.first.operation.address ≡ a → IsNoteOf (found_of m.first.operation.op m.first.reply) note → has f a note ≡ true
    noted a note at_a is_note = holds.all k a note passed (m.first, m.one, kept_k, at_a, is_note)

    never : (b : Bool) → b ≡ true → b ≡ false → ⊥
    never b t f' = let n : true ≡ false = sym t ∙ f' in cc

    by_found : (found : Words) → found ≡ found_of m.first.operation.op m.first.reply → m.first.operation.address ≡ second.operation.address
        → (u : ℕ) → (has f second.operation.address (Word u) || has f second.operation.address Anything) ≡ false → IsAmong found m.word → u ≡ m.word → ⊥
    by_found Nothing e address u h am same = am
    by_found (One w) e address u h am same =
        let t : has f second.operation.address (Word u) ≡ true = noted second.operation.address (Word u) address (sym e ∙ ap One (am ∙ sym same)) in
        never (has f second.operation.address (Word u) || has f second.operation.address Anything) (or_left _ _ t) h
    by_found Any e address u h am same =
        let t : has f second.operation.address Anything ≡ true = noted second.operation.address Anything address (sym e) in
        never (has f second.operation.address (Word u) || has f second.operation.address Anything) (or_right _ _ t) h

    by_left : m.first.operation.address ≡ second.operation.address → (left : Words) → is_met f second.operation.address left ≡ false → IsAmong left m.word → ⊥
    by_left address Nothing h am = am
    by_left address (One u) h am = by_found (found_of m.first.operation.op m.first.reply) refl address u h m.found am
    by_left address Any h am = never (has f second.operation.address Something) (noted second.operation.address Something address (m.word, m.found)) h
