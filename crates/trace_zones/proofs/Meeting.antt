-- Zones in conflict, and what was found too early, never written, or left twice.
use Rattle.std.proofs.Common.{◌≡◌, ◌⊎◌, ⊎_elim, ℕ, suc, Bool, true, false, ◌<◌, ◌≤◌, List, length, Some, sym, ◌∙◌, ap, subst, arith, slice_get, slice_index}
use Rattle.std.proofs.lemmas.Bool.{cases_lt, cases_Bool, eqb-true}
use Rattle.packet.specs.declared.kinds.Reply.{Reply}
use Rattle.packet.specs.Memory.{new_word}
use Rattle.trace_laws.specs.declared.event.Call.{Call}
use Rattle.trace_laws.specs.declared.event.Event.{Event}
use Rattle.trace_laws.specs.Traces.{IsTrace, TraceIssuesAt, TraceAnswersAt, IsAnswered}
use Rattle.trace_laws.specs.Orders.{IsOrder, IsOn}
use Rattle.trace_laws.proofs.Issues.{one_call}
use Rattle.trace_zones.specs.Zones.{MayHaveFound, MayEnter, IsZone, AreApartSets, FindsSet, LeavesSet, IsSetFound, IsSource, WasTaken, SeesSet, IsSeenBefore, IsFoundEarly, IsFoundUnwritten, IsSetLeft, is_value, MayWrite, AreDifferent}
use Rattle.trace_zones.proofs.Stretch.{word_at, finds_there, leaves_there, entered_between, one_stretch}

-- the operation stands in the order
abbrev Stands : List Call → Call → Type 0
Stands order c = (x : ℕ) × (slice_get order x ≡ Some c)

stands : (opening : List ℕ) (trace : List Event) (order : List Call) → IsTrace (length opening) trace
    → IsOrder opening trace order → (i : ℕ) (c : Call) → TraceIssuesAt trace i c → IsOn order c.id
    → Stands order c
stands opening trace order t o i c issue on =
    let also = o.issued on.0 on.1 on.2 in
    let same = one_call (length opening) trace t also.0 i on.1 c also.1 issue on.3 in
    (on.0, on.2 ∙ ap (λ (f : Call). Some f) same)

answered_stands : (opening : List ℕ) (trace : List Event) (order : List Call) → IsTrace (length opening) trace
    → IsOrder opening trace order → (i : ℕ) (c : Call) → TraceIssuesAt trace i c → IsAnswered trace c.id
    → Stands order c
answered_stands opening trace order t o i c issue a =
    stands opening trace order t o i c issue (o.answered a.0 c.id a.1 a.2)

-- what was found holds at some place
found_there : (opening : List ℕ) (trace : List Event) (order : List Call) → IsTrace (length opening) trace
    → IsOrder opening trace order → (w : ℕ) (set : ℕ → Bool) → IsSetFound trace w set
    → (x : ℕ) × (set (word_at opening w order x) ≡ true)
found_there opening trace order t o w set f =
    let s = answered_stands opening trace order t o f.1 f.0 f.2 f.3 in
    let finds = f.4 in (
      s.0,
      finds.1 (word_at opening w order s.0)
          (finds_there opening trace order o w s.0 f.0 s.1 finds.0),
    )

-- the source of what was found stands before any place where it holds
source_before : (opening : List ℕ) (trace : List Event) (order : List Call) → IsTrace (length opening) trace
    → IsOrder opening trace order → (w : ℕ) → w < length opening → (set : ℕ → Bool) (i : ℕ) (c : Call)
    → TraceIssuesAt trace i c → IsSource (slice_index opening w) trace w set c → (n : ℕ)
    → set (word_at opening w order n) ≡ true
    → (x : ℕ) × (x < n) × (slice_get order x ≡ Some c) × (set (word_at opening w order (suc x)) ≡ true)
source_before opening trace order t o w l set i c issue s n holds =
    let e = entered_between opening trace order o w l set 0 n (omega arith) s.outside holds in
    let also = o.issued e.0 e.1 e.4 in
    let id = s.alone also.0 e.1 also.1 e.5 in
    let same = one_call (length opening) trace t also.0 i e.1 c also.1 issue id in
    (e.0, e.3, e.4 ∙ ap (λ (f : Call). Some f) same, e.6)

taken_stands : (opening : List ℕ) (trace : List Event) (order : List Call) → IsTrace (length opening) trace
    → IsOrder opening trace order → (w : ℕ) → w < length opening → (c : Call)
    → WasTaken (slice_index opening w) trace w c → Stands order c
taken_stands opening trace order t o w l c taken = ⊎_elim {C = Stands order c}
    (λ (a : IsAnswered trace c.id). answered_stands opening trace order t o taken.0.0 c taken.0.1 a)
    (λ (s : (set : ℕ → Bool) × IsSource (slice_index opening w) trace w set c).
    let f = found_there opening trace order t o w s.0 s.1.found in
    let r = source_before opening trace order t o w l s.0 taken.0.0 c taken.0.1 s.1 f.0 f.1 in
    (r.0, r.2))
    taken.1

-- the set holds before or behind the operation that sees it
abbrev SeenAt : List ℕ → List Event → ℕ → (ℕ → Bool) → List Call → Call → Type 0
SeenAt opening trace w set order c = (x : ℕ) × (p : ℕ) × (x ≤ p) × (p ≤ suc x)
    × (slice_get order x ≡ Some c) × (set (word_at opening w order p) ≡ true)

left_there : (opening : List ℕ) (trace : List Event) (order : List Call) → IsOrder opening trace order
    → (w : ℕ) → w < length opening → (set : ℕ → Bool) (b : Bool) (x : ℕ) (c : Call)
    → slice_get order x ≡ Some c → c.operation.address ≡ w
    → ((u : ℕ) → MayHaveFound trace c u → set (new_word c.operation.op u) ≡ b)
    → set (word_at opening w order (suc x)) ≡ b
left_there opening trace order o w l set b x c at here all =
    ap set (leaves_there opening order w x c l at here)
    ∙ all (word_at opening w order x) (finds_there opening trace order o w x c at here)

taken_seen : (opening : List ℕ) (trace : List Event) (order : List Call) → IsTrace (length opening) trace
    → IsOrder opening trace order → (w : ℕ) → w < length opening → (set : ℕ → Bool) (c : Call)
    → WasTaken (slice_index opening w) trace w c × (FindsSet trace w set c ⊎ LeavesSet trace w set c)
    → SeenAt opening trace w set order c
taken_seen opening trace order t o w l set c sees =
    let s = taken_stands opening trace order t o w l c sees.0 in
    let x : ℕ = s.0 in
    let at : slice_get order x ≡ Some c = s.1 in
    ⊎_elim {C = SeenAt opening trace w set order c}
    (λ (f : FindsSet trace w set c). (
      x,
      x,
      (omega arith),
      (omega arith),
      at,
      f.1 (word_at opening w order x)
          (finds_there opening trace order o w x c at f.0),
    ))
    (λ (f : LeavesSet trace w set c). (
      x,
      suc x,
      (omega arith),
      (omega arith),
      at,
      left_there opening trace order o w l set true x c at f.0 f.1,
    ))
    sees.1

seen_at : (opening : List ℕ) (trace : List Event) (order : List Call) → IsTrace (length opening) trace
    → IsOrder opening trace order → (w : ℕ) → w < length opening → (set : ℕ → Bool) (c : Call)
    → SeesSet (slice_index opening w) trace w set c → SeenAt opening trace w set order c
seen_at opening trace order t o w l set c sees = ⊎_elim {C = SeenAt opening trace w set order c}
    (taken_seen opening trace order t o w l set c)
    (λ (s : (i : ℕ) × TraceIssuesAt trace i c × IsSource (slice_index opening w) trace w set c).
    let f = found_there opening trace order t o w set s.2.found in
    let r = source_before opening trace order t o w l set s.0 c s.1 s.2 f.0 f.1 in
    (r.0, suc r.0, (omega arith), (omega arith), r.2, r.3))
    sees

-- the first set holds at a place, and the second there or behind
abbrev HoldBefore : List ℕ → ℕ → List Call → (ℕ → Bool) → (ℕ → Bool) → Type 0
HoldBefore opening w order one other = (p : ℕ) × (q : ℕ) × (p ≤ q)
    × (one (word_at opening w order p) ≡ true) × (other (word_at opening w order q) ≡ true)

hold_before : (opening : List ℕ) (trace : List Event) (order : List Call) → IsTrace (length opening) trace
    → IsOrder opening trace order → (w : ℕ) → w < length opening → (one other : ℕ → Bool)
    → IsSeenBefore (slice_index opening w) trace w one other → HoldBefore opening w order one other
hold_before opening trace order t o w l one other before = ⊎_elim {C = HoldBefore opening w order one other}
    (λ (h : (c : Call) × (d : Call) × (i : ℕ) × (j : ℕ) × (reply : Reply) × (i < j)
    × TraceAnswersAt trace i c.id reply × TraceIssuesAt trace j d
    × SeesSet (slice_index opening w) trace w one c × SeesSet (slice_index opening w) trace w other d).
    let a = seen_at opening trace order t o w l one h.0 h.8 in
    let b = seen_at opening trace order t o w l other h.1 h.9 in
    let less = o.real_time h.2 h.3 a.0 b.0 h.0 h.1 h.4 h.5 h.6 h.7 a.4 b.4 in
    let early = a.3 in
    let late = b.2 in
    (a.1, b.1, (omega arith), a.5, b.5))
    (λ rest. ⊎_elim {C = HoldBefore opening w order one other}
    (λ (h : (c : Call) × WasTaken (slice_index opening w) trace w c × FindsSet trace w one c × LeavesSet trace w other c).
    let s = taken_stands opening trace order t o w l h.0 h.1 in (
      s.0,
      suc s.0,
      (omega arith),
      h.2.1 (word_at opening w order s.0) (finds_there opening trace order o w s.0 h.0 s.1 h.2.0),
      left_there opening trace order o w l other true s.0 h.0 s.1 h.3.0 h.3.1,
    ))
    (λ (h : (one (slice_index opening w) ≡ true) × ((c : Call) × SeesSet (slice_index opening w) trace w other c)).
    let k = h.1 in
    let b = seen_at opening trace order t o w l other k.0 k.1 in
    (0, b.1, (omega arith), h.0, b.5))
    rest)
    before

pub conflict : (opening : List ℕ) (trace : List Event) (w : ℕ) (one other : ℕ → Bool)
    → IsTrace (length opening) trace → w < length opening → IsZone (slice_index opening w) trace w one
    → IsZone (slice_index opening w) trace w other → AreApartSets one other
    → IsSeenBefore (slice_index opening w) trace w one other → IsSeenBefore (slice_index opening w) trace w other one
    → (order : List Call) → IsOrder opening trace order → ⊥
conflict opening trace w one other t l z y apart before behind order o =
    let a = hold_before opening trace order t o w l one other before in
    let b = hold_before opening trace order t o w l other one behind in
    let ab = a.2 in
    let ba = b.2 in
    ⊎_elim {C = ⊥}
    (λ (less : b.0 < a.0). one_stretch opening trace order o w l other y b.0 a.0 a.1 (omega arith) ab b.3
    (apart (word_at opening w order a.0) a.3) a.4)
    (λ (more : a.0 ≤ b.0). one_stretch opening trace order o w l one z a.0 b.0 b.1 more ba a.3
    (not_both (word_at opening w order b.0) b.3) b.4)
    (cases_lt b.0 a.0)
  where
    not_both : (u : ℕ) → other u ≡ true → one u ≡ false
    not_both u there = ⊎_elim {C = one u ≡ false}
        (λ (also : one u ≡ true). absurd (let out = apart u also in cc))
        (λ out. out)
        (cases_Bool (one u))

pub early : (opening : List ℕ) (trace : List Event) (w : ℕ) (set : ℕ → Bool)
    → IsTrace (length opening) trace → w < length opening → IsFoundEarly (slice_index opening w) trace w set
    → (order : List Call) → IsOrder opening trace order → ⊥
early opening trace w set t l h order o =
    let c : Call = h.0 in
    let s = taken_stands opening trace order t o w l c h.9 in
    let finds = h.8 in
    let holds = finds.1 (word_at opening w order s.0) (finds_there opening trace order o w s.0 c s.1 finds.0) in
    let r = source_before opening trace order t o w l set h.3 h.1 h.7 h.10 s.0 holds in
    let less = o.real_time h.2 h.3 s.0 r.0 c h.1 h.4 h.5 h.6 h.7 s.1 r.2 in
    let also = r.1 in
    omega arith

pub unwritten : (opening : List ℕ) (trace : List Event) (w : ℕ) (set : ℕ → Bool)
    → IsTrace (length opening) trace → w < length opening → IsFoundUnwritten (slice_index opening w) trace w set
    → (order : List Call) → IsOrder opening trace order → ⊥
unwritten opening trace w set t l h order o =
    let f = found_there opening trace order t o w set h.0 in
    let e = entered_between opening trace order o w l set 0 f.0 (omega arith) h.1 f.1 in
    let issue = o.issued e.0 e.1 e.4 in
    h.2 issue.0 e.1 issue.1 e.5

pub left_twice : (opening : List ℕ) (trace : List Event) (w : ℕ) (set : ℕ → Bool) (c d : Call)
    → IsTrace (length opening) trace → w < length opening → IsZone (slice_index opening w) trace w set
    → WasTaken (slice_index opening w) trace w c → WasTaken (slice_index opening w) trace w d
    → IsSetLeft trace w set c → IsSetLeft trace w set d → (c.id ≡ d.id → ⊥)
    → (order : List Call) → IsOrder opening trace order → ⊥
left_twice opening trace w set c d t l z taken also leaves left different order o =
    let a = taken_stands opening trace order t o w l c taken in
    let b = taken_stands opening trace order t o w l d also in
    let ha = leaves.0.1 (word_at opening w order a.0) (finds_there opening trace order o w a.0 c a.1 leaves.0.0) in
    let hb = left.0.1 (word_at opening w order b.0) (finds_there opening trace order o w b.0 d b.1 left.0.0) in
    ⊎_elim {C = ⊥}
    (λ (less : a.0 < b.0). one_stretch opening trace order o w l set z a.0 (suc a.0) b.0 (omega arith) less ha
    (left_there opening trace order o w l set false a.0 c a.1 leaves.0.0 leaves.1) hb)
    (λ (more : b.0 ≤ a.0). ⊎_elim {C = ⊥}
    (λ (less : b.0 < a.0). one_stretch opening trace order o w l set z b.0 (suc b.0) a.0 (omega arith) less hb
    (left_there opening trace order o w l set false b.0 d b.1 left.0.0 left.1) ha)
    (λ (same : a.0 ≤ b.0).
    let e : a.0 ≡ b.0 = omega arith in
    let f : slice_get order a.0 ≡ Some d = ap (λ (n : ℕ). slice_get order n) e ∙ b.1 in
    let g : slice_get order a.0 ≡ Some c = a.1 in
    let k : c ≡ d = cc in
    different (ap (λ (h : Call). h.id) k))
    (cases_lt b.0 a.0))
    (cases_lt a.0 b.0)

-- what may enter the set of one word may write it
writes : (trace : List Event) (w v : ℕ) (c : Call) → MayEnter trace w (is_value v) c → MayWrite trace w c v
writes trace w v c e =
    let f = e.1 in
    (e.0, (f.0, f.1, f.2, eqb-true (new_word c.operation.op f.0) v f.3))

pub different_zones : (opening : List ℕ) (trace : List Event) (w v : ℕ) → AreDifferent (slice_index opening w) trace w
    → IsZone (slice_index opening w) trace w (is_value v)
different_zones opening trace w v a = record {
  one = λ i j c d h k e f. a.one i j v c d h k (writes trace w v c e) (writes trace w v d f);
  none = λ there i c h e. a.none i c h
      (subst (λ (u : ℕ). MayWrite trace w c u) (sym (eqb-true _ v there)) (writes trace w v c e));
}
