-- Which operations hold tags, from step to step: an operation that is out holds one, and the same all the while.
use Rattle.std.proofs.Common.{◌≡◌, ◌≢◌, ◌⊎◌, ⊎_elim, inl, inr, ℕ, zero, suc, ◌+◌, ◌<◌, ◌≤◌, List, [], ◌∷◌, ◌++◌, length, map, Option, Some, None, refl, sym, ◌∙◌, ap, subst, arith}
use Rattle.std.proofs.Common.{slice_get, slice_set, slice_index_or, set, length-set, length-append}
use Rattle.std.proofs.lemmas.Bool.{cases_eq, cases_lt}
use Rattle.std.proofs.lemmas.Option.{same_Some, slice_get_within, get_or_from_slice_get}
use Rattle.torus.specs.Shape.{tiles_of}
use Rattle.torus.specs.declared.step.OpId.{OpId}
use Rattle.torus.specs.declared.step.Step.{Step}
use Rattle.packet.specs.declared.kinds.Operation.{Operation}
use Rattle.packet.specs.declared.kinds.Response.{Response}
use Rattle.script_lines.specs.declared.line.Line.{Line}
use Rattle.one_order.specs.declared.answer.Answer.{Answer}
use Rattle.one_order.specs.ProcessorRecord.{ProcessorRecord, no_processor, first_record, issued_by, answered_by, answer_of, index_in}
use Rattle.one_order.specs.Events.{order_after}
use Rattle.one_order.specs.Flight.{Flight, Move, Sends, Serves, Takes, processor_at, moved, moved_by, IsFound}
use Rattle.one_order.specs.Order.{LinearizationPoint}
use Rattle.one_order.proofs.Lists.{get_push, get_append_left, get_set_same, get_set_other}
use Rattle.one_order.proofs.Whole.{Whole}
use Rattle.core_laws.specs.Core.{Load}
use Rattle.core_laws.specs.Runs.{IsAcceptedLoad}
use Rattle.core_laws.specs.Noted.{flight_after, move_after}
use Rattle.core_laws.proofs.Histories.{event_at}
use Rattle.core_laws.proofs.EveryRun.{holds_in}
use Rattle.core_laws.proofs.CourseRuns.{is_course}

-- an operation of a processor is answered, and holds a tag
abbrev pub IsTold : ProcessorRecord → ℕ → Type 0
IsTold b i = (k : ℕ) × (a : Answer) × (slice_get b.answers k ≡ Some a) × (a.index ≡ i)

abbrev pub HasTag : ProcessorRecord → ℕ → ℕ → Type 0
HasTag b k i = slice_get b.tags k ≡ Some (Some (record { 0 = i }))

-- each operation is answered or holds one
abbrev pub AllHold : ProcessorRecord → Type 0
AllHold b = (i : ℕ) → i < length b.issued → IsTold b i ⊎ ((k : ℕ) × HasTag b k i)

-- a record later on: what is issued and answered is so still, and who holds a tag held it or wasn't issued
pub record GoesTo (b c : ProcessorRecord) : Type 0 where
  pub issued : length b.issued ≤ length c.issued
  pub told : (i : ℕ) → IsTold b i → IsTold c i
  pub holders : (k i : ℕ) → HasTag c k i → HasTag b k i ⊎ (length b.issued ≤ i)
  pub hold : AllHold b → AllHold c

pub goes_same : (b : ProcessorRecord) → GoesTo b b
goes_same b = record { issued = omega arith; told = λ i t. t; holders = λ k i h. inl h; hold = λ all. all }

pub goes_on : (a b c : ProcessorRecord) → GoesTo a b → GoesTo b c → GoesTo a c
goes_on a b c g h =
    let more = g.issued in
    let again = h.issued in
    record {
      issued = omega (arith, more, again);
      told = λ i t. h.told i (g.told i t);
      holders = λ k i x. ⊎_elim
          (λ (old : HasTag b k i). g.holders k i old)
          (λ (new : length b.issued ≤ i). inr (omega (arith, new, more)))
          (h.holders k i x);
      hold = λ all. h.hold (g.hold all);
    }

same_number : (i j : ℕ) → ◌≡◌ {A = Option (Option OpId)} (Some (Some (record { 0 = i }))) (Some (Some (record { 0 = j }))) → i ≡ j
same_number i j e =
    let one : ◌≡◌ {A = Option OpId} (Some (record { 0 = i })) (Some (record { 0 = j })) = same_Some _ _ e in
    let two : ◌≡◌ {A = OpId} (record { 0 = i }) (record { 0 = j }) = same_Some _ _ one in
    ap (λ (d : OpId). d.0) two

-- who holds a tag after one entry of a table has changed
set_tag : (tags : List (Option OpId)) (tag k i : ℕ) (v : Option OpId) → slice_get (set tags tag v) k ≡ Some (Some (record { 0 = i }))
    → ((k ≡ tag) × (v ≡ Some (record { 0 = i }))) ⊎ ((k ≢ tag) × (slice_get tags k ≡ Some (Some (record { 0 = i }))))
set_tag tags tag k i v h = elim (cases_eq k tag) [
  | inl same ↦
      (let within : k < length (set tags tag v) = slice_get_within (set tags tag v) k (Some (record { 0 = i })) h in
      let low : tag < length tags = omega (arith, length-set tags tag v) in
      let e : ◌≡◌ {A = Option (Option OpId)} (Some v) (Some (Some (record { 0 = i }))) = sym (get_set_same tags tag v low) ∙ ap (slice_get (set tags tag v)) (sym same) ∙ h in
      inl (same, same_Some _ _ e))
  | inr other ↦ inr (other, sym (get_set_other tags tag k v other) ∙ h)
]

-- an issue
pub goes_issue : (b : ProcessorRecord) (tag : ℕ) (o : Operation) → slice_get b.tags tag ≡ Some None → b.following.issued ≡ length b.issued
    → GoesTo b (issued_by b tag o)
goes_issue b tag o free followed =
    let id : Option OpId = Some (record { 0 = b.following.issued }) in
    let one_more : length (b.issued ++ o ∷ []) ≡ length b.issued + 1 = length-append b.issued (o ∷ []) in
    let within : tag < length b.tags = slice_get_within b.tags tag None free in
    record {
      issued = omega (arith, one_more);
      told = λ i t. t;
      holders = λ k i h. ⊎_elim
          (λ (new : (k ≡ tag) × (id ≡ Some (record { 0 = i }))).
          let e : b.following.issued ≡ i = same_number b.following.issued i (ap (λ (x : Option OpId). Some x) new.1) in inr (omega (arith, e, followed)))
          (λ (old : (k ≢ tag) × (slice_get b.tags k ≡ Some (Some (record { 0 = i })))). inl old.1)
          (set_tag b.tags tag k i id h);
      hold = λ all i low. elim (cases_lt i (length b.issued)) [
        | inl before ↦ ⊎_elim
            (λ (t : IsTold b i). inl t)
            (λ (h : (k : ℕ) × HasTag b k i). inr (
              h.0,
              get_set_other b.tags tag h.0 id (λ e.
                  let clash : ◌≡◌ {A = Option (Option OpId)} (Some None) (Some (Some (record { 0 = i }))) = sym free ∙ (ap (slice_get b.tags) (sym e) ∙ h.1) in
                  let never : ◌≡◌ {A = Option OpId} None (Some (record { 0 = i })) = same_Some _ _ clash in absurd (cc)) ∙ h.1,
            ))
            (all i before)
        | inr new ↦
            (let e : b.following.issued ≡ i = omega (arith, followed, one_more, low, new) in
            inr (tag, get_set_same b.tags tag id within ∙ ap (λ (n : ℕ). Some (Some (record { 0 = n }))) e))
      ];
    }

-- an answer
pub goes_answer : (b : ProcessorRecord) (r : Response) → GoesTo b (answered_by b r)
goes_answer b r =
    let more : (i : ℕ) → IsTold b i → IsTold (answered_by b r) i = λ i t. (t.0, t.1, get_append_left b.answers (answer_of b r ∷ []) t.0 t.1 t.2, t.3) in
    record {
      issued = omega arith;
      told = more;
      holders = λ k i h. ⊎_elim
          (λ (new : (k ≡ r.tag.0) × (◌≡◌ {A = Option OpId} None (Some (record { 0 = i })))). let never = new.1 in absurd (cc))
          (λ (old : (k ≢ r.tag.0) × (slice_get b.tags k ≡ Some (Some (record { 0 = i })))). inl old.1)
          (set_tag b.tags r.tag.0 k i None h);
      hold = λ all i low. ⊎_elim
          (λ (t : IsTold b i). inl (more i t))
          (λ (h : (k : ℕ) × HasTag b k i). elim (cases_eq h.0 r.tag.0) [
            | inl same ↦ inl (
              length b.answers,
              answer_of b r,
              get_push b.answers (answer_of b r),
              ap index_in (get_or_from_slice_get b.tags r.tag.0 (Some (record { 0 = i })) None (ap (slice_get b.tags) (sym same) ∙ h.1)),
            )
            | inr other ↦ inr (h.0, get_set_other b.tags r.tag.0 h.0 None other ∙ h.1)
          ])
          (all i low);
    }

-- one record of a list, after one has changed
goes_set : (xs : List ProcessorRecord) (t p : ℕ) (c : ProcessorRecord) → GoesTo (slice_index_or xs t no_processor) c
    → GoesTo (slice_index_or xs p no_processor) (slice_index_or (slice_set xs t c) p no_processor)
goes_set [] t p c g = goes_same no_processor
goes_set (x ∷ xs) zero zero c g = g
goes_set (x ∷ xs) zero (suc p) c g = goes_same (slice_index_or xs p no_processor)
goes_set (x ∷ xs) (suc t) zero c g = goes_same x
goes_set (x ∷ xs) (suc t) (suc p) c g = goes_set xs t p c g

-- each move leads on
goes_moved : (tiles tags : ℕ) (opening : List ℕ) (f : Flight) (order : List LinearizationPoint) (m : Move) → Whole tiles tags opening f order
    → IsFound (length opening) f m → (p : ℕ) → GoesTo (processor_at f p) (processor_at (moved tiles f m) p)
goes_moved tiles tags opening f order (Sends t tag o) w found p =
    goes_set f.processors t p (issued_by (processor_at f t) tag o) (goes_issue (processor_at f t) tag o found.2 (w.followed t))
goes_moved tiles tags opening f order (Serves r) w found p = goes_same (processor_at f p)
goes_moved tiles tags opening f order (Takes r) w found p =
    goes_set f.processors r.destination p (answered_by (processor_at f r.destination) r) (goes_answer (processor_at f r.destination) r)

goes_any : (tiles tags : ℕ) (opening : List ℕ) (f : Flight) (order : List LinearizationPoint) (m : Option Move) → Whole tiles tags opening f order
    → ((x : Move) → m ≡ Some x → IsFound (length opening) f x) → (p : ℕ) → GoesTo (processor_at f p) (processor_at (moved_by tiles f m) p)
goes_any tiles tags opening f order None w found p = goes_same (processor_at f p)
goes_any tiles tags opening f order (Some m) w found p = goes_moved tiles tags opening f order m w (found m refl) p

-- at first nothing is issued
first_hold : (tags : ℕ) (scripts : List (List Line)) (p : ℕ) → AllHold (slice_index_or (map (first_record tags) scripts) p no_processor)
first_hold tags [] p = λ i low. absurd (omega (arith, low))
first_hold tags (lines ∷ scripts) zero = λ i low. absurd (omega (arith, low))
first_hold tags (lines ∷ scripts) (suc p) = first_hold tags scripts p

module _ (l : Load) (ok : IsAcceptedLoad l) (steps : List Step) where
  pub goes_step : (n p : ℕ) → GoesTo (processor_at (flight_after l steps n) p) (processor_at (flight_after l steps (suc n)) p)
  goes_step n p =
      let c = is_course l ok steps (suc n) in
      let st = (holds_in l ok steps n).stands in
      subst (λ (f : Flight). GoesTo (processor_at (flight_after l steps n) p) (processor_at f p))
      (sym (c.each n (let low : n < suc n = omega arith in low)))
      (goes_any (tiles_of l.shape) l.tags l.opening (flight_after l steps n) (order_after (event_at l steps) n) (move_after l steps n) st.flight
      (λ m is. c.found n m (omega arith) is) p)

  pub goes_far : (n k p : ℕ) → GoesTo (processor_at (flight_after l steps n) p) (processor_at (flight_after l steps (n + k)) p)
  goes_far n zero p =
      let e : n + 0 ≡ n = omega arith in
      subst (λ (m : ℕ). GoesTo (processor_at (flight_after l steps n) p) (processor_at (flight_after l steps m) p)) (sym e) (goes_same (processor_at (flight_after l steps n) p))
  goes_far n (suc k) p =
      let e : n + suc k ≡ suc (n + k) = omega arith in
      subst (λ (m : ℕ). GoesTo (processor_at (flight_after l steps n) p) (processor_at (flight_after l steps m) p)) (sym e)
      (goes_on (processor_at (flight_after l steps n) p) (processor_at (flight_after l steps (n + k)) p) (processor_at (flight_after l steps (suc (n + k))) p)
      (goes_far n k p) (goes_step (n + k) p))

  pub all_hold : (n p : ℕ) → AllHold (processor_at (flight_after l steps n) p)
  all_hold zero p = subst (λ (f : Flight). AllHold (processor_at f p)) (sym (is_course l ok steps 0).start) (first_hold l.tags l.scripts p)
  all_hold (suc n) p = (goes_step n p).hold (all_hold n p)
