-- What the calls of a `Follower` make of its fields.
use Rattle.std.proofs.Common.{◌≡◌, ℕ, zero, suc, ◌+◌, ◌-◌, ◌<◌, ◌≤◌, ◌^◌, ◌==◌, List, [], ◌∷◌, length, drop, Option, Some, None, refl, sym, ◌∙◌, ap, ap₂}
use Rattle.std.proofs.Common.{subst, arith, ⊎_elim}
use Rattle.std.specs.Prelude.{IsSome}
use Rattle.std.proofs.lemmas.Bool.{cases_eq, eq-eqb, ne_eqb, cond-true, cond-false}
use Rattle.packet.specs.declared.kinds.Reply.{Reply}
use Rattle.packet.specs.declared.kinds.Operation.{Operation}
use Rattle.script_lines.specs.declared.line.Line.{Line}
use Rattle.script_lines.specs.Lines.{operation_count}
use Rattle.one_order.specs.declared.spin.OpenSpin.{OpenSpin}
use Rattle.one_order.specs.declared.follower.Follower.TheInside.{Inside}
use Rattle.one_order.specs.Scripts.{IsFollowable}
use Rattle.one_order.specs.Following.{Following, ready_operation, next_operation_of, first_of, after_issue, after_answer, last_answered, other_answered}
use Rattle.one_order.specs.Following.{spin_issued, ahead_issued, spin_answered, unfenced, past_fences, loads_left, is_empty, HasLoad}
use Rattle.one_order.specs.Inside.{following_of, IsFollower}
use Rattle.one_order.proofs.Places.{left_issued, left_answered, left_of_answered, left_of_none, drop_begins, count_past_fences, count_unfenced}

suc_eqb : (a b : ℕ) → (suc a == suc b) ≡ (a == b)
suc_eqb a b = ⊎_elim
    (λ (e : a ≡ b). eq-eqb (suc a) (suc b) (ap suc e) ∙ sym (eq-eqb a b e))
    (λ (ne : a ≡ b → ⊥). ne_eqb (suc a) (suc b) (λ e. ne (omega arith)) ∙ sym (ne_eqb a b ne))
    (cases_eq a b)

pub is_empty-drop : (xs : List Line) (at : ℕ) → at ≤ length xs → (at == length xs) ≡ is_empty (drop at xs)
is_empty-drop [] zero h = refl
is_empty-drop [] (suc at) h = absurd (omega arith)
is_empty-drop (x ∷ xs) zero h = ne_eqb 0 (suc (length xs)) (λ e. omega arith)
is_empty-drop (x ∷ xs) (suc at) h = suc_eqb at (length xs) ∙ is_empty-drop xs at (omega arith)

-- what is ready_operation
some_left : (spin : Option OpenSpin) (ahead : List Line) (last : Option Reply) → HasLoad spin last → IsSome (ready_operation spin ahead last) → (s : OpenSpin)
    → spin ≡ Some s → 0 < s.left
some_left None ahead last h next s e = cc
some_left (Some r) ahead None h next s e = cc
some_left (Some r) ahead (Some reply) h next s e = let same : r ≡ s = cc in subst (λ (q : OpenSpin). 0 < q.left) same h

some_line : (spin : Option OpenSpin) (lines : List Line) (at : ℕ) (last : Option Reply) → IsSome (ready_operation spin (drop at lines) last) → spin ≡ None
    → at < length lines
some_line (Some s) lines at last next e = cc
some_line None [] zero last next e = cc
some_line None [] (suc at) last next e = cc
some_line None (x ∷ lines) zero last next e = omega arith
some_line None (x ∷ lines) (suc at) last next e = let r = some_line None lines at last next refl in omega arith

some_operation : (x : Option Operation) → IsSome x → (o : Operation) × (x ≡ Some o)
some_operation None h = cc
some_operation (Some o) h = (o, refl)

module _ {A : Type 0} (a : Inside A) (h : IsFollower a) (next : IsSome (next_operation_of (following_of a))) where
  open_left : (s : OpenSpin) → a.spin ≡ Some s → 0 < s.left
  unfolding next_operation_of
  open_left = some_left a.spin (drop a.at a.lines.items) a.last h.more next

  line_there : a.spin ≡ None → a.at < length a.lines.items
  unfolding next_operation_of
  line_there = some_line a.spin a.lines.items a.at a.last next

  left_falls : loads_left (spin_issued a.spin (drop a.at a.lines.items)) + operation_count (ahead_issued a.spin (drop a.at a.lines.items)) + 1
      ≤ loads_left a.spin + operation_count (drop a.at a.lines.items)
  unfolding next_operation_of
  left_falls =
      let o = some_operation (ready_operation a.spin (drop a.at a.lines.items) a.last) next in
      left_issued a.spin (drop a.at a.lines.items) a.last o.0 o.1 (drop_begins a.lines.items a.at h.loads) h.more

  one_more_fits : a.issued + 1 < 2 ^ 32
  one_more_fits = let k = left_falls in let e = h.few in omega arith

  keeps_issued : (at : ℕ) (spin : Option OpenSpin) → at ≤ length a.lines.items → spin ≡ spin_issued a.spin (drop a.at a.lines.items) →
      drop at a.lines.items ≡ ahead_issued a.spin (drop a.at a.lines.items) →
      IsFollower (record a { at = at; spin = spin; issued = a.issued + 1; waiting = a.waiting + 1; last = None })
  keeps_issued at spin within is_spin is_ahead = record {
    within = within;
    few = let k = left_falls in let e = h.few in let l = ap loads_left is_spin in let m = ap operation_count is_ahead in omega arith;
    loads = h.loads;
    more = left_of_none spin;
    waiting = let e = h.waiting in omega arith;
  }

  shows_issued : (at : ℕ) (spin : Option OpenSpin) → spin ≡ spin_issued a.spin (drop a.at a.lines.items) →
      drop at a.lines.items ≡ ahead_issued a.spin (drop a.at a.lines.items) →
      following_of (record a { at = at; spin = spin; issued = a.issued + 1; waiting = a.waiting + 1; last = None }) ≡ after_issue (following_of a)
  unfolding after_issue
  shows_issued at spin is_spin is_ahead =
      ap₂ (λ (s : Option OpenSpin) (ls : List Line).
      let f : Following = record { ahead = ls; spin = s; issued = a.issued + 1; waiting = a.waiting + 1; last = None } in f) is_spin is_ahead

-- an issue, from the fields before to those after
pub record IsIssued {A : Type 0} (a b : Inside A) : Type 0 where
  pub kept : IsFollower b
  pub shows : following_of b ≡ after_issue (following_of a)

module _ {A : Type 0} (a : Inside A) (h : IsFollower a) (f : Following) (is : following_of a ≡ f) (requires_ : IsSome (next_operation_of f)) where
  next_is : IsSome (next_operation_of (following_of a))
  next_is = subst (λ (g : Following). IsSome (next_operation_of g)) (sym is) requires_

  pub open_has_left : (s : OpenSpin) → a.spin ≡ Some s → 0 < s.left
  open_has_left = open_left a h next_is

  pub line_is_there : (ls : List Line) → ls ≡ a.lines.items → a.spin ≡ None → a.at < length ls
  line_is_there ls e none = subst (λ (xs : List Line). a.at < length xs) (sym e) (line_there a h next_is none)

  pub issued_fits : a.issued + 1 < 2 ^ 32
  issued_fits = one_more_fits a h next_is

  pub issued_as : (ls : List Line) (at : ℕ) (spin : Option OpenSpin) → ls ≡ a.lines.items → at ≤ length ls → spin ≡ spin_issued a.spin (drop a.at ls) →
      drop at ls ≡ ahead_issued a.spin (drop a.at ls) →
      IsIssued a (record a { at = at; spin = spin; issued = a.issued + 1; waiting = a.waiting + 1; last = None })
  issued_as ls at spin e =
      subst (λ (xs : List Line). at ≤ length xs → spin ≡ spin_issued a.spin (drop a.at xs) → drop at xs ≡ ahead_issued a.spin (drop a.at xs) →
      IsIssued a (record a { at = at; spin = spin; issued = a.issued + 1; waiting = a.waiting + 1; last = None })) (sym e)
      (λ within is_spin is_ahead.
      record { kept = keeps_issued a h next_is at spin within is_spin is_ahead; shows = shows_issued a h next_is at spin is_spin is_ahead })

-- an answer of the last operation
module _ {A : Type 0} (a : Inside A) (h : IsFollower a) (reply : Reply) where
  last_kept : (waiting : ℕ) (spin : Option OpenSpin) (at : ℕ) → waiting ≡ a.waiting - 1 → spin ≡ spin_answered a.spin reply → at ≤ length a.lines.items →
      drop at a.lines.items ≡ unfenced spin waiting (drop a.at a.lines.items)
      → IsFollower (record a { at = at; spin = spin; waiting = waiting; last = Some reply })
  last_kept waiting spin at is_waiting is_spin within place = record {
    within = within;
    few = let e = h.few in let k = ap operation_count place in let l = count_unfenced spin waiting (drop a.at a.lines.items) in
        let m = ap loads_left is_spin in let n = left_answered a.spin reply in omega arith;
    loads = h.loads;
    more = subst (λ (s : Option OpenSpin). HasLoad s (Some reply)) (sym is_spin) (left_of_answered a.spin reply);
    waiting = let e = h.waiting in omega arith;
  }

  other_kept : (waiting at : ℕ) → waiting ≡ a.waiting - 1 → at ≤ length a.lines.items →
      drop at a.lines.items ≡ unfenced a.spin waiting (drop a.at a.lines.items) → IsFollower (record a { at = at; waiting = waiting })
  other_kept waiting at is_waiting within place = record {
    within = within;
    few = let e = h.few in let k = ap operation_count place in let l = count_unfenced a.spin waiting (drop a.at a.lines.items) in omega arith;
    loads = h.loads;
    more = h.more;
    waiting = let e = h.waiting in omega arith;
  }

  last_shows : (i waiting : ℕ) (spin : Option OpenSpin) (at : ℕ) → i + 1 ≡ a.issued → waiting ≡ a.waiting - 1 → spin ≡ spin_answered a.spin reply →
      drop at a.lines.items ≡ unfenced spin waiting (drop a.at a.lines.items) →
      following_of (record a { at = at; spin = spin; waiting = waiting; last = Some reply }) ≡ after_answer (following_of a) i reply
  unfolding after_answer
  last_shows i waiting spin at is_last is_waiting is_spin place =
      let made = λ (s : Option OpenSpin) (w : ℕ) (ls : List Line). let f : Following =
      record { ahead = ls; spin = s; issued = a.issued; waiting = w; last = Some reply } in f in
      ap (made spin waiting) place
      ∙ (ap₂ (λ (s : Option OpenSpin) (w : ℕ). made s w (unfenced s w (drop a.at a.lines.items))) is_spin is_waiting
      ∙ sym (cond-true (i + 1 == a.issued) (last_answered (following_of a) reply) (other_answered (following_of a)) (eq-eqb (i + 1) a.issued is_last)))

  other_shows : (i waiting at : ℕ) → (i + 1 ≡ a.issued → ⊥) → waiting ≡ a.waiting - 1 →
      drop at a.lines.items ≡ unfenced a.spin waiting (drop a.at a.lines.items) →
      following_of (record a { at = at; waiting = waiting }) ≡ after_answer (following_of a) i reply
  unfolding after_answer
  other_shows i waiting at is_other is_waiting place =
      let made = λ (w : ℕ) (ls : List Line). let f : Following = record { ahead = ls; spin = a.spin; issued = a.issued; waiting = w; last = a.last } in f in
      ap (made waiting) place
      ∙ (ap (λ (w : ℕ). made w (unfenced a.spin w (drop a.at a.lines.items))) is_waiting
      ∙ sym (cond-false (i + 1 == a.issued) (last_answered (following_of a) reply) (other_answered (following_of a)) (ne_eqb (i + 1) a.issued is_other)))

-- an answer, from the fields before to those after
pub record IsAnswered {A : Type 0} (a : Inside A) (i : ℕ) (reply : Reply) (b : Inside A) : Type 0 where
  pub kept : IsFollower b
  pub shows : following_of b ≡ after_answer (following_of a) i reply

pub answered_last : {A : Type 0} (a : Inside A) (i : ℕ) (reply : Reply) (waiting : ℕ) (spin : Option OpenSpin) (j : Inside A) (ls : List Line) (at : ℕ)
    → IsFollower a →
    i + 1 ≡ a.issued → waiting ≡ a.waiting - 1 → spin ≡ spin_answered a.spin reply → j ≡ record a { spin = spin; waiting = waiting; last = Some reply } →
    ls ≡ j.lines.items → at ≤ length ls → drop at ls ≡ unfenced j.spin j.waiting (drop j.at ls) → IsAnswered a i reply (record j { at = at })
answered_last {A} a i reply waiting spin j ls at h is_last is_waiting is_spin is_j is_ls within place =
    subst (λ (k : Inside A). ls ≡ k.lines.items → drop at ls ≡ unfenced k.spin k.waiting (drop k.at ls) → IsAnswered a i reply (record k { at = at }))
    (sym is_j)
    (λ e p.
    let within' = subst (λ (xs : List Line). at ≤ length xs) e within in
    let place' = subst (λ (xs : List Line). drop at xs ≡ unfenced spin waiting (drop a.at xs)) e p in
    record {
      kept = last_kept a h reply waiting spin at is_waiting is_spin within' place';
      shows = last_shows a h reply i waiting spin at is_last is_waiting is_spin place';
    })
    is_ls place

pub answered_other : {A : Type 0} (a : Inside A) (i : ℕ) (reply : Reply) (waiting : ℕ) (j : Inside A) (ls : List Line) (at : ℕ) → IsFollower a →
    (i + 1 ≡ a.issued → ⊥) → waiting ≡ a.waiting - 1 → j ≡ record a { waiting = waiting } →
    ls ≡ j.lines.items → at ≤ length ls → drop at ls ≡ unfenced j.spin j.waiting (drop j.at ls) → IsAnswered a i reply (record j { at = at })
answered_other {A} a i reply waiting j ls at h is_other is_waiting is_j is_ls within place =
    subst (λ (k : Inside A). ls ≡ k.lines.items → drop at ls ≡ unfenced k.spin k.waiting (drop k.at ls) → IsAnswered a i reply (record k { at = at }))
    (sym is_j)
    (λ e p.
    let within' = subst (λ (xs : List Line). at ≤ length xs) e within in
    let place' = subst (λ (xs : List Line). drop at xs ≡ unfenced a.spin waiting (drop a.at xs)) e p in
    record { kept = other_kept a h reply waiting at is_waiting within' place'; shows = other_shows a h reply i waiting at is_other is_waiting place' })
    is_ls place

-- the start
pub first_kept : (lines : List Line) → IsFollowable lines → operation_count lines < 2 ^ 32 → (at : ℕ) → drop at lines ≡ past_fences lines →
    0 + (0 + operation_count (drop at lines)) < 2 ^ 32
first_kept lines followable few at place = let e = ap operation_count place in let k = count_past_fences lines in omega arith

pub first_shows : (lines : List Line) (at : ℕ) → drop at lines ≡ past_fences lines →
    (let f : Following = record { ahead = drop at lines; spin = None; issued = 0; waiting = 0; last = None } in f) ≡ first_of lines
unfolding first_of
first_shows lines at place = ap (λ (ls : List Line). let f : Following = record { ahead = ls; spin = None; issued = 0; waiting = 0; last = None } in f) place
