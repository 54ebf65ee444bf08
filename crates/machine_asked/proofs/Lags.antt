-- No answer of a processor stands more than 16 places in front of the place that its operation has in the order of
-- issue: as many operations are out as tags.
use Rattle.std.proofs.Common.{◌≡◌, ◌≢◌, ◌⊎◌, ⊎_elim, ℕ, zero, suc, ◌+◌, ◌<◌, ◌≤◌, cond, List, [], ◌∷◌, ◌++◌, length, map, replicate, Option}
use Rattle.std.proofs.Common.{Some, None, inl, inr, refl, sym, ◌∙◌, ap, subst, arith, slice_get, slice_set, slice_index_or, set, length-set, length-append}
use Rattle.std.proofs.lemmas.List.{length-replicate}
use Rattle.std.specs.Prelude.{is_some, ◌==◌, Bool, true, false, count_by}
use Rattle.std.proofs.Math.Seq.{take-length}
use Rattle.std.proofs.lemmas.List.Sums.{sum_by-set, sum_by-cons, count_by-le-length}
use Rattle.std.proofs.lemmas.Option.{same_Some, slice_get_within, get_or_from_slice_get}
use Rattle.torus.specs.declared.step.OpId.{OpId}
use Rattle.torus.specs.declared.step.Step.{Step}
use Rattle.torus.specs.Shape.{tiles_of}
use Rattle.packet.specs.declared.kinds.Operation.{Operation}
use Rattle.packet.specs.declared.kinds.Reply.{Reply}
use Rattle.packet.specs.declared.kinds.Response.{Response}
use Rattle.script_lines.specs.declared.line.Line.{Line}
use Rattle.one_order.specs.declared.answer.Answer.{Answer}
use Rattle.one_order.specs.Following.{Following, first_of, after_issue, after_answer, last_answered, other_answered}
use Rattle.one_order.specs.ProcessorRecord.{ProcessorRecord, no_processor, first_record, issued_by, answered_by, answer_of, index_in, index_of}
use Rattle.one_order.specs.Flight.{Flight, Move, Sends, Serves, Takes, processor_at, moved, moved_by, IsFound}
use Rattle.one_order.specs.Courses.{IsCourse, first_flight}
use Rattle.one_order.specs.Observed.{list_at}
use Rattle.one_order.proofs.Lists.{get_push_cases}
use Rattle.one_order.proofs.Parts.{processor_set}
use Rattle.core_laws.specs.Core.{Load, State, after, records_of}
use Rattle.core_laws.specs.Runs.{state_after}
use Rattle.core_laws.specs.Noted.{flight_after, move_after}
use Rattle.core_laws.specs.Machine.{Core, IsAfter, shown}
use Rattle.core_laws.proofs.CourseRuns.{is_course}
use Rattle.machine_asked.specs.Near.{AreNear}

-- how many tags are out
abbrev out_count : List (Option OpId) → ℕ
out_count tags = count_by is_some tags

-- as many operations are out as tags at most, and answers are of operations that were issued
pub record Lags (b : ProcessorRecord) : Type 0 where
  pub numbered : b.following.issued ≡ length b.issued
  pub out : length b.issued ≤ length b.answers + out_count b.tags
  pub tags : length b.tags ≤ 16
  pub held : (t : ℕ) (id : OpId) → slice_get b.tags t ≡ Some (Some id) → id.0 < length b.issued
  pub near : (k : ℕ) (a : Answer) → slice_get b.answers k ≡ Some a → a.index ≤ k + 16

abbrev is_out : Option OpId → ℕ
is_out x = cond (is_some x) 1 0

-- a tag goes out
out_more : (tags : List (Option OpId)) (tag : ℕ) (id : OpId) → slice_get tags tag ≡ Some None → out_count (set tags tag (Some id)) ≡ out_count tags + 1
out_more tags tag id free =
    let sums = sum_by-set is_out tags tag (Some id) None (slice_get_within tags tag None free) in
    let was : ◌≡◌ {A = ℕ} (is_out (slice_index_or tags tag None)) 0 = ap is_out (get_or_from_slice_get tags tag None None free) in
    omega (arith, sums, was)

-- a tag comes back, if it was out
out_given : (tags : List (Option OpId)) (tag : ℕ) → out_count tags ≤ out_count (set tags tag None) + 1
out_given [] tag = omega arith
out_given (None ∷ xs) zero = omega arith
out_given (Some id ∷ xs) zero =
    let before = sum_by-cons is_out (Some id) xs in
    let after = sum_by-cons is_out None xs in
    omega (arith, before, after)
out_given (x ∷ xs) (suc tag) =
    let before = sum_by-cons is_out x xs in
    let after = sum_by-cons is_out x (set xs tag None) in
    let rest = out_given xs tag in
    omega (arith, before, after, rest)

-- who holds a tag after one went out, or came back
held_set : (tags : List (Option OpId)) (tag u : ℕ) (id new : OpId) → slice_get (set tags tag (Some new)) u ≡ Some (Some id)
    → (new ≡ id) ⊎ (slice_get tags u ≡ Some (Some id))
held_set [] tag u id new h = inr h
held_set (x ∷ xs) zero zero id new h = inl (let e : Some new ≡ Some id = same_Some _ _ h in same_Some _ _ e)
held_set (x ∷ xs) zero (suc u) id new h = inr h
held_set (x ∷ xs) (suc tag) zero id new h = inr h
held_set (x ∷ xs) (suc tag) (suc u) id new h = held_set xs tag u id new h

held_given : (tags : List (Option OpId)) (tag u : ℕ) (id : OpId) → slice_get (set tags tag None) u ≡ Some (Some id) → slice_get tags u ≡ Some (Some id)
held_given [] tag u id h = h
held_given (x ∷ xs) zero zero id h = let e : ◌≡◌ {A = Option OpId} None (Some id) = same_Some _ _ h in absurd (cc)
held_given (x ∷ xs) zero (suc u) id h = h
held_given (x ∷ xs) (suc tag) zero id h = h
held_given (x ∷ xs) (suc tag) (suc u) id h = held_given xs tag u id h

-- the operation that holds a tag was issued
index_low : (tags : List (Option OpId)) (t n : ℕ) → ((u : ℕ) (id : OpId) → slice_get tags u ≡ Some (Some id) → id.0 < n)
    → index_in (slice_index_or tags t None) ≤ n
index_low [] t n h = omega arith
index_low (None ∷ xs) zero n h = omega arith
index_low (Some id ∷ xs) zero n h = let low = h zero id refl in omega (arith, low)
index_low (x ∷ xs) (suc t) n h = index_low xs t n (λ u id e. h (suc u) id e)

issue_counts : (f : Following) → (after_issue f).issued ≡ f.issued + 1
unfolding after_issue
issue_counts f = refl

answer_counts : (f : Following) (i : ℕ) (r : Reply) → (after_answer f i r).issued ≡ f.issued
unfolding after_answer
answer_counts f i r = elim ((i + 1) == f.issued) as (λ b. (cond {A = Following} b (last_answered f r) (other_answered f)).issued ≡ f.issued)
    [ true ↦ refl | false ↦ refl ]

first_counts : (lines : List Line) → (first_of lines).issued ≡ 0
unfolding first_of
first_counts lines = refl

issue_lags : (b : ProcessorRecord) (tag : ℕ) (o : Operation) → Lags b → slice_get b.tags tag ≡ Some None → Lags (issued_by b tag o)
issue_lags b tag o h free =
    let id : OpId = record { 0 = b.following.issued } in
    let longer : length (b.issued ++ o ∷ []) ≡ length b.issued + 1 = length-append b.issued (o ∷ []) in
    let numbered = h.numbered in
    let out = h.out in
    let few = h.tags in
    record {
      numbered = let more = issue_counts b.following in omega (arith, more, longer, numbered);
      out = let more = out_more b.tags tag id free in omega (arith, more, longer, out);
      tags = let same = length-set b.tags tag (Some id) in omega (arith, same, few);
      held = λ t other there. ⊎_elim
          (λ (new : id ≡ other). let at : b.following.issued ≡ other.0 = ap (λ (x : OpId). x.0) new in omega (arith, at, longer, numbered))
          (λ (old : slice_get b.tags t ≡ Some (Some other)). let low = h.held t other old in omega (arith, low, longer))
          (held_set b.tags tag t other id there);
      near = h.near;
    }

answer_lags : (b : ProcessorRecord) (r : Response) → Lags b → Lags (answered_by b r)
answer_lags b r h =
    let a : Answer = answer_of b r in
    let longer : length (b.answers ++ a ∷ []) ≡ length b.answers + 1 = length-append b.answers (a ∷ []) in
    let out = h.out in
    let few = h.tags in
    let most = count_by-le-length is_some b.tags in
    let low = index_low b.tags r.tag.0 (length b.issued) h.held in
    record {
      numbered = answer_counts b.following (index_of b r.tag.0) r.reply ∙ h.numbered;
      out = let given = out_given b.tags r.tag.0 in omega (arith, given, longer, out);
      tags = let same = length-set b.tags r.tag.0 None in omega (arith, same, few);
      held = λ t id there. h.held t id (held_given b.tags r.tag.0 t id there);
      near = λ k x there. ⊎_elim
          (λ (old : slice_get b.answers k ≡ Some x). h.near k x old)
          (λ (new : (k ≡ length b.answers) × (a ≡ x)).
          let at : index_of b r.tag.0 ≡ x.index = ap (λ (y : Answer). y.index) new.1 in
          let place = new.0 in
          omega (arith, at, place, low, out, most, few))
          (get_push_cases b.answers a k x there);
    }

-- before any operation
no_tags : (n t : ℕ) (id : OpId) → slice_get (replicate n None) t ≡ Some (Some id) → ⊥
no_tags zero t id h = cc
no_tags (suc n) zero id h = let e : ◌≡◌ {A = Option OpId} None (Some id) = same_Some _ _ h in cc
no_tags (suc n) (suc t) id h = no_tags n t id h

first_lags : (tags : ℕ) (lines : List Line) → tags ≤ 16 → Lags (first_record tags lines)
first_lags tags lines few = record {
  numbered = first_counts lines;
  out = omega arith;
  tags = let same = length-replicate {A = Option OpId} tags None in omega (arith, same, few);
  held = λ t id there. absurd (no_tags tags t id there);
  near = λ k a there. absurd (cc);
}

none_lags : Lags no_processor
none_lags = record {
  numbered = first_counts [];
  out = omega arith;
  tags = omega arith;
  held = λ t id there. absurd (cc);
  near = λ k a there. absurd (cc);
}

all_lag : (tags : ℕ) (scripts : List (List Line)) (p : ℕ) → tags ≤ 16 → Lags (slice_index_or (map (first_record tags) scripts) p no_processor)
all_lag tags [] p few = none_lags
all_lag tags (lines ∷ scripts) zero few = first_lags tags lines few
all_lag tags (lines ∷ scripts) (suc p) few = all_lag tags scripts p few

move_lags : (tiles words : ℕ) (f : Flight) (m : Move) (p : ℕ) → IsFound words f m → ((q : ℕ) → Lags (processor_at f q)) → Lags (processor_at (moved tiles f m) p)
move_lags tiles words f (Sends t tag o) p found h =
    processor_set f.processors t (issued_by (processor_at f t) tag o) p Lags (issue_lags (processor_at f t) tag o (h t) found.2) (h p)
move_lags tiles words f (Serves r) p found h = h p
move_lags tiles words f (Takes r) p found h =
    processor_set f.processors r.destination (answered_by (processor_at f r.destination) r) p Lags (answer_lags (processor_at f r.destination) r (h r.destination)) (h p)

step_lags : (tiles words : ℕ) (f : Flight) (m : Option Move) (p : ℕ) → ((x : Move) → m ≡ Some x → IsFound words f x) → ((q : ℕ) → Lags (processor_at f q))
    → Lags (processor_at (moved_by tiles f m) p)
step_lags tiles words f None p found h = h p
step_lags tiles words f (Some m) p found h = move_lags tiles words f m p (found m refl) h

module _ (tiles tags : ℕ) (opening : List ℕ) (scripts : List (List Line)) (flight : ℕ → Flight) (move : ℕ → Option Move) (few : tags ≤ 16) where
  -- so it is in each course
  pub lags : (n : ℕ) → IsCourse tiles tags opening scripts flight move n → (p : ℕ) → Lags (processor_at (flight n) p)
  lags zero c p = subst (λ (f : Flight). Lags (processor_at f p)) (sym c.start) (all_lag tags scripts p few)
  lags (suc n) c p =
      let before : IsCourse tiles tags opening scripts flight move n =
      record { processors = c.processors; start = c.start; each = λ k low. c.each k (omega (arith, low)); found = λ k m low. c.found k m (omega (arith, low)) } in
      let last : n < suc n = omega arith in
      subst (λ (f : Flight). Lags (processor_at f p)) (sym (c.each n last))
      (step_lags tiles (length opening) (flight n) (move n) p (λ m is. c.found n m last is) (lags n before))

-- what is shown of a processor's answers
answers_at : (bs : List ProcessorRecord) (p : ℕ) → list_at (map (λ b. b.answers) bs) p ≡ (slice_index_or bs p no_processor).answers
answers_at [] p = refl
answers_at (b ∷ bs) zero = refl
answers_at (b ∷ bs) (suc p) = answers_at bs p

-- so it is in each machine
pub stand_near : (l : Load) (c : Core) (steps : List Step) → IsAfter l c steps → (p : ℕ) → AreNear (list_at (shown c).answers p)
stand_near l c steps h p =
    let lag = lags (tiles_of l.shape) l.tags l.opening l.scripts (flight_after l steps) (move_after l steps) h.accepted.tags.1 (length steps)
    (is_course l h.accepted steps (length steps)) p in
    let state : c.state ≡ state_after l steps (length steps) = h.state ∙ ap (after l) (sym (take-length steps)) in
    let same : list_at (shown c).answers p ≡ (processor_at (flight_after l steps (length steps)) p).answers =
    answers_at (records_of c.state) p ∙ ap (λ (s : State). (slice_index_or (records_of s) p no_processor).answers) state in
    subst AreNear (sym same) lag.near

-- of a processor that is there
pub near_there : (l : Load) (c : Core) (steps : List Step) → IsAfter l c steps → (p : ℕ) (answers : List Answer)
    → slice_get (shown c).answers p ≡ Some answers → AreNear answers
near_there l c steps h p answers there =
    subst AreNear (get_or_from_slice_get (shown c).answers p answers [] there) (stand_near l c steps h p)
