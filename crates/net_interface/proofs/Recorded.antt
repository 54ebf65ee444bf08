-- The operations of a processor's record, after an issue and after an answer.
use Rattle.std.proofs.Common.{◌≡◌, ◌≢◌, inl, inr, true, ℕ, zero, suc, ◌+◌, ◌<◌, ◌≤◌, List, [], ◌∷◌, ◌++◌, length, Option, Some, None, refl, sym, ap, subst, ◌∙◌}
use Rattle.std.proofs.Common.{arith, slice_get, slice_set, slice_index_or, length-set, length-append, replicate}
use Rattle.std.specs.Option.{option_map, option_and_then}
use Rattle.std.proofs.lemmas.Bool.{cases_eq}
use Rattle.std.proofs.lemmas.Option.{same_Some, slice_get_within}
use Rattle.torus.specs.declared.step.OpId.{OpId}
use Rattle.packet.specs.declared.kinds.Op.TheVariants.{Load as Loads}
use Rattle.packet.specs.declared.kinds.Reply.{Reply}
use Rattle.packet.specs.declared.kinds.Operation.{Operation}
use Rattle.packet.specs.declared.kinds.Response.{Response}
use Rattle.script_lines.specs.declared.line.Line.{Line}
use Rattle.script_lines.specs.declared.line.Line.TheVariants.{Spin}
use Rattle.script_lines.specs.Lines.{mentions_last}
use Rattle.tag_table.specs.Tags.{holder_of, free_tag, HoldsNone}
use Rattle.tag_table.proofs.Moves.{taken, given, distinct-taken, distinct-given}
use Rattle.one_order.proofs.Lists.{get_append_left, get_push, get_push_cases, get_set_same, get_set_other}
use Rattle.one_order.specs.declared.answer.Answer.{Answer}
use Rattle.one_order.specs.Scripts.{Invocation, IsFollowable, AreAnswersBefore}
use Rattle.one_order.specs.Following.{Following, ShowsPast, starts, issues, answers, first_of, next_operation_of, after_issue, after_answer}
use Rattle.one_order.specs.Following.{left_of}
use Rattle.one_order.specs.ProcessorRecord.{ProcessorRecord, ready, issued_by, answered_by, index_of, index_in, answer_of, record_with}
use Rattle.one_order.proofs.Histories.{with_answer, unanswered_more, unanswered_set}
use Rattle.one_order.proofs.Shown.{stands, left_after_issue, left_within}
use Rattle.one_order.proofs.Grown.{shows_with, followable_with}
use Rattle.one_order.specs.ProcessorRecord.{first_record}
use Rattle.net_interface.specs.Inside.{AwaitsAnswer, AreOperationsOf}

-- no tag is held in the beginning
none_held : (n t : ℕ) (id : OpId) → holder_of (replicate n None) t ≡ Some id → ⊥
none_held zero t id e = cc
none_held (suc n) zero id e = cc
none_held (suc n) (suc t) id e = none_held n t id e

pub at_start : (tags : ℕ) (lines : List Line) → IsFollowable lines → AreOperationsOf lines [] 0 (first_record tags lines)
at_start tags lines followable = record {
  followable = followable;
  shows = starts;
  before = λ i o a reply e h. cc;
  issued = refl;
  answers = refl;
  distinct = λ s t id e h. absurd (none_held tags s id e);
  held = λ t id e. absurd (none_held tags t id e);
}

pub new_record : (tags : ℕ) (lines : List Line) (f : Following) (table : List (Option OpId)) (issued : List Operation) (more : List Answer)
    → f ≡ first_of lines → table ≡ replicate tags None → issued ≡ [] → more ≡ []
    → ◌≡◌ {A = ProcessorRecord} (record { following = f; tags = table; issued = issued; answers = more }) (first_record tags lines)
new_record tags lines f table issued more e t i m = rw (e, t, i, m) refl

-- what is ready is the follower's operation, under a free tag
ready_parts : (n : Option Operation) (t : Option ℕ) (tag : ℕ) (o : Operation)
    → ◌≡◌ {A = Option (ℕ × Operation)} (option_and_then {U = ℕ × Operation} (λ (x : Operation). option_map (λ (k : ℕ). (k, x)) t) n) (Some (tag, o))
    → (n ≡ Some o) × (t ≡ Some tag)
ready_parts None t tag o e = cc
ready_parts (Some x) None tag o e = cc
ready_parts (Some x) (Some k) tag o e =
    let p : ◌≡◌ {A = ℕ × Operation} (k, x) (tag, o) = same_Some _ _ e in
    (ap (λ (q : ℕ × Operation). Some q.1) p, ap (λ (q : ℕ × Operation). Some q.0) p)

pub next_ready : (b : ProcessorRecord) (tag : ℕ) (o : Operation) → ready b ≡ Some (tag, o) → next_operation_of b.following ≡ Some o
next_ready b tag o e = (ready_parts (next_operation_of b.following) (free_tag b.tags) tag o e).0

pub tag_ready : (b : ProcessorRecord) (tag : ℕ) (o : Operation) → ready b ≡ Some (tag, o) → free_tag b.tags ≡ Some tag
tag_ready b tag o e = (ready_parts (next_operation_of b.following) (free_tag b.tags) tag o e).1

module _ (lines : List Line) (past : List Invocation) (now : ℕ) (b : ProcessorRecord) (is : AreOperationsOf lines past now b) where
  pub issued_is : length b.issued ≡ b.following.issued
  issued_is = is.issued ∙ sym (stands lines past b.following is.followable is.shows).issued

  pub answers_within : length b.answers ≤ length b.issued
  answers_within = omega (arith, is.answers, is.issued)

  -- the operations left are at least the one that is ready
  pub left_falls : (tag : ℕ) (o : Operation) → ready b ≡ Some (tag, o) → left_of (after_issue b.following) < left_of b.following
  left_falls tag o is_ready = left_after_issue lines past b.following is.followable is.shows o (next_ready b tag o is_ready)

  -- an issue
  module _ (tag : ℕ) (o : Operation) (is_ready : ready b ≡ Some (tag, o)) where
    abbrev pub new : Invocation
    new = record { operation = o; issue = now; answer = None }

    abbrev pub new_id : OpId
    new_id = record { 0 = b.following.issued }

    number_is : b.following.issued ≡ length past
    number_is = (stands lines past b.following is.followable is.shows).issued

    still : (i : ℕ) → AwaitsAnswer past i → AwaitsAnswer (past ++ new ∷ []) i
    still i w = (w.0, get_append_left past (new ∷ []) i w.0 w.1, w.2)

    holds_none : HoldsNone b.tags new_id
    holds_none t e = let w = is.held t new_id e in let k = slice_get_within past new_id.0 w.0 w.1 in absurd (omega (arith, number_is))

    held_then : (t : ℕ) (id : OpId) → holder_of (slice_set b.tags tag (Some new_id)) t ≡ Some id → AwaitsAnswer (past ++ new ∷ []) id.0
    held_then t id e =
        let one = taken b.tags tag new_id (tag_ready b tag o is_ready) in
        elim (cases_eq t tag) [
          | inl same ↦
              let e2 : new_id ≡ id = same_Some _ _ (sym one.held ∙ ap (holder_of (slice_set b.tags tag (Some new_id))) (sym same) ∙ e) in
              let at : id.0 ≡ length past = ap (λ (i : OpId). i.0) (sym e2) ∙ number_is in
              (new, ap (slice_get (past ++ new ∷ [])) at ∙ get_push past new, refl)
          | inr other ↦ still id.0 (is.held t id (sym (one.others t other) ∙ e))
        ]

    before_then : AreAnswersBefore (past ++ new ∷ []) now
    before_then i x a reply e h = elim (get_push_cases past new i x e) [
      | inl old ↦ is.before i x a reply old h
      | inr last ↦ let wrong : ◌≡◌ {A = Option (ℕ × Reply)} None (Some (a, reply)) = ap (λ (y : Invocation). y.answer) last.1 ∙ h in cc
    ]

    pub after_issued : AreOperationsOf lines (past ++ new ∷ []) now (issued_by b tag o)
    after_issued = record {
      followable = is.followable;
      shows = issues past b.following o now is.shows (next_ready b tag o is_ready) is.before;
      before = before_then;
      issued = length-append b.issued (o ∷ []) ∙ ap (λ n. n + 1) is.issued ∙ sym (length-append past (new ∷ []));
      answers =
          let u = unanswered_more past new refl in let n = length-append past (new ∷ []) in omega (arith, is.answers);
      distinct = distinct-taken b.tags tag new_id is.distinct holds_none;
      held = held_then;
    }

  -- an answer
  module _ (r : Response) (id : OpId) (holds : holder_of b.tags r.tag.0 ≡ Some id) where
    abbrev pub was : Invocation
    was = (is.held r.tag.0 id holds).0

    was_at : slice_get past id.0 ≡ Some was
    was_at = (is.held r.tag.0 id holds).1

    abbrev pub answered : Invocation
    answered = with_answer was now r.reply

    abbrev pub past_then : List Invocation
    past_then = slice_set past id.0 answered

    pub issued_there : id.0 < length b.issued
    issued_there = omega (arith, is.issued, slice_get_within past id.0 was was_at)

    before_then_2 : AreAnswersBefore past_then (now + 1)
    before_then_2 i x a reply e h = elim (cases_eq i id.0) [
      | inl same ↦
          let e2 : answered ≡ x = same_Some _ _
          (sym (get_set_same past id.0 answered (slice_get_within past id.0 was was_at)) ∙ ap (slice_get past_then) (sym same) ∙ e) in
          let e3 : ◌≡◌ {A = ℕ × Reply} (now, r.reply) (a, reply) = same_Some _ _ (ap (λ (y : Invocation). y.answer) e2 ∙ h) in
          let e4 : now ≡ a = ap (λ (p : ℕ × Reply). p.0) e3 in
          omega arith
      | inr other ↦
          let k : a < now = is.before i x a reply (sym (get_set_other past id.0 i answered other) ∙ e) h in
          omega arith
    ]

    held_then_2 : (t : ℕ) (other : OpId) → holder_of (slice_set b.tags r.tag.0 None) t ≡ Some other → AwaitsAnswer past_then other.0
    held_then_2 t other e =
        let back = given b.tags r.tag.0 id holds in
        elim (cases_eq t r.tag.0) [
          | inl same ↦ let wrong : None ≡ Some other = sym back.free ∙ ap (holder_of (slice_set b.tags r.tag.0 None)) (sym same) ∙ e in cc
          | inr apart ↦
              let old : holder_of b.tags t ≡ Some other = sym (back.others t apart) ∙ e in
              let w = is.held t other old in
              let differ : other.0 ≢ id.0 = λ (e0 : other.0 ≡ id.0).
              let e1 : other ≡ id = ap (λ (n : ℕ). record { 0 = n }) e0 in
              apart (is.distinct t r.tag.0 id (old ∙ ap Some e1) holds) in
              (w.0, get_set_other past id.0 other.0 answered differ ∙ w.1, w.2)
        ]

    pub after_answered : AreOperationsOf lines past_then (now + 1) (answered_by b r)
    after_answered = record {
      followable = is.followable;
      shows =
          subst (λ (i : ℕ). ShowsPast lines past_then (after_answer b.following i r.reply)) (sym (ap index_in holds))
          (answers past b.following id.0 was now r.reply is.shows was_at (is.held r.tag.0 id holds).2);
      before = before_then_2;
      issued = is.issued ∙ sym (length-set past id.0 answered);
      answers =
          let u = unanswered_set past id.0 was now r.reply was_at (is.held r.tag.0 id holds).2 in
          let n = length-append b.answers (answer_of b r ∷ []) in
          let m = length-set past id.0 answered in
          omega (arith, is.answers);
      distinct = distinct-given b.tags r.tag.0 is.distinct;
      held = held_then_2;
    }

-- a line at the end of the script
pub after_line : (lines : List Line) (past : List Invocation) (now : ℕ) (b : ProcessorRecord) → AreOperationsOf lines past now b → (line : Line)
    → ((a v m : ℕ) → line ≡ Spin a v m → 0 < m) → (mentions_last line ≡ true → 0 < length b.issued + left_of b.following)
    → AreOperationsOf (lines ++ line ∷ []) past now (record_with line b)
after_line lines past now b is line some last = record {
  followable = followable_with lines line is.followable some
      (λ tells. let low = last tells in let all = left_within lines past b.following is.followable is.shows in let n = is.issued in omega (arith, low, all, n));
  shows = shows_with lines line past b.following is.shows;
  before = is.before;
  issued = is.issued;
  answers = is.answers;
  distinct = is.distinct;
  held = is.held;
}

-- the record that an issue makes
pub issued_record : (b : ProcessorRecord) (tag index : ℕ) (o : Operation) (f : Following) (tags : List (Option OpId)) (issued : List Operation)
    → index ≡ b.following.issued → f ≡ after_issue b.following → tags ≡ slice_set b.tags tag (Some (record { 0 = index })) → issued ≡ b.issued ++ o ∷ []
    → ◌≡◌ {A = ProcessorRecord} (record { following = f; tags = tags; issued = issued; answers = b.answers }) (issued_by b tag o)
issued_record b tag index o f tags issued i e t s = rw (e, t, s, i) refl

-- the record that an answer makes
pub answered_record : (b : ProcessorRecord) (r : Response) (index : ℕ) (o : Operation) (f : Following) (tags : List (Option OpId)) (more : List Answer)
    → holder_of b.tags r.tag.0 ≡ Some (record { 0 = index }) → o ≡ slice_index_or b.issued index (record { address = 0; op = Loads })
    → f ≡ after_answer b.following index r.reply → tags ≡ slice_set b.tags r.tag.0 None
    → more ≡ b.answers ++ record { index = index; op = o.op; reply = r.reply; bank = r.source; place = r.place } ∷ []
    → ◌≡◌ {A = ProcessorRecord} (record { following = f; tags = tags; issued = b.issued; answers = more }) (answered_by b r)
answered_record b r index o f tags more h is e t a =
    let i : index ≡ index_of b r.tag.0 = sym (ap index_in h) in
    rw (e, t, a, is, i) refl
