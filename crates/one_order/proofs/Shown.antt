-- What a follower that shows some operations keeps of them, and so what it does next.
use Rattle.std.proofs.Common.{◌≡◌, ℕ, ◌+◌, ◌-◌, ◌<◌, ◌≤◌, ◌==◌, ◌&&◌, true, false, List, [], ◌∷◌, ◌++◌, length, Option, Some, None, refl, sym, ◌∙◌, ap, subst}
use Rattle.std.proofs.Common.{arith, slice_get, slice_set, length-append, length-set, eqb-true, eq-eqb, append-nil}
use Rattle.std.specs.Prelude.{is_none, is_some, IsSome}
use Rattle.std.proofs.lemmas.Bool.{cond_both, and_parts, both_ways, eqb-false, true_from_ne_false}
use Rattle.std.proofs.lemmas.Option.{slice_get_within}
use Rattle.packet.specs.declared.kinds.Reply.{Reply}
use Rattle.packet.specs.declared.kinds.Operation.{Operation}
use Rattle.script_lines.specs.declared.line.Line.{Line}
use Rattle.script_lines.specs.Lines.{operation_count}
use Rattle.one_order.specs.declared.spin.OpenSpin.{OpenSpin}
use Rattle.one_order.specs.Scripts.{Invocation, IsFollowable, AreAnswered, AreAnswersBefore, FollowsScript, HasFinished, last_reply, unanswered}
use Rattle.one_order.specs.Scripts.{IsAddressIn}
use Rattle.one_order.specs.Following.{Following, ShowsPast, starts, issues, answers, first_of, next_operation_of, after_issue, after_answer}
use Rattle.one_order.specs.Following.{last_answered, other_answered, is_finished, is_empty, left_of, loads_left, ready_operation, past_fences, unfenced}
use Rattle.one_order.specs.Following.{spin_answered, spin_issued, ahead_issued}
use Rattle.one_order.proofs.Histories.{extends_refl, extends_set, with_answer, HasLastReply, last_reply_more, last_reply_answered, last_reply_other}
use Rattle.one_order.proofs.Histories.{last_shown, last_shown_before, last_known, last_reply_before, unanswered_more, unanswered_set, none_waits}
use Rattle.one_order.proofs.Histories.{all_answered, some_last, later_step}
use Rattle.one_order.proofs.Residual.{Leads, leads_start, leads_past_fences, leads_on, leads_over, leads_issued, HasLoads, WantsLoad, HasNoFence}
use Rattle.one_order.proofs.Residual.{step_to, step_ready, Continues, continues_nothing}
use Rattle.one_order.proofs.Places.{Each, each_from, each_past_fences, each_issued, each_unfenced, unfenced_cases, no_fence, no_fence_left}
use Rattle.one_order.proofs.Places.{count_past_fences, count_unfenced, left_issued, left_answered, wants_left, spin_answered_cases, wants_none}
use Rattle.one_order.proofs.Places.{wants_answered, begins_with_loads, followable_loads, BeginsPlainly, followable_start, known_operation, IsLineIn}
use Rattle.one_order.proofs.Places.{IsSpinIn, spin_in_issued, spin_in_answered, ready_address}

pub record Stands (lines : List Line) (past : List Invocation) (f : Following) : Type 0 where
  pub issued : f.issued ≡ length past
  pub waiting : f.waiting ≡ unanswered past
  pub last : f.last ≡ last_reply past
  pub leads : Leads lines past f.spin f.ahead
  pub loads : Each HasLoads f.ahead
  pub wants : WantsLoad f.spin f.last
  pub fence : f.waiting ≡ 0 → f.spin ≡ None → HasNoFence f.ahead
  pub begins : past ≡ [] → (f.spin ≡ None) × BeginsPlainly f.ahead
  pub count : f.issued + (loads_left f.spin + operation_count f.ahead) ≤ operation_count lines
  pub ahead_in : Each (IsLineIn lines) f.ahead
  pub spin : IsSpinIn lines f.spin

-- the start
stands_first : (lines : List Line) → IsFollowable lines → Stands lines [] (first_of lines)
unfolding first_of
stands_first lines followable = record {
  issued = refl;
  waiting = refl;
  last = refl;
  leads = leads_past_fences lines [] lines (leads_start lines) (λ i o g. cc);
  loads = each_past_fences HasLoads lines (followable_loads lines followable);
  wants = tt;
  fence = λ _ _. no_fence lines;
  begins = λ _. (refl, followable_start lines followable);
  count = let e = count_past_fences lines in omega arith;
  ahead_in = each_past_fences (IsLineIn lines) lines (each_from (IsLineIn lines) lines (λ k first g. (k, g)));
  spin = tt;
}

-- an issue
stands_issued : (lines : List Line) (past : List Invocation) (f : Following) (o : Operation) (t : ℕ) → Stands lines past f →
    next_operation_of f ≡ Some o → AreAnswersBefore past t → Stands lines (past ++ record { operation = o; issue = t; answer = None } ∷ []) (after_issue f)
unfolding next_operation_of after_issue
stands_issued lines past f o t s next before =
    let new : Invocation = record { operation = o; issue = t; answer = None } in
    let n = length-append past (new ∷ []) in
    record {
      issued = let e = s.issued in omega arith;
      waiting = let e = s.waiting in let k = unanswered_more past new refl in omega arith;
      last = sym (last_reply_more past new refl);
      leads = leads_issued lines past f.spin f.ahead f.last o t s.leads next s.last before (begins_with_loads f.ahead s.loads) s.wants;
      loads = each_issued HasLoads f.spin f.ahead s.loads;
      wants = wants_none (spin_issued f.spin f.ahead);
      fence = λ z _. absurd (omega arith);
      begins = λ e. absurd (let k = ap length e in omega arith);
      count = let e = s.count in let k = left_issued f.spin f.ahead f.last o next (begins_with_loads f.ahead s.loads) (wants_left f.spin f.last s.wants) in
          omega arith;
      ahead_in = each_issued (IsLineIn lines) f.spin f.ahead s.ahead_in;
      spin = spin_in_issued lines f.spin f.ahead s.ahead_in s.spin;
    }

-- an answer
leads_unfenced : (lines : List Line) (past : List Invocation) (spin : Option OpenSpin) (waiting : ℕ) (ahead : List Line) → Leads lines past spin ahead →
    (waiting ≡ 0 → AreAnswered past) → Leads lines past spin (unfenced spin waiting ahead)
leads_unfenced lines past spin waiting ahead h answered =
    unfenced_cases spin waiting ahead (Leads lines past spin)
    (λ z n. subst (λ (sp : Option OpenSpin). Leads lines past sp (past_fences ahead)) (sym n)
    (leads_past_fences lines past ahead (subst (λ (sp : Option OpenSpin). Leads lines past sp ahead) n h) (answered z)))
    (λ no. h)

leads_answered : (lines : List Line) (past : List Invocation) (spin : Option OpenSpin) (ahead : List Line) (reply : Reply) → Leads lines past spin ahead →
    HasLastReply past reply → Leads lines past (spin_answered spin reply) ahead
leads_answered lines past None ahead reply h last = h
leads_answered lines past (Some s) ahead reply h last =
    spin_answered_cases s reply (λ sp. Leads lines past sp ahead) (λ e. leads_over lines past s ahead reply h last e) (λ _ _. h)

module _ (lines : List Line) (past : List Invocation) (f : Following) (i : ℕ) (o : Invocation) (t : ℕ) (reply : Reply)
    (s : Stands lines past f) (at : slice_get past i ≡ Some o) (open_ : o.answer ≡ None) where
  stands_other : (i + 1 ≡ length past → ⊥) → Stands lines (slice_set past i (with_answer o t reply)) (other_answered f)
  stands_other other =
      let past' = slice_set past i (with_answer o t reply) in
      let n = length-set past i (with_answer o t reply) in
      let w = unanswered_set past i o t reply at open_ in
      let within = slice_get_within past i o at in
      let less = s.waiting in
      record {
        issued = s.issued ∙ sym n;
        waiting = omega arith;
        last = s.last ∙ sym (last_reply_other past i o (with_answer o t reply) at other);
        leads = leads_unfenced lines past' f.spin (f.waiting - 1) f.ahead
            (leads_on lines past past' f.spin f.ahead s.leads (extends_set past i o t reply at open_))
            (λ z. all_answered past' (omega arith));
        loads = each_unfenced HasLoads f.spin (f.waiting - 1) f.ahead s.loads;
        wants = s.wants;
        fence = no_fence_left f.spin (f.waiting - 1) f.ahead;
        begins = λ e. absurd (let k = ap length e in omega arith);
        count = let e = s.count in let k = count_unfenced f.spin (f.waiting - 1) f.ahead in omega arith;
        ahead_in = each_unfenced (IsLineIn lines) f.spin (f.waiting - 1) f.ahead s.ahead_in;
        spin = s.spin;
      }

  stands_last : i + 1 ≡ length past → Stands lines (slice_set past i (with_answer o t reply)) (last_answered f reply)
  stands_last is_last =
      let past' = slice_set past i (with_answer o t reply) in
      let n = length-set past i (with_answer o t reply) in
      let w = unanswered_set past i o t reply at open_ in
      let within = slice_get_within past i o at in
      let less = s.waiting in
      let replied = last_reply_answered past i o t reply at is_last in
      record {
        issued = s.issued ∙ sym n;
        waiting = omega arith;
        last = sym (last_shown past' reply replied);
        leads = leads_unfenced lines past' (spin_answered f.spin reply) (f.waiting - 1) f.ahead
            (leads_answered lines past' f.spin f.ahead reply (leads_on lines past past' f.spin f.ahead s.leads (extends_set past i o t reply at open_)) replied)
            (λ z. all_answered past' (omega arith));
        loads = each_unfenced HasLoads (spin_answered f.spin reply) (f.waiting - 1) f.ahead s.loads;
        wants = wants_answered f.spin reply;
        fence = no_fence_left (spin_answered f.spin reply) (f.waiting - 1) f.ahead;
        begins = λ e. absurd (let k = ap length e in omega arith);
        count = let e = s.count in let k = count_unfenced (spin_answered f.spin reply) (f.waiting - 1) f.ahead in let l = left_answered f.spin reply in
            omega arith;
        ahead_in = each_unfenced (IsLineIn lines) (spin_answered f.spin reply) (f.waiting - 1) f.ahead s.ahead_in;
        spin = spin_in_answered lines f.spin reply s.spin;
      }

  stands_answered : Stands lines (slice_set past i (with_answer o t reply)) (after_answer f i reply)
  unfolding after_answer
  stands_answered =
      cond_both (i + 1 == f.issued) (last_answered f reply) (other_answered f) (Stands lines (slice_set past i (with_answer o t reply)))
      (λ e. stands_last (eqb-true (i + 1) f.issued e ∙ s.issued))
      (λ e. stands_other (λ k. eqb-false (i + 1) f.issued e (k ∙ sym s.issued)))

pub stands : (lines : List Line) (past : List Invocation) (f : Following) → IsFollowable lines → ShowsPast lines past f → Stands lines past f
stands lines past f followable starts = stands_first lines followable
stands lines past f followable (issues before g o t h next answered) = stands_issued lines before g o t (stands lines before g followable h) next answered
stands lines past f followable (answers before g i o t reply h at open_) =
    stands_answered lines before g i o t reply (stands lines before g followable h) at open_

-- laws
module _ (lines : List Line) (past : List Invocation) (f : Following) (followable : IsFollowable lines) (h : ShowsPast lines past f) where
  pub issued_is : f.issued ≡ length past
  issued_is = (stands lines past f followable h).issued

  pub waiting_is : f.waiting ≡ unanswered past
  waiting_is = (stands lines past f followable h).waiting

  pub last_is : f.last ≡ last_reply past
  last_is = (stands lines past f followable h).last

  pub followed : FollowsScript lines past
  followed =
      let s = stands lines past f followable h in
      subst (FollowsScript lines) (append-nil past) (s.leads.to past [] (extends_refl past) tt (continues_nothing f.spin f.ahead past))

  pub ready_is_allowed : (o : Invocation) → AreAnswersBefore past o.issue → next_operation_of f ≡ Some o.operation → FollowsScript lines (past ++ o ∷ [])
  unfolding next_operation_of
  ready_is_allowed o before next =
      let s = stands lines past f followable h in
      s.leads.to past (o ∷ []) (extends_refl past) before
      (step_to f.spin f.ahead f.last past o [] next
      (λ reply is. last_reply_before past past o.issue reply (extends_refl past) (last_known past reply (sym s.last ∙ is)) before)
      (begins_with_loads f.ahead s.loads) s.wants (continues_nothing (spin_issued f.spin f.ahead) (ahead_issued f.spin f.ahead) (past ++ o ∷ [])))

  pub allowed_is_ready : (o : Invocation) → FollowsScript lines (past ++ o ∷ []) → next_operation_of f ≡ Some o.operation
  unfolding next_operation_of
  allowed_is_ready o k =
      let s = stands lines past f followable h in
      step_ready f.spin f.ahead f.last past o []
      (λ reply l. s.last ∙ last_shown_before past o.issue reply l)
      (begins_with_loads f.ahead s.loads) s.wants
      (λ n told. s.fence (s.waiting ∙ none_waits past (λ i p g. let r = told i p g in (r.1.0, r.0, r.1.1))) n)
      (s.leads.from past (o ∷ []) (extends_refl past) k)

-- something is ready_operation unless all is done
known_last : (past : List Invocation) (last : Option Reply) → last ≡ last_reply past → AreAnswered past → (past ≡ [] → ⊥) → IsSome last
known_last [] last e answered some = absurd (some refl)
known_last (x ∷ past) last e answered some = let r = some_last x past answered in ap is_some (e ∙ r.1)

known_load : (a : ℕ) (last : Option Reply) → IsSome last → IsSome (ready_operation (Some (record { address = a; sought = 0; left = 0 })) [] last)
known_load a None h = cc
known_load a (Some reply) h = refl

ready_unless : (spin : Option OpenSpin) (ahead : List Line) (last : Option Reply) (waiting : ℕ) (past : List Invocation) → last ≡ last_reply past
    → AreAnswered past →
    (spin ≡ None → HasNoFence ahead) → (past ≡ [] → (spin ≡ None) × BeginsPlainly ahead) → waiting ≡ 0 →
    (is_empty ahead && is_none spin && (waiting == 0)) ≡ false → IsSome (ready_operation spin ahead last)
ready_unless (Some s) ahead last waiting past e answered fence begins zero_ test =
    known_load s.address last (known_last past last e answered (λ n. let k = (begins n).0 in cc))
ready_unless None [] last waiting past e answered fence begins zero_ test =
    absurd (both_ways (waiting == 0) test (eq-eqb waiting 0 zero_))
ready_unless None (first ∷ lines) last waiting past e answered fence begins zero_ test =
    known_operation first lines last (fence refl) (λ u. known_last past last e answered (λ n. (begins n).1 u))

some_value : {A : Type 0} (x : Option A) → IsSome x → (y : A) × (x ≡ Some y)
some_value None h = cc
some_value (Some y) h = (y, refl)

nothing_ahead : (ahead : List Line) → is_empty ahead ≡ true → ahead ≡ []
nothing_ahead [] h = refl
nothing_ahead (first ∷ lines) h = cc

no_spin : (spin : Option OpenSpin) → is_none spin ≡ true → spin ≡ None
no_spin None h = refl
no_spin (Some s) h = cc

module _ (lines : List Line) (past : List Invocation) (f : Following) (followable : IsFollowable lines) (h : ShowsPast lines past f) where
  pub progress : AreAnswered past → is_finished f ≡ false → IsSome (next_operation_of f)
  unfolding next_operation_of is_finished
  progress answered test =
      let s = stands lines past f followable h in
      let none = s.waiting ∙ none_waits past answered in
      ready_unless f.spin f.ahead f.last f.waiting past s.last answered (s.fence none) s.begins none test

  pub finished_is : is_finished f ≡ true → HasFinished lines past
  unfolding is_finished
  finished_is test =
      let s = stands lines past f followable h in
      let a = and_parts (is_empty f.ahead && is_none f.spin) (f.waiting == 0) test in
      let b = and_parts (is_empty f.ahead) (is_none f.spin) a.0 in
      record {
        follows = followed lines past f followable h;
        finished = record {
          answered = all_answered past (sym s.waiting ∙ eqb-true f.waiting 0 a.1);
          complete = λ o k.
              let c = s.leads.from past (o ∷ []) (extends_refl past) k in
              subst (λ (ahead : List Line). Continues None ahead past (o ∷ [])) (nothing_ahead f.ahead b.0)
              (subst (λ (spin : Option OpenSpin). Continues spin f.ahead past (o ∷ [])) (no_spin f.spin b.1) c);
        };
      }

  pub finished_from : HasFinished lines past → is_finished f ≡ true
  finished_from done = true_from_ne_false (is_finished f) (λ test.
      let r = some_value (next_operation_of f) (progress done.finished.answered test) in
      let t = later_step past in
      done.finished.complete (record { operation = r.0; issue = t.0; answer = None })
      (ready_is_allowed lines past f followable h (record { operation = r.0; issue = t.0; answer = None }) t.1 r.1))

  pub address_is : (o : Operation) → next_operation_of f ≡ Some o → IsAddressIn lines o.address
  unfolding next_operation_of
  address_is o next = let s = stands lines past f followable h in ready_address lines f.spin f.ahead f.last o s.ahead_in s.spin next

  pub left_after_issue : (o : Operation) → next_operation_of f ≡ Some o → left_of (after_issue f) < left_of f
  unfolding next_operation_of after_issue left_of
  left_after_issue o next =
      let s = stands lines past f followable h in
      let k = left_issued f.spin f.ahead f.last o next (begins_with_loads f.ahead s.loads) (wants_left f.spin f.last s.wants) in omega arith

  pub left_within : length past + left_of f ≤ operation_count lines
  unfolding left_of
  left_within = let s = stands lines past f followable h in let e = s.issued in let k = s.count in omega arith

pub left_after_answer : (f : Following) (i : ℕ) (reply : Reply) → left_of (after_answer f i reply) ≤ left_of f
unfolding after_answer left_of
left_after_answer f i reply =
    cond_both (i + 1 == f.issued) (last_answered f reply) (other_answered f)
    (λ g. loads_left g.spin + operation_count g.ahead ≤ loads_left f.spin + operation_count f.ahead)
    (λ e. let k = count_unfenced (spin_answered f.spin reply) (f.waiting - 1) f.ahead in let l = left_answered f.spin reply in omega arith)
    (λ e. let k = count_unfenced f.spin (f.waiting - 1) f.ahead in omega arith)
