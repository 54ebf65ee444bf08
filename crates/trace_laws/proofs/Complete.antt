-- Completeness: whatever order explains the trace, each word has a configuration that keeps up with a beginning of it.
use Rattle.std.proofs.Common.{◌≡◌, ◌≢◌, inl, inr, ⊎_elim, ℕ, suc, ◌<◌, List, [], ◌∷◌, ◌++◌, length, Option, Some, None, sym, ◌∙◌, ap, subst}
use Rattle.std.proofs.Common.{arith, slice_get, set, take}
use Rattle.std.proofs.lemmas.Bool.{cases_eq}
use Rattle.packet.specs.declared.kinds.Reply.{Reply}
use Rattle.trace_laws.specs.declared.event.Call.{Call}
use Rattle.trace_laws.specs.declared.event.Event.{Event}
use Rattle.trace_laws.specs.declared.event.Event.TheVariants.{Issue, Answer}
use Rattle.trace_laws.specs.declared.opened.Open.{Open}
use Rattle.trace_laws.specs.declared.opened.Config.{Config}
use Rattle.trace_laws.specs.Traces.{IsTrace, TraceIssuesAt, TraceAnswersAt, IsUnanswered}
use Rattle.trace_laws.specs.Orders.{IsLinearizable}
use Rattle.trace_laws.specs.Configs.{IsLeft, HasTakenEffect, IsIn, HasAsGood, IsExpanded, release}
use Rattle.trace_laws.specs.Searches.{IsAt, IsPending, IsIndexTable, AreTables, KeepsUp, WasIdle, IsCut, IsCovered, IsComplete}
use Rattle.trace_laws.proofs.Lists.{take_get}
use Rattle.trace_laws.proofs.Unanswered.{heard_order}
use Rattle.trace_laws.proofs.Issues.{one_issue, one_call}
use Rattle.trace_laws.proofs.Table.{at_within}
use Rattle.trace_laws.proofs.Dominance.{good_more, good_issued, good_answer, good_widened}
use Rattle.trace_laws.proofs.Fits.{fits_issued, fits_answer, fits_widened}
use Rattle.trace_laws.proofs.Walking.{idle_later, walk, cut_answered}

pub complete_issue : (opening : List ℕ) (trace : List Event) (k : ℕ) (tables later : ℕ → List (Option Open))
    (sets : ℕ → List Config) (s : ℕ) (b : Open)
    → IsTrace (length opening) trace
    → TraceIssuesAt trace k b.call → s < 128 → slice_get (tables b.call.operation.address) s ≡ Some None
    → later b.call.operation.address ≡ set (tables b.call.operation.address) s (Some b)
    → ((v : ℕ) → v ≢ b.call.operation.address → later v ≡ tables v)
    → IsComplete opening trace k tables sets
    → IsComplete opening trace (suc k) later sets
complete_issue opening trace k tables later sets s b t now l free new same_table complete = λ order o heard w inside.
    let was = complete order o heard w inside in
    let n = was.0 in
    let c : Config = was.1 in
    let up : KeepsUp opening (tables w) w (take n order) c = was.3 in
    let cut : IsCut trace k w order n = was.4 in (
      n,
      c,
      was.2,
      (
        up.0,
        fits_issued opening tables later w (take n order) up.0 s b l free new same_table
            (λ here on.
            let d : Call = on.1 in
            let at = take_get n order on.0 d on.2 in
            let issue = o.issued on.0 d at.1 in
            let same = one_call (length opening) trace t issue.0 k d b.call issue.1 now on.3 in
            let early = cut.before on.0 d at.0 at.1 (ap (λ (f : Call). f.operation.address) same ∙ here) in
            let when = one_issue (length opening) trace t early.0 k d b.call early.2 now on.3 in
            let less = early.1 in
            omega arith)
            up.1,
        good_issued tables later w c up.0 s b free new same_table up.2,
      ),
      record {
        before = λ x d m h here. let r = cut.before x d m h here in (r.0, omega arith, r.2);
        behind = λ x d m h here. ⊎_elim
            (λ (open_still : IsUnanswered trace k d.id). inl (λ i reply answer. ⊎_elim
            (λ (e : i ≡ k). absurd
            (let there : slice_get trace i ≡ Some (Issue b.call) = ap (λ (j : ℕ). slice_get trace j) e ∙ now in cc))
            (λ (ne : i ≢ k). let r = open_still i reply answer in omega arith)
            (cases_eq i k)))
            (λ (idle : WasIdle trace k d). inr (idle_later trace k d idle))
            (cut.behind x d m h here);
      },
    )

pub complete_answer : (opening : List ℕ) (trace : List Event) (k : ℕ) (tables emptied : ℕ → List (Option Open))
    (sets later : ℕ → List Config) (s : ℕ) (a : Open) (reply : Reply)
    → IsTrace (length opening) trace → AreTables (length opening) trace k tables
    → TraceAnswersAt trace k a.call.id reply
    → a.call.operation.address < length opening
    → IsAt (tables a.call.operation.address) s a
    → emptied a.call.operation.address ≡ set (tables a.call.operation.address) s None
    → ((v : ℕ) → v ≢ a.call.operation.address → emptied v ≡ tables v)
    → (configs : List Config)
    → ((c : Config) → IsIn (sets a.call.operation.address) c
    → HasAsGood (tables a.call.operation.address) a.call.operation.address configs c)
    → ((c : Config) → IsIn configs c → IsLeft c s
    → IsExpanded (tables a.call.operation.address) a.call.operation.address configs c)
    → ((c : Config) → IsIn configs c → HasTakenEffect c s → IsIn (later a.call.operation.address) (release c s))
    → ((v : ℕ) → v ≢ a.call.operation.address → later v ≡ sets v)
    → IsComplete opening trace k tables sets → IsComplete opening trace (suc k) emptied later
complete_answer opening trace k tables emptied sets later s a reply t are now inside there gone same_table configs kept closed released same complete = λ order o heard v l.
    let w = a.call.operation.address in
    let table : List (Option Open) = tables w in
    let is : IsIndexTable trace k w table = are w inside in
    let p : IsPending trace k a = is.pending s a there in
    let low : s < 128 = at_within trace k w table s a is there in
    let on = o.answered k a.call.id reply now in
    let issue = o.issued on.0 on.1 on.2 in
    let at : slice_get order on.0 ≡ Some a.call =
    subst (λ (f : Call). slice_get order on.0 ≡ Some f)
    (one_call (length opening) trace t issue.0 p.at on.1 a.call issue.1 p.issue on.3) on.2 in
    ⊎_elim {C = IsCovered opening trace (suc k) (emptied v) v order (later v)}
    (λ (e : v ≡ w).
    let was : IsCovered opening trace k (tables w) w order (sets w) = complete order o heard w inside in
    let better : HasAsGood table w configs was.1 = kept was.1 was.2 in
    let was_up : KeepsUp opening table w (take was.0 order) was.1 = was.3 in
    let far = walk opening trace k table t order o heard s a reply is now there inside on.0 at configs closed
    (suc on.0) was.0 better.0 (omega arith) better.1
    (was_up.0, was_up.1, good_more table w better.0 was.1 was_up.0 better.2 was_up.2) was.4 in
    let m = far.0 in
    let d : Config = far.1 in
    let up : KeepsUp opening table w (take m order) d = far.4 in
    let cut : IsCut trace k w order m = far.5 in
    subst (λ (u : ℕ). IsCovered opening trace (suc k) (emptied u) u order (later u)) (sym e) (
      m,
      release d s,
      released d far.2 far.3,
      subst (λ (ts : List (Option Open)). KeepsUp opening ts w (take m order) (release d s)) (sym gone) (
        release up.0 s,
        fits_answer opening table w (take m order) up.0 s a is.slots there up.1,
        good_answer table w d up.0 s low up.2,
      ),
      cut_answered opening trace k table order o s a reply is now there on.0 at m d far.3 up cut,
    ))
    (λ (ne : v ≢ w).
    let was : IsCovered opening trace k (tables v) v order (sets v) = complete order o heard v l in
    let cut : IsCut trace k v order was.0 = was.4 in (
      was.0,
      was.1,
      subst (λ (cs : List Config). IsIn cs was.1) (sym (same v ne)) was.2,
      subst (λ (ts : List (Option Open)). KeepsUp opening ts v (take was.0 order) was.1) (sym (same_table v ne)) was.3,
      record {
        before = λ x c less h here. let r = cut.before x c less h here in (r.0, omega arith, r.2);
        behind = λ x c more h here. ⊎_elim
            (λ (still : IsUnanswered trace k c.id). inl (λ i told answer. ⊎_elim
            (λ (e : i ≡ k).
            let there : slice_get trace i ≡ Some (Answer a.call.id reply) = ap (λ (j : ℕ). slice_get trace j) e
            ∙ now in
            let id : a.call.id ≡ c.id = cc in
            let place = o.once on.0 x a.call c at h id in
            let other : slice_get order on.0 ≡ Some c = ap (λ (y : ℕ). slice_get order y) place ∙ h in
            let is : a.call ≡ c = cc in
            absurd (ne (sym here ∙ ap (λ (f : Call). f.operation.address) (sym is))))
            (λ (other : i ≢ k). let r = still i told answer in omega arith)
            (cases_eq i k)))
            (λ (idle : WasIdle trace k c). inr (idle_later trace k c idle))
            (cut.behind x c more h here);
      },
    ))
    (cases_eq v w)

-- the tables have more slots
pub complete_more : (opening : List ℕ) (trace : List Event) (k : ℕ) (tables later : ℕ → List (Option Open))
    (sets : ℕ → List Config) (w : ℕ) → later w ≡ tables w ++ None ∷ []
    → ((v : ℕ) → v ≢ w → later v ≡ tables v)
    → IsComplete opening trace k tables sets → IsComplete opening trace k later sets
complete_more opening trace k tables later sets w new same complete = λ order o heard v l.
    let was : IsCovered opening trace k (tables v) v order (sets v) = complete order o heard v l in
    let up : KeepsUp opening (tables v) v (take was.0 order) was.1 = was.3 in (
      was.0,
      was.1,
      was.2,
      (
        up.0,
        fits_widened opening tables later w new same v (take was.0 order) up.0 up.1,
        good_widened tables later w new same v was.1 up.0 up.2,
      ),
      was.4,
    )

-- configurations that are as good take the place of others
pub complete_as_good : (opening : List ℕ) (trace : List Event) (k : ℕ) (tables : ℕ → List (Option Open))
    (sets others : ℕ → List Config)
    → ((w : ℕ) → w < length opening → (d : Config) → IsIn (sets w) d → HasAsGood (tables w) w (others w) d)
    → IsComplete opening trace k tables sets → IsComplete opening trace k tables others
complete_as_good opening trace k tables sets others better complete = λ order o heard v l.
    let was : IsCovered opening trace k (tables v) v order (sets v) = complete order o heard v l in
    let up : KeepsUp opening (tables v) v (take was.0 order) was.1 = was.3 in
    let is = better v l was.1 was.2 in
    (was.0, is.0, is.1, (up.0, up.1, good_more (tables v) v is.0 was.1 up.0 is.2 up.2), was.4)

-- where a word has no configuration, no order explains the trace
pub complete_none : (opening : List ℕ) (trace : List Event) (k : ℕ) (tables : ℕ → List (Option Open))
    (sets : ℕ → List Config) (w : ℕ)
    → w < length opening
    → ((c : Config) → IsIn (sets w) c → ⊥) → IsComplete opening trace k tables sets
    → IsLinearizable opening trace → ⊥
complete_none opening trace k tables sets w inside none complete is =
    let spare = heard_order opening trace is.0 is.1 in
    let was = complete spare.0 spare.1 spare.2 w inside in
    none was.1 was.2

-- the next event issues a load that is never answered
pub complete_unanswered : (opening : List ℕ) (trace : List Event) (k : ℕ) (tables : ℕ → List (Option Open))
    (sets : ℕ → List Config) (call : Call) → TraceIssuesAt trace k call
    → IsComplete opening trace k tables sets → IsComplete opening trace (suc k) tables sets
complete_unanswered opening trace k tables sets call now complete = λ order o heard v l.
    let was = complete order o heard v l in
    let cut : IsCut trace k v order was.0 = was.4 in (
      was.0,
      was.1,
      was.2,
      was.3,
      record {
        before = λ x d m h here. let r = cut.before x d m h here in (r.0, omega arith, r.2);
        behind = λ x d m h here. ⊎_elim
            (λ (open_still : IsUnanswered trace k d.id). inl (λ i reply answer. ⊎_elim
            (λ (e : i ≡ k). absurd
            (let there : slice_get trace i ≡ Some (Issue call) = ap (λ (j : ℕ). slice_get trace j) e ∙ now in cc))
            (λ (ne : i ≢ k). let r = open_still i reply answer in omega arith)
            (cases_eq i k)))
            (λ (idle : WasIdle trace k d). inr (idle_later trace k d idle))
            (cut.behind x d m h here);
      },
    )
