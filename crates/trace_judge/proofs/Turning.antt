-- A word's configurations that keep up with some order, over each event.
use Rattle.std.proofs.Common.{◌≡◌, ◌≢◌, inl, inr, ⊎_elim, ℕ, suc, ◌<◌, List, [], ◌∷◌, ◌++◌, length, Option, Some, None, sym, ◌∙◌, ap, subst}
use Rattle.std.proofs.Common.{arith, slice_get, set, take}
use Rattle.std.proofs.lemmas.Bool.{cases_eq}
use Rattle.packet.specs.declared.kinds.Reply.{Reply}
use Rattle.trace_laws.specs.declared.event.Call.{Call}
use Rattle.trace_laws.specs.declared.event.Event.{Event}
use Rattle.trace_laws.specs.declared.opened.Open.{Open}
use Rattle.trace_laws.specs.declared.opened.Config.{Config}
use Rattle.trace_laws.specs.Traces.{IsTrace, TraceIssuesAt, TraceAnswersAt, IsUnanswered}
use Rattle.trace_laws.specs.Orders.{IsOrder}
use Rattle.trace_laws.specs.Configs.{IsLeft, HasTakenEffect, IsIn, HasAsGood, release}
use Rattle.trace_laws.specs.Searches.{IsAt, IsPending, IsIndexTable, KeepsUp, WasIdle, IsCut, IsCovered}
use Rattle.trace_laws.proofs.Lists.{take_get}
use Rattle.trace_laws.proofs.Issues.{one_issue, one_call}
use Rattle.trace_laws.proofs.Table.{at_within}
use Rattle.trace_laws.proofs.Dominance.{good_more, good_issued, good_answer, good_widened}
use Rattle.trace_laws.proofs.Fits.{fits_issued, fits_answer, fits_widened}
use Rattle.trace_laws.proofs.Walking.{idle_later, cut_answered}
use Rattle.trace_judge.specs.Elders.{IsExpandedInTurn, IsKeptUp}
use Rattle.trace_judge.proofs.Following.{Arrives, walk_in_turn}

-- what is behind a cut stays so over an event that answers none of it
behind_later : (trace : List Event) (k : ℕ) (d : Call) → ((reply : Reply) → TraceAnswersAt trace k d.id reply → ⊥)
    → IsUnanswered trace k d.id → IsUnanswered trace (suc k) d.id
behind_later trace k d none still = λ i reply answer. ⊎_elim
    (λ (e : i ≡ k). absurd (none reply (subst (λ (j : ℕ). TraceAnswersAt trace j d.id reply) e answer)))
    (λ (ne : i ≢ k). let r = still i reply answer in omega arith)
    (cases_eq i k)

-- the cut stays over an event that issues an operation
cut_issued : (trace : List Event) (k w : ℕ) (order : List Call) (n : ℕ) (call : Call) → TraceIssuesAt trace k call
    → IsCut trace k w order n → IsCut trace (suc k) w order n
cut_issued trace k w order n call now cut = record {
  before = λ x d m h here. let r = cut.before x d m h here in (r.0, omega arith, r.2);
  behind = λ x d m h here. ⊎_elim
      (λ (still : IsUnanswered trace k d.id). inl (behind_later trace k d
      (λ reply answer. let issue : TraceIssuesAt trace k call = now in cc) still))
      (λ (idle : WasIdle trace k d). inr (idle_later trace k d idle))
      (cut.behind x d m h here);
}

pub kept_issue : (opening : List ℕ) (trace : List Event) (k : ℕ) (tables later : ℕ → List (Option Open))
    (configs : List Config) (s : ℕ) (b : Open)
    → IsTrace (length opening) trace
    → TraceIssuesAt trace k b.call → s < 128 → slice_get (tables b.call.operation.address) s ≡ Some None
    → later b.call.operation.address ≡ set (tables b.call.operation.address) s (Some b)
    → ((v : ℕ) → v ≢ b.call.operation.address → later v ≡ tables v)
    → (w : ℕ) → IsKeptUp opening trace k (tables w) w configs → IsKeptUp opening trace (suc k) (later w) w configs
kept_issue opening trace k tables later configs s b t now l free new same w kept =
    let order : List Call = kept.order in
    let o : IsOrder opening trace order = kept.explains in
    let was : IsCovered opening trace k (tables w) w order configs = kept.covered in
    let n = was.0 in
    let c : Config = was.1 in
    let up : KeepsUp opening (tables w) w (take n order) c = was.3 in
    let cut : IsCut trace k w order n = was.4 in
    record {
      order = order;
      explains = o;
      heard = kept.heard;
      covered = (
        n,
        c,
        was.2,
        (
          up.0,
          fits_issued opening tables later w (take n order) up.0 s b l free new same
              (λ here on.
              let d : Call = on.1 in
              let at = take_get n order on.0 d on.2 in
              let issue = o.issued on.0 d at.1 in
              let is = one_call (length opening) trace t issue.0 k d b.call issue.1 now on.3 in
              let early = cut.before on.0 d at.0 at.1 (ap (λ (f : Call). f.operation.address) is ∙ here) in
              let when = one_issue (length opening) trace t early.0 k d b.call early.2 now on.3 in
              let less = early.1 in
              omega arith)
              up.1,
          good_issued tables later w c up.0 s b free new same up.2,
        ),
        cut_issued trace k w order n b.call now cut,
      );
    }

pub kept_unanswered : (opening : List ℕ) (trace : List Event) (k : ℕ) (table : List (Option Open)) (w : ℕ)
    (configs : List Config) (call : Call) → TraceIssuesAt trace k call
    → IsKeptUp opening trace k table w configs → IsKeptUp opening trace (suc k) table w configs
kept_unanswered opening trace k table w configs call now kept = record {
  order = kept.order;
  explains = kept.explains;
  heard = kept.heard;
  covered =
      let was : IsCovered opening trace k table w kept.order configs = kept.covered in
      (was.0, was.1, was.2, was.3, cut_issued trace k w kept.order was.0 call now was.4);
}

pub kept_more : (opening : List ℕ) (trace : List Event) (k : ℕ) (tables later : ℕ → List (Option Open))
    (configs : List Config) (w : ℕ) → later w ≡ tables w ++ None ∷ []
    → ((v : ℕ) → v ≢ w → later v ≡ tables v)
    → (v : ℕ) → IsKeptUp opening trace k (tables v) v configs → IsKeptUp opening trace k (later v) v configs
kept_more opening trace k tables later configs w new same v kept =
    let order : List Call = kept.order in
    let was : IsCovered opening trace k (tables v) v order configs = kept.covered in
    let up : KeepsUp opening (tables v) v (take was.0 order) was.1 = was.3 in
    record {
      order = order;
      explains = kept.explains;
      heard = kept.heard;
      covered = (
        was.0,
        was.1,
        was.2,
        (
          up.0,
          fits_widened opening tables later w new same v (take was.0 order) up.0 up.1,
          good_widened tables later w new same v was.1 up.0 up.2,
        ),
        was.4,
      );
    }

-- the operation in slot s is answered
pub kept_answer : (opening : List ℕ) (trace : List Event) (k : ℕ) (table : List (Option Open)) (emptied : List (Option Open))
    (old configs later : List Config) (s : ℕ) (a : Open) (reply : Reply)
    → IsTrace (length opening) trace → IsIndexTable trace k a.call.operation.address table
    → TraceAnswersAt trace k a.call.id reply
    → a.call.operation.address < length opening → IsAt table s a
    → emptied ≡ set table s None
    → ((c : Config) → IsIn old c → HasAsGood table a.call.operation.address configs c)
    → ((c : Config) → IsIn configs c → IsLeft c s → IsExpandedInTurn table a.call.operation.address configs c)
    → ((c : Config) → IsIn configs c → HasTakenEffect c s → IsIn later (release c s))
    → IsKeptUp opening trace k table a.call.operation.address old
    → IsKeptUp opening trace (suc k) emptied a.call.operation.address later
kept_answer opening trace k table emptied old configs later s a reply t is now inside there gone kept closed released was =
    let w = a.call.operation.address in
    let order : List Call = was.order in
    let o : IsOrder opening trace order = was.explains in
    let covered : IsCovered opening trace k table w order old = was.covered in
    let p : IsPending trace k a = is.pending s a there in
    let low : s < 128 = at_within trace k w table s a is there in
    let on = o.answered k a.call.id reply now in
    let issue = o.issued on.0 on.1 on.2 in
    let at : slice_get order on.0 ≡ Some a.call =
    subst (λ (f : Call). slice_get order on.0 ≡ Some f)
    (one_call (length opening) trace t issue.0 p.at on.1 a.call issue.1 p.issue on.3) on.2 in
    let better : HasAsGood table w configs covered.1 = kept covered.1 covered.2 in
    let was_up : KeepsUp opening table w (take covered.0 order) covered.1 = covered.3 in
    let far : Arrives opening trace k table w s on.0 a.call configs =
    walk_in_turn opening trace k table t s a reply is now there inside on.0 configs closed
    (suc on.0) covered.0 order o was.heard at better.0 (omega arith) better.1
    (was_up.0, was_up.1, good_more table w better.0 covered.1 was_up.0 better.2 was_up.2) covered.4 in
    let up : KeepsUp opening table w (take far.place far.order) far.config = far.up in
    record {
      order = far.order;
      explains = far.explains;
      heard = far.heard;
      covered = (
        far.place,
        release far.config s,
        released far.config far.there far.taken,
        subst (λ (ts : List (Option Open)). KeepsUp opening ts w (take far.place far.order) (release far.config s)) (sym gone) (
          release up.0 s,
          fits_answer opening table w (take far.place far.order) up.0 s a is.slots there up.1,
          good_answer table w far.config up.0 s low up.2,
        ),
        cut_answered opening trace k table far.order far.explains s a reply is now there on.0 far.at far.place far.config far.taken
            up far.cut,
      );
    }

-- an operation on another word is answered
pub kept_elsewhere : (opening : List ℕ) (trace : List Event) (k : ℕ) (table : List (Option Open)) (v : ℕ)
    (configs : List Config) (a : Open) (reply : Reply) → IsTrace (length opening) trace → IsPending trace k a
    → TraceAnswersAt trace k a.call.id reply → v ≢ a.call.operation.address
    → IsKeptUp opening trace k table v configs → IsKeptUp opening trace (suc k) table v configs
kept_elsewhere opening trace k table v configs a reply t p now ne kept =
    let order : List Call = kept.order in
    let o : IsOrder opening trace order = kept.explains in
    let was : IsCovered opening trace k table v order configs = kept.covered in
    let cut : IsCut trace k v order was.0 = was.4 in
    record {
      order = order;
      explains = o;
      heard = kept.heard;
      covered = (
        was.0,
        was.1,
        was.2,
        was.3,
        record {
          before = λ x c less h here. let r = cut.before x c less h here in (r.0, omega arith, r.2);
          behind = λ x c more h here. ⊎_elim
              (λ (still : IsUnanswered trace k c.id). inl (behind_later trace k c
              (λ told answer.
              let there : TraceAnswersAt trace k a.call.id reply = now in
              let id : a.call.id ≡ c.id = cc in
              let issue = o.issued x c h in
              let same = one_call (length opening) trace t p.at issue.0 a.call c p.issue issue.1 id in
              ne (sym here ∙ ap (λ (f : Call). f.operation.address) (sym same))) still))
              (λ (idle : WasIdle trace k c). inr (idle_later trace k c idle))
              (cut.behind x c more h here);
        },
      );
    }
