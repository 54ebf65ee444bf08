-- What the judge knows before the first event, and over each event.
use Rattle.std.proofs.Common.{◌≡◌, ◌≢◌, ⊎_elim, ℕ, suc, ◌<◌, List, [], ◌∷◌, ◌++◌, length, Option, Some, None, sym, ◌∙◌, subst}
use Rattle.std.proofs.Common.{arith, slice_get, set, get_or}
use Rattle.std.proofs.lemmas.Bool.{cases_eq}
use Rattle.packet.specs.declared.kinds.Reply.{Reply}
use Rattle.trace_laws.specs.declared.event.Call.{Call}
use Rattle.trace_laws.specs.declared.event.Event.{Event}
use Rattle.trace_laws.specs.declared.opened.Open.{Open}
use Rattle.trace_laws.specs.declared.opened.Config.{Config}
use Rattle.trace_laws.specs.declared.opened.Branch.{Branch}
use Rattle.trace_laws.specs.declared.opened.Node.{Node}
use Rattle.trace_laws.specs.Traces.{IsTrace, TraceIssuesAt, TraceAnswersAt}
use Rattle.trace_laws.specs.Orders.{IsLinearizable}
use Rattle.trace_laws.specs.Unanswered.{IsUnansweredLoad}
use Rattle.trace_laws.specs.Configs.{IsLeft, HasTakenEffect, IsIn, HasAsGood, release}
use Rattle.trace_laws.specs.Searches.{IsAt, IsPending, IsIndexTable, IsSoundSearch, configs_of, first_branch, AreReleased}
use Rattle.trace_laws.proofs.Lists.{get_within}
use Rattle.trace_laws.proofs.Unanswered.{heard_order}
use Rattle.trace_laws.proofs.Table.{table_issue, table_issue_other, table_answer, table_answer_other, table_more, table_unanswered}
use Rattle.trace_laws.proofs.Sound.{sound_issue, sound_more, sound_answer, sound_unanswered}
use Rattle.trace_laws.proofs.Start.{searched_none}
use Rattle.trace_judge.specs.Elders.{IsExpandedInTurn, IsKeptUp, KeepsSome, IsSearchedInTurn}
use Rattle.trace_judge.proofs.Turning.{kept_issue, kept_unanswered, kept_more, kept_answer, kept_elsewhere}

-- where a word has no configuration, no order explains the trace
pub keeps_none : (opening : List ℕ) (trace : List Event) (k : ℕ) (tables : ℕ → List (Option Open))
    (sets : ℕ → List Config) (w : ℕ) → w < length opening
    → ((c : Config) → IsIn (sets w) c → ⊥) → KeepsSome opening trace k tables sets
    → IsLinearizable opening trace → ⊥
keeps_none opening trace k tables sets w inside none complete is =
    let was = (complete is w inside).covered in
    none was.1 was.2

pub turn_none : (opening : List ℕ) (trace : List Event) (tables : ℕ → List (Option Open)) (sets : ℕ → List Branch)
    → ((w : ℕ) → w < length opening → tables w ≡ [])
    → ((w : ℕ) → w < length opening → sets w ≡ first_branch (get_or opening w 0) ∷ [])
    → IsSearchedInTurn opening trace 0 tables sets []
turn_none opening trace tables sets empty start =
    let is = searched_none opening trace tables sets empty start in
    record {
      tabled = is.tabled;
      sound = is.sound;
      complete = λ lin w l.
          let spare = heard_order opening trace lin.0 lin.1 in
          record { order = spare.0; explains = spare.1; heard = spare.2; covered = is.complete spare.0 spare.1 spare.2 w l };
    }

-- the table of another word stays
each_word : {P : ℕ → Type 0} (w : ℕ) → P w → ((v : ℕ) → v ≢ w → P v) → (v : ℕ) → P v
each_word {P} w here other v = ⊎_elim {C = P v} (λ (e : v ≡ w). subst P (sym e) here) (λ (ne : v ≢ w). other v ne) (cases_eq v w)

pub turn_issue : (opening : List ℕ) (trace : List Event) (k : ℕ) (tables later : ℕ → List (Option Open))
    (sets : ℕ → List Branch) (nodes : List Node) (s : ℕ) (b : Open)
    → IsTrace (length opening) trace → TraceIssuesAt trace k b.call
    → slice_get (tables b.call.operation.address) s ≡ Some None
    → IsPending trace (suc k) b
    → later b.call.operation.address ≡ set (tables b.call.operation.address) s (Some b)
    → ((v : ℕ) → v ≢ b.call.operation.address → later v ≡ tables v)
    → IsSearchedInTurn opening trace k tables sets nodes
    → IsSearchedInTurn opening trace (suc k) later sets nodes
turn_issue opening trace k tables later sets nodes s b t now free new written same is =
    let w : ℕ = b.call.operation.address in
    let inside : w < length opening = t.inside k b.call now in
    let l : s < 128 = let m = get_within (tables w) s None free in let n = (is.tabled w inside).slots in omega arith in
    record {
      tabled = λ v far. each_word {P = λ u. u < length opening → IsIndexTable trace (suc k) u (later u)} w
          (λ there. subst (λ (ts : List (Option Open)). IsIndexTable trace (suc k) w ts) (sym written)
          (table_issue (length opening) trace k (tables w) s b t now free new (is.tabled w inside)))
          (λ u ne there. subst (λ (ts : List (Option Open)). IsIndexTable trace (suc k) u ts) (sym (same u ne))
          (table_issue_other trace k u (tables u) b.call now ne (is.tabled u there)))
          v far;
      sound = sound_issue opening trace k tables later sets nodes s b t now l free written same is.sound;
      complete = λ lin v far. kept_issue opening trace k tables later (configs_of (sets v)) s b t now l free written same v
          (is.complete lin v far);
    }

-- the next event issues a load that is never answered, and nothing is kept of it
pub turn_unanswered : (opening : List ℕ) (trace : List Event) (k : ℕ) (tables : ℕ → List (Option Open))
    (sets : ℕ → List Branch) (nodes : List Node) (call : Call) → TraceIssuesAt trace k call
    → IsUnansweredLoad trace call → IsSearchedInTurn opening trace k tables sets nodes
    → IsSearchedInTurn opening trace (suc k) tables sets nodes
turn_unanswered opening trace k tables sets nodes call now lost is = record {
  tabled = λ v l. table_unanswered trace k v (tables v) call now lost (is.tabled v l);
  sound = sound_unanswered opening trace k tables sets nodes call now is.sound;
  complete = λ lin v l. kept_unanswered opening trace k (tables v) v (configs_of (sets v)) call now (is.complete lin v l);
}

-- a word's table has one more slot
pub turn_more : (opening : List ℕ) (trace : List Event) (k : ℕ) (tables later : ℕ → List (Option Open))
    (sets : ℕ → List Branch) (nodes : List Node) (w : ℕ) → length (tables w) < 128
    → later w ≡ tables w ++ None ∷ [] → ((v : ℕ) → v ≢ w → later v ≡ tables v)
    → IsSearchedInTurn opening trace k tables sets nodes → IsSearchedInTurn opening trace k later sets nodes
turn_more opening trace k tables later sets nodes w small written same is = record {
  tabled = λ v far. each_word {P = λ u. u < length opening → IsIndexTable trace k u (later u)} w
      (λ there. subst (λ (ts : List (Option Open)). IsIndexTable trace k w ts) (sym written)
      (table_more trace k w (tables w) small (is.tabled w there)))
      (λ u ne there. subst (λ (ts : List (Option Open)). IsIndexTable trace k u ts) (sym (same u ne)) (is.tabled u there))
      v far;
  sound = sound_more opening trace k tables later sets nodes w written same is.sound;
  complete = λ lin v l. kept_more opening trace k tables later (configs_of (sets v)) w written same v (is.complete lin v l);
}

-- The operation in slot s is answered: middle are the branches in which operations have taken effect, and later those in which this
-- one has.
pub turn_answer : (opening : List ℕ) (trace : List Event) (k : ℕ) (tables emptied : ℕ → List (Option Open))
    (sets middle later : ℕ → List Branch) (nodes more : List Node) (s : ℕ) (a : Open) (reply : Reply)
    → IsTrace (length opening) trace → TraceAnswersAt trace k a.call.id reply
    → a.call.operation.address < length opening → IsAt (tables a.call.operation.address) s a
    → emptied a.call.operation.address ≡ set (tables a.call.operation.address) s None
    → ((v : ℕ) → v ≢ a.call.operation.address → emptied v ≡ tables v)
    → ((c : Config) → IsIn (configs_of (sets a.call.operation.address)) c
    → HasAsGood (tables a.call.operation.address) a.call.operation.address (configs_of (middle a.call.operation.address)) c)
    → ((c : Config) → IsIn (configs_of (middle a.call.operation.address)) c → IsLeft c s
    → IsExpandedInTurn (tables a.call.operation.address) a.call.operation.address
    (configs_of (middle a.call.operation.address)) c)
    → AreReleased s (middle a.call.operation.address) (later a.call.operation.address)
    → ((c : Config) → IsIn (configs_of (middle a.call.operation.address)) c → HasTakenEffect c s → IsIn
    (configs_of (later a.call.operation.address)) (release c s))
    → ((v : ℕ) → v ≢ a.call.operation.address → middle v ≡ sets v)
    → ((v : ℕ) → v ≢ a.call.operation.address → later v ≡ sets v)
    → IsSearchedInTurn opening trace k tables sets nodes → IsSoundSearch opening trace k tables middle more
    → IsSearchedInTurn opening trace (suc k) emptied later more
turn_answer opening trace k tables emptied sets middle later nodes more s a reply t now inside there gone same
    kept closed from released middle_same later_same is sound =
    let w : ℕ = a.call.operation.address in
    let pending : IsPending trace k a = (is.tabled w inside).pending s a there in
    record {
      tabled = λ v far. each_word {P = λ u. u < length opening → IsIndexTable trace (suc k) u (emptied u)} w
          (λ l. subst (λ (ts : List (Option Open)). IsIndexTable trace (suc k) w ts) (sym gone)
          (table_answer trace k w (tables w) s a reply now there (is.tabled w inside)))
          (λ u ne l. subst (λ (ts : List (Option Open)). IsIndexTable trace (suc k) u ts) (sym (same u ne))
          (table_answer_other (length opening) trace k u (tables u) a reply t now pending ne (is.tabled u l)))
          v far;
      sound = sound_answer opening trace k tables emptied middle later more s a reply t is.tabled now inside there gone same
          from (λ v ne. later_same v ne ∙ sym (middle_same v ne)) sound;
      complete = λ lin v far. each_word
          {P = λ u. u < length opening → IsKeptUp opening trace (suc k) (emptied u) u (configs_of (later u))} w
          (λ l. kept_answer opening trace k (tables w) (emptied w) (configs_of (sets w)) (configs_of (middle w)) (configs_of (later w))
          s a reply t (is.tabled w inside) now inside there gone kept closed released (is.complete lin w l))
          (λ u ne l.
          subst (λ (ts : List (Option Open)). IsKeptUp opening trace (suc k) ts u (configs_of (later u))) (sym (same u ne))
          (subst (λ (bs : List Branch). IsKeptUp opening trace (suc k) (tables u) u (configs_of bs)) (sym (later_same u ne))
          (kept_elsewhere opening trace k (tables u) u (configs_of (sets u)) a reply t pending now ne (is.complete lin u l))))
          v far;
    }
