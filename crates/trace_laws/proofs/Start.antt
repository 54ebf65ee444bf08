-- A search before the first event, and over each event.
use Rattle.std.proofs.Common.{◌≡◌, ◌≢◌, ℕ, zero, suc, ◌<◌, ◌≤◌, List, [], ◌∷◌, length, Option, Some, None, refl, sym, ◌∙◌, ap, subst, arith, slice_get, set}
use Rattle.std.proofs.Common.{map, get_or, inl, ⊎_elim, ◌++◌}
use Rattle.std.proofs.lemmas.Bool.{cases_eq}
use Rattle.std.specs.Int.{bit_at}
use Rattle.std.proofs.lemmas.Nat.Bits.{bit_at-zero}
use Rattle.packet.specs.declared.kinds.Reply.{Reply}
use Rattle.trace_laws.specs.declared.event.Event.{Event}
use Rattle.trace_laws.specs.declared.opened.Open.{Open}
use Rattle.trace_laws.specs.declared.opened.Config.{Config}
use Rattle.trace_laws.specs.declared.opened.Branch.{Branch}
use Rattle.trace_laws.specs.declared.opened.Node.{Node}
use Rattle.trace_laws.specs.Traces.{IsTrace, TraceIssuesAt, TraceAnswersAt}
use Rattle.trace_laws.specs.declared.event.Call.{Call}
use Rattle.trace_laws.specs.Unanswered.{IsUnansweredLoad}
use Rattle.trace_laws.specs.Configs.{IsIn, IsLeft, HasTakenEffect, HasAsGood, IsExpanded, release}
use Rattle.trace_laws.specs.Searches.{IsAt, IsPending, IsIndexTable, Fits, KeepsUp, IsSoundSearch, IsSearched, configs_of, first_branch, AreReleased}
use Rattle.trace_laws.proofs.Lists.{get_within}
use Rattle.trace_laws.proofs.Legal.{legal_none}
use Rattle.trace_laws.proofs.Issues.{one_issue}
use Rattle.trace_laws.proofs.Table.{table_issue, table_issue_other, table_answer, table_answer_other, table_more, table_unanswered}
use Rattle.trace_laws.proofs.Dominance.{good_same}
use Rattle.trace_laws.proofs.Fits.{fits_none}
use Rattle.trace_laws.proofs.Sound.{sound_issue, sound_more, sound_answer, sound_unanswered}
use Rattle.trace_laws.proofs.Complete.{complete_issue, complete_more, complete_answer, complete_unanswered}

-- what is in a mapped list
pub in_map : {A B : Type 0} (f : A → B) (xs : List A) (x : A) → IsIn xs x → IsIn (map f xs) (f x)
in_map f [] x h = absurd (let e : None ≡ Some x = h.1 in cc)
in_map f (y ∷ xs) x (zero, h) = (zero, (let e : y ≡ x = cc in ap (λ z. Some (f z)) e))
in_map f (y ∷ xs) x (suc k, h) = let r = in_map f xs x (k, h) in (suc r.0, r.1)

pub map_in : {A B : Type 0} (f : A → B) (xs : List A) (y : B) → IsIn (map f xs) y
    → (x : A) × IsIn xs x × (y ≡ f x)
map_in f [] y h = absurd (let e : None ≡ Some y = h.1 in cc)
map_in f (x ∷ xs) y (zero, h) = (x, (zero, refl), (let e : Some (f x) ≡ Some y = h in let d : f x ≡ y = cc in sym d))
map_in f (x ∷ xs) y (suc k, h) = let r = map_in f xs y (k, h) in (r.0, (suc r.1.0, r.1.1), r.2)

pub none_at : (s : ℕ) (o : Open) → IsAt [] s o → ⊥
none_at s o h = cc

one_in : (b c : Branch) → IsIn (b ∷ []) c → b ≡ c
one_in b c (zero, h) = cc
one_in b c (suc k, h) = cc

pub searched_none : (opening : List ℕ) (trace : List Event) (tables : ℕ → List (Option Open)) (sets : ℕ → List Branch)
    → ((w : ℕ) → w < length opening → tables w ≡ [])
    → ((w : ℕ) → w < length opening → sets w ≡ first_branch (get_or opening w 0) ∷ [])
    → IsSearched opening trace 0 tables sets []
searched_none opening trace tables sets empty start = record {
  tabled = λ w l. subst (λ (ts : List (Option Open)). IsIndexTable trace 0 w ts) (sym (empty w l)) (record {
    slots = omega arith;
    pending = λ s o h. absurd (none_at s o h);
    here = λ s o h. absurd (none_at s o h);
    distinct = λ s u o p h m same. absurd (none_at s o h);
    known = λ i call less h on asked. absurd (omega arith);
  });
  sound = record {
    back = λ i j n h e. absurd (let d : None ≡ Some n = h in cc);
    inside = λ w i b l in' e.
        let same = one_in (first_branch (get_or opening w 0)) b
        (subst (λ (bs : List Branch). IsIn bs b) (start w l) in') in
        let n : None ≡ Some i = ap (λ (c : Branch). c.trail) same ∙ e in
        cc;
    explained = λ pick trails marks picks. record {
      legal = legal_none opening trace;
      fits = λ w l.
          let same = one_in (first_branch (get_or opening w 0)) (pick w)
          (subst (λ (bs : List Branch). IsIn bs (pick w)) (start w l) (picks.picked w l)) in
          subst (λ (ts : List (Option Open)). Fits opening ts w [] (pick w).config) (sym (empty w l))
          (fits_none opening [] w (λ s o h. none_at s o h) (pick w).config
          (ap (λ (c : Branch). c.config.word) (sym same))
          (λ s. ap (λ (c : Branch). bit_at c.config.taken s) (sym same) ∙ bit_at-zero s));
    };
  };
  complete = λ order o heard w l. (
    0,
    (first_branch (get_or opening w 0)).config,
    subst (λ (bs : List Branch). IsIn (configs_of bs) (first_branch (get_or opening w 0)).config) (sym (start w l))
        (zero, refl),
    subst (λ (ts : List (Option Open)). KeepsUp opening ts w [] (first_branch (get_or opening w 0)).config) (sym (empty w l)) (
      (first_branch (get_or opening w 0)).config,
      fits_none opening [] w (λ s o h. none_at s o h) (first_branch (get_or opening w 0)).config refl (λ s. bit_at-zero s),
      good_same [] w (first_branch (get_or opening w 0)).config,
    ),
    record {
      before = λ x c less h here. absurd (omega arith);
      behind = λ x c less h here. inl (λ i reply answer. omega arith);
    },
  );
}

-- an operation that is issued with its promise is pending from then on
pub pending_now : (words : ℕ) (trace : List Event) (k : ℕ) (b : Open) → IsTrace words trace
    → TraceIssuesAt trace k b.call
    → ((i : ℕ) (reply : Reply) → suc k ≤ i → TraceAnswersAt trace i b.call.id reply → b.promise ≡ Some reply)
    → ((reply : Reply) → b.promise ≡ Some reply → (i : ℕ) × TraceAnswersAt trace i b.call.id reply)
    → IsPending trace (suc k) b
pending_now words trace k b t now kept honest =
    let late : (i : ℕ) (reply : Reply) → TraceAnswersAt trace i b.call.id reply → suc k ≤ i = λ i reply h.
    let r = t.issued i b.call.id reply h in
    let same = one_issue words trace t r.0 k r.1 b.call r.4 now r.3 in
    let l = r.2 in
    omega arith in
    record {
      at = k;
      early = omega arith;
      issue = now;
      unanswered = late;
      kept = λ i reply h. kept i reply (late i reply h) h;
      honest = honest;
    }

-- the table of another word stays
cases_word : {P : ℕ → Type 0} (w : ℕ) → P w → ((v : ℕ) → v ≢ w → P v) → (v : ℕ) → P v
cases_word {P} w here other v = ⊎_elim {C = P v} (λ (e : v ≡ w). subst P (sym e) here) (λ (ne : v ≢ w). other v ne) (cases_eq v w)

pub searched_issue : (opening : List ℕ) (trace : List Event) (k : ℕ) (tables later : ℕ → List (Option Open))
    (sets : ℕ → List Branch) (nodes : List Node) (s : ℕ) (b : Open)
    → IsTrace (length opening) trace → TraceIssuesAt trace k b.call
    → slice_get (tables b.call.operation.address) s ≡ Some None
    → IsPending trace (suc k) b
    → later b.call.operation.address ≡ set (tables b.call.operation.address) s (Some b)
    → ((v : ℕ) → v ≢ b.call.operation.address → later v ≡ tables v)
    → IsSearched opening trace k tables sets nodes
    → IsSearched opening trace (suc k) later sets nodes
searched_issue opening trace k tables later sets nodes s b t now free new written same is =
    let w : ℕ = b.call.operation.address in
    let inside : w < length opening = t.inside k b.call now in
    let l : s < 128 = let m = get_within (tables w) s None free in let n = (is.tabled w inside).slots in omega arith in
    record {
      tabled = λ v far. cases_word {P = λ u. u < length opening → IsIndexTable trace (suc k) u (later u)} w
          (λ there. subst (λ (ts : List (Option Open)). IsIndexTable trace (suc k) w ts) (sym written)
          (table_issue (length opening) trace k (tables w) s b t now free new (is.tabled w inside)))
          (λ u ne there. subst (λ (ts : List (Option Open)). IsIndexTable trace (suc k) u ts) (sym (same u ne))
          (table_issue_other trace k u (tables u) b.call now ne (is.tabled u there)))
          v far;
      sound = sound_issue opening trace k tables later sets nodes s b t now l free written same is.sound;
      complete = complete_issue opening trace k tables later (λ w. configs_of (sets w)) s b t now l free written same is.complete;
    }

-- the next event issues a load that is never answered, and nothing is kept of it
pub searched_unanswered : (opening : List ℕ) (trace : List Event) (k : ℕ) (tables : ℕ → List (Option Open))
    (sets : ℕ → List Branch) (nodes : List Node) (call : Call) → TraceIssuesAt trace k call
    → IsUnansweredLoad trace call → IsSearched opening trace k tables sets nodes
    → IsSearched opening trace (suc k) tables sets nodes
searched_unanswered opening trace k tables sets nodes call now lost is = record {
  tabled = λ v l. table_unanswered trace k v (tables v) call now lost (is.tabled v l);
  sound = sound_unanswered opening trace k tables sets nodes call now is.sound;
  complete = complete_unanswered opening trace k tables (λ w. configs_of (sets w)) call now is.complete;
}

-- a word's table has one more slot
pub searched_more : (opening : List ℕ) (trace : List Event) (k : ℕ) (tables later : ℕ → List (Option Open))
    (sets : ℕ → List Branch) (nodes : List Node) (w : ℕ) → length (tables w) < 128
    → later w ≡ tables w ++ None ∷ [] → ((v : ℕ) → v ≢ w → later v ≡ tables v)
    → IsSearched opening trace k tables sets nodes → IsSearched opening trace k later sets nodes
searched_more opening trace k tables later sets nodes w small written same is = record {
  tabled = λ v far. cases_word {P = λ u. u < length opening → IsIndexTable trace k u (later u)} w
      (λ there. subst (λ (ts : List (Option Open)). IsIndexTable trace k w ts) (sym written)
      (table_more trace k w (tables w) small (is.tabled w there)))
      (λ u ne there. subst (λ (ts : List (Option Open)). IsIndexTable trace k u ts) (sym (same u ne)) (is.tabled u there))
      v far;
  sound = sound_more opening trace k tables later sets nodes w written same is.sound;
  complete = complete_more opening trace k tables later (λ v. configs_of (sets v)) w written same is.complete;
}

-- The operation in slot s is answered: middle are the branches in which operations have taken effect, and later those in which this
-- one has.
pub searched_answer : (opening : List ℕ) (trace : List Event) (k : ℕ) (tables emptied : ℕ → List (Option Open))
    (sets middle later : ℕ → List Branch) (nodes more : List Node) (s : ℕ) (a : Open) (reply : Reply)
    → IsTrace (length opening) trace → TraceAnswersAt trace k a.call.id reply
    → a.call.operation.address < length opening → IsAt (tables a.call.operation.address) s a
    → emptied a.call.operation.address ≡ set (tables a.call.operation.address) s None
    → ((v : ℕ) → v ≢ a.call.operation.address → emptied v ≡ tables v)
    → ((c : Config) → IsIn (configs_of (sets a.call.operation.address)) c
    → HasAsGood (tables a.call.operation.address) a.call.operation.address (configs_of (middle a.call.operation.address)) c)
    → ((c : Config) → IsIn (configs_of (middle a.call.operation.address)) c → IsLeft c s
    → IsExpanded (tables a.call.operation.address) a.call.operation.address
    (configs_of (middle a.call.operation.address)) c)
    → AreReleased s (middle a.call.operation.address) (later a.call.operation.address)
    → ((c : Config) → IsIn (configs_of (middle a.call.operation.address)) c → HasTakenEffect c s → IsIn
    (configs_of (later a.call.operation.address)) (release c s))
    → ((v : ℕ) → v ≢ a.call.operation.address → middle v ≡ sets v)
    → ((v : ℕ) → v ≢ a.call.operation.address → later v ≡ sets v)
    → IsSearched opening trace k tables sets nodes → IsSoundSearch opening trace k tables middle more
    → IsSearched opening trace (suc k) emptied later more
searched_answer opening trace k tables emptied sets middle later nodes more s a reply t now inside there gone same
    kept closed from released middle_same later_same is sound =
    let w : ℕ = a.call.operation.address in
    let pending : IsPending trace k a = (is.tabled w inside).pending s a there in
    record {
      tabled = λ v far. cases_word {P = λ u. u < length opening → IsIndexTable trace (suc k) u (emptied u)} w
          (λ l. subst (λ (ts : List (Option Open)). IsIndexTable trace (suc k) w ts) (sym gone)
          (table_answer trace k w (tables w) s a reply now there (is.tabled w inside)))
          (λ u ne l. subst (λ (ts : List (Option Open)). IsIndexTable trace (suc k) u ts) (sym (same u ne))
          (table_answer_other (length opening) trace k u (tables u) a reply t now pending ne (is.tabled u l)))
          v far;
      sound = sound_answer opening trace k tables emptied middle later more s a reply t is.tabled now inside there gone same
          from (λ v ne. later_same v ne ∙ sym (middle_same v ne)) sound;
      complete = complete_answer opening trace k tables emptied (λ w. configs_of (sets w))
          (λ w. configs_of (later w)) s a reply t is.tabled now inside there gone same
          (configs_of (middle w)) kept closed released
          (λ v ne. ap configs_of (later_same v ne)) is.complete;
    }
