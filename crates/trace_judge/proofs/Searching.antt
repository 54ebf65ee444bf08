-- What the judge holds, over one event.
use Rattle.std.proofs.Common.{◌≡◌, ◌≢◌, ⊎_elim, ℕ, zero, suc, ◌+◌, ◌<◌, ◌≤◌, List, [], ◌∷◌, ◌++◌, length, Option, Some, None, Vec}
use Rattle.std.proofs.Common.{MatchOption, refl, sym, ◌∙◌, ap, subst, arith, slice_get, set, map, get_or, replicate, add-one, get_or-set_same}
use Rattle.std.proofs.Common.{get_or-set_other, length-set}
use Rattle.std.proofs.lemmas.Bool.{cases_eq}
use Rattle.std.proofs.lemmas.List.{map-set, length-map, length-replicate, get_or-map, length_push}
use Rattle.std.proofs.Common.{◌-◌, length-append, append-nil, append_assoc}
use Rattle.packet.specs.declared.kinds.Op.TheVariants.{Load}
use Rattle.packet.specs.declared.kinds.Reply.{Reply}
use Rattle.trace_laws.specs.declared.event.Call.{Call}
use Rattle.trace_laws.specs.declared.event.Event.{Event}
use Rattle.trace_laws.specs.declared.opened.Open.{Open}
use Rattle.trace_laws.specs.declared.opened.Branch.{Branch}
use Rattle.trace_laws.specs.declared.opened.Node.{Node}
use Rattle.trace_laws.specs.Traces.{IsTrace, TraceIssuesAt, TraceAnswersAt, IsAnswered}
use Rattle.trace_laws.proofs.Issues.{one_issue}
use Rattle.trace_laws.specs.Configs.{IsIn}
use Rattle.trace_laws.specs.Searches.{IsAt, IsPending, IsIndexTable, Fits, first_branch, configs_of, order_of}
use Rattle.trace_laws.specs.Unanswered.{IsUnansweredLoad}
use Rattle.trace_laws.proofs.Start.{none_at, pending_now}
use Rattle.trace_laws.proofs.Trails.{put, put_same, put_other}
use Rattle.trace_laws.proofs.Lists.{get_push}
use Rattle.trace_judge.specs.declared.search.Search.{Search}
use Rattle.trace_judge.specs.declared.index.Index.{Index}
use Rattle.trace_judge.specs.Sets.{lists_of}
use Rattle.trace_judge.specs.Searched.{HasSearched}
use Rattle.trace_judge.specs.Slots.{IsPut, IsBegunSlot, IsFirstSlot, IsParted}
use Rattle.trace_judge.specs.Stops.{IsBeginning}
use Rattle.trace_judge.specs.Elders.{IsKeptUp, IsSearchedInTurn}
use Rattle.trace_judge.proofs.Parting.{begun_first, first_low, parted_put}
use Rattle.trace_judge.proofs.Turns.{turn_none, turn_issue, turn_more, turn_unanswered}

pub holds_start : {A : Type 0} (opening : List ℕ) (trace whole : List Event) (tables : Vec (Vec (Option Open) A) A)
    (words : Vec (Vec Branch A) A) (nodes : Vec Node A) (index : Index A) (most found : ℕ) (stuck : Option ℕ)
    → length tables.items ≡ length opening → ((w : ℕ) → lists_of tables.items w ≡ [])
    → length words.items ≡ length opening
    → ((w : ℕ) → w < length opening → lists_of words.items w ≡ first_branch (get_or opening w 0) ∷ [])
    → nodes.items ≡ []
    → HasSearched {A = A} opening trace whole 0 (record { tables = tables; words = words; nodes = nodes; index = index; most = most; found = found; stuck = stuck })
holds_start {A} opening trace whole tables words nodes index most found stuck tabled empty sized first none = record {
  sized = sized;
  tabled = tabled;
  searched =
      subst (λ (ns : List Node). IsSearchedInTurn opening trace 0 (lists_of tables.items) (lists_of words.items) ns) (sym none)
      (turn_none opening trace (lists_of tables.items) (lists_of words.items) (λ w l. empty w) first);
  filled = λ w l. (
    first_branch (get_or opening w 0),
    subst
        (λ (bs : List Branch). IsIn bs (first_branch (get_or opening w 0))) (sym (first w l)) (zero, refl),
  );
  parted = λ w t o h. absurd (none_at t o (subst (λ (ts : List (Option Open)). IsAt ts t o) (empty w) h));
}

-- one word's list is another
pub set_same : {X A : Type 0} (words : List (Vec X A)) (w : ℕ) (v : Vec X A) → w < length words
    → lists_of (set words w v) w ≡ v.items
set_same {X} {A} words w v l =
    let f : Vec X A → List X = λ u. u.items in
    let e : map f (set words w v) ≡ set (map f words) w v.items = map-set f words w v in
    let m : w < length (map f words) = let n = length-map words f in omega arith in
    ap (λ (bs : List (List X)). get_or bs w []) e ∙ get_or-set_same (map f words) w v.items [] m

pub set_other : {X A : Type 0} (words : List (Vec X A)) (w : ℕ) (v : Vec X A) (u : ℕ) → u ≢ w
    → lists_of (set words w v) u ≡ lists_of words u
set_other {X} {A} words w v u ne =
    let f : Vec X A → List X = λ x. x.items in
    ap (λ (bs : List (List X)). get_or bs u []) (map-set f words w v) ∙ get_or-set_other
    (map f words) w u v.items [] ne

-- the promise is what the trace will answer
promised : (words : ℕ) (trace : List Event) (k : ℕ) (call : Call) (promise : Option Reply) → IsTrace words trace
    → TraceIssuesAt trace k call
    → MatchOption promise ((i : ℕ) (reply : Reply) → k + 1 ≤ i → TraceAnswersAt trace i call.id reply → ⊥)
    (λ reply. (i : ℕ) × (k + 1 ≤ i) × TraceAnswersAt trace i call.id reply)
    → IsPending trace (suc k) (record { call = call; promise = promise })
promised words trace k call None t now tells = pending_now words trace k
    (record { call = call; promise = None }) t now
    (λ i reply l h. absurd (tells i reply (omega arith) h))
    (λ reply e. absurd (let n : None ≡ Some reply = e in cc))
promised words trace k call (Some told) t now tells = pending_now words trace k
    (record { call = call; promise = Some told }) t now
    (λ i reply l h.
    let same = t.once tells.0 i call.id told reply tells.2 h in
    let there : TraceAnswersAt trace tells.0 call.id reply = subst (λ (j : ℕ). TraceAnswersAt trace j call.id reply)
    (sym same) h in
    let here : TraceAnswersAt trace tells.0 call.id told = tells.2 in
    cc)
    (λ reply e. (
      tells.0,
      let same : told ≡ reply = cc in subst
          (λ (r : Reply). TraceAnswersAt trace tells.0 call.id r) same tells.2,
    ))

-- what IsSearchedInTurn says of tables, by another name of the tables
searched_as : (opening : List ℕ) (trace : List Event) (k : ℕ) (tables others : ℕ → List (Option Open))
    (sets : ℕ → List Branch) (nodes : List Node) → ((v : ℕ) → others v ≡ tables v)
    → IsSearchedInTurn opening trace k tables sets nodes → IsSearchedInTurn opening trace k others sets nodes
searched_as opening trace k tables others sets nodes same is = record {
  tabled = λ v l. subst (λ (ts : List (Option Open)). IsIndexTable trace k v ts) (sym (same v)) (is.tabled v l);
  sound = record {
    back = is.sound.back;
    inside = is.sound.inside;
    explained = λ pick trails marks picks.
        let x = is.sound.explained pick trails marks picks in
        record {
          legal = x.legal;
          fits = λ v l. subst (λ (ts : List (Option Open)). Fits opening ts v (order_of nodes marks) (pick v).config)
              (sym (same v)) (x.fits v l);
        };
  };
  complete = λ lin v l.
      subst (λ (ts : List (Option Open)). IsKeptUp opening trace k ts v (configs_of (sets v))) (sym (same v))
      (is.complete lin v l);
}

-- a new slot at the end
set_last : (xs : List (Option Open)) (x y : Option Open) → set (xs ++ x ∷ []) (length xs) y ≡ xs ++ y ∷ []
set_last [] x y = refl
set_last (z ∷ xs) x y = ap (λ (ys : List (Option Open)). z ∷ ys) (set_last xs x y)

-- a word's list, as the code reads it
pub read_set : {X A : Type 0} (words : List (Vec X A)) (w : ℕ) (v : Vec X A) → w < length words
    → v ≡ get_or words w v → v.items ≡ lists_of words w
read_set {X} {A} words w v l e =
    let f : Vec X A → List X = λ u. u.items in
    ap f e ∙ sym (get_or-map f words w v [] l)

-- a word's table has more slots
searched_pads : (n : ℕ) (opening : List ℕ) (trace : List Event) (k : ℕ) (tables later : ℕ → List (Option Open))
    (sets : ℕ → List Branch) (nodes : List Node) (w : ℕ) → length (tables w) + n ≤ 128
    → later w ≡ tables w ++ replicate n None → ((v : ℕ) → v ≢ w → later v ≡ tables v)
    → IsSearchedInTurn opening trace k tables sets nodes → IsSearchedInTurn opening trace k later sets nodes
searched_pads zero opening trace k tables later sets nodes w few written same is =
    searched_as opening trace k tables later sets nodes
    (λ v. ⊎_elim {C = later v ≡ tables v}
    (λ (e : v ≡ w). ap later e ∙ (written ∙ (append-nil (tables w) ∙ ap tables (sym e))))
    (λ (ne : v ≢ w). same v ne)
    (cases_eq v w)) is
searched_pads (suc n) opening trace k tables later sets nodes w few written same is =
    let old : List (Option Open) = tables w in
    let middle : ℕ → List (Option Open) = put tables w (old ++ None ∷ []) in
    let here : middle w ≡ old ++ None ∷ [] = put_same tables w (old ++ None ∷ []) w refl in
    let there : (v : ℕ) → v ≢ w → middle v ≡ tables v = λ v ne. put_other tables w (old ++ None ∷ []) v ne in
    let long : length (middle w) ≡ length old + 1 = ap (λ (ts : List (Option Open)). length ts) here ∙ length_push old None in
    searched_pads n opening trace k middle later sets nodes w (omega arith)
    (written ∙ (sym (append_assoc old (None ∷ []) (replicate n None))
    ∙ ap (λ (ts : List (Option Open)). ts ++ replicate n None) (sym here)))
    (λ v ne. same v ne ∙ sym (there v ne))
    (turn_more opening trace k tables middle sets nodes w (omega arith) here there is)

-- an operation takes a slot
searched_put : (opening : List ℕ) (trace : List Event) (k first : ℕ) (tables later : ℕ → List (Option Open))
    (sets : ℕ → List Branch) (nodes : List Node) (o : Open)
    → IsTrace (length opening) trace → TraceIssuesAt trace k o.call → IsPending trace (suc k) o → first ≤ 64
    → IsPut (tables o.call.operation.address) first o (later o.call.operation.address)
    → ((v : ℕ) → v ≢ o.call.operation.address → later v ≡ tables v)
    → IsSearchedInTurn opening trace k tables sets nodes → IsSearchedInTurn opening trace (suc k) later sets nodes
searched_put opening trace k first tables later sets nodes o t now new low put_in same is =
    let w : ℕ = o.call.operation.address in
    let old : List (Option Open) = tables w in
    let pads : List (Option Open) = replicate (first - length old) None in
    let longer : List (Option Open) = old ++ pads in
    let middle : ℕ → List (Option Open) = put tables w longer in
    let last : ℕ → List (Option Open) = put tables w (longer ++ None ∷ []) in
    let mid : middle w ≡ longer = put_same tables w longer w refl in
    let here : last w ≡ longer ++ None ∷ [] = put_same tables w (longer ++ None ∷ []) w refl in
    let mid_other : (v : ℕ) → v ≢ w → middle v ≡ tables v = λ v ne. put_other tables w longer v ne in
    let last_other : (v : ℕ) → v ≢ w → last v ≡ tables v = λ v ne. put_other tables w (longer ++ None ∷ []) v ne in
    let long : length longer ≡ length old + (first - length old) =
    length-append old pads ∙ ap (λ (n : ℕ). length old + n) (length-replicate (first - length old) None) in
    ⊎_elim {C = IsSearchedInTurn opening trace (suc k) later sets nodes}
    (λ (r : (s : ℕ) × (first ≤ s) × (s < first + 64) × (slice_get old s ≡ Some None) × (later w ≡ set old s (Some o))).
    turn_issue opening trace k tables later sets nodes r.0 o t now r.3 new r.4 same is)
    (λ (r : (length old < first + 64) × (later w ≡ longer ++ Some o ∷ [])).
    let few = r.0 in
    let mid_long : length (middle w) ≡ length longer = ap (λ (ts : List (Option Open)). length ts) mid in
    turn_issue opening trace k last later sets nodes (length longer) o t now
    (ap (λ (ts : List (Option Open)). slice_get ts (length longer)) here ∙ get_push longer None) new
    (r.1 ∙ (sym (set_last longer None (Some o))
    ∙ ap (λ (ts : List (Option Open)). set ts (length longer) (Some o)) (sym here)))
    (λ v ne. same v ne ∙ sym (last_other v ne))
    (turn_more opening trace k middle last sets nodes w (omega arith)
    (here ∙ ap (λ (ts : List (Option Open)). ts ++ None ∷ []) (sym mid))
    (λ v ne. last_other v ne ∙ sym (mid_other v ne))
    (searched_pads (first - length old) opening trace k tables middle sets nodes w (omega arith) mid mid_other is)))
    put_in

pub holds_issue : {A : Type 0} (opening : List ℕ) (trace whole : List Event) (k : ℕ) (s : Search A)
    (tables : Vec (Vec (Option Open) A) A) (old table : Vec (Option Open) A) (first : ℕ) (call : Call) (promise : Option Reply)
    → old ≡ get_or s.tables.items call.operation.address old
    → tables.items ≡ set s.tables.items call.operation.address table
    → IsTrace (length opening) trace → TraceIssuesAt trace k call
    → IsBeginning trace whole → IsBegunSlot whole (length trace) call.id promise first
    → IsPut old.items first (record { call = call; promise = promise }) table.items
    → MatchOption promise ((i : ℕ) (reply : Reply) → k + 1 ≤ i → TraceAnswersAt trace i call.id reply → ⊥)
    (λ reply. (i : ℕ) × (k + 1 ≤ i) × TraceAnswersAt trace i call.id reply)
    → HasSearched {A = A} opening trace whole k s
    → HasSearched {A = A} opening trace whole (k + 1)
    (record { tables = tables; words = s.words; nodes = s.nodes; index = s.index; most = s.most; found = s.found; stuck = s.stuck })
holds_issue {A} opening trace whole k s tables old table first call promise seen written t now is begun put_in tells holds =
    let w : ℕ = call.operation.address in
    let o : Open = record { call = call; promise = promise } in
    let inside : w < length s.tables.items = let l = t.inside k call now in let e = holds.tabled in omega arith in
    let here : lists_of tables.items w ≡ table.items = ap (λ (vs : List (Vec (Option Open) A)). lists_of vs w) written
    ∙ set_same s.tables.items w table inside in
    let was : old.items ≡ lists_of s.tables.items w = read_set s.tables.items w old inside seen in
    let begins : IsFirstSlot whole call.id first = begun_first (length opening) trace whole k call promise first t is now tells begun in
    let placed : IsPut (lists_of s.tables.items w) first o (lists_of tables.items w) =
    subst (λ (ts : List (Option Open)). IsPut ts first o (lists_of tables.items w)) was
    (subst (λ (ts : List (Option Open)). IsPut old.items first o ts) (sym here) put_in) in
    let others : (v : ℕ) → v ≢ w → lists_of tables.items v ≡ lists_of s.tables.items v =
    λ v ne. ap (λ (vs : List (Vec (Option Open) A)). lists_of vs v) written ∙ set_other s.tables.items w table v ne in
    record {
      sized = holds.sized;
      tabled = ap (λ (vs : List (Vec (Option Open) A)). length vs) written
          ∙ (length-set s.tables.items w table ∙ holds.tabled);
      searched =
          subst (λ (n : ℕ). IsSearchedInTurn opening trace n (lists_of tables.items) (lists_of s.words.items) s.nodes.items)
          (sym (add-one k))
          (searched_put opening trace k first (lists_of s.tables.items) (lists_of tables.items) (lists_of s.words.items)
          s.nodes.items o t now (promised (length opening) trace k call promise t now tells)
          (first_low whole call.id first begins) placed others holds.searched);
      filled = holds.filled;
      parted = λ v t p h. ⊎_elim {C = IsParted whole t p.call.id}
          (λ (e : v ≡ w). parted_put whole (lists_of s.tables.items w) (lists_of tables.items w) first o begins placed
          (holds.parted w) t p (subst (λ (u : ℕ). IsAt (lists_of tables.items u) t p) e h))
          (λ (ne : v ≢ w). holds.parted v t p (subst (λ (ts : List (Option Open)). IsAt ts t p) (others v ne) h))
          (cases_eq v w);
    }

-- what is not answered behind its issue never is
pub never_answered : (words : ℕ) (trace : List Event) (k : ℕ) (call : Call) (promise : Option Reply) → IsTrace words trace
    → TraceIssuesAt trace k call → promise ≡ None
    → MatchOption promise ((i : ℕ) (reply : Reply) → k + 1 ≤ i → TraceAnswersAt trace i call.id reply → ⊥)
    (λ reply. (i : ℕ) × (k + 1 ≤ i) × TraceAnswersAt trace i call.id reply)
    → IsAnswered trace call.id → ⊥
never_answered words trace k call promise t now none tells answer =
    let late : (j : ℕ) (s : Reply) → k + 1 ≤ j → TraceAnswersAt trace j call.id s → ⊥ =
    subst (λ (p : Option Reply). MatchOption p ((j : ℕ) (s : Reply) → k + 1 ≤ j → TraceAnswersAt trace j call.id s → ⊥)
    (λ s. (j : ℕ) × (k + 1 ≤ j) × TraceAnswersAt trace j call.id s)) none tells in
    let issue = t.issued answer.0 call.id answer.1 answer.2 in
    let same = one_issue words trace t issue.0 k issue.1 call issue.4 now issue.3 in
    let before = issue.2 in
    late answer.0 answer.1 (omega arith) answer.2

-- a load that is never answered is issued
pub holds_unanswered : {A : Type 0} (opening : List ℕ) (trace whole : List Event) (k : ℕ) (s : Search A) (call : Call)
    (promise : Option Reply) → IsTrace (length opening) trace → TraceIssuesAt trace k call
    → call.operation.op ≡ Load → promise ≡ None
    → MatchOption promise ((i : ℕ) (reply : Reply) → k + 1 ≤ i → TraceAnswersAt trace i call.id reply → ⊥)
    (λ reply. (i : ℕ) × (k + 1 ≤ i) × TraceAnswersAt trace i call.id reply)
    → HasSearched {A = A} opening trace whole k s → HasSearched {A = A} opening trace whole (k + 1) s
holds_unanswered {A} opening trace whole k s call promise t now load none tells holds =
    let lost : IsUnansweredLoad trace call =
    record { load = load; never = never_answered (length opening) trace k call promise t now none tells } in
    record {
      sized = holds.sized;
      tabled = holds.tabled;
      searched =
          subst (λ (n : ℕ). IsSearchedInTurn opening trace n (lists_of s.tables.items) (lists_of s.words.items) s.nodes.items)
          (sym (add-one k))
          (turn_unanswered opening trace k (lists_of s.tables.items) (lists_of s.words.items) s.nodes.items call now lost
          holds.searched);
      filled = holds.filled;
      parted = holds.parted;
    }
