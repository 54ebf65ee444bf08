-- Soundness: whatever branches are picked, one for each word, the order of the nodes on their trails explains the trace so far.
use Rattle.std.proofs.Common.{◌≡◌, ◌≢◌, ◌⊎◌, ⊎_elim, ℕ, suc, ◌<◌, ◌≤◌, Bool, true, false, cond, List, [], ◌∷◌, ◌++◌, length, Option, Some, None}
use Rattle.std.proofs.Common.{refl, sym, ◌∙◌, ap, subst, arith, slice_get, set, get_or, append-nil}
use Rattle.std.proofs.lemmas.Bool.{cases_eq}
use Rattle.packet.specs.declared.kinds.Reply.{Reply}
use Rattle.packet.specs.Memory.{reply_to}
use Rattle.trace_laws.specs.declared.event.Call.{Call}
use Rattle.trace_laws.specs.declared.event.Event.{Event}
use Rattle.trace_laws.specs.declared.opened.Open.{Open}
use Rattle.trace_laws.specs.declared.opened.Branch.{Branch}
use Rattle.trace_laws.specs.declared.opened.Node.{Node}
use Rattle.trace_laws.specs.Traces.{IsTrace, TraceIssuesAt, TraceAnswersAt}
use Rattle.trace_laws.specs.Orders.{IsOrder, memory_of}
use Rattle.trace_laws.specs.Configs.{MayTake, IsIn, release}
use Rattle.trace_laws.specs.Searches.{IsAt, AreTables, IsPending, Fits, order_of, IsTrail, Picks, IsExplained, IsSoundSearch, AreReleased}
use Rattle.trace_laws.proofs.Lists.{get_push_cases}
use Rattle.trace_laws.proofs.Legal.{legal_all, legal_issue, legal_answer, legal_effect}
use Rattle.trace_laws.proofs.Issues.{one_issue}
use Rattle.trace_laws.proofs.Fits.{fits_effect, fits_other, fits_issued, fits_answer, fits_widened}
use Rattle.trace_laws.proofs.Trails.{put, put_same, put_other, told, order_push, split_last}
use Rattle.trace_laws.proofs.Picking.{grown, node_of, length-node_push, picks_old, picks_new}

pub sound_issue : (opening : List ℕ) (trace : List Event) (k : ℕ) (tables later : ℕ → List (Option Open))
    (sets : ℕ → List Branch) (nodes : List Node) (s : ℕ) (b : Open)
    → IsTrace (length opening) trace
    → TraceIssuesAt trace k b.call → s < 128 → slice_get (tables b.call.operation.address) s ≡ Some None
    → later b.call.operation.address ≡ set (tables b.call.operation.address) s (Some b)
    → ((v : ℕ) → v ≢ b.call.operation.address → later v ≡ tables v)
    → IsSoundSearch opening trace k tables sets nodes
    → IsSoundSearch opening trace (suc k) later sets nodes
sound_issue opening trace k tables later sets nodes s b t now l free new same_table sound = record {
  back = sound.back;
  inside = sound.inside;
  explained = λ pick trails marks picks.
      let was = sound.explained pick trails marks picks in
      let order = order_of nodes marks in
      record {
        legal = legal_issue opening trace k order b.call now was.legal;
        fits = λ w inside. fits_issued opening tables later w order (pick w).config s b l free new same_table
            (λ here on.
            let r = was.legal.issued on.0 on.1 on.2 in
            let same = one_issue (length opening) trace t r.0 k on.1 b.call r.2 now on.3 in
            let early = r.1 in
            omega arith)
            (was.fits w inside);
      };
}

-- the next event issues an operation that no table takes up
pub sound_unanswered : (opening : List ℕ) (trace : List Event) (k : ℕ) (tables : ℕ → List (Option Open))
    (sets : ℕ → List Branch) (nodes : List Node) (call : Call) → TraceIssuesAt trace k call
    → IsSoundSearch opening trace k tables sets nodes → IsSoundSearch opening trace (suc k) tables sets nodes
sound_unanswered opening trace k tables sets nodes call now sound = record {
  back = sound.back;
  inside = sound.inside;
  explained = λ pick trails marks picks.
      let was = sound.explained pick trails marks picks in
      record { legal = legal_issue opening trace k (order_of nodes marks) call now was.legal; fits = was.fits };
}

-- the tables have more slots
pub sound_more : (opening : List ℕ) (trace : List Event) (k : ℕ) (tables later : ℕ → List (Option Open))
    (sets : ℕ → List Branch) (nodes : List Node) (w : ℕ) → later w ≡ tables w ++ None ∷ []
    → ((v : ℕ) → v ≢ w → later v ≡ tables v)
    → IsSoundSearch opening trace k tables sets nodes → IsSoundSearch opening trace k later sets nodes
sound_more opening trace k tables later sets nodes w new same sound = record {
  back = sound.back;
  inside = sound.inside;
  explained = λ pick trails marks picks.
      let was = sound.explained pick trails marks picks in
      record {
        legal = was.legal;
        fits = λ v l. fits_widened opening tables later w new same v (order_of nodes marks) (pick v).config (was.fits v l);
      };
}

-- An operation takes effect in one of the branches, which makes a node, and a new branch.
pub sound_add : (opening : List ℕ) (trace : List Event) (k : ℕ) (tables : ℕ → List (Option Open))
    (sets later : ℕ → List Branch) (nodes : List Node) (w : ℕ) (b : Branch) (s : ℕ) (o : Open)
    → IsTrace (length opening) trace → AreTables (length opening) trace k tables → w < length opening → IsIn (sets w) b
    → MayTake (tables w) w b.config s o
    → ((c : Branch) → IsIn (later w) c → IsIn (sets w) c ⊎ (c ≡ grown nodes b s o))
    → ((v : ℕ) → v ≢ w → later v ≡ sets v)
    → IsSoundSearch opening trace k tables sets nodes → IsSoundSearch opening trace k tables later (nodes ++ node_of b o ∷ [])
sound_add opening trace k tables sets later nodes w b s o t is inside in' may cases same sound = record {
  back = λ i j n h e. ⊎_elim
      (λ old. sound.back i j n old e)
      (λ (r : (i ≡ length nodes) × (node_of b o ≡ n)).
      let l = sound.inside w j b inside in' (ap (λ (m : Node). m.before) r.1 ∙ e) in let m = r.0 in omega arith)
      (get_push_cases nodes (node_of b o) i n h);
  inside = λ v i c l at e.
      let more = length-node_push nodes (node_of b o) in
      ⊎_elim
      (λ (here : v ≡ w). ⊎_elim
      (λ (old : IsIn (sets w) c). let m = sound.inside w i c inside old e in omega arith)
      (λ (new : c ≡ grown nodes b s o). let m : Some (length nodes) ≡ Some i = sym (ap (λ (d : Branch). d.trail) new)
      ∙ e in let n : length nodes ≡ i = cc in omega arith)
      (cases c (subst (λ (u : ℕ). IsIn (later u) c) here at)))
      (λ (ne : v ≢ w). let m = sound.inside v i c l
      (subst (λ (cs : List Branch). IsIn cs c) (same v ne) at) e in omega arith)
      (cases_eq v w);
  explained = go;
}
  where
    go : (pick : ℕ → Branch) (trails : ℕ → List ℕ) (marks : List Bool)
        → Picks (length opening) later (nodes ++ node_of b o ∷ []) pick trails marks
        → IsExplained opening trace k tables pick (order_of (nodes ++ node_of b o ∷ []) marks)
    go pick trails marks picks =
        let cut = split_last marks (length nodes) (picks.sized ∙ length-node_push nodes (node_of b o)) in
        let init : List Bool = cut.0 in
        let m : Bool = cut.1 in
        let e : marks ≡ init ++ m ∷ [] = cut.2 in
        let others : (v : ℕ) → v < length opening → v ≢ w → IsIn (sets v) (pick v) = λ v l ne. subst
        (λ (cs : List Branch). IsIn cs (pick v)) (same v ne) (picks.picked v l) in
        let order : (n : Bool) → m ≡ n → order_of (nodes ++ node_of b o ∷ []) marks ≡ order_of nodes init ++ cond n
        (o.call ∷ []) [] =
        λ n is. ap (λ (ms : List Bool). order_of (nodes ++ node_of b o ∷ []) ms) e ∙
        (order_push nodes (node_of b o) init m cut.3
        ∙ ap (λ (x : Bool). order_of nodes init ++ cond x (o.call ∷ []) []) is) in
        ⊎_elim {C = IsExplained opening trace k tables pick (order_of (nodes ++ node_of b o ∷ []) marks)}
        (λ (old : IsIn (sets w) (pick w)).
        let all : (v : ℕ) → v < length opening → IsIn (sets v) (pick v) = λ v l. ⊎_elim {C = IsIn (sets v) (pick v)}
        (λ (here : v ≡ w). subst (λ (u : ℕ). IsIn (sets u) (pick u)) (sym here) old)
        (λ (ne : v ≢ w). others v l ne)
        (cases_eq v w) in
        let was = picks_old (length opening) sets later nodes
        (node_of b o) pick trails marks init m sound.back sound.inside e cut.3 all picks in
        subst (λ (cs : List Call). IsExplained opening trace k tables pick cs)
        (sym (order false was.1 ∙ append-nil (order_of nodes init)))
        (sound.explained pick trails init was.0))
        (λ (new : pick w ≡ grown nodes b s o).
        let was = picks_new (length opening) sets later nodes
        (node_of b o) pick trails marks init m w b sound.back sound.inside e cut.3 inside in' refl
        (ap (λ (c : Branch). c.trail) new) others picks in
        let before : List Call = order_of nodes init in
        let x : IsExplained opening trace k tables (put pick w b) before = sound.explained (put pick w b)
        (put trails w was.0) init was.1 in
        let fits : Fits opening (tables w) w before b.config = subst
        (λ (c : Branch). Fits opening (tables w) w before c.config) (put_same pick w b w refl) (x.fits w inside) in
        let p : IsPending trace k o = (is w inside).pending s o may.pending.there in
        subst (λ (cs : List Call). IsExplained opening trace k tables pick cs) (sym (order true was.2))
        (record {
          legal = legal_effect (length opening) opening trace t k before o.call p.at p.early p.issue p.unanswered
              (λ on. fits.left s o may.pending may.left on)
              (λ j reply h. told trace k o b.config.word p may.agrees j reply h
              ∙ (ap (λ (v : ℕ). reply_to o.call.operation.op v) fits.word
              ∙ ap (λ (v : ℕ). reply_to o.call.operation.op (get_or (memory_of opening before) v 0))
              (sym may.pending.here)))
              x.legal;
          fits = λ v l. ⊎_elim {C = Fits opening (tables v) v (before ++ o.call ∷ []) (pick v).config}
              (λ (here : v ≡ w). subst (λ (u : ℕ). Fits opening (tables u) u (before ++ o.call ∷ []) (pick u).config)
              (sym here)
              (subst (λ (c : Branch). Fits opening (tables w) w (before ++ o.call ∷ []) c.config) (sym new)
              (fits_effect opening trace k (tables w) w before b.config s o (is w inside) inside may fits)))
              (λ (ne : v ≢ w). fits_other (length opening) opening trace k (tables v) v before
              (pick v).config o.call p.at t (is v l) p.issue (λ same. ne (same ∙ may.pending.here))
              (subst (λ (c : Branch). Fits opening (tables v) v before c.config) (put_other pick w b v ne) (x.fits v l)))
              (cases_eq v w);
        }))
        (cases (pick w) (picks.picked w inside))

pub sound_answer : (opening : List ℕ) (trace : List Event) (k : ℕ) (tables emptied : ℕ → List (Option Open))
    (sets later : ℕ → List Branch) (nodes : List Node) (s : ℕ) (a : Open) (reply : Reply)
    → IsTrace (length opening) trace → AreTables (length opening) trace k tables
    → TraceAnswersAt trace k a.call.id reply → a.call.operation.address < length opening
    → IsAt (tables a.call.operation.address) s a
    → emptied a.call.operation.address ≡ set (tables a.call.operation.address) s None
    → ((v : ℕ) → v ≢ a.call.operation.address → emptied v ≡ tables v)
    → AreReleased s (sets a.call.operation.address) (later a.call.operation.address)
    → ((v : ℕ) → v ≢ a.call.operation.address → later v ≡ sets v)
    → IsSoundSearch opening trace k tables sets nodes → IsSoundSearch opening trace (suc k) emptied later nodes
sound_answer opening trace k tables emptied sets later nodes s a reply t is now inside there gone same_table released same sound = record {
  back = sound.back;
  inside = λ v i c l at e. ⊎_elim
      (λ (here : v ≡ w).
      let r = released c (subst (λ (u : ℕ). IsIn (later u) c) here at) in
      sound.inside w i r.0 inside r.1 (sym (ap (λ (d : Branch). d.trail) r.3) ∙ e))
      (λ (ne : v ≢ w). sound.inside v i c l (subst (λ (cs : List Branch). IsIn cs c) (same v ne) at) e)
      (cases_eq v w);
  explained = go;
}
  where
    w : ℕ
    w = a.call.operation.address

    go : (pick : ℕ → Branch) (trails : ℕ → List ℕ) (marks : List Bool)
        → Picks (length opening) later nodes pick trails marks
        → IsExplained opening trace (suc k) emptied pick (order_of nodes marks)
    go pick trails marks picks =
        let w : ℕ = a.call.operation.address in
        let from = released (pick w) (picks.picked w inside) in
        let b : Branch = from.0 in
        let order : List Call = order_of nodes marks in
        let x : IsExplained opening trace k tables (put pick w b) order = sound.explained (put pick w b) trails marks
        (record {
          sized = picks.sized;
          picked = λ v l. ⊎_elim {C = IsIn (sets v) (put pick w b v)}
              (λ (here : v ≡ w). subst (λ (c : Branch). IsIn (sets v) c) (sym (put_same pick w b v here))
              (subst (λ (u : ℕ). IsIn (sets u) b) (sym here) from.1))
              (λ (ne : v ≢ w). subst (λ (c : Branch). IsIn (sets v) c) (sym (put_other pick w b v ne))
              (subst (λ (cs : List Branch). IsIn cs (pick v)) (same v ne) (picks.picked v l)))
              (cases_eq v w);
          trailed = λ v l. ⊎_elim {C = IsTrail nodes (put pick w b v).trail (trails v)}
              (λ (here : v ≡ w). subst (λ (c : Branch). IsTrail nodes c.trail (trails v))
              (sym (put_same pick w b v here))
              (subst (λ (u : ℕ). IsTrail nodes b.trail (trails u)) (sym here)
              (subst (λ (last : Option ℕ). IsTrail nodes last (trails w)) (ap (λ (c : Branch). c.trail) from.3)
              (picks.trailed w inside))))
              (λ (ne : v ≢ w). subst (λ (c : Branch). IsTrail nodes c.trail (trails v))
              (sym (put_other pick w b v ne)) (picks.trailed v l))
              (cases_eq v w);
          marked = picks.marked;
          only = picks.only;
        }) in
        let fits : Fits opening (tables w) w order b.config = subst (λ (c : Branch). Fits opening (tables w) w order c.config)
        (put_same pick w b w refl) (x.fits w inside) in
        record {
          legal = legal_answer opening trace k order a.call.id reply now
              (fits.taken s a (record { there = there; here = refl }) from.2) x.legal;
          fits = λ v l. ⊎_elim {C = Fits opening (emptied v) v order (pick v).config}
              (λ (here : v ≡ w). subst (λ (u : ℕ). Fits opening (emptied u) u order (pick u).config) (sym here)
              (subst (λ (c : Branch). Fits opening (emptied w) w order c.config) (sym from.3)
              (subst (λ (ts : List (Option Open)). Fits opening ts w order (release b.config s)) (sym gone)
              (fits_answer opening (tables w) w order b.config s a (is w inside).slots there fits))))
              (λ (ne : v ≢ w). subst (λ (ts : List (Option Open)). Fits opening ts v order (pick v).config) (sym (same_table v ne))
              (subst (λ (c : Branch). Fits opening (tables v) v order c.config) (put_other pick w b v ne) (x.fits v l)))
              (cases_eq v w);
        }

-- at the end the order of the picked nodes explains the trace
pub sound_all : (opening : List ℕ) (trace : List Event) (k : ℕ) (tables : ℕ → List (Option Open)) (sets : ℕ → List Branch)
    (nodes : List Node)
    → length trace ≤ k
    → IsSoundSearch opening trace k tables sets nodes → (pick : ℕ → Branch) (trails : ℕ → List ℕ) (marks : List Bool)
    → Picks (length opening) sets nodes pick trails marks
    → IsOrder opening trace (order_of nodes marks)
sound_all opening trace k tables sets nodes all sound pick trails marks picks =
    legal_all opening trace k (order_of nodes marks) all (sound.explained pick trails marks picks).legal
