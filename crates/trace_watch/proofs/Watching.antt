-- What a watch knows, over one event.
use Rattle.std.proofs.Common.{◌≡◌, ◌≢◌, ◌⊎◌, ◌↔◌, inl, inr, ⊎_elim, ℕ, ◌<◌, ◌≤◌, List, [], ◌∷◌, ◌++◌, length, Some, None, Vec, refl, sym, ◌∙◌, ap, subst}
use Rattle.std.proofs.Common.{arith, append-nil, slice_get, set, map, get_or, get_or-set_same, get_or-set_other, length-set}
use Rattle.std.proofs.lemmas.Bool.{cases_eq}
use Rattle.std.proofs.lemmas.List.{map-set, length-map, get_or-map}
use Rattle.packet.specs.declared.kinds.Reply.{Reply}
use Rattle.trace_laws.specs.declared.event.Call.{Call}
use Rattle.trace_laws.specs.declared.event.Event.{Event}
use Rattle.trace_laws.specs.declared.event.Event.TheVariants.{Issue, Answer}
use Rattle.trace_laws.specs.Traces.{IsTrace, IsAnswered}
use Rattle.trace_laws.specs.Orders.{IsLinearizable}
use Rattle.trace_laws.proofs.Merging.{one_order}
use Rattle.trace_laws.proofs.WordOrders.{word_order}
use Rattle.trace_laws.specs.Configs.{IsIn}
use Rattle.trace_watch.specs.declared.state.Effect.{Effect}
use Rattle.trace_watch.specs.declared.state.State.{State}
use Rattle.trace_watch.specs.declared.watch.Watch.{Watch}
use Rattle.trace_watch.specs.declared.watch.Seen.TheVariants.{Linearizable, NotLinearizable, NoTrace}
use Rattle.trace_watch.specs.States.{Config, configs_of}
use Rattle.trace_watch.specs.Matchings.{Matches}
use Rattle.trace_watch.specs.Known.{IsOpenOn, Knows, ArePending, ArePendingOn}
use Rattle.trace_watch.specs.Closed.{IsAnsweredBy}
use Rattle.trace_watch.specs.Follows.{Tracks, TellsSeen, states_of}
use Rattle.trace_watch.proofs.Events.{trace_issue, trace_answer, outside, not_rising, not_pending, pending_issue, pending_answer, newest_issue, newest_answer, above_all}
use Rattle.trace_watch.proofs.Quiet.{quiet_answer, knows_issue, knows_elsewhere}
use Rattle.trace_watch.proofs.Walk.{knows_answer}

-- what is known says that the trace is linearizable
pub follows_order : {A : Type 0} (opening : List ℕ) (t : List Event) (watch : Watch A) → Tracks opening t watch
    → IsLinearizable opening t
follows_order opening t watch f = one_order opening t f.well (λ w l.
    let c = f.filled w l in
    let x = (f.known w l).sound c.0 c.1 in
    let s = x.explained [] (λ e on. absurd (let h : None ≡ Some e = on.1 in cc)) x.fits.0
    (subst (λ (es : List Effect). Matches (IsOpenOn t w) es x.fits.0) (sym (append-nil c.0.effects)) x.fits.1) in
    (s.0, s.1.legal))

-- an operation is issued
pub seen_issue : {A : Type 0} (opening : List ℕ) (t : List Event) (watch : Watch A) (call : Call) (pending : Vec Call A)
    → call.operation.address < length watch.words.items → ((n : ℕ) → watch.last ≡ Some n → n < call.id)
    → pending.items ≡ watch.pending.items ++ call ∷ [] → Tracks opening t watch
    → TellsSeen {A = A} opening t (Issue call)
    (record { words = watch.words; pending = pending; last = Some call.id }) Linearizable
seen_issue {A} opening t watch call pending inside rising pushed f =
    let above = above_all t watch.last call.id f.newest rising in
    let low : call.operation.address < length opening = let e = f.sized in omega arith in
    let is = trace_issue (length opening) t call f.well above low in
    let later : Tracks {A = A} opening (t ++ Issue call ∷ [])
    (record { words = watch.words; pending = pending; last = Some call.id }) = record {
      well = is;
      newest = newest_issue t call watch.last f.newest above;
      pending = subst (λ (cs : List Call). ArePending (t ++ Issue call ∷ []) cs) (sym pushed)
          (pending_issue (length opening) t call watch.pending.items is f.pending);
      sized = f.sized;
      known = λ w l. knows_issue (length opening) opening t w call (states_of watch.words.items w) is (f.known w l);
      filled = f.filled;
    } in (
      later,
      follows_order opening (t ++ Issue call ∷ [])
          (record { words = watch.words; pending = pending; last = Some call.id }) later,
    )

-- no operation is issued so
pub seen_outside : {A : Type 0} (opening : List ℕ) (t : List Event) (watch : Watch A) (call : Call)
    → length watch.words.items ≤ call.operation.address → Tracks opening t watch
    → TellsSeen opening t (Issue call) watch NoTrace
seen_outside opening t watch call far f =
    (f, outside (length opening) t call (let e = f.sized in omega arith))

pub seen_not_rising : {A : Type 0} (opening : List ℕ) (t : List Event) (watch : Watch A) (call : Call) (n : ℕ)
    → watch.last ≡ Some n → call.id ≤ n → Tracks opening t watch
    → TellsSeen opening t (Issue call) watch NoTrace
seen_not_rising opening t watch call n e low f =
    (f, not_rising (length opening) t call watch.last n f.newest e low)

-- no open operation is answered
pub seen_not_pending : {A : Type 0} (opening : List ℕ) (t : List Event) (watch : Watch A) (id : ℕ) (reply : Reply)
    → ((k : ℕ) (c : Call) → slice_get watch.pending.items k ≡ Some c → c.id ≡ id → ⊥) → Tracks opening t watch
    → TellsSeen opening t (Answer id reply) watch NoTrace
seen_not_pending opening t watch id reply none f =
    (f, not_pending (length opening) t id reply watch.pending.items f.pending (λ c on. none on.0 c on.1))

-- open operations are on words of the memory
pub pending_inside : {A : Type 0} (opening : List ℕ) (t : List Event) (watch : Watch A) (call : Call)
    → IsIn watch.pending.items call → Tracks opening t watch → call.operation.address < length watch.words.items
pending_inside opening t watch call on f =
    let p = f.pending.each call on in
    let l = f.well.inside p.issued.0 call p.issued.1 in
    let e = f.sized in
    omega arith

-- a word that there isn't has no open operation
pub seen_no_word : {A : Type 0} (opening : List ℕ) (t : List Event) (watch : Watch A) (call : Call) (id : ℕ)
    (reply : Reply) → IsIn watch.pending.items call → length watch.words.items ≤ call.operation.address
    → Tracks opening t watch → TellsSeen opening t (Answer id reply) watch NoTrace
seen_no_word opening t watch call id reply on far f =
    absurd (let l = pending_inside opening t watch call on f in omega arith)

-- what is known of a word when an operation on it is answered
record HasAnswer {A : Type 0} (opening : List ℕ) (t : List Event) (watch : Watch A) (call : Call) (id : ℕ)
    (reply : Reply) (new : List Config) : Type 0 where
  pub is : IsTrace (length opening) (t ++ Answer id reply ∷ [])
  pub inside : call.operation.address < length opening
  pub known : Knows opening (t ++ Answer id reply ∷ []) call.operation.address new
  pub others : (w : ℕ) → w < length opening → w ≢ call.operation.address
      → Knows opening (t ++ Answer id reply ∷ []) w (states_of watch.words.items w)

has_answer : {A : Type 0} (opening : List ℕ) (t : List Event) (watch : Watch A) (call : Call) (id : ℕ) (reply : Reply)
    (calls : List Call) (new : List Config) → IsIn watch.pending.items call → call.id ≡ id
    → ((c : Call) → IsIn calls c ↔ (IsIn watch.pending.items c × (c.operation.address ≡ call.operation.address)))
    → IsAnsweredBy call reply calls (states_of watch.words.items call.operation.address) new
    → Tracks opening t watch → HasAnswer opening t watch call id reply new
has_answer opening t watch call id reply calls new on number here by f =
    let p = f.pending.each call on in
    let at = p.issued.0 in
    let issue = p.issued.1 in
    let is = trace_answer (length opening) t call.id reply at call f.well issue refl p.unanswered in
    let w = call.operation.address in
    let inside = f.well.inside at call issue in
    let pending : ArePendingOn t w calls = record {
      each = λ c in_calls. f.pending.each c ((here c).0 in_calls).0;
      here = λ c in_calls. ((here c).0 in_calls).1;
      all = λ i c h there. ⊎_elim {C = IsAnswered t c.id ⊎ IsIn calls c}
          (λ (a : IsAnswered t c.id). inl a)
          (λ (o : IsIn watch.pending.items c). inr ((here c).1 (o, there)))
          (f.pending.all i c h);
    } in
    subst (λ (n : ℕ). HasAnswer opening t watch call n reply new) number (record {
      is = is;
      inside = inside;
      known = knows_answer (length opening) opening t w call reply calls (states_of watch.words.items w) new inside
          f.well is (record { pending = p; here = refl }) pending by (f.known w inside);
      others = λ v l ne. knows_elsewhere (length opening) opening t v call.id reply (states_of watch.words.items v) is
          (quiet_answer (length opening) t v call.id reply at call f.well issue refl (λ e. ne (sym e))) (f.known v l);
    })

-- one word's states are others
states_same : {A : Type 0} (words : List (Vec (State A) A)) (w : ℕ) (v : Vec (State A) A) → w < length words
    → states_of (set words w v) w ≡ configs_of v.items
states_same {A} words w v l =
    let f : Vec (State A) A → List (State A) = λ u. u.items in
    let m : w < length (map f words) = let n = length-map words f in omega arith in
    ap (λ (bs : List (List (State A))). configs_of (get_or bs w [])) (map-set f words w v)
    ∙ ap (λ (ss : List (State A)). configs_of ss) (get_or-set_same (map f words) w v.items [] m)

states_other : {A : Type 0} (words : List (Vec (State A) A)) (w : ℕ) (v : Vec (State A) A) (u : ℕ) → u ≢ w
    → states_of (set words w v) u ≡ states_of words u
states_other {A} words w v u ne =
    let f : Vec (State A) A → List (State A) = λ x. x.items in
    ap (λ (bs : List (List (State A))). configs_of (get_or bs u [])) (map-set f words w v)
    ∙ ap (λ (ss : List (State A)). configs_of ss) (get_or-set_other (map f words) w u v.items [] ne)

-- an answer that fits
pub seen_answer : {A : Type 0} (opening : List ℕ) (t : List Event) (watch : Watch A) (call : Call) (id : ℕ)
    (reply : Reply) (calls : List Call) (later : Vec (State A) A) (words : Vec (Vec (State A) A) A)
    (pending : Vec Call A) (some : Config)
    → IsIn watch.pending.items call → call.id ≡ id
    → ((c : Call) → IsIn calls c ↔ (IsIn watch.pending.items c × (c.operation.address ≡ call.operation.address)))
    → IsAnsweredBy call reply calls (states_of watch.words.items call.operation.address) (configs_of later.items)
    → IsIn (configs_of later.items) some
    → ((c : Call) → IsIn pending.items c ↔ (IsIn watch.pending.items c × (c.id ≡ id → ⊥)))
    → words.items ≡ set watch.words.items call.operation.address later
    → Tracks opening t watch
    → TellsSeen {A = A} opening t (Answer id reply)
    (record { words = words; pending = pending; last = watch.last }) Linearizable
seen_answer {A} opening t watch call id reply calls later words pending some on number here by filled less written f =
    let h = has_answer opening t watch call id reply calls (configs_of later.items) on number here by f in
    let more = t ++ Answer id reply ∷ [] in
    let w = call.operation.address in
    let low : w < length watch.words.items = pending_inside opening t watch call on f in
    let same : states_of words.items w ≡ configs_of later.items =
    ap (λ (ws : List (Vec (State A) A)). states_of ws w) written ∙ states_same watch.words.items w later low in
    let other : (v : ℕ) → v ≢ w → states_of words.items v ≡ states_of watch.words.items v = λ v ne.
    ap (λ (ws : List (Vec (State A) A)). states_of ws v) written ∙ states_other watch.words.items w later v ne in
    let next : Watch A = record { words = words; pending = pending; last = watch.last } in
    let follows : Tracks {A = A} opening more next = record {
      well = h.is;
      newest = newest_answer t id reply watch.last f.newest;
      pending = pending_answer t id reply watch.pending.items pending.items f.pending (λ c in_p. (less c).0 in_p)
          (λ c in_p. ⊎_elim {C = (c.id ≡ id) ⊎ IsIn pending.items c}
          (λ (e : c.id ≡ id). inl e)
          (λ (ne : c.id ≢ id). inr ((less c).1 (in_p, ne)))
          (cases_eq c.id id));
      sized = ap (λ (ws : List (Vec (State A) A)). length ws) written
          ∙ (length-set watch.words.items w later ∙ f.sized);
      known = λ v l. ⊎_elim {C = Knows opening more v (states_of words.items v)}
          (λ (e : v ≡ w). subst (λ (u : ℕ). Knows opening more u (states_of words.items u)) (sym e)
          (subst (λ (cs : List Config). Knows opening more w cs) (sym same) h.known))
          (λ (ne : v ≢ w). subst (λ (cs : List Config). Knows opening more v cs) (sym (other v ne)) (h.others v l ne))
          (cases_eq v w);
      filled = λ v l. ⊎_elim {C = (c : Config) × IsIn (states_of words.items v) c}
          (λ (e : v ≡ w). (
            some,
            subst (λ (u : ℕ). IsIn (states_of words.items u) some) (sym e)
                (subst (λ (cs : List Config). IsIn cs some) (sym same) filled),
          ))
          (λ (ne : v ≢ w).
          let r = f.filled v l in (r.0, subst (λ (cs : List Config). IsIn cs r.0) (sym (other v ne)) r.1))
          (cases_eq v w);
    } in
    (follows, follows_order opening more next follows)

-- an answer that fits nothing
pub seen_no_answer : {A : Type 0} (opening : List ℕ) (t : List Event) (watch : Watch A) (call : Call) (id : ℕ)
    (reply : Reply) (calls : List Call) (later : List (State A))
    → IsIn watch.pending.items call → call.id ≡ id
    → ((c : Call) → IsIn calls c ↔ (IsIn watch.pending.items c × (c.operation.address ≡ call.operation.address)))
    → IsAnsweredBy call reply calls (states_of watch.words.items call.operation.address) (configs_of later)
    → later ≡ []
    → Tracks opening t watch
    → TellsSeen {A = A} opening t (Answer id reply) watch NotLinearizable
seen_no_answer {A} opening t watch call id reply calls later on number here by none f =
    let h = has_answer opening t watch call id reply calls (configs_of later) on number here by f in (
      f,
      h.is,
      follows_order opening t watch f,
      λ is.
          let o = word_order opening (t ++ Answer id reply ∷ []) h.is is call.operation.address h.inside in
          let r = h.known.complete o.0 o.1 in
          let l = r.1 in
          let in_none : IsIn [] l.config = subst (λ (ss : List (State A)). IsIn (configs_of ss) l.config) none l.on in
          let e : None ≡ Some l.config = in_none.1 in
          cc,
    )

-- a word's states, as the code reads them
pub states_read : {A : Type 0} (words : List (Vec (State A) A)) (w : ℕ) (v : Vec (State A) A) → w < length words
    → v ≡ get_or words w v → configs_of v.items ≡ states_of words w
states_read {A} words w v l e =
    let f : Vec (State A) A → List (State A) = λ u. u.items in
    ap (λ (ss : List (State A)). configs_of ss) (ap f e ∙ sym (get_or-map f words w v [] l))
