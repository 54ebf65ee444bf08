-- Operations that took effect at words that were there, which they left as they were.
use Rattle.std.proofs.Common.{◌≡◌, ◌⊎◌, inl, inr, ⊎_elim, ℕ, zero, suc, ◌<◌, ◌≤◌, max, true, List, [], ◌∷◌, ◌++◌, length, Some, None, refl, sym, ◌∙◌, ap, subst, arith}
use Rattle.std.proofs.Common.{slice_get, append-nil, append_assoc}
use Rattle.std.specs.List.{insert, remove}
use Rattle.std.proofs.lemmas.Bool.{cases_lt, eqb-true}
use Rattle.packet.specs.Memory.{new_word, reply_to}
use Rattle.trace_laws.specs.declared.event.Call.{Call}
use Rattle.trace_laws.specs.declared.event.Event.{Event}
use Rattle.trace_laws.specs.Traces.{TraceIssuesAt}
use Rattle.trace_laws.specs.Configs.{IsIn}
use Rattle.trace_watch.specs.declared.state.Effect.{Effect}
use Rattle.trace_watch.specs.declared.state.Glimpse.{Glimpse}
use Rattle.trace_watch.specs.States.{Config, IsIdleIn, is_idle, newest_number, seen_by}
use Rattle.trace_watch.specs.Matchings.{FitsPartner, Matches, Other}
use Rattle.trace_watch.specs.Named.{NamedEffect, named}
use Rattle.trace_watch.specs.Known.{AreIdleIn, Explains, HasIssued, IsExplainedWatch, IsOpenOn}
use Rattle.trace_watch.proofs.Events.{issue_up}
use Rattle.trace_watch.proofs.Matched.{insert_middle, match_take, weaken}
use Rattle.trace_watch.proofs.Covering.{other_from}
use Rattle.trace_watch.proofs.Steps.{left_out, put_explains}

-- two lists behind one another
pub append_cases : {A : Type 0} (xs ys : List A) (k : ℕ) (x : A) → slice_get (xs ++ ys) k ≡ Some x → IsIn xs x ⊎ IsIn ys x
append_cases [] ys k x h = inr (k, h)
append_cases (z ∷ xs) ys zero x h = inl (zero, h)
append_cases (z ∷ xs) ys (suc k) x h = ⊎_elim {C = IsIn (z ∷ xs) x ⊎ IsIn ys x}
    (λ (l : IsIn xs x). inl (suc l.0, l.1)) (λ (r : IsIn ys x). inr r) (append_cases xs ys k x h)

pub insert_append : {A : Type 0} (xs ys : List A) (k : ℕ) (x : A) → k ≤ length xs
    → insert (xs ++ ys) k x ≡ insert xs k x ++ ys
insert_append xs ys zero x l = refl
insert_append [] ys (suc k) x l = absurd (omega arith)
insert_append {A} (z ∷ xs) ys (suc k) x l = ap (λ (zs : List A). z ∷ zs) (insert_append xs ys k x (omega arith))

pub get_middle : {A : Type 0} (xs ys : List A) (x : A) → slice_get (xs ++ x ∷ ys) (length xs) ≡ Some x
get_middle [] ys x = refl
get_middle (z ∷ xs) ys x = get_middle xs ys x

pub remove_middle : {A : Type 0} (xs ys : List A) (x : A) → remove (xs ++ x ∷ ys) (length xs) ≡ xs ++ ys
remove_middle [] ys x = refl
remove_middle {A} (z ∷ xs) ys x = ap (λ (zs : List A). z ∷ zs) (remove_middle xs ys x)

pub remove_append : {A : Type 0} (xs ys : List A) (k : ℕ) (x : A) → slice_get xs k ≡ Some x
    → remove (xs ++ ys) k ≡ remove xs k ++ ys
remove_append [] ys k x h = absurd (let e : None ≡ Some x = h in cc)
remove_append (z ∷ xs) ys zero x h = refl
remove_append {A} (z ∷ xs) ys (suc k) x h = ap (λ (zs : List A). z ∷ zs) (remove_append xs ys k x h)

-- between two of three lists
pub insert_between : {A : Type 0} (xs ys zs : List A) (x : A)
    → insert (xs ++ (ys ++ zs)) (length (xs ++ ys)) x ≡ xs ++ (ys ++ x ∷ zs)
insert_between {A} xs ys zs x =
    ap (λ (ws : List A). insert ws (length (xs ++ ys)) x) (sym (append_assoc xs ys zs))
    ∙ (insert_middle (xs ++ ys) zs x ∙ append_assoc xs ys (x ∷ zs))

-- a place of the first list or of the second one
pub place_cases : {A : Type 0} (xs ys : List A) (k : ℕ) (x : A) → slice_get (xs ++ ys) k ≡ Some x
    → ((slice_get xs k ≡ Some x) × (remove (xs ++ ys) k ≡ remove xs k ++ ys))
    ⊎ ((n : ℕ) × (slice_get ys n ≡ Some x) × (remove (xs ++ ys) k ≡ xs ++ remove ys n))
place_cases [] ys k x h = inr (k, h, refl)
place_cases (z ∷ xs) ys zero x h = inl (h, refl)
place_cases {A} (z ∷ xs) ys (suc k) x h = ⊎_elim
    {C = ((slice_get xs k ≡ Some x) × (z ∷ remove (xs ++ ys) k ≡ z ∷ remove xs k ++ ys))
    ⊎ ((n : ℕ) × (slice_get ys n ≡ Some x) × (z ∷ remove (xs ++ ys) k ≡ z ∷ xs ++ remove ys n))}
    (λ (l : (slice_get xs k ≡ Some x) × (remove (xs ++ ys) k ≡ remove xs k ++ ys)).
    inl (l.0, ap (λ (zs : List A). z ∷ zs) l.1))
    (λ (r : (n : ℕ) × (slice_get ys n ≡ Some x) × (remove (xs ++ ys) k ≡ xs ++ remove ys n)).
    inr (r.0, r.1, ap (λ (zs : List A). z ∷ zs) r.2))
    (place_cases xs ys k x h)

-- the first effects fit
pub matches_front : (P : Call → Type 0) (es fs : List Effect) (calls : List Call) → Matches P (es ++ fs) calls
    → FitsPartner P es
matches_front P [] fs calls m = ([], tt)
matches_front P (e ∷ es) fs [] m = absurd m
matches_front P (e ∷ es) fs (c ∷ cs) m =
    let r = matches_front (Other P c.id) es fs cs m.2 in (c ∷ r.0, (m.0, m.1, r.1))

-- the bound of an effect is the number of its operation
abbrev pub IsTightened : (Call → Type 0) → List Effect → Effect → Type 0
IsTightened P es f = (e : Effect) × IsIn es e × (f.op ≡ e.op) × (f.reply ≡ e.reply) × (f.newest ≤ e.newest)
    × ((call : Call) × P call × (call.operation.op ≡ f.op) × (call.id ≡ f.newest))

-- further effects with such bounds
abbrev pub HasTight : (Call → Type 0) → List Effect → List Effect → List Call → Type 0
HasTight P es fs calls = (gs : List Effect) × Matches P (es ++ gs) calls
    × (named (es ++ gs) calls ≡ named (es ++ fs) calls) × ((g : Effect) → IsIn gs g → IsTightened P fs g)

pub tight : (P : Call → Type 0) (es fs : List Effect) (calls : List Call) → Matches P (es ++ fs) calls
    → HasTight P es fs calls
tight P [] [] [] m = ([], tt, refl, λ g on. absurd (let h : None ≡ Some g = on.1 in cc))
tight P [] [] (c ∷ cs) m = absurd m
tight P [] (e ∷ fs) [] m = absurd m
tight P [] (e ∷ fs) (c ∷ cs) m =
    let r = tight (Other P c.id) [] fs cs m.2 in
    let first : Effect = record { op = e.op; reply = e.reply; newest = c.id } in (
      first ∷ r.0,
      (m.0, record { asks = m.1.asks; early = omega arith }, r.1),
      ap (λ (xs : List NamedEffect). let x : NamedEffect = record { id = c.id; reply = e.reply } in x ∷ xs) r.2,
      λ g on. each r g on.0 on.1,
    )
  where
    each : (r : HasTight (Other P c.id) [] fs cs) (g : Effect) (k : ℕ)
        → slice_get (record { op = e.op; reply = e.reply; newest = c.id } ∷ r.0) k ≡ Some g → IsTightened P (e ∷ fs) g
    each r g zero h =
        let first : Effect = record { op = e.op; reply = e.reply; newest = c.id } in
        let same : first ≡ g = cc in
        subst (λ (x : Effect). IsTightened P (e ∷ fs) x) same
        (e, (zero, refl), refl, refl, m.1.early, (c, m.0, m.1.asks, refl))
    each r g (suc k) h =
        let q = r.3 g (k, h) in
        (q.0, (suc q.1.0, q.1.1), q.2, q.3, q.4, (q.5.0, q.5.1.0, q.5.2, q.5.3))
tight P (e ∷ es) fs [] m = absurd m
tight P (e ∷ es) fs (c ∷ cs) m =
    let r = tight (Other P c.id) es fs cs m.2 in (
      r.0,
      (m.0, m.1, r.1),
      ap (λ (xs : List NamedEffect). let x : NamedEffect = record { id = c.id; reply = e.reply } in x ∷ xs) r.2,
      λ g on. let q = r.3 g on in (q.0, q.1, q.2, q.3, q.4, (q.5.0, q.5.1.0, q.5.2, q.5.3)),
    )

-- numbers that were issued
pub issued_up : (t : List Event) (e : Event) (n : ℕ) → HasIssued t n → HasIssued (t ++ e ∷ []) n
issued_up t e n q = (q.0, q.1, issue_up t e q.0 q.1 q.2, q.3)

-- no effect is of an operation yet to be issued
pub issued_with : (opening : List ℕ) (t : List Event) (w : ℕ) (c : Config) (es : List Effect)
    → IsExplainedWatch opening t w c → AreIdleIn c.seen es → (f : Effect) → IsIn (c.effects ++ es) f → HasIssued t f.newest
issued_with opening t w c es x idle f on = ⊎_elim {C = HasIssued t f.newest}
    (λ (old : IsIn c.effects f). x.issued f old)
    (λ (new : IsIn es f).
    let i = idle f new in
    let q = x.seen i.glimpse i.there in
    let l = q.3 in
    let m = i.low in
    (q.0, q.1, q.2, omega (arith, l, m)))
    (append_cases c.effects es on.0 f on.1)

pub newest_issued : (t : List Event) (calls : List Call) → HasIssued t 0
    → ((c : Call) → IsIn calls c → (i : ℕ) × TraceIssuesAt t i c) → HasIssued t (newest_number calls)
newest_issued t [] some each = some
newest_issued t (c ∷ calls) some each = ⊎_elim {C = HasIssued t (max c.id (newest_number calls))}
    (λ (l : c.id < newest_number calls).
    let q = newest_issued t calls some (λ d on. each d (suc on.0, on.1)) in
    let m = q.3 in (q.0, q.1, q.2, omega (arith, l, m)))
    (λ (g : newest_number calls ≤ c.id). let q = each c (zero, refl) in (q.0, c, q.1, omega (arith, g)))
    (cases_lt c.id (newest_number calls))

pub newest_above : (calls : List Call) (k : ℕ) (c : Call) → slice_get calls k ≡ Some c → c.id ≤ newest_number calls
newest_above [] k c h = absurd (let e : None ≡ Some c = h in cc)
newest_above (d ∷ calls) zero c h = let e : d ≡ c = cc in let n = ap (λ (x : Call). x.id) e in omega (arith, n)
newest_above (d ∷ calls) (suc k) c h = let l = newest_above calls k c h in omega (arith, l)

-- whatever operations these effects are of, an order explains them
abbrev pub ExplainsAll : List ℕ → List Event → ℕ → ℕ → List Effect → Type 0
ExplainsAll opening t w word es = (calls : List Call) → Matches (IsOpenOn t w) es calls
    → (order : List Call) × Explains opening t w order (record { word = word; effects = named es calls })

-- one more takes effect
pub put_all : (opening : List ℕ) (t : List Event) (w word : ℕ) (es : List Effect) (k : ℕ) (e : Effect)
    → w < length opening → e.reply ≡ reply_to e.op word → ExplainsAll opening t w word es
    → ExplainsAll opening t w (new_word e.op word) (insert es k e)
put_all opening t w word es k e inside replies x = λ cs m.
    let r = match_take (IsOpenOn t w) es k e cs m in
    let b = r.0 in
    let rest = r.1 in
    let y = x rest (weaken (Other (IsOpenOn t w) b.id) (IsOpenOn t w) (λ d o. o.0) es rest r.5) in (
      y.0 ++ b ∷ [],
      subst (λ (ds : List Call). Explains opening t w (y.0 ++ b ∷ [])
          (record { word = new_word e.op word; effects = named (insert es k e) ds })) (sym r.2)
          (put_explains (Other (IsOpenOn t w) b.id) opening t w y.0 word es rest k e b inside r.3 r.4.asks replies r.5
          (left_out (IsOpenOn t w) es rest b.id r.5) y.1),
    )

-- one more that leaves the word as it is
idle_all : (opening : List ℕ) (t : List Event) (w word : ℕ) (es : List Effect) (k : ℕ) (e : Effect)
    → w < length opening → is_idle e.op word ≡ true → e.reply ≡ reply_to e.op word → ExplainsAll opening t w word es
    → ExplainsAll opening t w word (insert es k e)
idle_all opening t w word es k e inside idle replies x =
    subst (λ (v : ℕ). ExplainsAll opening t w v (insert es k e)) (eqb-true (new_word e.op word) word idle)
    (put_all opening t w word es k e inside replies x)

-- the word that is there was there for some operations
seen_all : (opening : List ℕ) (t : List Event) (w word : ℕ) (es : List Effect) (g : Glimpse) (seen : List Glimpse)
    → w < length opening → g.word ≡ word
    → ((fs : List Effect) → AreIdleIn seen fs → ExplainsAll opening t w word (es ++ fs))
    → (fs gs : List Effect) → AreIdleIn seen fs → AreIdleIn (g ∷ seen) gs
    → ExplainsAll opening t w word (es ++ (fs ++ gs))
seen_all opening t w word es g seen inside here x fs [] old new =
    subst (λ (xs : List Effect). ExplainsAll opening t w word (es ++ xs)) (sym (append-nil fs)) (x fs old)
seen_all opening t w word es g seen inside here x fs (e ∷ gs) old new =
    at (λ xs were. seen_all opening t w word es g seen inside here x xs gs were (λ f on. new f (suc on.0, on.1)))
    (new e (zero, refl))
  where
    -- the rest of them, behind whatever others
    Rest : Type 0
    Rest = (xs : List Effect) → AreIdleIn seen xs → ExplainsAll opening t w word (es ++ (xs ++ gs))

    was : IsIdleIn seen e → AreIdleIn seen (fs ++ e ∷ [])
    was i f on = ⊎_elim {C = IsIdleIn seen f}
        (λ (l : IsIn fs f). old f l)
        (λ (r : IsIn (e ∷ []) f). one i f r.0 r.1)
        (append_cases fs (e ∷ []) on.0 f on.1)
      where
        one : IsIdleIn seen e → (f : Effect) (k : ℕ) → slice_get (e ∷ []) k ≡ Some f → IsIdleIn seen f
        one i f zero h = let s : e ≡ f = cc in subst (λ (y : Effect). IsIdleIn seen y) s i
        one i f (suc k) h = absurd (let n : None ≡ Some f = h in cc)

    before : Rest → IsIdleIn seen e → ExplainsAll opening t w word (es ++ (fs ++ e ∷ gs))
    before rest i = subst (λ (xs : List Effect). ExplainsAll opening t w word (es ++ xs)) (append_assoc fs (e ∷ []) gs)
        (rest (fs ++ e ∷ []) (was i))

    now : Rest → is_idle e.op word ≡ true → e.reply ≡ reply_to e.op word
        → ExplainsAll opening t w word (es ++ (fs ++ e ∷ gs))
    now rest idle replies = subst (λ (xs : List Effect). ExplainsAll opening t w word xs) (insert_between es fs gs e)
        (idle_all opening t w word (es ++ (fs ++ gs)) (length (es ++ fs)) e inside idle replies (rest fs old))

    place : Rest → (i : IsIdleIn (g ∷ seen) e) (k : ℕ) → slice_get (g ∷ seen) k ≡ Some i.glimpse
        → ExplainsAll opening t w word (es ++ (fs ++ e ∷ gs))
    place rest i zero h =
        let s : g ≡ i.glimpse = cc in
        let v : i.glimpse.word ≡ word = ap (λ (y : Glimpse). y.word) (sym s) ∙ here in
        now rest (subst (λ (y : ℕ). is_idle e.op y ≡ true) v i.idle) (i.reply ∙ ap (λ (y : ℕ). reply_to e.op y) v)
    place rest i (suc k) h =
        before rest (record { glimpse = i.glimpse; there = (k, h); idle = i.idle; reply = i.reply; low = i.low })

    at : Rest → IsIdleIn (g ∷ seen) e → ExplainsAll opening t w word (es ++ (fs ++ e ∷ gs))
    at rest i = place rest i i.there.0 i.there.1

-- and so of a configuration that orders lead to
pub glimpse_all : (opening : List ℕ) (t : List Event) (w : ℕ) (calls : List Call) (c : Config) (word : ℕ) (es : List Effect)
    → w < length opening → IsExplainedWatch opening t w c → AreIdleIn (seen_by calls c word) es
    → ExplainsAll opening t w c.word (c.effects ++ es)
glimpse_all opening t w calls c word es inside x idle =
    seen_all opening t w c.word c.effects g c.seen inside refl (λ fs i. x.explained fs i) [] es
    (λ e on. absurd (let h : None ≡ Some e = on.1 in cc)) (λ e on.
    let i = idle e on in
    record {
      glimpse = i.glimpse;
      there = (other_from word (g ∷ c.seen) i.there.0 i.glimpse i.there.1).0;
      idle = i.idle;
      reply = i.reply;
      low = i.low;
    })
  where
    g : Glimpse
    g = record { word = c.word; newest = newest_number calls }

pub glimpse_issued : (opening : List ℕ) (t : List Event) (w : ℕ) (calls : List Call) (c : Config) (word : ℕ)
    → HasIssued t (newest_number calls) → IsExplainedWatch opening t w c → (g : Glimpse)
    → IsIn (seen_by calls c word) g → HasIssued t g.newest
glimpse_issued opening t w calls c word now x g on =
    let r = other_from word (first ∷ c.seen) on.0 g on.1 in at r.0.0 r.0.1
  where
    first : Glimpse
    first = record { word = c.word; newest = newest_number calls }

    at : (k : ℕ) → slice_get (first ∷ c.seen) k ≡ Some g → HasIssued t g.newest
    at zero h = let s : first ≡ g = cc in subst (λ (y : Glimpse). HasIssued t y.newest) s now
    at (suc k) h = x.seen g (k, h)
