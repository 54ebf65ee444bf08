-- Effects and the operations that they may be of.
use Rattle.std.proofs.Common.{◌≡◌, ◌≢◌, ◌⊎◌, inl, inr, ⊎_elim, ℕ, zero, suc, ◌≤◌, List, [], ◌∷◌, ◌++◌, length, Some, None, refl, sym, ◌∙◌, ap, arith, slice_get}
use Rattle.std.specs.List.{insert, remove}
use Rattle.std.proofs.lemmas.Bool.{cases_eq}
use Rattle.trace_laws.specs.declared.event.Call.{Call}
use Rattle.trace_laws.specs.Configs.{IsIn}
use Rattle.trace_watch.specs.declared.state.Effect.{Effect}
use Rattle.trace_watch.specs.Matchings.{FitsPartner, Matches, MayBe, Other}
use Rattle.trace_watch.specs.Named.{NamedEffect, named}

-- more operations
pub weaken : (P Q : Call → Type 0) → ((c : Call) → P c → Q c) → (es : List Effect) (calls : List Call)
    → Matches P es calls → Matches Q es calls
weaken P Q f [] [] m = tt
weaken P Q f [] (c ∷ cs) m = absurd m
weaken P Q f (e ∷ es) [] m = absurd m
weaken P Q f (e ∷ es) (c ∷ cs) m =
    (f c m.0, m.1, weaken (Other P c.id) (Other Q c.id) (λ d o. (f d o.0, o.1)) es cs m.2)

pub fits_weaken : (P Q : Call → Type 0) → ((c : Call) → P c → Q c) → (es : List Effect) → FitsPartner P es → FitsPartner Q es
fits_weaken P Q f es fit = (fit.0, weaken P Q f es fit.0 fit.1)

-- two operations are left out in either order
pub turned : (P : Call → Type 0) (m n : ℕ) (c : Call) → Other (Other P m) n c → Other (Other P n) m c
turned P m n c o = ((o.0.0, o.1), o.0.1)

-- one effect more, of one operation more
pub match_insert : (P : Call → Type 0) (es : List Effect) (calls : List Call) (k : ℕ) (e : Effect) (b : Call) → P b
    → MayBe e b → Matches (Other P b.id) es calls → Matches P (insert es k e) (insert calls k b)
match_insert P es calls zero e b on may m = (on, may, m)
match_insert P [] [] (suc k) e b on may m = (on, may, m)
match_insert P [] (c ∷ cs) (suc k) e b on may m = absurd m
match_insert P (f ∷ es) [] (suc k) e b on may m = absurd m
match_insert P (f ∷ es) (c ∷ cs) (suc k) e b on may m = (
  m.0.0,
  m.1,
  match_insert (Other P c.id) es cs k e b (on, λ s. m.0.1 (sym s)) may
      (weaken (Other (Other P b.id) c.id) (Other (Other P c.id) b.id) (turned P b.id c.id) es cs m.2),
)

-- and back
pub match_take : (P : Call → Type 0) (es : List Effect) (k : ℕ) (e : Effect) (calls : List Call)
    → Matches P (insert es k e) calls
    → (b : Call) × (rest : List Call) × (calls ≡ insert rest k b) × P b × MayBe e b × Matches (Other P b.id) es rest
match_take P es zero e [] m = absurd m
match_take P es zero e (c ∷ cs) m = (c, cs, refl, m.0, m.1, m.2)
match_take P [] (suc k) e [] m = absurd m
match_take P [] (suc k) e (c ∷ []) m = (c, [], refl, m.0, m.1, tt)
match_take P [] (suc k) e (c ∷ d ∷ cs) m = absurd m.2
match_take P (f ∷ es) (suc k) e [] m = absurd m
match_take P (f ∷ es) (suc k) e (c ∷ cs) m =
    let r = match_take (Other P c.id) es k e cs m.2 in (
      r.0,
      c ∷ r.1,
      ap (λ (xs : List Call). c ∷ xs) r.2,
      r.3.0,
      r.4,
      (
        (m.0, λ s. r.3.1 (sym s)),
        m.1,
        weaken (Other (Other P c.id) r.0.id) (Other (Other P r.0.id) c.id) (turned P c.id r.0.id) es r.1 r.5,
      ),
    )

-- the names of one effect more
pub named_insert : (P : Call → Type 0) (es : List Effect) (calls : List Call) (k : ℕ) (e : Effect) (b : Call)
    → Matches P es calls
    → named (insert es k e) (insert calls k b) ≡ insert (named es calls) k (record { id = b.id; reply = e.reply })
named_insert P es calls zero e b m = refl
named_insert P [] [] (suc k) e b m = refl
named_insert P [] (c ∷ cs) (suc k) e b m = absurd m
named_insert P (f ∷ es) [] (suc k) e b m = absurd m
named_insert P (f ∷ es) (c ∷ cs) (suc k) e b m =
    let name : NamedEffect = record { id = c.id; reply = f.reply } in
    ap (λ (xs : List NamedEffect). name ∷ xs) (named_insert (Other P c.id) es cs k e b m.2)

-- one more between two lists
pub insert_middle : {A : Type 0} (xs ys : List A) (x : A) → insert (xs ++ ys) (length xs) x ≡ xs ++ x ∷ ys
insert_middle [] ys x = refl
insert_middle {A} (z ∷ xs) ys x = ap (λ (zs : List A). z ∷ zs) (insert_middle xs ys x)

shifted : {A : Type 0} (z : A) (xs : List A) (x y : A) → IsIn xs y ⊎ (x ≡ y) → IsIn (z ∷ xs) y ⊎ (x ≡ y)
shifted z xs x y c = ⊎_elim {C = IsIn (z ∷ xs) y ⊎ (x ≡ y)}
    (λ (on : IsIn xs y). inl (suc on.0, on.1)) (λ (e : x ≡ y). inr e) c

-- what a longer list has
pub insert_from : {A : Type 0} (xs : List A) (k : ℕ) (x y : A) (n : ℕ) → slice_get (insert xs k x) n ≡ Some y
    → IsIn xs y ⊎ (x ≡ y)
insert_from xs zero x y zero h = inr cc
insert_from xs zero x y (suc n) h = inl (n, h)
insert_from [] (suc k) x y zero h = inr cc
insert_from [] (suc k) x y (suc n) h = absurd (let e : None ≡ Some y = h in cc)
insert_from (z ∷ xs) (suc k) x y zero h = inl (zero, h)
insert_from (z ∷ xs) (suc k) x y (suc n) h = shifted z xs x y (insert_from xs k x y n h)

pub insert_new : {A : Type 0} (xs : List A) (k : ℕ) (x : A) → IsIn (insert xs k x) x
insert_new xs zero x = (zero, refl)
insert_new [] (suc k) x = (zero, refl)
insert_new (z ∷ xs) (suc k) x = let r = insert_new xs k x in (suc r.0, r.1)

pub insert_old : {A : Type 0} (xs : List A) (k : ℕ) (x y : A) (n : ℕ) → slice_get xs n ≡ Some y
    → IsIn (insert xs k x) y
insert_old xs zero x y n h = (suc n, h)
insert_old [] (suc k) x y n h = absurd (let e : None ≡ Some y = h in cc)
insert_old (z ∷ xs) (suc k) x y zero h = (zero, h)
insert_old (z ∷ xs) (suc k) x y (suc n) h = let r = insert_old xs k x y n h in (suc r.0, r.1)

-- what is left out is put back
pub insert_back : {A : Type 0} (xs : List A) (n : ℕ) (x : A) → slice_get xs n ≡ Some x
    → xs ≡ insert (remove xs n) n x
insert_back [] n x h = absurd (let e : None ≡ Some x = h in cc)
insert_back {A} (y ∷ xs) zero x h = let e : y ≡ x = cc in ap (λ (z : A). z ∷ xs) e
insert_back {A} (y ∷ xs) (suc n) x h = ap (λ (zs : List A). y ∷ zs) (insert_back xs n x h)

pub remove_from : {A : Type 0} (xs : List A) (k n : ℕ) (y : A) → slice_get (remove xs k) n ≡ Some y → IsIn xs y
remove_from [] zero n y h = absurd (let e : None ≡ Some y = h in cc)
remove_from [] (suc k) n y h = absurd (let e : None ≡ Some y = h in cc)
remove_from (z ∷ xs) zero n y h = (suc n, h)
remove_from (z ∷ xs) (suc k) zero y h = (zero, h)
remove_from (z ∷ xs) (suc k) (suc n) y h = let r = remove_from xs k n y h in (suc r.0, r.1)

-- the operation of an effect, and what is left without both
pub record IsPlaced (P : Call → Type 0) (es : List Effect) (calls : List Call) (n : ℕ) (x : NamedEffect) : Type 0 where
  pub effect : Effect
  pub call : Call
  pub there : slice_get es n ≡ Some effect
  pub at : slice_get calls n ≡ Some call
  pub number : call.id ≡ x.id
  pub reply : effect.reply ≡ x.reply
  pub on : P call
  pub may : MayBe effect call
  pub rest : Matches (Other P call.id) (remove es n) (remove calls n)

pub match_place : (P : Call → Type 0) (es : List Effect) (calls : List Call) (n : ℕ) (x : NamedEffect)
    → Matches P es calls → slice_get (named es calls) n ≡ Some x → IsPlaced P es calls n x
match_place P [] calls n x m h = absurd (let e : None ≡ Some x = h in cc)
match_place P (e ∷ es) [] n x m h = absurd m
match_place P (e ∷ es) (c ∷ cs) zero x m h =
    let first : NamedEffect = record { id = c.id; reply = e.reply } in
    let same : first ≡ x = cc in
    record {
      effect = e;
      call = c;
      there = refl;
      at = refl;
      number = ap (λ (y : NamedEffect). y.id) same;
      reply = ap (λ (y : NamedEffect). y.reply) same;
      on = m.0;
      may = m.1;
      rest = m.2;
    }
match_place P (e ∷ es) (c ∷ cs) (suc n) x m h =
    let r = match_place (Other P c.id) es cs n x m.2 h in
    record {
      effect = r.effect;
      call = r.call;
      there = r.there;
      at = r.at;
      number = r.number;
      reply = r.reply;
      on = r.on.0;
      may = r.may;
      rest = (
        (m.0, λ s. r.on.1 (sym s)),
        m.1,
        weaken (Other (Other P c.id) r.call.id) (Other (Other P r.call.id) c.id) (turned P c.id r.call.id)
            (remove es n) (remove cs n) r.rest,
      );
    }

-- an operation that no effect is of is left for others
pub match_others : (P : Call → Type 0) (es : List Effect) (calls : List Call) (id : ℕ) → Matches P es calls
    → ((x : NamedEffect) → IsIn (named es calls) x → x.id ≡ id → ⊥) → Matches (Other P id) es calls
match_others P [] [] id m none = tt
match_others P [] (c ∷ cs) id m none = absurd m
match_others P (e ∷ es) [] id m none = absurd m
match_others P (e ∷ es) (c ∷ cs) id m none = (
  (m.0, λ s. none (record { id = c.id; reply = e.reply }) (zero, refl) s),
  m.1,
  weaken (Other (Other P c.id) id) (Other (Other P id) c.id) (turned P c.id id) es cs
      (match_others (Other P c.id) es cs id m.2 (λ x on. none x (suc on.0, on.1))),
)

-- an operation is given in place of a newer one that asks the same
pub given : (Q R : Call → Type 0) (p q : Call) (es : List Effect) (calls : List Call)
    → q.operation.op ≡ p.operation.op → q.id ≤ p.id → ((c : Call) → Q c → c.id ≡ p.id → c ≡ p)
    → ((c : Call) → Q c → (c.id ≡ p.id → ⊥) → R c) → R q → ((c : Call) → Q c → c.id ≡ q.id → ⊥)
    → Matches Q es calls → FitsPartner R es
given Q R p q [] [] asks low one rest on apart m = ([], tt)
given Q R p q [] (g ∷ gs) asks low one rest on apart m = absurd m
given Q R p q (f ∷ es) [] asks low one rest on apart m = absurd m
given Q R p q (f ∷ es) (g ∷ gs) asks low one rest on apart m = ⊎_elim {C = FitsPartner R (f ∷ es)}
    (λ (e : g.id ≡ p.id).
    let same = one g m.0 e in
    let early = m.1.early in (
      q ∷ gs,
      (
        on,
        record {
          asks = asks ∙ (ap (λ (c : Call). c.operation.op) (sym same) ∙ m.1.asks);
          early = omega (arith, e, low, early);
        },
        weaken (Other Q g.id) (Other R q.id)
            (λ d o. (rest d o.0 (λ s. o.1 (s ∙ sym e)), λ s. apart d o.0 s)) es gs m.2,
      ),
    ))
    (λ (ne : g.id ≢ p.id).
    let r = given (Other Q g.id) (Other R g.id) p q es gs asks low (λ c o s. one c o.0 s)
    (λ c o other. (rest c o.0 other, o.1)) (on, λ s. apart g m.0 (sym s)) (λ c o s. apart c o.0 s) m.2 in
    (g ∷ r.0, (rest g m.0 ne, m.1, r.1)))
    (cases_eq g.id p.id)

-- the newest operation that the first effect may be of serves the others least
pub newest_first : (P : Call → Type 0) (e : Effect) (es : List Effect) (p : Call)
    → ((c d : Call) → P c → P d → c.id ≡ d.id → c ≡ d) → P p → MayBe e p
    → ((c : Call) → P c → MayBe e c → c.id ≤ p.id) → FitsPartner P (e ∷ es) → FitsPartner (Other P p.id) es
newest_first P e es p one on may newest ([], m) = absurd m
newest_first P e es p one on may newest (q ∷ qs, m) = ⊎_elim {C = FitsPartner (Other P p.id) es}
    (λ (same : q.id ≡ p.id).
    (qs, weaken (Other P q.id) (Other P p.id) (λ d o. (o.0, λ s. o.1 (s ∙ sym same))) es qs m.2))
    (λ (ne : q.id ≢ p.id).
    given (Other P q.id) (Other P p.id) p q es qs (m.1.asks ∙ sym may.asks) (newest q m.0 m.1)
    (λ c o s. one c p o.0 on s) (λ c o other. (o.0, other)) (m.0, ne) (λ c o s. o.1 s) m.2)
    (cases_eq q.id p.id)

pub newest_back : (P : Call → Type 0) (e : Effect) (es : List Effect) (p : Call) → P p → MayBe e p
    → FitsPartner (Other P p.id) es → FitsPartner P (e ∷ es)
newest_back P e es p on may fit = (p ∷ fit.0, (on, may, fit.1))
