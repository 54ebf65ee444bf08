-- The answers of a processor from a bank are of a beginning of its services there.
use Rattle.std.proofs.Common.{◌≡◌, ◌≢◌, ⊎_elim, ℕ, zero, suc, ◌+◌, ◌<◌, ◌==◌, true, List, [], ◌∷◌, ◌++◌, map, Some, refl, sym, ◌∙◌, ap, ap₂, arith, slice_get}
use Rattle.std.proofs.Common.{eq-eqb, zero-add}
use Rattle.std.specs.Prelude.{filter}
use Rattle.std.proofs.lemmas.Bool.{cases_eq, ne_eqb, cond-true, cond-false}
use Rattle.std.proofs.lemmas.Option.{same_Some}
use Rattle.packet.specs.declared.kinds.Op.{Op}
use Rattle.packet.specs.declared.kinds.Reply.{Reply}
use Rattle.home_bank.specs.declared.entry.Entry.{Entry}
use Rattle.one_order.specs.declared.answer.Answer.{Answer}
use Rattle.one_order.specs.declared.ordered.Ordered.{Ordered}
use Rattle.one_order.specs.Observed.{Run, list_at}
use Rattle.one_order.specs.OneOrder.{HasOneOrder}
use Rattle.one_order.specs.Consequences.{services_of, AnswersInTurn}
use Rattle.one_order.proofs.Naming.{answers_name}

-- each entry of p is one of its services
record Stands (p first : ℕ) (entries : List Entry) (place : ℕ) (e : Entry) : Type 0 where
  pub k : ℕ
  pub there : slice_get (services_of p first entries) k ≡ Some (first + place, e)

stands : (p first : ℕ) (entries : List Entry) (place : ℕ) (e : Entry) → slice_get entries place ≡ Some e → e.source ≡ p → Stands p first entries place e
stands p first [] place e h of = absurd (cc)
stands p first (x ∷ entries) zero e h of =
    let same : x ≡ e = same_Some x e h in
    let mine : (x.source == p) ≡ true = eq-eqb x.source p (ap (λ (y : Entry). y.source) same ∙ of) in
    let at : first ≡ first + 0 = omega arith in
    record {
      k = 0;
      there = ap (λ xs. slice_get xs 0) (cond-true (x.source == p) ((first, x) ∷ services_of p (first + 1) entries) (services_of p (first + 1) entries) mine)
          ∙ (ap (λ n. Some (n, x)) at ∙ ap (λ y. Some (first + 0, y)) same);
    }
stands p first (x ∷ entries) (suc place) e h of =
    let rest = stands p (first + 1) entries place e h of in
    let at : first + 1 + place ≡ first + suc place = omega arith in
    let there : slice_get (services_of p (first + 1) entries) rest.k ≡ Some (first + suc place, e) = rest.there ∙ ap (λ n. Some (n, e)) at in
    ⊎_elim
    (λ (mine : x.source ≡ p). record {
      k = suc rest.k;
      there = ap (λ xs. slice_get xs (suc rest.k))
          (cond-true (x.source == p) ((first, x) ∷ services_of p (first + 1) entries) (services_of p (first + 1) entries) (eq-eqb x.source p mine)) ∙ there;
    })
    (λ (other : x.source ≢ p). record {
      k = rest.k;
      there = ap (λ xs. slice_get xs rest.k)
          (cond-false (x.source == p) ((first, x) ∷ services_of p (first + 1) entries) (services_of p (first + 1) entries) (ne_eqb x.source p other)) ∙ there;
    })
    (cases_eq x.source p)

-- each of p's services is an entry of p
record IsEntry (p first : ℕ) (entries : List Entry) (place : ℕ) (e : Entry) : Type 0 where
  pub at : ℕ
  pub place_is : place ≡ first + at
  pub there : slice_get entries at ≡ Some e
  pub source : e.source ≡ p

is_entry : (p first : ℕ) (entries : List Entry) (k place : ℕ) (e : Entry) → slice_get (services_of p first entries) k ≡ Some (place, e)
    → IsEntry p first entries place e
is_entry p first [] k place e h = absurd (cc)
is_entry p first (x ∷ entries) k place e h = ⊎_elim
    (λ (mine : x.source ≡ p). head (λ j g. is_entry p (first + 1) entries j place e g) k
    (ap (λ xs. slice_get xs k)
    (sym (cond-true (x.source == p) ((first, x) ∷ services_of p (first + 1) entries) (services_of p (first + 1) entries) (eq-eqb x.source p mine))) ∙ h)
    mine)
    (λ (other : x.source ≢ p). later
    (is_entry p (first + 1) entries k place e
    (ap (λ xs. slice_get xs k)
    (sym (cond-false (x.source == p) ((first, x) ∷ services_of p (first + 1) entries) (services_of p (first + 1) entries) (ne_eqb x.source p other)))
    ∙ h)))
    (cases_eq x.source p)
  where
    later : IsEntry p (first + 1) entries place e → IsEntry p first (x ∷ entries) place e
    later old =
        let moved = old.place_is in
        record { at = suc old.at; place_is = omega arith; there = old.there; source = old.source }

    head : ((j : ℕ) → slice_get (services_of p (first + 1) entries) j ≡ Some (place, e) → IsEntry p (first + 1) entries place e)
        → (j : ℕ) → slice_get ((first, x) ∷ services_of p (first + 1) entries) j ≡ Some (place, e) → x.source ≡ p → IsEntry p first (x ∷ entries) place e
    head rest zero g mine =
        let same : ◌≡◌ {A = ℕ × Entry} (first, x) (place, e) = same_Some _ _ g in
        let at : first ≡ place = ap (λ (y : ℕ × Entry). y.0) same in
        let is : x ≡ e = ap (λ (y : ℕ × Entry). y.1) same in
        record { at = 0; place_is = omega arith; there = ap Some is; source = ap (λ (y : Entry). y.source) (sym is) ∙ mine }
    head rest (suc j) g mine = later (rest j g)

-- the services stand in the order of their places
rising : (p first : ℕ) (entries : List Entry) (j k : ℕ) (x y : ℕ × Entry) → j < k → slice_get (services_of p first entries) j ≡ Some x
    → slice_get (services_of p first entries) k ≡ Some y → x.0 < y.0
rising p first [] j k x y l hj hk = absurd (cc)
rising p first (e ∷ entries) j k x y l hj hk = ⊎_elim
    (λ (mine : e.source ≡ p).
    let list : services_of p first (e ∷ entries) ≡ (first, e) ∷ services_of p (first + 1) entries =
    cond-true (e.source == p) ((first, e) ∷ services_of p (first + 1) entries) (services_of p (first + 1) entries) (eq-eqb e.source p mine) in
    head (λ i m below hi hm. rising p (first + 1) entries i m x y below hi hm) j k l (ap (λ xs. slice_get xs j) (sym list) ∙ hj)
    (ap (λ xs. slice_get xs k) (sym list) ∙ hk))
    (λ (other : e.source ≢ p).
    let list : services_of p first (e ∷ entries) ≡ services_of p (first + 1) entries =
    cond-false (e.source == p) ((first, e) ∷ services_of p (first + 1) entries) (services_of p (first + 1) entries) (ne_eqb e.source p other) in
    rising p (first + 1) entries j k x y l (ap (λ xs. slice_get xs j) (sym list) ∙ hj) (ap (λ xs. slice_get xs k) (sym list) ∙ hk))
    (cases_eq e.source p)
  where
    head : ((i m : ℕ) → i < m → slice_get (services_of p (first + 1) entries) i ≡ Some x → slice_get (services_of p (first + 1) entries) m ≡ Some y → x.0 < y.0)
        → (i m : ℕ) → i < m → slice_get ((first, e) ∷ services_of p (first + 1) entries) i ≡ Some x
        → slice_get ((first, e) ∷ services_of p (first + 1) entries) m ≡ Some y → x.0 < y.0
    head rest i zero below hi hm = absurd (omega arith)
    head rest zero (suc m) below hi hm =
        let at = is_entry p (first + 1) entries m y.0 y.1 hm in
        let place = at.place_is in
        let first_is : first ≡ x.0 = ap (λ (z : ℕ × Entry). z.0) (same_Some (first, e) x hi) in
        omega arith
    head rest (suc i) (suc m) below hi hm = rest i m (omega arith) hi hm

-- a service that an answer tells: where it stands, and its entry
record Tells (services : List (ℕ × Entry)) (a : Answer) : Type 0 where
  pub k : ℕ
  pub entry : Entry
  pub there : slice_get services k ≡ Some (a.place, entry)
  pub op : entry.op ≡ a.op
  pub reply : entry.reply ≡ a.reply

-- the service of a place is told by one of the first i answers of bank b
record Before (b : ℕ) (answers : List Answer) (i place : ℕ) : Type 0 where
  pub j : ℕ
  pub answer : Answer
  pub below : j < i
  pub there : slice_get answers j ≡ Some answer
  pub bank : answer.bank ≡ b
  pub place_is : answer.place ≡ place

-- the answers of bank b among some tell services, each one, and the earlier ones first
record AreTold (b : ℕ) (answers : List Answer) (services : List (ℕ × Entry)) : Type 0 where
  pub tells : (i : ℕ) (a : Answer) → slice_get answers i ≡ Some a → a.bank ≡ b → Tells services a
  pub turns : (i k : ℕ) (a : Answer) (x : ℕ × Entry) → slice_get answers i ≡ Some a → a.bank ≡ b → slice_get services k ≡ Some x → x.0 < a.place
      → Before b answers i x.0
  pub apart : (i j : ℕ) (a c : Answer) → slice_get answers i ≡ Some a → slice_get answers j ≡ Some c → a.bank ≡ b → c.bank ≡ b → a.place ≡ c.place → i ≡ j
  pub rises : (j k : ℕ) (x y : ℕ × Entry) → j < k → slice_get services j ≡ Some x → slice_get services k ≡ Some y → x.0 < y.0

abbrev seen : ℕ × Entry → ℕ × Op × Reply
seen x = (x.0, x.1.op, x.1.reply)

abbrev brought : Answer → ℕ × Op × Reply
brought a = (a.place, a.op, a.reply)

record Splits (b : ℕ) (answers : List Answer) (services : List (ℕ × Entry)) : Type 0 where
  pub answered : List (ℕ × Entry)
  pub waiting : List (ℕ × Entry)
  pub are : services ≡ answered ++ waiting
  pub told : map {B = ℕ × Op × Reply} brought (filter (λ a. a.bank == b) answers) ≡ map {B = ℕ × Op × Reply} seen answered

-- without an answer of another bank
without_other : (b : ℕ) (a : Answer) (answers : List Answer) (services : List (ℕ × Entry)) → a.bank ≢ b → AreTold b (a ∷ answers) services
    → AreTold b answers services
without_other b a answers services other t = record {
  tells = λ i c h bank. t.tells (suc i) c h bank;
  turns = λ i k c x h bank hx l. back i x.0 (t.turns (suc i) k c x h bank hx l);
  apart = λ i j c d hi hj bi bj same. let e = t.apart (suc i) (suc j) c d hi hj bi bj same in omega arith;
  rises = t.rises;
}
  where
    back : (i place : ℕ) → Before b (a ∷ answers) (suc i) place → Before b answers i place
    back i place h = back_at i place h.j h.below h.answer h.there h.bank h.place_is
      where
        back_at : (i place j : ℕ) → j < suc i → (c : Answer) → slice_get (a ∷ answers) j ≡ Some c → c.bank ≡ b → c.place ≡ place → Before b answers i place
        back_at i place zero l c there bank is = absurd (other (ap (λ (z : Answer). z.bank) (same_Some a c there) ∙ bank))
        back_at i place (suc j) l c there bank is = record { j = j; answer = c; below = omega arith; there = there; bank = bank; place_is = is }

-- the first answer tells the first service
first_told : (b : ℕ) (a : Answer) (answers : List Answer) (x : ℕ × Entry) (services : List (ℕ × Entry)) → a.bank ≡ b → AreTold b (a ∷ answers) (x ∷ services)
    → (entry : Entry) (k : ℕ) → slice_get (x ∷ services) k ≡ Some (a.place, entry) → x ≡ (a.place, entry)
first_told b a answers x services mine t entry zero h = same_Some x (a.place, entry) h
first_told b a answers x services mine t entry (suc k) h =
    let less = t.rises 0 (suc k) x (a.place, entry) (omega arith) refl h in
    let before = t.turns 0 0 a x refl mine refl less in
    let none = before.below in
    absurd (omega arith)

-- without the first answer and its service
without_first : (b : ℕ) (a : Answer) (answers : List Answer) (x : ℕ × Entry) (services : List (ℕ × Entry)) → a.bank ≡ b → x.0 ≡ a.place
    → AreTold b (a ∷ answers) (x ∷ services) → AreTold b answers services
without_first b a answers x services mine here t = record {
  tells = λ i c h bank. let old = t.tells (suc i) c h bank in tells_at i c h bank old.k old.entry old.there old.op old.reply;
  turns = λ i k c y h bank hy l. let old = t.turns (suc i) (suc k) c y h bank hy l in
      let more = t.rises 0 (suc k) x y (omega arith) refl hy in
      turns_at i y.0 (omega arith) old.j old.below old.answer old.there old.bank old.place_is;
  apart = λ i j c d hi hj bi bj same. let e = t.apart (suc i) (suc j) c d hi hj bi bj same in omega arith;
  rises = λ j k y z l hj hk. t.rises (suc j) (suc k) y z (omega arith) hj hk;
}
  where
    tells_at : (i : ℕ) (c : Answer) → slice_get answers i ≡ Some c → c.bank ≡ b → (k : ℕ) (e : Entry) → slice_get (x ∷ services) k ≡ Some (c.place, e)
        → e.op ≡ c.op → e.reply ≡ c.reply → Tells services c
    tells_at i c h bank zero e there op reply =
        let same : x.0 ≡ c.place = ap (λ (y : ℕ × Entry). y.0) (same_Some x (c.place, e) there) in
        let no = t.apart (suc i) 0 c a h refl bank mine (sym same ∙ here) in
        absurd (omega arith)
    tells_at i c h bank (suc k) e there op reply = record { k = k; entry = e; there = there; op = op; reply = reply }

    turns_at : (i place : ℕ) → x.0 < place → (j : ℕ) → j < suc i → (c : Answer) → slice_get (a ∷ answers) j ≡ Some c → c.bank ≡ b → c.place ≡ place
        → Before b answers i place
    turns_at i place more zero l c there bank is =
        let same : a.place ≡ c.place = ap (λ (z : Answer). z.place) (same_Some a c there) in
        absurd (omega arith)
    turns_at i place more (suc j) l c there bank is = record { j = j; answer = c; below = omega arith; there = there; bank = bank; place_is = is }

with_first : (b : ℕ) (a : Answer) (answers : List Answer) (services : List (ℕ × Entry)) → a.bank ≡ b → AreTold b (a ∷ answers) services
    → ((rest : List (ℕ × Entry)) → AreTold b answers rest → Splits b answers rest) → Splits b (a ∷ answers) services
with_first b a answers [] mine t more =
    let told = t.tells 0 a refl mine in
    let none = told.there in
    absurd (cc)
with_first b a answers (x ∷ services) mine t more =
    let told = t.tells 0 a refl mine in
    let is = first_told b a answers x services mine t told.entry told.k told.there in
    let here : x.0 ≡ a.place = ap (λ (y : ℕ × Entry). y.0) is in
    let rest = more services (without_first b a answers x services mine here t) in
    let same : brought a ≡ seen x =
    sym (ap seen is ∙ (ap (λ (o : Op). (a.place, o, told.entry.reply)) told.op ∙ ap (λ (r : Reply). (a.place, a.op, r)) told.reply)) in
    record {
      answered = x ∷ rest.answered;
      waiting = rest.waiting;
      are = ap (λ xs. x ∷ xs) rest.are;
      told = ap (map {B = ℕ × Op × Reply} brought)
          (cond-true (a.bank == b) (a ∷ filter (λ c. c.bank == b) answers) (filter (λ c. c.bank == b) answers) (eq-eqb a.bank b mine))
          ∙ ap₂ (λ (y : ℕ × Op × Reply) (ys : List (ℕ × Op × Reply)). y ∷ ys) same rest.told;
    }

splits : (b : ℕ) (answers : List Answer) (services : List (ℕ × Entry)) → AreTold b answers services → Splits b answers services
splits b [] services t = record { answered = []; waiting = services; are = refl; told = refl }
splits b (a ∷ answers) services t = ⊎_elim
    (λ (mine : a.bank ≡ b). with_first b a answers services mine t (λ rest told. splits b answers rest told))
    (λ (other : a.bank ≢ b).
    let rest = splits b answers services (without_other b a answers services other t) in
    record {
      answered = rest.answered;
      waiting = rest.waiting;
      are = rest.are;
      told = ap (map {B = ℕ × Op × Reply} brought)
          (cond-false (a.bank == b) (a ∷ filter (λ c. c.bank == b) answers) (filter (λ c. c.bank == b) answers) (ne_eqb a.bank b other)) ∙ rest.told;
    })
    (cases_eq a.bank b)

-- Answers come in turn.
pub answers_in_turn : (tiles tags : ℕ) (opening : List ℕ) (run : Run) (n : ℕ) (rows : List Ordered) → HasOneOrder tiles tags opening run n rows → (b p : ℕ)
    → AnswersInTurn (run n) b p
answers_in_turn tiles tags opening run n rows one b p =
    let names = answers_name tiles tags opening run n rows one in
    let entries : List Entry = list_at (run n).entries b in
    let answers : List Answer = list_at (run n).answers p in
    let told : AreTold b answers (services_of p 0 entries) = record {
      tells = λ i a h bank.
          let at = names.named p i a h in
          let there : slice_get entries a.place ≡ Some at.entry = ap (λ c. slice_get (list_at (run n).entries c) a.place) (sym bank) ∙ at.there in
          let stands_at = stands p 0 entries a.place at.entry there at.source in
          record { k = stands_at.k; entry = at.entry; there = stands_at.there ∙ ap (λ m. Some (m, at.entry)) (zero-add a.place); op = at.op; reply = at.reply };
      turns = λ i k a x h bank hx l.
          let at = is_entry p 0 entries k x.0 x.1 hx in
          let place : x.0 ≡ at.at = at.place_is ∙ zero-add at.at in
          let there : slice_get (list_at (run n).entries a.bank) x.0 ≡ Some x.1 =
          ap (λ c. slice_get (list_at (run n).entries c) x.0) bank ∙ (ap (slice_get entries) place ∙ at.there) in
          let before = one.services.answer_turns p i x.0 a x.1 h l there at.source in
          record { j = before.0; answer = before.1; below = before.2; there = before.3; bank = before.4 ∙ bank; place_is = before.5 };
      apart = λ i j a c hi hj bi bj same. (names.apart p p i j a c hi hj (bi ∙ sym bj) same).1;
      rises = rising p 0 entries;
    } in
    let parts = splits b answers (services_of p 0 entries) told in
    record { answered = parts.answered; waiting = parts.waiting; are = parts.are; told = parts.told }
