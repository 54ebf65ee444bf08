-- Which entry a row and an answer name.
use Rattle.std.proofs.Common.{◌≡◌, ℕ, zero, suc, ◌%◌, ◌==◌, Bool, true, cond, List, [], ◌∷◌, length, take, Some, refl, sym, ◌∙◌, ap, subst, arith, slice_get}
use Rattle.std.proofs.Common.{eq-eqb}
use Rattle.std.specs.Prelude.{count_by}
use Rattle.std.proofs.lemmas.Bool.{eqb-true}
use Rattle.std.proofs.lemmas.Option.{slice_get_within, same_Some}
use Rattle.packet.specs.declared.kinds.Op.{Op}
use Rattle.packet.specs.declared.kinds.Operation.{Operation}
use Rattle.packet.specs.Memory.{replies}
use Rattle.home_bank.specs.declared.entry.Entry.{Entry}
use Rattle.one_order.specs.declared.answer.Answer.{Answer}
use Rattle.one_order.specs.declared.ordered.Ordered.{Ordered}
use Rattle.one_order.specs.Observed.{Run, list_at, HasAnswered}
use Rattle.one_order.specs.Order.{LinearizationPoint, operations_of, home, count_at}
use Rattle.one_order.specs.Rows.{IsAnswerNumber}
use Rattle.one_order.specs.OneOrder.{HasOneOrder}
use Rattle.one_order.specs.Consequences.{NamesEntry, EntryStands, AnswerNamesEntry, AnswersNameEntries, AnswersAreNumbered}
use Rattle.home_bank.specs.MemoryReplay.{entry_operation}
use Rattle.one_order.proofs.Lists.{within_length, list_within}
use Rattle.one_order.proofs.Growth.{kept_along}
use Rattle.one_order.proofs.Counting.{count_cons, count_apart, nth}
use Rattle.one_order.proofs.EventNumbers.{point_of}

-- a point at home in b
abbrev pub at_home : ℕ → ℕ → LinearizationPoint → Bool
at_home tiles b x = home tiles x.operation == b

pub is_at_home : (tiles b : ℕ) (x : LinearizationPoint) → home tiles x.operation ≡ b → at_home tiles b x ≡ true
is_at_home tiles b x h = eq-eqb (home tiles x.operation) b h

-- one home and one place: one point
pub one_point : (tiles : ℕ) (order : List LinearizationPoint) (j k b : ℕ) (x y : LinearizationPoint) → slice_get order j ≡ Some x → slice_get order k ≡ Some y
    → home tiles x.operation ≡ b → home tiles y.operation ≡ b → count_at tiles b (take j order) ≡ count_at tiles b (take k order) → j ≡ k
one_point tiles order j k b x y hj hk bx by same = count_apart (at_home tiles b) order j k x y hj hk (is_at_home tiles b x bx) (is_at_home tiles b y by) same

pub same_point : (order : List LinearizationPoint) (j k : ℕ) (x y : LinearizationPoint) → slice_get order j ≡ Some x → slice_get order k ≡ Some y → j ≡ k
    → x ≡ y
same_point order j k x y hj hk same = same_Some x y (sym (subst (λ (i : ℕ). slice_get order i ≡ Some x) same hj) ∙ hk)

pub same_operation : (e : Entry) (o : Operation) → e.address ≡ o.address → e.op ≡ o.op → entry_operation e ≡ o
same_operation e o address op =
    let by_address : ℕ → Operation = λ a. record { address = a; op = e.op } in
    let by_op : Op → Operation = λ q. record { address = o.address; op = q } in
    ap by_address address ∙ ap by_op op

-- the point that an entry is of
pub record PointOfEntry (tiles : ℕ) (opening : List ℕ) (order : List LinearizationPoint) (b place : ℕ) (e : Entry) : Type 0 where
  pub k : ℕ
  pub point : LinearizationPoint
  pub there : slice_get order k ≡ Some point
  pub bank : home tiles point.operation ≡ b
  pub before : count_at tiles b (take k order) ≡ place
  pub source : e.source ≡ point.source
  pub operation : entry_operation e ≡ point.operation
  pub reply : slice_get (replies (operations_of order) opening) k ≡ Some e.reply

pub point_of_entry : (tiles tags : ℕ) (opening : List ℕ) (run : Run) (n : ℕ) (rows : List Ordered) (one : HasOneOrder tiles tags opening run n rows)
    (b place : ℕ) (e : Entry)
    → slice_get (list_at (run n).entries b) place ≡ Some e → PointOfEntry tiles opening one.order b place e
point_of_entry tiles tags opening run n rows one b place e h =
    let count = one.services.no_others b in
    let within = slice_get_within (list_at (run n).entries b) place e h in
    let at = nth (at_home tiles b) one.order place (omega arith) in
    let x : LinearizationPoint = at.element in
    let bank : home tiles x.operation ≡ b = eqb-true (home tiles x.operation) b at.passes in
    let was = one.services.served at.k x at.there in
    let there : slice_get (list_at (run n).entries b) place ≡ Some was.entry =
    subst (λ (j : ℕ). slice_get (list_at (run n).entries b) j ≡ Some was.entry) at.counts
    (subst (λ (c : ℕ). slice_get (list_at (run n).entries c) (count_at tiles c (take at.k one.order)) ≡ Some was.entry) bank was.there) in
    let same : was.entry ≡ e = same_Some was.entry e (sym there ∙ h) in
    record {
      k = at.k;
      point = x;
      there = at.there;
      bank = bank;
      before = at.counts;
      source = ap (λ (y : Entry). y.source) (sym same) ∙ was.source;
      operation = ap entry_operation (sym same) ∙ same_operation was.entry x.operation was.address was.op;
      reply = was.reply ∙ ap (λ (y : Entry). Some y.reply) same;
    }

-- the entry that a row names
pub names_entry : (tiles tags : ℕ) (opening : List ℕ) (run : Run) (n : ℕ) (rows : List Ordered) → HasOneOrder tiles tags opening run n rows
    → (k : ℕ) (row : Ordered) → slice_get rows k ≡ Some row → NamesEntry (run n) row
names_entry tiles tags opening run n rows one k row h =
    let at = point_of tiles run n one.order rows one.numbered k row h in
    let x : LinearizationPoint = at.point in
    let was = one.services.served k x at.there in
    let issued = one.legal.issued k x at.there in
    let operation = same_operation was.entry x.operation was.address was.op in
    record {
      entry = was.entry;
      there = ap (λ b. slice_get (list_at (run n).entries b) row.place) at.is.bank
          ∙ (ap (slice_get (list_at (run n).entries (home tiles x.operation))) at.is.place ∙ was.there);
      source = was.source ∙ sym at.is.source;
      operation = ap (λ p. slice_get (list_at (run n).issued p) row.index) at.is.source
          ∙ (ap (slice_get (list_at (run n).issued x.source)) at.is.index ∙ (issued.operation ∙ ap (λ (o : Operation). Some o) (sym operation)));
    }

pub row_of_entry : (tiles tags : ℕ) (opening : List ℕ) (run : Run) (n : ℕ) (rows : List Ordered) → HasOneOrder tiles tags opening run n rows
    → (b place : ℕ) (e : Entry) → slice_get (list_at (run n).entries b) place ≡ Some e
    → (k : ℕ) × (row : Ordered) × (slice_get rows k ≡ Some row) × (row.bank ≡ b) × (row.place ≡ place)
row_of_entry tiles tags opening run n rows one b place e h =
    let at = point_of_entry tiles tags opening run n rows one b place e h in
    let within = slice_get_within one.order at.k at.point at.there in
    let count = one.numbered.count in
    let row = within_length rows at.k (omega arith) in
    let is = one.numbered.each at.k at.point row.0 at.there row.1 in
    (at.k, row.0, row.1, is.bank ∙ at.bank, is.place ∙ (ap (λ c. count_at tiles c (take at.k one.order)) at.bank ∙ at.before))

pub rows_apart : (tiles tags : ℕ) (opening : List ℕ) (run : Run) (n : ℕ) (rows : List Ordered) → HasOneOrder tiles tags opening run n rows
    → (j k : ℕ) (x y : Ordered) → slice_get rows j ≡ Some x → slice_get rows k ≡ Some y → x.bank ≡ y.bank → x.place ≡ y.place → j ≡ k
rows_apart tiles tags opening run n rows one j k x y hj hk bank place =
    let a = point_of tiles run n one.order rows one.numbered j x hj in
    let c = point_of tiles run n one.order rows one.numbered k y hk in
    let homes : home tiles a.point.operation ≡ home tiles c.point.operation = sym a.is.bank ∙ (bank ∙ c.is.bank) in
    let counts : count_at tiles (home tiles c.point.operation) (take j one.order) ≡ count_at tiles (home tiles c.point.operation) (take k one.order) =
    ap (λ b. count_at tiles b (take j one.order)) (sym homes) ∙ (sym a.is.place ∙ (place ∙ c.is.place)) in
    one_point tiles one.order j k (home tiles c.point.operation) a.point c.point a.there c.there homes refl counts

-- rows and points of one bank are as many
same_counts : (tiles b : ℕ) (rows : List Ordered) (order : List LinearizationPoint) (k : ℕ) → length rows ≡ length order
    → ((j : ℕ) (x : LinearizationPoint) (row : Ordered) → slice_get order j ≡ Some x → slice_get rows j ≡ Some row → row.bank ≡ home tiles x.operation)
    → count_by (λ (r : Ordered). r.bank == b) (take k rows) ≡ count_at tiles b (take k order)
same_counts tiles b rows order zero l banks = refl
same_counts tiles b [] [] (suc k) l banks = refl
same_counts tiles b [] (x ∷ order) (suc k) l banks = absurd (omega arith)
same_counts tiles b (row ∷ rows) [] (suc k) l banks = absurd (omega arith)
same_counts tiles b (row ∷ rows) (x ∷ order) (suc k) l banks =
    let first : cond {A = ℕ} (row.bank == b) 1 0 ≡ cond {A = ℕ} (home tiles x.operation == b) 1 0 =
    ap (λ c. cond {A = ℕ} (c == b) 1 0) (banks 0 x row refl refl) in
    omega (
      arith,
      first,
      count_cons (λ (r : Ordered). r.bank == b) row (take k rows),
      count_cons (at_home tiles b) x (take k order),
      same_counts tiles b rows
          order k (omega arith) (λ j. banks (suc j)),
    )

pub places_rise : (tiles tags : ℕ) (opening : List ℕ) (run : Run) (n : ℕ) (rows : List Ordered) → HasOneOrder tiles tags opening run n rows
    → (k : ℕ) (row : Ordered) → slice_get rows k ≡ Some row → row.place ≡ count_by (λ (r : Ordered). r.bank == row.bank) (take k rows)
places_rise tiles tags opening run n rows one k row h =
    let at = point_of tiles run n one.order rows one.numbered k row h in
    at.is.place ∙ (ap (λ b. count_at tiles b (take k one.order)) (sym at.is.bank)
    ∙ sym (same_counts tiles row.bank rows one.order k one.numbered.count (λ j x r hx hr. (one.numbered.each j x r hx hr).bank)))

-- the service that an answer names is that of its operation
pub record AnswerPlace (tiles : ℕ) (order : List LinearizationPoint) (k : ℕ) (x : LinearizationPoint) (a : Answer) : Type 0 where
  pub bank : a.bank ≡ home tiles x.operation
  pub place : a.place ≡ count_at tiles (home tiles x.operation) (take k order)

pub answer_place : (tiles tags : ℕ) (opening : List ℕ) (run : Run) (n : ℕ) (rows : List Ordered) (one : HasOneOrder tiles tags opening run n rows) (p i k : ℕ)
    (x : LinearizationPoint) (a : Answer)
    → slice_get (list_at (run n).answers p) i ≡ Some a → slice_get one.order k ≡ Some x → x.source ≡ p → x.index ≡ a.index → AnswerPlace tiles one.order k x a
answer_place tiles tags opening run n rows one p i k x a h there source index =
    let names = one.services.places p i a h in
    let same = one.legal.distinct names.k k names.point x names.there there (names.source ∙ sym source) (names.index ∙ sym index) in
    let point = same_point one.order names.k k names.point x names.there there same in
    let bank : a.bank ≡ home tiles x.operation = names.bank ∙ ap (λ (y : LinearizationPoint). home tiles y.operation) point in
    record {
      bank = bank;
      place =
          names.place ∙ (ap (λ b. count_at tiles b (take names.k one.order)) bank ∙ ap (λ j. count_at tiles (home tiles x.operation) (take j one.order)) same);
    }

-- and names no other's
pub answer_point : (tiles tags : ℕ) (opening : List ℕ) (run : Run) (n : ℕ) (rows : List Ordered) (one : HasOneOrder tiles tags opening run n rows) (p i k : ℕ)
    (x : LinearizationPoint) (a : Answer)
    → slice_get (list_at (run n).answers p) i ≡ Some a → slice_get one.order k ≡ Some x → AnswerPlace tiles one.order k x a
    → (x.source ≡ p) × (x.index ≡ a.index)
answer_point tiles tags opening run n rows one p i k x a h there at =
    let names = one.services.places p i a h in
    let b : ℕ = home tiles x.operation in
    let counts : count_at tiles b (take names.k one.order) ≡ count_at tiles b (take k one.order) =
    ap (λ c. count_at tiles c (take names.k one.order)) (sym at.bank) ∙ (sym names.place ∙ at.place) in
    let same = one_point tiles one.order names.k k b names.point x names.there there (sym names.bank ∙ at.bank) refl counts in
    let point = same_point one.order names.k k names.point x names.there there same in
    (ap (λ (y : LinearizationPoint). y.source) (sym point) ∙ names.source, ap (λ (y : LinearizationPoint). y.index) (sym point) ∙ names.index)

pub answers_numbered : (tiles tags : ℕ) (opening : List ℕ) (run : Run) (n : ℕ) (rows : List Ordered) → HasOneOrder tiles tags opening run n rows
    → AnswersAreNumbered (run n) rows
answers_numbered tiles tags opening run n rows one = record {
  answered = λ k m row h g.
      let at = point_of tiles run n one.order rows one.numbered k row h in
      let x : LinearizationPoint = at.point in
      let number : IsAnswerNumber run n x.source x.index (Some m) = subst (IsAnswerNumber run n x.source x.index) g at.is.answered in
      let first = number.2.holds in
      let a : Answer = first.1 in
      let there : slice_get (list_at (run n).answers x.source) first.0 ≡ Some a =
      kept_along (λ t. list_at (run t).answers x.source) n (λ t j y l q. one.grows.answers_stay t x.source j y l q) number.0 n first.0 a number.1 (omega arith)
      first.2 in
      let named = answer_place tiles tags opening run n rows one x.source first.0 k x a there at.there refl (sym first.3) in (
        first.0,
        a,
        ap (λ p. slice_get (list_at (run n).answers p) first.0) at.is.source ∙ there,
        first.3 ∙ sym at.is.index,
        named.bank
            ∙ sym at.is.bank,
        named.place ∙ sym at.is.place,
      );
  unanswered = λ k p i row a h g there bank place.
      let at = point_of tiles run n one.order rows one.numbered k row h in
      let x : LinearizationPoint = at.point in
      let none : HasAnswered (run n) x.source x.index → ⊥ = subst (IsAnswerNumber run n x.source x.index) g at.is.answered in
      let is = answer_point tiles tags opening run n rows one p i k x a there at.there (record { bank = bank ∙ at.is.bank; place = place ∙ at.is.place }) in
      none (i, a, ap (λ q. slice_get (list_at (run n).answers q) i) is.0 ∙ there, sym is.1);
}

answer_names : (tiles tags : ℕ) (opening : List ℕ) (run : Run) (n : ℕ) (rows : List Ordered) → HasOneOrder tiles tags opening run n rows
    → (p i : ℕ) (a : Answer) → slice_get (list_at (run n).answers p) i ≡ Some a → AnswerNamesEntry (run n) p a
answer_names tiles tags opening run n rows one p i a h =
    let effect = one.legal.answered p i a h in
    let x : LinearizationPoint = effect.point in
    let named = answer_place tiles tags opening run n rows one p i effect.k x a h effect.there effect.source effect.index in
    let was = one.services.served effect.k x effect.there in
    let issued = one.legal.issued effect.k x effect.there in
    let operation = same_operation was.entry x.operation was.address was.op in
    record {
      entry = was.entry;
      there = ap (λ b. slice_get (list_at (run n).entries b) a.place) named.bank
          ∙ (ap (slice_get (list_at (run n).entries (home tiles x.operation))) named.place ∙ was.there);
      source = was.source ∙ effect.source;
      op = was.op ∙ sym effect.op;
      reply = same_Some was.entry.reply a.reply (sym was.reply ∙ effect.reply);
      operation = ap (λ q. slice_get (list_at (run n).issued q) a.index) (sym effect.source)
          ∙ (ap (slice_get (list_at (run n).issued x.source)) (sym effect.index) ∙ (issued.operation ∙ ap (λ (o : Operation). Some o) (sym operation)));
    }

pub answers_name : (tiles tags : ℕ) (opening : List ℕ) (run : Run) (n : ℕ) (rows : List Ordered) → HasOneOrder tiles tags opening run n rows
    → AnswersNameEntries (run n)
answers_name tiles tags opening run n rows one = record {
  named = answer_names tiles tags opening run n rows one;
  once = one.services.once;
  apart = λ p q i j a c hi hj bank place.
      let effect = one.legal.answered p i a hi in
      let named = answer_place tiles tags opening run n rows one p i effect.k effect.point a hi effect.there effect.source effect.index in
      let other = answer_point tiles tags opening run n rows one q j effect.k effect.point c hj effect.there
      (record { bank = sym bank ∙ named.bank; place = sym place ∙ named.place }) in
      let same : p ≡ q = sym effect.source ∙ other.0 in
      (same, one.services.once q i j a c (ap (λ r. slice_get (list_at (run n).answers r) i) (sym same) ∙ hi) hj (sym effect.index ∙ other.1));
}

pub entry_stands : (tiles tags : ℕ) (opening : List ℕ) (run : Run) (n : ℕ) (rows : List Ordered) → HasOneOrder tiles tags opening run n rows
    → (b place : ℕ) (e : Entry) → slice_get (list_at (run n).entries b) place ≡ Some e → EntryStands tiles tags (length opening) b e
entry_stands tiles tags opening run n rows one b place e h =
    let at = point_of_entry tiles tags opening run n rows one b place e h in
    let x : LinearizationPoint = at.point in
    let issued = one.legal.issued at.k x at.there in
    let address : e.address ≡ x.operation.address = ap (λ (o : Operation). o.address) at.operation in
    let source_in = list_within (run n).issued x.source x.index x.operation issued.operation in
    let bank_in = list_within (run n).entries b place e h in
    let below = one.shown.addresses x.source x.index x.operation issued.operation in
    record {
      bank = omega (arith, bank_in, one.shown.banks);
      source = omega (arith, source_in, at.source, one.shown.processors);
      tagged = one.shown.tagged b place e h;
      address = omega (arith, below, address);
      home = ap (λ a. a % tiles) address ∙ at.bank;
    }
