-- Each bank's entries of a processor are a beginning of what it issued with that home.
use Rattle.std.proofs.Common.{◌≡◌, ◌≢◌, ⊎_elim, ℕ, zero, suc, ◌+◌, ◌<◌, ◌≤◌, ◌==◌, Bool, true, false, cond, List, [], ◌∷◌, ◌++◌, length, map, take, Some}
use Rattle.std.proofs.Common.{None, refl, sym, ◌∙◌, ap, subst, arith, slice_get, eq-eqb}
use Rattle.std.specs.Prelude.{count_by, filter}
use Rattle.std.proofs.lemmas.Bool.{cases_eq, cases_lt, eqb-true, ne_eqb, cond-true, cond-false}
use Rattle.std.proofs.lemmas.List.Sums.{length-filter}
use Rattle.std.proofs.lemmas.Option.{slice_get_within, same_Some}
use Rattle.packet.specs.declared.kinds.Operation.{Operation}
use Rattle.home_bank.specs.declared.entry.Entry.{Entry}
use Rattle.one_order.specs.declared.ordered.Ordered.{Ordered}
use Rattle.one_order.specs.Observed.{Run, list_at}
use Rattle.one_order.specs.Order.{LinearizationPoint, home, count_at, StandsBefore}
use Rattle.one_order.specs.OneOrder.{HasOneOrder}
use Rattle.one_order.specs.Consequences.{ServesInTurn}
use Rattle.home_bank.specs.MemoryReplay.{entry_operation}
use Rattle.one_order.proofs.Lists.{within_length}
use Rattle.one_order.proofs.Counting.{count_cons, count_strict, count_below, count_apart, nth, filter_at}
use Rattle.one_order.proofs.Naming.{at_home, is_at_home, same_point, point_of_entry}

-- one more element counts if it passes
pub count_next : {A : Type 0} (p : A → Bool) (xs : List A) (k : ℕ) (x : A) → slice_get xs k ≡ Some x
    → count_by p (take (suc k) xs) ≡ count_by p (take k xs) + cond (p x) 1 0
count_next p [] k x h = absurd (cc)
count_next p (y ∷ ys) zero x h =
    let same : cond {A = ℕ} (p y) 1 0 ≡ cond {A = ℕ} (p x) 1 0 = ap (λ z. cond {A = ℕ} (p z) 1 0) (same_Some y x h) in
    omega (arith, same, count_cons p y (take 0 ys))
count_next p (y ∷ ys) (suc k) x h = omega (arith, count_next p ys k x h, count_cons p y (take (suc k) ys), count_cons p y (take k ys))

-- what has the elements of a list at its places begins with it
pub beginning : {A : Type 0} (xs ys : List A) → ((k : ℕ) (x : A) → slice_get xs k ≡ Some x → slice_get ys k ≡ Some x) → (rest : List A) × (ys ≡ xs ++ rest)
beginning [] ys h = (ys, refl)
beginning (x ∷ xs) [] h = let none : None ≡ Some x = h 0 x refl in absurd (cc)
beginning (x ∷ xs) (y ∷ ys) h =
    let first : y ≡ x = same_Some y x (h 0 x refl) in
    let rest = beginning xs ys (λ k. h (suc k)) in
    let more : ys ≡ xs ++ rest.0 = rest.1 in
    (rest.0, cc)

-- a point of p at home in b
abbrev pub is_of : ℕ → ℕ → ℕ → LinearizationPoint → Bool
is_of tiles b p x = cond (x.source == p) (at_home tiles b x) false

is_of_yes : (tiles b p : ℕ) (x : LinearizationPoint) → x.source ≡ p → home tiles x.operation ≡ b → is_of tiles b p x ≡ true
is_of_yes tiles b p x source bank = cond-true (x.source == p) (at_home tiles b x) false (eq-eqb x.source p source) ∙ is_at_home tiles b x bank

is_of_source : (tiles b p : ℕ) (x : LinearizationPoint) → is_of tiles b p x ≡ true → x.source ≡ p
is_of_source tiles b p x h = ⊎_elim
    (λ (same : x.source ≡ p). same)
    (λ (other : x.source ≢ p). let no : false ≡ true = sym (cond-false (x.source == p) (at_home tiles b x) false (ne_eqb x.source p other)) ∙ h in absurd (cc))
    (cases_eq x.source p)

is_of_bank : (tiles b p : ℕ) (x : LinearizationPoint) → is_of tiles b p x ≡ true → home tiles x.operation ≡ b
is_of_bank tiles b p x h =
    eqb-true (home tiles x.operation) b (sym (cond-true (x.source == p) (at_home tiles b x) false (eq-eqb x.source p (is_of_source tiles b p x h))) ∙ h)

-- how many of p's operations with home b stand before place k; and how many of them were issued before index i
abbrev pub served_before : ℕ → ℕ → ℕ → List LinearizationPoint → ℕ → ℕ
served_before tiles b p order k = count_by (is_of tiles b p) (take k order)

abbrev pub has_home : ℕ → ℕ → Operation → Bool
has_home tiles b o = home tiles o == b

abbrev pub issued_before : ℕ → ℕ → List Operation → ℕ → ℕ
issued_before tiles b issued i = count_by (has_home tiles b) (take i issued)

-- those that stand before place k are the first that were issued
pub record AreFirst (tiles b p : ℕ) (issued : List Operation) (order : List LinearizationPoint) (k : ℕ) : Type 0 where
  pub stand : (i : ℕ) (o : Operation) → slice_get issued i ≡ Some o → home tiles o ≡ b → issued_before tiles b issued i < served_before tiles b p order k
      → StandsBefore order k p i
  pub only : (i : ℕ) (o : Operation) → slice_get issued i ≡ Some o → home tiles o ≡ b → StandsBefore order k p i
      → issued_before tiles b issued i < served_before tiles b p order k

-- so the next is the next
next_is : (tiles tags : ℕ) (opening : List ℕ) (run : Run) (n : ℕ) (rows : List Ordered) (one : HasOneOrder tiles tags opening run n rows) (b k : ℕ)
    (y : LinearizationPoint)
    → slice_get one.order k ≡ Some y → home tiles y.operation ≡ b → AreFirst tiles b y.source (list_at (run n).issued y.source) one.order k
    → issued_before tiles b (list_at (run n).issued y.source) y.index ≡ served_before tiles b y.source one.order k
next_is tiles tags opening run n rows one b k y h bank first =
    let p : ℕ = y.source in
    let issued : List Operation = list_at (run n).issued p in
    let it = (one.legal.issued k y h).operation in
    let mine : ℕ = issued_before tiles b issued y.index in
    let count : ℕ = served_before tiles b p one.order k in
    ⊎_elim
    (λ (l : mine < count).
    let before = first.stand y.index y.operation it bank l in
    let again = one.legal.distinct before.0 k before.1 y before.3 h before.4 before.5 in
    let less = before.2 in
    absurd (omega arith))
    (λ (g : count ≤ mine). ⊎_elim
    (λ (l : count < mine).
    let whole = count_below (has_home tiles b) issued y.index y.operation it (eq-eqb (home tiles y.operation) b bank) in
    let at = nth (has_home tiles b) issued count (omega arith) in
    let counts = at.counts in
    let at_bank : home tiles at.element ≡ b = eqb-true (home tiles at.element) b at.passes in
    let earlier : at.k < y.index = ⊎_elim
    (λ (m : at.k < y.index). m)
    (λ (m : y.index ≤ at.k). ⊎_elim
    (λ (later : y.index < at.k).
    let strict = count_strict (has_home tiles b) issued y.index at.k y.operation it (eq-eqb (home tiles y.operation) b bank) later in
    absurd (omega arith))
    (λ (equal : at.k ≤ y.index).
    let same : at.k ≡ y.index = omega arith in
    let e = ap (λ i. issued_before tiles b issued i) same in
    absurd (omega arith))
    (cases_lt y.index at.k))
    (cases_lt at.k y.index) in
    let stands = one.services.in_turn k at.k y at.element h earlier at.there (at_bank ∙ sym bank) in
    let less = first.only at.k at.element at.there at_bank stands in
    absurd (omega arith))
    (λ (m : mine ≤ count). omega arith)
    (cases_lt count mine))
    (cases_lt mine count)

-- where a point isn't of p or not of b, nothing changes
first_other : (tiles tags : ℕ) (opening : List ℕ) (run : Run) (n : ℕ) (rows : List Ordered) (one : HasOneOrder tiles tags opening run n rows) (b p k : ℕ)
    (y : LinearizationPoint)
    → slice_get one.order k ≡ Some y → is_of tiles b p y ≡ false → AreFirst tiles b p (list_at (run n).issued p) one.order k
    → AreFirst tiles b p (list_at (run n).issued p) one.order (suc k)
first_other tiles tags opening run n rows one b p k y h differs first =
    let same : served_before tiles b p one.order (suc k) ≡ served_before tiles b p one.order k =
    omega (arith, count_next (is_of tiles b p) one.order k y h, cond-false {A = ℕ} (is_of tiles b p y) 1 0 differs) in
    record {
      stand = λ i o there bank l. let old = first.stand i o there bank (omega arith) in let less = old.2 in (old.0, old.1, omega arith, old.3, old.4, old.5);
      only = λ i o there bank at. ⊎_elim
          (λ (before : at.0 < k). let less = first.only i o there bank (at.0, at.1, before, at.3, at.4, at.5) in omega arith)
          (λ (after : k ≤ at.0).
          let less = at.2 in
          let here : at.0 ≡ k = omega arith in
          let point : at.1 ≡ y = same_point one.order at.0 k at.1 y at.3 h here in
          let source : y.source ≡ p = ap (λ (z : LinearizationPoint). z.source) (sym point) ∙ at.4 in
          let index : y.index ≡ i = ap (λ (z : LinearizationPoint). z.index) (sym point) ∙ at.5 in
          let it : slice_get (list_at (run n).issued p) i ≡ Some y.operation =
          subst (λ (j : ℕ). slice_get (list_at (run n).issued p) j ≡ Some y.operation) index
          (subst (λ (q : ℕ). slice_get (list_at (run n).issued q) y.index ≡ Some y.operation) source (one.legal.issued k y h).operation) in
          let operation : y.operation ≡ o = same_Some y.operation o (sym it ∙ there) in
          let yes = is_of_yes tiles b p y source (ap (home tiles) operation ∙ bank) in
          let none : false ≡ true = sym differs ∙ yes in
          absurd (cc))
          (cases_lt at.0 k);
    }

-- where it is, it is the next
first_more : (tiles tags : ℕ) (opening : List ℕ) (run : Run) (n : ℕ) (rows : List Ordered) (one : HasOneOrder tiles tags opening run n rows) (b k : ℕ)
    (y : LinearizationPoint)
    → slice_get one.order k ≡ Some y → home tiles y.operation ≡ b → AreFirst tiles b y.source (list_at (run n).issued y.source) one.order k
    → AreFirst tiles b y.source (list_at (run n).issued y.source) one.order (suc k)
first_more tiles tags opening run n rows one b k y h home_is first =
    let p : ℕ = y.source in
    let issued : List Operation = list_at (run n).issued p in
    let it = (one.legal.issued k y h).operation in
    let next = next_is tiles tags opening run n rows one b k y h home_is first in
    let more : served_before tiles b p one.order (suc k) ≡ suc (served_before tiles b p one.order k) =
    omega (arith, count_next (is_of tiles b p) one.order k y h, cond-true {A = ℕ} (is_of tiles b p y) 1 0 (is_of_yes tiles b p y refl home_is)) in
    record {
      stand = λ i o there bank l. ⊎_elim
          (λ (below : issued_before tiles b issued i < served_before tiles b p one.order k).
          let old = first.stand i o there bank below in let less = old.2 in (old.0, old.1, omega arith, old.3, old.4, old.5))
          (λ (above : served_before tiles b p one.order k ≤ issued_before tiles b issued i).
          let equal : issued_before tiles b issued y.index ≡ issued_before tiles b issued i = omega arith in
          let same = count_apart (has_home tiles b) issued y.index i y.operation o it there (eq-eqb (home tiles y.operation) b home_is)
          (eq-eqb (home tiles o) b bank) equal in
          (k, y, omega arith, h, refl, same))
          (cases_lt (issued_before tiles b issued i) (served_before tiles b p one.order k));
      only = λ i o there bank at. ⊎_elim
          (λ (before : at.0 < k). let less = first.only i o there bank (at.0, at.1, before, at.3, at.4, at.5) in omega arith)
          (λ (after : k ≤ at.0).
          let less = at.2 in
          let here : at.0 ≡ k = omega arith in
          let point : at.1 ≡ y = same_point one.order at.0 k at.1 y at.3 h here in
          let index : y.index ≡ i = ap (λ (z : LinearizationPoint). z.index) (sym point) ∙ at.5 in
          let e = ap (λ j. issued_before tiles b issued j) index in
          omega arith)
          (cases_lt at.0 k);
    }

first_step : (tiles tags : ℕ) (opening : List ℕ) (run : Run) (n : ℕ) (rows : List Ordered) (one : HasOneOrder tiles tags opening run n rows) (b p k : ℕ)
    (y : LinearizationPoint) (c : Bool)
    → is_of tiles b p y ≡ c → slice_get one.order k ≡ Some y → AreFirst tiles b p (list_at (run n).issued p) one.order k
    → AreFirst tiles b p (list_at (run n).issued p) one.order (suc k)
first_step tiles tags opening run n rows one b p k y false is h first = first_other tiles tags opening run n rows one b p k y h is first
first_step tiles tags opening run n rows one b p k y true is h first =
    let source : y.source ≡ p = is_of_source tiles b p y is in
    let First : ℕ → ℕ → Type 0 = λ q j. AreFirst tiles b q (list_at (run n).issued q) one.order j in
    subst (λ (q : ℕ). First q (suc k)) source
    (first_more tiles tags opening run n rows one b k y h (is_of_bank tiles b p y is) (subst (λ (q : ℕ). First q k) (sym source) first))

are_first : (tiles tags : ℕ) (opening : List ℕ) (run : Run) (n : ℕ) (rows : List Ordered) (one : HasOneOrder tiles tags opening run n rows) (b p k : ℕ)
    → k ≤ length one.order
    → AreFirst tiles b p (list_at (run n).issued p) one.order k
are_first tiles tags opening run n rows one b p zero l = record {
  stand = λ i o there bank less. absurd (omega arith);
  only = λ i o there bank at. let less = at.2 in absurd (omega arith);
}
are_first tiles tags opening run n rows one b p (suc k) l =
    let y = within_length one.order k (omega arith) in
    first_step tiles tags opening run n rows one b p k y.0 (is_of tiles b p y.0) refl y.1 (are_first tiles tags opening run n rows one b p k (omega arith))

-- as many entries of p stand in b's list before a place
abbrev pub is_from : ℕ → Entry → Bool
is_from p e = e.source == p

entries_before : (tiles tags : ℕ) (opening : List ℕ) (run : Run) (n : ℕ) (rows : List Ordered) (one : HasOneOrder tiles tags opening run n rows) (b p k : ℕ)
    → k ≤ length one.order
    → count_by (is_from p) (take (count_at tiles b (take k one.order)) (list_at (run n).entries b)) ≡ served_before tiles b p one.order k
entries_before tiles tags opening run n rows one b p zero l = refl
entries_before tiles tags opening run n rows one b p (suc k) l =
    let at = within_length one.order k (omega arith) in
    let y : LinearizationPoint = at.0 in
    let es : List Entry = list_at (run n).entries b in
    let place : ℕ = count_at tiles b (take k one.order) in
    let old = entries_before tiles tags opening run n rows one b p k (omega arith) in
    let points = count_next (at_home tiles b) one.order k y at.1 in
    let mine = count_next (is_of tiles b p) one.order k y at.1 in
    ⊎_elim
    (λ (here : home tiles y.operation ≡ b).
    let was = one.services.served k y at.1 in
    let there : slice_get es place ≡ Some was.entry =
    subst (λ (c : ℕ). slice_get (list_at (run n).entries c) (count_at tiles c (take k one.order)) ≡ Some was.entry) here was.there in
    let one_more : count_at tiles b (take (suc k) one.order) ≡ suc place =
    omega (arith, points, cond-true {A = ℕ} (at_home tiles b y) 1 0 (is_at_home tiles b y here)) in
    let test : is_of tiles b p y ≡ is_from p was.entry = ⊎_elim
    (λ (same : y.source ≡ p). is_of_yes tiles b p y same here ∙ sym (eq-eqb was.entry.source p (was.source ∙ same)))
    (λ (other : y.source ≢ p). cond-false (y.source == p) (at_home tiles b y) false (ne_eqb y.source p other)
    ∙ sym (ne_eqb was.entry.source p (λ e. other (sym was.source ∙ e))))
    (cases_eq y.source p) in
    let counted : cond {A = ℕ} (is_of tiles b p y) 1 0 ≡ cond {A = ℕ} (is_from p was.entry) 1 0 = ap (λ c. cond {A = ℕ} c 1 0) test in
    ap (λ j. count_by (is_from p) (take j es)) one_more
    ∙ (let next = count_next (is_from p) es place was.entry there in omega (arith, next, old, mine, counted)))
    (λ (other : home tiles y.operation ≢ b).
    let none : at_home tiles b y ≡ false = ne_eqb (home tiles y.operation) b other in
    let no_more : count_at tiles b (take (suc k) one.order) ≡ place = omega (arith, points, cond-false {A = ℕ} (at_home tiles b y) 1 0 none) in
    let test : is_of tiles b p y ≡ false = ⊎_elim
    (λ (same : y.source ≡ p). cond-true (y.source == p) (at_home tiles b y) false (eq-eqb y.source p same) ∙ none)
    (λ (apart : y.source ≢ p). cond-false (y.source == p) (at_home tiles b y) false (ne_eqb y.source p apart))
    (cases_eq y.source p) in
    ap (λ j. count_by (is_from p) (take j es)) no_more ∙ omega (arith, old, mine, cond-false {A = ℕ} (is_of tiles b p y) 1 0 test))
    (cases_eq (home tiles y.operation) b)

-- the m-th entry of p is the m-th operation that it issued with that home
entry_in_turn : (tiles tags : ℕ) (opening : List ℕ) (run : Run) (n : ℕ) (rows : List Ordered) (one : HasOneOrder tiles tags opening run n rows) (b p m : ℕ)
    (e : Entry)
    → slice_get (filter (is_from p) (list_at (run n).entries b)) m ≡ Some e
    → slice_get (filter (has_home tiles b) (list_at (run n).issued p)) m ≡ Some (entry_operation e)
entry_in_turn tiles tags opening run n rows one b p m e h =
    let es : List Entry = list_at (run n).entries b in
    let within = slice_get_within (filter (is_from p) es) m e h in
    let count = length-filter (is_from p) es in
    let at = nth (is_from p) es m (omega arith) in
    let there : slice_get (filter (is_from p) es) m ≡ Some at.element =
    subst (λ (j : ℕ). slice_get (filter (is_from p) es) j ≡ Some at.element) at.counts (filter_at (is_from p) es at.k at.element at.there at.passes) in
    let same : at.element ≡ e = same_Some at.element e (sym there ∙ h) in
    let point = point_of_entry tiles tags opening run n rows one b at.k at.element at.there in
    let x : LinearizationPoint = point.point in
    let source : x.source ≡ p = sym point.source ∙ eqb-true at.element.source p at.passes in
    let it : slice_get (list_at (run n).issued p) x.index ≡ Some x.operation =
    subst (λ (q : ℕ). slice_get (list_at (run n).issued q) x.index ≡ Some x.operation) source (one.legal.issued point.k x point.there).operation in
    let in_range = slice_get_within one.order point.k x point.there in
    let first = are_first tiles tags opening run n rows one b x.source point.k (omega arith) in
    let next = next_is tiles tags opening run n rows one b point.k x point.there point.bank first in
    let moved : issued_before tiles b (list_at (run n).issued p) x.index ≡ served_before tiles b p one.order point.k =
    subst (λ (q : ℕ). issued_before tiles b (list_at (run n).issued q) x.index ≡ served_before tiles b q one.order point.k) source next in
    let entries = entries_before tiles tags opening run n rows one b p point.k (omega arith) in
    let place : issued_before tiles b (list_at (run n).issued p) x.index ≡ m =
    moved ∙ (sym entries ∙ (ap (λ j. count_by (is_from p) (take j es)) point.before ∙ at.counts)) in
    subst (λ (j : ℕ). slice_get (filter (has_home tiles b) (list_at (run n).issued p)) j ≡ Some (entry_operation e)) place
    (filter_at (has_home tiles b) (list_at (run n).issued p) x.index x.operation it (eq-eqb (home tiles x.operation) b point.bank)
    ∙ (ap (λ (o : Operation). Some o) (sym point.operation) ∙ ap (λ (z : Entry). Some (entry_operation z)) same))

-- an element of a mapped list
of_map : {A B : Type 0} (f : A → B) (xs : List A) (k : ℕ) (y : B) → slice_get (map f xs) k ≡ Some y → (x : A) × (slice_get xs k ≡ Some x) × (f x ≡ y)
of_map f [] k y h = absurd (cc)
of_map f (x ∷ xs) zero y h = (x, refl, same_Some (f x) y h)
of_map f (x ∷ xs) (suc k) y h = of_map f xs k y h

pub serves_in_turn : (tiles tags : ℕ) (opening : List ℕ) (run : Run) (n : ℕ) (rows : List Ordered) → HasOneOrder tiles tags opening run n rows → (b p : ℕ)
    → ServesInTurn tiles (run n) b p
serves_in_turn tiles tags opening run n rows one b p =
    let begins = beginning (map entry_operation (filter (is_from p) (list_at (run n).entries b))) (filter (has_home tiles b) (list_at (run n).issued p)) (λ k o h.
    let e = of_map entry_operation (filter (is_from p) (list_at (run n).entries b)) k o h in
    entry_in_turn tiles tags opening run n rows one b p k e.0 e.1 ∙ ap (λ (x : Operation). Some x) e.2) in
    record { waiting = begins.0; are = begins.1 }
