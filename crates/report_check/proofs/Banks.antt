-- The lists of the banks.
use Rattle.std.proofs.Common.{◌≡◌, ℕ, ◌<◌, List, [], ◌∷◌, ◌++◌, ◌+◌, ◌==◌, ◌&&◌, ◌||◌, ◌≢◌, zero, suc, refl, false, set, length, get_or, map, sym, ◌∙◌, ap}
use Rattle.std.proofs.Common.{Vec, subst, Option, Bool, true, Some, None, slice_get, option_map, ⊎_elim, arith}
use Rattle.std.proofs.lemmas.List.{get_or-map, map-set, get_or-set_same, get_or-set_other, length-map, length_push, append-nil}
use Rattle.std.proofs.lemmas.List.Elements.{filter-append}
use Rattle.std.proofs.lemmas.List.Sums.{fold_push}
use Rattle.std.proofs.lemmas.List.Folds.{list_any-append}
use Rattle.std.proofs.lemmas.Bool.{and_left, and_right, or_right, cases_eq, eq-eqb, ne_eqb}
use Rattle.report_check.specs.declared.checker.Served.{Served}
use Rattle.std.proofs.lemmas.Option.{slice_get_cases, slice_get_within, same_Some}
use Rattle.report_lines.specs.Contents.{is_newer}
use Rattle.report_lines.specs.declared.line.EntryLine.{EntryLine}
use Rattle.report_lines.specs.declared.line.AnswerLine.{AnswerLine}
use Rattle.report_check.specs.Seen.{entries_at, has_newer, is_answered}
use Rattle.report_check.specs.Shows.{bank_of, EntriesShown, kept, marked}

-- a bank that was read
pub bank_of_read : {A : Type 0} → (banks : List (Vec Served A)) (i : ℕ) (v : Vec Served A) → i < length banks → v ≡ get_or banks i v → bank_of banks i ≡ v.items
bank_of_read {A} banks i v inside read = get_or-map (λ (w : Vec Served A). w.items) banks i v [] inside ∙ ap (λ (w : Vec Served A). w.items) (sym read)

-- a write to one bank
pub bank_of_set : {A : Type 0} → (banks : List (Vec Served A)) (i : ℕ) (v : Vec Served A) → i < length banks → bank_of (set banks i v) i ≡ v.items
bank_of_set {A} banks i v inside =
    ap (λ (bs : List (List Served)). get_or bs i []) (map-set (λ (w : Vec Served A). w.items) banks i v)
    ∙ get_or-set_same (map (λ (w : Vec Served A). w.items) banks) i v.items [] (rw length-map inside)

pub bank_of_set_other : {A : Type 0} → (banks : List (Vec Served A)) (i j : ℕ) (v : Vec Served A) → j ≢ i → bank_of (set banks i v) j ≡ bank_of banks j
bank_of_set_other {A} banks i j v apart =
    ap (λ (bs : List (List Served)). get_or bs j []) (map-set (λ (w : Vec Served A). w.items) banks i v)
    ∙ get_or-set_other (map (λ (w : Vec Served A). w.items) banks) i j v.items [] apart

-- two lists that agree place by place do so with one more element
each_pushed : {X Y : Type 0} (f : ℕ → X → Y) (xs : List X) (ys : List Y) (x : X) (y : Y) → length ys ≡ length xs
    → ((p : ℕ) → slice_get ys p ≡ option_map (f p) (slice_get xs p)) → y ≡ f (length xs) x → (p : ℕ)
    → slice_get (ys ++ y ∷ []) p ≡ option_map (f p) (slice_get (xs ++ x ∷ []) p)
each_pushed f [] [] x y l h e zero = ap Some e
each_pushed f [] [] x y l h e (suc p) = refl
each_pushed f [] (b ∷ ys) x y l h e p = absurd (omega (arith, l))
each_pushed f (a ∷ xs) [] x y l h e p = absurd (omega (arith, l))
each_pushed f (a ∷ xs) (b ∷ ys) x y l h e zero = h zero
each_pushed f (a ∷ xs) (b ∷ ys) x y l h e (suc p) = each_pushed (λ q. f (suc q)) xs ys x y (omega (arith, l)) (λ q. h (suc q)) e p

-- one more entry, at its bank and at the others
pub entries_at_here : (entries : List EntryLine) (e : EntryLine) → entries_at (entries ++ e ∷ []) e.bank ≡ entries_at entries e.bank ++ e ∷ []
entries_at_here entries e = filter-append (λ x. x.bank == e.bank) entries (e ∷ []) ∙ rw (eq-eqb e.bank e.bank refl)

pub entries_at_other : (entries : List EntryLine) (e : EntryLine) (bank : ℕ) → bank ≢ e.bank → entries_at (entries ++ e ∷ []) bank ≡ entries_at entries bank
entries_at_other entries e bank apart =
    let test : (e.bank == bank) ≡ false = ne_eqb e.bank bank (λ h. apart (sym h)) in
    filter-append (λ x. x.bank == bank) entries (e ∷ []) ∙ rw test (append-nil _)

or_none : (b : Bool) → (b || false) ≡ b
or_none true = refl
or_none false = refl

has_newer-push : (entries : List EntryLine) (e : EntryLine) → has_newer (entries ++ e ∷ []) ≡ (has_newer entries || is_newer e.op)
has_newer-push entries e = list_any-append (λ x. is_newer x.op) entries (e ∷ []) ∙ ap (λ b. has_newer entries || b) (or_none (is_newer e.op))

-- what is kept of an entry at first
abbrev pub unanswered : EntryLine → Served
unanswered e = record { source = e.source; reply = e.reply; answered = false }

kept_first : (answers : List AnswerLine) (bank place : ℕ) (e : EntryLine) → answers ≡ [] → unanswered e ≡ kept answers bank place e
kept_first answers bank place e none =
    let P : List AnswerLine → Type 0 = λ a. unanswered e ≡ kept a bank place e in subst P (sym none) refl

pub entry_shown : {A : Type 0}
    → (entries : List EntryLine) (answers : List AnswerLine) (last count : ℕ) (newer : Bool) (banks new : List (Vec Served A)) (e : EntryLine) (now : Bool) (after : ℕ)
    → after ≡ count + 1 → now ≡ (newer || is_newer e.op) → EntriesShown entries answers last count newer banks → answers ≡ [] → e.place ≡ length (entries_at entries e.bank)
    → bank_of new e.bank ≡ bank_of banks e.bank ++ unanswered e ∷ [] → ((other : ℕ) → other ≢ e.bank → bank_of new other ≡ bank_of banks other)
    → EntriesShown (entries ++ e ∷ []) answers e.bank after now new
entry_shown {A} entries answers last count newer banks new e now after more is shown none next here others = record {
  last_bank = sym (fold_push (λ _ x. x.bank) 0 entries e);
  count_is = omega (arith, more, shown.count_is, length_push entries e);
  newer_is = is ∙ ap (λ b. b || is_newer e.op) shown.newer_is ∙ sym (has_newer-push entries e);
  sized = λ bank.
      let P : ℕ → Type 0 = λ b. length (bank_of new b) ≡ length (entries_at (entries ++ e ∷ []) b) in
      ⊎_elim
      (λ same. subst P (sym same)
      (ap length here ∙ length_push (bank_of banks e.bank) (unanswered e) ∙ ap (λ n. n + 1) (shown.sized e.bank)
      ∙ sym (ap length (entries_at_here entries e) ∙ length_push (entries_at entries e.bank) e)))
      (λ apart. ap length (others bank apart) ∙ shown.sized bank ∙ sym (ap length (entries_at_other entries e bank apart)))
      (cases_eq bank e.bank);
  each = λ bank place.
      let P : ℕ → Type 0 = λ b. slice_get (bank_of new b) place ≡ option_map (kept answers b place) (slice_get (entries_at (entries ++ e ∷ []) b) place) in
      let of_served = λ (xs : List Served). slice_get xs place in
      let of_entries = λ (b : ℕ) (es : List EntryLine). option_map (kept answers b place) (slice_get es place) in
      ⊎_elim
      (λ same. subst P (sym same)
      (ap of_served here
      ∙ each_pushed (kept answers e.bank) (entries_at entries e.bank) (bank_of banks e.bank) e (unanswered e) (shown.sized e.bank) (shown.each e.bank)
      (kept_first answers e.bank (length (entries_at entries e.bank)) e none) place
      ∙ sym (ap (of_entries e.bank) (entries_at_here entries e))))
      (λ apart. ap of_served (others bank apart) ∙ shown.each bank place ∙ sym (ap (of_entries bank) (entries_at_other entries e bank apart)))
      (cases_eq bank e.bank);
}

-- what is kept of an entry that was found
pub kept_of : {A : Type 0} → (entries : List EntryLine) (answers : List AnswerLine) (last count : ℕ) (newer : Bool) (banks : List (Vec Served A))
    → EntriesShown entries answers last count newer banks → (bank place : ℕ) (k : Served) → slice_get (bank_of banks bank) place ≡ Some k
    → (e : EntryLine) × (slice_get (entries_at entries bank) place ≡ Some e) × (k ≡ kept answers bank place e)
kept_of {A} entries answers last count newer banks shown bank place k is =
    let inside : place < length (entries_at entries bank) = omega (arith, shown.sized bank, slice_get_within (bank_of banks bank) place k is) in
    ⊎_elim
    (λ w. (w.0, w.2, same_Some k (kept answers bank place w.0) (sym is ∙ shown.each bank place ∙ ap (option_map (kept answers bank place)) w.2)))
    (λ w. absurd (omega (arith, w.0)))
    (slice_get_cases (entries_at entries bank) place).1

pub marked_set : (ks : List Served) (place : ℕ) (d : Served) → place < length ks
    → marked ks place ≡ set ks place (record (get_or ks place d) { answered = true })
marked_set [] place d inside = absurd (omega (arith, inside))
marked_set (k ∷ ks) zero d inside = refl
marked_set (k ∷ ks) (suc place) d inside = ap (λ r. k ∷ r) (marked_set ks place d (omega (arith, inside)))

pub length-marked : (ks : List Served) (place : ℕ) → length (marked ks place) ≡ length ks
length-marked [] place = refl
length-marked (k ∷ ks) zero = refl
length-marked (k ∷ ks) (suc place) = ap suc (length-marked ks place)

-- the place that is marked, and the others
pub get-marked_here : (ks : List Served) (place : ℕ) (k : Served) → slice_get ks place ≡ Some k
    → slice_get (marked ks place) place ≡ Some (record k { answered = true })
get-marked_here [] place k is = absurd (cc)
get-marked_here (x ∷ ks) zero k is = ap (λ (w : Served). Some (record w { answered = true })) (same_Some x k is)
get-marked_here (x ∷ ks) (suc place) k is = get-marked_here ks place k is

pub get-marked_other : (ks : List Served) (place other : ℕ) → other ≢ place → slice_get (marked ks place) other ≡ slice_get ks other
get-marked_other [] place other apart = refl
get-marked_other (x ∷ ks) zero zero apart = absurd (apart refl)
get-marked_other (x ∷ ks) zero (suc other) apart = refl
get-marked_other (x ∷ ks) (suc place) zero apart = refl
get-marked_other (x ∷ ks) (suc place) (suc other) apart = get-marked_other ks place other (λ h. apart (ap suc h))

-- one more answer, for its entry and for the others
answered_here : (answers : List AnswerLine) (a : AnswerLine) → is_answered (answers ++ a ∷ []) a.bank a.place ≡ true
answered_here answers a =
    list_any-append (λ x. (x.bank == a.bank) && (x.place == a.place)) answers (a ∷ [])
    ∙ rw (eq-eqb a.bank a.bank refl, eq-eqb a.place a.place refl) (or_right _ true refl)

or_false : (b : Bool) → (b || (false || false)) ≡ b
or_false true = refl
or_false false = refl

answered_other : (answers : List AnswerLine) (a : AnswerLine) (bank place : ℕ) → ((a.bank == bank) && (a.place == place)) ≡ false
    → is_answered (answers ++ a ∷ []) bank place ≡ is_answered answers bank place
answered_other answers a bank place apart =
    list_any-append (λ x. (x.bank == bank) && (x.place == place)) answers (a ∷ [])
    ∙ rw apart (or_false _)

abbrev as_kept : EntryLine → Bool → Served
as_kept e t = record { source = e.source; reply = e.reply; answered = t }

-- what is kept is the same where the answer is
kept_same : (old new : List AnswerLine) (bank place : ℕ) → is_answered new bank place ≡ is_answered old bank place → (o : Option EntryLine)
    → option_map (kept old bank place) o ≡ option_map (kept new bank place) o
kept_same old new bank place same None = refl
kept_same old new bank place same (Some e) = ap (λ (t : Bool). Some (as_kept e t)) (sym same)

answer_at : {A : Type 0} → (entries : List EntryLine) (answers : List AnswerLine) (last count : ℕ) (newer : Bool) (banks : List (Vec Served A)) (a : AnswerLine)
    → EntriesShown entries answers last count newer banks → a.place < length (bank_of banks a.bank)
    → slice_get (marked (bank_of banks a.bank) a.place) a.place
    ≡ option_map (kept (answers ++ a ∷ []) a.bank a.place) (slice_get (entries_at entries a.bank) a.place)
answer_at {A} entries answers last count newer banks a shown inside =
    let within : a.place < length (entries_at entries a.bank) = omega (arith, shown.sized a.bank) in
    let named : (e : EntryLine) → slice_get (entries_at entries a.bank) a.place ≡ Some e
    → slice_get (marked (bank_of banks a.bank) a.place) a.place
    ≡ option_map (kept (answers ++ a ∷ []) a.bank a.place) (slice_get (entries_at entries a.bank) a.place) =
    λ e is. get-marked_here (bank_of banks a.bank) a.place (kept answers a.bank a.place e)
    (shown.each a.bank a.place ∙ ap (option_map (kept answers a.bank a.place)) is)
    ∙ ap (λ (t : Bool). Some (as_kept e t)) (sym (answered_here answers a))
    ∙ sym (ap (option_map (kept (answers ++ a ∷ []) a.bank a.place)) is) in
    ⊎_elim (λ w. named w.0 w.2) (λ w. absurd (omega (arith, w.0))) (slice_get_cases (entries_at entries a.bank) a.place).1

answer_each : {A : Type 0}
    → (entries : List EntryLine) (answers : List AnswerLine) (last count : ℕ) (newer : Bool) (banks new : List (Vec Served A)) (a : AnswerLine)
    → EntriesShown entries answers last count newer banks → a.place < length (bank_of banks a.bank) → bank_of new a.bank ≡ marked (bank_of banks a.bank) a.place
    → ((other : ℕ) → other ≢ a.bank → bank_of new other ≡ bank_of banks other) → (bank place : ℕ)
    → slice_get (bank_of new bank) place ≡ option_map (kept (answers ++ a ∷ []) bank place) (slice_get (entries_at entries bank) place)
answer_each {A} entries answers last count newer banks new a shown inside here others bank place =
    let P : ℕ → Type 0 = λ b. slice_get (bank_of new b) place ≡ option_map (kept (answers ++ a ∷ []) b place) (slice_get (entries_at entries b) place) in
    ⊎_elim
    (λ same_bank. subst P (sym same_bank) (ap (λ (ks : List Served). slice_get ks place) here ∙
    ⊎_elim
    (λ same_place. let Q : ℕ → Type 0 =
    λ q. slice_get (marked (bank_of banks a.bank) a.place) q ≡ option_map (kept (answers ++ a ∷ []) a.bank q) (slice_get (entries_at entries a.bank) q) in
    subst Q (sym same_place) (answer_at entries answers last count newer banks a shown inside))
    (λ other_place. get-marked_other (bank_of banks a.bank) a.place place other_place ∙ shown.each a.bank place
    ∙ kept_same answers (answers ++ a ∷ []) a.bank place
    (answered_other answers a a.bank place (and_right _ _ (ne_eqb a.place place (λ h. other_place (sym h))))) (slice_get (entries_at entries a.bank) place))
    (cases_eq place a.place)))
    (λ other_bank. ap (λ (ks : List Served). slice_get ks place) (others bank other_bank) ∙ shown.each bank place
    ∙ kept_same answers (answers ++ a ∷ []) bank place (answered_other answers a bank place (and_left _ _ (ne_eqb a.bank bank (λ h. other_bank (sym h)))))
    (slice_get (entries_at entries bank) place))
    (cases_eq bank a.bank)

-- one more answer
pub answer_shown : {A : Type 0}
    → (entries : List EntryLine) (answers : List AnswerLine) (last count : ℕ) (newer : Bool) (banks new : List (Vec Served A)) (a : AnswerLine)
    → EntriesShown entries answers last count newer banks → a.place < length (bank_of banks a.bank) → bank_of new a.bank ≡ marked (bank_of banks a.bank) a.place
    → ((other : ℕ) → other ≢ a.bank → bank_of new other ≡ bank_of banks other) → EntriesShown entries (answers ++ a ∷ []) last count newer new
answer_shown {A} entries answers last count newer banks new a shown inside here others = record {
  last_bank = shown.last_bank;
  count_is = shown.count_is;
  newer_is = shown.newer_is;
  sized = λ bank.
      let P : ℕ → Type 0 = λ b. length (bank_of new b) ≡ length (entries_at entries b) in
      ⊎_elim
      (λ same. subst P (sym same) (ap length here ∙ length-marked (bank_of banks a.bank) a.place ∙ shown.sized a.bank))
      (λ apart. ap length (others bank apart) ∙ shown.sized bank)
      (cases_eq bank a.bank);
  each = λ bank place. answer_each entries answers last count newer banks new a shown inside here others bank place;
}

-- a bank with an entry is there
pub bank_inside : {A : Type 0} → (banks : List (Vec Served A)) (bank place : ℕ) → place < length (bank_of banks bank) → bank < length banks
bank_inside {A} [] bank place h = absurd (omega (arith, h))
bank_inside {A} (v ∷ banks) zero place h = omega arith
bank_inside {A} (v ∷ banks) (suc bank) place h = omega (arith, bank_inside banks bank place h)

-- one more entry in a bank
pub bank_pushed : {A : Type 0} → (banks : List (Vec Served A)) (bank : ℕ) (old new : Vec Served A) (k : Served) → bank < length banks
    → old ≡ get_or banks bank old → new.items ≡ old.items ++ k ∷ [] → bank_of (set banks bank new) bank ≡ bank_of banks bank ++ k ∷ []
bank_pushed {A} banks bank old new k inside read pushed =
    bank_of_set banks bank new inside ∙ pushed ∙ ap (λ (xs : List Served). xs ++ k ∷ []) (sym (bank_of_read banks bank old inside read))

-- an entry that has an answer from now on
pub bank_marked : {A : Type 0} → (banks : List (Vec Served A)) (bank place : ℕ) (old new : Vec Served A) (k : Served) → place < length (bank_of banks bank)
    → old ≡ get_or banks bank old → k ≡ get_or old.items place k → new.items ≡ set old.items place (record k { answered = true })
    → bank_of (set banks bank new) bank ≡ marked (bank_of banks bank) place
bank_marked {A} banks bank place old new k there read is written =
    let inside : bank < length banks = bank_inside banks bank place there in
    let was : bank_of banks bank ≡ old.items = bank_of_read banks bank old inside read in
    let place_inside : place < length old.items = omega (arith, there, ap length was) in
    bank_of_set banks bank new inside ∙ written
    ∙ ap (λ (x : Served). set old.items place (record x { answered = true })) is
    ∙ sym (ap (λ (ks : List Served). marked ks place) was ∙ marked_set old.items place k place_inside)
