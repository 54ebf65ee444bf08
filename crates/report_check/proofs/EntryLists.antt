-- The entry lines of the rows of the banks.
use Rattle.std.proofs.Common.{◌≡◌, ◌≢◌, ◌⊎◌, inl, inr, ℕ, zero, suc, ◌+◌, ◌<◌, ◌==◌, ◌||◌, Bool, true, false, if◌then◌else◌, List, [], ◌∷◌, ◌++◌, length, map}
use Rattle.std.proofs.Common.{flat_map, Some, slice_get, refl, sym, ap, ◌∙◌, arith}
use Rattle.std.specs.List.{enumerate_from, list_any}
use Rattle.std.proofs.lemmas.Bool.{eq-eqb, ne_eqb}
use Rattle.std.proofs.lemmas.List.{append-nil, length-map, map-append}
use Rattle.std.proofs.lemmas.List.Elements.{filter-append}
use Rattle.std.proofs.lemmas.List.Folds.{list_any-append}
use Rattle.report_lines.specs.Contents.{bank_lines, entry_line, is_newer}
use Rattle.report_lines.specs.declared.parts.EntryRow.{EntryRow}
use Rattle.report_lines.specs.declared.line.EntryLine.{EntryLine}
use Rattle.report_lines.specs.declared.line.ReportLine.{ReportLine}
use Rattle.report_lines.specs.declared.line.ReportLine.TheVariants.{Entry}
use Rattle.report_check.specs.Seen.{entries_at, has_newer}
use Rattle.report_check.specs.Facts.{rows_at}

-- the line of an entry, of a bank's entries from a place on, and of those of the banks from a bank on
abbrev pub entry_of : ℕ → ℕ → EntryRow → EntryLine
entry_of b k e = record { bank = b; place = k; source = e.source; tag = e.tag; address = e.address; op = e.op; reply = e.reply }

abbrev pub bank_list : ℕ → ℕ → List EntryRow → List EntryLine
bank_list b k [] = []
bank_list b k (e ∷ es) = entry_of b k e ∷ bank_list b (k + 1) es

abbrev pub entry_list : ℕ → List (List EntryRow) → List EntryLine
entry_list b [] = []
entry_list b (es ∷ ess) = bank_list b 0 es ++ entry_list (b + 1) ess

bank_lines_are : (b k : ℕ) (es : List EntryRow) → map (λ e. entry_line b e.0 e.1) (enumerate_from k es) ≡ map Entry (bank_list b k es)
bank_lines_are b k [] = refl
bank_lines_are b k (e ∷ es) = ap (λ (ls : List ReportLine). Entry (entry_of b k e) ∷ ls) (bank_lines_are b (k + 1) es)

pub entry_lines_are : (b : ℕ) (ess : List (List EntryRow)) → flat_map (λ x. bank_lines x.0 x.1) (enumerate_from b ess) ≡ map Entry (entry_list b ess)
entry_lines_are b [] = refl
entry_lines_are b (es ∷ ess) =
    ap (λ (ls : List ReportLine). bank_lines b es ++ ls) (entry_lines_are (b + 1) ess)
    ∙ ap (λ (ls : List ReportLine). ls ++ map Entry (entry_list (b + 1) ess)) (bank_lines_are b 0 es)
    ∙ sym (map-append Entry (bank_list b 0 es) (entry_list (b + 1) ess))

-- what is the same of a line and of its row is so of all
map_bank : {X : Type 0} (f : EntryLine → X) (g : EntryRow → X) → ((b k : ℕ) (e : EntryRow) → f (entry_of b k e) ≡ g e) → (b k : ℕ) (es : List EntryRow)
    → map f (bank_list b k es) ≡ map g es
map_bank f g same b k [] = refl
map_bank {X} f g same b k (e ∷ es) = ap (λ (xs : List X). f (entry_of b k e) ∷ xs) (map_bank f g same b (k + 1) es) ∙ ap (λ x. x ∷ map g es) (same b k e)

pub map_entries : {X : Type 0} (f : EntryLine → X) (g : EntryRow → X) → ((b k : ℕ) (e : EntryRow) → f (entry_of b k e) ≡ g e)
    → (b : ℕ) (ess : List (List EntryRow)) → map f (entry_list b ess) ≡ map g (flat_map (λ es. es) ess)
map_entries f g same b [] = refl
map_entries {X} f g same b (es ∷ ess) =
    map-append f (bank_list b 0 es) (entry_list (b + 1) ess)
    ∙ ap (λ (xs : List X). xs ++ map f (entry_list (b + 1) ess)) (map_bank f g same b 0 es)
    ∙ ap (λ (xs : List X). map g es ++ xs) (map_entries f g same (b + 1) ess)
    ∙ sym (map-append g es (flat_map (λ es. es) ess))

pub length-bank_list : (b k : ℕ) (es : List EntryRow) → length (bank_list b k es) ≡ length es
length-bank_list b k [] = refl
length-bank_list b k (e ∷ es) = ap suc (length-bank_list b (k + 1) es)

pub length-entry_list : (b : ℕ) (ess : List (List EntryRow)) → length (entry_list b ess) ≡ length (flat_map (λ es. es) ess)
length-entry_list b ess =
    sym (length-map (entry_list b ess) (λ (e : EntryLine). e.reply))
    ∙ ap length (map_entries (λ e. e.reply) (λ e. e.reply) (λ c k e. refl) b ess)
    ∙ length-map (flat_map (λ es. es) ess) (λ (e : EntryRow). e.reply)

-- some line is of a newer operation where some row is
abbrev newer_row : EntryRow → Bool
newer_row e = is_newer e.op

abbrev pub some_newer : List (List EntryRow) → Bool
some_newer ess = list_any (λ es. list_any (λ e. is_newer e.op) es) ess

newer_bank : (b k : ℕ) (es : List EntryRow) → has_newer (bank_list b k es) ≡ list_any newer_row es
newer_bank b k [] = refl
newer_bank b k (e ∷ es) = ap (λ r. is_newer e.op || r) (newer_bank b (k + 1) es)

pub newer_entries : (b : ℕ) (ess : List (List EntryRow)) → has_newer (entry_list b ess) ≡ some_newer ess
newer_entries b [] = refl
newer_entries b (es ∷ ess) =
    list_any-append (λ (e : EntryLine). is_newer e.op) (bank_list b 0 es) (entry_list (b + 1) ess)
    ∙ ap (λ r. r || has_newer (entry_list (b + 1) ess)) (newer_bank b 0 es)
    ∙ ap (λ r. list_any newer_row es || r) (newer_entries (b + 1) ess)

or_right : (x : Bool) → (x || true) ≡ true
or_right true = refl
or_right false = refl

any_here : {X : Type 0} (f : X → Bool) (xs : List X) (k : ℕ) (x : X) → slice_get xs k ≡ Some x → f x ≡ true → list_any f xs ≡ true
any_here f [] k x there is = cc
any_here {X} f (y ∷ xs) zero x there is =
    let same : y ≡ x = cc in
    ap (λ b. b || list_any f xs) (ap f same ∙ is)
any_here f (y ∷ xs) (suc k) x there is = ap (λ b. f y || b) (any_here f xs k x there is) ∙ or_right (f y)

any_row : {X : Type 0} (f : X → Bool) (xss : List (List X)) (i k : ℕ) (x : X) → slice_get (rows_at xss i) k ≡ Some x → f x ≡ true
    → list_any (λ xs. list_any f xs) xss ≡ true
any_row f [] i k x there is = cc
any_row f (xs ∷ xss) zero k x there is = ap (λ b. b || list_any (λ ys. list_any f ys) xss) (any_here f xs k x there is)
any_row f (xs ∷ xss) (suc i) k x there is = ap (λ b. list_any f xs || b) (any_row f xss i k x there is) ∙ or_right (list_any f xs)

abbrev version_by : Bool → ℕ
version_by b = if b then 2 else 1

pub newer_version : (ess : List (List EntryRow)) (i k : ℕ) (e : EntryRow) → slice_get (rows_at ess i) k ≡ Some e → is_newer e.op ≡ true
    → version_by (some_newer ess) ≡ 2
newer_version ess i k e there is = ap version_by (any_row newer_row ess i k e there is)

newer_by : (b : Bool) → version_by b ≡ 2 → b ≡ true
newer_by true is = refl
newer_by false is = absurd (omega (arith, is))

pub version_newer : (ess : List (List EntryRow)) → version_by (some_newer ess) ≡ 2 → has_newer (entry_list 0 ess) ≡ true
version_newer ess is = newer_entries 0 ess ∙ newer_by (some_newer ess) is

pub version_known : (b : Bool) → (version_by b ≡ 1) ⊎ (version_by b ≡ 2)
version_known true = inr refl
version_known false = inl refl

-- the lines of a bank are those of its rows
bank_here : (b c k : ℕ) (es : List EntryRow) → b ≡ c → entries_at (bank_list b k es) c ≡ bank_list b k es
bank_here b c k [] same = refl
bank_here b c k (e ∷ es) same =
    let test : (b == c) ≡ true = eq-eqb b c same in
    rw test (ap (λ (ls : List EntryLine). entry_of b k e ∷ ls) (bank_here b c (k + 1) es same))

pub bank_other : (b c k : ℕ) (es : List EntryRow) → b ≢ c → entries_at (bank_list b k es) c ≡ []
bank_other b c k [] apart = refl
bank_other b c k (e ∷ es) apart =
    let test : (b == c) ≡ false = ne_eqb b c apart in
    rw test (bank_other b c (k + 1) es apart)

abbrev of_bank : ℕ → EntryLine → Bool
of_bank c e = e.bank == c

none_before : (b c : ℕ) (ess : List (List EntryRow)) → c < b → entries_at (entry_list b ess) c ≡ []
none_before b c [] less = refl
none_before b c (es ∷ ess) less =
    filter-append (of_bank c) (bank_list b 0 es) (entry_list (b + 1) ess)
    ∙ ap (λ (ls : List EntryLine). ls ++ entries_at (entry_list (b + 1) ess) c) (bank_other b c 0 es (λ same. omega (arith, same, less)))
    ∙ none_before (b + 1) c ess (omega (arith, less))

pub at_bank : (b i c : ℕ) (ess : List (List EntryRow)) → c ≡ b + i → entries_at (entry_list b ess) c ≡ bank_list c 0 (rows_at ess i)
at_bank b i c [] is = refl
at_bank b zero c (es ∷ ess) is =
    let same : b ≡ c = omega (arith, is) in
    filter-append (of_bank c) (bank_list b 0 es) (entry_list (b + 1) ess)
    ∙ ap (λ (ls : List EntryLine). ls ++ entries_at (entry_list (b + 1) ess) c) (bank_here b c 0 es same)
    ∙ ap (λ (ls : List EntryLine). bank_list b 0 es ++ ls) (none_before (b + 1) c ess (omega (arith, same)))
    ∙ append-nil (bank_list b 0 es)
    ∙ ap (λ k. bank_list k 0 es) same
at_bank b (suc i) c (es ∷ ess) is =
    filter-append (of_bank c) (bank_list b 0 es) (entry_list (b + 1) ess)
    ∙ ap (λ (ls : List EntryLine). ls ++ entries_at (entry_list (b + 1) ess) c) (bank_other b c 0 es (λ same. omega (arith, same, is)))
    ∙ at_bank (b + 1) i c ess (omega (arith, is))

pub entries_of : (c : ℕ) (ess : List (List EntryRow)) → entries_at (entry_list 0 ess) c ≡ bank_list c 0 (rows_at ess c)
entries_of c ess = at_bank 0 c c ess (omega arith)
