-- The counts of operations, and how many of them are at home in a bank.
use Rattle.std.proofs.Common.{◌≡◌, ◌≢◌, ℕ, ◌+◌, ◌<◌, ◌≤◌, true, false, cond, List, [], ◌∷◌, length, replicate, set, take, get_or, get_or-set_same}
use Rattle.std.proofs.Common.{get_or-set_other, sym, ◌∙◌, ap, arith, ⊎_elim}
use Rattle.std.specs.Prelude.{sum_by}
use Rattle.std.proofs.lemmas.List.{get_or-map, get_or-replicate, get_or_past, length-map, length-replicate}
use Rattle.std.proofs.lemmas.List.Sums.{sum_by-cons, sum_by_more, sum_by-take-le}
use Rattle.std.proofs.lemmas.Bool.{cases_eq, cases_lt}
use Rattle.script_lines.specs.declared.line.Line.{Line}
use Rattle.script_lines.specs.declared.lists.LineList.{LineList}
use Rattle.script_lines.specs.Lines.{operations_of, operation_count, script_of, total_count}
use Rattle.script_lines.specs.Views.{lists_of}
use Rattle.one_order.specs.Scripts.{address_of}
use Rattle.one_order.specs.Room.{home_room}
use Rattle.one_order.specs.Homes.{is_home, line_home_count, script_home_count}

-- one line more
pub count_more : (lines : List Line) (i : ℕ) (d : Line) → i < length lines
    → sum_by operations_of (take (i + 1) lines) ≡ sum_by operations_of (take i lines) + operations_of (get_or lines i d)
count_more lines i d h = sum_by_more operations_of lines i d h

-- a part of the lines counts no more than all
pub count_within : (lines : List Line) (i : ℕ) → sum_by operations_of (take i lines) ≤ operation_count lines
count_within lines i = sum_by-take-le operations_of lines i

-- what a line can bring to a bank is within what it counts
pub line_home_within : (tiles b : ℕ) (line : Line) → line_home_count tiles b line ≤ operations_of line
line_home_within tiles b line =
    elim (is_home tiles b (address_of line)) as (λ h. cond h (operations_of line) 0 ≤ operations_of line) [ true ↦ omega arith | false ↦ omega arith ]

pub script_home_within : (tiles b : ℕ) (lines : List Line) → script_home_count tiles b lines ≤ operation_count lines
script_home_within tiles b [] = omega arith
script_home_within tiles b (line ∷ lines) =
    let s = sum_by-cons (line_home_count tiles b) line lines in let e = sum_by-cons operations_of line lines in
    omega (arith, line_home_within tiles b line, script_home_within tiles b lines)

pub home_within : (tiles b : ℕ) (lists : List (List Line)) → home_room tiles b lists ≤ total_count lists
home_within tiles b [] = omega arith
home_within tiles b (lines ∷ lists) =
    let s = sum_by-cons (script_home_count tiles b) lines lists in let t = sum_by-cons operation_count lines lists in
    omega (arith, script_home_within tiles b lines, home_within tiles b lists)

-- the lines of the script at a place
pub lines_at : {A : Type 0} (items : List (LineList A)) (i : ℕ) (x : LineList A) → i < length items → x ≡ get_or items i x
    → get_or (lists_of items) i [] ≡ x.lines.items
lines_at items i x h is = get_or-map (λ list. list.lines.items) items i x [] h ∙ ap (λ list. list.lines.items) (sym is)

-- one script more
pub lists_more : {A : Type 0} (f : List Line → ℕ) (items : List (LineList A)) (i : ℕ) (x : LineList A) → i < length items → x ≡ get_or items i x →
    sum_by f (take (i + 1) (lists_of items)) ≡ sum_by f (take i (lists_of items)) + f x.lines.items
lists_more f items i x h is =
    sum_by_more f (lists_of items) i [] (let e = length-map items (λ list. list.lines.items) in omega arith)
    ∙ ap (λ ls. sum_by f (take i (lists_of items)) + f ls) (lines_at items i x h is)

-- a list of zeros has 0 at each place, and past its end
pub zeros_at : (n k : ℕ) → ◌≡◌ {A = ℕ} (get_or (replicate n 0) k 0) 0
zeros_at n k = ⊎_elim
    (λ (there : k < n). get_or-replicate n k 0 0 there)
    (λ (past : n ≤ k). get_or_past (replicate n 0) k 0 (rw length-replicate past))
    (cases_lt k n)

-- the counts of the scripts so far stand, with one more
pub counts_more : (rooms : List ℕ) (lists : List (List Line)) (i count : ℕ) → i < length rooms → count ≡ operation_count (script_of lists i) →
    ((p : ℕ) → p < i → get_or rooms p 0 ≡ operation_count (script_of lists p)) →
    (p : ℕ) → p < i + 1 → get_or (set rooms i count) p 0 ≡ operation_count (script_of lists p)
counts_more rooms lists i count there is before p h = ⊎_elim
    (λ (same : p ≡ i). ap (λ k. get_or (set rooms i count) k 0) same
    ∙ (get_or-set_same rooms i count 0 there ∙ (is ∙ ap (λ k. operation_count (script_of lists k)) (sym same))))
    (λ (other : p ≢ i). get_or-set_other rooms i p count 0 other ∙ before p (omega arith))
    (cases_eq p i)
