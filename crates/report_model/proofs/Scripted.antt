-- Lines that are handed to a follower.
use Rattle.std.proofs.Common.{◌≡◌, ℕ, zero, suc, ◌+◌, ◌<◌, ◌≤◌, Bool, true, false, List, [], ◌∷◌, length, drop, None, Some, sym, refl, ap, ◌∙◌, arith, slice_get, slice_index_or}
use Rattle.std.specs.Prelude.{◌||◌, if◌then◌else◌, Option}
use Rattle.std.proofs.lemmas.Option.{get_or_from_slice_get}
use Rattle.packet.specs.declared.kinds.Reply.{Reply}
use Rattle.script_lines.specs.declared.line.Line.{Line}
use Rattle.script_lines.specs.declared.line.Line.TheVariants.{Load, Store, Swap, Cas, Add, And, Or, Xor, Max, Min, Fence, Spin}
use Rattle.script_lines.specs.Lines.{operations_of, AreAcceptedScripts, ScriptsSpec, script_of}
use Rattle.one_order.specs.declared.spin.OpenSpin.{OpenSpin}
use Rattle.one_order.specs.Following.{Following, follower_with, is_finished, left_of}
use Rattle.report_model.specs.Programs.{AreSpinsShort, Standing, handed, is_fence}

slice_get_is : {X : Type 0} (xs : List X) (k : ℕ) (d : X) → k < length xs → slice_get xs k ≡ Some (slice_index_or xs k d)
slice_get_is [] k d low = absurd (let no : k < 0 = low in omega (arith, no))
slice_get_is (x ∷ xs) zero d low = refl
slice_get_is (x ∷ xs) (suc k) d low = slice_get_is xs k d (let more : suc k < suc (length xs) = low in omega (arith, more))

pub drop_here : {X : Type 0} (xs : List X) (k : ℕ) (x : X) → slice_get xs k ≡ Some x → drop k xs ≡ x ∷ drop (k + 1) xs
drop_here [] k x is = absurd (let no : None ≡ Some x = is in cc)
drop_here (y ∷ xs) zero x is = ap (λ z. z ∷ xs) (let same : Some y ≡ Some x = is in cc)
drop_here (y ∷ xs) (suc k) x is =
    drop_here xs k x is ∙ ap (λ (n : ℕ). x ∷ drop n (y ∷ xs)) (let one : suc (k + 1) ≡ suc k + 1 = omega arith in one)

-- one line more
pub handed_more : (f g : Following) (fence more : Bool) (lines : List Line) (at : ℕ) (line : Line) (all : Standing) → slice_get lines at ≡ Some line
    → is_finished f ≡ true → g ≡ follower_with line f → more ≡ fence || is_fence line → all ≡ handed fence f (drop at lines)
    → all ≡ handed more g (drop (at + 1) lines)
handed_more f g fence more lines at line all there finished new flag so_far =
    so_far ∙ ap (handed fence f) (drop_here lines at line there)
    ∙ ap (λ (b : Bool). if b then handed (fence || is_fence line) (follower_with line f) (drop (at + 1) lines)
    else record { following = f; ahead = line ∷ drop (at + 1) lines; fence = fence }) finished
    ∙ ap (λ (h : Following). handed (fence || is_fence line) h (drop (at + 1) lines)) (sym new)
    ∙ ap (λ (b : Bool). handed b g (drop (at + 1) lines)) (sym flag)

-- where the follower hasn't finished, or no line is left
pub handed_all : (f : Following) (fence : Bool) (all : Standing) → all ≡ handed fence f [] → all ≡ record { following = f; ahead = []; fence = fence }
handed_all f fence all so_far = so_far

pub handed_enough : (f : Following) (fence : Bool) (lines : List Line) (all : Standing) → is_finished f ≡ false → all ≡ handed fence f lines
    → all ≡ record { following = f; ahead = lines; fence = fence }
handed_enough f fence [] all busy so_far = so_far
handed_enough f fence (line ∷ lines) all busy so_far =
    so_far ∙ ap (λ (b : Bool). if b then handed (fence || is_fence line) (follower_with line f) lines
    else record { following = f; ahead = line ∷ lines; fence = fence }) busy

-- a line issues few operations
pub few_operations : (lines : List Line) (at : ℕ) (line : Line) → AreSpinsShort lines → slice_get lines at ≡ Some line → operations_of line ≤ 4096
few_operations lines at (Load a) short there = omega arith
few_operations lines at (Store a v) short there = omega arith
few_operations lines at (Swap a v) short there = omega arith
few_operations lines at (Cas a e n) short there = omega arith
few_operations lines at (Add a v) short there = omega arith
few_operations lines at (And a v) short there = omega arith
few_operations lines at (Or a v) short there = omega arith
few_operations lines at (Xor a v) short there = omega arith
few_operations lines at (Max a v) short there = omega arith
few_operations lines at (Min a v) short there = omega arith
few_operations lines at Fence short there = omega arith
few_operations lines at (Spin a v m) short there = (short at a v m there).1

pub few_at : (lines : List Line) (at : ℕ) (d : Line) → AreSpinsShort lines → at < length lines → operations_of (slice_index_or lines at d) ≤ 4096
few_at lines at d short low = few_operations lines at (slice_index_or lines at d) short (slice_get_is lines at d low)

-- a follower that has finished allows none
left_of_fields : (ahead : List Line) (spin : Option OpenSpin) (issued waiting : ℕ) (last : Option Reply)
    → is_finished (record { ahead = ahead; spin = spin; issued = issued; waiting = waiting; last = last }) ≡ true
    → left_of (record { ahead = ahead; spin = spin; issued = issued; waiting = waiting; last = last }) ≡ 0
unfolding is_finished left_of
left_of_fields [] None issued waiting last finished = refl
left_of_fields [] (Some s) issued waiting last finished = absurd (let no : false ≡ true = finished in cc)
left_of_fields (line ∷ ahead) spin issued waiting last finished = absurd (let no : false ≡ true = finished in cc)

pub finished_leaves_none : (f : Following) → is_finished f ≡ true → left_of f ≡ 0
finished_leaves_none f finished = left_of_fields f.ahead f.spin f.issued f.waiting f.last finished

-- scripts that are accepted have short spins
pub accepted_spins : (scripts : ScriptsSpec) (p : ℕ) → AreAcceptedScripts scripts → AreSpinsShort (script_of scripts.lists p)
accepted_spins scripts p accepted = λ k a v m there.
    let line = (accepted.each p).each k (Spin a v m) there in (line.2, line.3)

-- the script of a processor, and of one that is not there
pub script_some : (lists : List (List Line)) (p : ℕ) (lines : List Line) → slice_get lists p ≡ Some lines → script_of lists p ≡ lines
script_some lists p lines there = get_or_from_slice_get lists p lines [] there

pub script_none : (lists : List (List Line)) (p : ℕ) → slice_get lists p ≡ None → script_of lists p ≡ []
script_none [] p none = refl
script_none (lines ∷ lists) zero none = absurd (let no : Some lines ≡ None = none in cc)
script_none (lines ∷ lists) (suc p) none = script_none lists p none
