-- A processor's operations through its script, one operation more.
use Rattle.std.proofs.Common.{◌≡◌, ℕ, ◌+◌, ◌-◌, ◌*◌, ◌<◌, ◌≤◌, Bool, true, false, List, [], ◌∷◌, ◌++◌, length, drop, take, Some, sym, refl, subst, ap, ◌∙◌, arith, inl, inr, slice_get}
use Rattle.std.specs.Prelude.{◌==◌, fold, if◌then◌else◌}
use Rattle.std.proofs.lemmas.Bool.{cases_eq}
use Rattle.std.proofs.lemmas.List.{append-nil, length-append, length-drop}
use Rattle.std.proofs.lemmas.Grind.{flat_map-append}
use Rattle.std.specs.List.{flat_map, range_with_len}
use Rattle.std.proofs.lemmas.List.Sums.{count_by-le-length, fold_push, length-filter}
use Rattle.packet.specs.declared.kinds.Reply.{Reply}
use Rattle.script_lines.specs.declared.line.Line.{Line}
use Rattle.script_lines.specs.Lines.{script_of}
use Rattle.one_order.specs.Following.{Following, after_answer, after_issue, first_of, last_answered, next_operation_of, other_answered}
use Rattle.report_model.specs.declared.answer.NoTextsAnswer.{NoTextsAnswer}
use Rattle.report_model.specs.declared.row.ProgramStep.{ProgramStep}
use Rattle.report_model.specs.declared.row.ReportRow.{ReportRow}
use Rattle.report_model.specs.Indexes.{fence_before, operation_step}
use Rattle.report_model.specs.Programs.{AreAllScripted, AreScripted, IsUnscripted, IsUnscriptedAmong, Standing, Walk, handed, operations_by, program_of, programs_of}
use Rattle.report_model.specs.Programs.{standing_at, standing_first, walk_over, walked}
use Rattle.report_model.proofs.Kept.{next_item, range_next}

fences_few : (fence : Bool) (row : ReportRow) → length (if fence then fence_before row ∷ [] else []) ≤ 1
fences_few true row = omega arith
fences_few false row = omega arith

pub walk_more : (lines : List Line) (rows : List ReportRow) (k : ℕ) (row : ReportRow) (w new : Walk) → slice_get rows k ≡ Some row
    → w ≡ walk_over lines (take k rows) → new ≡ walked w row → new ≡ walk_over lines (take (k + 1) rows)
walk_more lines rows k row w new there so_far more =
    let start : Walk = record { steps = []; standing = standing_first lines } in
    more ∙ ap (λ (z : Walk). walked z row) so_far ∙ sym (fold_push walked start (take k rows) row)
    ∙ ap (fold walked start) (sym (next_item rows k row there))

pub scripted_more : (lines : List Line) (rows : List ReportRow) (k : ℕ) (row : ReportRow) (f : Following) → AreScripted lines rows k → slice_get rows k ≡ Some row
    → f ≡ (standing_at lines rows k).following → next_operation_of f ≡ Some row.operation → AreScripted lines rows (k + 1)
scripted_more lines rows k row f so_far there is next = λ j r low at. elim (cases_eq j k) [
  | inl same ↦ let here : slice_get rows k ≡ Some r = ap (slice_get rows) (sym same) ∙ at in
      let one : Some row ≡ Some r = sym there ∙ here in
      let row_is : row ≡ r = cc in
      ap (λ (n : ℕ). next_operation_of (standing_at lines rows n).following) same ∙ ap next_operation_of (sym is) ∙ next
      ∙ ap (λ (x : ReportRow). Some x.operation) row_is
  | inr other ↦ so_far j r (omega (arith, low, other)) at
]

-- before the first operation
pub walk_first : (lines items : List Line) (steps : List ProgramStep) (f : Following) (s : Standing) → steps ≡ [] → items ≡ [] → f ≡ first_of items
    → handed false f lines ≡ s → record { steps = steps; standing = s } ≡ walk_over lines []
walk_first lines items steps f s none empty first is =
    ap (λ (t : List ProgramStep). record { steps = t; standing = s }) none
    ∙ ap (λ (z : Standing). record { steps = []; standing = z })
    (sym is ∙ ap (λ (z : Following). handed false z lines) (first ∙ ap first_of empty))

first_is_new : (lines : List Line) → (first_of lines).issued ≡ 0
unfolding first_of
first_is_new lines = refl

pub none_issued : (lines : List Line) (f : Following) → f ≡ first_of lines → f.issued ≡ 0
none_issued lines f first = ap (λ (z : Following). z.issued) first ∙ first_is_new lines

-- an operation is issued and replied, and lines are handed
pub walked_by : (w : Walk) (row : ReportRow) (steps : List ProgramStep) (g h : Following) (i : ℕ) (s : Standing)
    → steps ≡ (w.steps ++ (if w.standing.fence then fence_before row ∷ [] else [])) ++ operation_step row ∷ []
    → g ≡ after_issue w.standing.following → i ≡ w.standing.following.issued → h ≡ after_answer g i row.reply → handed false h w.standing.ahead ≡ s
    → record { steps = steps; standing = s } ≡ walked w row
walked_by w row steps g h i s grown issued index answered is =
    ap (λ (t : List ProgramStep). record { steps = t; standing = s }) grown
    ∙ ap (λ (z : Standing). record { steps = (w.steps ++ (if w.standing.fence then fence_before row ∷ [] else [])) ++ operation_step row ∷ []; standing = z })
    (sym is ∙ ap (λ (f : Following). handed false f w.standing.ahead)
    (answered ∙ ap (λ (x : ℕ). after_answer g x row.reply) index ∙ ap (λ (f : Following). after_answer f w.standing.following.issued row.reply) issued))

-- one operation and its fence are two steps at most
pub few_more : (steps new : List ProgramStep) (fence : Bool) (row : ReportRow) (k : ℕ)
    → new ≡ (steps ++ (if fence then fence_before row ∷ [] else [])) ++ operation_step row ∷ [] → length steps ≤ 2 * k → length new ≤ 2 * (k + 1)
few_more steps new fence row k grown few =
    let long : length new ≡ (length steps + length (if fence then fence_before row ∷ [] else [])) + 1 =
    ap length grown ∙ length-append (steps ++ (if fence then fence_before row ∷ [] else [])) (operation_step row ∷ [])
    ∙ ap (λ (n : ℕ). n + 1) (length-append steps (if fence then fence_before row ∷ [] else [])) in
    let one = fences_few fence row in omega (arith, long, one, few)

if_issued : (b : Bool) (f g : Following) → f.issued ≡ g.issued → (if b then f else g).issued ≡ g.issued
if_issued true f g same = same
if_issued false f g same = refl

issued_answered : (f : Following) (i : ℕ) (reply : Reply) → (after_answer f i reply).issued ≡ f.issued
unfolding after_answer
issued_answered f i reply = if_issued (i + 1 == f.issued) (last_answered f reply) (other_answered f) refl

issued_issued : (f : Following) → (after_issue f).issued ≡ f.issued + 1
unfolding after_issue
issued_issued f = refl

pub one_issued : (f g h : Following) (i : ℕ) (reply : Reply) → g ≡ after_issue f → h ≡ after_answer g i reply → h.issued ≡ f.issued + 1
one_issued f g h i reply issued answered =
    ap (λ (z : Following). z.issued) answered ∙ issued_answered g i reply ∙ ap (λ (z : Following). z.issued) issued ∙ issued_issued f

-- programs, one processor more
pub programs_more : (lists : List (List Line)) (made : List ReportRow) (p : ℕ) (lines : List Line) (rows : List ReportRow) (steps program new : List ProgramStep)
    → lines ≡ script_of lists p → rows ≡ operations_by p made → program ≡ (walk_over lines rows).steps → new ≡ steps ++ program
    → steps ≡ programs_of lists made p → new ≡ programs_of lists made (p + 1)
programs_more lists made p lines rows steps program new lines_are rows_are walked_over grown so_far =
    let mine : program ≡ program_of lists made p =
    walked_over ∙ ap (λ (ls : List Line). (walk_over ls rows).steps) lines_are ∙ ap (λ (rs : List ReportRow). (walk_over (script_of lists p) rs).steps) rows_are in
    grown ∙ ap (λ (t : List ProgramStep). t ++ program) so_far ∙ ap (λ (t : List ProgramStep). programs_of lists made p ++ t) (mine ∙ sym (append-nil (program_of lists made p)))
    ∙ sym (flat_map-append (program_of lists made) (range_with_len 0 p) (p ∷ [])) ∙ ap (flat_map (program_of lists made)) (sym (range_next p))

pub scripted_all_more : (lists : List (List Line)) (made : List ReportRow) (p : ℕ) (lines : List Line) (rows : List ReportRow)
    → lines ≡ script_of lists p → rows ≡ operations_by p made → AreScripted lines rows (length rows)
    → AreAllScripted lists made p → AreAllScripted lists made (p + 1)
scripted_all_more lists made p lines rows lines_are rows_are mine so_far = λ q low. elim (cases_eq q p) [
  | inl same ↦ subst (λ (n : ℕ). AreScripted (script_of lists n) (operations_by n made) (length (operations_by n made))) (sym same)
      (subst (λ (rs : List ReportRow). AreScripted (script_of lists p) rs (length rs)) rows_are
      (subst (λ (ls : List Line). AreScripted ls rows (length rows)) lines_are mine))
  | inr other ↦ so_far q (omega (arith, low, other))
]

pub few_all_more : (made rows : List ReportRow) (p q : ℕ) (steps program new : List ProgramStep) → rows ≡ operations_by p made → length made ≤ 196609
    → length program ≤ 2 * length rows → new ≡ steps ++ program → length steps ≤ 393218 * q → length new ≤ 393218 * (q + 1)
few_all_more made rows p q steps program new rows_are few short grown so_far =
    let long : length new ≡ length steps + length program = ap length grown ∙ length-append steps program in
    let kept = length-filter (λ (row : ReportRow). row.source == p) made in
    let most = count_by-le-length (λ (row : ReportRow). row.source == p) made in
    let mine = ap length rows_are in omega (arith, long, kept, most, mine, few, short, so_far)

pub few_by : (made rows : List ReportRow) (p : ℕ) → rows ≡ operations_by p made → length made ≤ 196609 → length rows ≤ 196609
few_by made rows p rows_are few =
    let kept = length-filter (λ (row : ReportRow). row.source == p) made in
    let most = count_by-le-length (λ (row : ReportRow). row.source == p) made in
    let mine = ap length rows_are in omega (arith, kept, most, mine, few)

pub unscripted_among : (lists : List (List Line)) (made : List ReportRow) (p processors : ℕ) (lines : List Line) (rows : List ReportRow) (why : NoTextsAnswer)
    → p < processors → lines ≡ script_of lists p → rows ≡ operations_by p made → AreAllScripted lists made p → IsUnscripted p lines rows why
    → IsUnscriptedAmong lists made processors why
unscripted_among lists made p processors lines rows why low lines_are rows_are so_far is = record {
  p = p;
  below = low;
  before = so_far;
  other = subst (λ (rs : List ReportRow). IsUnscripted p (script_of lists p) rs why) rows_are
      (subst (λ (ls : List Line). IsUnscripted p ls rows why) lines_are is);
}

pub all_passed : (lines : List Line) (at : ℕ) → at ≤ length lines → length lines - length (drop at lines) ≡ at
all_passed lines at within = let left = length-drop at lines in omega (arith, left, within)
