-- What stands behind the text of a judgement where no numbers rise along the escapes.
use Rattle.std.proofs.Common.{◌≡◌, ℕ, ◌+◌, ◌-◌, ◌<◌, Bool, true, false, List, [], length, map, refl, sym, ◌∙◌, ap, subst, arith}
use Rattle.std.specs.Prelude.{◌∷◌, slice_index, get_or}
use Rattle.std.proofs.lemmas.List.{get_or-map, length-map}
use Rattle.network_judge.specs.declared.table.Kind.{Kind}
use Rattle.network_judge.specs.declared.table.Join.{Join}
use Rattle.network_judge.specs.declared.table.Reply.{Reply}
use Rattle.network_judge.specs.Replies.{AreReplies}
use Rattle.network_adaptive.specs.Choosing.{ChoiceTable, choosing_of, network, table, IsShaped}
use Rattle.network_adaptive.specs.Judged.{answers_of}
use Rattle.network_adaptive.specs.Shape.{IsJudgedNet}
use Rattle.network_adaptive.specs.declared.accepting.JudgedNet.{JudgedNet}
use Rattle.network_adaptive.specs.declared.accepting.JudgedNet.TheVariants.{WrongPair, WrongChoice, Judged}
use Rattle.network_adaptive.proofs.Rising.{adaptive_is}
use Rattle.network_adaptive.proofs.Circles.{are_answers}
use Rattle.deadlock_laws.proofs.Empties.{never_locks}
use Rattle.dead_sets.specs.FillingFlags.{filling_of}
use Rattle.dead_sets.specs.Deciding.{IsDecidedOf}
use Rattle.dead_sets.specs.declared.filling.FilledChannel.{FilledChannel}
use Rattle.dead_sets.specs.declared.deciding.Decided.{Decided}
use Rattle.dead_sets.specs.declared.deciding.Decided.TheVariants.{Rises, Fills, Open}
use Rattle.dead_sets.proofs.Waiting.{can_deadlock}
use Rattle.network_text.specs.declared.reading.Reading as reading
use Rattle.network_text.specs.declared.choosing.Choosing as choosing
use Rattle.network_text.specs.ChoiceLists.{choice_list}
use Rattle.network_text.specs.ChoosingRead.{choosing_text_of}
use Rattle.network_text.specs.Choosing.{ChoosingText}
use Rattle.network_answer.specs.declared.answer.Answer.{Answer}
use Rattle.network_answer.specs.Judging.{IsMarkedJudgement}
use Rattle.network_answer.specs.Routing.{TellsJudged, TellsChoosingOf}
use Rattle.network_answer.specs.OneFlit.{filling_line, filling_line_at, decided_text, PromisesOfDeadSets, has_rising, lacks_numbers, IsBehindText, StandsBehind}

module _ (t : ChoiceTable) (replies : List Reply) where
  -- the lists of a network that is judged are those of a network
  pub shaped_of : {A : Type 0} (judged : JudgedNet A) → lacks_numbers judged ≡ true → IsJudgedNet t replies judged → IsShaped t
  shaped_of (WrongPair r) lacks is = cc
  shaped_of (WrongChoice c) lacks is = cc
  shaped_of (Judged v) lacks is = is.0

  -- what is written is promised
  promised : {A : Type 0} (found : Decided A) → IsShaped t → AreReplies (table t) replies → IsDecidedOf t replies found
      → PromisesOfDeadSets t replies found
  promised (Rises numbers) shaped are holds = λ depth flits deep events one lock.
      never_locks (network t depth flits) (answers_of replies) (slice_index numbers.items) (adaptive_is t depth flits shaped)
      (are_answers t replies depth flits shaped are) (holds.1 depth flits) deep events one lock
  promised (Fills flags items) shaped are holds = can_deadlock t replies (map filling_of items.items) shaped holds.1
  promised (Open flags) shaped are holds = tt

  -- what is written of dead sets stands behind a verdict without numbers
  pub decided_stands : {A : Type 0} (judged : JudgedNet A) (found : Decided A) (text : List ℕ) (never : Bool) → lacks_numbers judged ≡ true
      → IsJudgedNet t replies judged → AreReplies (table t) replies → IsDecidedOf t replies found
      → text ≡ decided_text found → never ≡ has_rising found → StandsBehind t replies judged text never
  decided_stands {A} judged found text never lacks is are holds written told =
      subst (λ b. IsBehindText A b t replies text never) (sym lacks)
      (record { found = found; never_is = told; holds = holds; promises = promised found (shaped_of judged lacks is) are holds; is = written })

  -- nothing stands behind another verdict
  pub nothing_stands : {A : Type 0} (judged : JudgedNet A) (text : List ℕ) → lacks_numbers judged ≡ false → text ≡ []
      → StandsBehind t replies judged text false
  nothing_stands {A} judged text has none = subst (λ b. IsBehindText A b t replies text false) (sym has) (none, refl)

-- networks of equal lists have equal lists of choices
pub shaped_moved : (kinds of_kinds : List Kind) (joins of_joins : List Join) (ways : ℕ) (choices : List ℕ) (marks : List Bool) → kinds ≡ of_kinds
    → joins ≡ of_joins → IsShaped (choosing_of of_kinds of_joins ways choices marks) → IsShaped (choosing_of kinds joins ways choices marks)
shaped_moved kinds of_kinds joins of_joins ways choices marks one two shaped =
    subst (λ k. IsShaped (choosing_of k joins ways choices marks)) (sym one)
    (subst (λ j. IsShaped (choosing_of of_kinds j ways choices marks)) (sym two) shaped)

-- what is decided of lists is decided of the same lists
pub decided_moved : {A : Type 0} (kinds of_kinds : List Kind) (joins of_joins : List Join) (replies of_replies : List Reply) (ways : ℕ) (choices : List ℕ)
    (marks : List Bool) (found : Decided A) → kinds ≡ of_kinds → joins ≡ of_joins → replies ≡ of_replies
    → IsDecidedOf (choosing_of kinds joins ways choices marks) replies found → IsDecidedOf (choosing_of of_kinds of_joins ways choices marks) of_replies found
decided_moved kinds of_kinds joins of_joins replies of_replies ways choices marks found one two three holds =
    subst (λ k. IsDecidedOf (choosing_of k of_joins ways choices marks) of_replies found) one
    (subst (λ j. IsDecidedOf (choosing_of kinds j ways choices marks) of_replies found) two
    (subst (λ r. IsDecidedOf (choosing_of kinds joins ways choices marks) r found) three holds))

-- what stands behind the text of a judgement does so of the same lists
pub behind_moved : {A : Type 0} (new old : reading.Reading A) (ways : ℕ) (choices listed : List ℕ) (flags marks : List Bool) (judged : JudgedNet A)
    (text : List ℕ) (never : Bool) → new ≡ old → choices ≡ listed → flags ≡ marks
    → StandsBehind (choosing_of new.kinds.items new.joins.items ways choices flags) new.replies.items judged text never
    → StandsBehind (choosing_of old.kinds.items old.joins.items ways listed marks) old.replies.items judged text never
behind_moved new old ways choices listed flags marks judged text never same is marked stands =
    subst (λ (m : List Bool). StandsBehind (choosing_of old.kinds.items old.joins.items ways listed m) old.replies.items judged text never) marked
    (subst (λ (c : List ℕ). StandsBehind (choosing_of old.kinds.items old.joins.items ways c flags) old.replies.items judged text never) is
    (subst (λ f. StandsBehind (choosing_of f.kinds.items f.joins.items ways choices flags) f.replies.items judged text never) same stands))

-- what is judged of a text is judged of the same lists
pub judged_moved : {A : Type 0} (n : choosing.Choosing A) (new : reading.Reading A) (choices : List ℕ) (flags marks : List Bool) (judged : JudgedNet A)
    → new ≡ n.fixed → choices ≡ choice_list (choosing_text_of n) → flags ≡ marks → IsMarkedJudgement (choosing_text_of n) marks judged
    → IsJudgedNet (choosing_of new.kinds.items new.joins.items (n.layers + 1) choices flags) new.replies.items judged
judged_moved n new choices flags marks judged same is marked holds =
    subst (λ (m : List Bool). IsJudgedNet (choosing_of new.kinds.items new.joins.items (n.layers + 1) choices m) new.replies.items judged) (sym marked)
    (subst (λ (c : List ℕ). IsJudgedNet (choosing_of new.kinds.items new.joins.items (n.layers + 1) c marks) new.replies.items judged) (sym is)
    (subst (λ f. IsJudgedNet (choosing_of f.kinds.items f.joins.items (n.layers + 1) (choice_list (choosing_text_of n)) marks) f.replies.items judged)
    (sym same) holds.holds))

-- what is judged is told of a network that has pairs
pub told_of_pairs : {A : Type 0} (joins : List Join) (t : ChoosingText) (a : Answer A) → 0 < length joins → TellsJudged t a
    → TellsChoosingOf joins t a
told_of_pairs [] t a some told = absurd (let none : length {A = Join} [] ≡ 0 = refl in omega (arith, some, none))
told_of_pairs (join ∷ joins) t a some told = told

-- the line of an item, counted from the end, is that of its channel
pub line_is : {A : Type 0} (items : List (FilledChannel A)) (k : ℕ) (item : FilledChannel A) → k < length items
    → item ≡ get_or items (length items - 1 - k) item → filling_line_at (map filling_of items) k ≡ filling_line (filling_of item)
line_is items k item low is =
    let size = length-map items filling_of in
    ap (λ n. filling_line (get_or (map filling_of items) (n - 1 - k) (record { at = 0; to = 0; before = [] }))) size
    ∙ ap filling_line (get_or-map filling_of items (length items - 1 - k) item (record { at = 0; to = 0; before = [] }) (omega arith)
    ∙ ap filling_of (sym is))
