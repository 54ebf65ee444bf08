-- The first branch of each word, and its way back.
use Rattle.std.proofs.Common.{◌≡◌, ℕ, ◌+◌, ◌<◌, Bool, List, length, Some, Vec}
use Rattle.std.proofs.Common.{refl, sym, ◌∙◌, ap, subst, arith, slice_get, get_or}
use Rattle.std.proofs.Common.{vec_len}
use Rattle.trace_laws.specs.declared.opened.Branch.{Branch}
use Rattle.trace_laws.specs.declared.opened.Node.{Node}
use Rattle.trace_laws.specs.Configs.{IsIn}
use Rattle.trace_laws.specs.Searches.{IsTrail}
use Rattle.trace_laws.proofs.Lists.{get_within}
use Rattle.std.proofs.lemmas.Option.{slice_get_read}
use Rattle.trace_judge.specs.Sets.{lists_of}
use Rattle.trace_judge.specs.Marks.{AreMarked}
use Rattle.trace_judge.proofs.Marking.{PicksSoFar, first_of, first_is, first_in, picks_more}
use Rattle.trace_judge.proofs.Searching.{read_set}

-- a word's branches, as the code reads them
pub filled_length : {A : Type 0} (words : List (Vec Branch A)) (w : ℕ) (v : Vec Branch A) → w < length words
    → v ≡ get_or words w v → (b : Branch) × IsIn (lists_of words w) b → 0 < vec_len v
filled_length {A} words w v l e h =
    let sized = v.ok.0 in
    let same : v.items ≡ lists_of words w = read_set words w v l e in
    let at : slice_get v.items h.1.0 ≡ Some h.0 = ap (λ (bs : List Branch). slice_get bs h.1.0) same ∙ h.1.1 in
    let m = get_within v.items h.1.0 h.0 at in
    omega arith

pub head_in : {A : Type 0} (words : List (Vec Branch A)) (w : ℕ) (v : Vec Branch A) (b : Branch)
    → w < length words → v ≡ get_or words w v → 0 < vec_len v → b ≡ get_or v.items 0 b
    → IsIn (lists_of words w) b
head_in {A} words w v b l e some is =
    let sized = v.ok.0 in
    let same : v.items ≡ lists_of words w = read_set words w v l e in (
      0,
      ap (λ (bs : List Branch). slice_get bs 0) (sym same) ∙ slice_get_read v.items (length v.items) 0 b refl
          (omega arith) is,
    )

-- the first branch of each word
abbrev pub firsts : {A : Type 0} → List (Vec Branch A) → ℕ → Branch
firsts words w = first_of (lists_of words w)

pub first_read : {A : Type 0} (words : List (Vec Branch A)) (w : ℕ) (v : Vec Branch A) (b : Branch)
    → w < length words → v ≡ get_or words w v → 0 < vec_len v → b ≡ get_or v.items 0 b
    → firsts words w ≡ b
first_read {A} words w v b l e some is =
    let sized = v.ok.0 in
    let same : v.items ≡ lists_of words w = read_set words w v l e in
    ap first_of (sym same) ∙ first_is v.items b (omega arith) is

-- one more word is marked
pub picks_word : {A : Type 0} (words : List (Vec Branch A)) (w : ℕ) (nodes seen : List Node)
    (marks was later : List Bool) (v : Vec Branch A) (b : Branch)
    → w < length words → v ≡ get_or words w v
    → 0 < vec_len v → b ≡ get_or v.items 0 b → seen ≡ nodes → was ≡ marks
    → (trail : List ℕ) × IsTrail seen b.trail trail × AreMarked was trail later → length later ≡ length was
    → PicksSoFar (firsts words) w (lists_of words) nodes marks
    → PicksSoFar (firsts words) (w + 1) (lists_of words) nodes later
picks_word {A} words w nodes seen marks was later v b l e some is e1 e2 tells sized so_far =
    let first : firsts words w ≡ b = first_read words w v b l e some is in
    picks_more (firsts words) w (lists_of words) nodes marks later tells.0
    (first_in (lists_of words w) b (head_in words w v b l e some is))
    (subst (λ (c : Branch). IsTrail nodes c.trail tells.0) (sym first)
    (subst (λ (ns : List Node). IsTrail ns b.trail tells.0) e1 tells.1))
    (subst (λ (ms : List Bool). AreMarked ms tells.0 later) e2 tells.2)
    (sized ∙ ap (λ (ms : List Bool). length ms) e2) so_far
