-- What a search holds before an event tells an order of what comes before it.
use Rattle.std.proofs.Common.{◌≡◌, ◌≢◌, ◌⊎◌, inl, inr, ⊎_elim, ℕ, zero, suc, ◌<◌, ◌≤◌, Bool, true, false, List, [], ◌∷◌, length, Option, Some, None, refl, sym, ◌∙◌, ap, subst}
use Rattle.std.proofs.Common.{arith, slice_get, set, length-set, replicate, add-one, take}
use Rattle.std.proofs.lemmas.Bool.{cases_eq}
use Rattle.trace_laws.specs.declared.event.Call.{Call}
use Rattle.trace_laws.specs.declared.event.Event.{Event}
use Rattle.trace_laws.specs.declared.event.Event.TheVariants.{Issue, Answer}
use Rattle.trace_laws.specs.Orders.{IsOrder, IsLinearizable}
use Rattle.trace_laws.specs.Legal.{Legal}
use Rattle.trace_laws.proofs.Lists.{get_take, take_get, within_length, set_get_same, get_set_other}
use Rattle.trace_laws.specs.declared.opened.Branch.{Branch}
use Rattle.trace_laws.specs.declared.opened.Node.{Node}
use Rattle.trace_laws.specs.Configs.{IsIn}
use Rattle.trace_laws.specs.Searches.{IsTrail, IsSoundSearch, order_of}
use Rattle.trace_laws.proofs.Trails.{trail_below}
use Rattle.trace_judge.specs.declared.search.Search.{Search}
use Rattle.trace_judge.specs.Sets.{lists_of}
use Rattle.trace_judge.specs.Searched.{HasSearched}
use Rattle.trace_judge.specs.Marks.{AreNodes, IsBelow, AreMarked}
use Rattle.trace_judge.proofs.Marking.{PicksSoFar, first_of, first_in, picks_none, picks_more}

-- there is a way back from each node
trail_from : (nodes : List Node) → AreNodes nodes → (fuel : ℕ) (last : Option ℕ) → IsBelow nodes last
    → ((i : ℕ) → last ≡ Some i → i < fuel) → (trail : List ℕ) × IsTrail nodes last trail
trail_from nodes back fuel None below near = ([], refl)
trail_from nodes back zero (Some i) below near = absurd (let l = near i refl in omega arith)
trail_from nodes back (suc fuel) (Some i) below near =
    let node = within_length nodes i (below i refl) in
    let rest = trail_from nodes back fuel node.0.before
    (λ j e. let l = back i j node.0 node.1 e in let m = below i refl in omega arith)
    (λ j e. let l = back i j node.0 node.1 e in let m = near i refl in omega arith) in
    (i ∷ rest.0, (node.0, refl, node.1, rest.1))

-- it can be marked
mark_more : (old new : List Bool) (trail : List ℕ) (i : ℕ) → i < length new → AreMarked old trail new
    → AreMarked old (i ∷ trail) (set new i true)
mark_more old new trail i l was =
    let there = within_length new i l in
    let here : slice_get (set new i true) i ≡ Some true = set_get_same new i there.0 true there.1 in
    let keeps : (j : ℕ) → slice_get new j ≡ Some true → slice_get (set new i true) j ≡ Some true =
    λ j h. ⊎_elim {C = slice_get (set new i true) j ≡ Some true}
    (λ (e : j ≡ i). ap (λ (n : ℕ). slice_get (set new i true) n) e ∙ here)
    (λ (ne : j ≢ i). get_set_other new i j true ne ∙ h)
    (cases_eq j i) in
    record {
      marked = λ j h. by j h;
      kept = λ j h. keeps j (was.kept j h);
      only = λ j h. ⊎_elim {C = (slice_get old j ≡ Some true) ⊎ IsIn (i ∷ trail) j}
          (λ (e : j ≡ i). inr (zero, ap (λ (n : ℕ). Some n) (sym e)))
          (λ (ne : j ≢ i). ⊎_elim {C = (slice_get old j ≡ Some true) ⊎ IsIn (i ∷ trail) j}
          (λ o. inl o)
          (λ (t : IsIn trail j). inr (suc t.0, t.1))
          (was.only j (sym (get_set_other new i j true ne) ∙ h)))
          (cases_eq j i);
    }
  where
    by : (j : ℕ) → IsIn (i ∷ trail) j → slice_get (set new i true) j ≡ Some true
    by j (zero, h) =
        let there = within_length new i l in
        let e : i ≡ j = cc in
        ap (λ (n : ℕ). slice_get (set new i true) n) (sym e) ∙ set_get_same new i there.0 true there.1
    by j (suc k, h) =
        let there = within_length new i l in
        ⊎_elim {C = slice_get (set new i true) j ≡ Some true}
        (λ (e : j ≡ i). ap (λ (n : ℕ). slice_get (set new i true) n) e ∙ set_get_same new i there.0 true there.1)
        (λ (ne : j ≢ i). get_set_other new i j true ne ∙ was.marked j (k, h))
        (cases_eq j i)

mark_trail : (trail : List ℕ) (old : List Bool) → ((i : ℕ) → IsIn trail i → i < length old)
    → (new : List Bool) × AreMarked old trail new × (length new ≡ length old)
mark_trail [] old inside = (
  old,
  record { marked = λ i h. absurd (let e : None ≡ Some i = h.1 in cc); kept = λ i h. h; only = λ i h. inl h },
  refl,
)
mark_trail (i ∷ trail) old inside =
    let rest = mark_trail trail old (λ j h. inside j (suc h.0, h.1)) in
    let l : i < length rest.0 = let e = rest.2 in let m = inside i (zero, refl) in omega arith in
    (set rest.0 i true, mark_more old rest.0 trail i l rest.1, length-set rest.0 i true ∙ rest.2)

-- the first branches of the words so far can be picked
pub pick_firsts : (sets : ℕ → List Branch) (nodes : List Node) (words : ℕ) → AreNodes nodes
    → ((w i : ℕ) (b : Branch) → w < words → IsIn (sets w) b → b.trail ≡ Some i → i < length nodes)
    → ((w : ℕ) → w < words → (b : Branch) × IsIn (sets w) b)
    → (w : ℕ) → w ≤ words → (marks : List Bool) × PicksSoFar (λ v. first_of (sets v)) w sets nodes marks
pick_firsts sets nodes words back inside filled zero l =
    (replicate (length nodes) false, picks_none (λ v. first_of (sets v)) sets nodes (length nodes) (replicate (length nodes) false) refl refl)
pick_firsts sets nodes words back inside filled (suc w) l =
    let was = pick_firsts sets nodes words back inside filled w (omega arith) in
    let b = filled w (omega arith) in
    let here : IsIn (sets w) (first_of (sets w)) = first_in (sets w) b.0 b.1 in
    let below : IsBelow nodes (first_of (sets w)).trail = λ i e. inside w i (first_of (sets w)) (omega arith) here e in
    let trail = trail_from nodes back (length nodes) (first_of (sets w)).trail below below in
    let sized : length was.0 ≡ length nodes = was.1.1.sized in
    let marked = mark_trail trail.0 was.0
    (λ i h. let m = trail_below nodes back trail.0 (first_of (sets w)).trail (length nodes) trail.1 below i h in omega arith) in (
      marked.0,
      subst (λ (n : ℕ). PicksSoFar (λ v. first_of (sets v)) n sets nodes marked.0) (add-one w)
          (picks_more (λ v. first_of (sets v)) w sets nodes was.0 marked.0 trail.0 here trail.1 marked.1 marked.2 was.1),
    )

-- an order that is legal before an event explains what comes before it
legal_take : (opening : List ℕ) (trace : List Event) (k : ℕ) (order : List Call) → Legal opening trace k order
    → IsOrder opening (take k trace) order
legal_take opening trace k order l = record {
  once = l.once;
  issued = λ x c h. let r = l.issued x c h in (r.0, get_take k trace r.0 (Issue c) r.1 r.2);
  answered = λ i id reply h. let r = take_get k trace i (Answer id reply) h in l.answered i id reply r.0 r.1;
  real_time = λ i j x y c d reply less h m at there.
      l.real_time i j x y c d reply less (take_get k trace i (Answer c.id reply) h).1 (take_get k trace j (Issue d) m).1 at there;
  replies = λ i x c reply at h. l.replies i x c reply at (take_get k trace i (Answer c.id reply) h).1;
}

-- what a search holds before event k
pub holds_linearizable : {A : Type 0} (opening : List ℕ) (trace whole : List Event) (k : ℕ) (s : Search A)
    → HasSearched {A = A} opening trace whole k s → IsLinearizable opening (take k trace)
holds_linearizable {A} opening trace whole k s holds =
    let sets : ℕ → List Branch = lists_of s.words.items in
    let sound : IsSoundSearch opening trace k (lists_of s.tables.items) sets s.nodes.items = holds.searched.sound in
    let picked = pick_firsts sets s.nodes.items (length opening) sound.back sound.inside holds.filled (length opening) (omega arith) in
    let explained = sound.explained (λ v. first_of (sets v)) picked.1.0 picked.0 picked.1.1 in
    (order_of s.nodes.items picked.0, legal_take opening trace k (order_of s.nodes.items picked.0) explained.legal)
