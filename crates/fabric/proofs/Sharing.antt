-- Views that are cut in two and put together keep the rule of the table, and what a seat learns afterwards.
use Rattle.std.proofs.Common.{◌≡◌, ◌≢◌, ℕ, ◌<◌, List, [], ◌∷◌, ◌++◌, set, refl, sym, subst, ⊎_elim}
use Rattle.std.specs.Prelude.{slice_index}
use Rattle.std.proofs.lemmas.List.{append-nil, set-get_or}
use mathlib.Core.Option.{none, some}
use lib.ListN.{get_elem?}
use Rattle.atomic_table.specs.Table.{State, Me, step, keeps, Allows, Splits, Joins, opening}
use Rattle.atomic_table.proofs.Lists.{at_set}
use Rattle.torus.specs.Shape.{tiles_of}
use Rattle.torus.specs.declared.step.Step.{Step}
use Rattle.fabric_rule.specs.Core.{Load}
use Rattle.fabric_rule.specs.Known.{ShowsBeginning}
use Rattle.fabric_rule.specs.View.{View, blank}
use Rattle.fabric_rule.specs.Groups.{In, Apart, ToldOfGroup, GroupGoesOn, flat, with_groups, first_half, second_half, first_group, other_groups, note, both, knowing}
use Rattle.fabric_rule.specs.Rule.{Learned}
use Rattle.fabric_rule.proofs.Groups.{in_flat, in_one, nothing, first_in, others_in, halves_apart, others_apart}
use Rattle.fabric_rule.proofs.Growing.{kept_grow}
use Rattle.fabric_rule.proofs.Joining.{kept_joined}
use Rattle.fabric_rule.proofs.Cutting.{kept_cut}
use Rattle.fabric_rule.proofs.Ending as ending
use Rattle.fabric.specs.Table.{Holds, learned, merged}

-- one look after which the seat has learned of all runs that it was told of
learns_as : (load : Load) (slots id i : ℕ) (me : Me (Unit {0}) View) (gs : List (List ℕ)) → ((t : ℕ) → In gs t → In me.0.groups t)
    → (Apart me.0.groups → Apart gs)
    → Allows (Holds load) slots id me i (λ n. n) (λ n m. Learned me.0 gs m.0 × (m.1 ≡ me.1))
learns_as load slots id i me gs sub parted s h _ at small =
    let fit = h.1.fits id me.0 at in
    let n : ℕ = slice_index s.words i in
    let w : View = with_groups (knowing me.0 (h.0 ++ [])) gs in
    let shown : ShowsBeginning load (set s.words i n) (h.0 ++ []) =
    subst (λ (l : List ℕ). ShowsBeginning load l (h.0 ++ [])) (sym (set-get_or s.words i 0))
    (subst (λ (l : List Step). ShowsBeginning load s.words l) (sym (append-nil h.0)) h.1.shown) in (
      w,
      keeps,
      tt,
      (h.0 ++ [], kept_grow load s.words (set s.words i n) s.views h.0 [] id me.0 w h.1 at shown tt tt refl fit.same_load sub (parted fit.apart) tt),
      (
        record {
          from = subst (λ (l : List Step). GroupGoesOn me.0.groups l me.0.run) (sym (append-nil h.0)) fit.begins;
          view = refl;
          told = subst (λ (l : List Step). ToldOfGroup l me.0.groups me.0.told) (sym (append-nil h.0)) fit.told;
        },
        refl,
      ),
    )

pub learns : (load : Load) (slots id i : ℕ) (me : Me (Unit {0}) View) → Allows (Holds load) slots id me i (λ n. n) (learned (step slots i 0 0 none) me)
learns load slots id i me = learns_as load slots id i me me.0.groups (λ t j. j) (λ a. a)

pub merges : (load : Load) (slots id i : ℕ) (me : Me (Unit {0}) View) → Allows (Holds load) slots id me i (λ n. n) (merged (step slots i 0 0 none) me)
merges load slots id i me =
    learns_as load slots id i me (flat me.0.groups ∷ []) (λ t j. in_flat me.0.groups t (in_one (flat me.0.groups) t j)) (λ a. ((λ t o e. e), tt))

pub joins : (load : Load) (id other : ℕ) (v w : View) → Joins (Holds load) id v other w (both v w) blank
joins load id other v w s h at ne at' =
    let there = ⊎_elim (λ (p : (other ≡ id) × (both v w ≡ w)). absurd (ne p.0)) (λ (p : (other ≢ id) × (get_elem? s.views other ≡ some w)). p.1)
    (at_set s.views id other (both v w) w at') in
    (h.0, kept_joined load s.words s.views h.0 id other v w h.1 at ne there)

pub notes : (load : Load) (id : ℕ) (v : View) → Splits (Holds load) id v (with_groups v v.groups) (note v)
notes load id v s h at = (
  h.0,
  kept_cut load s.words s.views h.0 id v v.groups [] h.1 at (λ t i. i) (λ t i. absurd i) (nothing v.groups)
      (h.1.fits id v at).apart tt,
)

pub halves : (load : Load) (id : ℕ) (v : View) → Splits (Holds load) id v (first_half v) (second_half v)
halves load id v s h at = let a = (h.1.fits id v at).apart in (
  h.0,
  kept_cut load s.words s.views h.0 id v (first_group v.groups ∷ []) (other_groups v.groups) h.1 at (first_in v.groups) (others_in v.groups)
      (halves_apart v.groups a) ((λ t o e. e), tt) (others_apart v.groups a),
)

-- the table at the start
pub begins : (load : Load) (row : List ℕ) (v : View) → ShowsBeginning load row [] → v.load ≡ load → v.run ≡ [] → v.told ≡ [] → Apart v.groups
    → Holds load (opening row [] v)
begins load row v shown e f g parted = ([], ending.begins load row v shown e f g parted)

-- the table at the end, with a seat that has every tile: its run is the longest
pub ends : (load : Load) (id : ℕ) (v : View) (s : State (Unit {0}) View) → Holds load s → get_elem? s.views id ≡ some v
    → ((t : ℕ) → t < tiles_of load.shape → In v.groups t) → ShowsBeginning load s.words v.run
ends load id v s h at all = let k = h.1 in subst (λ (l : List Step). ShowsBeginning load s.words l) (sym (ending.ends load s.words s.views h.0 id v k at all)) k.shown
