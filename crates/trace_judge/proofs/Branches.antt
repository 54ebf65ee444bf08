-- Branches that are added.
use Rattle.std.proofs.Common.{◌≡◌, ◌≢◌, inl, inr, ⊎_elim, ℕ, ◌==◌, List, [], ◌∷◌, ◌++◌, length, Option, Result, OnOk, refl, sym, ◌∙◌, ap, subst, slice_get}
use Rattle.std.proofs.Common.{append_assoc, append-nil, eq-eqb}
use Rattle.std.proofs.lemmas.Bool.{cases_eq, ne_eqb, cond-true, cond-false}
use Rattle.std.proofs.lemmas.Result.{IfOk-weaker}
use Rattle.trace_laws.specs.declared.opened.Open.{Open}
use Rattle.trace_laws.specs.declared.opened.Config.{Config}
use Rattle.trace_laws.specs.declared.opened.Branch.{Branch}
use Rattle.trace_laws.specs.declared.opened.Node.{Node}
use Rattle.trace_laws.specs.Configs.{IsIn, MayTake, GoesOn}
use Rattle.trace_laws.specs.Searches.{configs_of}
use Rattle.trace_laws.proofs.Lists.{get_push_cases, get_append_left, get_push}
use Rattle.trace_laws.proofs.Picking.{grown, node_of}
use Rattle.trace_laws.proofs.Sound.{sound_add}
use Rattle.trace_laws.proofs.Fewer.{sound_fewer}
use Rattle.trace_laws.proofs.Start.{in_map, map_in}
use Rattle.trace_judge.specs.Sets.{with_set, StaysSound}

pub pushed_in : (old new : List Branch) (b : Branch) → new ≡ old ++ b ∷ [] → IsIn (configs_of new) b.config
pushed_in old new b e = in_map (λ (c : Branch). c.config) new b
    (length old, ap (λ (bs : List Branch). slice_get bs (length old)) e ∙ get_push old b)

pub pushed_there : {X Y : Type 0} (r : Result X Y) (old new : List Branch) (b : Branch)
    → OnOk r (new ≡ old ++ b ∷ []) → OnOk r (IsIn (configs_of new) b.config)
pushed_there r old new b h = IfOk-weaker r (λ _. new ≡ old ++ b ∷ []) (λ _. IsIn (configs_of new) b.config)
    (λ _ e. pushed_in old new b e) h

-- what goes on has what there was
pub goes_on_in : {A : Type 0} (old new : List A) (x : A) → GoesOn old new → IsIn old x → IsIn new x
goes_on_in old new x more h = (h.0, ap (λ xs. slice_get xs h.0) more.1 ∙ get_append_left old more.0 h.0 x h.1)

pub goes_on_more : {A : Type 0} (a b c : List A) → GoesOn a b → GoesOn b c → GoesOn a c
goes_on_more a b c f g = (f.0 ++ g.0, g.1 ∙ (ap (λ xs. xs ++ g.0) f.1 ∙ append_assoc a f.0 g.0))

pub goes_on_same : {A : Type 0} (a : List A) → GoesOn a a
goes_on_same a = ([], sym (append-nil a))

pub configs_go_on : (old new : List Branch) (c : Config) → GoesOn old new → IsIn (configs_of old) c
    → IsIn (configs_of new) c
configs_go_on old new c more h =
    let r = map_in (λ (b : Branch). b.config) old c h in
    subst (λ (d : Config). IsIn (configs_of new) d) (sym r.2)
    (in_map (λ (b : Branch). b.config) new r.0 (goes_on_in old new r.0 more r.1))

pub with_same : (sets : ℕ → List Branch) (w : ℕ) (bs : List Branch) → with_set sets w bs w ≡ bs
with_same sets w bs = cond-true (w == w) bs (sets w) (eq-eqb w w refl)

pub with_other : (sets : ℕ → List Branch) (w : ℕ) (bs : List Branch) (v : ℕ) → v ≢ w
    → with_set sets w bs v ≡ sets v
with_other sets w bs v ne = cond-false (v == w) bs (sets v) (ne_eqb v w ne)

pub stays_same : (table : List (Option Open)) (w : ℕ) (old : List Branch) (nodes : List Node)
    → StaysSound table w old nodes old nodes
stays_same table w old nodes = λ opening trace k tables sets t are e l sound. sound

pub stays_more : (table : List (Option Open)) (w : ℕ) (a b c : List Branch) (l m n : List Node)
    → StaysSound table w a l b m → StaysSound table w b m c n → StaysSound table w a l c n
stays_more table w a b c l m n f g = λ opening trace k tables sets t are e inside sound.
    g opening trace k tables sets t are e inside (f opening trace k tables sets t are e inside sound)

-- fewer of them
pub stays_fewer : (table : List (Option Open)) (w : ℕ) (old new : List Branch) (nodes : List Node)
    → ((b : Branch) → IsIn new b → IsIn old b) → StaysSound table w old nodes new nodes
stays_fewer table w old new nodes fewer = λ opening trace k tables sets t are e inside sound.
    sound_fewer opening trace k tables (with_set sets w old) (with_set sets w new) nodes
    (λ v b h. ⊎_elim {C = IsIn (with_set sets w old v) b}
    (λ (here : v ≡ w).
    subst (λ (u : ℕ). IsIn (with_set sets w old u) b) (sym here)
    (subst (λ (bs : List Branch). IsIn bs b) (sym (with_same sets w old))
    (fewer b (subst (λ (bs : List Branch). IsIn bs b) (with_same sets w new)
    (subst (λ (u : ℕ). IsIn (with_set sets w new u) b) here h)))))
    (λ (ne : v ≢ w).
    subst (λ (bs : List Branch). IsIn bs b) (sym (with_other sets w old v ne))
    (subst (λ (bs : List Branch). IsIn bs b) (with_other sets w new v ne) h))
    (cases_eq v w))
    sound

-- one that is added
pub stays_added : (table : List (Option Open)) (w : ℕ) (old : List Branch) (nodes : List Node) (b : Branch) (s : ℕ)
    (o : Open)
    → IsIn old b → MayTake table w b.config s o
    → StaysSound table w old nodes (old ++ grown nodes b s o ∷ []) (nodes ++ node_of b o ∷ [])
stays_added table w old nodes b s o in' may = λ opening trace k tables sets t are e inside sound.
    sound_add opening trace k tables (with_set sets w old)
    (with_set sets w (old ++ grown nodes b s o ∷ [])) nodes w b s o t are inside
    (subst (λ (bs : List Branch). IsIn bs b) (sym (with_same sets w old)) in')
    (subst (λ (ts : List (Option Open)). MayTake ts w b.config s o) (sym e) may)
    (λ c h. ⊎_elim
    (λ there. inl (subst (λ (bs : List Branch). IsIn bs c) (sym (with_same sets w old)) (h.0, there)))
    (λ (r : (h.0 ≡ length old) × (grown nodes b s o ≡ c)). inr (sym r.1))
    (get_push_cases old (grown nodes b s o) h.0 c
    (ap (λ (bs : List Branch). slice_get bs h.0) (sym (with_same sets w (old ++ grown nodes b s o ∷ []))) ∙ h.1)))
    (λ v ne. with_other sets w (old ++ grown nodes b s o ∷ []) v ne ∙ sym (with_other sets w old v ne))
    sound
