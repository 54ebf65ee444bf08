-- What a search holds without the nodes that no branch leads back to.
use Rattle.std.proofs.Common.{◌≡◌, ℕ, ◌<◌, Bool, List, [], ◌∷◌, length, Option, Vec, refl, sym, ◌∙◌, ap, subst, arith}
use Rattle.trace_laws.specs.declared.event.Event.{Event}
use Rattle.trace_laws.specs.declared.opened.Open.{Open}
use Rattle.trace_laws.specs.declared.opened.Config.{Config}
use Rattle.trace_laws.specs.declared.opened.Branch.{Branch}
use Rattle.trace_laws.specs.declared.opened.Node.{Node}
use Rattle.trace_laws.specs.Configs.{IsIn}
use Rattle.trace_laws.specs.Searches.{IsSoundSearch, configs_of}
use Rattle.trace_laws.proofs.Start.{in_map}
use Rattle.trace_judge.specs.declared.search.Search.{Search}
use Rattle.trace_judge.specs.Sets.{lists_of}
use Rattle.trace_judge.specs.Searched.{HasSearched}
use Rattle.trace_judge.specs.Kept.{renumbered, renumbered_all, marked_nodes, AreEnds, AreWithin, IsClosed, Lets}
use Rattle.trace_judge.specs.Marks.{AreNodes}
use Rattle.trace_judge.specs.Elders.{IsKeptUp, KeepsSome}
use Rattle.trace_judge.proofs.LettingGo.{let_go_sound}

-- the configurations stay
configs_stay : (marks : List Bool) (branches : List Branch) → configs_of (renumbered_all marks branches) ≡ configs_of branches
configs_stay marks [] = refl
configs_stay marks (b ∷ branches) = ap (λ (cs : List Config). b.config ∷ cs) (configs_stay marks branches)

complete_stays : (opening : List ℕ) (trace : List Event) (k : ℕ) (tables : ℕ → List (Option Open))
    (sets others : ℕ → List Branch) (marks : List Bool)
    → ((w : ℕ) → w < length opening → others w ≡ renumbered_all marks (sets w))
    → KeepsSome opening trace k tables (λ w. configs_of (sets w))
    → KeepsSome opening trace k tables (λ w. configs_of (others w))
complete_stays opening trace k tables sets others marks same complete = λ lin w l.
    subst (λ (cs : List Config). IsKeptUp opening trace k (tables w) w cs)
    (sym (ap configs_of (same w l) ∙ configs_stay marks (sets w))) (complete lin w l)

pub holds_lets : {A : Type 0} (opening : List ℕ) (trace whole : List Event) (k most : ℕ) (s : Search A)
    (words : Vec (Vec Branch A) A) (nodes : Vec Node A) (shown : List (Vec Branch A)) (seen : List Node)
    → shown ≡ s.words.items → seen ≡ s.nodes.items → Lets {A = A} shown seen words.items nodes.items
    → HasSearched {A = A} opening trace whole k s
    → HasSearched {A = A} opening trace whole k (record { tables = s.tables; words = words; nodes = nodes; index = s.index; most = most; found = s.found; stuck = s.stuck })
holds_lets {A} opening trace whole k most s words nodes shown seen e1 e2 lets holds =
    let marks : List Bool = lets.marks in
    let sets : ℕ → List Branch = lists_of s.words.items in
    let others : ℕ → List Branch = lists_of words.items in
    let sized : length s.words.items ≡ length opening = holds.sized in
    let long : length shown ≡ length s.words.items = ap (λ (vs : List (Vec Branch A)). length vs) e1 in
    let same : (w : ℕ) → w < length opening → others w ≡ renumbered_all marks (sets w) =
    λ w l. lets.same w (omega arith) ∙ ap (λ (vs : List (Vec Branch A)). renumbered_all marks (lists_of vs w)) e1 in
    let sound = let_go_sound opening trace k (lists_of s.tables.items) sets others s.nodes.items marks
    (lets.are.sized ∙ ap (λ (ns : List Node). length ns) e2)
    (subst (λ (ns : List Node). IsClosed marks ns) e2 lets.are.closed)
    (λ w l. subst (λ (vs : List (Vec Branch A)). AreEnds marks (lists_of vs w)) e1 (lets.are.ends w (omega arith)))
    same holds.searched.sound in
    record {
      sized = lets.long ∙ (long ∙ sized);
      tabled = holds.tabled;
      searched = record {
        tabled = holds.searched.tabled;
        sound = subst (λ (ns : List Node). IsSoundSearch opening trace k (lists_of s.tables.items) others ns)
            (sym (lets.only ∙ ap (λ (ns : List Node). marked_nodes marks marks ns) e2)) sound;
        complete = complete_stays opening trace k (lists_of s.tables.items) sets others marks same holds.searched.complete;
      };
      filled = λ w l.
          let b = holds.filled w l in
          let later : Branch = record { config = b.0.config; trail = renumbered marks b.0.trail } in (
            later,
            subst (λ (bs : List Branch). IsIn bs later) (sym (same w l))
                (in_map (λ (c : Branch). record { config = c.config; trail = renumbered marks c.trail }) (sets w) b.0 b.1),
          );
      parted = holds.parted;
    }

-- branches lead to nodes that there are
pub search_within : {A : Type 0} (opening : List ℕ) (trace whole : List Event) (k : ℕ) (s : Search A)
    (shown : List (Vec Branch A)) (seen : List Node) → shown ≡ s.words.items → seen ≡ s.nodes.items
    → HasSearched {A = A} opening trace whole k s
    → (w : ℕ) → w < length shown → AreWithin (length seen) (lists_of shown w)
search_within {A} opening trace whole k s shown seen e1 e2 holds = λ w l i b h e.
    let long : length shown ≡ length s.words.items = ap (λ (vs : List (Vec Branch A)). length vs) e1 in
    let m = holds.sized in
    let r = holds.searched.sound.inside w i b (omega arith)
    (subst (λ (vs : List (Vec Branch A)). IsIn (lists_of vs w) b) e1 h) e in
    subst (λ (ns : List Node). i < length ns) (sym e2) r

pub search_back : {A : Type 0} (opening : List ℕ) (trace whole : List Event) (k : ℕ) (s : Search A)
    (seen : List Node) → seen ≡ s.nodes.items → HasSearched {A = A} opening trace whole k s → AreNodes seen
search_back {A} opening trace whole k s seen e holds =
    subst (λ (ns : List Node). AreNodes ns) (sym e) holds.searched.sound.back
