-- An attempt at a seat's own tile keeps the rule, and what it tells.
use Rattle.std.proofs.Common.{◌≡◌, ℕ, Bool, true, false, List, [], ◌∷◌, ◌++◌, set, Some, refl, sym, ap, ◌∙◌, subst}
use Rattle.std.specs.Prelude.{slice_index}
use Rattle.std.proofs.lemmas.List.{append-nil}
use mathlib.Core.Option.{some}
use lib.ListN.{get_elem?}
use Rattle.torus.specs.Shape.{tiles_of}
use Rattle.torus.specs.declared.step.Step.{Step}
use Rattle.flit_buffer.specs.Words.{word_of, performed}
use Rattle.flit_buffer.specs.declared.word_op.WordOp.{WordOp}
use Rattle.tile.specs.Agents.{TilePlace}
use Rattle.core_laws.specs.Core.{Load}
use Rattle.core_laws.specs.Runs.{IsAcceptedLoad}
use Rattle.fabric_rule.specs.Known.{tile_of, known, ShowsBeginning, op_of, moves}
use Rattle.fabric_rule.specs.Told.{grown, made, Tells}
use Rattle.fabric_rule.specs.View.{View}
use Rattle.fabric_rule.specs.Groups.{In, Others, Mine, Named, ToldOfGroup, knowing}
use Rattle.fabric_rule.specs.Rule.{Kept, Attempted}
use Rattle.fabric_rule.proofs.Groups.{away}
use Rattle.fabric_rule.proofs.Growing.{kept_grow}
use Rattle.fabric_rule.proofs.Runs.{tells_later, names_tile}

module _ (load : Load) (ok : IsAcceptedLoad load) (words : List ℕ) (views : List View) (id : ℕ) (v : View) (c : Step) (p : TilePlace) (o : WordOp)
    (r between : List Step)
    (k : Kept load words views r) (at : get_elem? views id ≡ some v) (loaded : v.load ≡ load) (quiet : v.told ≡ []) (is : r ≡ v.run ++ between)
    (others : Others v.groups between)
    (mine : In v.groups (tile_of c)) (here : known v.load v.run (tile_of c) ≡ Some p) (op : op_of p c ≡ Some o) where
  abbrev n : ℕ
  n = slice_index words (word_of o)

  abbrev b : Bool
  b = moves p c n

  here_load : known load v.run (tile_of c) ≡ Some p
  here_load = subst (λ (l : Load). known l v.run (tile_of c) ≡ Some p) loaded here

  pub told_here : Tells load words (v.run ++ between) c p o
  told_here = tells_later load ok words v.run between c p o (subst (λ (l : List Step). ShowsBeginning load words l) is k.shown)
      (away v.groups (tile_of c) between mine others) here_load op

  abbrev more : List Step
  more = made b c

  grows_by : (q : Bool) → r ++ made q c ≡ grown q (v.run ++ between) c
  grows_by true = ap (λ (l : List Step). l ++ c ∷ []) is
  grows_by false = append-nil r ∙ is

  named_by : (q : Bool) → Named (tiles_of load.shape) (made q c)
  named_by true = (names_tile load ok v.run (tile_of c) p here_load, tt)
  named_by false = tt

  mine_by : (q : Bool) → Mine v.groups (made q c)
  mine_by true = (mine, tt)
  mine_by false = tt

  pub step_kept : Kept load (performed o words) (set views id (knowing v (r ++ more))) (r ++ more)
  step_kept =
      let t = told_here in
      kept_grow load words (performed o words) views r more id v (knowing v (r ++ more)) k at
      (subst (λ (l : List Step). ShowsBeginning load (performed o words) l) (sym (grows_by b)) t.shows)
      (named_by b) (mine_by b) refl (λ _. loaded) (λ t i. i) (k.fits id v at).apart (subst (ToldOfGroup (r ++ more) v.groups) (sym quiet) tt)

  pub step_told : Attempted c p v n (knowing v (r ++ more))
  step_told =
      let t = told_here in
      let P : Load → Type 0 = λ l. Attempted c p (record v { load = l }) n
      (record { live = v.live; load = l; run = r ++ more; groups = v.groups; told = v.told }) in
      subst P (sym loaded) record {
        between = between;
        others = others;
        enabled_there = t.enabled_there;
        view = ap (λ (l : List Step). let z : View = record { live = v.live; load = load; run = l; groups = v.groups; told = v.told } in z) (grows_by b);
        tile = ap (λ (l : List Step). known load l (tile_of c)) (grows_by b) ∙ t.tile;
        suits = t.suits;
      }
