-- Each operation on the table keeps the rule.
use Rattle.std.proofs.Common.{◌≡◌, ℕ, ◌+◌, ◌%◌, ◌^◌, Bool, true, false, List, [], ◌++◌, set, Some, refl, sym, ap, ◌∙◌, subst}
use Rattle.std.specs.Prelude.{slice_index, if◌then◌else◌, ◌==◌, bit_and, bit_or, bit_xor, max, min}
use Rattle.std.proofs.lemmas.List.{append-nil, set-get_or}
use mathlib.Core.Option.{none}
use prog.Atomic.{either}
use Rattle.atomic_table.specs.Table.{Me, Step as TableStep, step, keeps, Allows}
use Rattle.torus.specs.declared.step.Step.{Step}
use Rattle.packet.specs.Memory.{new_word}
use Rattle.flit_buffer.specs.Words.{word_of, effect_of}
use Rattle.flit_buffer.specs.declared.word_op.WordOp.{WordOp}
use Rattle.flit_buffer.specs.declared.word_op.WordOp.TheVariants.{Load as Read, Store, Swap, Cas, Add, And, Or, Xor, Max, Min}
use Rattle.tile.specs.Agents.{TilePlace}
use Rattle.fabric_rule.specs.Core.{Load}
use Rattle.fabric_rule.specs.Runs.{IsAcceptedLoad}
use Rattle.fabric_rule.specs.Known.{tile_of, known, ShowsBeginning, op_of, moves}
use Rattle.fabric_rule.specs.Told.{grown, made}
use Rattle.fabric_rule.specs.View.{View}
use Rattle.fabric_rule.specs.Groups.{In, ToldOfGroup, knowing}
use Rattle.fabric_rule.specs.Rule.{Kept, Attempted, Looked}
use Rattle.fabric_rule.proofs.Stores.{blind_moves, blind_left, blind_suits}
use Rattle.fabric_rule.proofs.Growing.{kept_grow}
use Rattle.fabric_rule.proofs.Attempts.{step_kept, step_told}
use Rattle.fabric.specs.Table.{Holds, attempted}

-- an operation on a word, which is a step of the seat's own tile
module _ (load : Load) (slots id : ℕ) (me : Me (Unit {0}) View) (c : Step) (x : TilePlace) (o : WordOp) (f : ℕ → ℕ)
    (accepted : IsAcceptedLoad me.0.load) (live : me.0.live ≡ true) (quiet : me.0.told ≡ []) (mine : In me.0.groups (tile_of c))
    (here : known me.0.load me.0.run (tile_of c) ≡ Some x) (op : op_of x c ≡ Some o)
    (same : (n : ℕ) → f n ≡ new_word (effect_of o) n) where
  pub steps_on : (told : ℕ → Me (Unit {0}) View → Type 0) → ((n : ℕ) (m : Me (Unit {0}) View) → Attempted c x me.0 n m.0 → m.1 ≡ me.1 → told n m)
      → Allows (Holds load) slots id me (word_of o) f told
  steps_on told tells s h _ at small =
      let fit = h.1.fits id me.0 at in
      let loaded : me.0.load ≡ load = fit.same_load live in
      let good : IsAcceptedLoad load = subst (λ (l : Load). IsAcceptedLoad l) loaded accepted in
      let n : ℕ = slice_index s.words (word_of o) in
      let more : List Step = made (moves x c n) c in
      let w : View = knowing me.0 (h.0 ++ more) in
      let kept = step_kept load good s.words s.views id me.0 c x o h.0 fit.begins.0 h.1 at loaded quiet fit.begins.1 fit.begins.2 mine here op in (
        w,
        keeps,
        tt,
        (h.0 ++ more, subst (λ (y : ℕ). Kept load (set s.words (word_of o) y) (set s.views id w) (h.0 ++ more)) (sym (same n)) kept),
        tells n (w, me.1) (step_told load good s.words s.views id me.0 c x o h.0 fit.begins.0 h.1 at loaded quiet fit.begins.1 fit.begins.2 mine here op) refl,
      )

-- an attempt by a store is one whatever number it finds: the step doesn't look at it
blind : (c : Step) (x : TilePlace) (w a : ℕ) (n m : ℕ) (v u : View) → op_of x c ≡ Some (Store w a) → Attempted c x v n u → Attempted c x v m u
blind c x w a n m v u op t = let e : moves x c n ≡ moves x c m = blind_moves x c w a n m op in record {
  between = t.between;
  others = t.others;
  enabled_there = t.enabled_there ∙ e;
  view = t.view ∙ ap (λ (q : Bool). knowing v (grown q (v.run ++ t.between) c)) e;
  tile = t.tile ∙ ap (λ (y : TilePlace). Some y) (blind_left x c w a n m op);
  suits = blind_suits v.load x c w a n m op t.suits;
}

-- by a seat that still knows v
module _ (load : Load) (slots id : ℕ) (me : Me (Unit {0}) View) (c : Step) (x : TilePlace) (v : View) (turning : me.0 ≡ v)
    (accepted' : IsAcceptedLoad v.load) (live' : v.live ≡ true) (quiet' : v.told ≡ []) (mine' : In v.groups (tile_of c))
    (here' : known v.load v.run (tile_of c) ≡ Some x) where
  accepted : IsAcceptedLoad me.0.load
  accepted = subst (λ (u : View). IsAcceptedLoad u.load) (sym turning) accepted'

  live : me.0.live ≡ true
  live = ap (λ (u : View). u.live) turning ∙ live'

  quiet : me.0.told ≡ []
  quiet = ap (λ (u : View). u.told) turning ∙ quiet'

  mine : In me.0.groups (tile_of c)
  mine = subst (λ (u : View). In u.groups (tile_of c)) (sym turning) mine'

  here : known me.0.load me.0.run (tile_of c) ≡ Some x
  here = subst (λ (u : View). known u.load u.run (tile_of c) ≡ Some x) (sym turning) here'

  abbrev Asks : WordOp → Type 0
  Asks o = op_of x c ≡ Some o

  -- an operation whose answer is the word that it found
  tried : (o : WordOp) (f : ℕ → ℕ) → Asks o → ((n : ℕ) → f n ≡ new_word (effect_of o) n) → (st : TableStep (Unit {0}))
      → Allows (Holds load) slots id me (word_of o) f (attempted v c x st me)
  tried o f op same st = steps_on load slots id me c x o f accepted live quiet mine here op same (attempted v c x st me) (λ n m t e. (turning, t, e))

  pub loads : (w : ℕ) → Asks (Read w) → Allows (Holds load) slots id me w (λ n. n) (attempted v c x (step slots w 0 0 none) me)
  loads w op = tried (Read w) (λ n. n) op (λ n. refl) (step slots w 0 0 none)

  pub stores : (w a : ℕ) → Asks (Store w a) → Allows (Holds load) slots id me w (λ _. a) (λ _. attempted v c x (step slots w a 0 none) me a)
  stores w a op = steps_on load slots id me c x (Store w a) (λ _. a) accepted live quiet mine here op (λ n. refl)
      (λ _. attempted v c x (step slots w a 0 none) me a) (λ n m t e. (turning, blind c x w a n a me.0 m.0 op t, e))

  pub swaps : (w a : ℕ) → Asks (Swap w a) → Allows (Holds load) slots id me w (λ _. a) (attempted v c x (step slots w a 0 none) me)
  swaps w a op = tried (Swap w a) (λ _. a) op (λ n. refl) (step slots w a 0 none)

  pub exchanges : (w e a : ℕ) → Asks (Cas w e a) → Allows (Holds load) slots id me w (λ n. either (n == e) a n) (attempted v c x (step slots w e a none) me)
  exchanges w e a op = tried (Cas w e a) (λ n. either (n == e) a n) op (λ n. by (n == e) n) (step slots w e a none)
    where
      by : (b : Bool) (n : ℕ) → either b a n ≡ (if b then a else n)
      by true n = refl
      by false n = refl

  pub adds : (w a : ℕ) → Asks (Add w a) → Allows (Holds load) slots id me w (λ n. (n + a) % 2 ^ 64) (attempted v c x (step slots w a 0 none) me)
  adds w a op = tried (Add w a) (λ n. (n + a) % 2 ^ 64) op (λ n. refl) (step slots w a 0 none)

  pub ands : (w a : ℕ) → Asks (And w a) → Allows (Holds load) slots id me w (λ n. bit_and n a) (attempted v c x (step slots w a 0 none) me)
  ands w a op = tried (And w a) (λ n. bit_and n a) op (λ n. refl) (step slots w a 0 none)

  pub ors : (w a : ℕ) → Asks (Or w a) → Allows (Holds load) slots id me w (λ n. bit_or n a) (attempted v c x (step slots w a 0 none) me)
  ors w a op = tried (Or w a) (λ n. bit_or n a) op (λ n. refl) (step slots w a 0 none)

  pub xors : (w a : ℕ) → Asks (Xor w a) → Allows (Holds load) slots id me w (λ n. bit_xor n a) (attempted v c x (step slots w a 0 none) me)
  xors w a op = tried (Xor w a) (λ n. bit_xor n a) op (λ n. refl) (step slots w a 0 none)

  pub maxes : (w a : ℕ) → Asks (Max w a) → Allows (Holds load) slots id me w (λ n. max n a) (attempted v c x (step slots w a 0 none) me)
  maxes w a op = tried (Max w a) (λ n. max n a) op (λ n. refl) (step slots w a 0 none)

  pub mins : (w a : ℕ) → Asks (Min w a) → Allows (Holds load) slots id me w (λ n. min n a) (attempted v c x (step slots w a 0 none) me)
  mins w a op = tried (Min w a) (λ n. min n a) op (λ n. refl) (step slots w a 0 none)

-- a look at any word, by which the seat learns all steps so far
pub looks : (load : Load) (slots id i : ℕ) (me : Me (Unit {0}) View) (live : me.0.live ≡ true) (quiet : me.0.told ≡ [])
    → Allows (Holds load) slots id me i (λ n. n) (λ n m. Looked i me.0 n m.0 × (m.1 ≡ me.1))
looks load slots id i me live quiet s h _ at small =
    let fit = h.1.fits id me.0 at in
    let n : ℕ = slice_index s.words i in
    let w : View = knowing me.0 (h.0 ++ []) in
    let same : set s.words i n ≡ s.words = set-get_or s.words i 0 in
    let here : ShowsBeginning load s.words (h.0 ++ []) = subst (λ (l : List Step). ShowsBeginning load s.words l) (sym (append-nil h.0)) h.1.shown in
    let kept = kept_grow load s.words (set s.words i n) s.views h.0 [] id me.0 w h.1 at (subst (λ (l : List ℕ). ShowsBeginning load l (h.0 ++ [])) (sym same) here) tt tt
    refl fit.same_load (λ t i. i) fit.apart (subst (ToldOfGroup (h.0 ++ []) me.0.groups) (sym quiet) tt) in (
      w,
      keeps,
      tt,
      (h.0 ++ [], kept),
      (
        record {
          between = fit.begins.0;
          others = fit.begins.2;
          view = ap (knowing me.0) (append-nil h.0 ∙ fit.begins.1);
          row = (s.words, subst (λ (l : Load). ShowsBeginning l s.words (h.0 ++ [])) (sym (fit.same_load live)) here, refl);
        },
        refl,
      ),
    )
