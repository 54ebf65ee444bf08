-- What is struck out, and what is left, of a network of choices.
use Rattle.std.proofs.Common.{◌≡◌, ◌≢◌, inl, inr, ⊎_elim, ℕ, ◌+◌, ◌*◌, ◌<◌, not, Bool, true, false, List, [], length, refl, sym, ◌∙◌, ap, subst, arith, eq-eqb}
use Rattle.std.specs.Prelude.{slice_index, slice_get, ◌==◌}
use Rattle.std.proofs.lemmas.Bool.{cases_eq, eqb-true}
use Rattle.rising.specs.declared.edge.Edge.{Edge}
use Rattle.wormhole.proofs.Inductions.{by_rising}
use Rattle.network_judge.specs.declared.table.Kind.{Kind}
use Rattle.network_judge.specs.declared.table.Join.{Join}
use Rattle.network_judge.specs.declared.table.Reply.{Reply}
use Rattle.network_judge.specs.Table.{table_of, is_receiver}
use Rattle.network_judge.specs.TableNet.{Flits}
use Rattle.network_judge.specs.Replies.{AreReplies}
use Rattle.network_judge.specs.Marks.{is_marked_at}
use Rattle.network_adaptive.specs.Choices.{AdaptiveNet, IsAdaptiveNet, AreReplyEnds, Comes, BeginsIn, ByChoice}
use Rattle.network_adaptive.specs.Choosing.{ChoiceTable, choosing_of, table, base_of, network, IsShaped}
use Rattle.network_adaptive.specs.Spread.{opens, leads_on}
use Rattle.network_adaptive.specs.Flags.{AreDown, IsEdgeOf}
use Rattle.network_adaptive.specs.Judged.{answers_of}
use Rattle.network_adaptive.proofs.Flags.{not_true, true_not}
use Rattle.network_adaptive.proofs.Bridge.{to_comes, comes_to}
use Rattle.network_adaptive.proofs.Circles.{are_answers}
use Rattle.network_adaptive.proofs.Deciding.{comes_end}
use Rattle.network_adaptive.proofs.Rising.{adaptive_is}
use Rattle.deadlock_laws.specs.DeadSets.{WaitsInside, IsDeadSet, IsGreatestDeadSet, HasRisingChoices}
use Rattle.dead_sets.specs.Cases.{AreCases, HasCase, AddsCases, IsCaseTo, IsReplyCase, IsWaitCase}
use Rattle.dead_sets.specs.Peeling.{IsPeeled}
use Rattle.dead_sets.specs.Numbers.{AreFlagsOfLeft, AreNumbers}
use Rattle.dead_sets.specs.Greatest.{IsFoundBy, IsDeadSetOf}
use Rattle.dead_sets.specs.declared.greatest.DeadSet.{DeadSet}
use Rattle.dead_sets.specs.declared.greatest.DeadSet.TheVariants.{Empty, Greatest}

module _ (t : ChoiceTable) (replies : List Reply) (none : List Bool) (down : AreDown none) (shaped : IsShaped t) (are : AreReplies (table t) replies)
    (at : List ℕ) (edges : List Edge) (left order : List ℕ) (cases : AreCases (length t.kinds) at edges)
    (added : AddsCases (IsWaitCase t.kinds t.joins replies t.choices t.ways none) [] [] at edges) (peeled : IsPeeled (length t.kinds) at edges left order)
    (depth : ℕ) (flits : Flits) where
  abbrev n : AdaptiveNet
  n = network t depth flits

  abbrev count : ℕ
  count = length t.kinds

  abbrev answers : ℕ → ℕ → Bool
  answers = answers_of replies

  net : IsAdaptiveNet n
  net = adaptive_is t depth flits shaped

  ends : AreReplyEnds n answers
  ends = are_answers t replies depth flits shaped are

  abbrev row : ℕ → ℕ → ℕ → Bool
  row j x = opens count t.choices (base_of t j + x * t.ways) t.ways []

  input_leads : (x : ℕ) → n.frame.ejects x ≡ false → leads_on t.kinds x ≡ true
  input_leads x e = true_not (is_receiver (slice_get t.kinds x)) e

  last_leads : (x : ℕ) → n.frame.ejects x ≡ true → leads_on t.kinds x ≡ false
  last_leads x e = ap not e

  leads_input : (x : ℕ) → leads_on t.kinds x ≡ true → n.frame.ejects x ≡ false
  leads_input x e = not_true (is_receiver (slice_get t.kinds x)) e

  -- packets to j in channel x: there is a case of them, from which they leave by its choices
  choice_case : (j x : ℕ) → Comes n j x → n.frame.ejects x ≡ false → (c : ℕ) × HasCase at edges x (row j x) c
  choice_case j x come input =
      added.all x (row j x) (j, comes_end n net j x come, (comes_to t none down depth flits j x come, inl (net.within j x come, input_leads x input, refl)))

  -- packets at their end: there is a case for each channel on which they are answered
  reply_case : (x y : ℕ) → Comes n x x → n.frame.ejects x ≡ true → answers x y ≡ true → (c : ℕ) × HasCase at edges x (λ z. z == y) c
  reply_case x y come last is =
      added.all x (λ z. z == y) (
        x,
        comes_end n net x x come,
        (
          comes_to t none down depth flits x x come,
          inr (
            last_leads x last,
            record {
              is = refl;
              reply = y;
              low = ends.to x y is;
              answered = is;
              choice = refl;
            },
          ),
        ),
      )

  -- packets can leave a case of a channel that is struck out by one that was struck out before
  earlier : (k : ℕ) → k < length order → (out : ℕ → Bool) (c : ℕ) → HasCase at edges (slice_index order k) out c
      → (m : ℕ) × (m < k) × (out (slice_index order m) ≡ true)
  earlier k low out c h =
      let l = peeled.before k c low h.low h.here in
      (l.place, l.low, h.only (slice_index order l.place) l.edge)

  receiver : (j x : ℕ) → Comes n j x → n.frame.ejects j ≡ true
  receiver j x (BeginsIn i joined) = net.receivers x j joined
  receiver j x (ByChoice y z c s) = receiver j y c

  -- numbers of the order
  module _ (numbers : List ℕ) (are_numbers : AreNumbers count order numbers) where
    -- the first place at which a channel stands
    module _ (gone : (x : ℕ) → x < count → slice_index left x ≡ 0) (x : ℕ) (low : x < count) where
      record Stands : Type 0 where
        place : ℕ
        inside : place < length order
        here : slice_index order place ≡ x
        value : slice_index numbers x + (place + 1) ≡ count

      stands : Stands
      stands =
          let r = peeled.zeros.all x (let s = peeled.size in omega arith) (gone x low) in
          let f = are_numbers.first r.0 r.1 in
          record {
            place = f.0;
            inside = f.1;
            here = f.2 ∙ r.2;
            value = subst (λ z. slice_index numbers z + (f.0 + 1) ≡ count) r.2 f.3;
          }

      greater : (out : ℕ → Bool) (c : ℕ) → HasCase at edges x out c → (y : ℕ) × (out y ≡ true) × (slice_index numbers x < slice_index numbers y)
      greater out c h =
          let s = stands in
          let e = earlier s.place s.inside out c (subst (λ z. HasCase at edges z out c) (sym s.here) h) in
          let inside = s.inside in
          let less = e.1 in
          let l = are_numbers.least e.0 (omega arith) in
          let v = s.value in
          (slice_index order e.0, e.2, omega arith)

    pub rise : ((x : ℕ) → x < count → slice_index left x ≡ 0) → HasRisingChoices n answers (slice_index numbers)
    rise gone = record {
      rises = λ j x come input.
          let w = choice_case j x come input in
          let g = greater gone x (net.within j x come) (row j x) w.0 w.1 in
          (g.0, record { input = input; chosen = g.1 }, g.2);
      answered = λ x y come is.
          let w = reply_case x y come (receiver x x come) is in
          let g = greater gone x (net.within x x come) (λ z. z == y) w.0 w.1 in
          subst (λ z. slice_index numbers x < slice_index numbers z) (eqb-true g.0 y g.1) g.2;
      bounded = λ x low. are_numbers.low x low;
    }

  -- flags of what is left
  module _ (flags : List Bool) (are_flags : AreFlagsOfLeft left flags) where
    up : (y : ℕ) → y < count → slice_index left y ≢ 0 → is_marked_at flags y ≡ true
    up y low some = are_flags.up y (let s = peeled.size in omega arith) some

    waits : (x j c : ℕ) (out : ℕ → Bool) → IsCaseTo t.kinds t.joins replies t.choices t.ways none j x out → HasCase at edges x out c
        → ((y : ℕ) → y < count → IsEdgeOf edges y c → slice_index left y ≢ 0) → WaitsInside n answers (is_marked_at flags) j x
    waits x j c out is h stuck = ⊎_elim
        (λ (a : (x < count) × (leads_on t.kinds x ≡ true) × (out ≡ row j x)). record {
          comes = to_comes t none down depth flits j x is.0;
          choices = λ y s. (let e = h.all y (ap (λ (o : ℕ → Bool). o y) a.2 ∙ s.chosen) in let l = cases.from y c e in up y l (stuck y l e));
          at_end = λ last. (let input = leads_input x a.1 in let bad : true ≡ false = sym last ∙ input in absurd (cc));
        })
        (λ (b : (leads_on t.kinds j ≡ false) × IsReplyCase count replies j x out).
        let r = b.1 in
        let e = h.all r.reply (ap (λ (o : ℕ → Bool). o r.reply) r.choice ∙ eq-eqb r.reply r.reply refl) in
        record {
          comes = to_comes t none down depth flits j x is.0;
          choices = λ y s. (let input : leads_on t.kinds j ≡ true = ap (leads_on t.kinds) (sym r.is) ∙ input_leads x s.input in
              let bad : true ≡ false = sym input ∙ b.0 in absurd (cc));
          at_end = λ last. (r.reply, ap (λ z. answers z r.reply) r.is ∙ r.answered, up r.reply r.low (stuck r.reply r.low e));
        })
        is.1

    dead : IsDeadSet n answers (is_marked_at flags)
    dead x is =
        let o = are_flags.only x is in
        let s = peeled.stuck x (let z = peeled.size in let l = o.0 in omega arith) o.1 in
        let w = added.only s.0 (omega arith) s.1 in
        let h : HasCase at edges w.0 w.1 s.0 = w.3 in
        let same : w.0 ≡ x = sym h.here ∙ s.2 in
        let j : ℕ = w.2.0 in
        subst (λ z. (j : ℕ) × WaitsInside n answers (is_marked_at flags) j z) same (j, waits w.0 j s.0 w.1 w.2.2 h s.3)

    -- a channel that is struck out is in no dead set
    module _ (other : ℕ → Bool) (is : IsDeadSet n answers other) where
      abbrev IsOut : ℕ → Type 0
      IsOut k = k < length order → other (slice_index order k) ≡ true → ⊥

      step : (k : ℕ) → ((m : ℕ) → m < k → IsOut m) → k < length order → (j : ℕ) → WaitsInside n answers other j (slice_index order k)
          → (b : Bool) → n.frame.ejects (slice_index order k) ≡ b → ⊥
      step k ih low j w false input =
          let v = choice_case j (slice_index order k) w.comes input in
          let e = earlier k low (row j (slice_index order k)) v.0 v.1 in
          let less = e.1 in
          ih e.0 less (omega arith) (w.choices (slice_index order e.0) (record { input = input; chosen = e.2 }))
      step k ih low j w true last =
          let a = w.at_end last in
          let come : Comes n (slice_index order k) (slice_index order k) =
          subst (λ i. Comes n i (slice_index order k)) (sym (net.arrives j (slice_index order k) w.comes last)) w.comes in
          let v = reply_case (slice_index order k) a.0 come last a.1 in
          let e = earlier k low (λ z. z == a.0) v.0 v.1 in
          let less = e.1 in
          ih e.0 less (omega arith) (ap other (eqb-true (slice_index order e.0) a.0 e.2) ∙ a.2)

      all_out : (k : ℕ) → IsOut k
      all_out = by_rising (λ (k : ℕ). k) IsOut (λ k ih low e. let d = is (slice_index order k) e in step k ih low d.0 d.1 (n.frame.ejects (slice_index order k)) refl)

      kept : (x : ℕ) → other x ≡ true → is_marked_at flags x ≡ true
      kept x e =
          let d = is x e in
          let low : x < count = net.within d.0 x (let w = d.1 in w.comes) in
          elim (cases_eq (slice_index left x) 0) [
            | inl gone ↦ (let r = peeled.zeros.all x (let s = peeled.size in omega arith) gone in absurd (all_out r.0 r.1 (ap other r.2 ∙ e)))
            | inr some ↦ up x low some
          ]

    pub greatest : IsGreatestDeadSet n answers (is_marked_at flags)
    greatest = record { dead = dead; greatest = kept }

-- what is found, of the lists of a network
module _ (kinds : List Kind) (joins : List Join) (replies : List Reply) (ways : ℕ) (choices : List ℕ) (none : List Bool) (down : AreDown none)
    (are : AreReplies (table_of kinds joins []) replies) (at : List ℕ) (edges : List Edge) (left order : List ℕ) (cases : AreCases (length kinds) at edges)
    (added : AddsCases (IsWaitCase kinds joins replies choices ways none) [] [] at edges) (peeled : IsPeeled (length kinds) at edges left order) where
  abbrev of : List Bool → ChoiceTable
  of marks = choosing_of kinds joins ways choices marks

  pub is_dead_set : {A : Type 0} (d : DeadSet A) → IsFoundBy left order d → IsDeadSetOf kinds joins replies ways choices d
  is_dead_set (Empty numbers) f = (
    (let n = f.1 in n.size) ∙ peeled.size,
    λ marks shaped depth flits. rise (of marks) replies none down shaped are at edges left order cases added peeled depth flits numbers.items
        (subst (λ z. AreNumbers z order numbers.items) peeled.size f.1) (λ x low. f.0 x (let s = peeled.size in omega arith)),
  )
  is_dead_set (Greatest flags) f = (
    (let n = f.0 in n.size) ∙ peeled.size,
    f.1,
    λ marks shaped depth flits. greatest (of marks) replies none down shaped are at edges left order cases added peeled depth flits flags.items f.0,
  )
