-- What is known of the accesses of a run: which ones they are, and in what order they stand and were served.
use Rattle.std.proofs.Common.{◌≡◌, ◌⊎◌, inl, inr, ℕ, ◌+◌, ◌<◌, ◌≤◌, ◌==◌, ◌&&◌, true, false, cond, List, [], length, map}
use Rattle.std.proofs.Common.{Option, Some, None, refl, sym, ◌∙◌, ap, subst, arith, slice_get, eqb-true}
use Rattle.std.specs.Prelude.{option_map, flat_map}
use Rattle.std.specs.List.{range_with_len}
use Rattle.std.proofs.lemmas.Bool.{and_parts}
use Rattle.std.proofs.lemmas.Option.{same_Some}
use Rattle.packet.specs.declared.kinds.Op.{Op}
use Rattle.packet.specs.declared.kinds.Op.TheVariants as op
use Rattle.script_lines.specs.declared.line.Line.{Line}
use Rattle.memory_models.specs.declared.kinds.Kind.TheVariants.{Fence}
use Rattle.memory_models.specs.Trace.{uses_word}
use Rattle.model_text.specs.Kinds.{kind_of_op}
use Rattle.one_order.specs.Scripts.{Invocation}
use Rattle.one_order.specs.declared.ordered.Ordered.{Ordered}
use Rattle.one_order.specs.Observed.{Run, list_at}
use Rattle.one_order.specs.OneOrder.{HasOneOrder}
use Rattle.one_order.specs.AbstractScripts.{HasFollowed, FollowScripts}
use Rattle.core_models.specs.Programs.{ProgramStep, Made, Fenced, program_shown, steps_of_lines}
use Rattle.core_models.specs.Accesses.{Access, opening_store, operation_of_row, fence_by, access_by, row_named, access_of_step, accesses_of, accesses_shown}
use Rattle.core_models.specs.Traces.{access_at}
use Rattle.core_models.proofs.Rising.{Each, Rising, each_append, each_weaker, each_at, rising_append, rising_at, each_pieces, rising_pieces, each_filter}
use Rattle.core_models.proofs.Rising.{rising_filter, found}
use Rattle.core_models.proofs.Ranges.{each_range, rising_range, get_within}
use Rattle.core_models.proofs.Courses.{HoldsBack, Course, IsLaterStep, IsProved, ahead_of, upto, each_proved, steps_rise, course}
use Rattle.core_models.proofs.Rows.{answered_served, replies_are}

pub op_uses_word : (o : Op) → uses_word (kind_of_op o) ≡ true
op_uses_word op.Load = refl
op_uses_word (op.Store v) = refl
op_uses_word (op.Swap v) = refl
op_uses_word (op.Cas e n) = refl
op_uses_word (op.Add v) = refl
op_uses_word (op.And v) = refl
op_uses_word (op.Or v) = refl
op_uses_word (op.Xor v) = refl
op_uses_word (op.Max v) = refl
op_uses_word (op.Min v) = refl

-- how many operations of its processor are before what follows an access
abbrev pub upto_access : Access → ℕ
upto_access a = cond (uses_word a.kind) (a.index + 1) a.index

-- an access stands before another in program order, or its processor does
pub record IsLater (a b : Access) : Type 0 where
  pub processors : a.processor ≤ b.processor
  pub indexes : a.processor ≡ b.processor → upto_access a ≤ b.index

abbrev pub IsOpening : ℕ → Access → Type 0
IsOpening words a = (w : ℕ) × (w < words) × (a ≡ opening_store w)

pub at_access : (all : List Access) (x : ℕ) → x < length all → slice_get all x ≡ Some (access_at all x)
at_access all x low = get_within all (record { processor = 0; index = 0; kind = Fence; word = 0; served = 0 }) x low

module _ (tiles tags : ℕ) (opening : List ℕ) (run : Run) (n : ℕ) (rows : List Ordered) (one : HasOneOrder tiles tags opening run n rows)
    (scripts : List (List Line)) (follow : FollowScripts run n scripts) where
  abbrev pub words : ℕ
  words = length opening

  abbrev pub made_by : Ordered → Access
  made_by row = access_by words (run n) rows row

  -- operations of p that a fence keeps apart were served in their order
  abbrev pub KeepsApart : ℕ → ℕ → Type 0
  KeepsApart p c = (j k : ℕ) (x y : Ordered) → slice_get rows j ≡ Some x → slice_get rows k ≡ Some y → x.source ≡ p → y.source ≡ p → x.index < c
      → c ≤ y.index → x.served < y.served

  abbrev pub IsServedBy : ℕ → Access → Type 0
  IsServedBy p a = (k : ℕ) × (row : Ordered) × (slice_get rows k ≡ Some row) × (row.source ≡ p) × (a ≡ made_by row)

  abbrev pub IsFenceBy : ℕ → Access → Type 0
  IsFenceBy p a = (c : ℕ) × KeepsApart p c × (a ≡ fence_by words (run n) rows p c)

  -- what the row of a name is
  named_row : (p i : ℕ) (row : Ordered) → row_named words (run n) rows p i ≡ Some row
      → (row.source ≡ p) × (row.index ≡ i) × ((k : ℕ) × (slice_get rows k ≡ Some row))
  named_row p i row h =
      let it = (found (λ (r : Ordered). (r.source == p) && (r.index == i)) rows).some row h in
      let parts = and_parts (row.source == p) (row.index == i) it.0 in
      (eqb-true row.source p parts.0, eqb-true row.index i parts.1, it.1)

  -- what the access of a step is
  pub record IsOfStep (p : ℕ) (step : ProgramStep) (a : Access) : Type 0 where
    pub processor : a.processor ≡ words + p
    pub index : a.index ≡ ahead_of step
    pub end : upto_access a ≡ upto step

  of_row : (p i : ℕ) (a : Access) (o : Option Ordered) → o ≡ row_named words (run n) rows p i → option_map made_by o ≡ Some a → IsOfStep p
      (Made i) a × IsServedBy p a
  of_row p i a None is h = absurd (cc)
  of_row p i a (Some row) is h =
      let named = named_row p i row (sym is) in
      let same : made_by row ≡ a = same_Some (made_by row) a h in
      let name = named.0 in
      let index = named.1 in
      let used : uses_word (made_by row).kind ≡ true = op_uses_word (operation_of_row (run n) row).op in (
        subst (IsOfStep p (Made i)) same (record {
          processor = ap (λ q. words + q) name;
          index = index;
          end = ap (λ b. cond b ((made_by row).index + 1) (made_by row).index) used ∙ ap (λ k. k + 1) index;
        }),
        (named.2.0, row, named.2.1, name, sym same),
      )

  of_step : (p : ℕ) (step : ProgramStep) (a : Access) → access_of_step words (run n) rows p step ≡ Some a → IsOfStep p step a
  of_step p (Made i) a h = (of_row p i a (row_named words (run n) rows p i) refl h).0
  of_step p (Fenced c) a h = subst (IsOfStep p (Fenced c)) (same_Some (fence_by words (run n) rows p c) a h)
      (record { processor = refl; index = refl; end = refl })

  later_steps : (p : ℕ) (x y : ProgramStep) (a b : Access) → IsLaterStep x y → access_of_step words (run n) rows p x ≡ Some a
      → access_of_step words (run n) rows p y ≡ Some b → IsLater a b
  later_steps p x y a b later here there =
      let u = of_step p x a here in
      let v = of_step p y b there in
      let pu = u.processor in
      let pv = v.processor in
      let eu = u.end in
      let iv = v.index in
      record { processors = omega (arith, pu, pv); indexes = λ same. omega (arith, eu, iv, later) }

  -- a program's accesses
  module _ (p : ℕ) (low : p < length scripts) where
    abbrev pub lines : List Line
    lines = list_at scripts p

    abbrev pub followed : HasFollowed run n p (list_at scripts p)
    followed = follow.each p low

    abbrev pub ops : List Invocation
    ops = followed.ops

    pub course_of : Course ops 0 (program_shown (run n) p lines)
    course_of = subst (λ rs. Course ops 0 (steps_of_lines lines 0 rs)) (sym (replies_are tiles tags opening run n rows one p ops followed.are))
        (course ops lines [] ops 0 refl refl followed.follows)

    keeps_apart : (c : ℕ) → HoldsBack ops c → KeepsApart p c
    keeps_apart c h j k x y here there mine also less from =
        answered_served tiles tags opening run n rows one p ops followed.are j k c x y here there mine also from (λ o q at next. h x.index o q less at next)

    pub facts_of : Each (λ a. IsServedBy p a ⊎ IsFenceBy p a) (accesses_of words (run n) rows p lines)
    facts_of = each_filter (λ a. IsServedBy p a ⊎ IsFenceBy p a) (IsProved ops) (access_of_step words (run n) rows p) (program_shown (run n) p lines)
        (λ step a proved is. fact step a proved is) (each_proved ops 0 (program_shown (run n) p lines) course_of)
      where
        fact : (step : ProgramStep) (a : Access) → IsProved ops step → access_of_step words (run n) rows p step ≡ Some a → IsServedBy p a ⊎ IsFenceBy p a
        fact (Made i) a proved is = inl (of_row p i a (row_named words (run n) rows p i) refl is).1
        fact (Fenced c) a proved is = inr (c, keeps_apart c proved, sym (same_Some (fence_by words (run n) rows p c) a is))

    pub rise_of : Rising IsLater (accesses_of words (run n) rows p lines)
    rise_of = rising_filter IsLater IsLaterStep (access_of_step words (run n) rows p) (program_shown (run n) p lines) (later_steps p)
        (steps_rise ops 0 (program_shown (run n) p lines) course_of)

  -- all accesses
  abbrev pub IsShown : Access → Type 0
  IsShown a = IsOpening words a ⊎ ((p : ℕ) × (p < length scripts) × (IsServedBy p a ⊎ IsFenceBy p a))

  abbrev pub shown : List Access
  shown = accesses_shown words (run n) rows scripts

  abbrev pub openings : List Access
  openings = map opening_store (range_with_len 0 words)

  abbrev pub piece : ℕ → List Access
  piece p = accesses_of words (run n) rows p (list_at scripts p)

  abbrev pub programs : List Access
  programs = flat_map piece (range_with_len 0 (length scripts))

  pub all_shown : Each IsShown shown
  all_shown = each_append IsShown openings programs
      (each_range IsShown opening_store words 0 (λ w from less. inl (w, omega arith, refl)))
      (each_pieces IsShown piece (length scripts) 0 (λ p from less. (let low : p < length scripts = omega (arith, less) in
      each_weaker (λ a. IsServedBy p a ⊎ IsFenceBy p a) IsShown (piece p) (λ a h. inr (p, low, h)) (facts_of p low))))

  processor_of : (p : ℕ) (a : Access) → IsServedBy p a ⊎ IsFenceBy p a → a.processor ≡ words + p
  processor_of p a (inl h) = ap (λ (z : Access). z.processor) h.4 ∙ ap (λ q. words + q) h.3
  processor_of p a (inr h) = ap (λ (z : Access). z.processor) h.2

  behind_opening : (w : ℕ) → w < words → Each (IsLater (opening_store w)) programs
  behind_opening w low = each_pieces (IsLater (opening_store w)) piece (length scripts) 0 (λ p from less. (let inside : p < length scripts = omega
      (arith, less) in
      each_weaker (λ a. IsServedBy p a ⊎ IsFenceBy p a) (IsLater (opening_store w)) (piece p) (λ a h. (let is = processor_of p a h in
      record { processors = omega (arith, is, low); indexes = λ same. absurd (omega (arith, is, low, same)) })) (facts_of p inside)))

  pub all_rise : Rising IsLater shown
  all_rise = rising_append IsLater openings programs
      (rising_range IsLater opening_store words 0 (λ p q less. record {
        processors = omega (arith, less);
        indexes = λ same. absurd (omega
            (arith, less, same));
      }))
      (rising_pieces IsLater (λ p a. a.processor ≡ words + p) piece (length scripts) 0
      (λ p from less. (let low : p < length scripts = omega (arith, less) in
      each_weaker (λ a. IsServedBy p a ⊎ IsFenceBy p a) (λ a. a.processor ≡ words + p) (piece p) (processor_of p) (facts_of p low)))
      (λ p from less. (let low : p < length scripts = omega (arith, less) in rise_of p low))
      (λ p q a b less here there. record {
        processors = omega (arith, less, here, there);
        indexes = λ same. absurd (omega
            (arith, less, here, there, same));
      }))
      (each_range (λ a. Each (IsLater a) programs) opening_store words 0 (λ w from less. behind_opening w (omega (arith, less))))

  pub fact_at : (x : ℕ) → x < length shown → IsShown (access_at shown x)
  fact_at x low = each_at IsShown shown x (access_at shown x) (at_access shown x low) all_shown

  pub later_at : (x y : ℕ) → x < y → y < length shown → IsLater (access_at shown x) (access_at shown y)
  later_at x y less low = rising_at IsLater shown x y (access_at shown x) (access_at shown y) less (at_access shown x (omega (arith, less, low)))
      (at_access shown y low) all_rise

  -- what uses a word is an opening store, or an operation of a row
  pub record IsServed (a : Access) : Type 0 where
    pub p : ℕ
    pub low : p < length scripts
    pub k : ℕ
    pub row : Ordered
    pub at : slice_get rows k ≡ Some row
    pub source : row.source ≡ p
    pub is : a ≡ made_by row

  pub used_is : (a : Access) → uses_word a.kind ≡ true → IsShown a → IsOpening words a ⊎ IsServed a
  used_is a used (inl h) = inl h
  used_is a used (inr (p, low, inl h)) = inr (record { p = p; low = low; k = h.0; row = h.1; at = h.2; source = h.3; is = h.4 })
  used_is a used (inr (p, low, inr h)) = (let bad : uses_word a.kind ≡ false = ap (λ (z : Access). uses_word z.kind) h.2 in absurd (cc))

  pub unused_is : (a : Access) → uses_word a.kind ≡ false → IsShown a → (p : ℕ) × IsFenceBy p a
  unused_is a none (inl h) = (let bad : uses_word a.kind ≡ true = ap (λ (z : Access). uses_word z.kind) h.2 in absurd (cc))
  unused_is a none (inr (p, low, inl h)) =
      (let bad : uses_word a.kind ≡ true = ap (λ (z : Access). uses_word z.kind) h.4 ∙ op_uses_word (operation_of_row (run n) h.1).op in absurd (cc))
  unused_is a none (inr (p, low, inr h)) = (p, h)
