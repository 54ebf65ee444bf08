-- What is read where a head is wrong, and where it is right.
use Rattle.std.proofs.Common.{◌≡◌, ◌⊎◌, inr, ℕ, ◌≤◌, Bool, true, false, not, List, length, Result, Err, refl, sym, ◌∙◌, subst}
use Rattle.std.specs.Prelude.{◌==◌, nat_lt, if◌then◌else◌, IfErr}
use Rattle.std.proofs.lemmas.Bool.{eq-eqb, eqb-true, le-ltb}
use Rattle.machine_record.specs.declared.reading.Unread.{Unread}
use Rattle.machine_record.specs.declared.reading.Unread.TheVariants.{Memory, At}
use Rattle.machine_record.specs.Bytes.{the_mark}
use Rattle.machine_record.specs.Reading.{number_in_bytes, record_headed, body_in_bytes}
use Rattle.machine_record.specs.Recording.{Recording}
use Rattle.machine_record.proofs.ReadBack.{picks}
use Rattle.machine_record.proofs.reading.body_of.Goals as goal

not_so : (b : Bool) → (b ≡ true → ⊥) → b ≡ false
not_so false h = refl
not_so true h = absurd (h refl)

differs : (a b : ℕ) → (a ≡ b → ⊥) → (a == b) ≡ false
differs a b ne = not_so (a == b) (λ t. ne (eqb-true a b t))

picks_second : {X : Type 0} (a b c : Bool) (x y z w : X) → a ≡ false → b ≡ false
    → (if a then x else (if not b then y else (if not c then z else w))) ≡ y
picks_second false false c x y z w ha hb = refl
picks_second true b c x y z w ha hb = absurd (cc)
picks_second false true c x y z w ha hb = absurd (cc)

picks_third : {X : Type 0} (a b c : Bool) (x y z w : X) → a ≡ false → b ≡ true → c ≡ false
    → (if a then x else (if not b then y else (if not c then z else w))) ≡ z
picks_third false true false x y z w ha hb hc = refl
picks_third true b c x y z w ha hb hc = absurd (cc)
picks_third false false c x y z w ha hb hc = absurd (cc)
picks_third false true true x y z w ha hb hc = absurd (cc)

module _ (bs : List ℕ) (version : ℕ) (long : 48 ≤ length bs) where
  abbrev headed : Result Recording ℕ
  headed = record_headed bs (number_in_bytes bs 16) (number_in_bytes bs 24) (number_in_bytes bs 32) (number_in_bytes bs 40)

  other_mark : (n : ℕ) → n ≡ number_in_bytes bs 0 → (n ≡ the_mark → ⊥) → body_in_bytes version bs ≡ Err 0
  other_mark n is ne =
      picks_second (nat_lt (length bs) 48) (number_in_bytes bs 0 == the_mark) (number_in_bytes bs 8 == version) (Err (length bs)) (Err 0) (Err 8) headed
      (le-ltb (length bs) 48 long) (differs (number_in_bytes bs 0) the_mark (λ e. ne (is ∙ e)))

  other_version : (n m : ℕ) → n ≡ number_in_bytes bs 0 → n ≡ the_mark → m ≡ number_in_bytes bs 8 → (m ≡ version → ⊥) → body_in_bytes version bs ≡ Err 8
  other_version n m is same also ne =
      picks_third (nat_lt (length bs) 48) (number_in_bytes bs 0 == the_mark) (number_in_bytes bs 8 == version) (Err (length bs)) (Err 0) (Err 8) headed
      (le-ltb (length bs) 48 long) (eq-eqb (number_in_bytes bs 0) the_mark (sym is ∙ same)) (differs (number_in_bytes bs 8) version (λ e. ne (also ∙ e)))

  right_head : (n m : ℕ) → n ≡ number_in_bytes bs 0 → n ≡ the_mark → m ≡ number_in_bytes bs 8 → m ≡ version → body_in_bytes version bs ≡ headed
  right_head n m is same also so =
      picks (nat_lt (length bs) 48) (number_in_bytes bs 0 == the_mark) (number_in_bytes bs 8 == version) (Err (length bs)) (Err 0) (Err 8) headed
      (le-ltb (length bs) 48 long) (eq-eqb (number_in_bytes bs 0) the_mark (sym is ∙ same)) (eq-eqb (number_in_bytes bs 8) version (sym also ∙ so))

-- why bytes are no record, by the reading that it comes from
abbrev Why : Result Recording ℕ → Unread → Type 0
Why read why = (why ≡ Memory) ⊎ ((place : ℕ) × (why ≡ At place) × (read ≡ Err place))

err_on : {X : Type 0} (r : Result X Unread) (p q : Result Recording ℕ) → q ≡ p → IfErr r (Why p) → IfErr r (Why q)
err_on r p q same h = subst (λ (z : Result Recording ℕ). IfErr r (Why z)) (sym same) h

pub returns-then-number_at-ne-MARK-clause-err : goal.returns-then-number_at-ne-MARK-clause-err
returns-then-number_at-ne-MARK-clause-err g c =
    inr (0, refl, other_mark c.args.bytes.now c.args.version c.if-bytes-lt48.false c.number_at.result c.number_at.ensures c.if-number_at-ne-MARK.true)

pub returns-then-number_at-version-clause-err : goal.returns-then-number_at-version-clause-err
returns-then-number_at-version-clause-err g c =
    inr (
      8,
      refl,
      other_version c.args.bytes.now c.args.version c.if-bytes-lt48.false c.number_at.result c.number_at-2.result c.number_at.ensures
          c.if-number_at-ne-MARK.false c.number_at-2.ensures c.if-number_at-version.true,
    )

pub returns-clause-err : goal.returns-clause-err
returns-clause-err g c =
    let bs = c.args.bytes.now in
    let same : body_in_bytes c.args.version bs ≡ record_headed bs c.number_at-3.result c.number_at-4.result c.number_at-5.result c.number_at-6.result =
    right_head bs c.args.version c.if-bytes-lt48.false c.number_at.result c.number_at-2.result c.number_at.ensures c.if-number_at-ne-MARK.false c.number_at-2.ensures
    c.if-number_at-version.false
    ∙ (λ i. record_headed bs (sym c.number_at-3.ensures i) (sym c.number_at-4.ensures i) (sym c.number_at-5.ensures i) (sym c.number_at-6.ensures i)) in
    err_on c.record_headed.result (record_headed bs c.number_at-3.result c.number_at-4.result c.number_at-5.result c.number_at-6.result) (body_in_bytes c.args.version bs) same
    c.record_headed.ensures.err
