-- What stays of a reading by a line of a text of fixed routes.
use Rattle.std.proofs.Common.{◌≡◌, inl, inr, ℕ, ◌*◌, ◌≤◌, true, false, List, length, sym, ◌∙◌, ap, subst, arith}
use Rattle.std.specs.Prelude.{Result, Ok, Err, OnOk}
use Rattle.std.proofs.lemmas.Bool.{cases_Bool}
use Rattle.lexer.specs.Outcome.{Makes}
use Rattle.network_text.specs.declared.reason.NetworkReason.{NetworkReason}
use Rattle.network_text.specs.declared.reason.NetworkReason.TheVariants as reason
use Rattle.network_text.specs.Network.{after_words}
use Rattle.network_text.specs.Reading.{reading_of, IsRead}
use Rattle.network_text.specs.declared.choosing.Choosing as reading
use Rattle.network_text.specs.ChoosingRead.{IsChoosingRead}
use Rattle.network_text.proofs.Kept.{words_keep}

same_rows : (size layers cells new : ℕ) → size ≡ layers * cells → new ≡ cells → size ≡ layers * new
same_rows size layers cells new is same = is ∙ ap (λ c. layers * c) (sym same)

no_rows : (size layers cells new : ℕ) → size ≡ layers * cells → layers ≡ 0 → size ≡ layers * new
no_rows size layers cells new is none =
    let here : size ≡ 0 * cells = is ∙ ap (λ l. l * cells) none in
    let there : layers * new ≡ 0 * new = ap (λ l. l * new) none in
    omega arith

kept_by : {A : Type 0} (old new : reading.Choosing A) (ws : List (List ℕ)) → new.layers ≡ old.layers → new.further ≡ old.further
    → IsChoosingRead old → after_words (reading_of old.fixed) ws ≡ Ok (reading_of new.fixed) → IsRead new.fixed → IsChoosingRead new
kept_by old new ws layers further read made fixed = elim (cases_Bool old.fixed.begun) [
  | inl given ↦ (let keeps = words_keep (reading_of old.fixed) ws given (reading_of new.fixed) made in record {
    fixed = fixed;
    rows = ap (λ v. length v.items) further ∙ (same_rows _ old.layers _ _ read.rows keeps.1 ∙ ap (λ l. l * length new.fixed.choices.items) (sym layers));
    few = subst (λ l. l ≤ length new.further.items) (sym layers) (subst (λ v. old.layers ≤ length v.items) (sym further) read.few);
    given = λ e. (let bad : true ≡ false = sym keeps.0 ∙ e in absurd (cc));
  })
  | inr not_given ↦ record {
    fixed = fixed;
    rows = ap (λ v. length v.items) further ∙ (no_rows _ old.layers _ (length new.fixed.choices.items) read.rows (read.given not_given) ∙ ap (λ l. l * length new.fixed.choices.items) (sym layers));
    few = subst (λ l. l ≤ length new.further.items) (sym layers) (subst (λ v. old.layers ≤ length v.items) (sym further) read.few);
    given = λ e. layers ∙ read.given not_given;
  }
]

-- a line that is taken
pub fixed_read : {A Y : Type 0} (old new : reading.Choosing A) (result : Result Y NetworkReason) (ws : List (List ℕ))
    → new.layers ≡ old.layers → new.further ≡ old.further → IsChoosingRead old
    → Makes reason.Memory (reading_of new.fixed) result (after_words (reading_of old.fixed) ws) → OnOk result (IsRead new.fixed)
    → OnOk result (IsChoosingRead new)
fixed_read old new (Ok y) ws layers further read made fixed = kept_by old new ws layers further read made fixed
fixed_read old new (Err e) ws layers further read made fixed = tt
