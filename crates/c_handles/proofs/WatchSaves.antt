-- What bytes are a watch's, and what comes of others.
use Rattle.std.proofs.Common.{◌≡◌, inl, inr, ℕ, List, refl, sym, ◌∙◌, ap, Ok, Err, Some, None, ⊎_elim, subst}
use Rattle.std.specs.Prelude.{◌⊎◌, MatchOption, Option, Result}
use Rattle.trace_watch.specs.declared.watch.Watch.{Watch}
use Rattle.trace_watch.specs.Watched.{Watched, watched}
use Rattle.trace_watch.proofs.Copies.{same_follow}
use Rattle.machine_record.specs.declared.reading.Unread.{Unread}
use Rattle.machine_record.specs.declared.reading.Unread.TheVariants.{Memory, At}
use Rattle.machine_record.specs.Bytes.{record_bytes}
use Rattle.machine_record.specs.Reading.{record_in_bytes}
use Rattle.machine_record.specs.Recording.{Recording}
use Rattle.c_handles.specs.WatchRows.{IsSavedWatch, watch_recording}
use Rattle.c_handles.specs.WatchReading.{after_rows, no_parts, watched_in}
use Rattle.c_handles.specs.WatchSaved.{HasNoWatch, IsRestoredWatch, IsUnreadWatch}
use Rattle.c_handles.proofs.WatchBack.{one_watched, watch_read}

-- the bytes of the record of a watch
pub saved_by : (r : Recording) (x : Watched) (bs : List ℕ) → r ≡ watch_recording x → bs ≡ record_bytes r → record_in_bytes bs ≡ Ok r
    → IsSavedWatch bs x
saved_by r x bs same is back = record { bytes = sym (is ∙ ap record_bytes same); back = back ∙ ap Ok same }

-- one record is read
one_read : (bs : List ℕ) (r s : Recording) → record_in_bytes bs ≡ Ok r → record_in_bytes bs ≡ Ok s → r ≡ s
one_read bs r s h k = let e : Ok r ≡ Ok s = sym h ∙ k in cc

-- a record whose own watch has other bytes has none
pub no_watch : (kept : Recording) (bs : List ℕ) (w : Watched) → w ≡ watched_in (after_rows no_parts kept.rows)
    → (record_bytes (watch_recording w) ≡ bs → ⊥) → HasNoWatch kept bs
no_watch kept bs w is other y same saved =
    let one : w ≡ y = is ∙ (ap (λ (r : Recording). watched_in (after_rows no_parts r.rows)) same ∙ watch_read y) in
    other (ap (λ (z : Watched). record_bytes (watch_recording z)) one ∙ saved.bytes)

-- what its bytes make
pub restored_by : {A : Type 0} (bs : List ℕ) (w : Watch A) → IsSavedWatch bs (watched w) → IsRestoredWatch bs w
restored_by {A} bs w h =
    let one : (v : Watch A) → IsSavedWatch bs (watched v) → watched w ≡ watched v =
    λ v k. one_watched (watched w) (watched v) (one_read bs (watch_recording (watched w)) (watch_recording (watched v)) h.back k.back) in
    record { saved = h; says = one; follows = λ v k opening trace. same_follow v w (one v k) opening trace }

-- what is found, and what is not
pub some_found : {T : Type 0} (o : Option T) (t : T) (N : Type 0) (S : T → Type 0) → o ≡ Some t → MatchOption o N S → S t
some_found {T} o t N S is h = subst (λ (x : Option T). MatchOption x N S) is h

pub none_found : {T : Type 0} (o : Option T) (N : Type 0) (S : T → Type 0) → o ≡ None → MatchOption o N S → N
none_found {T} o N S is h = subst (λ (x : Option T). MatchOption x N S) is h

-- no record is read
pub unread_by : (bs : List ℕ) (why : Unread) → ((why ≡ Memory) ⊎ ((place : ℕ) × (why ≡ At place) × (record_in_bytes bs ≡ Err place)))
    → IsUnreadWatch bs why
unread_by bs why h = ⊎_elim
    (λ (m : why ≡ Memory). subst (IsUnreadWatch bs) (sym m) tt)
    (λ (p : (place : ℕ) × (why ≡ At place) × (record_in_bytes bs ≡ Err place)). subst (IsUnreadWatch bs) (sym p.1)
    ((λ y saved. let e : Err p.0 ≡ Ok (watch_recording y) = sym p.2 ∙ saved.back in absurd (cc)), inl p.2))
    h

-- a record is read, and has no watch
pub other_by : (bs : List ℕ) (kept : Recording) → record_in_bytes bs ≡ Ok kept → HasNoWatch kept bs → IsUnreadWatch bs (At 48)
other_by bs kept read none = ((λ y saved. none y (one_read bs kept (watch_recording y) read saved.back) saved), inr (refl, (kept, read)))
